-- Keys as cubes, and cubes joined again and again.
use Rattle.std.proofs.Common.{◌≡◌, ◌≢◌, ◌<◌, ◌≤◌, ◌+◌, ◌∙◌, ℕ, List, [], ◌∷◌, ◌++◌, length, get_or, take, sym, ap, subst}
use Rattle.std.specs.List.{All, AllPairs}
use Rattle.std.specs.List.Sorted.{IsPermutation}
use Rattle.std.proofs.lemmas.List.{take_more}
use Rattle.std.proofs.lemmas.List.Elements.{All-weaker, All-push}
use Rattle.std.proofs.lemmas.List.Sorted.{IsPermutation-trans}
use Rattle.fd_key.specs.Pairs.{Pair, key_text}
use Rattle.fd_request.specs.Expansion.{Keyword, expand}
use Rattle.fd_cubes.specs.declared.grid.Grid as code_grid
use Rattle.fd_cubes.specs.Cubes.{AreKeys, IsAskable, keys_of}
use Rattle.fd_cubes.specs.Grids.{seen_grid, seen_grids, IsGrid, Regroups}
use Rattle.fd_cubes.proofs.Permuted.{same_order, gathered-permutation}
use Rattle.fd_cubes.proofs.Distinct.{from_pairs}
use Rattle.fd_cubes.proofs.Grids.{keys_joined, keys_one}
use Rattle.fd_cubes.proofs.Finished.{keys_moved}

pub grids_more : (gs new : List code_grid.Grid) (g : code_grid.Grid) (keys : List (List Pair)) (i : ℕ) (key d : List Pair) → new ≡ gs ++ g ∷ [] → keys_of (seen_grids gs) ≡ take i keys → expand (seen_grid g) ≡ key ∷ [] → i < length keys → key ≡ get_or keys i d
    → keys_of (seen_grids new) ≡ take (i + 1) keys
grids_more gs new g keys i key d e so_far one lt is =
    ap (λ (l : List code_grid.Grid). keys_of (seen_grids l)) e ∙ keys_joined gs (g ∷ []) ∙ ap (λ (l : List (List Pair)). l ++ keys_of (seen_grids (g ∷ []))) so_far
    ∙ ap (λ (l : List (List Pair)). take i keys ++ l) (keys_one g ∙ one ∙ ap (λ (k : List Pair). k ∷ []) is) ∙ sym (take_more keys i d lt)

pub each_more : (gs new : List code_grid.Grid) (g : code_grid.Grid) → new ≡ gs ++ g ∷ [] → All IsGrid gs → IsGrid g → All IsGrid new
each_more gs new g e each is = subst (λ (l : List code_grid.Grid). All IsGrid l) (sym e) (All-push IsGrid gs g each is)

pub are_keys : (keys : List (List Pair)) → All IsAskable keys → AllPairs (λ a b. a ≢ b) keys → length keys ≤ 262144 → AreKeys keys
are_keys keys askable distinct few = record {
  few = few;
  short = All-weaker IsAskable (λ key. length (key_text key) ≤ 255) (λ key a. a.short) keys askable;
  apart = from_pairs keys distinct;
}

pub joined_are_keys : (keys : List (List Pair)) (gs hs : List code_grid.Grid) → AreKeys keys → keys_of (seen_grids gs) ≡ keys → Regroups gs hs → AreKeys (keys_of (seen_grids hs))
joined_are_keys keys gs hs are e r = keys_moved keys (keys_of (seen_grids hs)) (IsPermutation-trans _ _ _ (same_order _ _ (sym e)) r.keys) are

pub all_keys : (keys : List (List Pair)) (gs hs : List code_grid.Grid) (cs : List (List Keyword)) → keys_of (seen_grids gs) ≡ keys → Regroups gs hs → IsPermutation (seen_grids hs) cs → IsPermutation keys (keys_of cs)
all_keys keys gs hs cs e r p = IsPermutation-trans _ _ _ (same_order _ _ (sym e)) (IsPermutation-trans _ _ _ r.keys (gathered-permutation expand (seen_grids hs) cs p))
