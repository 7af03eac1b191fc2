-- What holds of cubes while they are joined.
use Rattle.std.proofs.Common.{◌≡◌, ◌<◌, ◌≤◌, ◌+◌, ◌∙◌, ℕ, zero, suc, List, [], ◌∷◌, ◌++◌, length, get_or, set, refl, sym, ap, subst, append_assoc, length-append, arith}
use Rattle.std.specs.List.{All}
use Rattle.std.specs.List.Sorted.{IsPermutation}
use Rattle.std.proofs.lemmas.List.{append-nil, length-map, length-set, get_or-map}
use Rattle.std.proofs.lemmas.List.Sorted.{IsPermutation-refl, IsPermutation-sym, IsPermutation-trans, IsPermutation-map, IsPermutation-append_left, IsPermutation-append_right, IsPermutation-append_comm, All-permutation, length_permutation}
use Rattle.std.proofs.lemmas.List.Elements.{recursion_from_All, All-from_recursion, All-map, All-weaker, All-cons, All-nil, All-append, All-set}
use Rattle.fd_key.specs.Pairs.{Pair, key_text}
use Rattle.fd_request.specs.Expansion.{Keyword, each_before, expand}
use Rattle.fd_request.specs.Keywords.{differ_after}
use Rattle.fd_cubes.specs.declared.axis.Axis as code_axis
use Rattle.fd_cubes.specs.declared.grid.Grid as code_grid
use Rattle.fd_spelling.specs.Texts.{texts}
use Rattle.fd_cubes.specs.Cubes.{IsPlain, IsAskable, alone, cube_text, keys_of}
use Rattle.fd_cubes.specs.Axes.{AreSorted, IsFilled, with_values, values_at, SameBut, width, seen_axis, seen_axes}
use Rattle.fd_cubes.specs.Grids.{seen_grid, seen_grids, IsGrid, Joins, Takes, Regroups}
use Rattle.fd_cubes.proofs.Permuted.{same_order, gathered-append, gathered-permutation, gathered-set}
use Rattle.fd_cubes.proofs.Joined.{expand_joined}
use Rattle.fd_cubes.proofs.Ordered.{Reordered, reordered_with, filled_all, text_same, expand_all}
use Rattle.fd_cubes.proofs.Seen.{at_place, set_place}
use Rattle.fd_cubes.proofs.Sizes.{Filled, names_stay, filled_joined, some_at, size_joined, size_alone}
use Rattle.fd_cubes.proofs.Sorted.{sorted_with, sorted_at}

pub length_with : (p : ℕ) (vs : List (List ℕ)) (ks : List Keyword) → length (with_values p vs ks) ≡ length ks
length_with p vs [] = refl
length_with zero vs (k ∷ ks) = refl
length_with (suc p) vs (k ∷ ks) = ap suc (length_with p vs ks)

pub as_long : (p : ℕ) (ks ls : List Keyword) → SameBut p ks ls → length ks ≡ length ls
as_long p ks ls e = sym (length_with p [] ks) ∙ ap (λ (l : List Keyword). length l) e ∙ length_with p [] ls

-- the place is one of the other's too
pub other_within : (p : ℕ) (g h : code_grid.Grid) → Takes p g h → p < length h.axes.items
other_within p g h t = omega (arith, as_long p (seen_grid g) (seen_grid h) t.same, t.within, length-map h.axes.items seen_axis)

pub own_within : (p : ℕ) (g h : code_grid.Grid) → Takes p g h → p < length g.axes.items
own_within p g h t = omega (arith, t.within, length-map g.axes.items seen_axis)

pub joined_grid : (p : ℕ) (g h n : code_grid.Grid) → IsGrid g → IsGrid h → Takes p g h → Joins p g h n → IsGrid n
joined_grid p g h n hg hh t j =
    let ks = seen_grid g in
    let ls = seen_grid h in
    let us = values_at p ks in
    let vs = values_at p ls in
    let ws = values_at p (seen_grid n) in
    let filled = recursion_from_All IsFilled ks hg.filled in
    let sorted = recursion_from_All (λ (k : Keyword). AreSorted k.values) ks hg.sorted in
    let others = recursion_from_All (λ (k : Keyword). AreSorted k.values) ls hh.sorted in
    let long : length (cube_text (with_values p (us ++ vs) ks)) ≡ length (cube_text ks) + width vs = size_joined p vs ks t.within (some_at p ks t.within filled) in
    let r : Reordered (with_values p (us ++ vs) ks) (with_values p ws ks) = reordered_with p (us ++ vs) ws ks j.values in
    let both : Filled (with_values p (us ++ vs) ks) = filled_joined p ks ls t.same filled (recursion_from_All IsFilled ls hh.filled) in
    let all : Filled (with_values p ws ks) = filled_all _ _ r both in
    let up : AreSorted ws = j.sorted (sorted_at p ks t.within sorted) (sorted_at p ls (omega (arith, as_long p ks ls t.same, t.within)) others) in
    let seen : length (cube_text (seen_grid n)) ≡ length (cube_text (with_values p ws ks)) = ap (λ (l : List Keyword). length (cube_text l)) j.rest in
    record {
      once = ap (differ_after []) j.rest ∙ names_stay [] p ws ks ∙ hg.once;
      filled = subst (λ (l : List Keyword). All IsFilled l) (sym j.rest) (All-from_recursion IsFilled (with_values p ws ks) all);
      sorted = subst (λ (l : List Keyword). All (λ k. AreSorted k.values) l) (sym j.rest) (All-from_recursion (λ (k : Keyword). AreSorted k.values) (with_values p ws ks) (sorted_with p ws ks up sorted));
      sized = omega (arith, j.size, hg.sized, long, text_same _ _ r both all, seen);
      short = omega (arith, j.size, t.room);
    }

pub joined_keys : (p : ℕ) (g h n : code_grid.Grid) → Takes p g h → Joins p g h n → IsPermutation (expand (seen_grid n)) (expand (seen_grid g) ++ expand (seen_grid h))
joined_keys p g h n t j =
    let ks = seen_grid g in
    let us = values_at p ks ++ values_at p (seen_grid h) in
    let ws = values_at p (seen_grid n) in
    IsPermutation-trans _ _ _ (same_order _ _ (ap expand j.rest))
    (IsPermutation-trans _ _ _ (IsPermutation-sym _ _ (expand_all (with_values p us ks) (with_values p ws ks) (reordered_with p us ws ks j.values))) (expand_joined p ks (seen_grid h) t.same t.within))

at_with : (p : ℕ) (vs : List (List ℕ)) (ks : List Keyword) → p < length ks → values_at p (with_values p vs ks) ≡ vs
at_with p vs [] lt = absurd (omega arith)
at_with zero vs (k ∷ ks) lt = refl
at_with (suc p) vs (k ∷ ks) lt = at_with p vs ks (omega arith)

-- b and d are the names at the place, and a stands in the place of b
pub joins_is : (p : ℕ) (g h n : code_grid.Grid) (a b d : code_axis.Axis) → p < length g.axes.items → p < length h.axes.items → b ≡ get_or g.axes.items p b → d ≡ get_or h.axes.items p d → a.name ≡ b.name
    → IsPermutation (texts b.values.items ++ texts d.values.items) (texts a.values.items) → (AreSorted (texts b.values.items) → AreSorted (texts d.values.items) → AreSorted (texts a.values.items))
    → n.axes.items ≡ set g.axes.items p a → n.size ≡ g.size + width (values_at p (seen_grid h)) → Joins p g h n
joins_is p g h n a b d lt less ib id name values sorted axes size =
    let own : texts b.values.items ≡ values_at p (seen_grid g) = at_place p g.axes.items b lt ib in
    let other : texts d.values.items ≡ values_at p (seen_grid h) = at_place p h.axes.items d less id in
    let whole : seen_grid n ≡ with_values p (texts a.values.items) (seen_grid g) = ap seen_axes axes ∙ set_place p g.axes.items a b (texts a.values.items) lt ib name refl in
    let here : texts a.values.items ≡ values_at p (seen_grid n) = sym (ap (values_at p) whole ∙ at_with p (texts a.values.items) (seen_grid g) (omega (arith, lt, length-map g.axes.items seen_axis))) in
    record {
      values = subst (λ (w : List (List ℕ)). IsPermutation (values_at p (seen_grid g) ++ values_at p (seen_grid h)) w) here (subst (λ (v : List (List ℕ)). IsPermutation (v ++ values_at p (seen_grid h)) (texts a.values.items)) own (subst (λ (v : List (List ℕ)). IsPermutation (texts b.values.items ++ v) (texts a.values.items)) other values));
      rest = whole ∙ ap (λ (w : List (List ℕ)). with_values p w (seen_grid g)) here;
      sorted = λ s t. subst AreSorted here (sorted (subst AreSorted (sym own) s) (subst AreSorted (sym other) t));
      size = size;
    }

-- ---- a key alone

one_before : (name v : List ℕ) (key : List Pair) → each_before name (v ∷ []) (key ∷ []) ≡ ((name, v) ∷ key) ∷ []
unfolding each_before
one_before name v key = refl

pub expand_alone : (key : List Pair) → expand (alone key) ≡ key ∷ []
unfolding expand
expand_alone [] = refl
expand_alone (p ∷ ps) = ap (each_before p.0 (p.1 ∷ [])) (expand_alone ps) ∙ one_before p.0 p.1 ps

filled_alone : (key : List Pair) → All (λ p. IsPlain p.0 p.1) key → All IsFilled (alone key)
filled_alone key plain =
    All-map IsFilled (λ (p : Pair). record { name = p.0; values = p.1 ∷ [] }) key
    (All-weaker (λ (p : Pair). IsPlain p.0 p.1) (λ (p : Pair). IsFilled (record { name = p.0; values = p.1 ∷ [] })) (λ p is. record { some = omega arith; plain = All-cons (IsPlain p.0) p.1 [] is (All-nil (IsPlain p.0)) }) key plain)

sorted_one : (v : List ℕ) → AreSorted (v ∷ [])
sorted_one v k d from within = absurd (omega (arith, within))

sorted_alone : (key : List Pair) → All (λ k. AreSorted k.values) (alone key)
sorted_alone key = All-map (λ (k : Keyword). AreSorted k.values) (λ (p : Pair). record { name = p.0; values = p.1 ∷ [] }) key (λ k d lt. sorted_one (get_or key k d).1)

small_alone : (key : List Pair) → length (key_text key) ≤ 255 → length (cube_text (alone key)) ≤ 65536
small_alone [] short = omega arith
small_alone (p ∷ ps) short = omega (arith, size_alone p ps, short)

pub made : (key : List Pair) (g : code_grid.Grid) → IsAskable key → seen_grid g ≡ alone key → g.size ≡ length (cube_text (alone key)) → IsGrid g
made key g is e size = record {
  once = ap (differ_after []) e ∙ is.once;
  filled = subst (λ (ks : List Keyword). All IsFilled ks) (sym e) (filled_alone key is.plain);
  sorted = subst (λ (ks : List Keyword). All (λ k. AreSorted k.values) ks) (sym e) (sorted_alone key);
  sized = size ∙ ap (λ (ks : List Keyword). length (cube_text ks)) (sym e);
  short = omega (arith, size, small_alone key is.short);
}

pub sized_alone : (key : List Pair) → 0 < length key → length (cube_text (alone key)) ≡ length (key_text key) + 9
sized_alone [] some = absurd (omega arith)
sized_alone (p ∷ ps) some = size_alone p ps

-- ---- many

pub keys_joined : (gs hs : List code_grid.Grid) → keys_of (seen_grids (gs ++ hs)) ≡ keys_of (seen_grids gs) ++ keys_of (seen_grids hs)
keys_joined gs hs = ap keys_of (go gs) ∙ gathered-append expand (seen_grids gs) (seen_grids hs)
  where
    go : (l : List code_grid.Grid) → seen_grids (l ++ hs) ≡ seen_grids l ++ seen_grids hs
    go [] = refl
    go (x ∷ l) = ap (λ (m : List (List Keyword)). seen_grid x ∷ m) (go l)

pub keys_one : (g : code_grid.Grid) → keys_of (seen_grids (g ∷ [])) ≡ expand (seen_grid g)
keys_one g = append-nil (expand (seen_grid g))

-- the last of the cubes that are left
pub left_keys : (left rest : List code_grid.Grid) (g : code_grid.Grid) → left ≡ rest ++ g ∷ [] → keys_of (seen_grids left) ≡ keys_of (seen_grids rest) ++ expand (seen_grid g)
left_keys left rest g e =
    ap (λ (m : List code_grid.Grid). keys_of (seen_grids m)) e ∙ keys_joined rest (g ∷ []) ∙ ap (λ (m : List (List Pair)). keys_of (seen_grids rest) ++ m) (keys_one g)

pub regrouped_itself : (gs : List code_grid.Grid) → All IsGrid gs → Regroups gs gs
regrouped_itself gs each = record { keys = IsPermutation-refl (keys_of (seen_grids gs)); each = each; fewer = omega arith }

pub regrouped_again : (gs hs ls : List code_grid.Grid) → Regroups gs hs → Regroups hs ls → Regroups gs ls
regrouped_again gs hs ls a b = record { keys = IsPermutation-trans _ _ _ a.keys b.keys; each = b.each; fewer = omega (arith, a.fewer, b.fewer) }

pub reordered : (gs hs : List code_grid.Grid) → IsPermutation gs hs → All IsGrid gs → Regroups gs hs
reordered gs hs h each = record {
  keys = gathered-permutation expand (seen_grids gs) (seen_grids hs) (IsPermutation-map seen_grid gs hs h);
  each = All-permutation IsGrid gs hs h each;
  fewer = omega (arith, length_permutation gs hs h);
}

-- one more behind
pub pushed : (gs : List code_grid.Grid) (g : code_grid.Grid) → All IsGrid gs → IsGrid g → Regroups (gs ++ g ∷ []) (gs ++ g ∷ [])
pushed gs g each is = regrouped_itself (gs ++ g ∷ []) (All-append IsGrid gs (g ∷ []) each (All-cons IsGrid g [] is (All-nil IsGrid)))

-- one that takes another
pub taken : (gs : List code_grid.Grid) (i : ℕ) (b g n : code_grid.Grid) → i < length gs → b ≡ get_or gs i b → All IsGrid gs → IsGrid n → IsPermutation (expand (seen_grid n)) (expand (seen_grid b) ++ expand (seen_grid g)) → Regroups (gs ++ g ∷ []) (set gs i n)
taken gs i b g n lt is each good keys =
    let at : get_or (seen_grids gs) i (seen_grid b) ≡ seen_grid b = get_or-map seen_grid gs i b (seen_grid b) lt ∙ ap seen_grid (sym is) in
    let here : IsPermutation (expand (seen_grid n)) (expand (get_or (seen_grids gs) i (seen_grid b)) ++ expand (seen_grid g)) =
    subst (λ (ks : List Keyword). IsPermutation (expand (seen_grid n)) (expand ks ++ expand (seen_grid g))) (sym at) keys in
    let more = gathered-set expand (seen_grids gs) i (seen_grid n) (seen_grid b) (expand (seen_grid g)) (omega (arith, length-map gs seen_grid, lt)) here in
    record {
      keys =
          IsPermutation-trans _ _ _ (same_order _ _ (keys_joined gs (g ∷ []) ∙ ap (λ (l : List (List Pair)). keys_of (seen_grids gs) ++ l) (keys_one g)))
          (IsPermutation-trans _ _ _ (IsPermutation-sym _ _ more) (same_order _ _ (ap keys_of (sym (go gs i lt)))));
      each = All-set IsGrid gs i n good each;
      fewer = omega (arith, length-set gs i n, length-append gs (g ∷ []));
    }
  where
    go : (l : List code_grid.Grid) (k : ℕ) → k < length l → seen_grids (set l k n) ≡ set (seen_grids l) k (seen_grid n)
    go [] k h = absurd (omega arith)
    go (x ∷ l) zero h = refl
    go (x ∷ l) (suc k) h = ap (λ (m : List (List Keyword)). seen_grid x ∷ m) (go l k (omega arith))

-- the last of those that are left goes to those that are done
pub popped : (gs done new left rest : List code_grid.Grid) (g : code_grid.Grid) → left ≡ rest ++ g ∷ [] → IsPermutation (keys_of (seen_grids gs)) (keys_of (seen_grids done) ++ keys_of (seen_grids left)) → Regroups (done ++ g ∷ []) new
    → IsPermutation (keys_of (seen_grids gs)) (keys_of (seen_grids new) ++ keys_of (seen_grids rest))
popped gs done new left rest g e h r =
    let d = keys_of (seen_grids done) in
    let l = keys_of (seen_grids rest) in
    let x = expand (seen_grid g) in
    let parts : keys_of (seen_grids left) ≡ l ++ x = ap (λ (m : List code_grid.Grid). keys_of (seen_grids m)) e ∙ keys_joined rest (g ∷ []) ∙ ap (λ (m : List (List Pair)). l ++ m) (keys_one g) in
    let moved : IsPermutation (d ++ (l ++ x)) ((d ++ x) ++ l) =
    IsPermutation-trans _ _ _ (IsPermutation-append_right d (l ++ x) (x ++ l) (IsPermutation-append_comm l x)) (same_order _ _ (sym (append_assoc d x l))) in
    let pushed : d ++ x ≡ keys_of (seen_grids (done ++ g ∷ [])) = sym (keys_joined done (g ∷ []) ∙ ap (λ (m : List (List Pair)). d ++ m) (keys_one g)) in
    IsPermutation-trans _ _ _ h
    (IsPermutation-trans _ _ _ (same_order _ _ (ap (λ (m : List (List Pair)). d ++ m) parts))
    (IsPermutation-trans _ _ _ moved (IsPermutation-trans _ _ _ (same_order _ _ (ap (λ (m : List (List Pair)). m ++ l) pushed)) (IsPermutation-append_left l _ _ r.keys))))
