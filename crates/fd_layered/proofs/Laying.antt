-- The places of a key under layers, one layer after another.
use Rattle.std.proofs.Common.{◌≡◌, ◌∙◌, ◌≤◌, ◌+◌, ℕ, zero, suc, List, [], ◌∷◌, ◌++◌, length, drop, All, Option, Some, None, refl, sym, ap, subst, append_assoc, append-nil, arith}
use Rattle.std.specs.Prelude.{Result, Ok, Err, slice_get}
use Rattle.std.proofs.lemmas.List.Elements.{All-head, All-tail}
use Rattle.fd_key.specs.Pairs.{Pair}
use Rattle.fd_request.specs.Spelled.{AreValues}
use Rattle.fd_schema.specs.Rules.{Rule, Texts, place_from}
use Rattle.fd_layers.specs.Based.{based}
use Rattle.fd_words.specs.Words.{IsLayer}
use Rattle.fd_stored.specs.Causes.{Cause, NoRule}
use Rattle.fd_outcome.specs.Layered.{laid_at, laid_key, under_before, under_from}
use Rattle.fd_telling.specs.declared.stop.Stop.{Stop}
use Rattle.fd_telling.specs.declared.stop.Stop.TheVariants as stops
use Rattle.fd_telling.specs.Stops.{IsOfPlaces, IsRefused}
use Rattle.fd_layered.specs.Laying.{LacksLayer, LacksOne}

-- these places before the others
abbrev pub ahead : List Texts → Result (List Texts) ℕ → Result (List Texts) ℕ
ahead ps (Ok qs) = Ok (ps ++ qs)
ahead ps (Err n) = Err n

ahead_one : (ps : List Texts) (n : ℕ) (p : Texts) (r : Result (List Texts) ℕ) → ahead ps (under_before n (Some p) r) ≡ ahead (ps ++ p ∷ []) r
ahead_one ps n p (Ok qs) = ap (λ x. Ok x) (sym (append_assoc ps (p ∷ []) qs))
ahead_one ps n p (Err m) = refl

pub ahead_none : (r : Result (List Texts) ℕ) → r ≡ ahead [] r
ahead_none (Ok qs) = refl
ahead_none (Err n) = refl

layer_at : (layers : List (List Pair)) (i : ℕ) (layer : List Pair) → slice_get layers i ≡ Some layer → drop i layers ≡ layer ∷ drop (i + 1) layers
layer_at [] i layer at = absurd (cc at)
layer_at (l ∷ ls) zero layer at = ap (λ x. x ∷ ls) (some_is l layer at)
  where
    some_is : (x y : List Pair) → (let o : Option (List Pair) = Some x in o ≡ Some y) → x ≡ y
    some_is x y e = cc
layer_at (l ∷ ls) (suc i) layer at = let up : suc (i + 1) ≡ suc i + 1 = omega arith in layer_at ls i layer at ∙ ap (λ k. layer ∷ drop k (l ∷ ls)) up

pub layer_values : (layers : List (List Pair)) (i : ℕ) (layer : List Pair) → All IsLayer layers → slice_get layers i ≡ Some layer → AreValues layer
layer_values [] i layer all at = absurd (cc at)
layer_values (l ∷ ls) zero layer all at = subst AreValues (some_is l layer at) (All-head IsLayer l ls all).1
  where
    some_is : (x y : List Pair) → (let o : Option (List Pair) = Some x in o ≡ Some y) → x ≡ y
    some_is x y e = cc
layer_values (l ∷ ls) (suc i) layer all at = layer_values ls i layer (All-tail IsLayer l ls all) at

module _ (rules : List Rule) (key : List Pair) (layers : List (List Pair)) (ps : List Texts) (i : ℕ) (layer : List Pair) (at : slice_get layers i ≡ Some layer) (so_far : under_from 1 rules key layers ≡ ahead ps (under_from (i + 1) rules key (drop i layers))) where
  cut : under_from 1 rules key layers ≡ ahead ps (under_before (i + 1) (based rules key layer) (under_from (i + 1 + 1) rules key (drop (i + 1) layers)))
  cut = so_far ∙ ap (λ ls. ahead ps (under_from (i + 1) rules key ls)) (layer_at layers i layer at)

  pub under_more : (p : Texts) → based rules key layer ≡ Some p → under_from 1 rules key layers ≡ ahead (ps ++ p ∷ []) (under_from (i + 1 + 1) rules key (drop (i + 1) layers))
  under_more p is = cut ∙ ap (λ o. ahead ps (under_before (i + 1) o (under_from (i + 1 + 1) rules key (drop (i + 1) layers)))) is ∙ ahead_one ps (i + 1) p (under_from (i + 1 + 1) rules key (drop (i + 1) layers))

  under_none : based rules key layer ≡ None → under_from 1 rules key layers ≡ Err (i + 1)
  under_none is = cut ∙ ap (λ o. ahead ps (under_before (i + 1) o (under_from (i + 1 + 1) rules key (drop (i + 1) layers)))) is

  pub lacks_here : {F : Type 0} (stop : Stop F) (n : ℕ) → n ≡ i + 1 → LacksOne stop n key (based rules key layer) → LacksLayer stop key (under_from 1 rules key layers)
  lacks_here (stops.Disk f) n same l = absurd l
  lacks_here stops.Input n same l = absurd l
  lacks_here stops.Missing n same l = absurd l
  lacks_here (stops.Schema line kind) n same l = absurd l
  lacks_here (stops.Request place kind) n same l = absurd l
  lacks_here (stops.NoRule text) n same l = absurd l
  lacks_here (stops.NoLayer number text) n same l = (under_none l.1 ∙ ap (λ x. Err x) (sym (l.0 ∙ same)), l.2)
  lacks_here stops.TooMany n same l = absurd l
  lacks_here (stops.Broken dataset broken) n same l = absurd l
  lacks_here stops.NoMemory n same l = tt

pub under_all : (rules : List Rule) (key : List Pair) (layers : List (List Pair)) (ps : List Texts) (i : ℕ) → length layers ≤ i → under_from 1 rules key layers ≡ ahead ps (under_from (i + 1) rules key (drop i layers)) → under_from 1 rules key layers ≡ Ok ps
under_all rules key layers ps i all so_far = so_far ∙ ap (λ ls. ahead ps (under_from (i + 1) rules key ls)) (nothing layers i all) ∙ ap (λ x. Ok x) (append-nil ps)
  where
    nothing : (xs : List (List Pair)) (k : ℕ) → length xs ≤ k → drop k xs ≡ []
    nothing [] zero le = refl
    nothing [] (suc k) le = refl
    nothing (x ∷ xs) zero le = absurd (omega (arith, le))
    nothing (x ∷ xs) (suc k) le = nothing xs k (omega (arith, le))

-- ---- a key

pub key_laid : (rules : List Rule) (layers : List (List Pair)) (key : List Pair) (own : Texts) (under : List Texts) → place_from 0 rules key ≡ Some own → under_from 1 rules key layers ≡ Ok under
    → laid_key rules layers key (place_from 0 rules key) ≡ Ok (record { key = key; place = own; under = under })
key_laid rules layers key own under is there = ap (laid_key rules layers key) is ∙ ap (laid_at key own) there

pub key_lacks : {F : Type 0} (stop : Stop F) (rules : List Rule) (layers : List (List Pair)) (key : List Pair) (own : Texts) → place_from 0 rules key ≡ Some own → LacksLayer stop key (under_from 1 rules key layers)
    → IsOfPlaces stop (IsRefused (laid_key rules layers key (place_from 0 rules key)))
key_lacks (stops.Disk f) rules layers key own is l = absurd l
key_lacks stops.Input rules layers key own is l = absurd l
key_lacks stops.Missing rules layers key own is l = absurd l
key_lacks (stops.Schema line kind) rules layers key own is l = absurd l
key_lacks (stops.Request at kind) rules layers key own is l = absurd l
key_lacks (stops.NoRule text) rules layers key own is l = absurd l
key_lacks (stops.NoLayer layer text) rules layers key own is l = (key, ap (laid_key rules layers key) is ∙ ap (laid_at key own) l.0, l.1)
key_lacks stops.TooMany rules layers key own is l = absurd l
key_lacks (stops.Broken dataset broken) rules layers key own is l = absurd l
key_lacks stops.NoMemory rules layers key own is l = tt

pub key_unruled : (rules : List Rule) (layers : List (List Pair)) (key : List Pair) (cause : Cause) → place_from 0 rules key ≡ None → cause ≡ NoRule key → laid_key rules layers key (place_from 0 rules key) ≡ Err cause
key_unruled rules layers key cause is same = ap (laid_key rules layers key) is ∙ ap (λ c. Err c) (sym same)
