-- The keys are distinct ones that a request can name.
use Rattle.std.proofs.Common.{◌≡◌, ◌≢◌, ◌≤◌, ◌+◌, ◌*◌, ℕ, List, [], ◌∷◌, length, refl, sym, ap, subst, arith}
use Rattle.std.specs.Prelude.{codes}
use Rattle.std.specs.List.{All, AllPairs}
use Rattle.std.proofs.lemmas.List.Elements.{All-nil, All-cons, All-push}
use Rattle.std.proofs.lemmas.List.Kept.{AllPairs-cons}
use Rattle.std.proofs.lemmas.List.Quantifiers.{all_pairs_push}
use Rattle.fd_spelling.specs.Canonical.{canonical, spelling}
use Rattle.fd_key.specs.Pairs.{Pair, key_text}
use Rattle.fd_cubes.specs.Cubes.{IsAskable, IsPlain}
use Rattle.fd_cube_tests.specs.Keys.{four, key, three}

-- what may be made cubes of
pub record AreGiven (keys : List (List Pair)) : Type 0 where
  pub askable : All IsAskable keys
  pub distinct : AllPairs (λ a b. a ≢ b) keys
  pub few : length keys ≤ 262144

one : IsPlain (codes "a") (codes "1")
unfolding canonical spelling
one = record { named = refl; valued = refl; again = refl; word = refl }

two : IsPlain (codes "a") (codes "2")
unfolding canonical spelling
two = record { named = refl; valued = refl; again = refl; word = refl }

ex : IsPlain (codes "b") (codes "x")
unfolding canonical spelling
ex = record { named = refl; valued = refl; again = refl; word = refl }

why : IsPlain (codes "b") (codes "y")
unfolding canonical spelling
why = record { named = refl; valued = refl; again = refl; word = refl }

abbrev Plain : Pair → Type 0
Plain p = IsPlain p.0 p.1

askable : (first second : List ℕ) → IsPlain (codes "a") first → IsPlain (codes "b") second → length (key_text (key first second)) ≤ 255 → IsAskable (key first second)
askable first second f s short = record {
  once = refl;
  plain = All-cons Plain (codes "a", first) ((codes "b", second) ∷ []) f (All-cons Plain (codes "b", second) [] s (All-nil Plain));
  short = short;
}

abbrev first_of : List ℕ → ℕ
first_of [] = 0
first_of (b ∷ bs) = b

-- a number that tells the keys apart
abbrev weight : List Pair → ℕ
weight [] = 0
weight (p ∷ ps) = first_of p.1 + 1000 * weight ps

apart : (a b : List Pair) → weight a ≢ weight b → a ≢ b
apart a b other e = other (ap weight e)

abbrev Differ : List Pair → List Pair → Type 0
Differ a b = a ≢ b

abbrev k2x : List Pair
k2x = key (codes "2") (codes "x")

abbrev k1y : List Pair
k1y = key (codes "1") (codes "y")

abbrev k1x : List Pair
k1x = key (codes "1") (codes "x")

abbrev k2y : List Pair
k2y = key (codes "2") (codes "y")

three_askable : All IsAskable three
three_askable =
    All-cons IsAskable k2x (k1y ∷ k1x ∷ []) (askable (codes "2") (codes "x") two ex (omega arith))
    (All-cons IsAskable k1y (k1x ∷ []) (askable (codes "1") (codes "y") one why (omega arith)) (All-cons IsAskable k1x [] (askable (codes "1") (codes "x") one ex (omega arith)) (All-nil IsAskable)))

four_askable : All IsAskable four
four_askable = All-push IsAskable three k2y three_askable (askable (codes "2") (codes "y") two why (omega arith))

nothing_differs : AllPairs Differ []
nothing_differs i j d lt within = absurd (omega (arith, within))

three_distinct : AllPairs Differ three
three_distinct =
    AllPairs-cons Differ k2x (k1y ∷ k1x ∷ []) (All-cons (Differ k2x) k1y (k1x ∷ []) (apart k2x k1y (λ e. omega (arith, e))) (All-cons (Differ k2x) k1x [] (apart k2x k1x (λ e. omega (arith, e))) (All-nil (Differ k2x))))
    (AllPairs-cons Differ k1y (k1x ∷ []) (All-cons (Differ k1y) k1x [] (apart k1y k1x (λ e. omega (arith, e))) (All-nil (Differ k1y))) (AllPairs-cons Differ k1x [] (All-nil (Differ k1x)) nothing_differs))

-- each of the three differs from the last key
before_last : All (λ a. a ≢ k2y) three
before_last =
    All-cons (λ (a : List Pair). a ≢ k2y) k2x (k1y ∷ k1x ∷ []) (apart k2x k2y (λ e. omega (arith, e)))
    (All-cons (λ (a : List Pair). a ≢ k2y) k1y (k1x ∷ []) (apart k1y k2y (λ e. omega (arith, e))) (All-cons (λ (a : List Pair). a ≢ k2y) k1x [] (apart k1x k2y (λ e. omega (arith, e))) (All-nil (λ (a : List Pair). a ≢ k2y))))

four_distinct : AllPairs Differ four
four_distinct = all_pairs_push Differ three k2y three_distinct before_last

pub three_given : (keys : List (List Pair)) → keys ≡ three → AreGiven keys
three_given keys e = subst AreGiven (sym e) (record { askable = three_askable; distinct = three_distinct; few = omega arith })

pub four_given : (keys : List (List Pair)) → keys ≡ four → AreGiven keys
four_given keys e = subst AreGiven (sym e) (record { askable = four_askable; distinct = four_distinct; few = omega arith })
