-- The pairs of a message, one put after another.
use Rattle.std.proofs.Common.{◌≡◌, ◌≤◌, ℕ, true, List, [], ◌∷◌, ◌++◌, length, Option, Some, None, refl, arith}
use Rattle.std.specs.Prelude.{codes}
use Rattle.fd_key.specs.Pairs.{Pair, with_pair, with_pair_if}
use Rattle.fd_key.specs.Given.{are_reserved}
use Rattle.fd_key.specs.Keys.{pair_if}

abbrev pub origin : List ℕ → List ℕ → List ℕ → List ℕ → List Pair
origin centre date time processed = (codes "centre", centre) ∷ (codes "date", date) ∷ (codes "time", time) ∷ (codes "type", processed) ∷ []

abbrev pub based : List ℕ → List ℕ → List ℕ → List ℕ → List ℕ → List ℕ → Option (List ℕ) → List ℕ → List Pair
based a b c d p t o s = origin a b c d ++ (codes "param", p) ∷ (codes "levtype", t) ∷ (pair_if (codes "levelist") o ++ (codes "step", s) ∷ [])

pub put_in_order : (a b c d p t : List ℕ) (o : Option (List ℕ)) (s : List ℕ)
    → with_pair (with_pair_if (with_pair (with_pair (origin a b c d) (codes "param") p) (codes "levtype") t) (codes "levelist") o) (codes "step") s
    ≡ based a b c d p t o s
put_in_order a b c d p t None s = refl
put_in_order a b c d p t (Some v) s = refl

pub added_in_order : (a b c d p t : List ℕ) (o : Option (List ℕ)) (s : List ℕ) (n i : Option (List ℕ))
    → with_pair_if (with_pair_if (based a b c d p t o s) (codes "number") n) (codes "stat") i ≡ based a b c d p t o s ++ (pair_if (codes "number") n ++ pair_if (codes "stat") i)
added_in_order a b c d p t None s None None = refl
added_in_order a b c d p t None s None (Some x) = refl
added_in_order a b c d p t None s (Some m) None = refl
added_in_order a b c d p t None s (Some m) (Some x) = refl
added_in_order a b c d p t (Some v) s None None = refl
added_in_order a b c d p t (Some v) s None (Some x) = refl
added_in_order a b c d p t (Some v) s (Some m) None = refl
added_in_order a b c d p t (Some v) s (Some m) (Some x) = refl

pub own_are_reserved : (a b c d p t : List ℕ) (o : Option (List ℕ)) (s : List ℕ) (n i : Option (List ℕ))
    → are_reserved (based a b c d p t o s ++ (pair_if (codes "number") n ++ pair_if (codes "stat") i)) ≡ true
own_are_reserved a b c d p t None s None None = refl
own_are_reserved a b c d p t None s None (Some x) = refl
own_are_reserved a b c d p t None s (Some m) None = refl
own_are_reserved a b c d p t None s (Some m) (Some x) = refl
own_are_reserved a b c d p t (Some v) s None None = refl
own_are_reserved a b c d p t (Some v) s None (Some x) = refl
own_are_reserved a b c d p t (Some v) s (Some m) None = refl
own_are_reserved a b c d p t (Some v) s (Some m) (Some x) = refl

pub few_based : (a b c d p t : List ℕ) (o : Option (List ℕ)) (s : List ℕ) → length (based a b c d p t o s) ≤ 8
few_based a b c d p t None s = omega arith
few_based a b c d p t (Some v) s = omega arith
