-- The values from a point on.
use Rattle.std.proofs.Common.{◌≡◌, ℕ, zero, suc, ◌+◌, ◌-◌, ◌<◌, [], ◌∷◌, length, Some, refl, ap, ◌∙◌, arith}
use Rattle.std.specs.Prelude.{slice_get}
use Rattle.fd_packing.specs.Packed.{Packed}
use Rattle.fd_packing.specs.Value.{value_of, values_from}

pub values_none : (f : Packed) (i n : ℕ) → n ≡ 0 → values_from f i n ≡ []
unfolding values_from
values_none f i n e = rw e refl

pub values_more : (f : Packed) (i points : ℕ) → i < points → values_from f i (points - i) ≡ value_of f i ∷ values_from f (i + 1) (points - (i + 1))
unfolding values_from
values_more f i points lt = ap (values_from f i) (let e : points - i ≡ suc (points - (i + 1)) = omega arith in e)

pub length-values_from : (f : Packed) (i n : ℕ) → length (values_from f i n) ≡ n
unfolding values_from
length-values_from f i zero = refl
length-values_from f i (suc n) = ap suc (length-values_from f (i + 1) n)

pub get-values_from : (f : Packed) (i n k : ℕ) → k < n → slice_get (values_from f i n) k ≡ Some (value_of f (i + k))
unfolding values_from
get-values_from f i zero k lt = absurd (omega arith)
get-values_from f i (suc n) zero lt = ap (λ j. Some (value_of f j)) (let e : i ≡ i + 0 = omega arith in e)
get-values_from f i (suc n) (suc k) lt = get-values_from f (i + 1) n k (omega arith) ∙ ap (λ j. Some (value_of f j)) (let e : i + 1 + k ≡ i + suc k = omega arith in e)
