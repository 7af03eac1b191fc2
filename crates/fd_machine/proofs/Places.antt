-- A writer's place in the list.
use Rattle.std.proofs.Common.{◌≡◌, ◌≢◌, ◌==◌, if◌then◌else◌, ℕ, zero, suc, Bool, true, false, List, [], ◌∷◌, ◌++◌, take, drop, sym, ◌∙◌, ap, arith, Some, slice_get, slice_set}
use Rattle.std.proofs.lemmas.Bool.Decides.{nat_tests}
use Rattle.fd_machine.specs.declared.machine.Writer.{Writer}
use Rattle.fd_machine.specs.Machine.{writer_in, put_writer}

here : (y : Writer) (ys : List Writer) (w : ℕ) (o : Writer) → y.id ≡ w → writer_in (y ∷ ys) w o ≡ y
here y ys w o is = let t : (y.id == w) ≡ true = grind (arith, nat_tests, is) in ap (λ (b : Bool). if b then y else writer_in ys w o) t

later : (y : Writer) (ys : List Writer) (w : ℕ) (o : Writer) → y.id ≢ w → writer_in (y ∷ ys) w o ≡ writer_in ys w o
later y ys w o differs = let t : (y.id == w) ≡ false = grind (arith, nat_tests, differs) in ap (λ (b : Bool). if b then y else writer_in ys w o) t

put_here : (y : Writer) (ys : List Writer) (x : Writer) → y.id ≡ x.id → put_writer (y ∷ ys) x ≡ x ∷ ys
put_here y ys x is = let t : (y.id == x.id) ≡ true = grind (arith, nat_tests, is) in ap (λ (b : Bool). if b then x ∷ ys else y ∷ put_writer ys x) t

put_later : (y : Writer) (ys : List Writer) (x : Writer) → y.id ≢ x.id → put_writer (y ∷ ys) x ≡ y ∷ put_writer ys x
put_later y ys x differs = let t : (y.id == x.id) ≡ false = grind (arith, nat_tests, differs) in ap (λ (b : Bool). if b then x ∷ ys else y ∷ put_writer ys x) t

pub writer_found : (xs : List Writer) (i : ℕ) (x o : Writer) (w : ℕ) → slice_get xs i ≡ Some x → x.id ≡ w → writer_in (drop i xs) w o ≡ x
writer_found [] i x o w at is = absurd (cc at)
writer_found (y ∷ ys) zero x o w at is = let same : y ≡ x = cc at in here y ys w o (ap (λ (s : Writer). s.id) same ∙ is) ∙ same
writer_found (y ∷ ys) (suc i) x o w at is = writer_found ys i x o w at is

pub writer_passed : (xs : List Writer) (i : ℕ) (x o : Writer) (w : ℕ) → slice_get xs i ≡ Some x → x.id ≢ w → writer_in (drop (suc i) xs) w o ≡ writer_in (drop i xs) w o
writer_passed [] i x o w at differs = absurd (cc at)
writer_passed (y ∷ ys) zero x o w at differs = let same : y ≡ x = cc at in sym (later y ys w o (λ e. differs (sym (ap (λ (s : Writer). s.id) same) ∙ e)))
writer_passed (y ∷ ys) (suc i) x o w at differs = writer_passed ys i x o w at differs

pub put_found : (xs : List Writer) (i : ℕ) (x y : Writer) → slice_get xs i ≡ Some x → x.id ≡ y.id → take i xs ++ put_writer (drop i xs) y ≡ slice_set xs i y
put_found [] i x y at is = absurd (cc at)
put_found (z ∷ zs) zero x y at is = let same : z ≡ x = cc at in put_here z zs y (ap (λ (s : Writer). s.id) same ∙ is)
put_found (z ∷ zs) (suc i) x y at is = ap (λ (l : List Writer). z ∷ l) (put_found zs i x y at is)

pub put_passed : (xs : List Writer) (i : ℕ) (x y : Writer) → slice_get xs i ≡ Some x → x.id ≢ y.id → take (suc i) xs ++ put_writer (drop (suc i) xs) y ≡ take i xs ++ put_writer (drop i xs) y
put_passed [] i x y at differs = absurd (cc at)
put_passed (z ∷ zs) zero x y at differs = let same : z ≡ x = cc at in sym (put_later z zs y (λ e. differs (sym (ap (λ (s : Writer). s.id) same) ∙ e)))
put_passed (z ∷ zs) (suc i) x y at differs = ap (λ (l : List Writer). z ∷ l) (put_passed zs i x y at differs)
