-- A place in the list of what readers have seen.
use Rattle.std.proofs.Common.{◌≡◌, ◌≢◌, ◌==◌, if◌then◌else◌, ℕ, zero, suc, Bool, true, false, List, [], ◌∷◌, ◌++◌, take, drop, sym, ◌∙◌, ap, arith, Some, slice_get, slice_set}
use Rattle.std.proofs.lemmas.Bool.Decides.{nat_tests}
use Rattle.fd_machine.specs.declared.machine.Seen.{Seen}
use Rattle.fd_machine.specs.Machine.{put_seen}

put_here : (y : Seen) (ys : List Seen) (r n : ℕ) → y.reader ≡ r → put_seen (y ∷ ys) r n ≡ record { reader = r; length = n } ∷ ys
put_here y ys r n is = let t : (y.reader == r) ≡ true = grind (arith, nat_tests, is) in ap (λ (b : Bool). if b then record { reader = r; length = n } ∷ ys else y ∷ put_seen ys r n) t

put_later : (y : Seen) (ys : List Seen) (r n : ℕ) → y.reader ≢ r → put_seen (y ∷ ys) r n ≡ y ∷ put_seen ys r n
put_later y ys r n differs = let t : (y.reader == r) ≡ false = grind (arith, nat_tests, differs) in ap (λ (b : Bool). if b then record { reader = r; length = n } ∷ ys else y ∷ put_seen ys r n) t

pub seen_found : (xs : List Seen) (i : ℕ) (x : Seen) (r n : ℕ) → slice_get xs i ≡ Some x → x.reader ≡ r → take i xs ++ put_seen (drop i xs) r n ≡ slice_set xs i (record { reader = r; length = n })
seen_found [] i x r n at is = absurd (cc at)
seen_found (y ∷ ys) zero x r n at is = let same : y ≡ x = cc at in put_here y ys r n (ap (λ s. s.reader) same ∙ is)
seen_found (y ∷ ys) (suc i) x r n at is = ap (λ (l : List Seen). y ∷ l) (seen_found ys i x r n at is)

pub seen_passed : (xs : List Seen) (i : ℕ) (x : Seen) (r n : ℕ) → slice_get xs i ≡ Some x → x.reader ≢ r → take (suc i) xs ++ put_seen (drop (suc i) xs) r n ≡ take i xs ++ put_seen (drop i xs) r n
seen_passed [] i x r n at differs = absurd (cc at)
seen_passed (y ∷ ys) zero x r n at differs = let same : y ≡ x = cc at in sym (put_later y ys r n (λ e. differs (sym (ap (λ s. s.reader) same) ∙ e)))
seen_passed (y ∷ ys) (suc i) x r n at differs = ap (λ (l : List Seen). y ∷ l) (seen_passed ys i x r n at differs)
