-- Whether two listings in doubt are the same is decided.
use Rattle.std.proofs.Common.{◌≡◌, ℕ, refl, ap, Option, arith}
use base.Stored.{Gv, gnil, gnum, gcons, Coded, num}
use Rattle.std.specs.Coded.{coded_option}
use Rattle.fd_entries.specs.contracts.batch.Listing.{the_row}
use native.Mathlib.Decide.{ℕ_discrete}
use Rattle.fd_entries.specs.declared.batch.Listing.{Listing}

abbrev kind : Gv → ℕ
kind gnil = 0
kind (gnum n) = 1
kind (gcons a b) = 2

abbrev head : Gv → Gv
head gnil = gnil
head (gnum n) = gnil
head (gcons a b) = a

abbrev tail : Gv → Gv
tail gnil = gnil
tail (gnum n) = gnil
tail (gcons a b) = b

nums : (m n : ℕ) → Dec (m ≡ n) → Dec (gnum m ≡ gnum n)
nums m n (yes e) = yes (ap gnum e)
nums m n (no d) = no (λ e. d (ap num e))

conses : (a b c d : Gv) → Dec (a ≡ c) → Dec (b ≡ d) → Dec (gcons a b ≡ gcons c d)
conses a b c d (yes p) (yes q) = yes (λ i. gcons (p i) (q i))
conses a b c d (yes p) (no q) = no (λ e. q (ap tail e))
conses a b c d (no p) q = no (λ e. p (ap head e))

same_code : (x y : Gv) → Dec (x ≡ y)
same_code gnil gnil = yes refl
same_code gnil (gnum n) = no (λ e. let k = ap kind e in absurd (omega arith))
same_code gnil (gcons c d) = no (λ e. let k = ap kind e in absurd (omega arith))
same_code (gnum m) gnil = no (λ e. let k = ap kind e in absurd (omega arith))
same_code (gnum m) (gnum n) = nums m n (ℕ_discrete m n)
same_code (gnum m) (gcons c d) = no (λ e. let k = ap kind e in absurd (omega arith))
same_code (gcons a b) gnil = no (λ e. let k = ap kind e in absurd (omega arith))
same_code (gcons a b) (gnum n) = no (λ e. let k = ap kind e in absurd (omega arith))
same_code (gcons a b) (gcons c d) = conses a b c d (same_code a c) (same_code b d)

-- a type whose values have codes has decided equality
pub same_by : {A : Type 0} → Coded A → (x y : A) → Dec (x ≡ y)
same_by c x y = by (same_code (c.code x) (c.code y)) where
  by : Dec (c.code x ≡ c.code y) → Dec (x ≡ y)
  by (yes e) = yes (c.inj x y e)
  by (no d) = no (λ e. d (ap c.code e))

pub same_doubt : (x y : Option Listing) → Dec (x ≡ y)
same_doubt = same_by (coded_option the_row.coded)
