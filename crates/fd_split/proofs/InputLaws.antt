-- What comes of an input within its limit, and of one beyond it.
use Rattle.std.proofs.Common.{◌≡◌, ℕ, ◌+◌, ◌-◌, ◌<◌, ◌≤◌, Bool, true, false, List, ◌++◌, length, take, refl, sym, ap, subst, ◌∙◌, arith, inl, inr, ◌⊎◌}
use Rattle.std.proofs.Math.Seq.{take-append-add}
use Rattle.std.proofs.lemmas.Bool.{le-leb, leb-false, leb-true, cases_Bool}
use Rattle.std.specs.Prelude.{nat_le}
use Rattle.fd_sections.specs.Stream.{Stream, stream}
use Rattle.fd_split.specs.Limits.{input_limit}
use Rattle.fd_split.specs.Inputs.{of_input}

pub all_of : {A : Type 0} (f : Bool → Stream → A) (octets : List ℕ) → length octets ≤ input_limit → of_input f octets ≡ f false (stream octets)
all_of f octets le = rw (le-leb (length octets) input_limit le) refl

pub front_of : {A : Type 0} (f : Bool → Stream → A) (octets : List ℕ) → input_limit < length octets → of_input f octets ≡ f true (stream (take input_limit octets))
front_of {A = A} f octets lt = at (cases_Bool (nat_le (length octets) input_limit))
  where
    at : (nat_le (length octets) input_limit ≡ true) ⊎ (nat_le (length octets) input_limit ≡ false) → of_input f octets ≡ f true (stream (take input_limit octets))
    at (inl small) = absurd (let le = leb-true _ _ small in omega arith)
    at (inr large) = rw large refl

cut_after : (front back : List ℕ) (n k : ℕ) → n ≡ length front + k → take n (front ++ back) ≡ front ++ take k back
cut_after front back n k e = ap (λ (m : ℕ). take m (front ++ back)) e ∙ take-append-add front back k

pub taken : (octets front back : List ℕ) → octets ≡ front ++ back → length front ≤ input_limit → take input_limit octets ≡ front ++ take (input_limit - length front) back
taken octets front back e le = ap (take input_limit) e ∙ cut_after front back input_limit (input_limit - length front) (omega arith)

-- what holds of all inputs that begin with these octets
pub begins_with : {A : Type 0} (f : Bool → Stream → A) (octets front back : List ℕ) (P : A → Type 0) → octets ≡ front ++ back → length front ≤ input_limit → ((past : Bool) (more : List ℕ) → P (f past (stream (front ++ more)))) → P (of_input f octets)
begins_with f octets front back P e le each =
    elim (cases_Bool (nat_le (length octets) input_limit)) [
      | inl small ↦ subst P (sym (all_of f octets (leb-true _ _ small) ∙ ap (λ (x : List ℕ). f false (stream x)) e)) (each false back)
      | inr large ↦
          let lt : input_limit < length octets = leb-false _ _ large in
          subst P (sym (front_of f octets lt ∙ ap (λ (x : List ℕ). f true (stream x)) (taken octets front back e le))) (each true (take (input_limit - length front) back))
    ]
