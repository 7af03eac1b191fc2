-- What comes of the frames of an input within its limit, and of one beyond it.
use Rattle.std.proofs.Common.{◌≡◌, ℕ, ◌+◌, ◌-◌, ◌<◌, ◌≤◌, Bool, true, false, List, ◌++◌, length, take, refl, sym, ap, subst, ◌∙◌, arith, inl, inr, ◌⊎◌}
use Rattle.std.proofs.lemmas.Bool.{le-leb, leb-false, leb-true, cases_Bool}
use Rattle.std.specs.Prelude.{nat_le}
use Rattle.fd_sections.specs.Frames.{Frames, frames}
use Rattle.fd_split.specs.Limits.{input_limit}
use Rattle.fd_split.specs.Fields.{of_frames}
use Rattle.fd_split.proofs.InputLaws.{taken}

pub all_of : {A : Type 0} (f : Bool → Frames → A) (octets : List ℕ) → length octets ≤ input_limit → of_frames f octets ≡ f false (frames octets)
all_of f octets le = rw (le-leb (length octets) input_limit le) refl

pub front_of : {A : Type 0} (f : Bool → Frames → A) (octets : List ℕ) → input_limit < length octets → of_frames f octets ≡ f true (frames (take input_limit octets))
front_of {A = A} f octets lt = at (cases_Bool (nat_le (length octets) input_limit))
  where
    at : (nat_le (length octets) input_limit ≡ true) ⊎ (nat_le (length octets) input_limit ≡ false) → of_frames f octets ≡ f true (frames (take input_limit octets))
    at (inl small) = absurd (let le = leb-true _ _ small in omega arith)
    at (inr large) = rw large refl

-- what holds of all inputs that begin with these octets
pub begins_with : {A : Type 0} (f : Bool → Frames → A) (octets front back : List ℕ) (P : A → Type 0) → octets ≡ front ++ back → length front ≤ input_limit → ((past : Bool) (more : List ℕ) → P (f past (frames (front ++ more)))) → P (of_frames f octets)
begins_with f octets front back P e le each =
    elim (cases_Bool (nat_le (length octets) input_limit)) [
      | inl small ↦ subst P (sym (all_of f octets (leb-true _ _ small) ∙ ap (λ (x : List ℕ). f false (frames x)) e)) (each false back)
      | inr large ↦
          let lt : input_limit < length octets = leb-false _ _ large in
          subst P (sym (front_of f octets lt ∙ ap (λ (x : List ℕ). f true (frames x)) (taken octets front back e le))) (each true (take (input_limit - length front) back))
    ]
