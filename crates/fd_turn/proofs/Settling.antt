-- What is left of the doubts when an owner gives the state back. Listings are plain data, so two of them are the same or not.
use Rattle.std.proofs.Common.{◌≡◌, ◌≢◌, ◌⊎◌, List, [], ◌∷◌, sym, refl, ap, ◌∙◌, inl, inr, Option, Some, None}
use Rattle.fd_entries.specs.declared.batch.Listing.{Listing}
use Rattle.fd_turn.specs.declared.view.Lock.{Lock}
use Rattle.fd_turn.specs.declared.view.Lock.TheVariants.{Free, Owner}
use Rattle.fd_turn.specs.Views.{Settles}
use Rattle.fd_turn.proofs.Same.{same_doubt}

some_is : (a b : Listing) → Some a ≡ Some b → a ≡ b
some_is a b e = cc e

found_in : Option Listing → Lock → Option Listing
found_in d Free = d
found_in d (Owner found) = found

-- what an owner found is one thing
pub found_is : (d d' : Option Listing) (lock : Lock) → lock ≡ Owner d → lock ≡ Owner d' → d ≡ d'
unfolding found_in
found_is d d' lock a b = ap (found_in d) (sym a ∙ b)

settles_found : (lock : Lock) (before : List Listing) (l : Listing) → lock ≡ Owner (Some l) → Settles lock before (Some l) before
settles_found lock before l is = record { sure = λ e. absurd (cc e); found = λ k e f. refl; new = λ k e n. absurd (n (is ∙ ap Owner e)) }

settles_new : (lock : Lock) (before : List Listing) (l : Listing) → lock ≢ Owner (Some l) → Settles lock before (Some l) (l ∷ [])
settles_new lock before l not = record { sure = λ e. absurd (cc e); found = λ k e f. absurd (not (f ∙ ap Owner (sym e))); new = λ k e n. ap (λ x. x ∷ []) (some_is l k e) }

by_cases : (lock : Lock) (before : List Listing) (l : Listing) (found : Option Listing) → lock ≡ Owner found → Dec (found ≡ Some l) → (after : List Listing) × Settles lock before (Some l) after
by_cases lock before l found is (yes same) = (before, settles_found lock before l (is ∙ ap Owner same))
by_cases lock before l found is (no not) = (l ∷ [], settles_new lock before l (λ e. not (found_is found (Some l) lock is e)))

pub settled : (lock : Lock) (before : List Listing) (left found : Option Listing) → lock ≡ Owner found → (after : List Listing) × Settles lock before left after
settled lock before None found is = ([], record { sure = λ e. refl; found = λ k e f. absurd (cc e); new = λ k e n. absurd (cc e) })
settled lock before (Some l) found is = by_cases lock before l found is (same_doubt found (Some l))

-- what an owner that lists one more can leave in doubt: it found one, and leaves that, or none, or the new one
pub leaves_doubts : (lock : Lock) (found left : Option Listing) (before after : List Listing) (l : Listing) → lock ≡ Owner found → Settles lock before left after → (left ≡ found) ⊎ (left ≡ None) ⊎ (left ≡ Some l) → (after ≡ before) ⊎ (after ≡ []) ⊎ (after ≡ l ∷ [])
leaves_doubts lock found None before after l is s h = inr (inl (s.sure refl))
leaves_doubts lock found (Some k) before after l is s (inl e) = inl (s.found k refl (is ∙ ap Owner (sym e)))
leaves_doubts lock found (Some k) before after l is s (inr (inl e)) = inr (inl (s.sure e))
leaves_doubts lock found (Some k) before after l is s (inr (inr e)) = by (same_doubt found (Some k)) where
  by : Dec (found ≡ Some k) → (after ≡ before) ⊎ (after ≡ []) ⊎ (after ≡ l ∷ [])
  by (yes same) = inl (s.found k refl (is ∙ ap Owner same))
  by (no not) = inr (inr (s.new k refl (λ e. not (found_is found (Some k) lock is e)) ∙ ap (λ x. x ∷ []) (some_is k l e)))
