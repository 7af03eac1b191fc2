-- Listings in doubt stay among the doubts of some pass, where a step takes none away.
use Rattle.std.proofs.Common.{◌≡◌, ℕ, zero, suc, ◌+◌, ◌<◌, List, [], ◌∷◌, ◌++◌, length, set, sym, refl, ap, ◌∙◌, subst, arith, length-append, Option, Contains}
use mathlib.Core.Logic.{dite}
use mathlib.Core.Option.{some, some-injective, some-ne-none}
use native.Mathlib.Decide.{ℕ_discrete}
use lib.ListN.{get_elem?}
use Rattle.std.proofs.lemmas.List.{get_or_append_left, get_or-append-add}
use Rattle.atomic_table.proofs.Lists.{set_here, set_else, at_longer}
use Rattle.fd_entries.specs.declared.batch.Listing.{Listing}
use Rattle.fd_turn.specs.Rule.{IsDoubted, IsCovered}
use Rattle.fd_turn.specs.declared.view.SeatView.{SeatView}

module _ {A : Type 0} where
  pub contains_left : (xs ys : List A) (x : A) → Contains xs x → Contains (xs ++ ys) x
  contains_left xs ys x c = (c.0, omega (arith, c.1, length-append xs ys), get_or_append_left xs ys x c.0 c.1 ∙ c.2)

  pub contains_right : (xs ys : List A) (x : A) → Contains ys x → Contains (xs ++ ys) x
  contains_right xs ys x c = (length xs + c.0, omega (arith, c.1, length-append xs ys), get_or-append-add xs ys c.0 x ∙ c.2)

  pub contains_only : (x : A) → Contains (x ∷ []) x
  contains_only x = (0, omega arith, refl)

  pub at_inside : (l : List A) (i : ℕ) (a : A) → get_elem? l i ≡ some a → i < length l
  at_inside [] i a e = absurd (some-ne-none a (sym e))
  at_inside (x ∷ xs) zero a e = omega arith
  at_inside (x ∷ xs) (suc i) a e = let rest = at_inside xs i a e in omega arith

-- each doubt of the one list of views is a doubt of the other
abbrev pub Covers : List SeatView → List SeatView → Type 0
Covers views views' = (l : Listing) → IsDoubted views l → IsDoubted views' l

pub covers_set : (views : List SeatView) (id : ℕ) (v w : SeatView) → get_elem? views id ≡ some v → ((l : Listing) → Contains v.doubts l → Contains w.doubts l) → Covers views (set views id w)
covers_set views id v w at more l d = dite (ℕ_discrete d.0 id)
    (λ is. let same : d.1 ≡ v = some-injective d.1 v (sym d.2 ∙ (ap (get_elem? views) is ∙ at)) in
    (id, w, set_here views id w (at_inside views id v at), more l (subst (λ (u : SeatView). Contains u.doubts l) same d.3)))
    (λ not. (d.0, d.1, set_else views id d.0 w not ∙ d.2, d.3))

pub covers_more : (views more : List SeatView) → Covers views (views ++ more)
covers_more views more l d = (d.0, d.1, at_longer views more d.0 d.1 d.2, d.3)

pub covered_by : (views views' : List SeatView) (d : Option Listing) → Covers views views' → IsCovered views d → IsCovered views' d
covered_by views views' d more c l is = more l (c l is)
