-- What a seat with every part knows of the whole.
use Rattle.std.proofs.Common.{◌≡◌, ℕ, ◌+◌, ◌<◌, ◌≢◌, List, [], length, sym, ap, ◌∙◌, subst, arith, Option, Contains}
use mathlib.Core.Option as maybe
use mathlib.Core.Logic.{dite}
use native.Mathlib.Decide.{ℕ_discrete}
use lib.ListN.{get_elem?}
use Rattle.atomic_table.specs.Table.{State}
use Rattle.fd_entries.specs.declared.batch.Listing.{Listing}
use Rattle.fd_turn.specs.declared.view.SeatView.{SeatView}
use Rattle.fd_turn.specs.declared.view.Subject.{Subject}
use Rattle.fd_turn.specs.declared.rule.Slot.{Slot}
use Rattle.fd_turn.specs.Views.{all_parts}
use Rattle.fd_turn.specs.Rule.{IsDoubted, IsCovered, IsKept}
use Rattle.fd_turn.specs.Steps.{Accounts}
use Rattle.fd_turn.proofs.Totals.{total_two, total_alone}

-- nothing is in an empty list
none_in : (xs : List Listing) (l : Listing) → xs ≡ [] → Contains xs l → ⊥
none_in xs l is c = let here = c.1 in let none : length xs ≡ 0 = ap length is in omega arith

module _ (X Y : Type 0) (vlist : X → List Listing) (vsubject : X → List ℕ) (wlist : Y → List Listing) (wdoubt : Y → Option Listing) (wsubject : Y → Subject) where
  abbrev St : Type 0
  St = State (Slot X Y) SeatView

  abbrev Rule : St → Type 0
  Rule = IsKept vlist vsubject wlist wdoubt wsubject

  -- every other seat has no parts, where one has all of them
  pub others_spent : (s : St) (r : Rule s) (id j : ℕ) (v u : SeatView) → j ≢ id → get_elem? s.views id ≡ maybe.some v → get_elem? s.views j ≡ maybe.some u → v.parts ≡ all_parts → u.parts ≡ 0
  others_spent s r id j v u n at other all = let two = total_two (λ (z : SeatView). z.parts) s.views id j v u n at other in let sum = r.parts in omega arith

  -- a seat that has every part made every post
  pub all_amounts : (s : St) (r : Rule s) (id : ℕ) (v : SeatView) → get_elem? s.views id ≡ maybe.some v → v.parts ≡ all_parts → v.amount ≡ r.posts
  all_amounts s r id v at all = sym (total_alone (λ (z : SeatView). z.amount) s.views id v at (λ j u n e. ((r.seats j u e).spent (others_spent s r id j v u n at e all)).amount)) ∙ r.amounts

  -- and has every doubt
  pub all_doubts : (s : St) (r : Rule s) (id : ℕ) (v : SeatView) → get_elem? s.views id ≡ maybe.some v → v.parts ≡ all_parts → (l : Listing) → IsDoubted s.views l → Contains v.doubts l
  all_doubts s r id v at all l d = dite (ℕ_discrete d.0 id)
      (λ is. subst (λ (u : SeatView). Contains u.doubts l) (maybe.some-injective d.1 v (sym d.2 ∙ (ap (get_elem? s.views) is ∙ at))) d.3)
      (λ n. absurd (none_in d.1.doubts l ((r.seats d.0 d.1 d.2).spent (others_spent s r id d.0 v d.1 n at d.2 all)).doubts d.3))

  pub all_accounts : (s : St) (r : Rule s) (id : ℕ) (v : SeatView) (d : Option Listing) → get_elem? s.views id ≡ maybe.some v → 0 < v.parts → IsCovered s.views d → Accounts v r.whole d
  all_accounts s r id v d at some_parts cover all = let k = r.seats id v at in (
    ap (λ (n : ℕ). n + v.amount) (k.opened some_parts) ∙ (ap (λ (n : ℕ). r.opening + n) (all_amounts s r id v at all) ∙ r.counted),
    λ l is. all_doubts s r id v at all l (cover l is),
  )
