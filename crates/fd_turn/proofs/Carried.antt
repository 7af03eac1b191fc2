-- The slot that a seat took last, where all that the seat knows and holds is given.
use Rattle.std.proofs.Common.{◌≡◌, ℕ, List, ◌∷◌, sym, ap, ◌∙◌}
use Rattle.atomic_table.specs.Table.{Me, rest}
use Rattle.fd_turn.specs.declared.view.SeatView.{SeatView}

pub carried_first : {S : Type 0} (m : Me S SeatView) (v : SeatView) (x : ℕ × S) (c : List (ℕ × S)) → m ≡ (v, x ∷ c) → m.1 ≡ x ∷ rest m.1
carried_first m v x c is = ap (λ z. z.1) is ∙ ap (λ z. x ∷ rest z.1) (sym is)
