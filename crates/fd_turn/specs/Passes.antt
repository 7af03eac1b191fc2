-- Boards and passes, as contracts see them: a board by what no other board shares with it, and a pass by that and by what it knows.
use Rattle.std.specs.Prelude.{◌≡◌}
use Rattle.atomic_table.specs.Seated.{TableId}
use Rattle.fd_turn.specs.declared.board.Board.{Board}
use Rattle.fd_turn.specs.declared.board.Pass.{Pass}
use Rattle.fd_turn.specs.Views.{View}
use Rattle.fd_turn.specs.Seats.{view_of}

-- what tells one board from all others
abbrev pub BoardId : Type 0
BoardId = TableId

module _ {X Y : Type 0} where
  -- which board it is
  abbrev pub identity : Board X Y → BoardId
  identity b = b.table.shared.table_id

  -- what the pass knows
  abbrev pub view : Pass X Y → View
  view p = view_of p.seat.me.0

  -- the pass is that board's
  abbrev pub IsOf : BoardId → Pass X Y → Type 0
  IsOf z p = p.seat.table_id ≡ z

  -- the second pass is of the first one's board
  abbrev pub IsSame : Pass X Y → Pass X Y → Type 0
  IsSame p q = q.seat.table_id ≡ p.seat.table_id
