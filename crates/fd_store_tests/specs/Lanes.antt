-- What a lane of the tests has between its calls.
use Rattle.std.specs.Prelude.{◌≡◌}
use Rattle.fd_turn.specs.declared.view.Lock.TheVariants.{Free}
use Rattle.fd_turn.specs.declared.board.Pass.{Pass}
use Rattle.fd_turn.specs.Passes.{BoardId, view, IsOf}

-- a pass of that board with one part, which is not the owner
abbrev pub IsLane : {X Y : Type 0} → BoardId → Pass X Y → Type 0
IsLane z p = IsOf z p × ((view p).lock ≡ Free) × ((view p).parts ≡ 1)
