use Rattle.std.specs.Prelude.{◌<◌}
use Rattle.fd_bulk.specs.Halting.{Each, HasRoom, IsSameJob}
use Rattle.fd_bulk.proofs.crew.make_room.Given as goal

abbrev pub invariant-loop-w : goal.invariant-loop-w
invariant-loop-w g l = Each (λ i j k. IsSameJob j k × (i < l.w → HasRoom k)) l.fn.jobs l.jobs
