use Rattle.std.specs.Prelude.{◌≡◌, length}
use Rattle.fd_bulk.specs.Halting.{HaveMetNone}
use Rattle.fd_bulk.proofs.crew.Crew.new.Given as goal

abbrev pub invariant-loop-worker : goal.invariant-loop-worker
invariant-loop-worker g l = record {
  long : length l.jobs.items ≡ l._worker;
  none : HaveMetNone l.jobs.items;
}
