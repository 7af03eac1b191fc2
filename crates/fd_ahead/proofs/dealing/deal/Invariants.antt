use Rattle.std.proofs.Common.{◌≡◌, ◌≤◌, List, length, All}
use Rattle.fd_ahead.specs.Places.{AreIn, Open}
use Rattle.fd_ahead.specs.Reading.{IsJob}
use Rattle.fd_ahead.proofs.dealing.deal.Given as goal

abbrev pub invariant-loop-job : goal.invariant-loop-job
invariant-loop-job g l = record {
  long : length l.jobs ≡ length l.fn.jobs;
  up : l.fn.from ≤ l.next;
  to : l.next ≤ length l.located;
  jobs : (os : List Open) → AreIn os l.located → All (IsJob os) l.fn.jobs → All (IsJob os) l.jobs;
}
