use Rattle.std.proofs.Common.{◌≤◌, length}
use Rattle.fd_split.proofs.Loops.{GoesRounds}
use Rattle.fd_split.proofs.rounds.read_rounds.Given as goal

abbrev pub invariant-loop-rest : goal.invariant-loop-rest
invariant-loop-rest l = record {
  goes : GoesRounds l.total l.fn.rest l.rest l.fn.rounds.items l.rounds.items;
  fits : length l.rest ≤ l.total;
}

abbrev pub decreases-loop-rest : goal.decreases-loop-rest
decreases-loop-rest l = length l.rest
