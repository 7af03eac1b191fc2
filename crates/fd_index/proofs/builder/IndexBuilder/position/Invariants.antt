use Rattle.std.proofs.Common.{◌-◌}
use Rattle.fd_index.proofs.Searching.{Between, pairs_of}
use Rattle.fd_index.proofs.builder.IndexBuilder.position.Given as goal

abbrev pub invariant-halves : goal.invariant-halves
invariant-halves l = Between l.key (pairs_of l.self.records) l.low l.high

abbrev pub decreases-halves : goal.decreases-halves
decreases-halves l = l.high - l.low
