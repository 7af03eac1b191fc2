use Rattle.std.proofs.Common.{◌-◌}
use Rattle.fd_index.specs.StoredRecords.{records_of}
use Rattle.fd_index.proofs.Searching.{Between, pairs_of}
use Rattle.fd_index.proofs.stored.place_in.Given as goal

abbrev pub invariant-loop-low : goal.invariant-loop-low
invariant-loop-low l = Between l.key (pairs_of (records_of l.records)) l.low l.high

abbrev pub decreases-loop-low : goal.decreases-loop-low
decreases-loop-low l = l.high - l.low
