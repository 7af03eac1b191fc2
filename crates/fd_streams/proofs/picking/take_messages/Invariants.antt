use Rattle.std.proofs.Common.{length}
use Rattle.fd_streams.specs.Found.{GoesOn}
use Rattle.fd_streams.proofs.picking.take_messages.Given as goal

abbrev pub invariant-loop : goal.invariant-loop
invariant-loop g l = GoesOn l.wanted l.fn.splitter l.splitter l.fn.last l.last

abbrev pub decreases-loop : goal.decreases-loop
decreases-loop g l = length l.splitter.rest
