use Rattle.std.proofs.Common.{ℕ, List, length}
use Rattle.fd_session.specs.Splits.{HasGiven}
use Rattle.fd_session.proofs.splitting.take_all.Given as goal

abbrev pub invariant-messages : goal.invariant-messages
invariant-messages l = (octets : List ℕ) → HasGiven octets l.fn.splitter l.fn.messages → HasGiven octets l.splitter l.messages

abbrev pub decreases-messages : goal.decreases-messages
decreases-messages l = length l.splitter.rest
