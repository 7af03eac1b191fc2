use Rattle.fd_request.proofs.Members.{AdmitTo}
use Rattle.fd_request.proofs.partial.Partial.matches.Given as goal

abbrev pub invariant-loop-keyword : goal.invariant-loop-keyword
invariant-loop-keyword l = AdmitTo l.key l.keyword-items l.keyword-index
