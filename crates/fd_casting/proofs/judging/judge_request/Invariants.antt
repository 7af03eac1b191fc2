use Rattle.fd_request.specs.Expansion.{expand}
use Rattle.fd_casting.proofs.Verdicts.{IsJudgedTo}
use Rattle.fd_casting.proofs.judging.judge_request.Given as goal

abbrev pub invariant-loop-i : goal.invariant-loop-i
invariant-loop-i l = IsJudgedTo l.schema l.dataset (expand l.request) l.i l.inside
