use Rattle.std.proofs.Common.{◌≡◌, IfSome, subst}
use Rattle.fd_retriever.specs.Kept.{AreThose}
use Rattle.fd_ahead.proofs.segments.lenses_for.Goals as goal

pub returns-then-of-number : goal.returns-then-of-number
returns-then-of-number g c = λ ss kept. subst (λ o. IfSome o (λ k. k.number ≡ c.args.number → AreThose k.lenses ss)) c.in-Some.is kept c.if-of-number.true
