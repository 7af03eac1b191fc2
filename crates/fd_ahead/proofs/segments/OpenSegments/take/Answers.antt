use Rattle.std.proofs.Common.{◌≡◌, IfSome, subst, sym}
use Rattle.std.proofs.lemmas.Result.{IfOk-weaker}
use Rattle.fd_retriever.specs.Kept.{AreThose}
use Rattle.fd_ahead.proofs.Placing.{of_mapped}
use Rattle.fd_ahead.proofs.segments.OpenSegments.take.Goals as goal

pub returns-clause-those : goal.returns-clause-those
returns-clause-those g c = IfOk-weaker c.lenses_for.result _ _
    (λ l fit ss kept. fit ss (subst (λ o. IfSome o (λ k. k.number ≡ c.args.number → AreThose k.lenses ss)) (sym c.take.ensures.value)
    (of_mapped c.self.inside.current (λ k. record { number = k.number; kept = k.lenses }) (λ k. k.number ≡ c.args.number → AreThose k.kept ss)
    (subst (λ o. IfSome o (λ k. k.number ≡ c.args.number → AreThose k.kept ss)) (sym c.self.view_is) kept))))
    c.lenses_for.ensures
