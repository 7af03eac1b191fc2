use Rattle.std.proofs.Common.{◌≡◌, false, true, arith, ◌∙◌}
use Rattle.std.proofs.lemmas.Int.{ints}
use Rattle.std.proofs.lemmas.Result.{IfOk-weaker}
use Rattle.fd_request.proofs.Ends.{day_in, day_far, day_text_is}
use Rattle.fd_request.proofs.end.day_text.Goals as goal

pub overflow_cast-far : goal.overflow_cast-far
overflow_cast-far c = omega (arith, ints, day_far c.args.day.now c.args.far c.requires)

pub unreachable-requires : goal.unreachable-requires
unreachable-requires c =
    let k = day_in c.args.day.now c.args.far c.requires in
    let few = day_far c.args.day.now c.args.far c.requires in
    let e : false ≡ true = c.in_default.ensures.succeeds.1 (omega (arith, ints, k.0), omega (arith, ints, k.1)) in cc

pub returns-clause-text : goal.returns-clause-text
returns-clause-text c =
    let is = day_text_is c.args.day.now c.args.far c.in-Ok.later c.from.result c.from-2.result c.from-3.result c.requires c.in-Ok.ensures.value (c.from.ensures ∙ c.unsigned_abs.ensures.value) c.from-2.ensures c.from-3.ensures in
    IfOk-weaker c.date_text.result _ _ (λ s e. e ∙ is) c.date_text.ensures.text
