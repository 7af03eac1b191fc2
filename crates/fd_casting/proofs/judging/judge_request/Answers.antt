use Rattle.std.proofs.Common.{◌≤◌, ◌<◌, length, arith, subst}
use Rattle.fd_request.specs.Expansion.{expand}
use Rattle.fd_casting.proofs.Verdicts.{IsJudgedTo, all_inside, judged_more, not_inside}
use Rattle.fd_casting.proofs.judging.judge_request.Goals as goal

pub loop-i-preserved : goal.loop-i-preserved
loop-i-preserved c =
    let within : c.loop-i.i < length (expand c.args.request.now) = omega (arith, c.count-i-end.ensures, c.loop-i-test.true) in
    judged_more c.args.schema.now c.args.dataset.now (expand c.args.request.now) c.loop-i.i c.loop-i.inside c.in_ok-inside.field-0 within c.loop-i.invariant c.in_ok-inside.ensures.judged

pub returns-then-inside-clause-placed : goal.returns-then-inside-clause-placed
returns-then-inside-clause-placed c =
    let long : length (expand c.args.request.now) ≤ c.loop-i.i = omega (arith, c.count-i-end.ensures, c.loop-i-test.false) in
    all_inside c.args.schema.now c.args.dataset.now c.args.request.now c.loop-i.i long (subst (IsJudgedTo c.args.schema.now c.args.dataset.now (expand c.args.request.now) c.loop-i.i) c.if-inside.true c.loop-i.invariant)

pub returns-else-inside-clause-refused : goal.returns-else-inside-clause-refused
returns-else-inside-clause-refused c =
    let long : length (expand c.args.request.now) ≤ c.loop-i.i = omega (arith, c.count-i-end.ensures, c.loop-i-test.false) in
    not_inside c.args.schema.now c.args.dataset.now c.args.request.now c.loop-i.i long (subst (IsJudgedTo c.args.schema.now c.args.dataset.now (expand c.args.request.now) c.loop-i.i) c.if-inside.false c.loop-i.invariant)
