use Rattle.std.proofs.Common.{◌*◌, ◌^◌, ◌≤◌, ap, sym, ◌∙◌, inl, inr, arith}
use Rattle.std.proofs.lemmas.Bool.{cases_lt}
use Rattle.fd_scaled.proofs.Powers.{power_starts, power_next, past_limit}
use Rattle.fd_scaled.proofs.rounding.times_power.Goals as goal

pub returns-then-x-limit : goal.returns-then-x-limit
returns-then-x-limit c = λ lt. omega (arith, power_starts c.args.x c.args.base c.args.count c.requires.base)

pub returns-in_default : goal.returns-in_default
returns-in_default c = λ lt.
    let le : c.args.limit ≤ c.loop.product * c.args.base =
    elim (cases_lt (c.loop.product * c.from.result) (2 ^ 128)) [
      | inl fits ↦ absurd (c.in_default.ensures fits)
      | inr wide ↦ omega (arith, wide, c.requires.room, ap (λ b. c.loop.product * b) c.from.ensures)
    ] in
    omega (arith, past_limit c.args.x c.args.base c.loop.counter c.args.count c.loop.product c.args.limit c.requires.base c.loop-test.true c.loop.invariant.0 le)

pub returns-then-next-limit : goal.returns-then-next-limit
returns-then-next-limit c = λ lt.
    let le : c.args.limit ≤ c.loop.product * c.args.base = omega (arith, c.in-Some.ensures.1, ap (λ b. c.loop.product * b) c.from.ensures) in
    omega (arith, past_limit c.args.x c.args.base c.loop.counter c.args.count c.loop.product c.args.limit c.requires.base c.loop-test.true c.loop.invariant.0 le)

pub loop-preserved : goal.loop-preserved
loop-preserved c =
    (c.in-Some.ensures.1 ∙ ap (λ b. c.loop.product * b) c.from.ensures ∙ ap (λ p. p * c.args.base) c.loop.invariant.0 ∙ sym (power_next c.args.x c.args.base c.loop.counter), omega arith)
