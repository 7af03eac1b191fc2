use Rattle.std.proofs.Common.{rules, arith, ◌<◌, ◌+◌, ◌∙◌, refl, drop, length, sum}
use Rattle.std.proofs.Math.Nat.{mod-lt}
use Rattle.fd_sheets.proofs.Weighing.{all_weighed, weigh_turn}
use Rattle.fd_sheets.proofs.dealing.weighed.Goals as goal

pub loop-octet-init : goal.loop-octet-init
loop-octet-init c = record { below = omega (arith, c.requires.workers.1, c.requires.before); weighs = refl }

pub loop-octet-preserved : goal.loop-octet-preserved
loop-octet-preserved c =
    let inv = c.loop-octet.invariant in
    let lt : c.loop-octet.octet-index < length c.args.text.now = search rules in
    record {
      below = c.reduced-weight.ensures.small;
      weighs = c.reduced-weight.ensures.same (sum (drop (c.loop-octet.octet-index + 1) c.args.text.now)) ∙ weigh_turn c.args.workers c.loop-octet.weight c.args.text.now c.loop-octet.octet-index c.from.result _ lt c.from.ensures ∙ inv.weighs;
    }

pub returns-clause-below : goal.returns-clause-below
returns-clause-below c = mod-lt c.loop-octet.weight (omega (arith, c.requires.workers.0))

pub returns-clause-weight : goal.returns-clause-weight
returns-clause-weight c = all_weighed c.args.workers c.loop-octet.weight c.args.text.now c.loop-octet.octet-index (omega (arith, c.loop-octet-test.false)) ∙ c.loop-octet.invariant.weighs
