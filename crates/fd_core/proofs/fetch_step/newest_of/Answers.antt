use Rattle.std.proofs.Common.{◌-◌, sym, ◌∙◌, arith}
use Rattle.fd_machine.specs.Machine.{fetched, of_slot}
use Rattle.fd_machine.proofs.OpenSteps.{fetched_step, found_slot, passed_slot}
use Rattle.fd_core.proofs.fetch_step.newest_of.Goals as goal

pub returns-then-is_some : goal.returns-then-is_some
returns-then-is_some c =
    let s = c.args.state.now in
    let key = c.args.key.now in
    let i = c.loop-i.i in
    found_slot c.of_slot-found.result (λ b. b.now) (of_slot s (i - 1) key) (fetched s (i - 1) key) (fetched s c.args.count key) (sym c.is_some.ensures ∙ c.if-is_some.true) c.of_slot-found.ensures
    (c.loop-i.invariant ∙ fetched_step s i key (omega (arith, c.loop-i-test.true)))

pub loop-i-preserved : goal.loop-i-preserved
loop-i-preserved c =
    let s = c.args.state.now in
    let key = c.args.key.now in
    let i = c.loop-i.i in
    passed_slot c.of_slot-found.result (λ b. b.now) (of_slot s (i - 1) key) (fetched s (i - 1) key) (fetched s c.args.count key) (sym c.is_some.ensures ∙ c.if-is_some.false) c.of_slot-found.ensures
    (c.loop-i.invariant ∙ fetched_step s i key (omega (arith, c.loop-i-test.true)))
