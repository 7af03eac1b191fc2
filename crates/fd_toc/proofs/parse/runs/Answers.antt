use Rattle.std.proofs.Common.{◌≡◌, ◌+◌, List, ℕ, Some, None, sym, subst, arith}
use Rattle.std.proofs.lemmas.List.{take_rest}
use Rattle.fd_toc.specs.Slots.{IsAt}
use Rattle.fd_toc.proofs.SlotSteps.{at_start, at_bad, at_end, at_next, at_last}
use Rattle.fd_toc.proofs.parse.runs.Goals as goal

pub loop-i-init : goal.loop-i-init
loop-i-init c = at_start c.args.bytes.now _ c.new-entries.ensures.items

pub returns-in-Bad-clause-each : goal.returns-in-Bad-clause-each
returns-in-Bad-clause-each c = at_bad c.args.bytes.now c.loop-i.entries.items c.loop-i.i c.loop-i.rest.now c.in-Bad.fault c.loop-i.invariant (omega arith) c.in-Bad.ensures.step

pub returns-in-End-clause-each : goal.returns-in-End-clause-each
returns-in-End-clause-each c = at_end c.args.bytes.now c.loop-i.entries.items c.loop-i.i c.loop-i.rest.now c.loop-i.invariant (omega arith) c.in-End.ensures.step

pub loop-i-preserved : goal.loop-i-preserved
loop-i-preserved c =
    let next = at_next c.args.bytes.now c.loop-i.entries.items c.push.new.self.items c.loop-i.i c.loop-i.rest.now c.in-Next.entry c.loop-i.invariant (omega arith) c.in-Next.ensures.step c.in-Ok.ensures.items in
    subst (λ (r : List ℕ). IsAt c.args.bytes.now c.push.new.self.items (c.loop-i.i + 1) r) (sym (take_rest c.loop-i.rest.now 64)) next

pub returns-in-Some-clause-each : goal.returns-in-Some-clause-each
returns-in-Some-clause-each c =
    let full : c.loop-i.i ≡ 65535 = omega arith in
    at_last c.args.bytes.now c.loop-i.entries.items c.loop-i.rest.now (Some c.in-Some.fault)
    (subst (λ (i : ℕ). IsAt c.args.bytes.now c.loop-i.entries.items i c.loop-i.rest.now) full c.loop-i.invariant) c.in-Some.ensures

pub returns-in-None-clause-each : goal.returns-in-None-clause-each
returns-in-None-clause-each c =
    let full : c.loop-i.i ≡ 65535 = omega arith in
    at_last c.args.bytes.now c.loop-i.entries.items c.loop-i.rest.now None
    (subst (λ (i : ℕ). IsAt c.args.bytes.now c.loop-i.entries.items i c.loop-i.rest.now) full c.loop-i.invariant) c.in-None.ensures
