use Rattle.std.proofs.Common.{◌≤◌, ◌<◌, List, length, take, map, All, ap, subst, arith}
use Rattle.std.proofs.lemmas.List.{take_all}
use Rattle.fd_schema.specs.Reading.{seen_place}
use Rattle.fd_script.specs.declared.script.Lane.{Lane}
use Rattle.fd_casting.specs.Steps.{HasLines, all_posed}
use Rattle.fd_casting.specs.Done.{AllCan, IsSoFar}
use Rattle.fd_casting.proofs.Courses.{none_fails}
use Rattle.fd_casting.proofs.Lanes.{all_fit, lane_added, there_is}
use Rattle.fd_casting.proofs.casting.cast.Goals as goal

pub loop-number-preserved : goal.loop-number-preserved
loop-number-preserved c =
    let lanes = c.args.script.now.lanes in
    let lt : c.loop-number.number < length lanes = omega (arith, c.loop-number-test.true, ap length c.lanes.ensures.lanes) in
    let lane = there_is lanes c.loop-number.number lt in
    let goes = c.in_ok-cast_lane.ensures lane.0 lane.1 in
    let added = lane_added c.args.schema.now c.args.script.now.dataset c.args.messages.now lanes c.loop-number.number lane.0 c.loop-number.course c.cast_lane.new.course lane.1 c.loop-number.invariant.lines goes.0 c.loop-number.invariant.course goes.1 in
    record { lines = added.0; course = added.1 }

pub returns-in-None-clause-places : goal.returns-in-None-clause-places
returns-in-None-clause-places c =
    let lanes = c.args.script.now.lanes in
    let le : length lanes ≤ c.loop-number.number = omega (arith, c.loop-number-test.false, ap length c.lanes.ensures.lanes) in
    let whole = take_all c.loop-number.number lanes le in
    let so_far = subst (IsSoFar c.args.schema.now c.args.script.now.dataset c.args.messages.now (all_posed (take c.loop-number.number lanes)) c.loop-number.course.places) c.in-None.is c.loop-number.invariant.course in
    (all_fit c.args.schema.now c.args.script.now.dataset c.args.messages.now lanes (map seen_place c.loop-number.course.places) (subst (All HasLines) whole c.loop-number.invariant.lines)
    (subst (λ (ls : List Lane). AllCan c.args.schema.now c.args.script.now.dataset c.args.messages.now (all_posed ls) (map seen_place c.loop-number.course.places)) whole so_far)).0

pub returns-in-None-clause-fit : goal.returns-in-None-clause-fit
returns-in-None-clause-fit c =
    let lanes = c.args.script.now.lanes in
    let le : length lanes ≤ c.loop-number.number = omega (arith, c.loop-number-test.false, ap length c.lanes.ensures.lanes) in
    let whole = take_all c.loop-number.number lanes le in
    let so_far = subst (IsSoFar c.args.schema.now c.args.script.now.dataset c.args.messages.now (all_posed (take c.loop-number.number lanes)) c.loop-number.course.places) c.in-None.is c.loop-number.invariant.course in
    (all_fit c.args.schema.now c.args.script.now.dataset c.args.messages.now lanes (map seen_place c.loop-number.course.places) (subst (All HasLines) whole c.loop-number.invariant.lines)
    (subst (λ (ls : List Lane). AllCan c.args.schema.now c.args.script.now.dataset c.args.messages.now (all_posed ls) (map seen_place c.loop-number.course.places)) whole so_far)).1

pub returns-in-None-clause-all : goal.returns-in-None-clause-all
returns-in-None-clause-all c =
    let lanes = c.args.script.now.lanes in
    let le : length lanes ≤ c.loop-number.number = omega (arith, c.loop-number-test.false, ap length c.lanes.ensures.lanes) in
    let whole = take_all c.loop-number.number lanes le in
    let so_far = subst (IsSoFar c.args.schema.now c.args.script.now.dataset c.args.messages.now (all_posed (take c.loop-number.number lanes)) c.loop-number.course.places) c.in-None.is c.loop-number.invariant.course in
    none_fails c.args.schema.now c.args.script.now.dataset c.args.messages.now (all_posed lanes) (map seen_place c.loop-number.course.places)
    (subst (λ (ls : List Lane). AllCan c.args.schema.now c.args.script.now.dataset c.args.messages.now (all_posed ls) (map seen_place c.loop-number.course.places)) whole so_far)
