use Rattle.std.proofs.Common.{◌≡◌, ◌∙◌, ◌≤◌, ◌<◌, ◌+◌, ◌-◌, ◌++◌, refl, List, Some, length, slice_get, sym, ap, subst, arith}
use Rattle.std.proofs.lemmas.Option.{slice_get_read, slice_get_within}
use Rattle.fd_script.specs.declared.script.Lane.{Lane}
use Rattle.fd_casting.specs.Steps.{HasLines, Posed, posed}
use Rattle.fd_casting.specs.Done.{IsCourse}
use Rattle.fd_casting.proofs.Lanes.{lane_goes, step_goes}
use Rattle.fd_casting.proofs.casting.cast_lane.Goals as goal

pub line-line-requires : goal.line-line-requires
line-line-requires c =
    let lane = c.index-lanes-number.result in
    let lt : c.args.number < length c.lanes.result.now = omega (arith, c.requires.within, ap length c.lanes.ensures.lanes) in
    let read : slice_get c.lanes.result.now c.args.number ≡ Some lane = slice_get_read c.lanes.result.now (length c.lanes.result.now) c.args.number lane refl lt c.index-lanes-number.is in
    let there : slice_get c.args.script.now.lanes c.args.number ≡ Some lane = ap (λ (ls : List Lane). slice_get ls c.args.number) (sym c.lanes.ensures.lanes) ∙ read in
    let same : c.args.number + 1 - 1 ≡ c.args.number = omega arith in
    record {
      lane_is = omega arith;
      step_is = omega arith;
      at = lane;
      there = ap (slice_get c.args.script.now.lanes) same ∙ there;
      within = omega (arith, c.loop-i-test.true, c.len-count.ensures);
    }

pub loop-i-preserved : goal.loop-i-preserved
loop-i-preserved c =
    let lane = c.index-lanes-number.result in
    let i = c.loop-i.i in
    let lt : c.args.number < length c.lanes.result.now = omega (arith, c.requires.within, ap length c.lanes.ensures.lanes) in
    let read : slice_get c.lanes.result.now c.args.number ≡ Some lane = slice_get_read c.lanes.result.now (length c.lanes.result.now) c.args.number lane refl lt c.index-lanes-number.is in
    let there : slice_get c.args.script.now.lanes c.args.number ≡ Some lane = ap (λ (ls : List Lane). slice_get ls c.args.number) (sym c.lanes.ensures.lanes) ∙ read in
    let a : c.args.number + 1 - 1 ≡ c.args.number = omega arith in
    let b : i + 1 - 1 ≡ i = omega arith in
    let its = c.line-line.ensures in
    let also : slice_get c.args.script.now.lanes c.args.number ≡ Some its.at = ap (slice_get c.args.script.now.lanes) (sym a) ∙ its.there in
    let same : its.at ≡ lane = cc in
    let line : slice_get lane.lines i ≡ Some c.line-line.result = ap (λ (l : Lane). slice_get l.lines i) (sym same) ∙ (ap (slice_get its.at.lines) (sym b) ∙ its.is) in
    let within = slice_get_within lane.lines i c.line-line.result line in
    record {
      lines = omega (arith, within);
      course = step_goes c.args.schema.now c.args.script.now.dataset c.args.messages.now c.dataset-dataset.result.now lane.given lane.steps lane.lines i c.at-step.result.now c.line-line.result c.args.course.now c.loop-i.course c.cast_step.new.course c.dataset-dataset.ensures c.at-step.ensures line c.in_ok-cast_step.ensures c.loop-i.invariant.course;
    }

pub returns : goal.returns
returns c = λ l at.
    let lane = c.index-lanes-number.result in
    let lt : c.args.number < length c.lanes.result.now = omega (arith, c.requires.within, ap length c.lanes.ensures.lanes) in
    let read : slice_get c.lanes.result.now c.args.number ≡ Some lane = slice_get_read c.lanes.result.now (length c.lanes.result.now) c.args.number lane refl lt c.index-lanes-number.is in
    let there : slice_get c.args.script.now.lanes c.args.number ≡ Some lane = ap (λ (ls : List Lane). slice_get ls c.args.number) (sym c.lanes.ensures.lanes) ∙ read in
    let same : lane ≡ l = cc in
    let lines = c.loop-i.invariant.lines in
    let long : length lane.steps ≤ length lane.lines = omega (arith, c.loop-i-test.false, c.len-count.ensures, lines) in
    let all : length lane.steps ≤ c.loop-i.i = omega (arith, c.loop-i-test.false, c.len-count.ensures) in
    subst (λ (x : Lane). HasLines x × ((ps : List Posed) → IsCourse c.args.schema.now c.args.script.now.dataset c.args.messages.now ps c.args.course.now → IsCourse c.args.schema.now c.args.script.now.dataset c.args.messages.now (ps ++ posed x.given x.steps x.lines) c.loop-i.course)) same
    (long, lane_goes c.args.schema.now c.args.script.now.dataset c.args.messages.now lane.given lane.steps lane.lines c.loop-i.i c.args.course.now c.loop-i.course long all c.loop-i.invariant.course)
