use Rattle.std.proofs.Common.{◌≡◌, ◌∙◌, ◌<◌, ◌∷◌, [], ◌++◌, ℕ, List, length, refl, sym, ap, subst, arith, None}
use Rattle.fd_script.specs.Grammar.{few_or, task_wrong, step_wrong, last_lane}
use Rattle.fd_script.specs.Reading.{Adds, Refuses, seen_task}
use Rattle.fd_script.proofs.Lanes.{length_none, no_last, refuse_first, step_added, step_judged, step_room, then_second, within_added}
use Rattle.fd_script.proofs.reader.add_step.Goals as goal

pub returns-in-None-clause-wrong : goal.returns-in-None-clause-wrong
returns-in-None-clause-wrong c = λ gs z.
    let none : c.args.lanes.items ≡ [] = length_none c.args.lanes.items (omega (arith, c.args.lanes.ok.0, c.in-None.ensures.cases)) in
    (ap (λ o. step_wrong o (seen_task c.args.task)) (no_last c.args.lanes.items gs none z), refl)

pub returns-in-Err-clause-wrong : goal.returns-in-Err-clause-wrong
returns-in-Err-clause-wrong c = λ gs z.
    subst (Refuses c.in-Err.refusal) (sym (step_judged c.args.lanes.items c.pop.new.self.items c.in-Some.lane gs (seen_task c.args.task) c.in-Some.ensures.items z))
    (refuse_first c.in-Err.refusal (task_wrong (seen_task c.args.task)) (few_or (length c.in-Some.lane.steps) 4096) c.in-Err.ensures.wrong)

pub returns-in-Err-with_step-clause-wrong : goal.returns-in-Err-with_step-clause-wrong
returns-in-Err-with_step-clause-wrong c = λ gs z.
    subst (Refuses c.in-Err-with_step.refusal)
    (sym (step_judged c.args.lanes.items c.pop.new.self.items c.in-Some.lane gs (seen_task c.args.task) c.in-Some.ensures.items z ∙ then_second (task_wrong (seen_task c.args.task)) (few_or (length c.in-Some.lane.steps) 4096) c.in-Ok.ensures.wrong))
    c.in-Err-with_step.ensures.wrong

pub returns-clause-wrong : goal.returns-clause-wrong
returns-clause-wrong c = λ gs z.
    step_judged c.args.lanes.items c.pop.new.self.items c.in-Some.lane gs (seen_task c.args.task) c.in-Some.ensures.items z ∙ then_second (task_wrong (seen_task c.args.task)) (few_or (length c.in-Some.lane.steps) 4096) c.in-Ok.ensures.wrong
    ∙ c.in-Ok-with_step.ensures.wrong

pub returns-clause-lanes : goal.returns-clause-lanes
returns-clause-lanes c = λ gs z.
    step_added c.args.lanes.items c.push.new.self.items c.args.line (seen_task c.args.task) gs (record {
      front = c.pop.new.self.items;
      lane = c.in-Some.lane;
      step = c.in-Ok.step;
      before = c.in-Some.ensures.items;
      after = c.in_ok-push.ensures.items ∙ ap (λ l. c.pop.new.self.items ++ l ∷ []) c.in-Ok-with_step.ensures.lane;
      is = c.in-Ok.ensures.step;
      room = step_room (length c.in-Some.lane.steps) c.in-Ok-with_step.ensures.wrong;
    }) z

pub returns-clause-within : goal.returns-clause-within
returns-clause-within c =
    within_added c.args.lanes.items c.push.new.self.items c.args.line (seen_task c.args.task) (record {
      front = c.pop.new.self.items;
      lane = c.in-Some.lane;
      step = c.in-Ok.step;
      before = c.in-Some.ensures.items;
      after = c.in_ok-push.ensures.items ∙ ap (λ l. c.pop.new.self.items ++ l ∷ []) c.in-Ok-with_step.ensures.lane;
      is = c.in-Ok.ensures.step;
      room = step_room (length c.in-Some.lane.steps) c.in-Ok-with_step.ensures.wrong;
    }) c.requires.within
