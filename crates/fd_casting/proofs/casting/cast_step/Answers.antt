use Rattle.std.proofs.Common.{◌∙◌, None, map, sym, append-nil}
use Rattle.fd_schema.specs.Reading.{seen_place}
use Rattle.fd_casting.specs.Steps.{Posed}
use Rattle.fd_casting.proofs.Courses.{done_more, failed_now, pushed_more, skipped}
use Rattle.fd_casting.proofs.casting.cast_step.Goals as goal

pub returns-then-is_behind : goal.returns-then-is_behind
returns-then-is_behind c = λ ps so_far.
    let p : Posed = record { given = c.args.given.now; step = c.args.step.now; line = c.args.line } in
    skipped c.args.setting.now.schema.now c.args.setting.now.dataset.now c.args.setting.now.messages.now ps p c.args.course.now.places c.args.course.now.lowest (sym c.is_behind.ensures ∙ c.if-is_behind.true) so_far

pub returns-in-Ok-Some : goal.returns-in-Ok-Some
returns-in-Ok-Some c =
    let p : Posed = record { given = c.args.given.now; step = c.args.step.now; line = c.args.line } in
    pushed_more c.args.setting.now.schema.now c.args.setting.now.dataset.now c.args.setting.now.messages.now p c.in-Ok-Some.place c.args.course.now.places c.push.new.self c.args.course.now.lowest c.push.result (rw c.in-Ok-Some.field-0-is at c.in-Ok-Some.ensures.can) c.push.ensures.ok

pub returns-in-Ok-None : goal.returns-in-Ok-None
returns-in-Ok-None c = λ ps so_far.
    let p : Posed = record { given = c.args.given.now; step = c.args.step.now; line = c.args.line } in
    done_more c.args.setting.now.schema.now c.args.setting.now.dataset.now c.args.setting.now.messages.now ps p None c.args.course.now.places c.args.course.now.places c.args.course.now.lowest (rw c.in-Ok-None.field-0-is at c.in-Ok-None.ensures.can) (sym (append-nil (map seen_place c.args.course.now.places))) so_far

pub returns-in-Err-Miscast : goal.returns-in-Err-Miscast
returns-in-Err-Miscast c = λ ps so_far.
    let p : Posed = record { given = c.args.given.now; step = c.args.step.now; line = c.args.line } in
    failed_now c.args.setting.now.schema.now c.args.setting.now.dataset.now c.args.setting.now.messages.now ps p c.args.course.now.places c.args.course.now.lowest c.in-Err-Miscast.kind (sym c.is_behind.ensures ∙ c.if-is_behind.false) (rw c.in-Err-Miscast.field-0-is at c.in-Err-Miscast.ensures.refused) so_far
