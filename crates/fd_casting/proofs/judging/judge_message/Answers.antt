use Rattle.fd_sections.specs.Parts.{sections_of}
use Rattle.fd_casting.proofs.Verdicts.{put_placed, put_refused}
use Rattle.fd_casting.proofs.judging.judge_message.Goals as goal

pub returns-in-Ok-clause-place : goal.returns-in-Ok-clause-place
returns-in-Ok-clause-place c =
    let there = c.in-Some.ensures.message in
    put_placed c.args.setting.now.schema.now c.args.setting.now.dataset.now c.args.setting.now.messages.now c.args.given.now c.args.number c.in-Ok.key (sections_of c.in-Some.message) c.place_in.result c.requires.schema there.0 there.1 c.in-Ok.ensures c.place_in.ensures.place c.place_in.ensures.dataset

pub returns-in-Ok-clause-refused : goal.returns-in-Ok-clause-refused
returns-in-Ok-clause-refused c =
    let there = c.in-Some.ensures.message in
    put_refused c.args.setting.now.schema.now c.args.setting.now.dataset.now c.args.setting.now.messages.now c.args.given.now c.args.number c.in-Ok.key c.place_in.result there.0 (record { sections = sections_of c.in-Some.message; is_message = there.1; is = c.in-Ok.ensures }) c.place_in.ensures.refused
