use Rattle.std.proofs.Common.{Some, sym, ◌∙◌}
use Rattle.fd_sections.proofs.Marks.{mark_found, missing_is}
use Rattle.fd_sections.proofs.first.from_mark.Goals as goal

pub returns-in_default : goal.returns-in_default
returns-in_default c = missing_is c.args.stream.now c.find.result c.split_at.result.1.now c.in_default.is c.find.ensures c.split_at.ensures.back

pub returns : goal.returns
returns c = c.split_at-2.ensures.back ∙ sym (mark_found c.args.stream.now (Some c.in-Some.at) c.in-Some.ensures).0
