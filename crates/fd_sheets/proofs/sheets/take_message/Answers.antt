use Rattle.std.proofs.Common.{List, Ok, refl, subst, sym}
use Rattle.fd_sections.specs.Message.{Sections}
use Rattle.fd_sections.specs.Parts.{sections_of}
use Rattle.fd_split.specs.Reading.{reading_fields}
use Rattle.fd_sheets.specs.Sheets.{TookMessage}
use Rattle.fd_sheets.proofs.Taking.{refused_same, took_single}
use Rattle.fd_sheets.proofs.sheets.take_message.Goals as goal

pub returns-in-Ok-take_single-clause-took : goal.returns-in-Ok-take_single-clause-took
returns-in-Ok-take_single-clause-took c =
    subst (λ (left : List Sections). TookMessage c.args.number (reading_fields c.args.octets.now) left c.args.sheets.now.items c.take_single.new.sheets.items (Ok tt)) (sym c.requires.idle)
    (took_single c.args.number c.args.octets.now (sections_of c.in-Ok.field-0) c.args.sheets.now.items c.take_single.new.sheets.items c.in-Ok.ensures.exact c.requires.some c.requires.limit c.in-Ok-take_single.ensures)

pub returns-else-is_repeated-clause-took : goal.returns-else-is_repeated-clause-took
returns-else-is_repeated-clause-took c = (refl, refl, refused_same c.args.octets.now c.in-Err.bad c.in-Err.ensures.exact (c.is_repeated.ensures c.if-is_repeated.false))
