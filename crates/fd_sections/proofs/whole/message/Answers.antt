use Rattle.fd_sections.specs.Parts.{sections_of}
use Rattle.fd_sections.proofs.Laws.{found, none_refused}
use Rattle.fd_sections.proofs.whole.message.Goals as goal

pub returns-clause-ok : goal.returns-clause-ok
returns-clause-ok c = found sections_of c.args.bytes.now c.read_sections.result c.read_sections.ensures.sections

pub returns-clause-err : goal.returns-clause-err
returns-clause-err c = none_refused sections_of c.args.bytes.now c.read_sections.result c.read_sections.ensures.sections
