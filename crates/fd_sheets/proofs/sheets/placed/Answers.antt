use Rattle.fd_sections.specs.Parts.{sections_of}
use Rattle.fd_key.proofs.Short.{key_short}
use Rattle.fd_sheets.proofs.sheets.placed.Goals as goal

pub returns-in-Ok-place : goal.returns-in-Ok-place
returns-in-Ok-place c = (c.in-Ok-place.ensures.short (key_short (sections_of c.args.message.now) c.args.given.now _ c.in-Ok.ensures), (c.key_into.new.key, c.in-Ok.ensures, c.in-Ok-place.ensures.place))
