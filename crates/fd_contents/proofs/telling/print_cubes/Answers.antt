use Rattle.std.proofs.Common.{refl}
use Rattle.fd_spelling.specs.Texts.{texts}
use Rattle.fd_contents.specs.Told.{KeysPrinted, KeysStarved}
use Rattle.fd_contents.proofs.telling.print_cubes.Goals as goal

pub returns-in-Ok : goal.returns-in-Ok
returns-in-Ok g c = KeysPrinted c.requires.none (texts c.in-Ok.lines.items) c.in-Ok.ensures (rw c.deref.ensures.value at c.print_lines.ensures)

pub returns-in-Err : goal.returns-in-Err
returns-in-Err g c = KeysStarved refl refl c.tell_no_memory.ensures
