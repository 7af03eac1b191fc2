use Rattle.std.proofs.Common.{◌+◌, length}
use Rattle.fd_split.specs.Positions.{weight}
use Rattle.fd_sheets.specs.Sheets.{standing}
use Rattle.fd_sheets.proofs.ByParts.{HasPart}
use Rattle.fd_sheets.proofs.parts.Search.take_placed.Given as goal

abbrev pub invariant-parts : goal.invariant-parts
invariant-parts g l = HasPart l.fn.self.schema.now l.fn.self.given.now l.fn.intake.splitter l.fn.intake.opened l.intake.splitter l.intake.opened l.done.items l.part.items l.taken

abbrev pub decreases-parts : goal.decreases-parts
decreases-parts g l = weight (standing l.intake.splitter l.intake.opened 0) + length l.part.items
