use Rattle.std.proofs.Common.{All, take}
use Rattle.fd_sheets.specs.Names.{IsKnown}
use Rattle.fd_sheets.proofs.names.Names.know_all.Given as goal

abbrev pub invariant-loop-sheet : goal.invariant-loop-sheet
invariant-loop-sheet l = record { known : All (IsKnown l.self.texts.items) (take l.sheet-index l.sheets) }
