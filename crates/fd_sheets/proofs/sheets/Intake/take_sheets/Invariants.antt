use Rattle.std.specs.Prelude.{◌≡◌}
use Rattle.fd_split.specs.Positions.{weight}
use Rattle.fd_sheets.specs.Sheets.{IsOpen, Shrinks, standing}
use Rattle.fd_sheets.proofs.Taking.{StagedSo}
use Rattle.fd_sheets.proofs.sheets.Intake.take_sheets.Given as goal

abbrev pub invariant-fields : goal.invariant-fields
invariant-fields l = record {
  staged : StagedSo l.fn.self.splitter l.fn.self.opened l.self.splitter l.self.opened l.sheets.items;
  room : Shrinks l.fn.self.splitter l.fn.self.opened l.fn.sheets.items l.self.splitter l.self.opened l.sheets.items;
  is_open : IsOpen l.self.splitter l.self.opened;
  fed : l.self.splitter.fed ≡ l.fn.self.splitter.fed;
}

abbrev pub decreases-fields : goal.decreases-fields
decreases-fields l = weight (standing l.self.splitter l.self.opened 0)
