use Rattle.std.proofs.Common.{◌≡◌, ◌≤◌, ◌+◌}
use Rattle.fd_sheets.specs.Reading.{ReadsOn}
use Rattle.fd_sheets.proofs.reader.Reader.fill.Given as goal

abbrev pub invariant-loop : goal.invariant-loop
invariant-loop g l = record {
  reads : ReadsOn l.fn.schema l.fn.given l.fn.names.texts.items l.fn.self l.self (g.I.Source.left l.fn.input) (g.I.Source.left l.input) l.sheets.items;
  quiet : g.I.Source.faults l.input ≡ g.I.Source.faults l.fn.input;
  few : l.self.split.fed ≤ 68719476736;
  turns : l.fn.self.split.fed + l.counter ≤ l.self.split.fed;
}
