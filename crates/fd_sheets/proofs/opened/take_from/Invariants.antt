use Rattle.std.proofs.Common.{◌≡◌, ◌≤◌, drop, length}
use Rattle.fd_sheets.specs.Sheets.{TookFields}
use Rattle.fd_sheets.proofs.opened.take_from.Given as goal

abbrev pub invariant-loop-i : goal.invariant-loop-i
invariant-loop-i l = record {
  next : l.next ≡ l.i;
  inside : l.i ≤ length l.fields;
  took : TookFields l.number (drop l.fn.next l.fields) (drop l.i l.fields) l.fn.sheets.items l.sheets.items;
}
