use Rattle.std.proofs.Common.{ℕ, ◌≡◌, ◌<◌, ◌≤◌, get_or}
use Rattle.fd_sheets.specs.declared.sheets.Sheet.{Sheet}
use Rattle.fd_sheets.specs.Sheets.{IsLookedUp}
use Rattle.fd_sheets.proofs.sheets.look_up_share.Given as goal

abbrev pub invariant-loop-i : goal.invariant-loop-i
invariant-loop-i l = record {
  rest : (j : ℕ) (e : Sheet) → l.i ≤ j → get_or l.sheets j e ≡ get_or l.initial.sheets j e;
  done : (j : ℕ) (e : Sheet) → j < l.i → IsLookedUp l.schema l.given (get_or l.initial.sheets j e) (get_or l.sheets j e);
}
