use Rattle.std.proofs.Common.{◌≡◌, ◌≤◌, List, ℕ, false, IfSome, length, take}
use Rattle.fd_disk.specs.Folders.{WhereTold}
use Rattle.fd_spelling.specs.Texts.{texts}
use Rattle.fd_stored.specs.Store.{Stays}
use Rattle.fd_retrieve.specs.Looking.{IsLookedThrough}
use Rattle.fd_retrieve.specs.Tables.{AreSome, AreTables, datasets_in}
use Rattle.fd_retrieve.proofs.tables.tables_of.Given as goal

abbrev pub invariant-loop-i : goal.invariant-loop-i
invariant-loop-i g l = record {
  home : (n : List ℕ) → g.S.Store.out l.store n ≡ false;
  stays : WhereTold (g.S.Store.has l.fn.store) (g.S.Store.has l.store) Stays;
  looks : WhereTold (g.S.Store.has l.fn.store) (g.S.Store.has l.store) IsLookedThrough;
  few : length l.names.items ≤ 2048;
  tables : IfSome (g.S.Store.has l.fn.store) (λ h. AreTables h (take l.i (datasets_in l.places)) (texts l.names.items));
  some : AreSome (take l.i (datasets_in l.places)) (texts l.names.items);
  later : g.S.Store.faults l.fn.store ≤ g.S.Store.faults l.store;
}
