use Rattle.std.proofs.Common.{◌≡◌, ◌≤◌, List, ℕ, false, IfSome, take}
use Rattle.fd_disk.specs.Folders.{WhereTold}
use Rattle.fd_spelling.specs.Texts.{texts}
use Rattle.fd_stored.specs.Store.{Stays}
use Rattle.fd_retrieve.specs.Looking.{IsLookedThrough}
use Rattle.fd_retrieve.specs.Ready.{AreFirmOf, AreOpen, NoneIsDamaged}
use Rattle.fd_retrieve.proofs.preparing.open_all.Given as goal

abbrev pub invariant-loop-i : goal.invariant-loop-i
invariant-loop-i g l = record {
  home : (n : List ℕ) → g.S.Store.out l.store n ≡ false;
  stays : WhereTold (g.S.Store.has l.fn.store) (g.S.Store.has l.store) Stays;
  looks : WhereTold (g.S.Store.has l.fn.store) (g.S.Store.has l.store) IsLookedThrough;
  opened : IfSome (g.S.Store.has l.fn.store) (λ h. AreOpen h (take l.i (texts l.names)) l.opened.items);
  undamaged : IfSome (g.S.Store.has l.fn.store) (λ h. NoneIsDamaged h (take l.i (texts l.names)));
  firm : IfSome (g.S.Store.has l.store) (λ i. AreFirmOf i (take l.i (texts l.names)));
  later : g.S.Store.faults l.fn.store ≤ g.S.Store.faults l.store;
}
