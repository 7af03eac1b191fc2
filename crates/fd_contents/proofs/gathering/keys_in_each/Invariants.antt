use Rattle.std.proofs.Common.{◌≡◌, ◌≤◌, IfSome, List, ℕ, false, take}
use Rattle.fd_disk.specs.Folders.{WhereTold}
use Rattle.fd_spelling.specs.Texts.{texts}
use Rattle.fd_stored.specs.Store.{IsLookedThrough}
use Rattle.fd_retrieve.specs.Ready.{NoneIsDamaged}
use Rattle.fd_contents.proofs.Gathered.{Gathered}
use Rattle.fd_contents.proofs.gathering.keys_in_each.Given as goal

abbrev pub invariant-loop-i : goal.invariant-loop-i
invariant-loop-i g l = record {
  home : (n : List ℕ) → g.S.Store.out l.store n ≡ false;
  looks : WhereTold (g.S.Store.has l.fn.store) (g.S.Store.has l.store) IsLookedThrough;
  undamaged : IfSome (g.S.Store.has l.fn.store) (λ h. NoneIsDamaged h (take l.i (texts l.names)));
  found : Gathered l.partial (g.S.Store.has l.fn.store) (take l.i (texts l.names)) l.found;
  later : g.S.Store.faults l.fn.store ≤ g.S.Store.faults l.store;
}
