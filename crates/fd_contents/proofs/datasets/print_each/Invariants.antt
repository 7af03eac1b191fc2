use Rattle.std.proofs.Common.{◌≡◌, ◌≤◌, List, ℕ, false, IfSome, take}
use Rattle.fd_disk.specs.Folders.{WhereTold}
use Rattle.fd_spelling.specs.Texts.{texts}
use Rattle.fd_stored.specs.Store.{IsLookedThrough}
use Rattle.fd_retrieve.specs.Ready.{AreFirmOf}
use Rattle.fd_contents.proofs.Printing.{Printed}
use Rattle.fd_contents.proofs.datasets.print_each.Given as goal

abbrev pub invariant-loop-i : goal.invariant-loop-i
invariant-loop-i g l = record {
  home : (n : List ℕ) → g.S.Store.out l.store n ≡ false;
  looks : WhereTold (g.S.Store.has l.fn.store) (g.S.Store.has l.store) IsLookedThrough;
  printed : Printed l.lines (g.S.Store.has l.fn.store) (take l.i (texts l.names)) (g.K.Sink.taken l.fn.output) (g.K.Sink.taken l.output);
  firm : IfSome (g.S.Store.has l.store) (λ i. AreFirmOf i (take l.i (texts l.names)));
  calm : g.K.Sink.faults l.output ≡ g.K.Sink.faults l.fn.output;
  later : g.S.Store.faults l.fn.store ≤ g.S.Store.faults l.store;
}
