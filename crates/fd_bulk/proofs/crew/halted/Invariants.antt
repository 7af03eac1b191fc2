use Rattle.std.specs.Prelude.{◌≡◌, ◌≤◌, IfSome}
use Rattle.fd_bytes.specs.Causes.{Rose}
use Rattle.fd_bulk.specs.Halting.{Each, HaltedSo, IsQuiet, OnStore}
use Rattle.fd_bulk.proofs.Turns.{Turned}
use Rattle.fd_bulk.proofs.crew.halted.Given as goal

abbrev pub invariant-loop-w : goal.invariant-loop-w
invariant-loop-w g l = record {
  quiet : Each (Turned IsQuiet l.w) l.fn.jobs l.jobs;
  found : HaltedSo l.w l.fn.jobs l.first;
  has : g.S.Store.has l.store ≡ g.S.Store.has l.fn.store;
  out : g.S.Store.out l.store ≡ g.S.Store.out l.fn.store;
  cause : IfSome l.first (λ h. OnStore h.fault (Rose (g.S.Store.faults l.fn.store) (g.S.Store.faults l.store)));
  later : g.S.Store.faults l.fn.store ≤ g.S.Store.faults l.store;
}
