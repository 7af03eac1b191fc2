use Rattle.fd_turn.specs.Passes.{IsSame, view}
use Rattle.fd_library.specs.Calls.{Changes}
use Rattle.fd_library.specs.Open.{AreOpen}
use Rattle.fd_bulk.specs.Ending.{HandsAll, IsShorter, column}
use Rattle.fd_bulk.specs.Halting.{Each}
use Rattle.fd_bulk.proofs.Turns.{Turned}
use Rattle.std.specs.Prelude.{take}
use Rattle.fd_bulk.proofs.handing.hand_back_all.Given as goal

abbrev pub invariant-loop-w : goal.invariant-loop-w
invariant-loop-w g l = record {
  sound : AreOpen l.library;
  own : IsSame l.fn.pass l.pass;
  jobs : Each (Turned (IsShorter l.number) l.w) l.fn.jobs l.jobs;
  handed : Changes l.number l.fn.library l.library (λ h k. HandsAll g.S.Folder.Folder.has g.S.Folder.Folder.faults g.S.Folder.Shelf.Shelf.kept (column l.number (take l.w l.fn.jobs)) h k (view l.fn.pass) (view l.pass));
}
