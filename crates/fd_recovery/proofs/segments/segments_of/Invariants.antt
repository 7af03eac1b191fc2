use Rattle.std.proofs.Common.{◌≡◌, [], IfSome, take}
use Rattle.fd_recovery.specs.Damages.{damages}
use Rattle.fd_recovery.specs.Looking.{OnlyLooked}
use Rattle.fd_recovery.specs.Recovered.{AreTakenUp}
use Rattle.fd_segment.specs.Shared.{standings}
use Rattle.fd_recovery.proofs.segments.segments_of.Given as goal

abbrev pub invariant-loop-i : goal.invariant-loop-i
invariant-loop-i g l = record {
  taken : AreTakenUp (g.D.Folder.name l.fn.folder) (g.D.Folder.has l.fn.folder) (take l.i l.entries) (standings l.segments.items);
  sound : IfSome (g.D.Folder.has l.fn.folder) (λ v. damages v.files (take l.i l.entries) ≡ []);
  looked : OnlyLooked g.D.Folder l.fn.folder l.folder;
}
