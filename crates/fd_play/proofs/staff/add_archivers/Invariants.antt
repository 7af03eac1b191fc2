use Rattle.std.proofs.Common.{◌≡◌, length}
use Rattle.std.specs.Vec.{vec_capacity}
use Rattle.fd_turn.specs.Passes.{BoardId}
use Rattle.fd_library.specs.Open.{OpenDataset}
use Rattle.fd_play.specs.Staff.{IsSole, Staffs}
use Rattle.fd_play.proofs.staff.add_archivers.Given as goal

abbrev pub invariant-loop-i : goal.invariant-loop-i
invariant-loop-i g l = record {
  long : length l.archivers.items ≡ l._i;
  room : vec_capacity l.archivers ≡ l.count;
  course : (b : BoardId) (h : OpenDataset g.row.S-Folder.Denot) → IsSole l.fn.library b h → Staffs g.S.Folder.Folder.has b h l.library l.archivers.items;
}
