use Rattle.std.specs.Prelude.{◌≡◌, length, vec_len}
use Rattle.fd_turn.specs.Passes.{BoardId}
use Rattle.fd_library.specs.Open.{OpenDataset}
use Rattle.fd_play.specs.Staff.{IsSole}
use Rattle.fd_play.proofs.Handing.{Halfway}
use Rattle.fd_play.proofs.staff.hand_back.Given as goal

abbrev pub invariant-loop-archiver : goal.invariant-loop-archiver
invariant-loop-archiver g l = (b : BoardId) (h : OpenDataset g.row.S-Folder.Denot) → IsSole l.fn.library b h → h.lent ≡ length l.fn.archivers.items → Halfway g.S.Folder.Folder.has g.S.Folder.Shelf.Shelf.kept b h l.library l.fn.archivers.items l.archivers.items

abbrev pub decreases-loop-archiver : goal.decreases-loop-archiver
decreases-loop-archiver g l = vec_len l.archivers
