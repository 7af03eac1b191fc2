use Rattle.std.specs.Prelude.{vec_len}
use Rattle.fd_library.specs.Open.{AreOpen}
use Rattle.fd_bulk.specs.Ending.{Ends}
use Rattle.fd_bulk.proofs.crew.Crew.end.Given as goal

abbrev pub invariant-loop-pass : goal.invariant-loop-pass
invariant-loop-pass g l = record {
  sound : AreOpen l.library;
  ends : Ends g.S.Folder.Folder.has g.S.Folder.Folder.faults g.S.Folder.Shelf.Shelf.kept l.fn.library l.library l.fn.self.passes.items l.self.passes.items l.fn.self.jobs.items l.self.jobs.items;
}

abbrev pub decreases-loop-pass : goal.decreases-loop-pass
decreases-loop-pass g l = vec_len l.self.passes
