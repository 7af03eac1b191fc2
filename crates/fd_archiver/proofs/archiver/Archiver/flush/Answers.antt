use Rattle.fd_archiver.proofs.Listing.{lists_from}
use Rattle.fd_archiver.proofs.archiver.Archiver.flush.Goals as goal

pub returns-then-branch-clause-listed : goal.returns-then-branch-clause-listed
returns-then-branch-clause-listed g c = λ r is. lists_from g.H.Shelf.kept c.args.self.now c.made_ready.new.self c.list_kept.new.self _ _ _ c.made_ready.ensures.same c.made_ready.ensures.number c.made_ready.ensures.pending (c.list_kept.ensures.listed r is)
