use Rattle.fd_toc.proofs.CallSteps.{now_leaves}
use Rattle.fd_toc.proofs.toc.Toc.into_table.Goals as goal

pub returns-clause-images : goal.returns-clause-images
returns-clause-images g c =
    rw (← c.self.view_is)
    (λ f image. now_leaves c.self.inside.dataset c.self.inside.entries.items (g.T.Disk.file c.self.inside.table) c.self.inside.doubt c.self.inside.staged f c.self.invariant.sound image)
