use Rattle.std.proofs.Common.{ℕ, List}
use Rattle.fd_disk.proofs.MomentLemmas.{started}
use Rattle.fd_toc.specs.Lists.{ListsOrAlso}
use Rattle.fd_toc.proofs.CallSteps.{now_leaves}
use Rattle.fd_toc.proofs.toc.Toc.settle.Goals as goal

pub returns-clause-any_moment : goal.returns-clause-any_moment
returns-clause-any_moment g c =
    let d = c.self.inside.dataset in
    let es = c.self.inside.entries.items in
    let P : List ℕ → Type 0 = ListsOrAlso d es c.self.inside.doubt in
    rw (← c.self.view_is)
    (started g.T.Disk.moment g.T.Disk.left_since c.self.inside.table P
    (λ f left. now_leaves d es (g.T.Disk.file c.self.inside.table) c.self.inside.doubt c.self.inside.staged f c.self.invariant.sound ((g.met.T.Disk g.world.𝓛 g.world.𝓜 g.world.𝓡 ((λ s x. x), (λ x. x), (λ x. x), λ x. x)).only_now c.self.inside.table f left)))
