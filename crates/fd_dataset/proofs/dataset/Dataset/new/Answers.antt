use Rattle.std.proofs.Common.{rules, ◌≡◌, List, ℕ, subst}
use Rattle.fd_segment.specs.Shared.{AreOf}
use Rattle.fd_dataset.proofs.dataset.Dataset.new.Goals as goal

pub invariant_of-new : goal.invariant_of-new
invariant_of-new g c =
    let same : g.T.Disk.name c.args.toc.table ≡ c.in-Ok-from_slice.name = search rules in
    record { own = subst (λ (n : List ℕ). AreOf n c.in-Ok.list.items) same (c.in-Ok.ensures.of (g.T.Disk.name c.args.toc.table) c.requires.names) }
