use Rattle.std.proofs.Common.{◌≤◌, sym, subst}
use Rattle.fd_pages.proofs.Keeping.{kept_same}
use Rattle.fd_pages.proofs.paged.Paged.read_all.Goals as goal

pub invariant_of-self : goal.invariant_of-self
invariant_of-self g c =
    let s = c.self.inside in (
      subst (λ n. s.len ≤ n) (sym c.read_part.ensures.len) c.self.invariant.0,
      c.self.invariant.1,
      c.self.invariant.2,
      c.self.invariant.3,
      kept_same (g.R.Reader.bytes s.reader) (g.R.Reader.bytes c.read_part.new.file) s.cache.entries c.read_part.ensures.bytes c.self.invariant.4,
    )
