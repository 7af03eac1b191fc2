use Rattle.std.proofs.Common.{ℕ, List, Contains, IfSome, map, ap, ◌∙◌, subst}
use Rattle.lru.specs.LruCache.{LruCache}
use Rattle.fd_segment.specs.Held.{Opened}
use Rattle.fd_retriever.specs.Kept.{Kept}
use Rattle.fd_retriever.proofs.Caching.{kept_of, left_kept, taken_maybe}
use Rattle.fd_retriever.proofs.lenses.Lenses.take.Goals as goal

pub returns-clause-files : goal.returns-clause-files
returns-clause-files g c =
    subst (λ (ks : List Kept). IfSome c.pop.result (λ l. Contains ks (record { number = c.args.number; files = l.files }))) c.self.view_is (taken_maybe c.self.inside.cache.entries c.args.number c.pop.result c.pop.ensures.value)

pub returns-clause-kept : goal.returns-clause-kept
returns-clause-kept g c = λ k has.
    subst (λ (ks : List Kept). Contains ks k) c.self.view_is
    (left_kept c.self.inside.cache.entries c.args.number k (subst (λ (m : LruCache ℕ Opened). Contains (map kept_of m.entries) k) c.pop.ensures.entries has))

pub invariant_of-self : goal.invariant_of-self
invariant_of-self g c = ap (λ (m : LruCache ℕ Opened). m.cap) c.pop.ensures.entries ∙ c.self.invariant
