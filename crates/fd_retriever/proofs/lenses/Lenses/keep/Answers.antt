use Rattle.std.proofs.Common.{◌≡◌, ◌∙◌, ◌⊎◌, List, Contains, subst}
use Rattle.fd_retriever.specs.Kept.{Kept}
use Rattle.fd_retriever.proofs.Caching.{cap_after, kept_after}
use Rattle.fd_retriever.proofs.lenses.Lenses.keep.Goals as goal

pub returns : goal.returns
returns g c = λ k has.
    subst (λ (ks : List Kept). Contains ks k ⊎ (k ≡ record { number = c.args.number; files = c.args.lens.files })) c.self.view_is
    (kept_after c.put.result c.self.inside.cache c.put.new.self c.args.number c.args.lens c.put.ensures.entries c.put.ensures.err k has)

pub invariant_of-self : goal.invariant_of-self
invariant_of-self g c = cap_after c.put.result c.self.inside.cache c.put.new.self c.args.number c.args.lens c.put.ensures.entries c.put.ensures.err ∙ c.self.invariant
