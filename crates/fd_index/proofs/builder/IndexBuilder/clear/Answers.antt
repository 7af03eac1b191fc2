use Rattle.std.proofs.Common.{[], ℕ, ap, ◌∙◌, arith}
use Rattle.fd_region.specs.Held.{Held as Texts}
use Rattle.fd_index.proofs.Placing.{none_stand, sound_at_first}
use Rattle.fd_index.proofs.builder.IndexBuilder.clear.Goals as goal

pub invariant_of-self : goal.invariant_of-self
invariant_of-self c =
    let room = c.self.inside.texts.room in
    let cleared : ℕ → Texts = λ most. record { texts = []; left = room; room = room; most = most } in
    sound_at_first _ room (c.clear.ensures ∙ ap cleared c.self.invariant.most) c.clear-2.ensures.items c.self.invariant.small (omega (arith, c.self.invariant.kept, c.clear-2.ensures.capacity))

pub returns-clause-no_puts : goal.returns-clause-no_puts
returns-clause-no_puts c = none_stand _ _ c.clear-2.ensures.items
