use Rattle.std.proofs.Common.{ap, ◌∙◌}
use Rattle.fd_archiver.proofs.Sealing.{none_waits, whole_put}
use Rattle.fd_archiver.proofs.archiver.Archiver.archive_field.Goals as goal

pub invariant_of-self : goal.invariant_of-self
invariant_of-self g c = (
  c.self.invariant.0,
  c.self.invariant.1,
  whole_put c.put_field.result _ c.self.inside.draft c.put_field.new.self _ _ _ (ap (λ w. w.unlisted) c.self.view_is ∙ none_waits c.unlisted.result c.args.self.now.unlisted c.if-unlisted.false c.unlisted.ensures.waits)
      c.put_field.ensures.origin c.put_field.ensures.room.0 c.put_field.ensures.room.1 c.put_field.ensures.ok c.put_field.ensures.err c.self.invariant.2,
  c.self.invariant.3,
)
