use Rattle.std.proofs.Common.{◌∙◌, ap, sym, subst}
use mathlib.Core.List.{IsPrefix}
use Rattle.std.specs.Arc.{arc_value}
use Rattle.fd_turn.specs.Passes.{view}
use Rattle.fd_segment.specs.Shared.{AreOf}
use Rattle.fd_dataset.proofs.Lists.{about, listings_standing}
use Rattle.fd_dataset.proofs.dataset.Dataset.snapshot.Goals as goal

pub returns-clause-ok : goal.returns-clause-ok
returns-clause-ok g c = c.in_ok-segments.ensures.ok ∙ ap (λ h. record (view c.args.pass.now) { history = h }) (sym (listings_standing (arc_value c.in_ok-segments.segments.shown).list.items))

pub returns-clause-seen : goal.returns-clause-seen
returns-clause-seen g c = subst (IsPrefix c.args.pass.now.seat.me.0.history) (sym (listings_standing (arc_value c.in_ok-segments.segments.shown).list.items)) c.in_ok-segments.ensures.seen

pub returns-clause-subject : goal.returns-clause-subject
returns-clause-subject g c =
    let shown = arc_value c.in_ok-segments.segments.shown in
    about (view c.args.pass.now).subject shown.list.items (subst (λ n. AreOf n shown.list.items) c.in_ok-segments.ensures.subject shown.own)
