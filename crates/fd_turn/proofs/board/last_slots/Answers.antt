use Rattle.std.proofs.Common.{ap, ◌∙◌, sym}
use lib.ListN.{get_elem?}
use Rattle.fd_turn.specs.Seats.{subject_by}
use Rattle.fd_turn.proofs.Ends.{ends, ended_as}
use Rattle.fd_turn.proofs.board.last_slots.Goals as goal

pub returns : goal.returns
returns g c = ended_as _ _ g.V.Handed.list g.V.Handed.subject g.W.Guarded.list g.W.Guarded.doubt (subject_by g.W.Guarded.subject g.W.Guarded.told) _ _ _ _
    (ends _ _ g.V.Handed.list g.V.Handed.subject g.W.Guarded.list g.W.Guarded.doubt (subject_by g.W.Guarded.subject g.W.Guarded.told) _ _ _ _ c.requires.rests.0 c.requires.rests.1 c.requires.all c.close_with-closed.ensures.values.2)
    c.take-value.ensures.value (ap (λ l. get_elem? l 1) (sym c.take-value.ensures.others.0) ∙ c.take-state.ensures.value)
