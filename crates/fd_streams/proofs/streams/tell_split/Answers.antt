use Rattle.std.proofs.Common.{◌≡◌, ◌∙◌, subst, inl, List, [], ◌∷◌, ◌++◌, ℕ, append_assoc, codes}
use Rattle.std.specs.Fmt.{decimal}
use Rattle.fd_outcome.specs.Told.{Told}
use Rattle.fd_stored.specs.declared.status.Status.TheVariants.{Done}
use Rattle.fd_streams.proofs.streams.tell_split.Goals as goal

regroup : (fields junk : List ℕ) → codes "split " ++ (fields ++ (codes " junk " ++ (junk ++ 10 ∷ []))) ≡ (((codes "split " ++ fields) ++ codes " junk ") ++ junk) ++ 10 ∷ []
regroup fields junk = simp append_assoc

pub returns-in-Ok : goal.returns-in-Ok
returns-in-Ok g c =
    inl (subst (λ (t : List ℕ). Told Done t c.tell.result (g.E.Sink.taken c.args.report.now) (g.E.Sink.taken c.tell.new.report) (g.E.Sink.faults c.args.report.now) (g.E.Sink.faults c.tell.new.report)) (c.as_str.ensures.value ∙ c.in-Ok.ensures.ok ∙ regroup (decimal c.args.tally.now.fields) (decimal c.args.tally.now.junk)) c.tell.ensures)
