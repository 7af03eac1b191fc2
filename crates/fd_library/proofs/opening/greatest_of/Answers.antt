use Rattle.std.proofs.Common.{rules, ◌≤◌, ◌∙◌, All, ap, subst}
use Rattle.std.proofs.lemmas.List.{take_all}
use Rattle.fd_entries.specs.declared.table.Entry.{Entry}
use Rattle.fd_library.specs.Answers.{greatest_listed}
use Rattle.fd_library.proofs.Named.{greatest_more, greatest_next, larger_bound}
use Rattle.fd_library.proofs.opening.greatest_of.Goals as goal

pub loop-entry-preserved : goal.loop-entry-preserved
loop-entry-preserved c = (
  greatest_more c.args.entries.now c.loop-entry.entry-index c.loop-entry.last _ _ (search rules) c.loop-entry.invariant.0 c.larger-last.ensures.first c.larger-last.ensures.second,
  larger_bound c.args.entries.now c.loop-entry.entry-index c.loop-entry.last c.larger-last.result _ c.requires (search rules) c.loop-entry.invariant.1 c.larger-last.ensures.either,
  greatest_next c.args.entries.now c.loop-entry.entry-index c.loop-entry.last c.larger-last.result _ (search rules) c.loop-entry.invariant.2 c.larger-last.ensures.first c.larger-last.ensures.second c.larger-last.ensures.either,
)

pub returns-clause-all : goal.returns-clause-all
returns-clause-all c = subst (All (λ (e : Entry). e.writer ≤ c.loop-entry.last)) (take_all c.loop-entry.entry-index c.args.entries.now (search rules)) c.loop-entry.invariant.0

pub returns-clause-last : goal.returns-clause-last
returns-clause-last c = c.loop-entry.invariant.2 ∙ ap greatest_listed (take_all c.loop-entry.entry-index c.args.entries.now (search rules))
