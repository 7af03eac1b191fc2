use Rattle.std.specs.Prelude.{[]}
use Rattle.fd_words.specs.declared.command.Command.TheVariants as commands
use Rattle.fd_stops.proofs.ReadLemmas.{answered_by, before}
use Rattle.fd_stops.proofs.reading.stats_until.Goals as goal

pub returns-clause-before : goal.returns-clause-before
returns-clause-before g c = before (g.W.Store.Store.has c.args.objects.now.store.inner) (g.W.Store.Store.has c.stats.new.objects.store.inner) c.stats.ensures.ran.store_is

pub returns-clause-answered : goal.returns-clause-answered
returns-clause-answered g c = λ whole.
    answered_by (commands.Stats c.args.root.now) [] (g.W.Store.Store.has c.args.objects.now.store.inner) (g.W.Store.Store.has c.stats.new.objects.store.inner) c.stats.ensures.ran.store_is (c.stats.ensures.firm whole)
