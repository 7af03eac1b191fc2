use Rattle.fd_words.specs.declared.command.Command.TheVariants as commands
use Rattle.fd_stops.proofs.ReadLemmas.{answered, before}
use Rattle.fd_stops.proofs.reading.axes_until.Goals as goal

pub returns-clause-before : goal.returns-clause-before
returns-clause-before g c = before (g.W.Store.Store.has c.args.objects.now.store.inner) (g.W.Store.Store.has c.axes.new.objects.store.inner) c.axes.ensures.lists.ran.store_is

pub returns-clause-answered : goal.returns-clause-answered
returns-clause-answered g c = λ whole.
    answered (commands.Axes c.args.root.now) (g.W.Input.Source.left c.args.objects.now.input) (g.W.Store.Store.has c.args.objects.now.store.inner) (g.W.Store.Store.has c.axes.new.objects.store.inner) c.axes.ensures.lists.ran.store_is (c.axes.ensures.lists.firm whole)
