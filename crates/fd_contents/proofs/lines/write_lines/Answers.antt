use Rattle.fd_io.specs.Streams.{TakesFront}
use Rattle.fd_contents.proofs.Opened.{axes_taken, axes_took, list_taken, list_took, on_err, on_ok, stats_taken, stats_took}
use Rattle.fd_contents.proofs.lines.write_lines.Goals as goal

pub returns-in-List-clause-printed : goal.returns-in-List-clause-printed
returns-in-List-clause-printed g c = on_ok (list_taken c.args.dataset.now c.args.lines.now c.snapshot.result.now c.name-name.result.now (g.K.Sink.taken c.args.sink.now) (g.K.Sink.taken c.list.new.sink) c.snapshot.ensures c.name-name.ensures c.in-List.partial c.in-List.is) c.list.result c.list.ensures.recorded

pub returns-in-List-clause-front : goal.returns-in-List-clause-front
returns-in-List-clause-front g c = on_err (list_took c.args.dataset.now c.args.lines.now c.snapshot.result.now c.name-name.result.now (TakesFront (g.K.Sink.taken c.args.sink.now) (g.K.Sink.taken c.list.new.sink)) c.snapshot.ensures c.name-name.ensures c.in-List.partial c.in-List.is) c.list.result c.list.ensures.front

pub returns-in-Axes-clause-printed : goal.returns-in-Axes-clause-printed
returns-in-Axes-clause-printed g c = on_ok (axes_taken c.args.dataset.now c.args.lines.now c.snapshot-in-Axes.result.now c.name-name.result.now (g.K.Sink.taken c.args.sink.now) (g.K.Sink.taken c.axes.new.sink) c.snapshot-in-Axes.ensures c.name-name.ensures c.in-Axes.partial c.in-Axes.is) c.axes.result c.axes.ensures.recorded

pub returns-in-Axes-clause-front : goal.returns-in-Axes-clause-front
returns-in-Axes-clause-front g c = on_err (axes_took c.args.dataset.now c.args.lines.now c.snapshot-in-Axes.result.now c.name-name.result.now (TakesFront (g.K.Sink.taken c.args.sink.now) (g.K.Sink.taken c.axes.new.sink)) c.snapshot-in-Axes.ensures c.name-name.ensures c.in-Axes.partial c.in-Axes.is) c.axes.result c.axes.ensures.front

pub returns-in-Stats-clause-printed : goal.returns-in-Stats-clause-printed
returns-in-Stats-clause-printed g c = on_ok (stats_taken c.args.dataset.now c.args.lines.now c.snapshot-in-Stats.result.now c.name-name.result.now (g.K.Sink.taken c.args.sink.now) (g.K.Sink.taken c.stats.new.sink) c.snapshot-in-Stats.ensures c.name-name.ensures c.in-Stats.is) c.stats.result c.stats.ensures.recorded

pub returns-in-Stats-clause-front : goal.returns-in-Stats-clause-front
returns-in-Stats-clause-front g c = on_err (stats_took c.args.dataset.now c.args.lines.now c.snapshot-in-Stats.result.now c.name-name.result.now (TakesFront (g.K.Sink.taken c.args.sink.now) (g.K.Sink.taken c.stats.new.sink)) c.snapshot-in-Stats.ensures c.name-name.ensures c.in-Stats.is) c.stats.result c.stats.ensures.front
