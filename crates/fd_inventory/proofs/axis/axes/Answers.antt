use Rattle.std.proofs.Common.{subst}
use Rattle.fd_io.specs.Streams.{Takes, TakesFront}
use Rattle.fd_outcome.specs.Rows.{axes_text, rows}
use Rattle.fd_inventory.specs.Axes.{axes_lines, seen_axes}
use Rattle.fd_inventory.proofs.AxesOf.{are_axes, rows_data}
use Rattle.fd_inventory.specs.Shown.{AreRows}
use Rattle.fd_inventory.proofs.Recording.{of_told, text_by}
use Rattle.fd_inventory.proofs.axis.axes.Goals as goal

pub returns-in-Ok-write_axes-clause-took : goal.returns-in-Ok-write_axes-clause-took
returns-in-Ok-write_axes-clause-took g c = λ t tells.
    subst (Takes (g.K.Sink.taken c.args.sink.now) (g.K.Sink.taken c.write_axes.new.sink))
    (are_axes c.args.partial.now c.args.dataset.now t c.in-Ok-axes_of.axes.entries (c.in-Ok-axes_of.ensures (rows c.args.dataset.now c.args.partial.now t) (rows_data c.args.dataset.now c.args.partial.now t) (of_told c.args.snapshot.now (λ t. AreRows c.in-Ok.rows.entries (rows c.args.dataset.now c.args.partial.now t)) c.in-Ok.ensures.rows t tells)))
    c.in-Ok-write_axes.ensures.took

pub returns-in-Ok-write_axes-clause-recorded : goal.returns-in-Ok-write_axes-clause-recorded
returns-in-Ok-write_axes-clause-recorded g c =
    let x = axes_lines c.args.dataset.now (seen_axes c.in-Ok-axes_of.axes.entries) in (
      x,
      text_by (axes_text c.args.partial.now c.args.dataset.now) c.args.snapshot.now x (λ t. AreRows c.in-Ok.rows.entries (rows c.args.dataset.now c.args.partial.now t)) c.in-Ok.ensures.rows
          (λ t are. are_axes c.args.partial.now c.args.dataset.now t c.in-Ok-axes_of.axes.entries (c.in-Ok-axes_of.ensures (rows c.args.dataset.now c.args.partial.now t) (rows_data c.args.dataset.now c.args.partial.now t) are)),
      c.in-Ok-write_axes.ensures.took,
    )

pub returns-in-Err-Write-clause-front : goal.returns-in-Err-Write-clause-front
returns-in-Err-Write-clause-front g c = λ t tells.
    subst (TakesFront (g.K.Sink.taken c.args.sink.now) (g.K.Sink.taken c.write_axes.new.sink))
    (are_axes c.args.partial.now c.args.dataset.now t c.in-Ok-axes_of.axes.entries (c.in-Ok-axes_of.ensures (rows c.args.dataset.now c.args.partial.now t) (rows_data c.args.dataset.now c.args.partial.now t) (of_told c.args.snapshot.now (λ t. AreRows c.in-Ok.rows.entries (rows c.args.dataset.now c.args.partial.now t)) c.in-Ok.ensures.rows t tells)))
    c.in-Err-Write.ensures.front

pub returns-clause-front : goal.returns-clause-front
returns-clause-front g c = λ t tells.
    subst (TakesFront (g.K.Sink.taken c.args.sink.now) (g.K.Sink.taken c.write_axes.new.sink))
    (are_axes c.args.partial.now c.args.dataset.now t c.in-Ok-axes_of.axes.entries (c.in-Ok-axes_of.ensures (rows c.args.dataset.now c.args.partial.now t) (rows_data c.args.dataset.now c.args.partial.now t) (of_told c.args.snapshot.now (λ t. AreRows c.in-Ok.rows.entries (rows c.args.dataset.now c.args.partial.now t)) c.in-Ok.ensures.rows t tells)))
    c.in-Err-NoMemory.ensures.front
