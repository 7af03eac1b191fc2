use Rattle.std.proofs.Common.{map, subst}
use Rattle.fd_io.specs.Streams.{Takes, TakesFront}
use Rattle.fd_inventory.specs.Shown.{AreRows, kept}
use Rattle.fd_inventory.specs.Written.{shown_lines}
use Rattle.fd_outcome.specs.Rows.{list_text, rows}
use Rattle.fd_inventory.proofs.Lining.{are_list}
use Rattle.fd_inventory.proofs.Recording.{of_told, text_by}
use Rattle.fd_inventory.proofs.listing.list.Goals as goal

pub returns-in-Ok-write_rows-clause-took : goal.returns-in-Ok-write_rows-clause-took
returns-in-Ok-write_rows-clause-took g c = λ t tells.
    subst (Takes (g.K.Sink.taken c.args.sink.now) (g.K.Sink.taken c.write_rows.new.sink)) (are_list c.args.partial.now c.args.dataset.now t c.in-Ok.rows.entries (of_told c.args.snapshot.now (λ t. AreRows c.in-Ok.rows.entries (rows c.args.dataset.now c.args.partial.now t)) c.in-Ok.ensures.rows t tells)) c.in-Ok-write_rows.ensures.took

pub returns-in-Ok-write_rows-clause-recorded : goal.returns-in-Ok-write_rows-clause-recorded
returns-in-Ok-write_rows-clause-recorded g c =
    let x = shown_lines c.args.dataset.now (map kept c.in-Ok.rows.entries) in (
      x,
      text_by (list_text c.args.partial.now c.args.dataset.now) c.args.snapshot.now x (λ t. AreRows c.in-Ok.rows.entries (rows c.args.dataset.now c.args.partial.now t)) c.in-Ok.ensures.rows
          (λ t are. are_list c.args.partial.now c.args.dataset.now t c.in-Ok.rows.entries are),
      c.in-Ok-write_rows.ensures.took,
    )

pub returns-in-Err-Write-clause-front : goal.returns-in-Err-Write-clause-front
returns-in-Err-Write-clause-front g c = λ t tells.
    subst (TakesFront (g.K.Sink.taken c.args.sink.now) (g.K.Sink.taken c.write_rows.new.sink)) (are_list c.args.partial.now c.args.dataset.now t c.in-Ok.rows.entries (of_told c.args.snapshot.now (λ t. AreRows c.in-Ok.rows.entries (rows c.args.dataset.now c.args.partial.now t)) c.in-Ok.ensures.rows t tells)) c.in-Err-Write.ensures.front

pub returns-clause-front : goal.returns-clause-front
returns-clause-front g c = λ t tells.
    subst (TakesFront (g.K.Sink.taken c.args.sink.now) (g.K.Sink.taken c.write_rows.new.sink)) (are_list c.args.partial.now c.args.dataset.now t c.in-Ok.rows.entries (of_told c.args.snapshot.now (λ t. AreRows c.in-Ok.rows.entries (rows c.args.dataset.now c.args.partial.now t)) c.in-Ok.ensures.rows t tells)) c.in-Err-NoMemory.ensures.front
