use Rattle.std.proofs.Common.{Err, ap}
use Rattle.fd_turn.specs.Passes.{view}
use Rattle.fd_shares.proofs.Storing.{list_err, list_ok, number_left, writer_fits}
use Rattle.fd_shares.proofs.working.list.Goals as goal

pub flush-requires-clause-writer : goal.flush-requires-clause-writer
flush-requires-clause-writer g c κs within = writer_fits g.H.Shelf.kept c.requires.can.0 c.args.archiver.now (view c.args.pass.now) c.requires.can.1

pub flush-requires-clause-left : goal.flush-requires-clause-left
flush-requires-clause-left g c κs within = number_left g.H.Shelf.kept c.requires.can.0 c.args.archiver.now (view c.args.pass.now) c.requires.can.1

pub returns-in-Ok-clause-lists : goal.returns-in-Ok-clause-lists
returns-in-Ok-clause-lists g c =
    let e = c.flush.ensures in
    λ pairs works. list_ok g.H.Shelf.kept g.row.F.Denot pairs c.args.archiver.now c.flush.new.self (view c.args.pass.now) (view c.flush.new.pass) works e.seen e.rest e.same e.others c.in-Ok.field-0 e.numbers c.in-Ok.ensures.nothing.0 c.in-Ok.ensures.idle c.in-Ok.ensures.listed c.in-Ok.ensures.counted c.in-Ok.ensures.sure c.in-Ok.ensures.emptied c.in-Ok.ensures.full

pub returns-in-Err-clause-lists : goal.returns-in-Err-clause-lists
returns-in-Err-clause-lists g c =
    let e = c.flush.ensures in
    let i = c.in-Err.ensures in
    λ pairs works. list_err g.H.Shelf.kept g.row.F.Denot pairs c.args.archiver.now c.flush.new.self (view c.args.pass.now) (view c.flush.new.pass) works e.seen e.rest e.same e.others c.in-Err.fault i.pending i.refused i.full i.doubts i.cause c.waiting_is_kept.ensures.writer (λ count is. let r = i.waits count (ap (λ e. Err e) is) in (r.segment, r.waits))
