use Rattle.std.proofs.Common.{◌≡◌, All, IfErr, true, false, refl, subst, arith}
use Rattle.fd_bytes.specs.Causes.{Rose}
use Rattle.fd_split.specs.Positions.{fed_at}
use Rattle.fd_sheets.specs.Names.{IsKnown}
use Rattle.fd_sheets.specs.Reading.{StopsAs, is_unread as sheets_unread}
use Rattle.fd_bulk.specs.Inputs.{is_calm, is_unread}
use Rattle.fd_bulk.proofs.Readings.{batch_dealt_at, deal_quiet, fed_going, few_middle, going_batch, not_both, not_unread, ok_so, stayed, stop_ends, stop_quiet, stop_read, stopped_batch, stopped_here, went_batch}
use Rattle.fd_bulk.proofs.Standing.{stop_store, store_before}
use Rattle.fd_bulk.proofs.bulk.Terms.deal_batch.Goals as goal

pub deal_sheets-requires-clause-can : goal.deal_sheets-requires-clause-can
deal_sheets-requires-clause-can g c κs within =
    let r = c.requires.can in
    let w = c.in-Ok.ensures.goes c.args.self.now.schema.now c.args.self.now.given.now c.args.reader.now r.0 r.1.0 r.1.1.0 c.requires.few r.1.1.1 in
    let h = c.in-Ok.ensures.reads.reads in
    record {
      rules = c.args.self.now.schema.now;
      given = c.args.self.now.given.now;
      from = fed_at c.args.reader.now h.came;
      to = h.middle;
      few = h.few;
      placed = h.placed;
      start = r.0;
      all = w.all;
      waiting = w.waiting;
      going = fed_going g.S.Folder.Folder.has g.S.Folder.Shelf.Shelf.kept c.args.self.now.schema.now c.args.self.now.given.now (g.I.Source.left c.args.input.now) r.0 (g.S.Store.has c.read_batch.new.store) c.args.library.now c.read_batch.new.crew.passes.items c.read_batch.new.crew.jobs.items c.read_batch.new.crew.parcels.items c.args.reader.now (fed_at c.args.reader.now h.came) h.came w.all w.waiting refl w.going;
    }

pub returns-in-Err-clause-deals : goal.returns-in-Err-clause-deals
returns-in-Err-clause-deals g c = λ left start m.
    stopped_here g.S.Folder.Folder.has g.S.Folder.Shelf.Shelf.kept c.args.self.now.schema.now c.args.self.now.given.now left start (g.S.Store.has c.args.store.now) (g.I.Source.left c.args.input.now) c.args.library.now c.args.crew.now.passes.items c.args.crew.now.jobs.items c.args.crew.now.parcels.items c.args.reader.now m c.in-Err.fault (g.I.Source.left c.read_batch.new.input) (g.S.Store.has c.read_batch.new.store) c.read_batch.new.crew.passes.items c.read_batch.new.crew.jobs.items c.read_batch.new.crew.parcels.items c.requires.few (c.in-Err.ensures.goes c.args.self.now.schema.now c.args.self.now.given.now c.args.reader.now start m.all m.waiting c.requires.few m.going)

pub returns-in-Err-deal_sheets-clause-deals : goal.returns-in-Err-deal_sheets-clause-deals
returns-in-Err-deal_sheets-clause-deals g c = λ left start m.
    let b = c.in-Ok.ensures in
    let h = b.reads.reads in
    let batch = c.in-Ok.batch in
    let n = stayed g.S.Folder.Folder.has g.S.Folder.Shelf.Shelf.kept c.args.self.now.schema.now c.args.self.now.given.now left start (g.S.Store.has c.args.store.now) (g.I.Source.left c.args.input.now) c.args.library.now c.args.crew.now.passes.items c.args.crew.now.jobs.items c.args.crew.now.parcels.items c.args.reader.now m (g.S.Store.has c.read_batch.new.store) c.read_batch.new.crew.passes.items c.read_batch.new.crew.jobs.items c.read_batch.new.crew.parcels.items (b.goes c.args.self.now.schema.now c.args.self.now.given.now c.args.reader.now start m.all m.waiting c.requires.few m.going) in
    stopped_batch g.S.Folder.Folder.has g.S.Folder.Shelf.Shelf.kept c.args.self.now.schema.now c.args.self.now.given.now left start (g.S.Store.has c.read_batch.new.store) (g.I.Source.left c.args.input.now) c.args.library.now c.read_batch.new.crew.passes.items c.read_batch.new.crew.jobs.items c.read_batch.new.crew.parcels.items c.args.reader.now n c.read_batch.new.reader (g.I.Source.left c.read_batch.new.input) batch.sheets.items batch.end h (g.S.Store.has c.deal_sheets.new.store) c.deal_sheets.new.library c.deal_sheets.new.crew.passes.items c.deal_sheets.new.crew.jobs.items c.deal_sheets.new.crew.parcels.items c.in-Err-deal_sheets.fault (c.in-Err-deal_sheets.ensures.goes c.args.self.now.schema.now c.args.self.now.given.now (fed_at c.args.reader.now h.came) h.middle start n.all n.waiting h.few h.placed (going_batch g.S.Folder.Folder.has g.S.Folder.Shelf.Shelf.kept c.args.self.now.schema.now c.args.self.now.given.now left start (g.S.Store.has c.read_batch.new.store) (g.I.Source.left c.args.input.now) c.args.library.now c.read_batch.new.crew.passes.items c.read_batch.new.crew.jobs.items c.read_batch.new.crew.parcels.items c.args.reader.now n c.read_batch.new.reader (g.I.Source.left c.read_batch.new.input) batch.sheets.items batch.end h))

pub returns-in-Err-end-clause-deals : goal.returns-in-Err-end-clause-deals
returns-in-Err-end-clause-deals g c = λ left start m.
    let b = c.in-Ok.ensures in
    let h = b.reads.reads in
    let batch = c.in-Ok.batch in
    let n = stayed g.S.Folder.Folder.has g.S.Folder.Shelf.Shelf.kept c.args.self.now.schema.now c.args.self.now.given.now left start (g.S.Store.has c.args.store.now) (g.I.Source.left c.args.input.now) c.args.library.now c.args.crew.now.passes.items c.args.crew.now.jobs.items c.args.crew.now.parcels.items c.args.reader.now m (g.S.Store.has c.read_batch.new.store) c.read_batch.new.crew.passes.items c.read_batch.new.crew.jobs.items c.read_batch.new.crew.parcels.items (b.goes c.args.self.now.schema.now c.args.self.now.given.now c.args.reader.now start m.all m.waiting c.requires.few m.going) in
    let v = went_batch g.S.Folder.Folder.has g.S.Folder.Shelf.Shelf.kept c.args.self.now.schema.now c.args.self.now.given.now left start (g.S.Store.has c.read_batch.new.store) (g.I.Source.left c.args.input.now) c.args.library.now c.read_batch.new.crew.passes.items c.read_batch.new.crew.jobs.items c.read_batch.new.crew.parcels.items c.args.reader.now n c.read_batch.new.reader (g.I.Source.left c.read_batch.new.input) batch.sheets.items batch.end h (g.S.Store.has c.deal_sheets.new.store) c.deal_sheets.new.library c.deal_sheets.new.crew.passes.items c.deal_sheets.new.crew.jobs.items c.deal_sheets.new.crew.parcels.items (c.in-Ok-deal_sheets.ensures.goes c.args.self.now.schema.now c.args.self.now.given.now (fed_at c.args.reader.now h.came) h.middle start n.all n.waiting h.few h.placed (going_batch g.S.Folder.Folder.has g.S.Folder.Shelf.Shelf.kept c.args.self.now.schema.now c.args.self.now.given.now left start (g.S.Store.has c.read_batch.new.store) (g.I.Source.left c.args.input.now) c.args.library.now c.read_batch.new.crew.passes.items c.read_batch.new.crew.jobs.items c.read_batch.new.crew.parcels.items c.args.reader.now n c.read_batch.new.reader (g.I.Source.left c.read_batch.new.input) batch.sheets.items batch.end h)) in
    let few = few_middle g.S.Folder.Folder.has g.S.Folder.Shelf.Shelf.kept c.args.self.now.schema.now c.args.self.now.given.now left start (g.S.Store.has c.read_batch.new.store) (g.I.Source.left c.args.input.now) c.args.library.now c.read_batch.new.crew.passes.items c.read_batch.new.crew.jobs.items c.read_batch.new.crew.parcels.items c.args.reader.now n c.read_batch.new.reader (g.I.Source.left c.read_batch.new.input) batch.sheets.items batch.end h in
    let s = subst (λ e. StopsAs h.middle c.read_batch.new.reader h.mid (g.I.Source.left c.read_batch.new.input) e) c.in-Err-end.is h.stops in
    stop_ends g.S.Folder.Folder.has g.S.Folder.Shelf.Shelf.kept c.args.self.now.schema.now c.args.self.now.given.now left start (g.S.Store.has c.deal_sheets.new.store) h.mid c.deal_sheets.new.library c.deal_sheets.new.crew.passes.items c.deal_sheets.new.crew.jobs.items c.deal_sheets.new.crew.parcels.items h.middle v c.in-Err-end.stop c.stopped.result c.read_batch.new.reader (g.I.Source.left c.read_batch.new.input) c.stopped.ensures s few

pub returns-in-Ok-end-clause-deals : goal.returns-in-Ok-end-clause-deals
returns-in-Ok-end-clause-deals g c = λ left start m.
    let b = c.in-Ok.ensures in
    let h = b.reads.reads in
    let batch = c.in-Ok.batch in
    let n = stayed g.S.Folder.Folder.has g.S.Folder.Shelf.Shelf.kept c.args.self.now.schema.now c.args.self.now.given.now left start (g.S.Store.has c.args.store.now) (g.I.Source.left c.args.input.now) c.args.library.now c.args.crew.now.passes.items c.args.crew.now.jobs.items c.args.crew.now.parcels.items c.args.reader.now m (g.S.Store.has c.read_batch.new.store) c.read_batch.new.crew.passes.items c.read_batch.new.crew.jobs.items c.read_batch.new.crew.parcels.items (b.goes c.args.self.now.schema.now c.args.self.now.given.now c.args.reader.now start m.all m.waiting c.requires.few m.going) in
    let v = went_batch g.S.Folder.Folder.has g.S.Folder.Shelf.Shelf.kept c.args.self.now.schema.now c.args.self.now.given.now left start (g.S.Store.has c.read_batch.new.store) (g.I.Source.left c.args.input.now) c.args.library.now c.read_batch.new.crew.passes.items c.read_batch.new.crew.jobs.items c.read_batch.new.crew.parcels.items c.args.reader.now n c.read_batch.new.reader (g.I.Source.left c.read_batch.new.input) batch.sheets.items batch.end h (g.S.Store.has c.deal_sheets.new.store) c.deal_sheets.new.library c.deal_sheets.new.crew.passes.items c.deal_sheets.new.crew.jobs.items c.deal_sheets.new.crew.parcels.items (c.in-Ok-deal_sheets.ensures.goes c.args.self.now.schema.now c.args.self.now.given.now (fed_at c.args.reader.now h.came) h.middle start n.all n.waiting h.few h.placed (going_batch g.S.Folder.Folder.has g.S.Folder.Shelf.Shelf.kept c.args.self.now.schema.now c.args.self.now.given.now left start (g.S.Store.has c.read_batch.new.store) (g.I.Source.left c.args.input.now) c.args.library.now c.read_batch.new.crew.passes.items c.read_batch.new.crew.jobs.items c.read_batch.new.crew.parcels.items c.args.reader.now n c.read_batch.new.reader (g.I.Source.left c.read_batch.new.input) batch.sheets.items batch.end h)) in
    let few = few_middle g.S.Folder.Folder.has g.S.Folder.Shelf.Shelf.kept c.args.self.now.schema.now c.args.self.now.given.now left start (g.S.Store.has c.read_batch.new.store) (g.I.Source.left c.args.input.now) c.args.library.now c.read_batch.new.crew.passes.items c.read_batch.new.crew.jobs.items c.read_batch.new.crew.parcels.items c.args.reader.now n c.read_batch.new.reader (g.I.Source.left c.read_batch.new.input) batch.sheets.items batch.end h in
    batch_dealt_at g.S.Folder.Folder.has g.S.Folder.Shelf.Shelf.kept c.args.self.now.schema.now c.args.self.now.given.now left (g.I.Source.left c.read_batch.new.input) start (g.S.Store.has c.deal_sheets.new.store) c.deal_sheets.new.library c.deal_sheets.new.crew.passes.items c.deal_sheets.new.crew.jobs.items c.deal_sheets.new.crew.parcels.items c.args.reader.now c.read_batch.new.reader g.row.X.Denot (g.I.Source.left c.args.input.now) batch.sheets.items c.in-Ok-end.reach batch.end c.in-Ok-end.is h v few

pub returns-in-Ok-end-clause-opened : goal.returns-in-Ok-end-clause-opened
returns-in-Ok-end-clause-opened g c = c.in-Ok-deal_sheets.ensures.notes.opened c.requires.opened

pub returns-in-Err-clause-causes : goal.returns-in-Err-clause-causes
returns-in-Err-clause-causes g c =
    let r = c.requires.can in
    let t = c.in-Err.ensures.goes c.args.self.now.schema.now c.args.self.now.given.now c.args.reader.now r.0 r.1.0 r.1.1.0 c.requires.few r.1.1.1 in
    record {
      calm = tt;
      read = λ is. not_both (is_unread c.in-Err.fault) _ (not_unread g.S.Folder.Folder.has g.S.Folder.Shelf.Shelf.kept r.0 (g.S.Store.has c.read_batch.new.store) t.all t.waiting c.args.library.now c.read_batch.new.crew.passes.items c.read_batch.new.crew.jobs.items c.read_batch.new.crew.parcels.items c.in-Err.fault t.ends) is;
      read_quiet = λ is. not_both (is_calm c.in-Err.fault) _ c.in-Err.ensures.stopped is;
      cause = c.in-Err.ensures.cause;
      later = c.in-Err.ensures.later;
    }

pub returns-in-Err-deal_sheets-clause-causes : goal.returns-in-Err-deal_sheets-clause-causes
returns-in-Err-deal_sheets-clause-causes g c =
    let r = c.requires.can in
    let b = c.in-Ok.ensures in
    let batch = c.in-Ok.batch in
    let w = b.goes c.args.self.now.schema.now c.args.self.now.given.now c.args.reader.now r.0 r.1.0 r.1.1.0 c.requires.few r.1.1.1 in
    let h = b.reads.reads in
    let d = c.in-Err-deal_sheets.ensures in
    let t = d.goes c.args.self.now.schema.now c.args.self.now.given.now (fed_at c.args.reader.now h.came) h.middle r.0 w.all w.waiting h.few h.placed (fed_going g.S.Folder.Folder.has g.S.Folder.Shelf.Shelf.kept c.args.self.now.schema.now c.args.self.now.given.now (g.I.Source.left c.args.input.now) r.0 (g.S.Store.has c.read_batch.new.store) c.args.library.now c.read_batch.new.crew.passes.items c.read_batch.new.crew.jobs.items c.read_batch.new.crew.parcels.items c.args.reader.now (fed_at c.args.reader.now h.came) h.came w.all w.waiting refl w.going) in
    let before = b.later in
    let later = d.later in
    record {
      calm = tt;
      read = λ is. not_both (is_unread c.in-Err-deal_sheets.fault) _ (not_unread g.S.Folder.Folder.has g.S.Folder.Shelf.Shelf.kept r.0 (g.S.Store.has c.deal_sheets.new.store) t.all t.waiting c.deal_sheets.new.library c.deal_sheets.new.crew.passes.items c.deal_sheets.new.crew.jobs.items c.deal_sheets.new.crew.parcels.items c.in-Err-deal_sheets.fault t.ends) is;
      read_quiet = λ is. deal_quiet (g.I.Source.faults c.read_batch.new.input ≡ g.I.Source.faults c.args.input.now) (All (IsKnown c.args.names.now.texts.items) batch.sheets.items) batch.end c.in-Err-deal_sheets.fault b.reads.calm b.reads.quiet b.reads.known (λ known. d.known known c.requires.opened) is;
      cause = store_before (g.S.Store.faults c.args.store.now) (g.S.Store.faults c.read_batch.new.store) (g.S.Store.faults c.deal_sheets.new.store) c.in-Err-deal_sheets.fault before d.cause;
      later = omega (arith, before, later);
    }

pub returns-in-Err-end-clause-causes : goal.returns-in-Err-end-clause-causes
returns-in-Err-end-clause-causes g c =
    let read = subst (λ e. IfErr e (λ s. sheets_unread s ≡ true → Rose (g.I.Source.faults c.args.input.now) (g.I.Source.faults c.read_batch.new.input))) c.in-Err-end.is c.in-Ok.ensures.reads.read in
    let quiet = subst (λ e. IfErr e (λ s. sheets_unread s ≡ false → g.I.Source.faults c.read_batch.new.input ≡ g.I.Source.faults c.args.input.now)) c.in-Err-end.is c.in-Ok.ensures.reads.quiet in
    let before = c.in-Ok.ensures.later in
    let later = c.in-Ok-deal_sheets.ensures.later in
    record {
      calm = tt;
      read = λ is. stop_read _ c.in-Err-end.stop c.stopped.result c.stopped.ensures read is;
      read_quiet = λ is. stop_quiet _ c.in-Err-end.stop c.stopped.result c.stopped.ensures quiet is;
      cause = stop_store _ c.in-Err-end.stop c.stopped.result c.stopped.ensures;
      later = omega (arith, before, later);
    }

pub returns-in-Ok-end-clause-causes : goal.returns-in-Ok-end-clause-causes
returns-in-Ok-end-clause-causes g c =
    let before = c.in-Ok.ensures.later in
    let later = c.in-Ok-deal_sheets.ensures.later in
    record {
      calm = ok_so (g.I.Source.faults c.read_batch.new.input ≡ g.I.Source.faults c.args.input.now) c.in-Ok.batch.end c.in-Ok-end.reach c.in-Ok-end.is c.in-Ok.ensures.reads.calm;
      read = tt;
      read_quiet = tt;
      cause = tt;
      later = omega (arith, before, later);
    }
