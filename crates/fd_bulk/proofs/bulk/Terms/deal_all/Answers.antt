use Rattle.std.proofs.Common.{◌∙◌, refl, sym, ap, subst, arith}
use Rattle.fd_bytes.specs.Causes.{Rose}
use Rattle.fd_library.specs.Open.{names_of}
use Rattle.fd_bulk.specs.Inputs.{Midway}
use Rattle.fd_sheets.proofs.Ahead.{stops_end, stops_on}
use Rattle.fd_bulk.proofs.Naming.{none_opened}
use Rattle.fd_bulk.proofs.Readings.{begun, has_room}
use Rattle.fd_bulk.proofs.Standing.{store_before}
use Rattle.fd_bulk.proofs.bulk.Terms.deal_all.Goals as goal

pub loop-init : goal.loop-init
loop-init g c = record {
  midway = begun g.S.Folder.Folder.has g.S.Folder.Shelf.Shelf.kept c.args.self.now.schema.now c.args.self.now.given.now (g.I.Source.left c.args.input.now) (g.S.Store.has c.args.store.now) c.args.library.now c.args.crew.now.passes.items c.args.crew.now.jobs.items c.args.crew.now.parcels.items c.args.reader.now c.requires.unread c.requires.begun;
  out = c.requires.out;
  told = refl;
  later = omega arith;
  jobs = refl;
  few = let is = ap (λ p. p.split.fed) c.requires.unread in omega (arith, is);
  room = let is = ap (λ p. p.count) c.requires.unread in omega (arith, is);
  turns = omega arith;
  opened = none_opened c.args.names.now.texts.items (names_of c.args.library.now.each) c.requires.unopened;
  read = refl;
}

pub deal_batch-requires-clause-can : goal.deal_batch-requires-clause-can
deal_batch-requires-clause-can g c κs within = let m = c.loop.invariant.midway in ((g.S.Store.has c.args.store.now), (m.all, (m.waiting, m.going)))

pub returns-in-Err-clause-deals : goal.returns-in-Err-clause-deals
returns-in-Err-clause-deals g c = c.in-Err.ensures.deals (g.I.Source.left c.args.input.now) (g.S.Store.has c.args.store.now) c.loop.invariant.midway

pub returns-in-Err-clause-causes : goal.returns-in-Err-clause-causes
returns-in-Err-clause-causes g c =
    let i = c.loop.invariant in
    let e = c.in-Err.ensures.causes in
    let before = i.later in
    let later = e.later in
    record {
      calm = tt;
      read = λ is. subst (λ n. Rose n (g.I.Source.faults c.deal_batch.new.input)) i.read (e.read is);
      read_quiet = λ is. e.read_quiet is ∙ i.read;
      cause = store_before (g.S.Store.faults c.args.store.now) (g.S.Store.faults c.loop.store) (g.S.Store.faults c.deal_batch.new.store) c.in-Err.fault before e.cause;
      later = omega (arith, before, later);
    }

pub returns-then-is_end-clause-causes : goal.returns-then-is_end-clause-causes
returns-then-is_end-clause-causes g c =
    let before = c.loop.invariant.later in
    let later = c.in-Ok.ensures.causes.later in
    record { calm = c.in-Ok.ensures.causes.calm ∙ c.loop.invariant.read; read = tt; read_quiet = tt; cause = tt; later = omega (arith, before, later) }

pub returns-then-is_end-clause-deals : goal.returns-then-is_end-clause-deals
returns-then-is_end-clause-deals g c =
    let b = c.in-Ok.ensures.deals (g.I.Source.left c.args.input.now) (g.S.Store.has c.args.store.now) c.loop.invariant.midway in
    let s = stops_end g.row.X.Denot c.deal_batch.new.reader c.deal_batch.new.reader b.mid (g.I.Source.left c.deal_batch.new.input) c.in-Ok.reach (sym c.is_end.ensures ∙ c.if-is_end.true) b.stops in
    record { mid = b.mid; midway = b.midway; few = b.few; waits = s.1; at_end = s.2; nothing = s.3 }

pub loop-preserved : goal.loop-preserved
loop-preserved g c =
    let i = c.loop.invariant in
    let d = c.in-Ok.ensures in
    let b = d.deals (g.I.Source.left c.args.input.now) (g.S.Store.has c.args.store.now) i.midway in
    let on = sym c.is_end.ensures ∙ c.if-is_end.false in
    let s = stops_on g.row.X.Denot c.deal_batch.new.reader c.deal_batch.new.reader b.mid (g.I.Source.left c.deal_batch.new.input) c.in-Ok.reach on b.stops in
    let further = b.further on in
    record {
      midway = subst (λ t. Midway g.S.Folder.Folder.has g.S.Folder.Shelf.Shelf.kept c.args.self.now.schema.now c.args.self.now.given.now (g.I.Source.left c.args.input.now) t (g.S.Store.has c.args.store.now) (g.S.Store.has c.deal_batch.new.store) c.deal_batch.new.library c.deal_batch.new.crew.passes.items c.deal_batch.new.crew.jobs.items c.deal_batch.new.crew.parcels.items c.deal_batch.new.reader) (sym s.1) b.midway;
      out = d.out;
      told = d.told ∙ i.told;
      later = let later = d.causes.later in omega (arith, i.later, later);
      jobs = d.jobs ∙ i.jobs;
      few = b.few;
      room = has_room g.S.Folder.Folder.has g.S.Folder.Shelf.Shelf.kept c.args.self.now.schema.now c.args.self.now.given.now (g.I.Source.left c.args.input.now) (g.S.Store.has c.args.store.now) (g.S.Store.has c.deal_batch.new.store) b.mid c.deal_batch.new.library c.deal_batch.new.crew.passes.items c.deal_batch.new.crew.jobs.items c.deal_batch.new.crew.parcels.items c.deal_batch.new.reader b.midway;
      turns = omega (arith, i.turns, further);
      opened = d.opened;
      read = d.causes.calm ∙ i.read;
    }
