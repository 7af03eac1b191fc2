use Rattle.std.proofs.Common.{rules, ◌≡◌, ◌∙◌, ◌++◌, Err, length, refl, sym, subst, arith}
use Rattle.std.proofs.lemmas.Iterator.Adapters.{YieldsList-from_vec}
use Rattle.std.proofs.lemmas.Iterator.Consumers.{YieldsList-end, YieldsList-turn}
use Rattle.fd_library.specs.Open.{names_of}
use Rattle.fd_sheets.specs.Names.{IsKnown}
use Rattle.fd_bulk.proofs.Naming.{notes_more, notes_none}
use Rattle.fd_bulk.proofs.Placing.{can_deal_next, ended_next, next_at, next_of, next_placed, none_of, went_all, went_more, went_none}
use Rattle.fd_bulk.proofs.reading.deal_sheets.Goals as goal

pub loop-sheet-init : goal.loop-sheet-init
loop-sheet-init g c = record {
  next = search rules;
  ends = search rules;
  out = c.requires.out;
  told = refl;
  later = omega arith;
  jobs = refl;
  notes = notes_none c.args.names.now.texts.items (names_of c.args.library.now.each);
  goes = λ rules given p q start all waiting few placed going. went_none g.S.Folder.Folder.has g.S.Folder.Shelf.Shelf.kept rules given p q start (g.S.Store.has c.args.store.now) all waiting c.args.sheets.items c.args.library.now c.args.crew.now.passes.items c.args.crew.now.jobs.items c.args.crew.now.parcels.items few placed going;
}

pub deal_sheet-requires-clause-can : goal.deal_sheet-requires-clause-can
deal_sheet-requires-clause-can g c κs within =
    let t = YieldsList-turn (YieldsList-from_vec c.args.sheets.items (search rules) (search rules)) c.loop-sheet.yielded c.loop-sheet.sheet-iterator c.loop-sheet.yielded_by c.next.result c.next.new.self c.in-Some.sheet c.in-Some.is c.next.ensures.steps in
    let is = next_of c.args.sheets.items c.loop-sheet.yielded c.in-Some.sheet t.0 t.1 in
    let r = c.requires.can in
    let w = c.loop-sheet.invariant.goes r.rules r.given r.from r.to r.start r.all r.waiting r.few r.placed r.going in
    can_deal_next g.S.Folder.Folder.has g.S.Folder.Shelf.Shelf.kept r.rules r.given r.from r.to r.start (g.S.Store.has c.loop-sheet.store) (r.all ++ r.waiting) c.in-Some.sheet _ _ is c.loop-sheet.library c.loop-sheet.crew.passes.items c.loop-sheet.crew.jobs.items c.loop-sheet.crew.parcels.items w

pub returns-in_err-deal_sheet-clause-goes : goal.returns-in_err-deal_sheet-clause-goes
returns-in_err-deal_sheet-clause-goes g c =
    let t = YieldsList-turn (YieldsList-from_vec c.args.sheets.items (search rules) (search rules)) c.loop-sheet.yielded c.loop-sheet.sheet-iterator c.loop-sheet.yielded_by c.next.result c.next.new.self c.in-Some.sheet c.in-Some.is c.next.ensures.steps in
    let is = next_of c.args.sheets.items c.loop-sheet.yielded c.in-Some.sheet t.0 t.1 in
    let e : c.from_residual.result ≡ Err c.in_err-deal_sheet.field-0.0 = search rules in
    λ rules given p q start all waiting few placed going.
    let w = c.loop-sheet.invariant.goes rules given p q start all waiting few placed going in
    let one = next_placed g.S.Folder.Folder.has g.S.Folder.Shelf.Shelf.kept rules given p q start (g.S.Store.has c.loop-sheet.store) (all ++ waiting) c.in-Some.sheet _ _ is c.loop-sheet.library c.loop-sheet.crew.passes.items c.loop-sheet.crew.jobs.items c.loop-sheet.crew.parcels.items w in
    let at = next_at g.S.Folder.Folder.has g.S.Folder.Shelf.Shelf.kept rules given p q start (g.S.Store.has c.loop-sheet.store) (all ++ waiting) c.in-Some.sheet _ _ is c.loop-sheet.library c.loop-sheet.crew.passes.items c.loop-sheet.crew.jobs.items c.loop-sheet.crew.parcels.items w in
    rw e (ended_next g.S.Folder.Folder.has g.S.Folder.Shelf.Shelf.kept rules given p q start (g.S.Store.has c.loop-sheet.store) (all ++ waiting) c.in-Some.sheet _ _ is c.loop-sheet.library c.loop-sheet.crew.passes.items c.loop-sheet.crew.jobs.items c.loop-sheet.crew.parcels.items w (g.S.Store.has c.deal_sheet.new.store) c.deal_sheet.new.library c.deal_sheet.new.crew.passes.items c.deal_sheet.new.crew.jobs.items c.deal_sheet.new.crew.parcels.items c.in_err-deal_sheet.field-0.0
    (c.in_err-deal_sheet.ensures.goes rules given w.middle at start w.went.all w.went.waiting w.few one w.went.going))

pub returns-in_err-deal_sheet-clause-known : goal.returns-in_err-deal_sheet-clause-known
returns-in_err-deal_sheet-clause-known g c =
    let t = YieldsList-turn (YieldsList-from_vec c.args.sheets.items (search rules) (search rules)) c.loop-sheet.yielded c.loop-sheet.sheet-iterator c.loop-sheet.yielded_by c.next.result c.next.new.self c.in-Some.sheet c.in-Some.is c.next.ensures.steps in
    let n = c.loop-sheet.invariant.notes in
    let e : c.from_residual.result ≡ Err c.in_err-deal_sheet.field-0.0 = search rules in
    λ known opened.
    let one : IsKnown c.args.names.now.texts.items c.in-Some.sheet = subst (IsKnown c.args.names.now.texts.items) (sym t.1) (known (length c.loop-sheet.yielded) c.in-Some.sheet t.0) in
    rw e (c.in_err-deal_sheet.ensures.known (n.known c.in-Some.sheet one) (n.opened opened))

pub loop-sheet-preserved : goal.loop-sheet-preserved
loop-sheet-preserved g c =
    let t = YieldsList-turn (YieldsList-from_vec c.args.sheets.items (search rules) (search rules)) c.loop-sheet.yielded c.loop-sheet.sheet-iterator c.loop-sheet.yielded_by c.next.result c.next.new.self c.in-Some.sheet c.in-Some.is c.next.ensures.steps in
    let is = next_of c.args.sheets.items c.loop-sheet.yielded c.in-Some.sheet t.0 t.1 in
    let i = c.loop-sheet.invariant in
    let n = c.in_ok-deal_sheet.ensures in
    record {
      next = search rules;
      ends = search rules;
      out = n.out;
      told = n.told ∙ i.told;
      later = omega (arith, i.later, n.later);
      jobs = n.jobs ∙ i.jobs;
      notes = notes_more c.args.names.now.texts.items c.loop-sheet.names.texts.items c.deal_sheet.new.names.texts.items (names_of c.args.library.now.each) (names_of c.loop-sheet.library.each) (names_of c.deal_sheet.new.library.each) i.notes n.notes;
      goes = λ rules given p q start all waiting few placed going.
          let w = i.goes rules given p q start all waiting few placed going in
          let one = next_placed g.S.Folder.Folder.has g.S.Folder.Shelf.Shelf.kept rules given p q start (g.S.Store.has c.loop-sheet.store) (all ++ waiting) c.in-Some.sheet _ _ is c.loop-sheet.library c.loop-sheet.crew.passes.items c.loop-sheet.crew.jobs.items c.loop-sheet.crew.parcels.items w in
          let at = next_at g.S.Folder.Folder.has g.S.Folder.Shelf.Shelf.kept rules given p q start (g.S.Store.has c.loop-sheet.store) (all ++ waiting) c.in-Some.sheet _ _ is c.loop-sheet.library c.loop-sheet.crew.passes.items c.loop-sheet.crew.jobs.items c.loop-sheet.crew.parcels.items w in
          went_more g.S.Folder.Folder.has g.S.Folder.Shelf.Shelf.kept rules given p q start (g.S.Store.has c.loop-sheet.store) (all ++ waiting) c.in-Some.sheet _ _ is c.loop-sheet.library c.loop-sheet.crew.passes.items c.loop-sheet.crew.jobs.items c.loop-sheet.crew.parcels.items w (g.S.Store.has c.deal_sheet.new.store) c.deal_sheet.new.library c.deal_sheet.new.crew.passes.items c.deal_sheet.new.crew.jobs.items c.deal_sheet.new.crew.parcels.items
          (n.goes rules given w.middle at start w.went.all w.went.waiting w.few one w.went.going);
    }

pub returns-clause-goes : goal.returns-clause-goes
returns-clause-goes g c =
    let t = YieldsList-end (YieldsList-from_vec c.args.sheets.items (search rules) (search rules)) c.loop-sheet.yielded c.loop-sheet.sheet-iterator c.loop-sheet.yielded_by c.next.result c.next.new.self c.in-None.is c.next.ensures.steps in
    λ rules given p q start all waiting few placed going.
    went_all g.S.Folder.Folder.has g.S.Folder.Shelf.Shelf.kept rules given p q start (g.S.Store.has c.loop-sheet.store) (all ++ waiting) _ c.loop-sheet.library c.loop-sheet.crew.passes.items c.loop-sheet.crew.jobs.items c.loop-sheet.crew.parcels.items (none_of c.args.sheets.items c.loop-sheet.yielded t.1) (c.loop-sheet.invariant.goes rules given p q start all waiting few placed going)
