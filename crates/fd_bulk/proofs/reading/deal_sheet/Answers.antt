use Rattle.std.proofs.Common.{rules, ◌≡◌, Some, Ok, Err, subst}
use Rattle.fd_library.specs.Open.{names_of}
use Rattle.fd_sheets.specs.Names.{HasNoted}
use Rattle.fd_bulk.proofs.Gone.{ended_starved}
use Rattle.fd_bulk.proofs.Naming.{known_open, known_placed, notes_of}
use Rattle.fd_bulk.proofs.Placing.{dealt_sheet, first_limit, first_short, first_told, unplaced_sheet}
use Rattle.fd_bulk.proofs.reading.deal_sheet.Goals as goal

pub deal-requires-clause-short : goal.deal-requires-clause-short
deal-requires-clause-short g c κs within =
    let found : c.args.sheet.found ≡ Some (Ok c.in-Some-Ok.place) = search rules in
    (first_short g.S.Folder.Folder.has g.S.Folder.Shelf.Shelf.kept (g.S.Store.has c.args.store.now) c.args.sheet c.args.library.now c.args.crew.now.passes.items c.args.crew.now.jobs.items c.args.crew.now.parcels.items c.requires.can c.in-Some-Ok.place found).dataset

pub deal-requires-clause-key : goal.deal-requires-clause-key
deal-requires-clause-key g c κs within =
    let found : c.args.sheet.found ≡ Some (Ok c.in-Some-Ok.place) = search rules in
    (first_short g.S.Folder.Folder.has g.S.Folder.Shelf.Shelf.kept (g.S.Store.has c.args.store.now) c.args.sheet c.args.library.now c.args.crew.now.passes.items c.args.crew.now.jobs.items c.args.crew.now.parcels.items c.requires.can c.in-Some-Ok.place found).key

pub deal-requires-clause-bytes : goal.deal-requires-clause-bytes
deal-requires-clause-bytes g c κs within = first_limit g.S.Folder.Folder.has g.S.Folder.Shelf.Shelf.kept (g.S.Store.has c.args.store.now) c.args.sheet c.args.library.now c.args.crew.now.passes.items c.args.crew.now.jobs.items c.args.crew.now.parcels.items c.requires.can

pub deal-requires-clause-deals : goal.deal-requires-clause-deals
deal-requires-clause-deals g c κs within = let r = c.requires.can in (r.start, (r.all, (r.waiting, r.going.deals)))

pub returns-in-Ok-clause-goes : goal.returns-in-Ok-clause-goes
returns-in-Ok-clause-goes g c =
    let found : c.args.sheet.found ≡ Some (Ok c.in-Some-Ok.place) = search rules in
    λ rules given p q start all waiting few placed going.
    dealt_sheet g.S.Folder.Folder.has g.S.Folder.Shelf.Shelf.kept rules given p q start (g.S.Store.has c.args.store.now) all waiting c.args.library.now c.args.crew.now.passes.items c.args.crew.now.jobs.items c.args.crew.now.parcels.items few going c.args.sheet c.in-Some-Ok.place found placed
    (g.S.Store.has c.deal.new.store) c.deal.new.library c.deal.new.self.passes.items c.deal.new.self.jobs.items c.deal.new.self.parcels.items c.deal.result (c.deal.ensures.too_many start all waiting going.deals) (c.deal.ensures.deals start all waiting going.deals)

pub returns-in-Ok-clause-known : goal.returns-in-Ok-clause-known
returns-in-Ok-clause-known g c =
    let found : c.args.sheet.found ≡ Some (Ok c.in-Some-Ok.place) = search rules in
    λ known opened. c.deal.ensures.again (known_open c.args.names.now.texts.items (names_of c.args.library.now.each) c.args.sheet c.in-Some-Ok.place known opened found)

pub returns-in-Ok-clause-notes : goal.returns-in-Ok-clause-notes
returns-in-Ok-clause-notes g c = notes_of c.args.names.now.texts.items c.note.new.self.texts.items _ _ _ (subst (λ t. HasNoted t c.args.names.now.texts.items c.note.new.self.texts.items) c.dataset.ensures c.in-Ok.ensures) c.deal.result c.deal.ensures.opens

pub returns-in_default-clause-goes : goal.returns-in_default-clause-goes
returns-in_default-clause-goes g c = λ rules given p q start all waiting few placed going.
    ended_starved g.S.Folder.Folder.has g.S.Folder.Shelf.Shelf.kept rules given start (g.S.Store.has c.args.store.now) all waiting c.args.library.now c.args.crew.now.passes.items c.args.crew.now.jobs.items c.args.crew.now.parcels.items p few going _

pub returns-in-Some-Err-clause-known : goal.returns-in-Some-Err-clause-known
returns-in-Some-Err-clause-known g c =
    let found : c.args.sheet.found ≡ Some (Err c.in-Some-Err.reason) = search rules in
    λ known opened. known_placed _ c.args.names.now.texts.items c.args.sheet c.in-Some-Err.reason known found

pub returns-in-Some-Err-clause-goes : goal.returns-in-Some-Err-clause-goes
returns-in-Some-Err-clause-goes g c =
    let found : c.args.sheet.found ≡ Some (Err c.in-Some-Err.reason) = search rules in
    λ rules given p q start all waiting few placed going.
    unplaced_sheet g.S.Folder.Folder.has g.S.Folder.Shelf.Shelf.kept rules given p q start (g.S.Store.has c.args.store.now) all waiting c.args.library.now c.args.crew.now.passes.items c.args.crew.now.jobs.items c.args.crew.now.parcels.items few going c.args.sheet c.in-Some-Err.reason c.unplaced.result found placed c.unplaced.ensures

pub returns-in-Some-Err-clause-cause : goal.returns-in-Some-Err-clause-cause
returns-in-Some-Err-clause-cause g c =
    let found : c.args.sheet.found ≡ Some (Err c.in-Some-Err.reason) = search rules in
    first_told g.S.Folder.Folder.has g.S.Folder.Shelf.Shelf.kept (g.S.Store.has c.args.store.now) c.args.sheet c.args.library.now c.args.crew.now.passes.items c.args.crew.now.jobs.items c.args.crew.now.parcels.items c.requires.can _ c.in-Some-Err.reason c.unplaced.result found c.unplaced.ensures
