use Rattle.std.proofs.Common.{arith, ◌∙◌, ◌++◌, ◌∷◌, [], List, ℕ, Some, refl, sym, ap, subst, slice_get}
use Rattle.fd_schema.specs.Reading.{seen_place}
use Rattle.fd_library.specs.Open.{names_of}
use Rattle.fd_stored.specs.Archiving.{datasets_in, is_too_many}
use Rattle.fd_shares.specs.declared.round.Parcel.{Parcel}
use Rattle.fd_bulk.specs.Crewing.{AreMet, Closes, Deals, Undealt, message_at}
use Rattle.fd_bulk.proofs.Deals.{seated_calm, seated_few, seated_undealt}
use Rattle.fd_bulk.proofs.Naming.{met_more}
use Rattle.fd_bulk.proofs.Opened.{deals_closes}
use Rattle.fd_bulk.proofs.Waiting.{can_seat, dealt_one, deals_long}
use Rattle.fd_bulk.proofs.crew.Crew.deal.Goals as goal

pub returns-in_default-clause-deals : goal.returns-in_default-clause-deals
returns-in_default-clause-deals g c = λ start all waiting d.
    let s = c.args.self.now in
    let l = c.args.library.now in
    let now = g.S.Store.has c.args.store.now in
    subst (λ xs. Closes g.S.Folder.Folder.has g.S.Folder.Shelf.Shelf.kept start now all waiting l s.passes.items s.jobs.items xs) (sym c.reserve.ensures.items)
    (deals_closes g.S.Folder.Folder.has g.S.Folder.Shelf.Shelf.kept start all waiting now (datasets_in (all ++ waiting)) l s.passes.items s.jobs.items s.parcels.items d)

pub opened-requires-clause-long : goal.opened-requires-clause-long
opened-requires-clause-long g c κs within =
    let r = c.requires.deals in
    let s = c.args.self.now in
    let l = c.args.library.now in
    let now = g.S.Store.has c.args.store.now in
    deals_long g.S.Folder.Folder.has g.S.Folder.Shelf.Shelf.kept r.0 now r.1.0 r.1.1.0 (datasets_in (r.1.0 ++ r.1.1.0)) l s.passes.items s.jobs.items s.parcels.items r.1.1.1

pub seated-requires-clause-can : goal.seated-requires-clause-can
seated-requires-clause-can g c κs within =
    let r = c.requires.deals in
    let start = r.0 in
    let all = r.1.0 in
    let waiting = r.1.1.0 in
    let d = r.1.1.1 in
    let s = c.args.self.now in
    let l = c.args.library.now in
    let now = g.S.Store.has c.args.store.now in
    let d1 = subst (λ xs. Deals g.S.Folder.Folder.has g.S.Folder.Shelf.Shelf.kept start now all waiting (datasets_in (all ++ waiting)) l s.passes.items s.jobs.items xs) (sym c.reserve.ensures.items) d in
    let opened = c.in_ok-dataset.ensures.opens start all waiting d1 in
    can_seat g.S.Folder.Folder.has g.S.Folder.Shelf.Shelf.kept start (g.S.Store.has c.opened.new.store) all waiting _ c.opened.new.library c.opened.new.self.passes.items c.opened.new.self.jobs.items c.opened.new.self.parcels.items c.dealt-worker.result c.in_ok-dataset.dataset _ opened.0 opened.1
    (omega (arith, c.dealt-worker.ensures.below, c.len.ensures, c.args.self.now.jobs.ok.0, c.opened.ensures.jobs))

pub returns-in-Err-clause-deals : goal.returns-in-Err-clause-deals
returns-in-Err-clause-deals g c = λ start all waiting d.
    let s = c.args.self.now in
    let l = c.args.library.now in
    let now = g.S.Store.has c.args.store.now in
    let d1 = subst (λ xs. Deals g.S.Folder.Folder.has g.S.Folder.Shelf.Shelf.kept start now all waiting (datasets_in (all ++ waiting)) l s.passes.items s.jobs.items xs) (sym c.reserve.ensures.items) d in
    let opened = c.in_ok-dataset.ensures.opens start all waiting d1 in
    subst (λ o. Undealt g.S.Folder.Folder.has g.S.Folder.Shelf.Shelf.kept start o all waiting (seen_place c.args.place).dataset (datasets_in (all ++ waiting)) c.in-Err.fault c.seated.new.library c.seated.new.self.passes.items c.seated.new.self.jobs.items c.seated.new.self.parcels.items) (sym c.seated.ensures.has)
    (seated_undealt g.S.Folder.Folder.has g.S.Folder.Shelf.Shelf.kept start (g.S.Store.has c.opened.new.store) all waiting c.dealt-worker.result c.in_ok-dataset.dataset (datasets_in (all ++ waiting) ++ c.dataset.result.now ∷ []) (datasets_in (all ++ waiting)) (seen_place c.args.place).dataset c.seated.new.library c.seated.new.self.passes.items c.seated.new.self.jobs.items c.seated.new.self.parcels.items c.in-Err.fault (c.in-Err.ensures.seats start all waiting _ opened.0))

pub returns-in-Err-clause-too_many : goal.returns-in-Err-clause-too_many
returns-in-Err-clause-too_many g c = λ start all waiting d.
    let s = c.args.self.now in
    let l = c.args.library.now in
    let now = g.S.Store.has c.args.store.now in
    let d1 = subst (λ xs. Deals g.S.Folder.Folder.has g.S.Folder.Shelf.Shelf.kept start now all waiting (datasets_in (all ++ waiting)) l s.passes.items s.jobs.items xs) (sym c.reserve.ensures.items) d in
    let opened = c.in_ok-dataset.ensures.opens start all waiting d1 in
    seated_few g.S.Folder.Folder.has g.S.Folder.Shelf.Shelf.kept start (g.S.Store.has c.opened.new.store) all waiting c.dealt-worker.result c.in_ok-dataset.dataset (datasets_in (all ++ waiting) ++ c.dataset.result.now ∷ []) (datasets_in (all ++ waiting)) (seen_place c.args.place).dataset c.seated.new.library c.seated.new.self.passes.items c.seated.new.self.jobs.items c.seated.new.self.parcels.items (is_too_many (datasets_in (all ++ waiting)) (seen_place c.args.place).dataset) c.in-Err.fault (c.in-Err.ensures.seats start all waiting _ opened.0)

pub returns-clause-deals : goal.returns-clause-deals
returns-clause-deals g c = λ start all waiting d.
    let s = c.args.self.now in
    let l = c.args.library.now in
    let now = g.S.Store.has c.args.store.now in
    let d1 = subst (λ xs. Deals g.S.Folder.Folder.has g.S.Folder.Shelf.Shelf.kept start now all waiting (datasets_in (all ++ waiting)) l s.passes.items s.jobs.items xs) (sym c.reserve.ensures.items) d in
    let opened = c.in_ok-dataset.ensures.opens start all waiting d1 in
    let seats = c.in-Ok-seated.ensures.seats start all waiting _ opened.0 in
    let met = subst (λ (t : List ℕ). Deals g.S.Folder.Folder.has g.S.Folder.Shelf.Shelf.kept start (g.S.Store.has c.opened.new.store) all waiting (datasets_in (all ++ waiting) ++ t ∷ []) c.seated.new.library c.seated.new.self.passes.items c.seated.new.self.jobs.items c.seated.new.self.parcels.items) c.dataset.ensures seats.0 in
    let p : Parcel = record { worker = c.dealt-worker.result; dataset = c.in_ok-dataset.dataset; round = c.args.round; place = c.args.place; bytes = c.args.bytes } in
    let stored = subst (λ o. Deals g.S.Folder.Folder.has g.S.Folder.Shelf.Shelf.kept start o all waiting (datasets_in (all ++ waiting) ++ (seen_place c.args.place).dataset ∷ []) c.seated.new.library c.seated.new.self.passes.items c.seated.new.self.jobs.items c.seated.new.self.parcels.items) (sym c.seated.ensures.has) met in
    let named = ap (λ (ns : List (List ℕ)). slice_get ns c.in_ok-dataset.dataset) c.seated.ensures.names ∙ opened.1 ∙ ap Some c.dataset.ensures in
    subst (λ xs. Deals g.S.Folder.Folder.has g.S.Folder.Shelf.Shelf.kept start (g.S.Store.has c.seated.new.store) all (waiting ++ message_at (seen_place c.args.place) c.args.bytes ∷ []) (datasets_in (all ++ (waiting ++ message_at (seen_place c.args.place) c.args.bytes ∷ []))) c.seated.new.library c.seated.new.self.passes.items c.seated.new.self.jobs.items xs) (sym c.push_reserved.ensures.items)
    (dealt_one g.S.Folder.Folder.has g.S.Folder.Shelf.Shelf.kept start (g.S.Store.has c.seated.new.store) all waiting c.args.bytes p c.seated.new.library c.seated.new.self.passes.items c.seated.new.self.jobs.items c.seated.new.self.parcels.items refl (stored, seats.1) named c.len.result c.dealt-worker.ensures.worker (omega (arith, c.len.ensures, c.args.self.now.jobs.ok.0, c.opened.ensures.jobs, c.seated.ensures.jobs)) c.requires.key c.requires.bytes)

pub returns-in-Err-clause-again : goal.returns-in-Err-clause-again
returns-in-Err-clause-again g c = λ is.
    let r = c.requires.deals in
    let start = r.0 in
    let all = r.1.0 in
    let waiting = r.1.1.0 in
    let s = c.args.self.now in
    let l = c.args.library.now in
    let now = g.S.Store.has c.args.store.now in
    let d1 = subst (λ xs. Deals g.S.Folder.Folder.has g.S.Folder.Shelf.Shelf.kept start now all waiting (datasets_in (all ++ waiting)) l s.passes.items s.jobs.items xs) (sym c.reserve.ensures.items) r.1.1.1 in
    let opened = c.in_ok-dataset.ensures.opens start all waiting d1 in
    seated_calm g.S.Folder.Folder.has g.S.Folder.Shelf.Shelf.kept start (g.S.Store.has c.opened.new.store) all waiting c.dealt-worker.result c.in_ok-dataset.dataset (datasets_in (all ++ waiting) ++ c.dataset.result.now ∷ []) [] [] c.seated.new.library c.seated.new.self.passes.items c.seated.new.self.jobs.items c.seated.new.self.parcels.items c.in-Err.fault (c.in-Err.ensures.seats start all waiting _ opened.0)

pub returns-clause-opens : goal.returns-clause-opens
returns-clause-opens g c =
    let r = c.requires.deals in
    let start = r.0 in
    let all = r.1.0 in
    let waiting = r.1.1.0 in
    let d = r.1.1.1 in
    let s = c.args.self.now in
    let l = c.args.library.now in
    let now = g.S.Store.has c.args.store.now in
    let d1 = subst (λ xs. Deals g.S.Folder.Folder.has g.S.Folder.Shelf.Shelf.kept start now all waiting (datasets_in (all ++ waiting)) l s.passes.items s.jobs.items xs) (sym c.reserve.ensures.items) d in
    let opened = c.in_ok-dataset.ensures.opens start all waiting d1 in
    let seats = c.in-Ok-seated.ensures.seats start all waiting _ opened.0 in
    let met = subst (λ (t : List ℕ). AreMet (datasets_in (all ++ waiting) ++ t ∷ []) (names_of c.seated.new.library.each)) c.dataset.ensures seats.0.met in
    met_more (datasets_in (all ++ waiting)) (seen_place c.args.place).dataset (names_of l.each) (names_of c.seated.new.library.each) d.met met
