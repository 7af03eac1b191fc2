use Rattle.std.proofs.Common.{arith, ◌≡◌, ◌∙◌, List, ℕ, ap, sym, subst, length, slice_get, Some}
use Rattle.fd_schema.specs.Rules.{file_key}
use Rattle.fd_schema.specs.Reading.{seen_place}
use Rattle.fd_turn.specs.Passes.{view}
use Rattle.fd_shares.specs.Working.{Filling, Stored}
use Rattle.fd_shares.proofs.Sharing.{work_at}
use Rattle.fd_shares.proofs.Shares.{at_place, inside, met_set, stored_or}
use Rattle.fd_shares.proofs.round.store_parcel.Goals as goal

pub bounds-datasets-n : goal.bounds-datasets-n
bounds-datasets-n g c =
    let r = c.requires.can in
    let n = c.args.parcel.now.dataset in
    let ds = c.args.job.now.desks.items in
    let d = c.in-Some.desk in
    let o = c.index_mut.ensures.value ∙ at_place ds n (Some r.desk) r.at c.index_mut.result.now in
    let at : slice_get ds n ≡ Some (Some d) = cc (r.at, o, c.in-Some.is) in
    let w = work_at g.H.Shelf.kept (λ i. Filling) r.pairs 0 n n c.args.datasets.now r.names ds d (omega arith) r.works at in
    inside c.args.datasets.now n w.board w.board_at

pub store-requires-clause-own : goal.store-requires-clause-own
store-requires-clause-own g c κs within =
    let r = c.requires.can in
    let n = c.args.parcel.now.dataset in
    let ds = c.args.job.now.desks.items in
    let d = c.in-Some.desk in
    let o = c.index_mut.ensures.value ∙ at_place ds n (Some r.desk) r.at c.index_mut.result.now in
    let at : slice_get ds n ≡ Some (Some d) = cc (r.at, o, c.in-Some.is) in
    let w = work_at g.H.Shelf.kept (λ i. Filling) r.pairs 0 n n c.args.datasets.now r.names ds d (omega arith) r.works at in
    w.works.own ∙ sym (c.index-datasets-n.is ∙ at_place c.args.datasets.now n w.board w.board_at c.index-datasets-n.result)

pub store-requires-clause-dataset : goal.store-requires-clause-dataset
store-requires-clause-dataset g c κs within =
    let r = c.requires.can in
    let n = c.args.parcel.now.dataset in
    let ds = c.args.job.now.desks.items in
    let d = c.in-Some.desk in
    let o = c.index_mut.ensures.value ∙ at_place ds n (Some r.desk) r.at c.index_mut.result.now in
    let at : slice_get ds n ≡ Some (Some d) = cc (r.at, o, c.in-Some.is) in
    let w = work_at g.H.Shelf.kept (λ i. Filling) r.pairs 0 n n c.args.datasets.now r.names ds d (omega arith) r.works at in
    let named : w.name ≡ (seen_place c.args.parcel.now.place).dataset = cc (w.name_at, r.fit.named) in
    sym (w.works.named ∙ named)

pub store-requires-clause-can : goal.store-requires-clause-can
store-requires-clause-can g c κs within =
    let r = c.requires.can in
    let n = c.args.parcel.now.dataset in
    let ds = c.args.job.now.desks.items in
    let d = c.in-Some.desk in
    let o = c.index_mut.ensures.value ∙ at_place ds n (Some r.desk) r.at c.index_mut.result.now in
    let at : slice_get ds n ≡ Some (Some d) = cc (r.at, o, c.in-Some.is) in
    let w = work_at g.H.Shelf.kept (λ i. Filling) r.pairs 0 n n c.args.datasets.now r.names ds d (omega arith) r.works at in
    record { pairs = r.pairs n; works = w.works.works; sum = r.sum }

pub returns-clause-met : goal.returns-clause-met
returns-clause-met g c =
    let r = c.requires.can in
    let n = c.args.parcel.now.dataset in
    let ds = c.args.job.now.desks.items in
    let d = c.in-Some.desk in
    let o = c.index_mut.ensures.value ∙ at_place ds n (Some r.desk) r.at c.index_mut.result.now in
    let at : slice_get ds n ≡ Some (Some d) = cc (r.at, o, c.in-Some.is) in
    met_set ds n d (record { archiver = c.store.new.archiver; pass = c.store.new.pass }) at (record { writer = c.store.ensures.stays.writer; told = c.store.ensures.stays.told; parts = c.store.ensures.keeps.parts; opening = c.store.ensures.keeps.opening })

pub returns-clause-stores : goal.returns-clause-stores
returns-clause-stores g c =
    let r = c.requires.can in
    let p = c.args.parcel.now in
    let ds = c.args.job.now.desks.items in
    let d = c.in-Some.desk in
    let o = c.index_mut.ensures.value ∙ at_place ds p.dataset (Some r.desk) r.at c.index_mut.result.now in
    let at : slice_get ds p.dataset ≡ Some (Some d) = cc (r.at, o, c.in-Some.is) in
    λ names pairs all. stored_or g.H.Shelf.kept c.args.datasets.now c.store.result p names pairs ds d (record { archiver = c.store.new.archiver; pass = c.store.new.pass }) all at c.store.ensures.own c.store.ensures.stays.dataset
    c.store.ensures.stores
