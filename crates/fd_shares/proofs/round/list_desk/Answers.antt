use Rattle.std.proofs.Common.{rules, arith, ◌≡◌, ◌∙◌, ◌<◌, sym, subst, slice_get, Some, None}
use Rattle.fd_turn.specs.Passes.{view}
use Rattle.fd_shares.specs.Working.{Flushed, Stage, Works}
use Rattle.fd_shares.specs.Sharing.{AllWork, SameMet, with_stage}
use Rattle.fd_shares.proofs.Listing.{listed_none, listed_or}
use Rattle.fd_shares.proofs.Sharing.{work_at}
use Rattle.fd_shares.proofs.Shares.{at_place, get_there, inside, met_set, same_met, set_same}
use Rattle.fd_shares.proofs.round.list_desk.Goals as goal

pub returns-in-None-clause-met : goal.returns-in-None-clause-met
returns-in-None-clause-met g c =
    let ds = c.args.job.now.desks.items in
    let there = get_there ds c.args.n c.index_mut.result.now c.requires.can.inside c.index_mut.ensures.value in
    subst (SameMet ds) (sym (set_same ds c.args.n c.index_mut.result.now there)) (same_met ds)

pub returns-in-None-clause-lists : goal.returns-in-None-clause-lists
returns-in-None-clause-lists g c =
    let ds = c.args.job.now.desks.items in
    let n = c.args.n in
    let there = get_there ds n c.index_mut.result.now c.requires.can.inside c.index_mut.ensures.value in
    let at : slice_get ds n ≡ Some None = cc (there, c.in-None.is) in
    λ names stages pairs all filling.
    subst (λ es. AllWork g.H.Shelf.kept (with_stage stages n Flushed) pairs 0 c.args.datasets.now names es) (sym (set_same ds n c.index_mut.result.now there)) (listed_none g.H.Shelf.kept c.args.datasets.now n names stages pairs ds all at)

pub offset_bounds-datasets-n : goal.offset_bounds-datasets-n
offset_bounds-datasets-n g c =
    let r = c.requires.can in
    let small : c.args.n < 2048 = omega (arith, r.inside, r.few) in
    search (rules, small)

pub bounds-datasets-n : goal.bounds-datasets-n
bounds-datasets-n g c =
    let r = c.requires.can in
    let ds = c.args.job.now.desks.items in
    let there = get_there ds c.args.n c.index_mut.result.now r.inside c.index_mut.ensures.value in
    let at : slice_get ds c.args.n ≡ Some (Some c.in-Some.desk) = cc (there, c.in-Some.is) in
    let w = work_at g.H.Shelf.kept r.stages r.pairs 0 c.args.n c.args.n c.args.datasets.now r.names ds c.in-Some.desk (omega arith) r.works at in
    inside c.args.datasets.now c.args.n w.board w.board_at

pub list-requires-clause-own : goal.list-requires-clause-own
list-requires-clause-own g c κs within =
    let r = c.requires.can in
    let ds = c.args.job.now.desks.items in
    let there = get_there ds c.args.n c.index_mut.result.now r.inside c.index_mut.ensures.value in
    let at : slice_get ds c.args.n ≡ Some (Some c.in-Some.desk) = cc (there, c.in-Some.is) in
    let w = work_at g.H.Shelf.kept r.stages r.pairs 0 c.args.n c.args.n c.args.datasets.now r.names ds c.in-Some.desk (omega arith) r.works at in
    w.works.own ∙ sym (c.index-datasets-n.is ∙ at_place c.args.datasets.now c.args.n w.board w.board_at c.index-datasets-n.result)

pub list-requires-clause-can : goal.list-requires-clause-can
list-requires-clause-can g c κs within =
    let r = c.requires.can in
    let ds = c.args.job.now.desks.items in
    let d = c.in-Some.desk in
    let there = get_there ds c.args.n c.index_mut.result.now r.inside c.index_mut.ensures.value in
    let at : slice_get ds c.args.n ≡ Some (Some d) = cc (there, c.in-Some.is) in
    let w = work_at g.H.Shelf.kept r.stages r.pairs 0 c.args.n c.args.n c.args.datasets.now r.names ds d (omega arith) r.works at in
    (r.pairs c.args.n, subst (λ (st : Stage). Works g.H.Shelf.kept st (r.pairs c.args.n) d.archiver (view d.pass)) r.filling w.works.works)

pub returns-in-Some-clause-met : goal.returns-in-Some-clause-met
returns-in-Some-clause-met g c =
    let ds = c.args.job.now.desks.items in
    let d = c.in-Some.desk in
    let there = get_there ds c.args.n c.index_mut.result.now c.requires.can.inside c.index_mut.ensures.value in
    let at : slice_get ds c.args.n ≡ Some (Some d) = cc (there, c.in-Some.is) in
    met_set ds c.args.n d (record { archiver = c.list.new.archiver; pass = c.list.new.pass }) at (record { writer = c.list.ensures.stays.writer; told = c.list.ensures.stays.told; parts = c.list.ensures.keeps.parts; opening = c.list.ensures.keeps.opening })

pub returns-in-Some-clause-lists : goal.returns-in-Some-clause-lists
returns-in-Some-clause-lists g c =
    let ds = c.args.job.now.desks.items in
    let n = c.args.n in
    let d = c.in-Some.desk in
    let there = get_there ds n c.index_mut.result.now c.requires.can.inside c.index_mut.ensures.value in
    let at : slice_get ds n ≡ Some (Some d) = cc (there, c.in-Some.is) in
    λ names stages pairs all filling. listed_or g.H.Shelf.kept c.args.datasets.now c.list.result n names stages pairs ds d (record { archiver = c.list.new.archiver; pass = c.list.new.pass }) all filling at c.list.ensures.own c.list.ensures.stays.dataset c.list.ensures.lists
