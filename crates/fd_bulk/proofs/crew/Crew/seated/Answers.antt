use Rattle.std.proofs.Common.{arith, ◌≡◌, ◌∙◌, refl, sym, ap, subst, length, get_or}
use Rattle.fd_bulk.proofs.Meeting.{refused_closes}
use Rattle.fd_bulk.proofs.Seats.{asked_names, board_inside, desk_inside, may_ask, met_already, pass_free, pass_inside, pass_own, pass_parts, seated_at}
use Rattle.fd_bulk.proofs.crew.Crew.seated.Goals as goal

pub index-requires-2 : goal.index-requires-2
index-requires-2 g c = let lt = desk_inside g.S.Folder.Folder.has g.S.Folder.Shelf.Shelf.kept c.args.worker c.args.number c.args.library.now c.args.self.now.passes.items c.args.self.now.jobs.items c.requires.can c.index.result.now c.index.result.now c.index.ensures in omega (arith, lt, c.index.result.now.desks.ok.0)

pub returns-then-is_some-clause-seats : goal.returns-then-is_some-clause-seats
returns-then-is_some-clause-seats g c = λ start all waiting datasets d.
    (d, met_already g.S.Folder.Folder.has g.S.Folder.Shelf.Shelf.kept c.args.worker c.args.number c.args.library.now c.args.self.now.passes.items c.args.self.now.jobs.items c.requires.can c.index.result.now c.index.ensures c.index-2.result.now c.index-2.ensures (sym c.is_some.ensures ∙ c.if-is_some.true))

pub archiver-requires-after_bounds : goal.archiver-requires-after_bounds
archiver-requires-after_bounds g c κs within = may_ask g.S.Folder.Folder.has g.S.Folder.Shelf.Shelf.kept c.args.worker c.args.number c.args.library.now c.args.self.now.passes.items c.args.self.now.jobs.items c.requires.can

pub returns-in-Err-Fault-clause-names : goal.returns-in-Err-Fault-clause-names
returns-in-Err-Fault-clause-names g c = asked_names g.S.Folder.Folder.has g.S.Folder.Folder.faults c.args.number c.args.library.now c.archiver.new.self c.archiver.ensures.change

pub returns-in-Err-NoMemory-clause-names : goal.returns-in-Err-NoMemory-clause-names
returns-in-Err-NoMemory-clause-names g c = asked_names g.S.Folder.Folder.has g.S.Folder.Folder.faults c.args.number c.args.library.now c.archiver.new.self c.archiver.ensures.change

pub returns-clause-names : goal.returns-clause-names
returns-clause-names g c = asked_names g.S.Folder.Folder.has g.S.Folder.Folder.faults c.args.number c.args.library.now c.archiver.new.self c.archiver.ensures.change

pub returns-in-Err-Fault-clause-seats : goal.returns-in-Err-Fault-clause-seats
returns-in-Err-Fault-clause-seats g c = λ start all waiting datasets d.
    let s = c.args.self.now in
    refused_closes g.S.Folder.Folder.has g.S.Folder.Folder.faults g.S.Folder.Shelf.Shelf.kept start (g.S.Store.has c.args.store.now) all waiting datasets c.args.number c.args.library.now c.archiver.new.self s.passes.items s.jobs.items s.parcels.items d c.archiver.ensures.change c.archiver.ensures.sound _ c.in-Err-Fault.ensures.refused

pub returns-in-Err-NoMemory-clause-seats : goal.returns-in-Err-NoMemory-clause-seats
returns-in-Err-NoMemory-clause-seats g c = λ start all waiting datasets d.
    let s = c.args.self.now in
    refused_closes g.S.Folder.Folder.has g.S.Folder.Folder.faults g.S.Folder.Shelf.Shelf.kept start (g.S.Store.has c.args.store.now) all waiting datasets c.args.number c.args.library.now c.archiver.new.self s.passes.items s.jobs.items s.parcels.items d c.archiver.ensures.change c.archiver.ensures.sound _ c.in-Err-NoMemory.ensures.refused

pub bounds-datasets-n : goal.bounds-datasets-n
bounds-datasets-n g c = let lt = board_inside g.S.Folder.Folder.has g.S.Folder.Shelf.Shelf.kept c.args.worker c.args.number c.args.library.now c.args.self.now.passes.items c.args.self.now.jobs.items c.requires.can in omega (arith, lt, ap length c.datasets.ensures, ap length c.archiver.ensures.change.boards)

pub index_mut-requires : goal.index_mut-requires
index_mut-requires g c = let lt = pass_inside g.S.Folder.Folder.has g.S.Folder.Shelf.Shelf.kept c.args.worker c.args.number c.args.library.now c.args.self.now.passes.items c.args.self.now.jobs.items c.requires.can in omega (arith, lt, c.args.self.now.passes.ok.0)

pub split-pass-requires-clause-own : goal.split-pass-requires-clause-own
split-pass-requires-clause-own g c κs within = pass_own g.S.Folder.Folder.has g.S.Folder.Shelf.Shelf.kept c.args.worker c.args.number c.args.library.now c.args.self.now.passes.items c.args.self.now.jobs.items c.requires.can c.index_mut.result.now c.index_mut.ensures.value c.index-datasets-n.result (subst (λ bs. c.index-datasets-n.result ≡ get_or bs c.args.number c.index-datasets-n.result) (c.datasets.ensures ∙ c.archiver.ensures.change.boards) c.index-datasets-n.is)

pub split-pass-requires-clause-free : goal.split-pass-requires-clause-free
split-pass-requires-clause-free g c κs within = pass_free g.S.Folder.Folder.has g.S.Folder.Shelf.Shelf.kept c.args.worker c.args.number c.args.library.now c.args.self.now.passes.items c.args.self.now.jobs.items c.requires.can c.index_mut.result.now c.index_mut.ensures.value

pub split-pass-requires-clause-parts : goal.split-pass-requires-clause-parts
split-pass-requires-clause-parts g c κs within = pass_parts g.S.Folder.Folder.has g.S.Folder.Shelf.Shelf.kept c.args.worker c.args.number c.args.library.now c.args.self.now.passes.items c.args.self.now.jobs.items c.requires.can c.index_mut.result.now c.index_mut.ensures.value

pub index_mut-requires-3 : goal.index_mut-requires-3
index_mut-requires-3 g c = let lt = desk_inside g.S.Folder.Folder.has g.S.Folder.Shelf.Shelf.kept c.args.worker c.args.number c.args.library.now c.args.self.now.passes.items c.args.self.now.jobs.items c.requires.can c.index_mut-2.result.now c.index_mut-2.result.now c.index_mut-2.ensures.value in omega (arith, lt, c.index_mut-2.result.now.desks.ok.0)

pub returns-clause-seats : goal.returns-clause-seats
returns-clause-seats g c = λ start all waiting datasets d.
    seated_at g.S.Folder.Folder.has g.S.Folder.Shelf.Shelf.kept c.args.worker c.args.number c.args.library.now c.args.self.now.passes.items c.args.self.now.jobs.items c.requires.can g.S.Folder.Folder.faults start (g.S.Store.has c.args.store.now) all waiting datasets c.archiver.new.self c.args.self.now.parcels.items d c.archiver.ensures.change c.archiver.ensures.sound _ refl refl c.in-Ok.archiver c.in-Ok.ensures.new c.in-Ok.ensures.tells
    c.index.result.now c.index_mut-2.result.now _ c.index.ensures c.index_mut-2.ensures.value c.index-2.result.now c.index-2.ensures (sym c.is_some.ensures ∙ c.if-is_some.false) c.index_mut.result.now c.split-pass.new.pass c.split-pass.result c.index_mut.ensures.value refl refl c.split-pass.ensures.own c.split-pass.ensures.kept c.split-pass.ensures.given
