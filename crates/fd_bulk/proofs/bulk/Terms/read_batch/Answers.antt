use Rattle.fd_bulk.proofs.Overlaps.{ran_goes, ran_stopped}
use Rattle.fd_bulk.proofs.Gone.{can_run}
use Rattle.fd_bulk.proofs.bulk.Terms.read_batch.Goals as goal

pub run_reading-requires-clause-can : goal.run_reading-requires-clause-can
run_reading-requires-clause-can g c κs within =
    let r = c.requires.can in
    can_run g.S.Folder.Folder.has g.S.Folder.Shelf.Shelf.kept c.args.self.now.schema.now c.args.self.now.given.now r.0 (g.S.Store.has c.args.store.now) r.1.0 r.1.1.0 c.args.library.now c.args.crew.now.passes.items c.args.crew.now.jobs.items c.args.crew.now.parcels.items c.args.reader.now c.requires.few r.1.1.1

pub returns-then-are_enough-clause-goes : goal.returns-then-are_enough-clause-goes
returns-then-are_enough-clause-goes g c = λ rules given p start all waiting few going.
    let r = c.run_reading.ensures in
    ran_goes g.S.Folder.Folder.has g.S.Folder.Shelf.Shelf.kept start (g.S.Store.has c.args.store.now) (g.S.Store.has c.run_reading.new.store) all waiting c.args.library.now c.run_reading.new.self.passes.items rules given c.args.crew.now.passes.items c.args.crew.now.jobs.items c.run_reading.new.self.jobs.items c.args.crew.now.parcels.items c.run_reading.new.self.parcels.items p few going r.has r.none c.run_reading.result
    (r.ran start (g.S.Store.has c.args.store.now) 0 all waiting going.deals.crewed going.deals.waits)

pub returns-then-are_enough-clause-stopped : goal.returns-then-are_enough-clause-stopped
returns-then-are_enough-clause-stopped g c =
    let q = c.requires.can in
    let r = c.run_reading.ensures in
    ran_stopped g.S.Folder.Folder.has g.S.Folder.Shelf.Shelf.kept q.0 (g.S.Store.has c.args.store.now) (g.S.Store.has c.run_reading.new.store) q.1.0 q.1.1.0 c.args.library.now c.run_reading.new.self.passes.items c.run_reading.new.self.jobs.items c.run_reading.result
    (r.ran q.0 (g.S.Store.has c.args.store.now) 0 q.1.0 q.1.1.0 q.1.1.1.deals.crewed q.1.1.1.deals.waits)
