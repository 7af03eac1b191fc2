use Rattle.std.proofs.Common.{ap, arith}
use Rattle.fd_bytes.specs.Causes.{Rose}
use Rattle.fd_library.specs.Open.{OpenDatasets}
use Rattle.fd_bulk.proofs.Sparing.{parts_back, parts_of, same_spared}
use Rattle.fd_archive.proofs.Giving.{back_of, kept_of, none_out, seated, starved_kept}
use Rattle.fd_archive.proofs.Told.{on_disk, rose_before}
use Rattle.fd_archive.proofs.storing.Setup.store_all.Goals as goal

pub returns-in_default-clause-stored : goal.returns-in_default-clause-stored
returns-in_default-clause-stored g c = starved_kept _ c.args.self.now.workers c.args.self.now.schema.now c.args.self.now.given.now (g.I.Source.left c.args.input.now) (g.S.Store.has c.args.store.now)

pub archive_all-found-requires-clause-none : goal.archive_all-found-requires-clause-none
archive_all-found-requires-clause-none g c κs within = let none = c.in-Ok.ensures in (ap (λ (l : OpenDatasets g.row.S-Folder.Denot). l.each) none, ap (λ (l : OpenDatasets g.row.S-Folder.Denot). l.boards) none)

pub give_back-requires-clause-seated : goal.give_back-requires-clause-seated
give_back-requires-clause-seated g c κs within =
    let back = back_of g.S.Folder.Folder.has c.args.self.now.workers c.args.self.now.schema.now c.args.self.now.given.now (g.I.Source.left c.args.input.now) (g.I.Source.left c.archive_all-found.new.input) (g.S.Store.has c.args.store.now) (g.S.Store.has c.archive_all-found.new.store) c.archive_all-found.new.library.each c.archive_all-found.result c.archive_all-found.ensures.archived in
    seated g.S.Folder.Folder.has c.args.self.now.workers back.0 c.archive_all-found.new.library.each back.1

pub give_back-requires-clause-none : goal.give_back-requires-clause-none
give_back-requires-clause-none g c κs within =
    let back = back_of g.S.Folder.Folder.has c.args.self.now.workers c.args.self.now.schema.now c.args.self.now.given.now (g.I.Source.left c.args.input.now) (g.I.Source.left c.archive_all-found.new.input) (g.S.Store.has c.args.store.now) (g.S.Store.has c.archive_all-found.new.store) c.archive_all-found.new.library.each c.archive_all-found.result c.archive_all-found.ensures.archived in
    none_out g.S.Folder.Folder.has c.args.self.now.workers back.0 c.archive_all-found.new.library.each back.1

pub returns-clause-home : goal.returns-clause-home
returns-clause-home g c = c.give_back.ensures.back

pub returns-clause-stored : goal.returns-clause-stored
returns-clause-stored g c =
    kept_of g.S.Folder.Folder.has c.args.self.now.workers c.args.self.now.schema.now c.args.self.now.given.now (g.I.Source.left c.args.input.now) (g.I.Source.left c.archive_all-found.new.input) (g.S.Store.has c.args.store.now) (g.S.Store.has c.archive_all-found.new.store) c.archive_all-found.new.library.each
    (g.S.Store.has c.give_back.new.store) c.give_back.ensures.given c.give_back.ensures.kept c.archive_all-found.result c.archive_all-found.ensures.archived

pub returns-in_default-clause-causes : goal.returns-in_default-clause-causes
returns-in_default-clause-causes g c = record { calm = tt; read = tt; disk = tt; later = omega arith }

pub returns-clause-causes : goal.returns-clause-causes
returns-clause-causes g c =
    let first = g.S.Store.faults c.args.store.now in
    let mid = g.S.Store.faults c.archive_all-found.new.store in
    let last = g.S.Store.faults c.give_back.new.store in
    let h = c.archive_all-found.ensures.causes in
    record {
      calm = h.calm;
      read = h.read;
      disk = on_disk c.archive_all-found.result (Rose first mid) (Rose first last) (rose_before first mid last c.give_back.ensures.later) h.disk;
      later = omega (arith, h.later, c.give_back.ensures.later);
    }

pub returns-in_default-clause-spares : goal.returns-in_default-clause-spares
returns-in_default-clause-spares g c = same_spared (g.S.Store.has c.args.store.now)

pub returns-clause-spares : goal.returns-clause-spares
returns-clause-spares g c =
    let has = g.S.Folder.Folder.has in
    let start = g.S.Store.has c.args.store.now in
    let now = g.S.Store.has c.archive_all-found.new.store in
    let each = c.archive_all-found.new.library.each in
    parts_back each has start now (g.S.Store.has c.give_back.new.store) (parts_of has c.args.self.now.workers c.args.self.now.schema.now c.args.self.now.given.now (g.I.Source.left c.args.input.now) (g.I.Source.left c.archive_all-found.new.input) start now each c.archive_all-found.result c.archive_all-found.ensures.archived)
    c.give_back.ensures.given
