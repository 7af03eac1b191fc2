use Rattle.std.proofs.Common.{rules, List, ap, refl, sym, subst, slice_get}
use Rattle.fd_archiver.specs.Writing.{Writing}
use Rattle.fd_library.specs.Open.{OpenDataset}
use Rattle.fd_play.specs.Staff.{Staffs}
use Rattle.fd_play.proofs.Staffing.{staffs_more, tried}
use Rattle.fd_play.proofs.staff.add_archiver.Goals as goal

pub archiver-requires-after_bounds : goal.archiver-requires-after_bounds
archiver-requires-after_bounds g c κs within = let s = c.requires.sole in (s.1, ap (λ (hs : List (OpenDataset g.row.S-Folder.Denot)). slice_get hs 0) s.2.each, s.3)

pub returns-in-Ok-clause-ok : goal.returns-in-Ok-clause-ok
returns-in-Ok-clause-ok g c = λ b h st.
    let has = g.S.Folder.Folder.has in
    subst (λ (ws : List (Writing g.row.S-Folder-Shelf.Denot)). Staffs has b h c.archiver.new.self ws) (sym c.push_reserved.ensures.items)
    (staffs_more has g.S.Folder.Folder.faults b h c.args.library.now c.archiver.new.self c.args.archivers.now.items st c.archiver.ensures.change c.in-Ok.archiver _ c.in-Ok.ensures.new refl refl)

pub returns-in-Err-Fault-clause-err : goal.returns-in-Err-Fault-clause-err
returns-in-Err-Fault-clause-err g c = λ b h st.
    tried g.S.Folder.Folder.has g.S.Folder.Folder.faults b h c.args.library.now c.archiver.new.self c.args.archivers.now.items st c.archiver.ensures.change _ c.in-Err-Fault.ensures.refused

pub returns-in-Err-NoMemory-clause-err : goal.returns-in-Err-NoMemory-clause-err
returns-in-Err-NoMemory-clause-err g c = λ b h st.
    tried g.S.Folder.Folder.has g.S.Folder.Folder.faults b h c.args.library.now c.archiver.new.self c.args.archivers.now.items st c.archiver.ensures.change _ c.in-Err-NoMemory.ensures.refused
