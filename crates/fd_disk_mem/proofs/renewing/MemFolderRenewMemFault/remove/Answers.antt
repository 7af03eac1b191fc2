use Rattle.std.proofs.Common.{Some, ◌∙◌, inl, ap, refl, sym}
use Rattle.fd_disk.proofs.RenewalLemmas.{still_goes}
use Rattle.fd_disk_mem.specs.Drawers.{bytes_among, is_named}
use Rattle.fd_disk_mem.specs.Pasts.{memory_of}
use Rattle.fd_disk_mem.specs.Slots.{contents_of}
use Rattle.fd_disk_mem.proofs.PastLemmas.{cause_err, cause_ok, laid_none, on_any, removed_goes, removed_is, same_contents, still}
use Rattle.fd_disk_mem.proofs.renewing.MemFolderRenewMemFault.remove.Goals as goal

pub returns-clause-ok : goal.returns-clause-ok
returns-clause-ok c =
    let ks = c.in-Ok.removal.drawer.items in
    removed_is c.removal.new.self.table c.args.self.now.table c.removal.new.self.files c.args.self.now.files c.lay.new.drawers c.args.file c.in-Ok.ensures.still.table c.in-Ok.ensures.still.files
    (laid_none (is_named ks) (bytes_among ks) c.removal.new.self.files c.lay.new.drawers c.args.file c.in-Ok.ensures.named c.in-Ok.ensures.none c.lay.ensures.bytes)

pub returns-clause-time : goal.returns-clause-time
returns-clause-time c =
    removed_goes c.args.self.now.past c.removal.new.self.past c.remove.new.self c.args.self.now.table c.removal.new.self.table c.in-Ok.removal.table c.args.self.now.files c.lay.new.drawers
    (Some (contents_of c.args.self.now.table c.args.self.now.files)) _
    c.in-Ok.ensures.still.past c.in-Ok.ensures.still.table c.in-Ok.ensures.copy (c.lay.ensures.below ∙ c.in-Ok.ensures.still.files) c.remove.ensures.begins c.remove.ensures.moments c.remove.ensures.only c.remove.ensures.keeps
    (returns-clause-ok c)

pub returns-clause-cause : goal.returns-clause-cause
returns-clause-cause c = cause_ok c.args.self.now.faults c.removal.new.self.faults c.removal.new.self.faults _ tt refl c.in-Ok.ensures.cause

pub returns-in-Err-clause-err : goal.returns-in-Err-clause-err
returns-in-Err-clause-err c = inl (same_contents c.removal.new.self.table c.args.self.now.table c.removal.new.self.files c.args.self.now.files c.in-Err.ensures.still.table c.in-Err.ensures.still.files)

pub returns-in-Err-clause-refused : goal.returns-in-Err-clause-refused
returns-in-Err-clause-refused c = on_any c.in-Err.down (same_contents c.removal.new.self.table c.args.self.now.table c.removal.new.self.files c.args.self.now.files c.in-Err.ensures.still.table c.in-Err.ensures.still.files)

pub returns-in-Err-clause-time : goal.returns-in-Err-clause-time
returns-in-Err-clause-time c =
    still_goes _ _ _ _ _ (still c.args.self.now.past c.removal.new.self.past (memory_of c.args.self.now.table) (memory_of c.removal.new.self.table) c.args.self.now.files c.removal.new.self.files
    (sym c.in-Err.ensures.still.past) (sym (ap memory_of c.in-Err.ensures.still.table)) (sym c.in-Err.ensures.still.files))

pub returns-in-Err-clause-cause : goal.returns-in-Err-clause-cause
returns-in-Err-clause-cause c = cause_err c.args.self.now.faults c.removal.new.self.faults c.removal.new.self.faults c.in-Err.down refl c.in-Err.ensures.cause
