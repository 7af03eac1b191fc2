use Rattle.std.proofs.Common.{◌≡◌, ◌∙◌, inl, ap, refl, sym, string_bytes, subst, length, ◌≤◌, Some, None, List, ℕ}
use Rattle.fd_disk.proofs.RenewalLemmas.{still_goes}
use Rattle.fd_disk.specs.Folders.{with_table}
use Rattle.fd_file_mem.specs.Calls.{Memory, file_of}
use Rattle.fd_disk_mem.specs.Pasts.{calls_of, memory_of}
use Rattle.fd_disk_mem.specs.Slots.{contents_of}
use Rattle.fd_disk_mem.proofs.PastLemmas.{cause_err, cause_ok, on_any, put_is, renewed_goes, still}
use Rattle.fd_disk_mem.proofs.renewing.MemFolderRenewMemFault.renew.Goals as goal

pub returns-in-Ok-clause-ok : goal.returns-in-Ok-clause-ok
returns-in-Ok-clause-ok c = put_is c.put_table.new.self.table _ c.args.self.now.files _ _ c.put_table.ensures.table (ap (λ (m : Memory). Some (file_of m)) c.in-Ok.ensures.file) (c.put_table.ensures.files ∙ c.in-Ok.ensures.still.files)

pub returns-in-Ok-clause-time : goal.returns-in-Ok-clause-time
returns-in-Ok-clause-time c =
    renewed_goes c.args.self.now.past c.renewal.new.self.past c.renew.new.self c.put_table.new.self.past c.args.table c.put_table.new.self.table c.args.self.now.files c.put_table.new.self.files
    (with_table (Some (file_of c.args.table.file)) (Some (contents_of c.args.self.now.table c.args.self.now.files))) _
    c.in-Ok.ensures.still.past c.put_table.ensures.past (c.put_table.ensures.files ∙ c.in-Ok.ensures.still.files) c.renew.ensures.begins (ap (λ t. calls_of (memory_of t)) c.put_table.ensures.table ∙ ap (λ (m : Memory). length m.calls) c.in-Ok.ensures.file) c.renew.ensures.moments c.renew.ensures.only c.renew.ensures.keeps
    (returns-in-Ok-clause-ok c)

pub returns-in-Ok-clause-cause : goal.returns-in-Ok-clause-cause
returns-in-Ok-clause-cause c = cause_ok c.args.self.now.faults c.renewal.new.self.faults c.put_table.new.self.faults _ tt c.put_table.ensures.faults c.renewal.ensures.cause

pub returns-in-Err-clause-err : goal.returns-in-Err-clause-err
returns-in-Err-clause-err c = inl (put_is c.put_table-in-Err.new.self.table _ c.args.self.now.files _ _ c.put_table-in-Err.ensures.table refl (c.put_table-in-Err.ensures.files ∙ c.in-Err.ensures.still.files))

pub returns-in-Err-clause-refused : goal.returns-in-Err-clause-refused
returns-in-Err-clause-refused c = on_any c.in-Err.down (put_is c.put_table-in-Err.new.self.table _ c.args.self.now.files _ _ c.put_table-in-Err.ensures.table refl (c.put_table-in-Err.ensures.files ∙ c.in-Err.ensures.still.files))

pub returns-in-Err-clause-time : goal.returns-in-Err-clause-time
returns-in-Err-clause-time c =
    still_goes _ _ _ _ _ (still c.args.self.now.past c.put_table-in-Err.new.self.past (Some c.args.table.file) (memory_of c.put_table-in-Err.new.self.table) c.args.self.now.files c.put_table-in-Err.new.self.files
    (sym (c.put_table-in-Err.ensures.past ∙ c.in-Err.ensures.still.past)) (sym (ap memory_of c.put_table-in-Err.ensures.table)) (sym (c.put_table-in-Err.ensures.files ∙ c.in-Err.ensures.still.files)))

pub returns-in-Err-clause-cause : goal.returns-in-Err-clause-cause
returns-in-Err-clause-cause c = cause_err c.args.self.now.faults c.renewal.new.self.faults c.put_table-in-Err.new.self.faults c.in-Err.down c.put_table-in-Err.ensures.faults c.in-Err.ensures.cause
