use Rattle.std.proofs.Common.{Option, Some, None, [], sym, subst}
use Rattle.fd_disk.specs.Outstanding.{IsDatasetImage, all_back}
use Rattle.fd_disk.proofs.OutstandingLemmas.{table_back}
use Rattle.fd_file_mem.specs.Calls.{file_of}
use Rattle.fd_disk_mem.specs.Out.{parts_of, shelves_in}
use Rattle.fd_disk_mem.specs.Slots.{contents_of}
use Rattle.fd_file_mem.specs.declared.disk.MemDisk.{MemDisk}
use Rattle.fd_disk_mem.specs.declared.folder.MemFolder.{MemFolder}
use Rattle.fd_disk_mem.proofs.crash.with_all_back.Goals.{in-Some, in-None}
use Rattle.fd_disk_mem.proofs.crash.with_all_back.Goals as goal

pub returns-clause-image : goal.returns-clause-image
returns-clause-image c = λ left image.
    let before = c.give_shelves.new.folder in
    elim c.match-table.branch [
      | in-Some w ↦
          let f = file_of w.in-Some.table.file in
          let after = w.give_table.new.self in
          let here = subst (λ (d : MemFolder). IsDatasetImage (all_back (contents_of d.table d.files)) left) w.folder-is image in
          let out = (table_back (contents_of before.table before.files) (contents_of after.table after.files) f (shelves_in []) left w.give_table.ensures.has).0 here in
          subst (λ (o : Option MemDisk). IsDatasetImage (parts_of c.args.folder o c.args.shelves.items) left) (sym w.in-Some.is) (c.give_shelves.ensures.image (Some f) left out)
      | in-None w ↦
          let here = subst (λ (d : MemFolder). IsDatasetImage (all_back (contents_of d.table d.files)) left) w.folder-is image in
          subst (λ (o : Option MemDisk). IsDatasetImage (parts_of c.args.folder o c.args.shelves.items) left) (sym w.in-None.is) (c.give_shelves.ensures.image None left here)
    ]
