use Rattle.std.proofs.Common.{rules, ◌≡◌, if◌then◌else◌, Bool, ◌∙◌, ap, sym, string_bytes}
use Rattle.fd_disk.specs.Folders.{Contents, folder_at}
use Rattle.fd_disk.proofs.NameLemmas.{same_name_refl}
use Rattle.fd_disk_mem.specs.Drawers.{bytes_among, bytes_in}
use Rattle.fd_disk_mem.specs.Planning.{holdings}
use Rattle.fd_disk_mem.specs.Slots.{contents_of}
use Rattle.fd_disk_mem.proofs.store.MemStore.replace_file.Goals as goal

pub returns-clause-ok : goal.returns-clause-ok
returns-clause-ok c =
    let d = c.args.dataset.now in
    let n = c.args.name in
    let f = c.in_ok-folder.folder in
    let ks = c.in_ok-drawer.drawer.items in
    let old = holdings c.args.self.now in
    let new = holdings c.give_folder.new.self in
    let named : string_bytes f.name ≡ d = c.in_ok-folder.ensures.folder.0 in
    let was : contents_of f.table f.files ≡ folder_at old d = c.in_ok-folder.ensures.contents in
    let given : contents_of f.table c.lay.new.drawers ≡ folder_at new (string_bytes f.name) = cc c.give_folder.ensures.given in
    let is = given ∙ ap (folder_at new) named in
    record {
      others = search rules;
      table = sym (ap (λ (v : Contents). v.table) is) ∙ ap (λ (v : Contents). v.table) was;
      file = sym (ap (λ (v : Contents). v.files n) is)
          ∙ c.lay.ensures.bytes n
          ∙ ap (λ (b : Bool). if b then bytes_among ks n else bytes_in f.files n) (c.in_ok-drawer.ensures.named n ∙ same_name_refl n)
          ∙ c.in_ok-drawer.ensures.bytes n (same_name_refl n);
      files = λ m out. sym (ap (λ (v : Contents). v.files m) is)
          ∙ c.lay.ensures.bytes m
          ∙ ap (λ (b : Bool). if b then bytes_among ks m else bytes_in f.files m) (c.in_ok-drawer.ensures.named m ∙ out)
          ∙ ap (λ (v : Contents). v.files m) was;
      here = search rules;
    }
