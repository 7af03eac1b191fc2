use Rattle.std.proofs.Common.{◌≡◌, List, ℕ, ap, subst, ◌∙◌, string_bytes}
use Rattle.fd_disk.specs.Folders.{Contents, SameBut, folder_at}
use Rattle.fd_disk_mem.specs.Out.{parts_of}
use Rattle.fd_disk_mem.specs.Planning.{holdings}
use Rattle.fd_disk_mem.specs.Slots.{contents_of}
use Rattle.fd_disk_mem.proofs.OutLemmas.{crash_image, on_ok}
use Rattle.fd_disk_mem.proofs.store.MemStore.crash_out.Goals as goal

pub returns-clause-image : goal.returns-clause-image
returns-clause-image c =
    let f = c.with_all_back.result in
    let v : Contents = contents_of f.table f.files in
    let old = holdings c.args.self in
    let mid = holdings c.give_folder.new.self in
    let name : string_bytes f.name ≡ string_bytes c.args.folder.name = c.with_all_back.ensures.name in
    let same = subst (λ (n : List ℕ). SameBut n old mid) name c.give_folder.ensures.contents in
    let here : v ≡ folder_at mid (string_bytes f.name) = cc c.give_folder.ensures.given in
    let is = here ∙ ap (folder_at mid) name in
    on_ok c.crash.result _ _ c.crash.ensures.image
    (λ s image. crash_image old mid (string_bytes c.args.folder.name) v (parts_of c.args.folder c.args.table c.args.shelves.items) _ _ same is c.with_all_back.ensures.image image)
