use Rattle.std.proofs.Common.{rules, ◌≡◌, refl, true, None, IfSome, map}
use Rattle.std.specs.Prelude.{is_some, option_map, Ok}
use Rattle.fd_disk.specs.Folders.{with_table, without_table}
use Rattle.fd_disk.specs.Images.{synced}
use Rattle.fd_entries.specs.Table.{listed}
use Rattle.fd_segment.specs.Held.{batch_of}
use Rattle.fd_segment.specs.Shared.{standings}
use Rattle.fd_recovery.specs.Recovered.{AreTakenUp, ReadsImage, all_of, held}
use Rattle.fd_retrieve.proofs.OpenLemmas.{lists_again, open_told}
use Rattle.fd_retrieve.proofs.Firmly.{synced_back}
use Rattle.fd_retrieve.proofs.Looking.{as_synced, refused_looked}
use Rattle.fd_retrieve.proofs.Staying.{table_back}
use Rattle.fd_retrieve.proofs.opened.open_in.Goals as goal

pub returns-in-Ok-clause-opened : goal.returns-in-Ok-clause-opened
returns-in-Ok-clause-opened g c =
    let old = g.D.Folder.has c.args.folder.now in
    let name = c.args.name.now in
    let toc = c.in-Ok-Some.recovered.toc in
    let ss = standings c.in-Ok-Some.recovered.segments.items in
    let o = c.in-Ok.opened in
    let text : o.name ≡ name = search rules in
    let shown : o.shown ≡ ss = search rules in
    let there : IfSome old (λ v. true ≡ is_some v.table) = search rules in
    let lists : IfSome old (λ v. IfSome v.table (λ f. listed name f.reads ≡ Ok toc.entries)) = search rules in
    let taken : AreTakenUp name old toc.entries ss = search rules in
    let told : IfSome old (λ v. all_of (map (λ s. batch_of s.files) ss) ≡ held name v) = search rules in
    (text, open_told name old toc.entries ss o text shown there lists taken told)

pub returns-in-Ok-clause-stays : goal.returns-in-Ok-clause-stays
returns-in-Ok-clause-stays g c =
    let has = g.D.Folder.has in
    let old = has c.args.folder.now in
    let name = c.args.name.now in
    let toc = c.in-Ok-Some.recovered.toc in
    let table = g.D.Table.Disk.file c.into_table.result in
    let there : IfSome old (λ v. true ≡ is_some v.table) = search rules in
    let lists : IfSome old (λ v. IfSome v.table (λ f. listed name f.reads ≡ Ok toc.entries)) = search rules in
    let text : toc.dataset ≡ name = search rules in
    let sure : toc.doubt ≡ None = search rules in
    let out : has c.recover.new.folder ≡ option_map without_table old = search rules in
    let put : has c.give_table.new.self ≡ with_table table (has c.recover.new.folder) = search rules in
    table_back name old (has c.recover.new.folder) (has c.give_table.new.self) table out put
    (lists_again name toc.dataset table toc.entries toc.entries toc.doubt old text sure refl c.into_table.ensures.images ((g.met.D.Table.Disk g.world.𝓛 g.world.𝓜 g.world.𝓡 ((λ s x. x), (λ x. x), (λ x. x), λ x. x)).reads_image c.into_table.result) there lists)

pub returns-in-Ok-clause-looks : goal.returns-in-Ok-clause-looks
returns-in-Ok-clause-looks g c =
    let has = g.D.Folder.has in
    let old = has c.args.folder.now in
    let table = g.D.Table.Disk.file c.into_table.result in
    let firm : IfSome old (λ v. table ≡ option_map synced v.table) = search rules in
    let out : has c.recover.new.folder ≡ option_map without_table old = search rules in
    let put : has c.give_table.new.self ≡ with_table table (has c.recover.new.folder) = search rules in
    let image : IfSome old (λ v. ReadsImage v.table) = search rules in
    as_synced old (has c.recover.new.folder) (has c.give_table.new.self) table firm image out put

pub returns-in-Ok-clause-firm : goal.returns-in-Ok-clause-firm
returns-in-Ok-clause-firm g c =
    let has = g.D.Folder.has in
    let old = has c.args.folder.now in
    let table = g.D.Table.Disk.file c.into_table.result in
    let firm : IfSome old (λ v. table ≡ option_map synced v.table) = search rules in
    let out : has c.recover.new.folder ≡ option_map without_table old = search rules in
    let put : has c.give_table.new.self ≡ with_table table (has c.recover.new.folder) = search rules in
    synced_back old (has c.recover.new.folder) (has c.give_table.new.self) table firm out put

pub returns-in-Err-clause-looks : goal.returns-in-Err-clause-looks
returns-in-Err-clause-looks g c = refused_looked (g.D.Folder.has c.args.folder.now) (g.D.Folder.has c.recover.new.folder) c.in-Err.ensures.has_err c.in-Err.ensures.image_err
