use Rattle.std.proofs.Common.{rules, ◌≡◌, Some, IfSome, subst, sym}
use Rattle.std.specs.Prelude.{option_map}
use Rattle.fd_disk.specs.Folders.{SameBut, WhereTold, folder_at}
use Rattle.fd_retrieve.proofs.Looking.{LookedBack, as_it_was, bare_looked, looked_given, same_looked}
use Rattle.fd_retrieve.proofs.Staying.{Back, bare_back, looked_back, same_back, stays_given}
use Rattle.fd_retrieve.proofs.tables.has_table.Goals as goal
use Rattle.fd_retrieve.proofs.tables.has_table.Goals.{in-Ok-Some, in-Ok-None, in-Err}

pub returns-clause-stays : goal.returns-clause-stays
returns-clause-stays g c =
    let has = g.S.Folder.Folder.has in
    let name = c.args.name.now in
    let old = g.S.Store.has c.args.store.now in
    let new = g.S.Store.has c.give_folder.new.self in
    let d = c.in_ok-folder.folder in
    let e = c.match-table.folder in
    let first : has d ≡ option_map (λ s. folder_at s name) old = search rules in
    let back : Back name (has d) (has e) = elim c.match-table.branch [
      | in-Ok-Some w ↦ subst (λ x. Back name (has d) (has x)) (sym w.folder-is) (looked_back name (has d) (has c.table.new.self) (has w.give_table.new.self) (g.S.Folder.Table.Disk.file w.in-Ok-Some.table) (rw w.in-Ok-Some.field-0-is at w.in-Ok-Some.ensures.given) w.in-Ok-Some.ensures.has w.give_table.ensures.has)
      | in-Ok-None w ↦ subst (λ x. Back name (has d) (has x)) (sym w.folder-is) (bare_back name (has d) (has c.table.new.self) (search rules) (search rules))
      | in-Err w ↦ subst (λ x. Back name (has d) (has x)) (sym w.folder-is) (same_back name (has d) (has c.table.new.self) (search rules))
    ] in
    let away : WhereTold old (g.S.Store.has c.folder.new.self) (SameBut name) = search rules in
    let home : WhereTold (g.S.Store.has c.folder.new.self) new (SameBut name) = search rules in
    let left : IfSome new (λ t. has e ≡ Some (folder_at t name)) = search rules in
    stays_given old (g.S.Store.has c.folder.new.self) new (has d) (has e) name away home first back left

pub returns-clause-looks : goal.returns-clause-looks
returns-clause-looks g c =
    let has = g.S.Folder.Folder.has in
    let name = c.args.name.now in
    let old = g.S.Store.has c.args.store.now in
    let new = g.S.Store.has c.give_folder.new.self in
    let d = c.in_ok-folder.folder in
    let e = c.match-table.folder in
    let first : has d ≡ option_map (λ s. folder_at s name) old = search rules in
    let back : LookedBack (has d) (has e) = elim c.match-table.branch [
      | in-Ok-Some w ↦ subst (λ x. LookedBack (has d) (has x)) (sym w.folder-is) (as_it_was (has d) (has c.table.new.self) (has w.give_table.new.self) (g.S.Folder.Table.Disk.file w.in-Ok-Some.table) (rw w.in-Ok-Some.field-0-is at w.in-Ok-Some.ensures.given) w.in-Ok-Some.ensures.has w.give_table.ensures.has)
      | in-Ok-None w ↦ subst (λ x. LookedBack (has d) (has x)) (sym w.folder-is) (bare_looked (has d) (has c.table.new.self) (search rules) (search rules))
      | in-Err w ↦ subst (λ x. LookedBack (has d) (has x)) (sym w.folder-is) (same_looked (has d) (has c.table.new.self) (search rules))
    ] in
    let away : WhereTold old (g.S.Store.has c.folder.new.self) (SameBut name) = search rules in
    let home : WhereTold (g.S.Store.has c.folder.new.self) new (SameBut name) = search rules in
    let left : IfSome new (λ t. has e ≡ Some (folder_at t name)) = search rules in
    looked_given old (g.S.Store.has c.folder.new.self) new (has d) (has e) name away home first back left
