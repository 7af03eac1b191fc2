use Rattle.std.proofs.Common.{rules, ◌≡◌, Some, IfSome}
use Rattle.std.specs.Prelude.{option_map}
use Rattle.std.proofs.lemmas.Result.{IfOk-weaker}
use Rattle.fd_disk.specs.Folders.{SameBut, WhereTold, folder_at}
use Rattle.fd_recovery.specs.Crashing.{IsFirmTable}
use Rattle.fd_recovery.specs.Recovered.{IsUndamaged}
use Rattle.fd_retrieve.proofs.Firmly.{firm_given}
use Rattle.fd_retrieve.proofs.Looking.{looked_given}
use Rattle.fd_retrieve.proofs.Staying.{stays_given}
use Rattle.fd_retrieve.proofs.Undamaged.{undamaged_in}
use Rattle.fd_retrieve.proofs.opened.open.Goals as goal

pub returns-clause-stays : goal.returns-clause-stays
returns-clause-stays g c =
    let has = g.S.Folder.Folder.has in
    let name = c.args.name.now in
    let old = g.S.Store.has c.args.store.now in
    let new = g.S.Store.has c.give_folder.new.self in
    let d = c.in-Ok.folder in
    let e = c.open_in-answer.new.folder in
    let first : has d ≡ option_map (λ s. folder_at s name) old = search rules in
    let away : WhereTold old (g.S.Store.has c.folder.new.self) (SameBut name) = search rules in
    let home : WhereTold (g.S.Store.has c.folder.new.self) new (SameBut name) = search rules in
    let left : IfSome new (λ t. has e ≡ Some (folder_at t name)) = search rules in
    stays_given old (g.S.Store.has c.folder.new.self) new (has d) (has e) name away home first c.open_in-answer.ensures.stays left

pub returns-clause-looks : goal.returns-clause-looks
returns-clause-looks g c =
    let has = g.S.Folder.Folder.has in
    let name = c.args.name.now in
    let old = g.S.Store.has c.args.store.now in
    let new = g.S.Store.has c.give_folder.new.self in
    let d = c.in-Ok.folder in
    let e = c.open_in-answer.new.folder in
    let first : has d ≡ option_map (λ s. folder_at s name) old = search rules in
    let away : WhereTold old (g.S.Store.has c.folder.new.self) (SameBut name) = search rules in
    let home : WhereTold (g.S.Store.has c.folder.new.self) new (SameBut name) = search rules in
    let left : IfSome new (λ t. has e ≡ Some (folder_at t name)) = search rules in
    looked_given old (g.S.Store.has c.folder.new.self) new (has d) (has e) name away home first c.open_in-answer.ensures.looks left

pub returns-clause-undamaged : goal.returns-clause-undamaged
returns-clause-undamaged g c =
    let name = c.args.name.now in
    let old = g.S.Store.has c.args.store.now in
    let d = g.S.Folder.Folder.has c.in-Ok.folder in
    let first : d ≡ option_map (λ s. folder_at s name) old = search rules in
    IfOk-weaker c.open_in-answer.result (λ o. IfSome d (λ v. IsUndamaged name v)) (λ o. IfSome old (λ h. IsUndamaged name (folder_at h name))) (λ o sound. undamaged_in old d name first sound) c.open_in-answer.ensures.undamaged

pub returns-clause-firm : goal.returns-clause-firm
returns-clause-firm g c =
    let name = c.args.name.now in
    let new = g.S.Store.has c.give_folder.new.self in
    let e = g.S.Folder.Folder.has c.open_in-answer.new.folder in
    let left : IfSome new (λ t. e ≡ Some (folder_at t name)) = search rules in
    IfOk-weaker c.open_in-answer.result (λ o. IfSome e (λ w. IsFirmTable w.table)) (λ o. IfSome new (λ i. IsFirmTable (folder_at i name).table)) (λ o firm. firm_given new e name left firm) c.open_in-answer.ensures.firm
