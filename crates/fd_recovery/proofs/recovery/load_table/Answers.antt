use Rattle.std.proofs.Common.{◌≡◌, Some, None, IfSome, IsSome, MatchOption, inr, option_map, subst}
use Rattle.fd_disk.specs.Renewals.{IsQuiet, StandsStill}
use Rattle.fd_disk.proofs.RenewalLemmas.{quiet_out, quiet_still}
use Rattle.fd_recovery.proofs.TakingUp.{image_given}
use Rattle.fd_recovery.proofs.recovery.load_table.Goals as goal

pub returns-in-Ok-clause-time : goal.returns-in-Ok-clause-time
returns-in-Ok-clause-time g c =
    let has = g.D.Folder.has in
    let d = c.args.folder.now in
    let mid = c.table.new.self in
    let table = c.in-Ok-Some.table in
    let given : IfSome (has d) (λ v. (g.D.Table.Disk.file table ≡ v.table) × IsSome v.table) = subst (λ o. IfSome (has d) (λ v. MatchOption o (v.table ≡ None) (λ t. (g.D.Table.Disk.file t ≡ v.table) × IsSome v.table))) c.in-Ok-Some.field-0-is c.in-Ok-Some.ensures.given in
    let still : StandsStill (g.D.Folder.moment d None) (g.D.Folder.moment mid (Some table)) (g.D.Folder.left_since d None) (g.D.Folder.left_since mid (Some table)) =
    subst (λ o. StandsStill (g.D.Folder.moment d None) (g.D.Folder.moment mid o) (g.D.Folder.left_since d None) (g.D.Folder.left_since mid o)) c.in-Ok-Some.field-0-is c.in-Ok-Some.ensures.time in
    let leaves = c.in-Ok.ensures.any_moment in
    quiet_out _ _ _ _ _ _ (has d) (has mid) (g.D.Table.Disk.file table) c.in-Ok-Some.ensures.has given still ((g.met.D.Folder g.world.𝓛 g.world.𝓜 g.world.𝓡 ((λ s x. x), (λ x. x), (λ x. x), λ x. x)).ticks mid table c.in-Ok.toc.table leaves.later) (λ t left since. (g.met.D.Folder g.world.𝓛 g.world.𝓜 g.world.𝓡 ((λ s x. x), (λ x. x), (λ x. x), λ x. x)).quiet mid table c.in-Ok.toc.table t left leaves since)

pub returns-in-Disk-clause-time_err : goal.returns-in-Disk-clause-time_err
returns-in-Disk-clause-time_err g c =
    let has = g.D.Folder.has in
    let d = c.args.folder.now in
    let mid = c.table.new.self in
    let table = c.in-Ok-Some.table in
    let given : IfSome (has d) (λ v. (g.D.Table.Disk.file table ≡ v.table) × IsSome v.table) = subst (λ o. IfSome (has d) (λ v. MatchOption o (v.table ≡ None) (λ t. (g.D.Table.Disk.file t ≡ v.table) × IsSome v.table))) c.in-Ok-Some.field-0-is c.in-Ok-Some.ensures.given in
    let still : StandsStill (g.D.Folder.moment d None) (g.D.Folder.moment mid (Some table)) (g.D.Folder.left_since d None) (g.D.Folder.left_since mid (Some table)) =
    subst (λ o. StandsStill (g.D.Folder.moment d None) (g.D.Folder.moment mid o) (g.D.Folder.left_since d None) (g.D.Folder.left_since mid o)) c.in-Ok-Some.field-0-is c.in-Ok-Some.ensures.time in
    let back = c.in-Err.table in
    let leaves = c.in-Err.ensures.any_moment in
    quiet_still _ _ _ _ _ _ (has d)
    (quiet_out _ _ _ _ _ _ (has d) (has mid) (g.D.Table.Disk.file table) c.in-Ok-Some.ensures.has given still ((g.met.D.Folder g.world.𝓛 g.world.𝓜 g.world.𝓡 ((λ s x. x), (λ x. x), (λ x. x), λ x. x)).ticks mid table back leaves.later) (λ t left since. (g.met.D.Folder g.world.𝓛 g.world.𝓜 g.world.𝓡 ((λ s x. x), (λ x. x), (λ x. x), λ x. x)).quiet mid table back t left leaves since))
    c.give_table.ensures.time

pub returns-in-NotATable-clause-time_err : goal.returns-in-NotATable-clause-time_err
returns-in-NotATable-clause-time_err g c =
    let has = g.D.Folder.has in
    let d = c.args.folder.now in
    let mid = c.table.new.self in
    let table = c.in-Ok-Some.table in
    let given : IfSome (has d) (λ v. (g.D.Table.Disk.file table ≡ v.table) × IsSome v.table) = subst (λ o. IfSome (has d) (λ v. MatchOption o (v.table ≡ None) (λ t. (g.D.Table.Disk.file t ≡ v.table) × IsSome v.table))) c.in-Ok-Some.field-0-is c.in-Ok-Some.ensures.given in
    let still : StandsStill (g.D.Folder.moment d None) (g.D.Folder.moment mid (Some table)) (g.D.Folder.left_since d None) (g.D.Folder.left_since mid (Some table)) =
    subst (λ o. StandsStill (g.D.Folder.moment d None) (g.D.Folder.moment mid o) (g.D.Folder.left_since d None) (g.D.Folder.left_since mid o)) c.in-Ok-Some.field-0-is c.in-Ok-Some.ensures.time in
    let back = c.in-Err.table in
    let leaves = c.in-Err.ensures.any_moment in
    quiet_still _ _ _ _ _ _ (has d)
    (quiet_out _ _ _ _ _ _ (has d) (has mid) (g.D.Table.Disk.file table) c.in-Ok-Some.ensures.has given still ((g.met.D.Folder g.world.𝓛 g.world.𝓜 g.world.𝓡 ((λ s x. x), (λ x. x), (λ x. x), λ x. x)).ticks mid table back leaves.later) (λ t left since. (g.met.D.Folder g.world.𝓛 g.world.𝓜 g.world.𝓡 ((λ s x. x), (λ x. x), (λ x. x), λ x. x)).quiet mid table back t left leaves since))
    c.give_table.ensures.time

pub returns-in-NoMemory-clause-time_err : goal.returns-in-NoMemory-clause-time_err
returns-in-NoMemory-clause-time_err g c =
    let has = g.D.Folder.has in
    let d = c.args.folder.now in
    let mid = c.table.new.self in
    let table = c.in-Ok-Some.table in
    let given : IfSome (has d) (λ v. (g.D.Table.Disk.file table ≡ v.table) × IsSome v.table) = subst (λ o. IfSome (has d) (λ v. MatchOption o (v.table ≡ None) (λ t. (g.D.Table.Disk.file t ≡ v.table) × IsSome v.table))) c.in-Ok-Some.field-0-is c.in-Ok-Some.ensures.given in
    let still : StandsStill (g.D.Folder.moment d None) (g.D.Folder.moment mid (Some table)) (g.D.Folder.left_since d None) (g.D.Folder.left_since mid (Some table)) =
    subst (λ o. StandsStill (g.D.Folder.moment d None) (g.D.Folder.moment mid o) (g.D.Folder.left_since d None) (g.D.Folder.left_since mid o)) c.in-Ok-Some.field-0-is c.in-Ok-Some.ensures.time in
    let back = c.in-Err.table in
    let leaves = c.in-Err.ensures.any_moment in
    quiet_still _ _ _ _ _ _ (has d)
    (quiet_out _ _ _ _ _ _ (has d) (has mid) (g.D.Table.Disk.file table) c.in-Ok-Some.ensures.has given still ((g.met.D.Folder g.world.𝓛 g.world.𝓜 g.world.𝓡 ((λ s x. x), (λ x. x), (λ x. x), λ x. x)).ticks mid table back leaves.later) (λ t left since. (g.met.D.Folder g.world.𝓛 g.world.𝓜 g.world.𝓡 ((λ s x. x), (λ x. x), (λ x. x), λ x. x)).quiet mid table back t left leaves since))
    c.give_table.ensures.time

pub returns-in-Ok-clause-image : goal.returns-in-Ok-clause-image
returns-in-Ok-clause-image g c =
    let has = g.D.Folder.has in
    let d = c.args.folder.now in
    let table = c.in-Ok-Some.table in
    let given : IfSome (has d) (λ v. (g.D.Table.Disk.file table ≡ v.table) × IsSome v.table) = subst (λ o. IfSome (has d) (λ v. MatchOption o (v.table ≡ None) (λ t. (g.D.Table.Disk.file t ≡ v.table) × IsSome v.table))) c.in-Ok-Some.field-0-is c.in-Ok-Some.ensures.given in
    image_given (has d) (g.D.Table.Disk.file table) given ((g.met.D.Table.Disk g.world.𝓛 g.world.𝓜 g.world.𝓡 ((λ s x. x), (λ x. x), (λ x. x), λ x. x)).reads_image table)

pub returns-in-Disk-clause-image_err : goal.returns-in-Disk-clause-image_err
returns-in-Disk-clause-image_err g c =
    let has = g.D.Folder.has in
    let d = c.args.folder.now in
    let table = c.in-Ok-Some.table in
    let given : IfSome (has d) (λ v. (g.D.Table.Disk.file table ≡ v.table) × IsSome v.table) = subst (λ o. IfSome (has d) (λ v. MatchOption o (v.table ≡ None) (λ t. (g.D.Table.Disk.file t ≡ v.table) × IsSome v.table))) c.in-Ok-Some.field-0-is c.in-Ok-Some.ensures.given in
    inr (image_given (has d) (g.D.Table.Disk.file table) given ((g.met.D.Table.Disk g.world.𝓛 g.world.𝓜 g.world.𝓡 ((λ s x. x), (λ x. x), (λ x. x), λ x. x)).reads_image table))

pub returns-in-NotATable-clause-image_err : goal.returns-in-NotATable-clause-image_err
returns-in-NotATable-clause-image_err g c =
    let has = g.D.Folder.has in
    let d = c.args.folder.now in
    let table = c.in-Ok-Some.table in
    let given : IfSome (has d) (λ v. (g.D.Table.Disk.file table ≡ v.table) × IsSome v.table) = subst (λ o. IfSome (has d) (λ v. MatchOption o (v.table ≡ None) (λ t. (g.D.Table.Disk.file t ≡ v.table) × IsSome v.table))) c.in-Ok-Some.field-0-is c.in-Ok-Some.ensures.given in
    inr (image_given (has d) (g.D.Table.Disk.file table) given ((g.met.D.Table.Disk g.world.𝓛 g.world.𝓜 g.world.𝓡 ((λ s x. x), (λ x. x), (λ x. x), λ x. x)).reads_image table))

pub returns-in-NoMemory-clause-image_err : goal.returns-in-NoMemory-clause-image_err
returns-in-NoMemory-clause-image_err g c =
    let has = g.D.Folder.has in
    let d = c.args.folder.now in
    let table = c.in-Ok-Some.table in
    let given : IfSome (has d) (λ v. (g.D.Table.Disk.file table ≡ v.table) × IsSome v.table) = subst (λ o. IfSome (has d) (λ v. MatchOption o (v.table ≡ None) (λ t. (g.D.Table.Disk.file t ≡ v.table) × IsSome v.table))) c.in-Ok-Some.field-0-is c.in-Ok-Some.ensures.given in
    inr (image_given (has d) (g.D.Table.Disk.file table) given ((g.met.D.Table.Disk g.world.𝓛 g.world.𝓜 g.world.𝓡 ((λ s x. x), (λ x. x), (λ x. x), λ x. x)).reads_image table))
