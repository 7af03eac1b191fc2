use Rattle.std.proofs.Common.{rules, ◌≡◌, ◌∙◌, ◌⊎◌, IfSome, List, Ok, is_some, option_map, subst, Some, None, true}
use Rattle.fd_bytes.specs.Causes.{Rose}
use Rattle.fd_disk.specs.Folders.{with_table, without_table}
use Rattle.fd_disk.specs.Images.{synced}
use Rattle.fd_disk.specs.Renewals.{IsQuiet, StandsStill}
use Rattle.fd_disk.proofs.RenewalLemmas.{quiet_still}
use Rattle.fd_entries.specs.declared.table.Entry.{Entry}
use Rattle.fd_entries.specs.Table.{listed}
use Rattle.fd_recovery.specs.Causes.{OnFileDisk}
use Rattle.fd_recovery.specs.Recovered.{AreTakenUp, SomeDigest}
use Rattle.fd_segment.specs.Shared.{standings}
use Rattle.fd_recovery.proofs.TakingUp.{each_taken, held_taken, own_taken, taken_cause}
use Rattle.fd_recovery.proofs.recovery.recover.Goals as goal

pub returns-in-Ok-clause-held : goal.returns-in-Ok-clause-held
returns-in-Ok-clause-held g c =
    let has = g.D.Folder.has in
    let taken : AreTakenUp (g.D.Folder.name c.load_table.new.folder) (has c.load_table.new.folder) c.in-Ok-Some.toc.entries (standings c.in-Ok.segments.items) =
    subst (λ (l : List Entry). AreTakenUp (g.D.Folder.name c.load_table.new.folder) (has c.load_table.new.folder) l (standings c.in-Ok.segments.items)) c.entries.ensures.entries c.in-Ok.ensures.segments in
    let there : is_some c.in-Ok-Some.field-0 ≡ true = search rules in
    let lists : IfSome (has c.args.folder.now) (λ v. IfSome v.table (λ f. listed c.args.dataset.now f.reads ≡ Ok c.in-Ok-Some.toc.entries)) = search rules in
    held_taken c.args.dataset.now (has c.args.folder.now) (has c.load_table.new.folder) c.in-Ok-Some.toc.entries (standings c.in-Ok.segments.items) c.in-Ok-Some.ensures.has (is_some c.in-Ok-Some.field-0) there c.in-Ok-Some.ensures.none lists taken.files

pub returns-in-Ok-clause-each : goal.returns-in-Ok-clause-each
returns-in-Ok-clause-each g c =
    let has = g.D.Folder.has in
    each_taken (g.D.Folder.name c.load_table.new.folder) (has c.load_table.new.folder) _ c.in-Ok.segments.items c.in-Ok.ensures.segments ∙ c.entries.ensures.entries

pub returns-in-Ok-clause-own : goal.returns-in-Ok-clause-own
returns-in-Ok-clause-own g c =
    let has = g.D.Folder.has in
    let same : g.D.Folder.name c.load_table.new.folder ≡ g.D.Table.Disk.name c.in-Ok-Some.toc.table = search rules in
    own_taken (g.D.Folder.name c.load_table.new.folder) (g.D.Table.Disk.name c.in-Ok-Some.toc.table) (has c.load_table.new.folder) _ c.in-Ok.segments.items same c.in-Ok.ensures.segments

pub returns-in-Disk-clause-cause : goal.returns-in-Disk-clause-cause
returns-in-Disk-clause-cause g c =
    let has = g.D.Folder.has in
    let faults = g.D.Folder.faults in
    let toc = c.in-Ok-Some.toc in
    let there : is_some c.in-Ok-Some.field-0 ≡ true = search rules in
    let lists : IfSome (has c.args.folder.now) (λ v. IfSome v.table (λ f. listed c.args.dataset.now f.reads ≡ Ok toc.entries)) = search rules in
    let firm : IfSome (has c.args.folder.now) (λ v. g.D.Table.Disk.file toc.table ≡ option_map synced v.table) = search rules in
    let away : has c.segments_of.new.folder ≡ option_map without_table (has c.args.folder.now) = search rules in
    let back : has c.give_table.new.self ≡ with_table (g.D.Table.Disk.file toc.table) (has c.segments_of.new.folder) = search rules in
    let cause : OnFileDisk c.in-Err-segments_of.fault (Rose (faults c.load_table.new.folder) (faults c.segments_of.new.folder) ⊎ SomeDigest toc.entries) =
    subst (λ (l : List Entry). OnFileDisk c.in-Err-segments_of.fault (Rose (faults c.load_table.new.folder) (faults c.segments_of.new.folder) ⊎ SomeDigest l)) c.entries.ensures.entries c.in-Err-segments_of.ensures.cause in
    taken_cause c.in-Err-segments_of.fault c.in-Disk.fault g.D.Table.Disk.file g.D.Table.Disk.faults c.args.dataset.now (has c.args.folder.now) (has c.segments_of.new.folder) (has c.give_table.new.self) (g.D.Table.Disk.file toc.table) toc.entries (is_some c.in-Ok-Some.field-0)
    (faults c.args.folder.now) (faults c.load_table.new.folder) (faults c.segments_of.new.folder) (faults c.give_table.new.self) c.in-Disk.is cause c.in-Ok-Some.ensures.later c.give_table.ensures.faults away firm there c.in-Ok-Some.ensures.none lists back

pub returns-in-Ok-clause-time : goal.returns-in-Ok-clause-time
returns-in-Ok-clause-time g c =
    let d = c.args.folder.now in
    let mid = c.load_table.new.folder in
    let toc = c.in-Ok-Some.toc in
    let load : IsQuiet (g.D.Folder.moment d None) (g.D.Folder.moment mid (Some toc.table)) (g.D.Folder.left_since d None) (g.D.Folder.left_since mid (Some toc.table)) (g.D.Folder.has d) =
    subst (λ o. IsQuiet (g.D.Folder.moment d None) (g.D.Folder.moment mid (option_map (λ t. t.table) o)) (g.D.Folder.left_since d None) (g.D.Folder.left_since mid (option_map (λ t. t.table) o)) (g.D.Folder.has d)) c.in-Ok-Some.field-0-is c.in-Ok-Some.ensures.time in
    let taken = quiet_still _ _ _ _ _ _ (g.D.Folder.has d) load (c.segments_of.ensures.looked.time (Some toc.table)) in
    taken

pub returns-in-Disk-clause-time_err : goal.returns-in-Disk-clause-time_err
returns-in-Disk-clause-time_err g c =
    let d = c.args.folder.now in
    let mid = c.load_table.new.folder in
    let toc = c.in-Ok-Some.toc in
    let load : IsQuiet (g.D.Folder.moment d None) (g.D.Folder.moment mid (Some toc.table)) (g.D.Folder.left_since d None) (g.D.Folder.left_since mid (Some toc.table)) (g.D.Folder.has d) =
    subst (λ o. IsQuiet (g.D.Folder.moment d None) (g.D.Folder.moment mid (option_map (λ t. t.table) o)) (g.D.Folder.left_since d None) (g.D.Folder.left_since mid (option_map (λ t. t.table) o)) (g.D.Folder.has d)) c.in-Ok-Some.field-0-is c.in-Ok-Some.ensures.time in
    let taken = quiet_still _ _ _ _ _ _ (g.D.Folder.has d) load (c.segments_of.ensures.looked.time (Some toc.table)) in
    let last = c.segments_of.new.folder in
    let new = c.give_table.new.self in
    quiet_still _ _ _ _ _ _ (g.D.Folder.has d) taken
    (subst (λ x. StandsStill (g.D.Folder.moment last (Some x)) (g.D.Folder.moment new None) (g.D.Folder.left_since last (Some x)) (g.D.Folder.left_since new None)) c.into_table.ensures.table c.give_table.ensures.time)

pub returns-in-Damaged-clause-time_err : goal.returns-in-Damaged-clause-time_err
returns-in-Damaged-clause-time_err g c =
    let d = c.args.folder.now in
    let mid = c.load_table.new.folder in
    let toc = c.in-Ok-Some.toc in
    let load : IsQuiet (g.D.Folder.moment d None) (g.D.Folder.moment mid (Some toc.table)) (g.D.Folder.left_since d None) (g.D.Folder.left_since mid (Some toc.table)) (g.D.Folder.has d) =
    subst (λ o. IsQuiet (g.D.Folder.moment d None) (g.D.Folder.moment mid (option_map (λ t. t.table) o)) (g.D.Folder.left_since d None) (g.D.Folder.left_since mid (option_map (λ t. t.table) o)) (g.D.Folder.has d)) c.in-Ok-Some.field-0-is c.in-Ok-Some.ensures.time in
    let taken = quiet_still _ _ _ _ _ _ (g.D.Folder.has d) load (c.segments_of.ensures.looked.time (Some toc.table)) in
    let last = c.segments_of.new.folder in
    let new = c.give_table.new.self in
    quiet_still _ _ _ _ _ _ (g.D.Folder.has d) taken
    (subst (λ x. StandsStill (g.D.Folder.moment last (Some x)) (g.D.Folder.moment new None) (g.D.Folder.left_since last (Some x)) (g.D.Folder.left_since new None)) c.into_table.ensures.table c.give_table.ensures.time)

pub returns-in-NoMemory-clause-time_err : goal.returns-in-NoMemory-clause-time_err
returns-in-NoMemory-clause-time_err g c =
    let d = c.args.folder.now in
    let mid = c.load_table.new.folder in
    let toc = c.in-Ok-Some.toc in
    let load : IsQuiet (g.D.Folder.moment d None) (g.D.Folder.moment mid (Some toc.table)) (g.D.Folder.left_since d None) (g.D.Folder.left_since mid (Some toc.table)) (g.D.Folder.has d) =
    subst (λ o. IsQuiet (g.D.Folder.moment d None) (g.D.Folder.moment mid (option_map (λ t. t.table) o)) (g.D.Folder.left_since d None) (g.D.Folder.left_since mid (option_map (λ t. t.table) o)) (g.D.Folder.has d)) c.in-Ok-Some.field-0-is c.in-Ok-Some.ensures.time in
    let taken = quiet_still _ _ _ _ _ _ (g.D.Folder.has d) load (c.segments_of.ensures.looked.time (Some toc.table)) in
    let last = c.segments_of.new.folder in
    let new = c.give_table.new.self in
    quiet_still _ _ _ _ _ _ (g.D.Folder.has d) taken
    (subst (λ x. StandsStill (g.D.Folder.moment last (Some x)) (g.D.Folder.moment new None) (g.D.Folder.left_since last (Some x)) (g.D.Folder.left_since new None)) c.into_table.ensures.table c.give_table.ensures.time)
