use Rattle.std.proofs.Common.{[], Err, ◌≡◌, ◌∙◌, inl, inr, true, false, IfSome, List, None, Some, Ok, is_some, length, option_map, sym, ap, subst, arith}
use Rattle.fd_disk.specs.Folders.{Contents, with_table}
use Rattle.fd_disk.specs.Images.{synced}
use Rattle.fd_disk.specs.Renewals.{IsQuiet, StandsStill, unfounded}
use Rattle.fd_disk.proofs.RenewalLemmas.{quiet_still}
use Rattle.fd_entries.specs.Table.{listed}
use Rattle.fd_entries.specs.declared.table.Entry.{Entry}
use Rattle.fd_recovery.specs.Damages.{IsFirst, damages}
use Rattle.fd_recovery.specs.Recovered.{AreTakenUp, WithTable}
use Rattle.fd_segment.specs.Shared.{standings}
use Rattle.fd_purge.specs.Carrying.{LeavesMidway}
use Rattle.fd_purge.specs.Causes.{OnDamaged, OnNotATable, OnWriters}
use Rattle.fd_purge.specs.Purging.{IsLeftByWipe}
use Rattle.fd_purge.proofs.PurgeLemmas.{safe_quiet, safe_steps}
use Rattle.fd_purge.proofs.ExitLemmas.{Known, all_read, back_is, known_as, known_firm, left_unmoved, midway_there, opened_bad, opened_damaged, opened_writers, some_there, untabled, wipe_more, wipe_refused, wiped_as, wiped_there}
use Rattle.fd_purge.proofs.wiping.wipe.Goals as goal

pub returns-in-Ok-None-clause-untouched : goal.returns-in-Ok-None-clause-untouched
returns-in-Ok-None-clause-untouched g c =
    let has = g.D.Folder.has in
    let d = c.args.folder.now in
    let new = c.recover.new.folder in
    untabled (has d) (has new) (subst (λ r. IfSome (has d) (λ v. is_some r ≡ is_some v.table)) c.in-Ok-None.field-0-is c.in-Ok-None.ensures.none) c.in-Ok-None.ensures.has

pub returns-in-Ok-None-clause-images : goal.returns-in-Ok-None-clause-images
returns-in-Ok-None-clause-images g c =
    let has = g.D.Folder.has in
    let d = c.args.folder.now in
    let new = c.recover.new.folder in
    let quiet : IsQuiet (g.D.Folder.moment d None) (g.D.Folder.moment new None) (g.D.Folder.left_since d None) (g.D.Folder.left_since new None) (has d) =
    subst (λ r. IsQuiet (g.D.Folder.moment d None) (g.D.Folder.moment new (option_map (λ x. x.toc.table) r)) (g.D.Folder.left_since d None) (g.D.Folder.left_since new (option_map (λ x. x.toc.table) r)) (has d)) c.in-Ok-None.field-0-is c.in-Ok-None.ensures.time in
    let out : g.D.Folder.table_out new ≡ false = subst (λ r. g.D.Folder.table_out new ≡ is_some r) c.in-Ok-None.field-0-is c.in-Ok-None.ensures.out in
    safe_quiet (has d) (has new) _ _ _ _ (λ v. IsLeftByWipe c.args.dataset.now v) quiet (inl (returns-in-Ok-None-clause-untouched g c)) (λ v left whole. inl whole) (λ v left same p. (g.met.D.Folder g.world.𝓛 g.world.𝓜 g.world.𝓡 ((λ s x. x), (λ x. x), (λ x. x), λ x. x)).only_now d v left same c.requires.back p) (λ v left same p. (g.met.D.Folder g.world.𝓛 g.world.𝓜 g.world.𝓡 ((λ s x. x), (λ x. x), (λ x. x), λ x. x)).only_now new v left same out p)

pub returns-in-Err-clause-refused : goal.returns-in-Err-clause-refused
returns-in-Err-clause-refused g c =
    let has = g.D.Folder.has in
    let d = c.args.folder.now in
    let new = c.recover.new.folder in
    left_unmoved (λ v. IsLeftByWipe c.args.dataset.now v) (has d) (has new) (λ v left whole. inl whole) c.in-Err.ensures.has_err

pub returns-in-Err-clause-images : goal.returns-in-Err-clause-images
returns-in-Err-clause-images g c =
    let has = g.D.Folder.has in
    let d = c.args.folder.now in
    let new = c.recover.new.folder in
    safe_quiet (has d) (has new) _ _ _ _ (λ v. IsLeftByWipe c.args.dataset.now v) c.in-Err.ensures.time_err c.in-Err.ensures.has_err (λ v left whole. inl whole) (λ v left same p. (g.met.D.Folder g.world.𝓛 g.world.𝓜 g.world.𝓡 ((λ s x. x), (λ x. x), (λ x. x), λ x. x)).only_now d v left same c.requires.back p) (λ v left same p. (g.met.D.Folder g.world.𝓛 g.world.𝓜 g.world.𝓡 ((λ s x. x), (λ x. x), (λ x. x), λ x. x)).only_now new v left same c.in-Err.ensures.out_err p)

pub returns-in-Err-clause-not_a_table : goal.returns-in-Err-clause-not_a_table
returns-in-Err-clause-not_a_table g c = subst (λ e. OnNotATable e (λ fault. IfSome (g.D.Folder.has c.args.folder.now) (λ v. WithTable v.table (λ f. listed c.args.dataset.now f.reads ≡ Err fault)))) (sym c.of_opening.ensures) (opened_bad c.in-Err.fault (λ fault. IfSome (g.D.Folder.has c.args.folder.now) (λ v. WithTable v.table (λ f. listed c.args.dataset.now f.reads ≡ Err fault))) c.in-Err.ensures.not_a_table)

pub returns-in-Err-clause-damaged : goal.returns-in-Err-clause-damaged
returns-in-Err-clause-damaged g c = subst (λ e. OnDamaged e (λ d. IfSome (g.D.Folder.has c.args.folder.now) (λ v. WithTable v.table (λ f. (es : List Entry) × (listed c.args.dataset.now f.reads ≡ Ok es) × IsFirst d (damages v.files es))))) (sym c.of_opening.ensures) (opened_damaged c.in-Err.fault (λ d. IfSome (g.D.Folder.has c.args.folder.now) (λ v. WithTable v.table (λ f. (es : List Entry) × (listed c.args.dataset.now f.reads ≡ Ok es) × IsFirst d (damages v.files es)))) (λ d. IfSome (g.D.Folder.has c.args.folder.now) (λ v. WithTable v.table (λ f. (es : List Entry) × (listed c.args.dataset.now f.reads ≡ Ok es) × IsFirst d (damages v.files es)))) (λ d h. h) c.in-Err.ensures.damaged)

pub returns-in-Err-clause-never : goal.returns-in-Err-clause-never
returns-in-Err-clause-never g c = subst (λ e. OnWriters e (λ entry writer. ⊥)) (sym c.of_opening.ensures) (opened_writers c.in-Err.fault _)

pub returns-in_default-clause-refused : goal.returns-in_default-clause-refused
returns-in_default-clause-refused g c =
    let has = g.D.Folder.has in
    let d = c.args.folder.now in
    let mid = c.recover.new.folder in
    let o = c.in-Ok-Some.opened in
    let es = o.toc.entries in
    let ss = standings o.segments.items in
    let file = g.D.Table.Disk.file o.toc.table in
    let dataset = c.args.dataset.now in
    let some : IfSome (has d) (λ v. true ≡ is_some v.table) = subst (λ r. IfSome (has d) (λ v. is_some r ≡ is_some v.table)) c.in-Ok-Some.field-0-is c.in-Ok-Some.ensures.none in
    let lists : IfSome (has d) (λ v. IfSome v.table (λ f. listed dataset f.reads ≡ Ok es)) = subst (λ r. IfSome r (λ x. IfSome (has d) (λ v. IfSome v.table (λ f. listed dataset f.reads ≡ Ok x.toc.entries)))) c.in-Ok-Some.field-0-is c.in-Ok-Some.ensures.entries in
    let firm : IfSome (has d) (λ v. file ≡ option_map synced v.table) = subst (λ r. IfSome r (λ x. IfSome (has d) (λ v. g.D.Table.Disk.file x.toc.table ≡ option_map synced v.table))) c.in-Ok-Some.field-0-is c.in-Ok-Some.ensures.file in
    let taken : AreTakenUp dataset (has d) es ss = subst (λ r. IfSome r (λ x. AreTakenUp dataset (has d) x.toc.entries (standings x.segments.items))) c.in-Ok-Some.field-0-is c.in-Ok-Some.ensures.segments in
    let sound : IfSome (has d) (λ v. damages v.files es ≡ []) = subst (λ r. IfSome r (λ x. IfSome (has d) (λ v. damages v.files x.toc.entries ≡ []))) c.in-Ok-Some.field-0-is c.in-Ok-Some.ensures.sound in
    let quiet : IsQuiet (g.D.Folder.moment d None) (g.D.Folder.moment mid (Some o.toc.table)) (g.D.Folder.left_since d None) (g.D.Folder.left_since mid (Some o.toc.table)) (has d) =
    subst (λ r. IsQuiet (g.D.Folder.moment d None) (g.D.Folder.moment mid (option_map (λ x. x.toc.table) r)) (g.D.Folder.left_since d None) (g.D.Folder.left_since mid (option_map (λ x. x.toc.table) r)) (has d)) c.in-Ok-Some.field-0-is c.in-Ok-Some.ensures.time in
    let read = all_read dataset (has d) es ss taken sound in
    let new = c.give_table.new.self in
    let away = c.in-Ok-Some.ensures.has in
    let same : c.into_table-table.result ≡ o.toc.table = c.into_table-table.ensures.table in
    let firm_now = back_is (has d) (has mid) (has new) file away firm some (c.give_table.ensures.has ∙ ap (λ t. with_table (g.D.Table.Disk.file t) (has mid)) same) in
    let quiet_now = quiet_still _ _ _ _ _ _ (has d) quiet (subst (λ x. StandsStill (g.D.Folder.moment mid (Some x)) (g.D.Folder.moment new None) (g.D.Folder.left_since mid (Some x)) (g.D.Folder.left_since new None)) same c.give_table.ensures.time) in
    left_unmoved (λ v. IsLeftByWipe dataset v) (has d) (has new) (λ v left whole. inl whole) (inr firm_now)

pub returns-in_default-clause-images : goal.returns-in_default-clause-images
returns-in_default-clause-images g c =
    let has = g.D.Folder.has in
    let d = c.args.folder.now in
    let mid = c.recover.new.folder in
    let o = c.in-Ok-Some.opened in
    let es = o.toc.entries in
    let ss = standings o.segments.items in
    let file = g.D.Table.Disk.file o.toc.table in
    let dataset = c.args.dataset.now in
    let some : IfSome (has d) (λ v. true ≡ is_some v.table) = subst (λ r. IfSome (has d) (λ v. is_some r ≡ is_some v.table)) c.in-Ok-Some.field-0-is c.in-Ok-Some.ensures.none in
    let lists : IfSome (has d) (λ v. IfSome v.table (λ f. listed dataset f.reads ≡ Ok es)) = subst (λ r. IfSome r (λ x. IfSome (has d) (λ v. IfSome v.table (λ f. listed dataset f.reads ≡ Ok x.toc.entries)))) c.in-Ok-Some.field-0-is c.in-Ok-Some.ensures.entries in
    let firm : IfSome (has d) (λ v. file ≡ option_map synced v.table) = subst (λ r. IfSome r (λ x. IfSome (has d) (λ v. g.D.Table.Disk.file x.toc.table ≡ option_map synced v.table))) c.in-Ok-Some.field-0-is c.in-Ok-Some.ensures.file in
    let taken : AreTakenUp dataset (has d) es ss = subst (λ r. IfSome r (λ x. AreTakenUp dataset (has d) x.toc.entries (standings x.segments.items))) c.in-Ok-Some.field-0-is c.in-Ok-Some.ensures.segments in
    let sound : IfSome (has d) (λ v. damages v.files es ≡ []) = subst (λ r. IfSome r (λ x. IfSome (has d) (λ v. damages v.files x.toc.entries ≡ []))) c.in-Ok-Some.field-0-is c.in-Ok-Some.ensures.sound in
    let quiet : IsQuiet (g.D.Folder.moment d None) (g.D.Folder.moment mid (Some o.toc.table)) (g.D.Folder.left_since d None) (g.D.Folder.left_since mid (Some o.toc.table)) (has d) =
    subst (λ r. IsQuiet (g.D.Folder.moment d None) (g.D.Folder.moment mid (option_map (λ x. x.toc.table) r)) (g.D.Folder.left_since d None) (g.D.Folder.left_since mid (option_map (λ x. x.toc.table) r)) (has d)) c.in-Ok-Some.field-0-is c.in-Ok-Some.ensures.time in
    let read = all_read dataset (has d) es ss taken sound in
    let new = c.give_table.new.self in
    let away = c.in-Ok-Some.ensures.has in
    let same : c.into_table-table.result ≡ o.toc.table = c.into_table-table.ensures.table in
    let firm_now = back_is (has d) (has mid) (has new) file away firm some (c.give_table.ensures.has ∙ ap (λ t. with_table (g.D.Table.Disk.file t) (has mid)) same) in
    let quiet_now = quiet_still _ _ _ _ _ _ (has d) quiet (subst (λ x. StandsStill (g.D.Folder.moment mid (Some x)) (g.D.Folder.moment new None) (g.D.Folder.left_since mid (Some x)) (g.D.Folder.left_since new None)) same c.give_table.ensures.time) in
    safe_quiet (has d) (has new) _ _ _ _ (λ v. IsLeftByWipe dataset v) quiet_now (inr firm_now) (λ v left whole. inl whole) (λ v left same p. (g.met.D.Folder g.world.𝓛 g.world.𝓜 g.world.𝓡 ((λ s x. x), (λ x. x), (λ x. x), λ x. x)).only_now d v left same c.requires.back p) (λ v left is p. (g.met.D.Folder g.world.𝓛 g.world.𝓜 g.world.𝓡 ((λ s x. x), (λ x. x), (λ x. x), λ x. x)).only_now new v left is c.give_table.ensures.back p)

pub returns-in-Ok-clear-clause-wiped : goal.returns-in-Ok-clear-clause-wiped
returns-in-Ok-clear-clause-wiped g c =
    let has = g.D.Folder.has in
    let d = c.args.folder.now in
    let mid = c.recover.new.folder in
    let o = c.in-Ok-Some.opened in
    let es = o.toc.entries in
    let ss = standings o.segments.items in
    let file = g.D.Table.Disk.file o.toc.table in
    let dataset = c.args.dataset.now in
    let some : IfSome (has d) (λ v. true ≡ is_some v.table) = subst (λ r. IfSome (has d) (λ v. is_some r ≡ is_some v.table)) c.in-Ok-Some.field-0-is c.in-Ok-Some.ensures.none in
    let lists : IfSome (has d) (λ v. IfSome v.table (λ f. listed dataset f.reads ≡ Ok es)) = subst (λ r. IfSome r (λ x. IfSome (has d) (λ v. IfSome v.table (λ f. listed dataset f.reads ≡ Ok x.toc.entries)))) c.in-Ok-Some.field-0-is c.in-Ok-Some.ensures.entries in
    let firm : IfSome (has d) (λ v. file ≡ option_map synced v.table) = subst (λ r. IfSome r (λ x. IfSome (has d) (λ v. g.D.Table.Disk.file x.toc.table ≡ option_map synced v.table))) c.in-Ok-Some.field-0-is c.in-Ok-Some.ensures.file in
    let taken : AreTakenUp dataset (has d) es ss = subst (λ r. IfSome r (λ x. AreTakenUp dataset (has d) x.toc.entries (standings x.segments.items))) c.in-Ok-Some.field-0-is c.in-Ok-Some.ensures.segments in
    let sound : IfSome (has d) (λ v. damages v.files es ≡ []) = subst (λ r. IfSome r (λ x. IfSome (has d) (λ v. damages v.files x.toc.entries ≡ []))) c.in-Ok-Some.field-0-is c.in-Ok-Some.ensures.sound in
    let quiet : IsQuiet (g.D.Folder.moment d None) (g.D.Folder.moment mid (Some o.toc.table)) (g.D.Folder.left_since d None) (g.D.Folder.left_since mid (Some o.toc.table)) (has d) =
    subst (λ r. IsQuiet (g.D.Folder.moment d None) (g.D.Folder.moment mid (option_map (λ x. x.toc.table) r)) (g.D.Folder.left_since d None) (g.D.Folder.left_since mid (option_map (λ x. x.toc.table) r)) (has d)) c.in-Ok-Some.field-0-is c.in-Ok-Some.ensures.time in
    let read = all_read dataset (has d) es ss taken sound in
    let copied : c.deref.result.now ≡ es = c.deref.ensures.value ∙ c.in-Ok.ensures.items ∙ c.entries.ensures.entries in
    let all = c.deref.result.now in
    let away = c.in-Ok-Some.ensures.has in
    let new = c.clear.new.folder in
    let ft = g.D.Table.Disk.file c.into_table-table.result in
    let firm2 : IfSome (has d) (λ v. ft ≡ option_map synced v.table) = subst (λ t. IfSome (has d) (λ v. g.D.Table.Disk.file t ≡ option_map synced v.table)) (sym c.into_table-table.ensures.table) firm in
    let lists2 : IfSome (has d) (λ v. IfSome v.table (λ f. listed dataset f.reads ≡ Ok all)) = subst (λ (l : List Entry). IfSome (has d) (λ v. IfSome v.table (λ f. listed dataset f.reads ≡ Ok l))) (sym copied) lists in
    let known : IfSome (has d) (λ v. Known dataset v ft all) = known_as dataset (has d) ft all some lists2 firm2 in
    let count : c.len-count.result ≡ length c.in-Ok.entries.items = omega (arith, c.len-count.ensures, c.in-Ok.entries.ok) in
    wiped_as dataset ft all (has d) (has mid) (has new) _ known away (count ∙ ap length (sym c.deref.ensures.value)) c.in-Ok-clear.ensures.ok

pub returns-in-Ok-clear-clause-untouched : goal.returns-in-Ok-clear-clause-untouched
returns-in-Ok-clear-clause-untouched g c =
    let has = g.D.Folder.has in
    let d = c.args.folder.now in
    let mid = c.recover.new.folder in
    let o = c.in-Ok-Some.opened in
    let es = o.toc.entries in
    let ss = standings o.segments.items in
    let file = g.D.Table.Disk.file o.toc.table in
    let dataset = c.args.dataset.now in
    let some : IfSome (has d) (λ v. true ≡ is_some v.table) = subst (λ r. IfSome (has d) (λ v. is_some r ≡ is_some v.table)) c.in-Ok-Some.field-0-is c.in-Ok-Some.ensures.none in
    let lists : IfSome (has d) (λ v. IfSome v.table (λ f. listed dataset f.reads ≡ Ok es)) = subst (λ r. IfSome r (λ x. IfSome (has d) (λ v. IfSome v.table (λ f. listed dataset f.reads ≡ Ok x.toc.entries)))) c.in-Ok-Some.field-0-is c.in-Ok-Some.ensures.entries in
    let firm : IfSome (has d) (λ v. file ≡ option_map synced v.table) = subst (λ r. IfSome r (λ x. IfSome (has d) (λ v. g.D.Table.Disk.file x.toc.table ≡ option_map synced v.table))) c.in-Ok-Some.field-0-is c.in-Ok-Some.ensures.file in
    let taken : AreTakenUp dataset (has d) es ss = subst (λ r. IfSome r (λ x. AreTakenUp dataset (has d) x.toc.entries (standings x.segments.items))) c.in-Ok-Some.field-0-is c.in-Ok-Some.ensures.segments in
    let sound : IfSome (has d) (λ v. damages v.files es ≡ []) = subst (λ r. IfSome r (λ x. IfSome (has d) (λ v. damages v.files x.toc.entries ≡ []))) c.in-Ok-Some.field-0-is c.in-Ok-Some.ensures.sound in
    let quiet : IsQuiet (g.D.Folder.moment d None) (g.D.Folder.moment mid (Some o.toc.table)) (g.D.Folder.left_since d None) (g.D.Folder.left_since mid (Some o.toc.table)) (has d) =
    subst (λ r. IsQuiet (g.D.Folder.moment d None) (g.D.Folder.moment mid (option_map (λ x. x.toc.table) r)) (g.D.Folder.left_since d None) (g.D.Folder.left_since mid (option_map (λ x. x.toc.table) r)) (has d)) c.in-Ok-Some.field-0-is c.in-Ok-Some.ensures.time in
    let read = all_read dataset (has d) es ss taken sound in
    let copied : c.deref.result.now ≡ es = c.deref.ensures.value ∙ c.in-Ok.ensures.items ∙ c.entries.ensures.entries in
    let all = c.deref.result.now in
    let away = c.in-Ok-Some.ensures.has in
    let new = c.clear.new.folder in
    let ft = g.D.Table.Disk.file c.into_table-table.result in
    let firm2 : IfSome (has d) (λ v. ft ≡ option_map synced v.table) = subst (λ t. IfSome (has d) (λ v. g.D.Table.Disk.file t ≡ option_map synced v.table)) (sym c.into_table-table.ensures.table) firm in
    let lists2 : IfSome (has d) (λ v. IfSome v.table (λ f. listed dataset f.reads ≡ Ok all)) = subst (λ (l : List Entry). IfSome (has d) (λ v. IfSome v.table (λ f. listed dataset f.reads ≡ Ok l))) (sym copied) lists in
    let known : IfSome (has d) (λ v. Known dataset v ft all) = known_as dataset (has d) ft all some lists2 firm2 in
    some_there (has d) (has new) (wiped_there dataset ft all (has d) (has mid) (has new) away c.in-Ok-clear.ensures.ok)

pub returns-in-Ok-clear-clause-none : goal.returns-in-Ok-clear-clause-none
returns-in-Ok-clear-clause-none g c =
    let has = g.D.Folder.has in
    let d = c.args.folder.now in
    let mid = c.recover.new.folder in
    let o = c.in-Ok-Some.opened in
    let es = o.toc.entries in
    let ss = standings o.segments.items in
    let file = g.D.Table.Disk.file o.toc.table in
    let dataset = c.args.dataset.now in
    let some : IfSome (has d) (λ v. true ≡ is_some v.table) = subst (λ r. IfSome (has d) (λ v. is_some r ≡ is_some v.table)) c.in-Ok-Some.field-0-is c.in-Ok-Some.ensures.none in
    let lists : IfSome (has d) (λ v. IfSome v.table (λ f. listed dataset f.reads ≡ Ok es)) = subst (λ r. IfSome r (λ x. IfSome (has d) (λ v. IfSome v.table (λ f. listed dataset f.reads ≡ Ok x.toc.entries)))) c.in-Ok-Some.field-0-is c.in-Ok-Some.ensures.entries in
    let firm : IfSome (has d) (λ v. file ≡ option_map synced v.table) = subst (λ r. IfSome r (λ x. IfSome (has d) (λ v. g.D.Table.Disk.file x.toc.table ≡ option_map synced v.table))) c.in-Ok-Some.field-0-is c.in-Ok-Some.ensures.file in
    let taken : AreTakenUp dataset (has d) es ss = subst (λ r. IfSome r (λ x. AreTakenUp dataset (has d) x.toc.entries (standings x.segments.items))) c.in-Ok-Some.field-0-is c.in-Ok-Some.ensures.segments in
    let sound : IfSome (has d) (λ v. damages v.files es ≡ []) = subst (λ r. IfSome r (λ x. IfSome (has d) (λ v. damages v.files x.toc.entries ≡ []))) c.in-Ok-Some.field-0-is c.in-Ok-Some.ensures.sound in
    let quiet : IsQuiet (g.D.Folder.moment d None) (g.D.Folder.moment mid (Some o.toc.table)) (g.D.Folder.left_since d None) (g.D.Folder.left_since mid (Some o.toc.table)) (has d) =
    subst (λ r. IsQuiet (g.D.Folder.moment d None) (g.D.Folder.moment mid (option_map (λ x. x.toc.table) r)) (g.D.Folder.left_since d None) (g.D.Folder.left_since mid (option_map (λ x. x.toc.table) r)) (has d)) c.in-Ok-Some.field-0-is c.in-Ok-Some.ensures.time in
    let read = all_read dataset (has d) es ss taken sound in
    let copied : c.deref.result.now ≡ es = c.deref.ensures.value ∙ c.in-Ok.ensures.items ∙ c.entries.ensures.entries in
    let all = c.deref.result.now in
    let away = c.in-Ok-Some.ensures.has in
    let new = c.clear.new.folder in
    let ft = g.D.Table.Disk.file c.into_table-table.result in
    let firm2 : IfSome (has d) (λ v. ft ≡ option_map synced v.table) = subst (λ t. IfSome (has d) (λ v. g.D.Table.Disk.file t ≡ option_map synced v.table)) (sym c.into_table-table.ensures.table) firm in
    let lists2 : IfSome (has d) (λ v. IfSome v.table (λ f. listed dataset f.reads ≡ Ok all)) = subst (λ (l : List Entry). IfSome (has d) (λ v. IfSome v.table (λ f. listed dataset f.reads ≡ Ok l))) (sym copied) lists in
    let known : IfSome (has d) (λ v. Known dataset v ft all) = known_as dataset (has d) ft all some lists2 firm2 in
    some

pub returns-in-Ok-clear-clause-images : goal.returns-in-Ok-clear-clause-images
returns-in-Ok-clear-clause-images g c =
    let has = g.D.Folder.has in
    let d = c.args.folder.now in
    let mid = c.recover.new.folder in
    let o = c.in-Ok-Some.opened in
    let es = o.toc.entries in
    let ss = standings o.segments.items in
    let file = g.D.Table.Disk.file o.toc.table in
    let dataset = c.args.dataset.now in
    let some : IfSome (has d) (λ v. true ≡ is_some v.table) = subst (λ r. IfSome (has d) (λ v. is_some r ≡ is_some v.table)) c.in-Ok-Some.field-0-is c.in-Ok-Some.ensures.none in
    let lists : IfSome (has d) (λ v. IfSome v.table (λ f. listed dataset f.reads ≡ Ok es)) = subst (λ r. IfSome r (λ x. IfSome (has d) (λ v. IfSome v.table (λ f. listed dataset f.reads ≡ Ok x.toc.entries)))) c.in-Ok-Some.field-0-is c.in-Ok-Some.ensures.entries in
    let firm : IfSome (has d) (λ v. file ≡ option_map synced v.table) = subst (λ r. IfSome r (λ x. IfSome (has d) (λ v. g.D.Table.Disk.file x.toc.table ≡ option_map synced v.table))) c.in-Ok-Some.field-0-is c.in-Ok-Some.ensures.file in
    let taken : AreTakenUp dataset (has d) es ss = subst (λ r. IfSome r (λ x. AreTakenUp dataset (has d) x.toc.entries (standings x.segments.items))) c.in-Ok-Some.field-0-is c.in-Ok-Some.ensures.segments in
    let sound : IfSome (has d) (λ v. damages v.files es ≡ []) = subst (λ r. IfSome r (λ x. IfSome (has d) (λ v. damages v.files x.toc.entries ≡ []))) c.in-Ok-Some.field-0-is c.in-Ok-Some.ensures.sound in
    let quiet : IsQuiet (g.D.Folder.moment d None) (g.D.Folder.moment mid (Some o.toc.table)) (g.D.Folder.left_since d None) (g.D.Folder.left_since mid (Some o.toc.table)) (has d) =
    subst (λ r. IsQuiet (g.D.Folder.moment d None) (g.D.Folder.moment mid (option_map (λ x. x.toc.table) r)) (g.D.Folder.left_since d None) (g.D.Folder.left_since mid (option_map (λ x. x.toc.table) r)) (has d)) c.in-Ok-Some.field-0-is c.in-Ok-Some.ensures.time in
    let read = all_read dataset (has d) es ss taken sound in
    let copied : c.deref.result.now ≡ es = c.deref.ensures.value ∙ c.in-Ok.ensures.items ∙ c.entries.ensures.entries in
    let all = c.deref.result.now in
    let away = c.in-Ok-Some.ensures.has in
    let new = c.clear.new.folder in
    let ft = g.D.Table.Disk.file c.into_table-table.result in
    let firm2 : IfSome (has d) (λ v. ft ≡ option_map synced v.table) = subst (λ t. IfSome (has d) (λ v. g.D.Table.Disk.file t ≡ option_map synced v.table)) (sym c.into_table-table.ensures.table) firm in
    let lists2 : IfSome (has d) (λ v. IfSome v.table (λ f. listed dataset f.reads ≡ Ok all)) = subst (λ (l : List Entry). IfSome (has d) (λ v. IfSome v.table (λ f. listed dataset f.reads ≡ Ok l))) (sym copied) lists in
    let known : IfSome (has d) (λ v. Known dataset v ft all) = known_as dataset (has d) ft all some lists2 firm2 in
    safe_steps (has d) (has mid) (has new) ft _ _ _ _ _ _ (λ v. IsLeftByWipe dataset v) (LeavesMidway ft (λ (x : Contents). unfounded x) all [] (has mid))
    (subst (λ x. IsQuiet (g.D.Folder.moment d None) (g.D.Folder.moment mid (Some x)) (g.D.Folder.left_since d None) (g.D.Folder.left_since mid (Some x)) (has d)) (sym c.into_table-table.ensures.table) quiet)
    c.clear.ensures.time away (known_firm dataset (has d) ft all known) (λ v left whole. inl whole) (λ v left same p. (g.met.D.Folder g.world.𝓛 g.world.𝓜 g.world.𝓡 ((λ s x. x), (λ x. x), (λ x. x), λ x. x)).only_now d v left same c.requires.back p) (λ left is. (g.met.D.Folder g.world.𝓛 g.world.𝓜 g.world.𝓡 ((λ s x. x), (λ x. x), (λ x. x), λ x. x)).only_beside mid c.into_table-table.result left is)
    (wipe_more dataset ft all (has d) (has mid) known away) (wiped_there dataset ft all (has d) (has mid) (has new) away c.in-Ok-clear.ensures.ok)

pub returns-in-Err-Fault-clause-refused : goal.returns-in-Err-Fault-clause-refused
returns-in-Err-Fault-clause-refused g c =
    let has = g.D.Folder.has in
    let d = c.args.folder.now in
    let mid = c.recover.new.folder in
    let o = c.in-Ok-Some.opened in
    let es = o.toc.entries in
    let ss = standings o.segments.items in
    let file = g.D.Table.Disk.file o.toc.table in
    let dataset = c.args.dataset.now in
    let some : IfSome (has d) (λ v. true ≡ is_some v.table) = subst (λ r. IfSome (has d) (λ v. is_some r ≡ is_some v.table)) c.in-Ok-Some.field-0-is c.in-Ok-Some.ensures.none in
    let lists : IfSome (has d) (λ v. IfSome v.table (λ f. listed dataset f.reads ≡ Ok es)) = subst (λ r. IfSome r (λ x. IfSome (has d) (λ v. IfSome v.table (λ f. listed dataset f.reads ≡ Ok x.toc.entries)))) c.in-Ok-Some.field-0-is c.in-Ok-Some.ensures.entries in
    let firm : IfSome (has d) (λ v. file ≡ option_map synced v.table) = subst (λ r. IfSome r (λ x. IfSome (has d) (λ v. g.D.Table.Disk.file x.toc.table ≡ option_map synced v.table))) c.in-Ok-Some.field-0-is c.in-Ok-Some.ensures.file in
    let taken : AreTakenUp dataset (has d) es ss = subst (λ r. IfSome r (λ x. AreTakenUp dataset (has d) x.toc.entries (standings x.segments.items))) c.in-Ok-Some.field-0-is c.in-Ok-Some.ensures.segments in
    let sound : IfSome (has d) (λ v. damages v.files es ≡ []) = subst (λ r. IfSome r (λ x. IfSome (has d) (λ v. damages v.files x.toc.entries ≡ []))) c.in-Ok-Some.field-0-is c.in-Ok-Some.ensures.sound in
    let quiet : IsQuiet (g.D.Folder.moment d None) (g.D.Folder.moment mid (Some o.toc.table)) (g.D.Folder.left_since d None) (g.D.Folder.left_since mid (Some o.toc.table)) (has d) =
    subst (λ r. IsQuiet (g.D.Folder.moment d None) (g.D.Folder.moment mid (option_map (λ x. x.toc.table) r)) (g.D.Folder.left_since d None) (g.D.Folder.left_since mid (option_map (λ x. x.toc.table) r)) (has d)) c.in-Ok-Some.field-0-is c.in-Ok-Some.ensures.time in
    let read = all_read dataset (has d) es ss taken sound in
    let copied : c.deref.result.now ≡ es = c.deref.ensures.value ∙ c.in-Ok.ensures.items ∙ c.entries.ensures.entries in
    let all = c.deref.result.now in
    let away = c.in-Ok-Some.ensures.has in
    let new = c.clear.new.folder in
    let ft = g.D.Table.Disk.file c.into_table-table.result in
    let firm2 : IfSome (has d) (λ v. ft ≡ option_map synced v.table) = subst (λ t. IfSome (has d) (λ v. g.D.Table.Disk.file t ≡ option_map synced v.table)) (sym c.into_table-table.ensures.table) firm in
    let lists2 : IfSome (has d) (λ v. IfSome v.table (λ f. listed dataset f.reads ≡ Ok all)) = subst (λ (l : List Entry). IfSome (has d) (λ v. IfSome v.table (λ f. listed dataset f.reads ≡ Ok l))) (sym copied) lists in
    let known : IfSome (has d) (λ v. Known dataset v ft all) = known_as dataset (has d) ft all some lists2 firm2 in
    wipe_refused dataset ft all (has d) (has mid) (has new) known away c.in-Err-Fault.ensures.err

pub returns-in-Err-Fault-clause-images : goal.returns-in-Err-Fault-clause-images
returns-in-Err-Fault-clause-images g c =
    let has = g.D.Folder.has in
    let d = c.args.folder.now in
    let mid = c.recover.new.folder in
    let o = c.in-Ok-Some.opened in
    let es = o.toc.entries in
    let ss = standings o.segments.items in
    let file = g.D.Table.Disk.file o.toc.table in
    let dataset = c.args.dataset.now in
    let some : IfSome (has d) (λ v. true ≡ is_some v.table) = subst (λ r. IfSome (has d) (λ v. is_some r ≡ is_some v.table)) c.in-Ok-Some.field-0-is c.in-Ok-Some.ensures.none in
    let lists : IfSome (has d) (λ v. IfSome v.table (λ f. listed dataset f.reads ≡ Ok es)) = subst (λ r. IfSome r (λ x. IfSome (has d) (λ v. IfSome v.table (λ f. listed dataset f.reads ≡ Ok x.toc.entries)))) c.in-Ok-Some.field-0-is c.in-Ok-Some.ensures.entries in
    let firm : IfSome (has d) (λ v. file ≡ option_map synced v.table) = subst (λ r. IfSome r (λ x. IfSome (has d) (λ v. g.D.Table.Disk.file x.toc.table ≡ option_map synced v.table))) c.in-Ok-Some.field-0-is c.in-Ok-Some.ensures.file in
    let taken : AreTakenUp dataset (has d) es ss = subst (λ r. IfSome r (λ x. AreTakenUp dataset (has d) x.toc.entries (standings x.segments.items))) c.in-Ok-Some.field-0-is c.in-Ok-Some.ensures.segments in
    let sound : IfSome (has d) (λ v. damages v.files es ≡ []) = subst (λ r. IfSome r (λ x. IfSome (has d) (λ v. damages v.files x.toc.entries ≡ []))) c.in-Ok-Some.field-0-is c.in-Ok-Some.ensures.sound in
    let quiet : IsQuiet (g.D.Folder.moment d None) (g.D.Folder.moment mid (Some o.toc.table)) (g.D.Folder.left_since d None) (g.D.Folder.left_since mid (Some o.toc.table)) (has d) =
    subst (λ r. IsQuiet (g.D.Folder.moment d None) (g.D.Folder.moment mid (option_map (λ x. x.toc.table) r)) (g.D.Folder.left_since d None) (g.D.Folder.left_since mid (option_map (λ x. x.toc.table) r)) (has d)) c.in-Ok-Some.field-0-is c.in-Ok-Some.ensures.time in
    let read = all_read dataset (has d) es ss taken sound in
    let copied : c.deref.result.now ≡ es = c.deref.ensures.value ∙ c.in-Ok.ensures.items ∙ c.entries.ensures.entries in
    let all = c.deref.result.now in
    let away = c.in-Ok-Some.ensures.has in
    let new = c.clear.new.folder in
    let ft = g.D.Table.Disk.file c.into_table-table.result in
    let firm2 : IfSome (has d) (λ v. ft ≡ option_map synced v.table) = subst (λ t. IfSome (has d) (λ v. g.D.Table.Disk.file t ≡ option_map synced v.table)) (sym c.into_table-table.ensures.table) firm in
    let lists2 : IfSome (has d) (λ v. IfSome v.table (λ f. listed dataset f.reads ≡ Ok all)) = subst (λ (l : List Entry). IfSome (has d) (λ v. IfSome v.table (λ f. listed dataset f.reads ≡ Ok l))) (sym copied) lists in
    let known : IfSome (has d) (λ v. Known dataset v ft all) = known_as dataset (has d) ft all some lists2 firm2 in
    safe_steps (has d) (has mid) (has new) ft _ _ _ _ _ _ (λ v. IsLeftByWipe dataset v) (LeavesMidway ft (λ (x : Contents). unfounded x) all [] (has mid))
    (subst (λ x. IsQuiet (g.D.Folder.moment d None) (g.D.Folder.moment mid (Some x)) (g.D.Folder.left_since d None) (g.D.Folder.left_since mid (Some x)) (has d)) (sym c.into_table-table.ensures.table) quiet)
    c.clear.ensures.time away (known_firm dataset (has d) ft all known) (λ v left whole. inl whole) (λ v left same p. (g.met.D.Folder g.world.𝓛 g.world.𝓜 g.world.𝓡 ((λ s x. x), (λ x. x), (λ x. x), λ x. x)).only_now d v left same c.requires.back p) (λ left is. (g.met.D.Folder g.world.𝓛 g.world.𝓜 g.world.𝓡 ((λ s x. x), (λ x. x), (λ x. x), λ x. x)).only_beside mid c.into_table-table.result left is)
    (wipe_more dataset ft all (has d) (has mid) known away) (midway_there dataset ft all (has d) (has mid) (has new) known away c.in-Err-Fault.ensures.err)

pub returns-clause-refused : goal.returns-clause-refused
returns-clause-refused g c =
    let has = g.D.Folder.has in
    let d = c.args.folder.now in
    let mid = c.recover.new.folder in
    let o = c.in-Ok-Some.opened in
    let es = o.toc.entries in
    let ss = standings o.segments.items in
    let file = g.D.Table.Disk.file o.toc.table in
    let dataset = c.args.dataset.now in
    let some : IfSome (has d) (λ v. true ≡ is_some v.table) = subst (λ r. IfSome (has d) (λ v. is_some r ≡ is_some v.table)) c.in-Ok-Some.field-0-is c.in-Ok-Some.ensures.none in
    let lists : IfSome (has d) (λ v. IfSome v.table (λ f. listed dataset f.reads ≡ Ok es)) = subst (λ r. IfSome r (λ x. IfSome (has d) (λ v. IfSome v.table (λ f. listed dataset f.reads ≡ Ok x.toc.entries)))) c.in-Ok-Some.field-0-is c.in-Ok-Some.ensures.entries in
    let firm : IfSome (has d) (λ v. file ≡ option_map synced v.table) = subst (λ r. IfSome r (λ x. IfSome (has d) (λ v. g.D.Table.Disk.file x.toc.table ≡ option_map synced v.table))) c.in-Ok-Some.field-0-is c.in-Ok-Some.ensures.file in
    let taken : AreTakenUp dataset (has d) es ss = subst (λ r. IfSome r (λ x. AreTakenUp dataset (has d) x.toc.entries (standings x.segments.items))) c.in-Ok-Some.field-0-is c.in-Ok-Some.ensures.segments in
    let sound : IfSome (has d) (λ v. damages v.files es ≡ []) = subst (λ r. IfSome r (λ x. IfSome (has d) (λ v. damages v.files x.toc.entries ≡ []))) c.in-Ok-Some.field-0-is c.in-Ok-Some.ensures.sound in
    let quiet : IsQuiet (g.D.Folder.moment d None) (g.D.Folder.moment mid (Some o.toc.table)) (g.D.Folder.left_since d None) (g.D.Folder.left_since mid (Some o.toc.table)) (has d) =
    subst (λ r. IsQuiet (g.D.Folder.moment d None) (g.D.Folder.moment mid (option_map (λ x. x.toc.table) r)) (g.D.Folder.left_since d None) (g.D.Folder.left_since mid (option_map (λ x. x.toc.table) r)) (has d)) c.in-Ok-Some.field-0-is c.in-Ok-Some.ensures.time in
    let read = all_read dataset (has d) es ss taken sound in
    let copied : c.deref.result.now ≡ es = c.deref.ensures.value ∙ c.in-Ok.ensures.items ∙ c.entries.ensures.entries in
    let all = c.deref.result.now in
    let away = c.in-Ok-Some.ensures.has in
    let new = c.clear.new.folder in
    let ft = g.D.Table.Disk.file c.into_table-table.result in
    let firm2 : IfSome (has d) (λ v. ft ≡ option_map synced v.table) = subst (λ t. IfSome (has d) (λ v. g.D.Table.Disk.file t ≡ option_map synced v.table)) (sym c.into_table-table.ensures.table) firm in
    let lists2 : IfSome (has d) (λ v. IfSome v.table (λ f. listed dataset f.reads ≡ Ok all)) = subst (λ (l : List Entry). IfSome (has d) (λ v. IfSome v.table (λ f. listed dataset f.reads ≡ Ok l))) (sym copied) lists in
    let known : IfSome (has d) (λ v. Known dataset v ft all) = known_as dataset (has d) ft all some lists2 firm2 in
    wipe_refused dataset ft all (has d) (has mid) (has new) known away c.in-Err-NoMemory.ensures.err

pub returns-clause-images : goal.returns-clause-images
returns-clause-images g c =
    let has = g.D.Folder.has in
    let d = c.args.folder.now in
    let mid = c.recover.new.folder in
    let o = c.in-Ok-Some.opened in
    let es = o.toc.entries in
    let ss = standings o.segments.items in
    let file = g.D.Table.Disk.file o.toc.table in
    let dataset = c.args.dataset.now in
    let some : IfSome (has d) (λ v. true ≡ is_some v.table) = subst (λ r. IfSome (has d) (λ v. is_some r ≡ is_some v.table)) c.in-Ok-Some.field-0-is c.in-Ok-Some.ensures.none in
    let lists : IfSome (has d) (λ v. IfSome v.table (λ f. listed dataset f.reads ≡ Ok es)) = subst (λ r. IfSome r (λ x. IfSome (has d) (λ v. IfSome v.table (λ f. listed dataset f.reads ≡ Ok x.toc.entries)))) c.in-Ok-Some.field-0-is c.in-Ok-Some.ensures.entries in
    let firm : IfSome (has d) (λ v. file ≡ option_map synced v.table) = subst (λ r. IfSome r (λ x. IfSome (has d) (λ v. g.D.Table.Disk.file x.toc.table ≡ option_map synced v.table))) c.in-Ok-Some.field-0-is c.in-Ok-Some.ensures.file in
    let taken : AreTakenUp dataset (has d) es ss = subst (λ r. IfSome r (λ x. AreTakenUp dataset (has d) x.toc.entries (standings x.segments.items))) c.in-Ok-Some.field-0-is c.in-Ok-Some.ensures.segments in
    let sound : IfSome (has d) (λ v. damages v.files es ≡ []) = subst (λ r. IfSome r (λ x. IfSome (has d) (λ v. damages v.files x.toc.entries ≡ []))) c.in-Ok-Some.field-0-is c.in-Ok-Some.ensures.sound in
    let quiet : IsQuiet (g.D.Folder.moment d None) (g.D.Folder.moment mid (Some o.toc.table)) (g.D.Folder.left_since d None) (g.D.Folder.left_since mid (Some o.toc.table)) (has d) =
    subst (λ r. IsQuiet (g.D.Folder.moment d None) (g.D.Folder.moment mid (option_map (λ x. x.toc.table) r)) (g.D.Folder.left_since d None) (g.D.Folder.left_since mid (option_map (λ x. x.toc.table) r)) (has d)) c.in-Ok-Some.field-0-is c.in-Ok-Some.ensures.time in
    let read = all_read dataset (has d) es ss taken sound in
    let copied : c.deref.result.now ≡ es = c.deref.ensures.value ∙ c.in-Ok.ensures.items ∙ c.entries.ensures.entries in
    let all = c.deref.result.now in
    let away = c.in-Ok-Some.ensures.has in
    let new = c.clear.new.folder in
    let ft = g.D.Table.Disk.file c.into_table-table.result in
    let firm2 : IfSome (has d) (λ v. ft ≡ option_map synced v.table) = subst (λ t. IfSome (has d) (λ v. g.D.Table.Disk.file t ≡ option_map synced v.table)) (sym c.into_table-table.ensures.table) firm in
    let lists2 : IfSome (has d) (λ v. IfSome v.table (λ f. listed dataset f.reads ≡ Ok all)) = subst (λ (l : List Entry). IfSome (has d) (λ v. IfSome v.table (λ f. listed dataset f.reads ≡ Ok l))) (sym copied) lists in
    let known : IfSome (has d) (λ v. Known dataset v ft all) = known_as dataset (has d) ft all some lists2 firm2 in
    safe_steps (has d) (has mid) (has new) ft _ _ _ _ _ _ (λ v. IsLeftByWipe dataset v) (LeavesMidway ft (λ (x : Contents). unfounded x) all [] (has mid))
    (subst (λ x. IsQuiet (g.D.Folder.moment d None) (g.D.Folder.moment mid (Some x)) (g.D.Folder.left_since d None) (g.D.Folder.left_since mid (Some x)) (has d)) (sym c.into_table-table.ensures.table) quiet)
    c.clear.ensures.time away (known_firm dataset (has d) ft all known) (λ v left whole. inl whole) (λ v left same p. (g.met.D.Folder g.world.𝓛 g.world.𝓜 g.world.𝓡 ((λ s x. x), (λ x. x), (λ x. x), λ x. x)).only_now d v left same c.requires.back p) (λ left is. (g.met.D.Folder g.world.𝓛 g.world.𝓜 g.world.𝓡 ((λ s x. x), (λ x. x), (λ x. x), λ x. x)).only_beside mid c.into_table-table.result left is)
    (wipe_more dataset ft all (has d) (has mid) known away) (midway_there dataset ft all (has d) (has mid) (has new) known away c.in-Err-NoMemory.ensures.err)
