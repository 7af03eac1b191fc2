use Rattle.std.proofs.Common.{[], Err, ◌≡◌, ◌∙◌, inl, inr, true, false, IfSome, List, None, Some, Ok, is_some, option_map, sym, ap, subst}
use Rattle.fd_disk.specs.Folders.{with_table}
use Rattle.fd_disk.specs.Images.{synced}
use Rattle.fd_disk.specs.Renewals.{IsQuiet, StandsStill}
use Rattle.fd_disk.proofs.RenewalLemmas.{quiet_still}
use Rattle.fd_entries.specs.Table.{listed}
use Rattle.fd_entries.specs.declared.table.Entry.{Entry}
use Rattle.fd_recovery.specs.Damages.{damages}
use Rattle.fd_recovery.specs.Recovered.{AreTakenUp, WithTable}
use Rattle.fd_segment.specs.Shared.{standings}
use Rattle.fd_purge.specs.Carrying.{LeavesUnderWay}
use Rattle.fd_purge.specs.Causes.{OnDamaged, OnNotATable, OnWriters}
use Rattle.fd_purge.specs.Kept.{masked, masks, unmasked}
use Rattle.fd_purge.specs.Purging.{IsDamagedIn, IsLeftByPurge, IsOver, first_over}
use Rattle.fd_purge.proofs.PurgeLemmas.{Opened, safe_quiet, safe_steps}
use Rattle.fd_purge.proofs.ExitLemmas.{all_read, back_is, bad_among, carried_none, carried_there, first_damaged, fits_read, left_unmoved, opened_as, opened_bad, opened_damaged, opened_firm, opened_writers, over_read, purged_as, some_there, sorted_bad, sorted_damaged, sorted_writers, untabled, way_more, way_refused, way_there}
use Rattle.fd_purge.proofs.purging.purge.Goals as goal

pub returns-in-Ok-None-clause-untouched : goal.returns-in-Ok-None-clause-untouched
returns-in-Ok-None-clause-untouched g c =
    let has = g.D.Folder.has in
    let d = c.args.folder.now in
    let new = c.recover.new.folder in
    untabled (has d) (has new) (subst (λ r. IfSome (has d) (λ v. is_some r ≡ is_some v.table)) c.in-Ok-None.field-0-is c.in-Ok-None.ensures.none) c.in-Ok-None.ensures.has

pub returns-in-Ok-None-clause-images : goal.returns-in-Ok-None-clause-images
returns-in-Ok-None-clause-images g c =
    let has = g.D.Folder.has in
    let d = c.args.folder.now in
    let new = c.recover.new.folder in
    let quiet : IsQuiet (g.D.Folder.moment d None) (g.D.Folder.moment new None) (g.D.Folder.left_since d None) (g.D.Folder.left_since new None) (has d) =
    subst (λ r. IsQuiet (g.D.Folder.moment d None) (g.D.Folder.moment new (option_map (λ x. x.toc.table) r)) (g.D.Folder.left_since d None) (g.D.Folder.left_since new (option_map (λ x. x.toc.table) r)) (has d)) c.in-Ok-None.field-0-is c.in-Ok-None.ensures.time in
    let out : g.D.Folder.table_out new ≡ false = subst (λ r. g.D.Folder.table_out new ≡ is_some r) c.in-Ok-None.field-0-is c.in-Ok-None.ensures.out in
    safe_quiet (has d) (has new) _ _ _ _ (λ v. IsLeftByPurge c.args.dataset.now v) quiet (inl (returns-in-Ok-None-clause-untouched g c)) (λ v left whole. inl whole) (λ v left same p. (g.met.D.Folder g.world.𝓛 g.world.𝓜 g.world.𝓡 ((λ s x. x), (λ x. x), (λ x. x), λ x. x)).only_now d v left same c.requires.back p) (λ v left same p. (g.met.D.Folder g.world.𝓛 g.world.𝓜 g.world.𝓡 ((λ s x. x), (λ x. x), (λ x. x), λ x. x)).only_now new v left same out p)

pub returns-in-Err-clause-refused : goal.returns-in-Err-clause-refused
returns-in-Err-clause-refused g c =
    let has = g.D.Folder.has in
    let d = c.args.folder.now in
    let new = c.recover.new.folder in
    left_unmoved (λ v. IsLeftByPurge c.args.dataset.now v) (has d) (has new) (λ v left whole. inl whole) c.in-Err.ensures.has_err

pub returns-in-Err-clause-images : goal.returns-in-Err-clause-images
returns-in-Err-clause-images g c =
    let has = g.D.Folder.has in
    let d = c.args.folder.now in
    let new = c.recover.new.folder in
    safe_quiet (has d) (has new) _ _ _ _ (λ v. IsLeftByPurge c.args.dataset.now v) c.in-Err.ensures.time_err c.in-Err.ensures.has_err (λ v left whole. inl whole) (λ v left same p. (g.met.D.Folder g.world.𝓛 g.world.𝓜 g.world.𝓡 ((λ s x. x), (λ x. x), (λ x. x), λ x. x)).only_now d v left same c.requires.back p) (λ v left same p. (g.met.D.Folder g.world.𝓛 g.world.𝓜 g.world.𝓡 ((λ s x. x), (λ x. x), (λ x. x), λ x. x)).only_now new v left same c.in-Err.ensures.out_err p)

pub returns-in-Err-clause-not_a_table : goal.returns-in-Err-clause-not_a_table
returns-in-Err-clause-not_a_table g c = subst (λ e. OnNotATable e (λ fault. IfSome (g.D.Folder.has c.args.folder.now) (λ v. WithTable v.table (λ f. listed c.args.dataset.now f.reads ≡ Err fault)))) (sym c.of_opening.ensures) (opened_bad c.in-Err.fault (λ fault. IfSome (g.D.Folder.has c.args.folder.now) (λ v. WithTable v.table (λ f. listed c.args.dataset.now f.reads ≡ Err fault))) c.in-Err.ensures.not_a_table)

pub returns-in-Err-clause-damaged : goal.returns-in-Err-clause-damaged
returns-in-Err-clause-damaged g c =
    subst (λ e. OnDamaged e (λ d. IfSome (g.D.Folder.has c.args.folder.now) (IsDamagedIn c.args.dataset.now d))) (sym c.of_opening.ensures)
    (opened_damaged c.in-Err.fault _ (λ d. IfSome (g.D.Folder.has c.args.folder.now) (IsDamagedIn c.args.dataset.now d)) (λ d h. first_damaged c.args.dataset.now (g.D.Folder.has c.args.folder.now) d h) c.in-Err.ensures.damaged)

pub returns-in-Err-clause-writers : goal.returns-in-Err-clause-writers
returns-in-Err-clause-writers g c = subst (λ e. OnWriters e (λ entry writer. IfSome (g.D.Folder.has c.args.folder.now) (IsOver c.args.dataset.now entry writer))) (sym c.of_opening.ensures) (opened_writers c.in-Err.fault _)

pub returns-clause-refused : goal.returns-clause-refused
returns-clause-refused g c =
    let has = g.D.Folder.has in
    let d = c.args.folder.now in
    let mid = c.recover.new.folder in
    let o = c.in-Ok-Some.opened in
    let es = o.toc.entries in
    let ss = standings o.segments.items in
    let file = g.D.Table.Disk.file o.toc.table in
    let dataset = c.args.dataset.now in
    let some : IfSome (has d) (λ v. true ≡ is_some v.table) = subst (λ r. IfSome (has d) (λ v. is_some r ≡ is_some v.table)) c.in-Ok-Some.field-0-is c.in-Ok-Some.ensures.none in
    let lists : IfSome (has d) (λ v. IfSome v.table (λ f. listed dataset f.reads ≡ Ok es)) = subst (λ r. IfSome r (λ x. IfSome (has d) (λ v. IfSome v.table (λ f. listed dataset f.reads ≡ Ok x.toc.entries)))) c.in-Ok-Some.field-0-is c.in-Ok-Some.ensures.entries in
    let firm : IfSome (has d) (λ v. file ≡ option_map synced v.table) = subst (λ r. IfSome r (λ x. IfSome (has d) (λ v. g.D.Table.Disk.file x.toc.table ≡ option_map synced v.table))) c.in-Ok-Some.field-0-is c.in-Ok-Some.ensures.file in
    let taken : AreTakenUp dataset (has d) es ss = subst (λ r. IfSome r (λ x. AreTakenUp dataset (has d) x.toc.entries (standings x.segments.items))) c.in-Ok-Some.field-0-is c.in-Ok-Some.ensures.segments in
    let sound : IfSome (has d) (λ v. damages v.files es ≡ []) = subst (λ r. IfSome r (λ x. IfSome (has d) (λ v. damages v.files x.toc.entries ≡ []))) c.in-Ok-Some.field-0-is c.in-Ok-Some.ensures.sound in
    let quiet : IsQuiet (g.D.Folder.moment d None) (g.D.Folder.moment mid (Some o.toc.table)) (g.D.Folder.left_since d None) (g.D.Folder.left_since mid (Some o.toc.table)) (has d) =
    subst (λ r. IsQuiet (g.D.Folder.moment d None) (g.D.Folder.moment mid (option_map (λ x. x.toc.table) r)) (g.D.Folder.left_since d None) (g.D.Folder.left_since mid (option_map (λ x. x.toc.table) r)) (has d)) c.in-Ok-Some.field-0-is c.in-Ok-Some.ensures.time in
    let read = all_read dataset (has d) es ss taken sound in
    let new = c.give_table.new.self in
    let away = c.in-Ok-Some.ensures.has in
    let same : c.into_table-table.result ≡ o.toc.table = c.into_table-table.ensures.table in
    let firm_now = back_is (has d) (has mid) (has new) file away firm some (c.give_table.ensures.has ∙ ap (λ t. with_table (g.D.Table.Disk.file t) (has mid)) same) in
    let quiet_now = quiet_still _ _ _ _ _ _ (has d) quiet (subst (λ x. StandsStill (g.D.Folder.moment mid (Some x)) (g.D.Folder.moment new None) (g.D.Folder.left_since mid (Some x)) (g.D.Folder.left_since new None)) same c.give_table.ensures.time) in
    left_unmoved (λ v. IsLeftByPurge dataset v) (has d) (has new) (λ v left whole. inl whole) (inr firm_now)

pub returns-clause-images : goal.returns-clause-images
returns-clause-images g c =
    let has = g.D.Folder.has in
    let d = c.args.folder.now in
    let mid = c.recover.new.folder in
    let o = c.in-Ok-Some.opened in
    let es = o.toc.entries in
    let ss = standings o.segments.items in
    let file = g.D.Table.Disk.file o.toc.table in
    let dataset = c.args.dataset.now in
    let some : IfSome (has d) (λ v. true ≡ is_some v.table) = subst (λ r. IfSome (has d) (λ v. is_some r ≡ is_some v.table)) c.in-Ok-Some.field-0-is c.in-Ok-Some.ensures.none in
    let lists : IfSome (has d) (λ v. IfSome v.table (λ f. listed dataset f.reads ≡ Ok es)) = subst (λ r. IfSome r (λ x. IfSome (has d) (λ v. IfSome v.table (λ f. listed dataset f.reads ≡ Ok x.toc.entries)))) c.in-Ok-Some.field-0-is c.in-Ok-Some.ensures.entries in
    let firm : IfSome (has d) (λ v. file ≡ option_map synced v.table) = subst (λ r. IfSome r (λ x. IfSome (has d) (λ v. g.D.Table.Disk.file x.toc.table ≡ option_map synced v.table))) c.in-Ok-Some.field-0-is c.in-Ok-Some.ensures.file in
    let taken : AreTakenUp dataset (has d) es ss = subst (λ r. IfSome r (λ x. AreTakenUp dataset (has d) x.toc.entries (standings x.segments.items))) c.in-Ok-Some.field-0-is c.in-Ok-Some.ensures.segments in
    let sound : IfSome (has d) (λ v. damages v.files es ≡ []) = subst (λ r. IfSome r (λ x. IfSome (has d) (λ v. damages v.files x.toc.entries ≡ []))) c.in-Ok-Some.field-0-is c.in-Ok-Some.ensures.sound in
    let quiet : IsQuiet (g.D.Folder.moment d None) (g.D.Folder.moment mid (Some o.toc.table)) (g.D.Folder.left_since d None) (g.D.Folder.left_since mid (Some o.toc.table)) (has d) =
    subst (λ r. IsQuiet (g.D.Folder.moment d None) (g.D.Folder.moment mid (option_map (λ x. x.toc.table) r)) (g.D.Folder.left_since d None) (g.D.Folder.left_since mid (option_map (λ x. x.toc.table) r)) (has d)) c.in-Ok-Some.field-0-is c.in-Ok-Some.ensures.time in
    let read = all_read dataset (has d) es ss taken sound in
    let new = c.give_table.new.self in
    let away = c.in-Ok-Some.ensures.has in
    let same : c.into_table-table.result ≡ o.toc.table = c.into_table-table.ensures.table in
    let firm_now = back_is (has d) (has mid) (has new) file away firm some (c.give_table.ensures.has ∙ ap (λ t. with_table (g.D.Table.Disk.file t) (has mid)) same) in
    let quiet_now = quiet_still _ _ _ _ _ _ (has d) quiet (subst (λ x. StandsStill (g.D.Folder.moment mid (Some x)) (g.D.Folder.moment new None) (g.D.Folder.left_since mid (Some x)) (g.D.Folder.left_since new None)) same c.give_table.ensures.time) in
    safe_quiet (has d) (has new) _ _ _ _ (λ v. IsLeftByPurge dataset v) quiet_now (inr firm_now) (λ v left whole. inl whole) (λ v left same p. (g.met.D.Folder g.world.𝓛 g.world.𝓜 g.world.𝓡 ((λ s x. x), (λ x. x), (λ x. x), λ x. x)).only_now d v left same c.requires.back p) (λ v left is p. (g.met.D.Folder g.world.𝓛 g.world.𝓜 g.world.𝓡 ((λ s x. x), (λ x. x), (λ x. x), λ x. x)).only_now new v left is c.give_table.ensures.back p)

pub returns-clause-not_a_table : goal.returns-clause-not_a_table
returns-clause-not_a_table g c = sorted_bad c.in-Err-sorted.fault _ c.in-Err-sorted.ensures.table

pub returns-clause-damaged : goal.returns-clause-damaged
returns-clause-damaged g c =
    let has = g.D.Folder.has in
    let d = c.args.folder.now in
    let mid = c.recover.new.folder in
    let o = c.in-Ok-Some.opened in
    let es = o.toc.entries in
    let ss = standings o.segments.items in
    let file = g.D.Table.Disk.file o.toc.table in
    let dataset = c.args.dataset.now in
    let some : IfSome (has d) (λ v. true ≡ is_some v.table) = subst (λ r. IfSome (has d) (λ v. is_some r ≡ is_some v.table)) c.in-Ok-Some.field-0-is c.in-Ok-Some.ensures.none in
    let lists : IfSome (has d) (λ v. IfSome v.table (λ f. listed dataset f.reads ≡ Ok es)) = subst (λ r. IfSome r (λ x. IfSome (has d) (λ v. IfSome v.table (λ f. listed dataset f.reads ≡ Ok x.toc.entries)))) c.in-Ok-Some.field-0-is c.in-Ok-Some.ensures.entries in
    let firm : IfSome (has d) (λ v. file ≡ option_map synced v.table) = subst (λ r. IfSome r (λ x. IfSome (has d) (λ v. g.D.Table.Disk.file x.toc.table ≡ option_map synced v.table))) c.in-Ok-Some.field-0-is c.in-Ok-Some.ensures.file in
    let taken : AreTakenUp dataset (has d) es ss = subst (λ r. IfSome r (λ x. AreTakenUp dataset (has d) x.toc.entries (standings x.segments.items))) c.in-Ok-Some.field-0-is c.in-Ok-Some.ensures.segments in
    let sound : IfSome (has d) (λ v. damages v.files es ≡ []) = subst (λ r. IfSome r (λ x. IfSome (has d) (λ v. damages v.files x.toc.entries ≡ []))) c.in-Ok-Some.field-0-is c.in-Ok-Some.ensures.sound in
    let quiet : IsQuiet (g.D.Folder.moment d None) (g.D.Folder.moment mid (Some o.toc.table)) (g.D.Folder.left_since d None) (g.D.Folder.left_since mid (Some o.toc.table)) (has d) =
    subst (λ r. IsQuiet (g.D.Folder.moment d None) (g.D.Folder.moment mid (option_map (λ x. x.toc.table) r)) (g.D.Folder.left_since d None) (g.D.Folder.left_since mid (option_map (λ x. x.toc.table) r)) (has d)) c.in-Ok-Some.field-0-is c.in-Ok-Some.ensures.time in
    let read = all_read dataset (has d) es ss taken sound in
    sorted_damaged c.in-Err-sorted.fault _ (λ x. IfSome (has d) (IsDamagedIn dataset x)) (λ x bad. bad_among dataset (has d) es ss x some lists taken bad) c.in-Err-sorted.ensures.damaged

pub returns-clause-writers : goal.returns-clause-writers
returns-clause-writers g c =
    let has = g.D.Folder.has in
    let d = c.args.folder.now in
    let mid = c.recover.new.folder in
    let o = c.in-Ok-Some.opened in
    let es = o.toc.entries in
    let ss = standings o.segments.items in
    let file = g.D.Table.Disk.file o.toc.table in
    let dataset = c.args.dataset.now in
    let some : IfSome (has d) (λ v. true ≡ is_some v.table) = subst (λ r. IfSome (has d) (λ v. is_some r ≡ is_some v.table)) c.in-Ok-Some.field-0-is c.in-Ok-Some.ensures.none in
    let lists : IfSome (has d) (λ v. IfSome v.table (λ f. listed dataset f.reads ≡ Ok es)) = subst (λ r. IfSome r (λ x. IfSome (has d) (λ v. IfSome v.table (λ f. listed dataset f.reads ≡ Ok x.toc.entries)))) c.in-Ok-Some.field-0-is c.in-Ok-Some.ensures.entries in
    let firm : IfSome (has d) (λ v. file ≡ option_map synced v.table) = subst (λ r. IfSome r (λ x. IfSome (has d) (λ v. g.D.Table.Disk.file x.toc.table ≡ option_map synced v.table))) c.in-Ok-Some.field-0-is c.in-Ok-Some.ensures.file in
    let taken : AreTakenUp dataset (has d) es ss = subst (λ r. IfSome r (λ x. AreTakenUp dataset (has d) x.toc.entries (standings x.segments.items))) c.in-Ok-Some.field-0-is c.in-Ok-Some.ensures.segments in
    let sound : IfSome (has d) (λ v. damages v.files es ≡ []) = subst (λ r. IfSome r (λ x. IfSome (has d) (λ v. damages v.files x.toc.entries ≡ []))) c.in-Ok-Some.field-0-is c.in-Ok-Some.ensures.sound in
    let quiet : IsQuiet (g.D.Folder.moment d None) (g.D.Folder.moment mid (Some o.toc.table)) (g.D.Folder.left_since d None) (g.D.Folder.left_since mid (Some o.toc.table)) (has d) =
    subst (λ r. IsQuiet (g.D.Folder.moment d None) (g.D.Folder.moment mid (option_map (λ x. x.toc.table) r)) (g.D.Folder.left_since d None) (g.D.Folder.left_since mid (option_map (λ x. x.toc.table) r)) (has d)) c.in-Ok-Some.field-0-is c.in-Ok-Some.ensures.time in
    let read = all_read dataset (has d) es ss taken sound in
    let listing : c.entries.result.now ≡ es = c.entries.ensures.entries in
    sorted_writers c.in-Err-sorted.fault _ (λ entry writer. IfSome (has d) (IsOver dataset entry writer))
    (λ entry writer over. over_read dataset (has d) es ss entry writer some lists read (λ kss r. subst (λ (l : List Entry). first_over 0 0 (masks kss) l ≡ Some (entry, writer)) listing (over kss r))) c.in-Err-sorted.ensures.writers

pub returns-in-Ok-carry_out-clause-purged : goal.returns-in-Ok-carry_out-clause-purged
returns-in-Ok-carry_out-clause-purged g c =
    let has = g.D.Folder.has in
    let d = c.args.folder.now in
    let mid = c.recover.new.folder in
    let o = c.in-Ok-Some.opened in
    let es = o.toc.entries in
    let ss = standings o.segments.items in
    let file = g.D.Table.Disk.file o.toc.table in
    let dataset = c.args.dataset.now in
    let some : IfSome (has d) (λ v. true ≡ is_some v.table) = subst (λ r. IfSome (has d) (λ v. is_some r ≡ is_some v.table)) c.in-Ok-Some.field-0-is c.in-Ok-Some.ensures.none in
    let lists : IfSome (has d) (λ v. IfSome v.table (λ f. listed dataset f.reads ≡ Ok es)) = subst (λ r. IfSome r (λ x. IfSome (has d) (λ v. IfSome v.table (λ f. listed dataset f.reads ≡ Ok x.toc.entries)))) c.in-Ok-Some.field-0-is c.in-Ok-Some.ensures.entries in
    let firm : IfSome (has d) (λ v. file ≡ option_map synced v.table) = subst (λ r. IfSome r (λ x. IfSome (has d) (λ v. g.D.Table.Disk.file x.toc.table ≡ option_map synced v.table))) c.in-Ok-Some.field-0-is c.in-Ok-Some.ensures.file in
    let taken : AreTakenUp dataset (has d) es ss = subst (λ r. IfSome r (λ x. AreTakenUp dataset (has d) x.toc.entries (standings x.segments.items))) c.in-Ok-Some.field-0-is c.in-Ok-Some.ensures.segments in
    let sound : IfSome (has d) (λ v. damages v.files es ≡ []) = subst (λ r. IfSome r (λ x. IfSome (has d) (λ v. damages v.files x.toc.entries ≡ []))) c.in-Ok-Some.field-0-is c.in-Ok-Some.ensures.sound in
    let quiet : IsQuiet (g.D.Folder.moment d None) (g.D.Folder.moment mid (Some o.toc.table)) (g.D.Folder.left_since d None) (g.D.Folder.left_since mid (Some o.toc.table)) (has d) =
    subst (λ r. IsQuiet (g.D.Folder.moment d None) (g.D.Folder.moment mid (option_map (λ x. x.toc.table) r)) (g.D.Folder.left_since d None) (g.D.Folder.left_since mid (option_map (λ x. x.toc.table) r)) (has d)) c.in-Ok-Some.field-0-is c.in-Ok-Some.ensures.time in
    let read = all_read dataset (has d) es ss taken sound in
    let listing : c.entries.result.now ≡ es = c.entries.ensures.entries in
    let divided = c.in-Ok.divided in
    let dropped = divided.dropped.items in
    let kept = divided.kept.items in
    let away = c.in-Ok-Some.ensures.has in
    let new = c.carry_out.new.folder in
    let ft = g.D.Table.Disk.file c.into_table-table.result in
    let firm2 : IfSome (has d) (λ v. ft ≡ option_map synced v.table) = subst (λ t. IfSome (has d) (λ v. g.D.Table.Disk.file t ≡ option_map synced v.table)) (sym c.into_table-table.ensures.table) firm in
    let opened : IfSome (has d) (λ v. Opened dataset v ft es dropped kept) = opened_as dataset (has d) ft es dropped kept ss some lists firm2 read
    (λ kss r. c.in-Ok.ensures.dropped kss r ∙ ap (masked (masks kss)) listing) (λ kss r. c.in-Ok.ensures.kept kss r ∙ ap (unmasked (masks kss)) listing) in
    purged_as dataset ft es dropped kept (has d) (has mid) (has new) _ _ opened away c.in-Ok-carry_out.ensures.counts.0 c.in-Ok-carry_out.ensures.counts.1 (fits_read (has d) es ss read (λ kss r. subst (λ (l : List Entry). first_over 0 0 (masks kss) l ≡ None) listing (c.in-Ok.ensures.within kss r))) c.in-Ok-carry_out.ensures.ok

pub returns-in-Ok-carry_out-clause-unwritten : goal.returns-in-Ok-carry_out-clause-unwritten
returns-in-Ok-carry_out-clause-unwritten g c =
    let has = g.D.Folder.has in
    let d = c.args.folder.now in
    let mid = c.recover.new.folder in
    let o = c.in-Ok-Some.opened in
    let es = o.toc.entries in
    let ss = standings o.segments.items in
    let file = g.D.Table.Disk.file o.toc.table in
    let dataset = c.args.dataset.now in
    let some : IfSome (has d) (λ v. true ≡ is_some v.table) = subst (λ r. IfSome (has d) (λ v. is_some r ≡ is_some v.table)) c.in-Ok-Some.field-0-is c.in-Ok-Some.ensures.none in
    let lists : IfSome (has d) (λ v. IfSome v.table (λ f. listed dataset f.reads ≡ Ok es)) = subst (λ r. IfSome r (λ x. IfSome (has d) (λ v. IfSome v.table (λ f. listed dataset f.reads ≡ Ok x.toc.entries)))) c.in-Ok-Some.field-0-is c.in-Ok-Some.ensures.entries in
    let firm : IfSome (has d) (λ v. file ≡ option_map synced v.table) = subst (λ r. IfSome r (λ x. IfSome (has d) (λ v. g.D.Table.Disk.file x.toc.table ≡ option_map synced v.table))) c.in-Ok-Some.field-0-is c.in-Ok-Some.ensures.file in
    let taken : AreTakenUp dataset (has d) es ss = subst (λ r. IfSome r (λ x. AreTakenUp dataset (has d) x.toc.entries (standings x.segments.items))) c.in-Ok-Some.field-0-is c.in-Ok-Some.ensures.segments in
    let sound : IfSome (has d) (λ v. damages v.files es ≡ []) = subst (λ r. IfSome r (λ x. IfSome (has d) (λ v. damages v.files x.toc.entries ≡ []))) c.in-Ok-Some.field-0-is c.in-Ok-Some.ensures.sound in
    let quiet : IsQuiet (g.D.Folder.moment d None) (g.D.Folder.moment mid (Some o.toc.table)) (g.D.Folder.left_since d None) (g.D.Folder.left_since mid (Some o.toc.table)) (has d) =
    subst (λ r. IsQuiet (g.D.Folder.moment d None) (g.D.Folder.moment mid (option_map (λ x. x.toc.table) r)) (g.D.Folder.left_since d None) (g.D.Folder.left_since mid (option_map (λ x. x.toc.table) r)) (has d)) c.in-Ok-Some.field-0-is c.in-Ok-Some.ensures.time in
    let read = all_read dataset (has d) es ss taken sound in
    let listing : c.entries.result.now ≡ es = c.entries.ensures.entries in
    let divided = c.in-Ok.divided in
    let dropped = divided.dropped.items in
    let kept = divided.kept.items in
    let away = c.in-Ok-Some.ensures.has in
    let new = c.carry_out.new.folder in
    let ft = g.D.Table.Disk.file c.into_table-table.result in
    let firm2 : IfSome (has d) (λ v. ft ≡ option_map synced v.table) = subst (λ t. IfSome (has d) (λ v. g.D.Table.Disk.file t ≡ option_map synced v.table)) (sym c.into_table-table.ensures.table) firm in
    let opened : IfSome (has d) (λ v. Opened dataset v ft es dropped kept) = opened_as dataset (has d) ft es dropped kept ss some lists firm2 read
    (λ kss r. c.in-Ok.ensures.dropped kss r ∙ ap (masked (masks kss)) listing) (λ kss r. c.in-Ok.ensures.kept kss r ∙ ap (unmasked (masks kss)) listing) in
    λ none. carried_none dataset ft es dropped kept (has d) (has mid) (has new) _ opened away c.in-Ok-carry_out.ensures.counts.0 none c.in-Ok-carry_out.ensures.ok

pub returns-in-Ok-carry_out-clause-untouched : goal.returns-in-Ok-carry_out-clause-untouched
returns-in-Ok-carry_out-clause-untouched g c =
    let has = g.D.Folder.has in
    let d = c.args.folder.now in
    let mid = c.recover.new.folder in
    let o = c.in-Ok-Some.opened in
    let es = o.toc.entries in
    let ss = standings o.segments.items in
    let file = g.D.Table.Disk.file o.toc.table in
    let dataset = c.args.dataset.now in
    let some : IfSome (has d) (λ v. true ≡ is_some v.table) = subst (λ r. IfSome (has d) (λ v. is_some r ≡ is_some v.table)) c.in-Ok-Some.field-0-is c.in-Ok-Some.ensures.none in
    let lists : IfSome (has d) (λ v. IfSome v.table (λ f. listed dataset f.reads ≡ Ok es)) = subst (λ r. IfSome r (λ x. IfSome (has d) (λ v. IfSome v.table (λ f. listed dataset f.reads ≡ Ok x.toc.entries)))) c.in-Ok-Some.field-0-is c.in-Ok-Some.ensures.entries in
    let firm : IfSome (has d) (λ v. file ≡ option_map synced v.table) = subst (λ r. IfSome r (λ x. IfSome (has d) (λ v. g.D.Table.Disk.file x.toc.table ≡ option_map synced v.table))) c.in-Ok-Some.field-0-is c.in-Ok-Some.ensures.file in
    let taken : AreTakenUp dataset (has d) es ss = subst (λ r. IfSome r (λ x. AreTakenUp dataset (has d) x.toc.entries (standings x.segments.items))) c.in-Ok-Some.field-0-is c.in-Ok-Some.ensures.segments in
    let sound : IfSome (has d) (λ v. damages v.files es ≡ []) = subst (λ r. IfSome r (λ x. IfSome (has d) (λ v. damages v.files x.toc.entries ≡ []))) c.in-Ok-Some.field-0-is c.in-Ok-Some.ensures.sound in
    let quiet : IsQuiet (g.D.Folder.moment d None) (g.D.Folder.moment mid (Some o.toc.table)) (g.D.Folder.left_since d None) (g.D.Folder.left_since mid (Some o.toc.table)) (has d) =
    subst (λ r. IsQuiet (g.D.Folder.moment d None) (g.D.Folder.moment mid (option_map (λ x. x.toc.table) r)) (g.D.Folder.left_since d None) (g.D.Folder.left_since mid (option_map (λ x. x.toc.table) r)) (has d)) c.in-Ok-Some.field-0-is c.in-Ok-Some.ensures.time in
    let read = all_read dataset (has d) es ss taken sound in
    let listing : c.entries.result.now ≡ es = c.entries.ensures.entries in
    let divided = c.in-Ok.divided in
    let dropped = divided.dropped.items in
    let kept = divided.kept.items in
    let away = c.in-Ok-Some.ensures.has in
    let new = c.carry_out.new.folder in
    let ft = g.D.Table.Disk.file c.into_table-table.result in
    let firm2 : IfSome (has d) (λ v. ft ≡ option_map synced v.table) = subst (λ t. IfSome (has d) (λ v. g.D.Table.Disk.file t ≡ option_map synced v.table)) (sym c.into_table-table.ensures.table) firm in
    let opened : IfSome (has d) (λ v. Opened dataset v ft es dropped kept) = opened_as dataset (has d) ft es dropped kept ss some lists firm2 read
    (λ kss r. c.in-Ok.ensures.dropped kss r ∙ ap (masked (masks kss)) listing) (λ kss r. c.in-Ok.ensures.kept kss r ∙ ap (unmasked (masks kss)) listing) in
    some_there (has d) (has new) (carried_there dataset ft es dropped kept (has d) (has mid) (has new) opened away c.in-Ok-carry_out.ensures.ok)

pub returns-in-Ok-carry_out-clause-none : goal.returns-in-Ok-carry_out-clause-none
returns-in-Ok-carry_out-clause-none g c =
    let has = g.D.Folder.has in
    let d = c.args.folder.now in
    let mid = c.recover.new.folder in
    let o = c.in-Ok-Some.opened in
    let es = o.toc.entries in
    let ss = standings o.segments.items in
    let file = g.D.Table.Disk.file o.toc.table in
    let dataset = c.args.dataset.now in
    let some : IfSome (has d) (λ v. true ≡ is_some v.table) = subst (λ r. IfSome (has d) (λ v. is_some r ≡ is_some v.table)) c.in-Ok-Some.field-0-is c.in-Ok-Some.ensures.none in
    let lists : IfSome (has d) (λ v. IfSome v.table (λ f. listed dataset f.reads ≡ Ok es)) = subst (λ r. IfSome r (λ x. IfSome (has d) (λ v. IfSome v.table (λ f. listed dataset f.reads ≡ Ok x.toc.entries)))) c.in-Ok-Some.field-0-is c.in-Ok-Some.ensures.entries in
    let firm : IfSome (has d) (λ v. file ≡ option_map synced v.table) = subst (λ r. IfSome r (λ x. IfSome (has d) (λ v. g.D.Table.Disk.file x.toc.table ≡ option_map synced v.table))) c.in-Ok-Some.field-0-is c.in-Ok-Some.ensures.file in
    let taken : AreTakenUp dataset (has d) es ss = subst (λ r. IfSome r (λ x. AreTakenUp dataset (has d) x.toc.entries (standings x.segments.items))) c.in-Ok-Some.field-0-is c.in-Ok-Some.ensures.segments in
    let sound : IfSome (has d) (λ v. damages v.files es ≡ []) = subst (λ r. IfSome r (λ x. IfSome (has d) (λ v. damages v.files x.toc.entries ≡ []))) c.in-Ok-Some.field-0-is c.in-Ok-Some.ensures.sound in
    let quiet : IsQuiet (g.D.Folder.moment d None) (g.D.Folder.moment mid (Some o.toc.table)) (g.D.Folder.left_since d None) (g.D.Folder.left_since mid (Some o.toc.table)) (has d) =
    subst (λ r. IsQuiet (g.D.Folder.moment d None) (g.D.Folder.moment mid (option_map (λ x. x.toc.table) r)) (g.D.Folder.left_since d None) (g.D.Folder.left_since mid (option_map (λ x. x.toc.table) r)) (has d)) c.in-Ok-Some.field-0-is c.in-Ok-Some.ensures.time in
    let read = all_read dataset (has d) es ss taken sound in
    let listing : c.entries.result.now ≡ es = c.entries.ensures.entries in
    let divided = c.in-Ok.divided in
    let dropped = divided.dropped.items in
    let kept = divided.kept.items in
    let away = c.in-Ok-Some.ensures.has in
    let new = c.carry_out.new.folder in
    let ft = g.D.Table.Disk.file c.into_table-table.result in
    let firm2 : IfSome (has d) (λ v. ft ≡ option_map synced v.table) = subst (λ t. IfSome (has d) (λ v. g.D.Table.Disk.file t ≡ option_map synced v.table)) (sym c.into_table-table.ensures.table) firm in
    let opened : IfSome (has d) (λ v. Opened dataset v ft es dropped kept) = opened_as dataset (has d) ft es dropped kept ss some lists firm2 read
    (λ kss r. c.in-Ok.ensures.dropped kss r ∙ ap (masked (masks kss)) listing) (λ kss r. c.in-Ok.ensures.kept kss r ∙ ap (unmasked (masks kss)) listing) in
    some

pub returns-in-Ok-carry_out-clause-images : goal.returns-in-Ok-carry_out-clause-images
returns-in-Ok-carry_out-clause-images g c =
    let has = g.D.Folder.has in
    let d = c.args.folder.now in
    let mid = c.recover.new.folder in
    let o = c.in-Ok-Some.opened in
    let es = o.toc.entries in
    let ss = standings o.segments.items in
    let file = g.D.Table.Disk.file o.toc.table in
    let dataset = c.args.dataset.now in
    let some : IfSome (has d) (λ v. true ≡ is_some v.table) = subst (λ r. IfSome (has d) (λ v. is_some r ≡ is_some v.table)) c.in-Ok-Some.field-0-is c.in-Ok-Some.ensures.none in
    let lists : IfSome (has d) (λ v. IfSome v.table (λ f. listed dataset f.reads ≡ Ok es)) = subst (λ r. IfSome r (λ x. IfSome (has d) (λ v. IfSome v.table (λ f. listed dataset f.reads ≡ Ok x.toc.entries)))) c.in-Ok-Some.field-0-is c.in-Ok-Some.ensures.entries in
    let firm : IfSome (has d) (λ v. file ≡ option_map synced v.table) = subst (λ r. IfSome r (λ x. IfSome (has d) (λ v. g.D.Table.Disk.file x.toc.table ≡ option_map synced v.table))) c.in-Ok-Some.field-0-is c.in-Ok-Some.ensures.file in
    let taken : AreTakenUp dataset (has d) es ss = subst (λ r. IfSome r (λ x. AreTakenUp dataset (has d) x.toc.entries (standings x.segments.items))) c.in-Ok-Some.field-0-is c.in-Ok-Some.ensures.segments in
    let sound : IfSome (has d) (λ v. damages v.files es ≡ []) = subst (λ r. IfSome r (λ x. IfSome (has d) (λ v. damages v.files x.toc.entries ≡ []))) c.in-Ok-Some.field-0-is c.in-Ok-Some.ensures.sound in
    let quiet : IsQuiet (g.D.Folder.moment d None) (g.D.Folder.moment mid (Some o.toc.table)) (g.D.Folder.left_since d None) (g.D.Folder.left_since mid (Some o.toc.table)) (has d) =
    subst (λ r. IsQuiet (g.D.Folder.moment d None) (g.D.Folder.moment mid (option_map (λ x. x.toc.table) r)) (g.D.Folder.left_since d None) (g.D.Folder.left_since mid (option_map (λ x. x.toc.table) r)) (has d)) c.in-Ok-Some.field-0-is c.in-Ok-Some.ensures.time in
    let read = all_read dataset (has d) es ss taken sound in
    let listing : c.entries.result.now ≡ es = c.entries.ensures.entries in
    let divided = c.in-Ok.divided in
    let dropped = divided.dropped.items in
    let kept = divided.kept.items in
    let away = c.in-Ok-Some.ensures.has in
    let new = c.carry_out.new.folder in
    let ft = g.D.Table.Disk.file c.into_table-table.result in
    let firm2 : IfSome (has d) (λ v. ft ≡ option_map synced v.table) = subst (λ t. IfSome (has d) (λ v. g.D.Table.Disk.file t ≡ option_map synced v.table)) (sym c.into_table-table.ensures.table) firm in
    let opened : IfSome (has d) (λ v. Opened dataset v ft es dropped kept) = opened_as dataset (has d) ft es dropped kept ss some lists firm2 read
    (λ kss r. c.in-Ok.ensures.dropped kss r ∙ ap (masked (masks kss)) listing) (λ kss r. c.in-Ok.ensures.kept kss r ∙ ap (unmasked (masks kss)) listing) in
    safe_steps (has d) (has mid) (has new) ft _ _ _ _ _ _ (λ v. IsLeftByPurge dataset v) (LeavesUnderWay dataset ft dropped kept (has mid))
    (subst (λ x. IsQuiet (g.D.Folder.moment d None) (g.D.Folder.moment mid (Some x)) (g.D.Folder.left_since d None) (g.D.Folder.left_since mid (Some x)) (has d)) (sym c.into_table-table.ensures.table) quiet)
    c.carry_out.ensures.time away (opened_firm dataset (has d) ft es dropped kept opened) (λ v left whole. inl whole) (λ v left same p. (g.met.D.Folder g.world.𝓛 g.world.𝓜 g.world.𝓡 ((λ s x. x), (λ x. x), (λ x. x), λ x. x)).only_now d v left same c.requires.back p) (λ left is. (g.met.D.Folder g.world.𝓛 g.world.𝓜 g.world.𝓡 ((λ s x. x), (λ x. x), (λ x. x), λ x. x)).only_beside mid c.into_table-table.result left is)
    (way_more dataset ft es dropped kept (has d) (has mid) opened away) (carried_there dataset ft es dropped kept (has d) (has mid) (has new) opened away c.in-Ok-carry_out.ensures.ok)

pub returns-in-Ok-clause-refused : goal.returns-in-Ok-clause-refused
returns-in-Ok-clause-refused g c =
    let has = g.D.Folder.has in
    let d = c.args.folder.now in
    let mid = c.recover.new.folder in
    let o = c.in-Ok-Some.opened in
    let es = o.toc.entries in
    let ss = standings o.segments.items in
    let file = g.D.Table.Disk.file o.toc.table in
    let dataset = c.args.dataset.now in
    let some : IfSome (has d) (λ v. true ≡ is_some v.table) = subst (λ r. IfSome (has d) (λ v. is_some r ≡ is_some v.table)) c.in-Ok-Some.field-0-is c.in-Ok-Some.ensures.none in
    let lists : IfSome (has d) (λ v. IfSome v.table (λ f. listed dataset f.reads ≡ Ok es)) = subst (λ r. IfSome r (λ x. IfSome (has d) (λ v. IfSome v.table (λ f. listed dataset f.reads ≡ Ok x.toc.entries)))) c.in-Ok-Some.field-0-is c.in-Ok-Some.ensures.entries in
    let firm : IfSome (has d) (λ v. file ≡ option_map synced v.table) = subst (λ r. IfSome r (λ x. IfSome (has d) (λ v. g.D.Table.Disk.file x.toc.table ≡ option_map synced v.table))) c.in-Ok-Some.field-0-is c.in-Ok-Some.ensures.file in
    let taken : AreTakenUp dataset (has d) es ss = subst (λ r. IfSome r (λ x. AreTakenUp dataset (has d) x.toc.entries (standings x.segments.items))) c.in-Ok-Some.field-0-is c.in-Ok-Some.ensures.segments in
    let sound : IfSome (has d) (λ v. damages v.files es ≡ []) = subst (λ r. IfSome r (λ x. IfSome (has d) (λ v. damages v.files x.toc.entries ≡ []))) c.in-Ok-Some.field-0-is c.in-Ok-Some.ensures.sound in
    let quiet : IsQuiet (g.D.Folder.moment d None) (g.D.Folder.moment mid (Some o.toc.table)) (g.D.Folder.left_since d None) (g.D.Folder.left_since mid (Some o.toc.table)) (has d) =
    subst (λ r. IsQuiet (g.D.Folder.moment d None) (g.D.Folder.moment mid (option_map (λ x. x.toc.table) r)) (g.D.Folder.left_since d None) (g.D.Folder.left_since mid (option_map (λ x. x.toc.table) r)) (has d)) c.in-Ok-Some.field-0-is c.in-Ok-Some.ensures.time in
    let read = all_read dataset (has d) es ss taken sound in
    let listing : c.entries.result.now ≡ es = c.entries.ensures.entries in
    let divided = c.in-Ok.divided in
    let dropped = divided.dropped.items in
    let kept = divided.kept.items in
    let away = c.in-Ok-Some.ensures.has in
    let new = c.carry_out.new.folder in
    let ft = g.D.Table.Disk.file c.into_table-table.result in
    let firm2 : IfSome (has d) (λ v. ft ≡ option_map synced v.table) = subst (λ t. IfSome (has d) (λ v. g.D.Table.Disk.file t ≡ option_map synced v.table)) (sym c.into_table-table.ensures.table) firm in
    let opened : IfSome (has d) (λ v. Opened dataset v ft es dropped kept) = opened_as dataset (has d) ft es dropped kept ss some lists firm2 read
    (λ kss r. c.in-Ok.ensures.dropped kss r ∙ ap (masked (masks kss)) listing) (λ kss r. c.in-Ok.ensures.kept kss r ∙ ap (unmasked (masks kss)) listing) in
    way_refused dataset ft es dropped kept (has d) (has mid) (has new) opened away c.in-Err-carry_out.ensures.err

pub returns-in-Ok-clause-images : goal.returns-in-Ok-clause-images
returns-in-Ok-clause-images g c =
    let has = g.D.Folder.has in
    let d = c.args.folder.now in
    let mid = c.recover.new.folder in
    let o = c.in-Ok-Some.opened in
    let es = o.toc.entries in
    let ss = standings o.segments.items in
    let file = g.D.Table.Disk.file o.toc.table in
    let dataset = c.args.dataset.now in
    let some : IfSome (has d) (λ v. true ≡ is_some v.table) = subst (λ r. IfSome (has d) (λ v. is_some r ≡ is_some v.table)) c.in-Ok-Some.field-0-is c.in-Ok-Some.ensures.none in
    let lists : IfSome (has d) (λ v. IfSome v.table (λ f. listed dataset f.reads ≡ Ok es)) = subst (λ r. IfSome r (λ x. IfSome (has d) (λ v. IfSome v.table (λ f. listed dataset f.reads ≡ Ok x.toc.entries)))) c.in-Ok-Some.field-0-is c.in-Ok-Some.ensures.entries in
    let firm : IfSome (has d) (λ v. file ≡ option_map synced v.table) = subst (λ r. IfSome r (λ x. IfSome (has d) (λ v. g.D.Table.Disk.file x.toc.table ≡ option_map synced v.table))) c.in-Ok-Some.field-0-is c.in-Ok-Some.ensures.file in
    let taken : AreTakenUp dataset (has d) es ss = subst (λ r. IfSome r (λ x. AreTakenUp dataset (has d) x.toc.entries (standings x.segments.items))) c.in-Ok-Some.field-0-is c.in-Ok-Some.ensures.segments in
    let sound : IfSome (has d) (λ v. damages v.files es ≡ []) = subst (λ r. IfSome r (λ x. IfSome (has d) (λ v. damages v.files x.toc.entries ≡ []))) c.in-Ok-Some.field-0-is c.in-Ok-Some.ensures.sound in
    let quiet : IsQuiet (g.D.Folder.moment d None) (g.D.Folder.moment mid (Some o.toc.table)) (g.D.Folder.left_since d None) (g.D.Folder.left_since mid (Some o.toc.table)) (has d) =
    subst (λ r. IsQuiet (g.D.Folder.moment d None) (g.D.Folder.moment mid (option_map (λ x. x.toc.table) r)) (g.D.Folder.left_since d None) (g.D.Folder.left_since mid (option_map (λ x. x.toc.table) r)) (has d)) c.in-Ok-Some.field-0-is c.in-Ok-Some.ensures.time in
    let read = all_read dataset (has d) es ss taken sound in
    let listing : c.entries.result.now ≡ es = c.entries.ensures.entries in
    let divided = c.in-Ok.divided in
    let dropped = divided.dropped.items in
    let kept = divided.kept.items in
    let away = c.in-Ok-Some.ensures.has in
    let new = c.carry_out.new.folder in
    let ft = g.D.Table.Disk.file c.into_table-table.result in
    let firm2 : IfSome (has d) (λ v. ft ≡ option_map synced v.table) = subst (λ t. IfSome (has d) (λ v. g.D.Table.Disk.file t ≡ option_map synced v.table)) (sym c.into_table-table.ensures.table) firm in
    let opened : IfSome (has d) (λ v. Opened dataset v ft es dropped kept) = opened_as dataset (has d) ft es dropped kept ss some lists firm2 read
    (λ kss r. c.in-Ok.ensures.dropped kss r ∙ ap (masked (masks kss)) listing) (λ kss r. c.in-Ok.ensures.kept kss r ∙ ap (unmasked (masks kss)) listing) in
    safe_steps (has d) (has mid) (has new) ft _ _ _ _ _ _ (λ v. IsLeftByPurge dataset v) (LeavesUnderWay dataset ft dropped kept (has mid))
    (subst (λ x. IsQuiet (g.D.Folder.moment d None) (g.D.Folder.moment mid (Some x)) (g.D.Folder.left_since d None) (g.D.Folder.left_since mid (Some x)) (has d)) (sym c.into_table-table.ensures.table) quiet)
    c.carry_out.ensures.time away (opened_firm dataset (has d) ft es dropped kept opened) (λ v left whole. inl whole) (λ v left same p. (g.met.D.Folder g.world.𝓛 g.world.𝓜 g.world.𝓡 ((λ s x. x), (λ x. x), (λ x. x), λ x. x)).only_now d v left same c.requires.back p) (λ left is. (g.met.D.Folder g.world.𝓛 g.world.𝓜 g.world.𝓡 ((λ s x. x), (λ x. x), (λ x. x), λ x. x)).only_beside mid c.into_table-table.result left is)
    (way_more dataset ft es dropped kept (has d) (has mid) opened away) (way_there dataset ft es dropped kept (has d) (has mid) (has new) opened away c.in-Err-carry_out.ensures.err)
