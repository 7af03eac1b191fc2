use Rattle.std.proofs.Common.{[], ◌≡◌, ◌∙◌, ◌++◌, ◌∷◌, List, Ok, ap, sym, arith}
use Rattle.fd_entries.specs.Table.{header, listed, slots_of}
use Rattle.fd_entries.specs.declared.table.Entry.{Entry}
use Rattle.fd_disk.specs.Folders.{Contents, founded}
use Rattle.fd_disk.proofs.RenewalLemmas.{goes_more, still_goes}
use Rattle.fd_purge.specs.Carrying.{LeavesMidway}
use Rattle.fd_purge.proofs.PurgeLemmas.{bytes_list}
use Rattle.fd_purge.proofs.ExitLemmas.{carried_by, under_way_by, under_way_left_by}
use Rattle.fd_purge.proofs.purging.carry_out.Goals as goal

pub returns-then-is_empty-clause-time : goal.returns-then-is_empty-clause-time
returns-then-is_empty-clause-time g c = still_goes _ _ _ _ _ c.give_table.ensures.time

pub returns-in-Ok-thin-clause-ok : goal.returns-in-Ok-thin-clause-ok
returns-in-Ok-thin-clause-ok g c =
    let has = g.D.Folder.has in
    let old = has c.args.folder.now in
    let ft = g.D.Table.Disk.file c.args.table in
    let dropped = c.args.divided.now.dropped.items in
    let kept = c.args.divided.now.kept.items in
    let dataset = c.args.dataset.now in
    let bytes = c.in-Ok.bytes.items in
    let lists : listed dataset bytes ≡ Ok kept = bytes_list dataset kept bytes c.requires.short (omega (arith, c.requires.few)) c.requires.fit (c.in-Ok.ensures ∙ ap (λ (l : List Entry). header dataset ++ slots_of l ++ 0 ∷ []) c.deref.ensures.value) in
    let b = c.deref-2.result.now in
    let d = c.deref-3.result.now in
    let k = c.deref-4.result.now in
    carried_by dataset ft dropped kept d k old bytes b c.deref-3.ensures.value c.deref-4.ensures.value c.deref-2.ensures.value lists (has c.thin.new.folder) _ (omega (arith, c.args.divided.now.dropped.ok)) (sym c.is_empty.ensures ∙ c.if-is_empty.false) c.in-Ok-thin.ensures.ok

pub returns-in-Ok-thin-clause-time : goal.returns-in-Ok-thin-clause-time
returns-in-Ok-thin-clause-time g c =
    let has = g.D.Folder.has in
    let old = has c.args.folder.now in
    let ft = g.D.Table.Disk.file c.args.table in
    let dropped = c.args.divided.now.dropped.items in
    let kept = c.args.divided.now.kept.items in
    let dataset = c.args.dataset.now in
    let bytes = c.in-Ok.bytes.items in
    let lists : listed dataset bytes ≡ Ok kept = bytes_list dataset kept bytes c.requires.short (omega (arith, c.requires.few)) c.requires.fit (c.in-Ok.ensures ∙ ap (λ (l : List Entry). header dataset ++ slots_of l ++ 0 ∷ []) c.deref.ensures.value) in
    let b = c.deref-2.result.now in
    let d = c.deref-3.result.now in
    let k = c.deref-4.result.now in
    goes_more _ _ _ _ (LeavesMidway ft (λ (v : Contents). founded b v) d k old) _ (λ left is. under_way_left_by dataset ft dropped kept d k old bytes b c.deref-3.ensures.value c.deref-4.ensures.value c.deref-2.ensures.value lists left is) c.thin.ensures.time

pub returns-in-Err-Fault-clause-time : goal.returns-in-Err-Fault-clause-time
returns-in-Err-Fault-clause-time g c =
    let has = g.D.Folder.has in
    let old = has c.args.folder.now in
    let ft = g.D.Table.Disk.file c.args.table in
    let dropped = c.args.divided.now.dropped.items in
    let kept = c.args.divided.now.kept.items in
    let dataset = c.args.dataset.now in
    let bytes = c.in-Ok.bytes.items in
    let lists : listed dataset bytes ≡ Ok kept = bytes_list dataset kept bytes c.requires.short (omega (arith, c.requires.few)) c.requires.fit (c.in-Ok.ensures ∙ ap (λ (l : List Entry). header dataset ++ slots_of l ++ 0 ∷ []) c.deref.ensures.value) in
    let b = c.deref-2.result.now in
    let d = c.deref-3.result.now in
    let k = c.deref-4.result.now in
    goes_more _ _ _ _ (LeavesMidway ft (λ (v : Contents). founded b v) d k old) _ (λ left is. under_way_left_by dataset ft dropped kept d k old bytes b c.deref-3.ensures.value c.deref-4.ensures.value c.deref-2.ensures.value lists left is) c.thin.ensures.time

pub returns-clause-time : goal.returns-clause-time
returns-clause-time g c =
    let has = g.D.Folder.has in
    let old = has c.args.folder.now in
    let ft = g.D.Table.Disk.file c.args.table in
    let dropped = c.args.divided.now.dropped.items in
    let kept = c.args.divided.now.kept.items in
    let dataset = c.args.dataset.now in
    let bytes = c.in-Ok.bytes.items in
    let lists : listed dataset bytes ≡ Ok kept = bytes_list dataset kept bytes c.requires.short (omega (arith, c.requires.few)) c.requires.fit (c.in-Ok.ensures ∙ ap (λ (l : List Entry). header dataset ++ slots_of l ++ 0 ∷ []) c.deref.ensures.value) in
    let b = c.deref-2.result.now in
    let d = c.deref-3.result.now in
    let k = c.deref-4.result.now in
    goes_more _ _ _ _ (LeavesMidway ft (λ (v : Contents). founded b v) d k old) _ (λ left is. under_way_left_by dataset ft dropped kept d k old bytes b c.deref-3.ensures.value c.deref-4.ensures.value c.deref-2.ensures.value lists left is) c.thin.ensures.time

pub returns-in-Err-Fault-clause-err : goal.returns-in-Err-Fault-clause-err
returns-in-Err-Fault-clause-err g c =
    let has = g.D.Folder.has in
    let old = has c.args.folder.now in
    let ft = g.D.Table.Disk.file c.args.table in
    let dropped = c.args.divided.now.dropped.items in
    let kept = c.args.divided.now.kept.items in
    let dataset = c.args.dataset.now in
    let bytes = c.in-Ok.bytes.items in
    let lists : listed dataset bytes ≡ Ok kept = bytes_list dataset kept bytes c.requires.short (omega (arith, c.requires.few)) c.requires.fit (c.in-Ok.ensures ∙ ap (λ (l : List Entry). header dataset ++ slots_of l ++ 0 ∷ []) c.deref.ensures.value) in
    let b = c.deref-2.result.now in
    let d = c.deref-3.result.now in
    let k = c.deref-4.result.now in
    under_way_by dataset ft dropped kept d k old bytes b c.deref-3.ensures.value c.deref-4.ensures.value c.deref-2.ensures.value lists (has c.thin.new.folder) c.in-Err-Fault.ensures.err

pub returns-clause-err : goal.returns-clause-err
returns-clause-err g c =
    let has = g.D.Folder.has in
    let old = has c.args.folder.now in
    let ft = g.D.Table.Disk.file c.args.table in
    let dropped = c.args.divided.now.dropped.items in
    let kept = c.args.divided.now.kept.items in
    let dataset = c.args.dataset.now in
    let bytes = c.in-Ok.bytes.items in
    let lists : listed dataset bytes ≡ Ok kept = bytes_list dataset kept bytes c.requires.short (omega (arith, c.requires.few)) c.requires.fit (c.in-Ok.ensures ∙ ap (λ (l : List Entry). header dataset ++ slots_of l ++ 0 ∷ []) c.deref.ensures.value) in
    let b = c.deref-2.result.now in
    let d = c.deref-3.result.now in
    let k = c.deref-4.result.now in
    under_way_by dataset ft dropped kept d k old bytes b c.deref-3.ensures.value c.deref-4.ensures.value c.deref-2.ensures.value lists (has c.thin.new.folder) c.in-Err-NoMemory.ensures.err
