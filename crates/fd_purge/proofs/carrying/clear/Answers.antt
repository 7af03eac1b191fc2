use Rattle.std.proofs.Common.{[], None, option_map}
use Rattle.fd_disk.specs.Folders.{Contents, with_table}
use Rattle.fd_disk.specs.Renewals.{IsLeftBetween, unfounded}
use Rattle.fd_disk.proofs.RenewalLemmas.{goes_more, goes_then}
use Rattle.fd_purge.specs.Carrying.{LeavesMidway, LeavesThinnerOf}
use Rattle.fd_purge.proofs.CarryLemmas.{midway_done, midway_err, midway_first, midway_second, midway_then}
use Rattle.fd_purge.proofs.carrying.clear.Goals as goal

pub returns-in-Ok-clause-ok : goal.returns-in-Ok-clause-ok
returns-in-Ok-clause-ok g c =
    let has = g.D.Folder.has in
    let old = has c.args.folder.now in
    let mid = has c.unfound.new.self in
    let ft = g.D.Table.Disk.file c.args.table in
    midway_done c.remove_all.result (λ (v : Contents). unfounded v) c.args.entries.now [] old mid (has c.remove_all.new.folder) c.in-Ok.ensures.ok c.remove_all.ensures.ok

pub returns-in-Ok-clause-err : goal.returns-in-Ok-clause-err
returns-in-Ok-clause-err g c =
    let has = g.D.Folder.has in
    let old = has c.args.folder.now in
    let mid = has c.unfound.new.self in
    let ft = g.D.Table.Disk.file c.args.table in
    midway_then c.remove_all.result ft (λ (v : Contents). unfounded v) c.args.entries.now [] old mid (has c.remove_all.new.folder) c.in-Ok.ensures.ok c.remove_all.ensures.err

pub returns-in-Ok-clause-time : goal.returns-in-Ok-clause-time
returns-in-Ok-clause-time g c =
    let has = g.D.Folder.has in
    let old = has c.args.folder.now in
    let mid = has c.unfound.new.self in
    let ft = g.D.Table.Disk.file c.args.table in
    goes_then _ _ _ _ _ _ (IsLeftBetween (with_table ft old) (option_map (λ (v : Contents). unfounded v) old)) (LeavesThinnerOf c.args.entries.now [] mid) (LeavesMidway ft (λ (v : Contents). unfounded v) c.args.entries.now [] old)
    (λ t u left le is. (g.met.D.Folder g.world.𝓛 g.world.𝓜 g.world.𝓡 ((λ s x. x), (λ x. x), (λ x. x), λ x. x)).earlier c.remove_all.new.folder None t u left le is) (λ left is. midway_first ft (λ (v : Contents). unfounded v) c.args.entries.now [] old left is) (λ left is. midway_second ft (λ (v : Contents). unfounded v) c.args.entries.now [] old mid left c.in-Ok.ensures.ok is)
    c.unfound.ensures.time c.remove_all.ensures.time

pub returns-in-Err-clause-err : goal.returns-in-Err-clause-err
returns-in-Err-clause-err g c =
    let has = g.D.Folder.has in
    let old = has c.args.folder.now in
    let mid = has c.unfound.new.self in
    let ft = g.D.Table.Disk.file c.args.table in
    midway_err ft (λ (v : Contents). unfounded v) c.args.entries.now [] old mid c.in-Err.ensures.err

pub returns-in-Err-clause-time : goal.returns-in-Err-clause-time
returns-in-Err-clause-time g c =
    let has = g.D.Folder.has in
    let old = has c.args.folder.now in
    let mid = has c.unfound.new.self in
    let ft = g.D.Table.Disk.file c.args.table in
    goes_more _ _ _ _ (IsLeftBetween (with_table ft old) (option_map (λ (v : Contents). unfounded v) old)) _ (λ left is. midway_first ft (λ (v : Contents). unfounded v) c.args.entries.now [] old left is) c.unfound.ensures.time
