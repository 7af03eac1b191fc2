use Rattle.std.proofs.Common.{rules, ◌⊎◌, ◌≡◌, ◌∙◌, ap, refl, sym, subst, List, ℕ, Ok, Some, is_some, IfSome, map, length, option_map, string_bytes}
use Rattle.fd_bytes.specs.Causes.{Rose}
use Rattle.fd_disk.specs.Folders.{SameBut, WhereTold, folder_at, with_table, without_table}
use Rattle.fd_segment.specs.Held.{batch_of}
use Rattle.fd_turn.specs.Passes.{BoardId, view}
use Rattle.fd_turn.specs.Views.{first_view}
use Rattle.fd_dataset.specs.Listed.{listings}
use Rattle.fd_recovery.specs.Causes.{OnDisk}
use Rattle.fd_recovery.specs.Recovered.{IsUndamaged, all_of, batches_listed, held}
use Rattle.fd_segment.specs.Shared.{entries, standings}
use Rattle.fd_library.specs.Open.{OpenDataset, seat_of}
use Rattle.fd_library.specs.Answers.{HoldsAs, IsOpened, TableBroke, greatest_listed}
use Rattle.fd_library.specs.Stores.{KeepsTable, ListsIn}
use Rattle.fd_library.proofs.Holding.{as_many_listed, folder_cause, holds_as, listed_entries, looks_back, writers_listed}
use Rattle.fd_library.proofs.Undamaged.{undamaged_in}
use Rattle.fd_library.proofs.opening.opened.Goals as goal

pub returns-in-Err-clause-cause : goal.returns-in-Err-clause-cause
returns-in-Err-clause-cause g c =
    let has = g.S.Folder.Folder.has in
    let name = string_bytes c.args.name in
    let first : has c.in-Ok.folder ≡ option_map (λ s. folder_at s name) (g.S.Store.has c.args.store.now) = search rules in
    let left : IfSome (g.S.Store.has c.give_folder-in-Err.new.self) (λ t. has c.taken_up.new.folder ≡ Some (folder_at t name)) = search rules in
    let text : c.as_str-2.result.now ≡ name = search rules in
    let cause : OnDisk c.in-Err.fault (Rose (g.S.Folder.Folder.faults c.in-Ok.folder) (g.S.Folder.Folder.faults c.taken_up.new.folder) ⊎ TableBroke g.S.Folder.Table.Disk.file g.S.Folder.Table.Disk.faults (has c.taken_up.new.folder) name) =
    subst (λ (n : List ℕ). OnDisk c.in-Err.fault (Rose (g.S.Folder.Folder.faults c.in-Ok.folder) (g.S.Folder.Folder.faults c.taken_up.new.folder) ⊎ TableBroke g.S.Folder.Table.Disk.file g.S.Folder.Table.Disk.faults (has c.taken_up.new.folder) n)) text c.in-Err.ensures.cause in
    folder_cause c.in-Err.fault has g.S.Folder.Folder.faults c.in-Ok.folder c.taken_up.new.folder g.S.Folder.Table.Disk.file g.S.Folder.Table.Disk.faults (g.S.Store.has c.args.store.now) (g.S.Store.has c.give_folder-in-Err.new.self) name _ cause first
    left

pub returns-in-Ok-begun-clause-opened : goal.returns-in-Ok-begun-clause-opened
returns-in-Ok-begun-clause-opened g c =
    let xs = c.in-Ok-Some.recovered.segments.items in
    let toc = c.in-Ok-Some.recovered.toc in
    let name = string_bytes c.args.name in
    let text : toc.dataset ≡ name = search rules in
    let entries : entries xs ≡ toc.entries = search rules in
    let tells = is_some (g.S.Folder.Table.Disk.file toc.table) in
    let pass : view c.in-Ok-begun.start.pass ≡ first_view toc.dataset tells (listings xs) = search rules in
    let opening : c.in-Ok-begun.start.opening ≡ length toc.entries = search rules in
    let known = pass ∙ ap (λ (n : List ℕ). first_view n tells (listings xs)) text in
    let kept : OpenDataset g.row.S-Folder.Denot = record { name = name; folder = c.taken_up.new.folder; pass = Some (seat_of c.in-Ok-begun.start.pass); opening = c.in-Ok-begun.start.opening; last = c.in-Ok-begun.start.last; given = 0; lent = 0 } in
    let is : c.held.result.1 ≡ kept = search rules in
    let board : c.held.result.0 ≡ c.in-Ok-begun.start.dataset = search rules in
    let begun : IsOpened name c.in-Ok-begun.start.dataset kept = record {
      history = listings xs;
      told = tells;
      name_is = refl;
      pass = λ j. Some (record { board = c.in-Ok-begun.ensures.own j; view = known j });
      opening = opening ∙ as_many_listed xs toc.entries entries;
      asked = (refl, refl);
      writers = writers_listed c.in-Ok-begun.start.last xs toc.entries entries c.in-Ok-begun.ensures.writers;
      last = c.in-Ok-begun.ensures.last ∙ ap greatest_listed (sym (listed_entries xs ∙ entries));
    } in
    subst (λ (b : BoardId). IsOpened name b c.held.result.1) (sym board) (subst (IsOpened name c.in-Ok-begun.start.dataset) (sym is) begun)

pub returns-in-Ok-begun-clause-holds : goal.returns-in-Ok-begun-clause-holds
returns-in-Ok-begun-clause-holds g c =
    let has = g.S.Folder.Folder.has in
    let xs = c.in-Ok-Some.recovered.segments.items in
    let toc = c.in-Ok-Some.recovered.toc in
    let name = string_bytes c.args.name in
    let text : toc.dataset ≡ name = search rules in
    let entries : entries xs ≡ toc.entries = search rules in
    let tells = is_some (g.S.Folder.Table.Disk.file toc.table) in
    let pass : view c.in-Ok-begun.start.pass ≡ first_view toc.dataset tells (listings xs) = search rules in
    let known = pass ∙ ap (λ (n : List ℕ). first_view n tells (listings xs)) text in
    let first : has c.in-Ok.folder ≡ option_map (λ s. folder_at s name) (g.S.Store.has c.args.store.now) = search rules in
    let later : has c.taken_up.new.folder ≡ option_map without_table (has c.in-Ok.folder) = search rules in
    let files : IfSome (has c.in-Ok.folder) (λ v. batches_listed v.files (Ok toc.entries) ≡ held name v) = search rules in
    let told : IfSome (has c.in-Ok.folder) (λ v. all_of (map (λ s. batch_of s.files) (standings xs)) ≡ held name v) = search rules in
    let lists : IfSome (has c.in-Ok.folder) (λ v. ListsIn name toc.entries v.table) = search rules in
    let kept : OpenDataset g.row.S-Folder.Denot = record { name = name; folder = c.taken_up.new.folder; pass = Some (seat_of c.in-Ok-begun.start.pass); opening = c.in-Ok-begun.start.opening; last = c.in-Ok-begun.start.last; given = 0; lent = 0 } in
    let is : c.held.result.1 ≡ kept = search rules in
    subst (λ (h : OpenDataset g.row.S-Folder.Denot). IfSome (g.S.Store.has c.args.store.now) (λ s. HoldsAs has s h)) (sym is)
    (holds_as has kept
    (g.S.Store.has c.args.store.now) (has c.in-Ok.folder) name xs toc.entries c.in-Ok-begun.start.dataset tells refl (λ j. Some (record { board = c.in-Ok-begun.ensures.own j; view = known j })) first later entries files told lists)

pub returns-in-Ok-begun-clause-undamaged : goal.returns-in-Ok-begun-clause-undamaged
returns-in-Ok-begun-clause-undamaged g c =
    let name = string_bytes c.args.name in
    let has = g.S.Folder.Folder.has c.in-Ok.folder in
    let text : c.as_str-2.result.now ≡ name = search rules in
    let first : has ≡ option_map (λ s. folder_at s name) (g.S.Store.has c.args.store.now) = search rules in
    let none : IfSome has (λ v. IsUndamaged c.as_str-2.result.now v) = search rules in
    undamaged_in (g.S.Store.has c.args.store.now) has name first (subst (λ (n : List ℕ). IfSome has (λ v. IsUndamaged n v)) text none)

pub returns-in-Err-begun-clause-store_err : goal.returns-in-Err-begun-clause-store_err
returns-in-Err-begun-clause-store_err g c =
    let has = g.S.Folder.Folder.has in
    let name = string_bytes c.args.name in
    let old = g.S.Store.has c.args.store.now in
    let new = g.S.Store.has c.give_folder-in-Err-begun.new.self in
    let table = g.S.Folder.Table.Disk.file c.into_table.result in
    let away : WhereTold old (g.S.Store.has c.folder.new.self) (SameBut name) = search rules in
    let back : WhereTold (g.S.Store.has c.folder.new.self) new (SameBut name) = search rules in
    let given : IfSome new (λ t. has c.give_table.new.self ≡ Some (folder_at t name)) = search rules in
    let first : has c.in-Ok.folder ≡ option_map (λ s. folder_at s name) old = search rules in
    let out : has c.taken_up.new.folder ≡ option_map without_table (has c.in-Ok.folder) = search rules in
    let put : has c.give_table.new.self ≡ with_table table (has c.taken_up.new.folder) = search rules in
    let keeps : IfSome (has c.in-Ok.folder) (λ v. KeepsTable name v.table table) = search rules in
    looks_back old (g.S.Store.has c.folder.new.self) new (has c.in-Ok.folder) (has c.taken_up.new.folder) (has c.give_table.new.self) table name away back given first out put keeps
