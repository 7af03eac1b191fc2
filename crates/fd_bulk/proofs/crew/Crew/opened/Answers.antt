use Rattle.std.proofs.Common.{rules, arith, ◌≡◌, ◌∙◌, ◌<◌, ◌≤◌, ◌++◌, ◌∷◌, [], List, ℕ, Option, Some, Ok, false, IfSome, sym, ap, subst, length, slice_get}
use Rattle.fd_disk.specs.Folders.{WhereTold, folder_at}
use Rattle.fd_recovery.specs.Recovered.{IsUndamaged}
use Rattle.fd_library.specs.Calls.{Opens}
use Rattle.fd_library.specs.Open.{OpenDataset, OpenDatasets, among, names_of}
use Rattle.fd_library.specs.Stores.{held_with}
use Rattle.fd_stored.specs.Archiving.{datasets_in}
use Rattle.fd_bulk.specs.Crewing.{Closes, OpenedAs, Undealt}
use Rattle.fd_bulk.proofs.Meeting.{name_there}
use Rattle.fd_bulk.proofs.Opened.{deals_closes, deals_same, opened_again, opened_new}
use Rattle.fd_bulk.proofs.Openings.{few_again, few_new, is_again, is_new, not_true, opened_at, opened_few, opened_pass, same_more, seat_names, some_of}
use Rattle.fd_bulk.proofs.Refused.{too_many_open, undealt}
use Rattle.fd_bulk.proofs.Turns.{with_both}
use Rattle.fd_bulk.proofs.crew.Crew.opened.Goals as goal

pub returns-in_default-clause-opens : goal.returns-in_default-clause-opens
returns-in_default-clause-opens g c = λ start all waiting d.
    let s = c.args.self.now in
    let r = c.reserve.new.self in
    let l = c.args.library.now in
    let parcels : c.reserve.new.self.parcels.items ≡ c.args.self.now.parcels.items = search rules in
    let now = g.S.Store.has c.args.store.now in
    with_both (λ ps qs. Closes g.S.Folder.Folder.has g.S.Folder.Shelf.Shelf.kept start now all waiting l ps r.jobs.items qs) s.passes.items r.passes.items s.parcels.items r.parcels.items c.reserve.ensures.passes parcels
    (deals_closes g.S.Folder.Folder.has g.S.Folder.Shelf.Shelf.kept start all waiting now (datasets_in (all ++ waiting)) l s.passes.items r.jobs.items s.parcels.items
    (deals_same g.S.Folder.Folder.has g.S.Folder.Shelf.Shelf.kept start all waiting now (datasets_in (all ++ waiting)) l s.passes.items s.jobs.items r.jobs.items s.parcels.items c.reserve.ensures.jobs d))

pub returns-in-Err-clause-opens : goal.returns-in-Err-clause-opens
returns-in-Err-clause-opens g c = λ start all waiting d.
    let s = c.args.self.now in
    let r = c.reserve.new.self in
    let l = c.args.library.now in
    let parcels : c.reserve.new.self.parcels.items ≡ c.args.self.now.parcels.items = search rules in
    let before = g.S.Store.has c.args.store.now in
    let after = g.S.Store.has c.dataset.new.store in
    let name = c.args.name.now in
    let i = c.in-Err.ensures in
    let new = not_true (among name (names_of l.each)) (λ e. (i.again e).3) in
    let held = subst (λ (x : OpenDatasets g.row.S-Folder.Denot). WhereTold (g.S.Store.has c.args.store.now) (g.S.Store.has c.dataset.new.store) (λ a b. (n : List ℕ) → held_with g.S.Folder.Folder.has x.each b n ≡ held_with g.S.Folder.Folder.has c.args.library.now.each a n)) i.left_err.library i.kept in
    subst (λ now. Undealt g.S.Folder.Folder.has g.S.Folder.Shelf.Shelf.kept start now all waiting name (datasets_in (all ++ waiting)) c.unopened.result c.dataset.new.self r.passes.items r.jobs.items r.parcels.items) (sym c.unopened.ensures.has)
    (subst (λ x. Undealt g.S.Folder.Folder.has g.S.Folder.Shelf.Shelf.kept start after all waiting name (datasets_in (all ++ waiting)) c.unopened.result x r.passes.items r.jobs.items r.parcels.items) (sym i.left_err.library)
    (with_both (λ ps qs. Undealt g.S.Folder.Folder.has g.S.Folder.Shelf.Shelf.kept start after all waiting name (datasets_in (all ++ waiting)) c.unopened.result l ps r.jobs.items qs) s.passes.items r.passes.items s.parcels.items r.parcels.items c.reserve.ensures.passes parcels
    (undealt g.S.Folder.Folder.has g.S.Folder.Shelf.Shelf.kept start all waiting name before after l s.passes.items s.jobs.items r.jobs.items s.parcels.items d c.reserve.ensures.jobs i.left_err.store held new c.in-Err.fault c.unopened.result c.unopened.ensures.told i.too_many i.not_a_table i.damaged)))

pub returns-in-Err-clause-too_many : goal.returns-in-Err-clause-too_many
returns-in-Err-clause-too_many g c = λ start all waiting d.
    let s = c.args.self.now in
    let r = c.reserve.new.self in
    let l = c.args.library.now in
    let before = g.S.Store.has c.args.store.now in
    let after = g.S.Store.has c.dataset.new.store in
    let name = c.args.name.now in
    let i = c.in-Err.ensures in
    let new = not_true (among name (names_of l.each)) (λ e. (i.again e).3) in
    let held = subst (λ (x : OpenDatasets g.row.S-Folder.Denot). WhereTold (g.S.Store.has c.args.store.now) (g.S.Store.has c.dataset.new.store) (λ a b. (n : List ℕ) → held_with g.S.Folder.Folder.has x.each b n ≡ held_with g.S.Folder.Folder.has c.args.library.now.each a n)) i.left_err.library i.kept in
    too_many_open g.S.Folder.Folder.has g.S.Folder.Shelf.Shelf.kept start all waiting name before after l s.passes.items s.jobs.items r.jobs.items s.parcels.items d c.reserve.ensures.jobs i.left_err.store held new _ c.in-Err.fault c.unopened.result c.unopened.ensures.told i.too_many

pub made-number-requires : goal.made-number-requires
made-number-requires g c = some_of c.in-Ok-dataset.found c.in-Ok-dataset.ensures.unmade

pub returns-then-number-len-clause-opens : goal.returns-then-number-len-clause-opens
returns-then-number-len-clause-opens g c = λ start all waiting d.
    let s = c.args.self.now in
    let r = c.reserve.new.self in
    let l = c.args.library.now in
    let parcels : c.reserve.new.self.parcels.items ≡ c.args.self.now.parcels.items = search rules in
    let m = c.dataset.new.self in
    let before = g.S.Store.has c.args.store.now in
    let after = g.S.Store.has c.dataset.new.store in
    let name = c.args.name.now in
    let n = c.made-number.result in
    let i = c.in-Ok-dataset.ensures in
    let at = subst (λ (o : Option ℕ). IfSome o (λ n. (h : OpenDataset g.row.S-Folder.Denot) × (slice_get c.dataset.new.self.each n ≡ Some h) × (h.name ≡ c.args.name.now))) c.made-number.ensures i.number in
    let opens = λ (out : among c.args.name.now (names_of c.args.library.now.each) ≡ false). subst (λ (o : Option ℕ). IfSome o (λ n. Opens g.S.Folder.Folder.has n c.args.name.now c.args.library.now c.dataset.new.self (g.S.Store.has c.args.store.now) (g.S.Store.has c.dataset.new.store))) c.made-number.ensures (c.in-Ok-dataset.ensures.opened out) in
    let lt : c.made-number.result < length c.args.library.now.each = omega (arith, c.if-number-len.true, c.len.ensures, c.reserve.new.self.passes.ok.0, ap length c.reserve.ensures.passes, c.requires.long) in
    let there = is_again g.S.Folder.Folder.has n name l m before after opens lt in
    let same = i.again there in
    let name_at : slice_get (names_of c.args.library.now.each) c.made-number.result ≡ Some c.args.name.now = ap (λ (x : OpenDatasets g.row.S-Folder.Denot). slice_get (names_of x.each) c.made-number.result) (sym same.0) ∙ name_there m.each n at.0 at.1 ∙ ap Some at.2 in
    subst (λ x. OpenedAs g.S.Folder.Folder.has g.S.Folder.Shelf.Shelf.kept start after all waiting {Z = g.row.X.Denot} name (datasets_in (all ++ waiting)) (Ok n) x r.passes.items r.jobs.items r.parcels.items) (sym same.0)
    (with_both (λ ps qs. OpenedAs g.S.Folder.Folder.has g.S.Folder.Shelf.Shelf.kept start after all waiting {Z = g.row.X.Denot} name (datasets_in (all ++ waiting)) (Ok n) l ps r.jobs.items qs) s.passes.items r.passes.items s.parcels.items r.parcels.items c.reserve.ensures.passes parcels
    (opened_again g.S.Folder.Folder.has g.S.Folder.Shelf.Shelf.kept start all waiting name before after l s.passes.items s.jobs.items r.jobs.items s.parcels.items d g.row.X.Denot n there name_at (sym same.1) c.reserve.ensures.jobs))

pub returns-then-number-len-clause-too_many : goal.returns-then-number-len-clause-too_many
returns-then-number-len-clause-too_many g c = λ start all waiting d.
    let s = c.args.self.now in
    let r = c.reserve.new.self in
    let l = c.args.library.now in
    let m = c.dataset.new.self in
    let before = g.S.Store.has c.args.store.now in
    let after = g.S.Store.has c.dataset.new.store in
    let name = c.args.name.now in
    let n = c.made-number.result in
    let i = c.in-Ok-dataset.ensures in
    let at = subst (λ (o : Option ℕ). IfSome o (λ n. (h : OpenDataset g.row.S-Folder.Denot) × (slice_get c.dataset.new.self.each n ≡ Some h) × (h.name ≡ c.args.name.now))) c.made-number.ensures i.number in
    let opens = λ (out : among c.args.name.now (names_of c.args.library.now.each) ≡ false). subst (λ (o : Option ℕ). IfSome o (λ n. Opens g.S.Folder.Folder.has n c.args.name.now c.args.library.now c.dataset.new.self (g.S.Store.has c.args.store.now) (g.S.Store.has c.dataset.new.store))) c.made-number.ensures (c.in-Ok-dataset.ensures.opened out) in
    let lt : c.made-number.result < length c.args.library.now.each = omega (arith, c.if-number-len.true, c.len.ensures, c.reserve.new.self.passes.ok.0, ap length c.reserve.ensures.passes, c.requires.long) in
    let there = is_again g.S.Folder.Folder.has n name l m before after opens lt in
    let same = i.again there in
    few_again (datasets_in (all ++ waiting)) name l.each d.met there

pub meet-requires-clause-seated : goal.meet-requires-clause-seated
meet-requires-clause-seated g c κs within =
    let l = c.args.library.now in
    let m = c.dataset.new.self in
    let before = g.S.Store.has c.args.store.now in
    let after = g.S.Store.has c.dataset.new.store in
    let name = c.args.name.now in
    let n = c.made-number.result in
    let i = c.in-Ok-dataset.ensures in
    let at = subst (λ (o : Option ℕ). IfSome o (λ n. (h : OpenDataset g.row.S-Folder.Denot) × (slice_get c.dataset.new.self.each n ≡ Some h) × (h.name ≡ c.args.name.now))) c.made-number.ensures i.number in
    let opens = λ (out : among c.args.name.now (names_of c.args.library.now.each) ≡ false). subst (λ (o : Option ℕ). IfSome o (λ n. Opens g.S.Folder.Folder.has n c.args.name.now c.args.library.now c.dataset.new.self (g.S.Store.has c.args.store.now) (g.S.Store.has c.dataset.new.store))) c.made-number.ensures (c.in-Ok-dataset.ensures.opened out) in
    let ge : length c.args.library.now.each ≤ c.made-number.result = omega (arith, c.if-number-len.false, c.len.ensures, c.reserve.new.self.passes.ok.0, ap length c.reserve.ensures.passes, c.requires.long) in
    let out = is_new g.S.Folder.Folder.has n name l m before after (λ e. (c.in-Ok-dataset.ensures.again e).0) at.0 at.1 ge in
    let o = opens out in
    (o.held, opened_at g.S.Folder.Folder.has n name l m before after o, opened_pass g.S.Folder.Folder.has n name l m before after o)

pub returns-clause-out : goal.returns-clause-out
returns-clause-out g c = λ n is. ap (among n) (seat_names c.made-number.result c.dataset.new.self c.meet.new.library _ _ c.meet.ensures.meets.seats) ∙ c.in-Ok-dataset.ensures.out n is

pub returns-clause-opens : goal.returns-clause-opens
returns-clause-opens g c = λ start all waiting d.
    let s = c.args.self.now in
    let r = c.reserve.new.self in
    let l = c.args.library.now in
    let m = c.dataset.new.self in
    let before = g.S.Store.has c.args.store.now in
    let after = g.S.Store.has c.dataset.new.store in
    let name = c.args.name.now in
    let n = c.made-number.result in
    let i = c.in-Ok-dataset.ensures in
    let at = subst (λ (o : Option ℕ). IfSome o (λ n. (h : OpenDataset g.row.S-Folder.Denot) × (slice_get c.dataset.new.self.each n ≡ Some h) × (h.name ≡ c.args.name.now))) c.made-number.ensures i.number in
    let opens = λ (out : among c.args.name.now (names_of c.args.library.now.each) ≡ false). subst (λ (o : Option ℕ). IfSome o (λ n. Opens g.S.Folder.Folder.has n c.args.name.now c.args.library.now c.dataset.new.self (g.S.Store.has c.args.store.now) (g.S.Store.has c.dataset.new.store))) c.made-number.ensures (c.in-Ok-dataset.ensures.opened out) in
    let ge : length c.args.library.now.each ≤ c.made-number.result = omega (arith, c.if-number-len.false, c.len.ensures, c.reserve.new.self.passes.ok.0, ap length c.reserve.ensures.passes, c.requires.long) in
    let out = is_new g.S.Folder.Folder.has n name l m before after (λ e. (c.in-Ok-dataset.ensures.again e).0) at.0 at.1 ge in
    let o = opens out in
    let undamaged = subst (λ (o : Option ℕ). IfSome o (λ n. IfSome (g.S.Store.has c.args.store.now) (λ s. IsUndamaged c.args.name.now (folder_at s c.args.name.now)))) c.made-number.ensures (c.in-Ok-dataset.ensures.undamaged out) in
    let p = c.meet.ensures.meets in
    let t = c.meet.new.self in
    let passes : t.passes.items ≡ s.passes.items ++ p.pass ∷ [] = p.passes ∙ ap (λ ps. ps ++ p.pass ∷ []) c.reserve.ensures.passes in
    let parcels : c.meet.new.self.parcels.items ≡ c.args.self.now.parcels.items = search rules in
    with_both (λ ps qs. OpenedAs g.S.Folder.Folder.has g.S.Folder.Shelf.Shelf.kept start after all waiting {Z = g.row.X.Denot} name (datasets_in (all ++ waiting)) (Ok n) c.meet.new.library ps t.jobs.items qs) (s.passes.items ++ p.pass ∷ []) t.passes.items s.parcels.items t.parcels.items passes parcels
    (opened_new g.S.Folder.Folder.has g.S.Folder.Shelf.Shelf.kept start all waiting name before after l s.passes.items s.jobs.items t.jobs.items s.parcels.items d out n m c.meet.new.library p.pass o p.seats p.own c.meet.ensures.sound (same_more s.jobs.items r.jobs.items t.jobs.items c.reserve.ensures.jobs p.jobs) undamaged g.row.X.Denot)

pub returns-clause-too_many : goal.returns-clause-too_many
returns-clause-too_many g c = λ start all waiting d.
    let l = c.args.library.now in
    let m = c.dataset.new.self in
    let before = g.S.Store.has c.args.store.now in
    let after = g.S.Store.has c.dataset.new.store in
    let name = c.args.name.now in
    let n = c.made-number.result in
    let i = c.in-Ok-dataset.ensures in
    let at = subst (λ (o : Option ℕ). IfSome o (λ n. (h : OpenDataset g.row.S-Folder.Denot) × (slice_get c.dataset.new.self.each n ≡ Some h) × (h.name ≡ c.args.name.now))) c.made-number.ensures i.number in
    let opens = λ (out : among c.args.name.now (names_of c.args.library.now.each) ≡ false). subst (λ (o : Option ℕ). IfSome o (λ n. Opens g.S.Folder.Folder.has n c.args.name.now c.args.library.now c.dataset.new.self (g.S.Store.has c.args.store.now) (g.S.Store.has c.dataset.new.store))) c.made-number.ensures (c.in-Ok-dataset.ensures.opened out) in
    let ge : length c.args.library.now.each ≤ c.made-number.result = omega (arith, c.if-number-len.false, c.len.ensures, c.reserve.new.self.passes.ok.0, ap length c.reserve.ensures.passes, c.requires.long) in
    let out = is_new g.S.Folder.Folder.has n name l m before after (λ e. (c.in-Ok-dataset.ensures.again e).0) at.0 at.1 ge in
    let o = opens out in
    few_new (datasets_in (all ++ waiting)) name l.each d.met (opened_few g.S.Folder.Folder.has n name l m before after o c.in-Ok-dataset.ensures.sound)

pub returns-clause-jobs : goal.returns-clause-jobs
returns-clause-jobs g c =
    c.meet.ensures.meets.jobs.long ∙ c.reserve.ensures.jobs.long
