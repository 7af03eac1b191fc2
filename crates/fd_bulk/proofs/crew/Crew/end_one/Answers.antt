use Rattle.std.proofs.Common.{rules, ◌≡◌, sym, subst, length}
use Rattle.fd_turn.specs.Passes.{view}
use Rattle.fd_library.specs.Calls.{Changes}
use Rattle.fd_bulk.specs.Ending.{HandsAll, IsShorter, column}
use Rattle.fd_bulk.specs.Halting.{Each}
use Rattle.fd_bulk.proofs.Giving.{ended_one, mid_at, mid_free, mid_none, mid_parts, mid_whole}
use Rattle.fd_bulk.proofs.Turns.{written}
use Rattle.fd_bulk.proofs.crew.Crew.end_one.Goals as goal

pub catch_up-requires-clause-free : goal.catch_up-requires-clause-free
catch_up-requires-clause-free g c κs within =
    let s = c.args.self.now in
    let n = c.args.number in
    let l = c.args.library.now in
    let m = c.hand_back_all.new.library in
    let p = c.args.pass in
    let v = view c.hand_back_all.new.pass in
    let can = c.requires.can in
    let ch = subst (λ xs. Changes c.args.number c.args.library.now c.hand_back_all.new.library (λ h k. HandsAll g.S.Folder.Folder.has g.S.Folder.Folder.faults g.S.Folder.Shelf.Shelf.kept (column c.args.number xs) h k (view c.args.pass) (view c.hand_back_all.new.pass))) c.as_mut_slice.ensures.value c.hand_back_all.ensures.hands in
    mid_free g.S.Folder.Folder.has g.S.Folder.Folder.faults g.S.Folder.Shelf.Shelf.kept n l m p s.jobs.items v can ch

pub unseat-requires-clause-out : goal.unseat-requires-clause-out
unseat-requires-clause-out g c κs within =
    let s = c.args.self.now in
    let n = c.args.number in
    let l = c.args.library.now in
    let m = c.hand_back_all.new.library in
    let p = c.args.pass in
    let v = view c.hand_back_all.new.pass in
    let can = c.requires.can in
    let ch = subst (λ xs. Changes c.args.number c.args.library.now c.hand_back_all.new.library (λ h k. HandsAll g.S.Folder.Folder.has g.S.Folder.Folder.faults g.S.Folder.Shelf.Shelf.kept (column c.args.number xs) h k (view c.args.pass) (view c.hand_back_all.new.pass))) c.as_mut_slice.ensures.value c.hand_back_all.ensures.hands in
    (ch.after, mid_at g.S.Folder.Folder.has g.S.Folder.Folder.faults g.S.Folder.Shelf.Shelf.kept n l m p s.jobs.items v can ch, mid_none g.S.Folder.Folder.has g.S.Folder.Folder.faults g.S.Folder.Shelf.Shelf.kept n l m p s.jobs.items v can ch, mid_whole g.S.Folder.Folder.has g.S.Folder.Folder.faults g.S.Folder.Shelf.Shelf.kept n l m p s.jobs.items v can ch c.catch_up.new.pass c.catch_up.ensures.rest)

pub returns-clause-shorter : goal.returns-clause-shorter
returns-clause-shorter g c =
    let s = c.args.self.now in
    let ks = c.hand_back_all.new.jobs in
    let each = subst (λ xs. Each (λ i. IsShorter c.args.number) xs ks) c.as_mut_slice.ensures.value c.hand_back_all.ensures.shorter in
    let is : c.args.self.now.jobs.len ≡ length c.args.self.now.jobs.items = search rules in
    subst (λ xs. Each (λ i. IsShorter c.args.number) s.jobs.items xs) (sym (written s.jobs.items ks s.jobs.len is each.long)) each

pub returns-clause-ended : goal.returns-clause-ended
returns-clause-ended g c =
    let s = c.args.self.now in
    let n = c.args.number in
    let l = c.args.library.now in
    let m = c.hand_back_all.new.library in
    let p = c.args.pass in
    let v = view c.hand_back_all.new.pass in
    let can = c.requires.can in
    let ch = subst (λ xs. Changes c.args.number c.args.library.now c.hand_back_all.new.library (λ h k. HandsAll g.S.Folder.Folder.has g.S.Folder.Folder.faults g.S.Folder.Shelf.Shelf.kept (column c.args.number xs) h k (view c.args.pass) (view c.hand_back_all.new.pass))) c.as_mut_slice.ensures.value c.hand_back_all.ensures.hands in
    let u = c.catch_up.ensures in
    ended_one g.S.Folder.Folder.has g.S.Folder.Folder.faults g.S.Folder.Shelf.Shelf.kept n l m p s.jobs.items v can ch c.catch_up.new.pass u.rest c.unseat.new.self u.seen (u.count (mid_parts g.S.Folder.Folder.has g.S.Folder.Folder.faults g.S.Folder.Shelf.Shelf.kept n l m p s.jobs.items v can ch)) u.doubts u.few c.unseat.ensures.change
