use Rattle.std.proofs.Common.{rules, ◌≡◌, ◌∙◌, ◌<◌, ℕ, sym, ap, subst, All, length, get_or}
use Rattle.fd_bulk.specs.Crewing.{FinishedAs}
use Rattle.fd_bulk.specs.Halting.{Each, Halted, IsQuiet}
use Rattle.fd_shares.specs.Sharing.{CanListAll, Listed}
use Rattle.fd_bulk.proofs.Ran.{can_list, each_by, finished}
use Rattle.fd_bulk.proofs.Turns.{written, written_twice}
use Rattle.fd_bulk.proofs.crew.Crew.list_all.Goals as goal

pub list_round-requires-clause-can : goal.list_round-requires-clause-can
list_round-requires-clause-can g c κs within =
    let js = c.args.self.now.jobs.items in
    subst (λ xs. All (CanListAll g.S.Folder.Shelf.Shelf.kept c.datasets.result.now) xs) (sym c.as_mut_slice.ensures.value)
    (subst (λ bs. All (CanListAll g.S.Folder.Shelf.Shelf.kept bs) js) (sym c.datasets.ensures) (λ i e lt. can_list g.S.Folder.Folder.has g.S.Folder.Shelf.Shelf.kept c.args.library.now c.args.self.now.passes.items js c.requires.can i e lt))

pub returns-clause-lists : goal.returns-clause-lists
returns-clause-lists g c =
    let s = c.args.self.now in
    let l = c.args.library.now in
    let js = s.jobs.items in
    let ks = c.list_round.new.jobs in
    let ms = c.halted.new.jobs in
    let value = c.as_mut_slice.ensures.value in
    let is : c.args.self.now.jobs.len ≡ length c.args.self.now.jobs.items = search rules in
    let long = c.list_round.ensures.long ∙ ap length value in
    let one = subst (λ bs. (i : ℕ) (e : _) → i < length c.as_mut_slice.result.now → Listed g.S.Folder.Shelf.Shelf.kept bs (get_or c.as_mut_slice.result.now i e) (get_or ks i e)) c.datasets.ensures c.list_round.ensures.listed in
    let two = subst (λ xs. (i : ℕ) (e : _) → i < length xs → Listed g.S.Folder.Shelf.Shelf.kept l.boards (get_or xs i e) (get_or ks i e)) value one in
    let each = each_by (λ i j k. Listed g.S.Folder.Shelf.Shelf.kept l.boards j k) js ks long two in
    let same = c.as_mut_slice-2.ensures.value ∙ written js ks s.jobs.len is long in
    let quiet = subst (λ xs. Each (λ i. IsQuiet) xs ms) same c.halted.ensures.quiet in
    let halted = subst (λ xs. Halted xs c.halted.result) same c.halted.ensures.halted in
    λ start now lost all crewed. subst (λ xs. FinishedAs g.S.Folder.Folder.has g.S.Folder.Shelf.Shelf.kept start now lost all c.halted.result l s.passes.items xs) (sym (written_twice js ks ms s.jobs.len is long quiet.long))
    (finished g.S.Folder.Folder.has g.S.Folder.Shelf.Shelf.kept start now lost l s.passes.items js ks ms all crewed quiet each c.halted.result halted)
