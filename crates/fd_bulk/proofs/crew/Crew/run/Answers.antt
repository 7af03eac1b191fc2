use Rattle.std.proofs.Common.{rules, ◌≡◌, ◌∙◌, ◌<◌, ◌++◌, ℕ, sym, ap, subst, length, get_or}
use Rattle.fd_bulk.specs.Crewing.{RanAs}
use Rattle.fd_bulk.specs.Halting.{Each, Halted, IsQuiet}
use Rattle.fd_shares.specs.Sharing.{CanShare, Shared}
use Rattle.fd_bulk.proofs.Ran.{can_share, each_by, ran}
use Rattle.fd_bulk.proofs.Turns.{written, written_twice}
use Rattle.fd_bulk.proofs.crew.Crew.run.Goals as goal

pub run_rounds-requires-clause-can : goal.run_rounds-requires-clause-can
run_rounds-requires-clause-can g c κs within =
    let s = c.args.self.now in
    let l = c.args.library.now in
    subst (λ xs. (i : ℕ) (e : _) → i < length xs → CanShare g.S.Folder.Shelf.Shelf.kept c.datasets.result.now i c.as_mut_slice.result.now (get_or xs i e)) (sym c.as_mut_slice-2.ensures.value)
    (subst (λ ps. (i : ℕ) (e : _) → i < length s.jobs.items → CanShare g.S.Folder.Shelf.Shelf.kept c.datasets.result.now i ps (get_or s.jobs.items i e)) (sym c.as_mut_slice.ensures.value)
    (subst (λ bs. (i : ℕ) (e : _) → i < length s.jobs.items → CanShare g.S.Folder.Shelf.Shelf.kept bs i s.parcels.items (get_or s.jobs.items i e)) (sym c.datasets.ensures)
    (can_share g.S.Folder.Folder.has g.S.Folder.Shelf.Shelf.kept l s.passes.items s.jobs.items s.parcels.items c.requires.can)))

pub returns-clause-ran : goal.returns-clause-ran
returns-clause-ran g c =
    let s = c.args.self.now in
    let l = c.args.library.now in
    let js = s.jobs.items in
    let ks = c.run_rounds.new.jobs in
    let ms = c.halted.new.jobs in
    let value = c.as_mut_slice-2.ensures.value in
    let is : c.args.self.now.jobs.len ≡ length c.args.self.now.jobs.items = search rules in
    let long = c.run_rounds.ensures.long ∙ ap length value in
    let one = subst (λ bs. (i : ℕ) (e : _) → i < length c.as_mut_slice-2.result.now → Shared g.S.Folder.Shelf.Shelf.kept bs i c.as_mut_slice.result.now (get_or c.as_mut_slice-2.result.now i e) (get_or ks i e)) c.datasets.ensures c.run_rounds.ensures.shared in
    let two = subst (λ ps. (i : ℕ) (e : _) → i < length c.as_mut_slice-2.result.now → Shared g.S.Folder.Shelf.Shelf.kept l.boards i ps (get_or c.as_mut_slice-2.result.now i e) (get_or ks i e)) c.as_mut_slice.ensures.value one in
    let three = subst (λ xs. (i : ℕ) (e : _) → i < length xs → Shared g.S.Folder.Shelf.Shelf.kept l.boards i s.parcels.items (get_or xs i e) (get_or ks i e)) value two in
    let each = each_by (λ i j k. Shared g.S.Folder.Shelf.Shelf.kept l.boards i s.parcels.items j k) js ks long three in
    let same = c.as_mut_slice-3.ensures.value ∙ written js ks s.jobs.len is long in
    let quiet = subst (λ xs. Each (λ i. IsQuiet) xs ms) same c.halted.ensures.quiet in
    let halted = subst (λ xs. Halted xs c.halted.result) same c.halted.ensures.halted in
    λ start now lost all waiting crewed waits. subst (λ xs. RanAs g.S.Folder.Folder.has g.S.Folder.Shelf.Shelf.kept start now lost (all ++ waiting) c.halted.result l s.passes.items xs) (sym (written_twice js ks ms s.jobs.len is long quiet.long))
    (ran g.S.Folder.Folder.has g.S.Folder.Shelf.Shelf.kept start now lost l s.passes.items js ks ms all crewed quiet waiting s.parcels.items waits each c.halted.result halted)
