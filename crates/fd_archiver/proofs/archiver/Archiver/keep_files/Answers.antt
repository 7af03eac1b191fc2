use Rattle.std.proofs.Common.{◌≡◌, ap, ◌∙◌, sym, subst, Some}
use Rattle.std.specs.Arc.{arc_value}
use Rattle.fd_archiver.specs.Waiting.{waiting}
use Rattle.fd_archiver.specs.Flushing.{KeepsOthers}
use Rattle.fd_archiver.specs.Whole.{IsWhole}
use Rattle.fd_archiver.specs.Writing.{number_in}
use Rattle.fd_archiver.proofs.Keeping.{kept_now, others_kept, told_kept}
use Rattle.fd_archiver.proofs.Owning.{created_again}
use Rattle.fd_archiver.proofs.Sealing.{all_else, kept_at, waits_told, waits_used, whole_kept}
use Rattle.fd_archiver.proofs.archiver.Archiver.keep_files.Goals as goal

pub invariant_of-self-in-Ok-new : goal.invariant_of-self-in-Ok-new
invariant_of-self-in-Ok-new g c =
    let s = c.in-Sealed.segment in
    let was : waiting c.self.inside.unlisted ≡ Some s = ap (λ u. waiting u) (sym c.replace.ensures.value ∙ c.in-Sealed.is) in
    let whole = subst (IsWhole _ c.self.inside.draft c.self.inside.next) was c.self.invariant.2 in
    let told = waits_told _ _ _ s whole in
    let same : arc_value c.in-Ok-new.segment ≡ s = c.in-Ok-new.ensures.ok in (
      c.in-Ok.ensures.writer ∙ c.self.invariant.0,
      created_again _ _ _ s.files.entry.seq _ _ c.self.invariant.0 c.self.invariant.1 (waits_used _ _ _ s whole) c.in-Ok.ensures.created,
      whole_kept _ _ _ _ _ _ _ _ _ _ _ _ c.in-Ok.ensures.name (told_kept _ _ _ _ _ _ c.in-Ok.ensures.ok told) (ap Some same ∙ sym was) c.self.invariant.2,
      λ came. kept_at _ s _ (ap Some same) (kept_now _ s _ _ (whole.segment_of.writer ∙ sym c.self.invariant.0) c.in-Ok.ensures.ok),
    )

pub invariant_of-self-in-Err : goal.invariant_of-self-in-Err
invariant_of-self-in-Err g c =
    let s = c.in-Sealed.segment in
    let was : waiting c.self.inside.unlisted ≡ Some s = ap (λ u. waiting u) (sym c.replace.ensures.value ∙ c.in-Sealed.is) in
    let whole = subst (IsWhole _ c.self.inside.draft c.self.inside.next) was c.self.invariant.2 in
    let told = waits_told _ _ _ s whole in (
      c.in-Ok.ensures.writer ∙ c.self.invariant.0,
      created_again _ _ _ s.files.entry.seq _ _ c.self.invariant.0 c.self.invariant.1 (waits_used _ _ _ s whole) c.in-Ok.ensures.created,
      whole_kept _ _ _ _ _ _ _ _ _ _ _ _ c.in-Ok.ensures.name (told_kept _ _ _ _ _ _ c.in-Ok.ensures.ok told) (ap Some c.in-Err.ensures.value_returned ∙ sym was) c.self.invariant.2,
      λ came. absurd (cc came),
    )

pub returns-in-Ok-new-clause-others : goal.returns-in-Ok-new-clause-others
returns-in-Ok-new-clause-others g c =
    let s = c.in-Sealed.segment in
    let was : waiting c.self.inside.unlisted ≡ Some s = ap (λ u. waiting u) (sym c.replace.ensures.value ∙ c.in-Sealed.is) in
    let whole = subst (IsWhole _ c.self.inside.draft c.self.inside.next) was c.self.invariant.2 in
    let unlisted : c.args.self.now.unlisted ≡ Some s = ap (λ w. w.unlisted) (sym c.self.view_is) ∙ was in
    let shelf = ap (λ w. g.H.Shelf.kept w.shelf) (sym c.self.view_is) in
    subst (λ k. KeepsOthers (number_in c.args.self.now.unlisted c.args.self.now.draft) k (g.H.Shelf.kept c.keep.new.shelf)) (sym shelf)
    (others_kept _ _ s.files.entry.seq _ _ _ _ (ap (λ u. number_in u c.args.self.now.draft) unlisted) c.in-Ok.ensures.ok (waits_told _ _ _ s whole))

pub returns-in-Ok-new-clause-rest : goal.returns-in-Ok-new-clause-rest
returns-in-Ok-new-clause-rest g c =
    let s = c.in-Sealed.segment in
    let v = c.self.view_is in
    let was : waiting c.self.inside.unlisted ≡ Some s = ap (λ u. waiting u) (sym c.replace.ensures.value ∙ c.in-Sealed.is) in
    let whole = subst (IsWhole _ c.self.inside.draft c.self.inside.next) was c.self.invariant.2 in
    let told = told_kept _ _ _ _ _ _ c.in-Ok.ensures.ok (waits_told _ _ _ s whole) in
    all_else _ c.args.self.now (ap (λ w. w.writer) v) (c.in-Ok.ensures.name ∙ ap (λ w. w.dataset) v) (told ∙ ap (λ w. w.told) v) (ap (λ w. w.last) v) (ap (λ w. w.has_next) v) (ap (λ w. w.draft) v)
    (ap Some c.in-Ok-new.ensures.ok ∙ sym was ∙ ap (λ w. w.unlisted) v) (c.in-Ok.ensures.faults ∙ ap (λ w. w.shelf_faults) v)

pub returns-in-Err-clause-others : goal.returns-in-Err-clause-others
returns-in-Err-clause-others g c =
    let s = c.in-Sealed.segment in
    let was : waiting c.self.inside.unlisted ≡ Some s = ap (λ u. waiting u) (sym c.replace.ensures.value ∙ c.in-Sealed.is) in
    let whole = subst (IsWhole _ c.self.inside.draft c.self.inside.next) was c.self.invariant.2 in
    let unlisted : c.args.self.now.unlisted ≡ Some s = ap (λ w. w.unlisted) (sym c.self.view_is) ∙ was in
    let shelf = ap (λ w. g.H.Shelf.kept w.shelf) (sym c.self.view_is) in
    subst (λ k. KeepsOthers (number_in c.args.self.now.unlisted c.args.self.now.draft) k (g.H.Shelf.kept c.keep.new.shelf)) (sym shelf)
    (others_kept _ _ s.files.entry.seq _ _ _ _ (ap (λ u. number_in u c.args.self.now.draft) unlisted) c.in-Ok.ensures.ok (waits_told _ _ _ s whole))

pub returns-in-Err-clause-rest : goal.returns-in-Err-clause-rest
returns-in-Err-clause-rest g c =
    let s = c.in-Sealed.segment in
    let v = c.self.view_is in
    let was : waiting c.self.inside.unlisted ≡ Some s = ap (λ u. waiting u) (sym c.replace.ensures.value ∙ c.in-Sealed.is) in
    let whole = subst (IsWhole _ c.self.inside.draft c.self.inside.next) was c.self.invariant.2 in
    let told = told_kept _ _ _ _ _ _ c.in-Ok.ensures.ok (waits_told _ _ _ s whole) in
    all_else _ c.args.self.now (ap (λ w. w.writer) v) (c.in-Ok.ensures.name ∙ ap (λ w. w.dataset) v) (told ∙ ap (λ w. w.told) v) (ap (λ w. w.last) v) (ap (λ w. w.has_next) v) (ap (λ w. w.draft) v)
    (ap Some c.in-Err.ensures.value_returned ∙ sym was ∙ ap (λ w. w.unlisted) v) (c.in-Ok.ensures.faults ∙ ap (λ w. w.shelf_faults) v)
