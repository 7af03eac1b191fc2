-- What a shelf keeps once it took the two files of a batch.
use Rattle.std.proofs.Common.{◌≡◌, ◌≢◌, ◌&&◌, ◌==◌, if◌then◌else◌, ℕ, Bool, true, false, List, refl, sym, ap, ◌∙◌, subst, arith, Option, Some, None, IfSome, IsSome, is_some}
use Rattle.std.proofs.lemmas.Bool.Decides.{nat_tests}
use Rattle.fd_disk.specs.declared.folders.FileName.{FileName}
use Rattle.fd_disk.specs.declared.folders.FileKind.{FileKind}
use Rattle.fd_disk.specs.declared.folders.FileKind.TheVariants.{Fields, Index}
use Rattle.fd_disk.specs.Names.{name_of, same_kind, same_name}
use Rattle.fd_disk.specs.Folders.{keeping}
use Rattle.fd_disk.proofs.NameLemmas.{same_name_refl}
use Rattle.fd_entries.specs.declared.batch.Pair.{Pair}
use Rattle.fd_segment.specs.Held.{Files, Standing, batch_of, batch_told}
use Rattle.fd_archiver.specs.Flushing.{KeepsOthers}
use Rattle.fd_archiver.specs.Writing.{IsKept}

-- these files with the two of a batch
abbrev pub with_both : ℕ → ℕ → Option (List ℕ) → Option (List ℕ) → Option (FileName → Option (List ℕ)) → Option (FileName → Option (List ℕ))
with_both w q index fields kept = keeping (name_of w q Index) index (keeping (name_of w q Fields) fields kept)

pub told_files : (f : Files) → IsSome (batch_of f) → IsSome f.index × IsSome f.fields
unfolding batch_of
told_files f h = go f.index f.fields h
  where
    go : (index fields : Option (List ℕ)) → IsSome (batch_told f.entry index fields) → IsSome index × IsSome fields
    go (Some x) (Some y) told = (refl, refl)
    go (Some x) None told = absurd (cc told)
    go None y told = absurd (cc told)

pub told_both : (w q : ℕ) (index fields : Option (List ℕ)) (kept : Option (FileName → Option (List ℕ))) → (is_some kept ≡ true → IsSome index × IsSome fields) → is_some (with_both w q index fields kept) ≡ is_some kept
told_both w q (Some x) (Some y) (Some files) h = refl
told_both w q (Some x) (Some y) None h = refl
told_both w q (Some x) None None h = refl
told_both w q (Some x) None (Some files) h = absurd (cc (h refl).1)
told_both w q None y None h = refl
told_both w q None y (Some files) h = absurd (cc (h refl).0)

and_false : (b : Bool) → (b && false) ≡ false
and_false true = refl
and_false false = refl

pick : {A : Type 0} (b c : Bool) (x y z : A) → b ≡ false → c ≡ true → (if b then x else if c then y else z) ≡ y
pick b c x y z off on = ap (λ (d : Bool). if d then x else if c then y else z) off ∙ ap (λ (d : Bool). if d then y else z) on

pub kept_both : (w q : ℕ) (index fields : Option (List ℕ)) (kept : Option (FileName → Option (List ℕ))) → IfSome (with_both w q index fields kept) (λ files. (files (name_of w q Fields) ≡ fields) × (files (name_of w q Index) ≡ index))
kept_both w q (Some x) (Some y) (Some files) = (
  pick (same_name (name_of w q Index) (name_of w q Fields)) (same_name (name_of w q Fields) (name_of w q Fields)) (Some x) (Some y) (files (name_of w q Fields)) (and_false ((w == w) && (q == q))) (same_name_refl (name_of w q Fields)),
  ap (λ (d : Bool). if d then Some x else if same_name (name_of w q Fields) (name_of w q Index) then Some y else files (name_of w q Index)) (same_name_refl (name_of w q Index)),
)
kept_both w q (Some x) (Some y) None = tt
kept_both w q (Some x) None kept = tt
kept_both w q None y kept = tt

other_seq : (a b : FileName) → b.seq ≢ a.seq → same_name a b ≡ false
other_seq a b differs = grind (arith, nat_tests, differs)

none : {A : Type 0} (b c : Bool) (x y z : A) → b ≡ false → c ≡ false → (if b then x else if c then y else z) ≡ z
none b c x y z off neither = ap (λ (d : Bool). if d then x else if c then y else z) off ∙ ap (λ (d : Bool). if d then y else z) neither

pub others_both : (w q : ℕ) (index fields : Option (List ℕ)) (kept : Option (FileName → Option (List ℕ))) → (is_some kept ≡ true → IsSome index × IsSome fields) → KeepsOthers q kept (with_both w q index fields kept)
others_both w q (Some x) (Some y) (Some files) h = λ n differs. none (same_name (name_of w q Index) n) (same_name (name_of w q Fields) n) (Some x) (Some y) (files n) (other_seq (name_of w q Index) n differs) (other_seq (name_of w q Fields) n differs)
others_both w q (Some x) (Some y) None h = tt
others_both w q (Some x) None None h = tt
others_both w q (Some x) None (Some files) h = absurd (cc (h refl).1)
others_both w q None y None h = tt
others_both w q None y (Some files) h = absurd (cc (h refl).0)

pub others_same : (q : ℕ) (kept : Option (FileName → Option (List ℕ))) → KeepsOthers q kept kept
others_same q (Some files) = λ n differs. refl
others_same q None = tt

-- the same, where the shelf is seen before and after
pub others_kept : (number w q : ℕ) (index fields : Option (List ℕ)) (before after : Option (FileName → Option (List ℕ))) → number ≡ q → after ≡ with_both w q index fields before → (is_some before ≡ true → IsSome index × IsSome fields) → KeepsOthers number before after
others_kept number w q index fields before after same is told = subst (λ (k : ℕ). KeepsOthers k before after) (sym same) (subst (λ (x : Option (FileName → Option (List ℕ))). KeepsOthers q before x) (sym is) (others_both w q index fields before told))

pub told_kept : (w q : ℕ) (index fields : Option (List ℕ)) (before after : Option (FileName → Option (List ℕ))) → after ≡ with_both w q index fields before → (is_some before ≡ true → IsSome index × IsSome fields) → is_some after ≡ is_some before
told_kept w q index fields before after is told = ap (λ (x : Option (FileName → Option (List ℕ))). is_some x) is ∙ told_both w q index fields before told

pub kept_now : (w : ℕ) (s : Standing) (before after : Option (FileName → Option (List ℕ))) → s.files.entry.writer ≡ w → after ≡ with_both w s.files.entry.seq s.files.index s.files.fields before → IsKept after s
kept_now w s before after writer is =
    let same : after ≡ with_both s.files.entry.writer s.files.entry.seq s.files.index s.files.fields before = is ∙ ap (λ (x : ℕ). with_both x s.files.entry.seq s.files.index s.files.fields before) (sym writer) in
    subst (λ (x : Option (FileName → Option (List ℕ))). IsKept x s) (sym same) (kept_both s.files.entry.writer s.files.entry.seq s.files.index s.files.fields before)
