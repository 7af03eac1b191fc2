-- Drafts and segments of one owner, and the files that a shelf created for it.
use Rattle.std.proofs.Common.{◌≡◌, ◌≢◌, ◌⊎◌, inl, inr, ◌+◌, ◌<◌, ◌≤◌, ℕ, Bool, true, false, List, [], refl, sym, ap, ◌∙◌, subst, arith, Option, Some, None, IfSome}
use Rattle.fd_disk.specs.declared.folders.FileName.{FileName}
use Rattle.fd_disk.specs.declared.folders.FileKind.{FileKind}
use Rattle.fd_disk.specs.declared.folders.FileKind.TheVariants.{Fields, Index}
use Rattle.fd_disk.specs.Names.{name_of}
use Rattle.fd_entries.specs.declared.batch.Pair.{Pair}
use Rattle.fd_segment.specs.Filling.{Filling, Puts}
use Rattle.fd_segment.specs.Held.{Standing}
use Rattle.fd_archiver.specs.Whole.{Created, CreatedBy, IsDraftOf, IsNextOf, IsSegmentOf, IsWhole, Owner}
use Rattle.fd_archiver.specs.Writing.{IsPendingIn}

true_or_false : (b : Bool) → (b ≡ true) ⊎ (b ≡ false)
true_or_false true = inl refl
true_or_false false = inr refl

-- nothing was created under a number that is greater than each used one
pub not_created : (w last : ℕ) (created : FileName → Bool) (number : ℕ) (kind : FileKind) → Created w last created → last < number → created (name_of w number kind) ≡ false
not_created w last created number kind all greater = elim (true_or_false (created (name_of w number kind))) [
  | inl here ↦ let used = (all (name_of w number kind) here).used in absurd (omega (arith, used, greater))
  | inr away ↦ away
]

-- two files more, under this number
pub created_two : (w last number : ℕ) (created after : FileName → Bool) → Created w last created → last ≤ number
    → ((n : FileName) → after n ≡ true → (created n ≡ true) ⊎ ((n ≡ name_of w number Fields) ⊎ (n ≡ name_of w number Index)))
    → Created w number after
created_two w last number created after all up only n is = elim (only n is) [
  | inl before ↦ record { writer_is = (all n before).writer_is; used = let used = (all n before).used in omega (arith, used, up) }
  | inr (inl fields) ↦ record { writer_is = ap (λ (m : FileName). m.writer) fields; used = let same = ap (λ (m : FileName). m.seq) fields in omega (arith, same) }
  | inr (inr index) ↦ record { writer_is = ap (λ (m : FileName). m.writer) index; used = let same = ap (λ (m : FileName). m.seq) index in omega (arith, same) }
]

-- files of a number that was used
pub created_again : (w v last number : ℕ) (created after : FileName → Bool) → v ≡ w → Created w last created → number ≤ last
    → ((n : FileName) → after n ≡ true → (created n ≡ true) ⊎ ((n ≡ name_of v number Fields) ⊎ (n ≡ name_of v number Index)))
    → Created w last after
created_again w v last number created after same all used only n is = elim (only n is) [
  | inl before ↦ all n before
  | inr (inl fields) ↦ record { writer_is = ap (λ (m : FileName). m.writer) fields ∙ same; used = let at = ap (λ (m : FileName). m.seq) fields in omega (arith, at, used) }
  | inr (inr index) ↦ record { writer_is = ap (λ (m : FileName). m.writer) index ∙ same; used = let at = ap (λ (m : FileName). m.seq) index in omega (arith, at, used) }
]

-- the same owner, who has used more numbers
abbrev pub using : Owner → ℕ → Owner
using o last = record o { last = last }

draft_later : (o : Owner) (last : ℕ) (d : Filling) → o.last ≤ last → IsDraftOf o d → IsDraftOf (using o last) d
draft_later o last d up is = record { writer = is.writer; dataset = is.dataset; told = is.told; seq = let s = is.seq in omega (arith, s, up); keys = is.keys; bytes = is.bytes }

segment_later : (o : Owner) (last n : ℕ) (s : Standing) → IsSegmentOf o n s → IsSegmentOf (using o last) n s
segment_later o last n s is = record { writer = is.writer; dataset = is.dataset; index = is.index; fields = is.fields; earlier = is.earlier }

-- a number more was used, and no draft made
pub whole_later : (o : Owner) (last : ℕ) (d : Filling) (u : Option Standing) → o.last ≤ last → IsWhole o d None u → IsWhole (using o last) d None u
whole_later o last d None up is = record { draft_of = draft_later o last d up is.draft_of; next_of = tt; segment_of = tt; pairs = is.pairs; pending = is.pending }
whole_later o last d (Some s) up is = record { draft_of = draft_later o last d up is.draft_of; next_of = tt; segment_of = segment_later o last d.origin.seq s is.segment_of; pairs = is.pairs; pending = is.pending }

-- and a draft was made
pub whole_next : (o : Owner) (last : ℕ) (d e : Filling) (u : Option Standing) → o.last < last → IsDraftOf (using o last) e → e.origin.seq ≡ last → Puts e [] → IsWhole o d None u → IsWhole (using o last) d (Some e) u
whole_next o last d e u up new at empty is =
    let w = whole_later o last d u (omega (arith, up)) is in
    let s = is.draft_of.seq in
    record { draft_of = w.draft_of; next_of = record { draft = new; empty = empty; later = omega (arith, s, up, at) }; segment_of = w.segment_of; pairs = w.pairs; pending = w.pending }
