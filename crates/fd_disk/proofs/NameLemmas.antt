-- Two names are one where their parts are.
use Rattle.std.proofs.Common.{◌≡◌, ◌⊎◌, inl, inr, ◌&&◌, ◌==◌, Bool, true, false, refl, ◌∙◌, ap}
use Rattle.std.proofs.lemmas.Bool.Decides.{Decides-eqb}
use Rattle.fd_disk.specs.declared.folders.FileKind.{FileKind}
use Rattle.fd_disk.specs.declared.folders.FileKind.TheVariants.{Fields, Index}
use Rattle.fd_disk.specs.declared.folders.FileName.{FileName}
use Rattle.fd_disk.specs.Names.{same_kind, same_name}

pub is_or_not : (b : Bool) → (b ≡ true) ⊎ (b ≡ false)
is_or_not true = inl refl
is_or_not false = inr refl

pub both_true : (x y : Bool) → (x && y) ≡ true → (x ≡ true) × (y ≡ true)
both_true true true is = (refl, refl)
both_true true false is = absurd (cc is)
both_true false y is = absurd (cc is)

kind_is : (x y : FileKind) → same_kind x y ≡ true → x ≡ y
kind_is Fields Fields is = refl
kind_is Index Index is = refl
kind_is Fields Index is = absurd (cc is)
kind_is Index Fields is = absurd (cc is)

kind_same : (x : FileKind) → same_kind x x ≡ true
kind_same Fields = refl
kind_same Index = refl

pub same_name_is : (a b : FileName) → same_name a b ≡ true → a ≡ b
same_name_is a b is =
    let parts = both_true ((a.writer == b.writer) && (a.seq == b.seq)) (same_kind a.kind b.kind) is in
    let numbers = both_true (a.writer == b.writer) (a.seq == b.seq) parts.0 in
    let w : a.writer ≡ b.writer = (Decides-eqb a.writer b.writer).0 numbers.0 in
    let s : a.seq ≡ b.seq = (Decides-eqb a.seq b.seq).0 numbers.1 in
    let k : a.kind ≡ b.kind = kind_is a.kind b.kind parts.1 in
    λ j. record { writer = w j; seq = s j; kind = k j }

pub same_name_refl : (a : FileName) → same_name a a ≡ true
same_name_refl a =
    ap (λ (b : Bool). (b && (a.seq == a.seq)) && same_kind a.kind a.kind) ((Decides-eqb a.writer a.writer).1 refl)
    ∙ ap (λ (b : Bool). b && same_kind a.kind a.kind) ((Decides-eqb a.seq a.seq).1 refl)
    ∙ kind_same a.kind
