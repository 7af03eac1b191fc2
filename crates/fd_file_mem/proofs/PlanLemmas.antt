-- The calls of one file among those of all.
use Rattle.std.proofs.Common.{◌≡◌, inl, inr, Bool, if◌then◌else◌, ℕ, List, [], ◌∷◌, ◌++◌, refl, sym, ◌∙◌, ap, string_bytes}
use Rattle.std.specs.Str.{bytes_eq}
use Rattle.fd_disk.proofs.NameLemmas.{is_or_not}
use Rattle.fd_file_mem.specs.Plans.{fails_of}
use Rattle.fd_file_mem.specs.declared.plan.Fail.{Fail}
use Rattle.fd_file_mem.specs.declared.plan.Planned.{Planned}

abbrev one : List ℕ → Planned → List Fail → List Fail
one file p fs = if bytes_eq (string_bytes p.file) file then record { op = p.op; nth = p.nth } ∷ fs else fs

one_join : (file : List ℕ) (p : Planned) (a b : List Fail) → one file p (a ++ b) ≡ one file p a ++ b
one_join file p a b = elim (is_or_not (bytes_eq (string_bytes p.file) file)) [
  | inl is ↦ ap (λ (t : Bool). if t then record { op = p.op; nth = p.nth } ∷ (a ++ b) else a ++ b) is ∙ sym (ap (λ (t : Bool). (if t then record { op = p.op; nth = p.nth } ∷ a else a) ++ b) is)
  | inr out ↦ ap (λ (t : Bool). if t then record { op = p.op; nth = p.nth } ∷ (a ++ b) else a ++ b) out ∙ sym (ap (λ (t : Bool). (if t then record { op = p.op; nth = p.nth } ∷ a else a) ++ b) out)
]

pub fails_join : (file : List ℕ) (ps qs : List Planned) → fails_of file (ps ++ qs) ≡ fails_of file ps ++ fails_of file qs
fails_join file [] qs = refl
fails_join file (p ∷ ps) qs = ap (one file p) (fails_join file ps qs) ∙ one_join file p (fails_of file ps) (fails_of file qs)

-- the calls of the list's first stand before the others
pub fails_first : (file : List ℕ) (p : Planned) (ps : List Planned) → fails_of file (p ∷ []) ++ fails_of file ps ≡ fails_of file (p ∷ ps)
fails_first file p ps = sym (fails_join file (p ∷ []) ps)
