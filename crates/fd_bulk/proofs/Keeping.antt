-- A folder that was looked into, time after time.
use Rattle.std.proofs.Common.{◌≡◌, ◌∙◌, inl, inr, ℕ, List, Option, Some, None, refl, sym, ap, subst, unwrap_or}
use Rattle.std.specs.Prelude.{Ok, []}
use Rattle.std.specs.Str.{bytes_eq}
use Rattle.std.proofs.lemmas.Slice.Eq.{bytes_eq-Decides}
use Rattle.fd_disk.specs.declared.file.File.{File}
use Rattle.fd_disk.specs.Folders.{Contents, Holdings, folder_at, no_contents}
use Rattle.fd_disk.specs.Images.{IsImage, firm_file, synced}
use Rattle.fd_disk.proofs.NameLemmas.{is_or_not}
use Rattle.fd_entries.specs.Table.{listed}
use Rattle.fd_library.specs.Stores.{KeepsFolder, KeepsTable, LooksInto}

table_same : (name : List ℕ) (o : Option File) → KeepsTable name o o
table_same name None = tt
table_same name (Some f) = inl refl

table_then : (name : List ℕ) (a b c : Option File) → KeepsTable name a b → KeepsTable name b c → KeepsTable name a c
table_then name None None c p q = q
table_then name None (Some g) None p q = absurd q
table_then name None (Some g) (Some k) p (inl e) = subst (λ (x : File). (x ≡ firm_file x.reads) × (listed name x.reads ≡ Ok [])) (sym e) p
table_then name None (Some g) (Some k) p (inr (e, image)) = subst (λ (x : File). (x ≡ firm_file x.reads) × (listed name x.reads ≡ Ok [])) (sym e) (refl, p.1)
table_then name (Some f) None c p q = absurd p
table_then name (Some f) (Some g) None p q = absurd q
table_then name (Some f) (Some g) (Some k) (inl d) (inl e) = inl (e ∙ d)
table_then name (Some f) (Some g) (Some k) (inl d) (inr (e, image)) = inr (e ∙ ap synced d, subst (λ (x : File). IsImage x x.reads) d image)
table_then name (Some f) (Some g) (Some k) (inr (d, image)) (inl e) = inr (e ∙ d, image)
table_then name (Some f) (Some g) (Some k) (inr (d, image)) (inr (e, after)) = inr (e ∙ ap synced d, image)

pub keeps_same : (name : List ℕ) (v : Contents) → KeepsFolder name v v
keeps_same name v = record { files = refl; table = table_same name v.table }

pub keeps_then : (name : List ℕ) (u v w : Contents) → KeepsFolder name u v → KeepsFolder name v w → KeepsFolder name u w
keeps_then name u v w a b = record { files = b.files ∙ a.files; table = table_then name u.table v.table w.table a.table b.table }

-- a folder that wasn't touched keeps what it kept
pub keeps_on : (name : List ℕ) (s b t : Holdings) → t.folders name ≡ b.folders name → KeepsFolder name (folder_at s name) (folder_at b name) → KeepsFolder name (folder_at s name) (folder_at t name)
keeps_on name s b t same k = subst (λ (o : Option Contents). KeepsFolder name (folder_at s name) (unwrap_or o no_contents)) (sym same) k

-- a store into one of whose folders was looked keeps each
pub keeps_looked : (name n : List ℕ) (s b t : Holdings) → LooksInto name b t → KeepsFolder n (folder_at s n) (folder_at b n) → KeepsFolder n (folder_at s n) (folder_at t n)
keeps_looked name n s b t looks k = elim (is_or_not (bytes_eq n name)) as (λ _. KeepsFolder n (folder_at s n) (folder_at t n)) [
  | inl same ↦
      let one : n ≡ name = (bytes_eq-Decides n name).0 same in
      let here : KeepsFolder n (folder_at b n) (folder_at t n) = subst (λ (m : List ℕ). KeepsFolder m (folder_at b m) (folder_at t m)) (sym one) looks.folder in
      keeps_then n (folder_at s n) (folder_at b n) (folder_at t n) k here
  | inr differs ↦ keeps_on n s b t (looks.others n differs) k
]
