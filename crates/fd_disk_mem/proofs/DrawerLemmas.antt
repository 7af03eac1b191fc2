-- What lies in the drawers.
use Rattle.std.proofs.Common.{◌≡◌, inl, inr, ℕ, ◌||◌, Bool, true, false, if◌then◌else◌, List, [], ◌∷◌, Some, None, option_map, refl, sym, ◌∙◌, ap, subst}
use Rattle.fd_disk.specs.declared.folders.FileName.{FileName}
use Rattle.fd_disk.specs.Folders.{Contents, HasBack}
use Rattle.fd_disk.specs.Names.{same_name}
use Rattle.fd_disk.proofs.NameLemmas.{is_or_not, same_name_is}
use Rattle.fd_disk_mem.specs.declared.drawers.Kept.{Kept}
use Rattle.fd_disk_mem.specs.Drawers.{bytes_among, is_named}

-- a file that isn't named has no bytes
pub unnamed : (ks : List Kept) (n : FileName) → is_named ks n ≡ false → bytes_among ks n ≡ None
unnamed [] n is = refl
unnamed (k ∷ ks) n is = elim (is_or_not (same_name k.name n)) [
  | inl same ↦ absurd (cc (sym (ap (λ (b : Bool). b || is_named ks n) same) ∙ is))
  | inr other ↦ ap (λ (b : Bool). if b then option_map (λ v. v.items) k.bytes else bytes_among ks n) other ∙ unnamed ks n (sym (ap (λ (b : Bool). b || is_named ks n) other) ∙ is)
]

pub named : (ks : List Kept) (n : FileName) (bytes : List ℕ) → bytes_among ks n ≡ Some bytes → is_named ks n ≡ true
named ks n bytes is = elim (is_or_not (is_named ks n)) [
  | inl here ↦ here
  | inr out ↦ absurd (cc (unnamed ks n out, is))
]

-- a new name without bytes
pub created_adds : (ks : List Kept) (k : Kept) (m : FileName) → k.bytes ≡ None → is_named ks k.name ≡ false → bytes_among (k ∷ ks) m ≡ bytes_among ks m
created_adds ks k m none new = elim (is_or_not (same_name k.name m)) [
  | inl same ↦
      let name : k.name ≡ m = same_name_is k.name m same in
      ap (λ (b : Bool). if b then option_map (λ v. v.items) k.bytes else bytes_among ks m) same
      ∙ ap (option_map (λ v. v.items)) none
      ∙ sym (unnamed ks m (subst (λ (n : FileName). is_named ks n ≡ false) name new))
  | inr other ↦ ap (λ (b : Bool). if b then option_map (λ v. v.items) k.bytes else bytes_among ks m) other
]

pub files_kept : (ks later : List Kept) (k : Kept) → later ≡ k ∷ ks → k.bytes ≡ None → is_named ks k.name ≡ false → bytes_among later ≡ bytes_among ks
files_kept ks later k is none new = ap bytes_among is ∙ (λ j m. created_adds ks k m none new j)

-- a drawer that is laid upon the others
pub laid : (ks : List Kept) (old new : Contents) → new.table ≡ old.table → ((n : FileName) → new.files n ≡ (if is_named ks n then bytes_among ks n else old.files n)) → HasBack old new (bytes_among ks) (is_named ks)
laid ks old new table is = record {
  table = table;
  kept_are = λ n bytes here. is n ∙ ap (λ (b : Bool). if b then bytes_among ks n else old.files n) (named ks n bytes here) ∙ here;
  others = λ n out. is n ∙ ap (λ (b : Bool). if b then bytes_among ks n else old.files n) out;
}
