-- What a store tells, from one call to the next.
use Rattle.std.proofs.Common.{arith, ◌≡◌, ◌≤◌, inl, inr, ℕ, Bool, true, false, ◌||◌, List, [], ◌∷◌, Option, Some, None, if◌then◌else◌, refl, sym, ap, ◌∙◌}
use Rattle.std.specs.Prelude.{Result, Ok, Err, is_some}
use Rattle.std.specs.Str.{bytes_eq}
use Rattle.fd_bytes.specs.Causes.{Rose}
use Rattle.fd_disk.specs.Folders.{Contents, Holdings, WhereTold}
use Rattle.fd_library.specs.Open.{OpenDataset, among, names_of}
use Rattle.fd_disk.proofs.NameLemmas.{is_or_not}
use Rattle.fd_bulk.specs.Archived.{OnDisk}
use Rattle.fd_bulk.specs.declared.bulk.Bulk.{Bulk}
use Rattle.fd_bulk.specs.declared.bulk.BulkFault.{BulkFault}
use Rattle.fd_bulk.specs.declared.bulk.BulkFault.TheVariants as faults
use Rattle.fd_library.specs.Stores.{held_in, held_of, held_with}

pub through : {A B C : Type 0} (a : Option A) (b : Option B) (c : Option C) (P : A → B → Type 0) (Q : B → C → Type 0) (R : A → C → Type 0) → WhereTold a b P → WhereTold b c Q → ((x : A) (y : B) (z : C) → P x y → Q y z → R x z) → WhereTold a c R
through None None None P Q R p q f = tt
through None None (Some z) P Q R p q f = absurd q
through None (Some y) c P Q R p q f = absurd p
through (Some x) None c P Q R p q f = absurd p
through (Some x) (Some y) None P Q R p q f = absurd q
through (Some x) (Some y) (Some z) P Q R p q f = f x y z p q

pub as_told : {A B : Type 0} (a : Option A) (b : Option B) (P : A → B → Type 0) → WhereTold a b P → is_some b ≡ is_some a
as_told None None P p = refl
as_told None (Some y) P p = absurd p
as_told (Some x) None P p = absurd p
as_told (Some x) (Some y) P p = refl

pub where_told : {A B : Type 0} (a : Option A) (b : Option B) (P Q : A → B → Type 0) → ((x : A) (y : B) → P x y → Q x y) → WhereTold a b P → WhereTold a b Q
where_told None None P Q f p = tt
where_told None (Some y) P Q f p = absurd p
where_told (Some x) None P Q f p = absurd p
where_told (Some x) (Some y) P Q f p = f x y p

pub both_told : {A B : Type 0} (a : Option A) (b : Option B) (P Q R : A → B → Type 0) → ((x : A) (y : B) → P x y → Q x y → R x y) → WhereTold a b P → WhereTold a b Q → WhereTold a b R
both_told None None P Q R f p q = tt
both_told None (Some y) P Q R f p q = absurd p
both_told (Some x) None P Q R f p q = absurd p
both_told (Some x) (Some y) P Q R f p q = f x y p q

-- a dataset that isn't open holds what the store holds
pub held_outside : {D : Type 0} (has : D → Option Contents) (hs : List (OpenDataset D)) (s : Holdings) (n : List ℕ) → among n (names_of hs) ≡ false → held_with has hs s n ≡ held_of s n
held_outside has [] s n out = refl
held_outside has (h ∷ hs) s n out = elim (is_or_not (bytes_eq n h.name)) as (λ _. held_with has (h ∷ hs) s n ≡ held_of s n) [
  | inl e ↦ absurd (cc (sym (ap (λ (b : Bool). b || among n (names_of hs)) e) ∙ out))
  | inr e ↦ ap (λ (b : Bool). if b then held_in has h else held_with has hs s n) e ∙ held_outside has hs s n (sym (ap (λ (b : Bool). b || among n (names_of hs)) e) ∙ out)
]

-- one that is open holds what its folder and its pass hold
pub held_inside : {D : Type 0} (has : D → Option Contents) (h : OpenDataset D) (hs : List (OpenDataset D)) (s : Holdings) (n : List ℕ) → bytes_eq n h.name ≡ true → held_with has (h ∷ hs) s n ≡ held_in has h
held_inside has h hs s n e = ap (λ (b : Bool). if b then held_in has h else held_with has hs s n) e

-- ---- faults that come later

pub rose_later : (first second last : ℕ) → first ≤ second → Rose second last → Rose first last
rose_later first second last le rose = λ small. let lt = rose small in omega (arith, le, lt)

pub rose_before : (first second last : ℕ) → second ≤ last → Rose first second → Rose first last
rose_before first second last le rose = λ small. let lt = rose (omega (arith, le, small)) in omega (arith, le, lt)

-- what is said of a fault of the store is said of what follows from it
pub on_disk : {X : Type 0} (r : Result Bulk (BulkFault X)) (P Q : Type 0) → (P → Q) → OnDisk r P → OnDisk r Q
on_disk (Ok bulk) P Q f p = tt
on_disk (Err (faults.Input e)) P Q f p = tt
on_disk (Err (faults.Message at)) P Q f p = tt
on_disk (Err (faults.NoMap number field)) P Q f p = tt
on_disk (Err (faults.Cut t)) P Q f p = tt
on_disk (Err (faults.Key number e)) P Q f p = tt
on_disk (Err (faults.NoRule number text)) P Q f p = tt
on_disk (Err faults.Disk) P Q f p = f p
on_disk (Err (faults.NotATable dataset at want found)) P Q f p = tt
on_disk (Err (faults.Damaged dataset damage)) P Q f p = tt
on_disk (Err (faults.TableFull count)) P Q f p = tt
on_disk (Err (faults.TooMany count)) P Q f p = tt
on_disk (Err faults.InputLimit) P Q f p = tt
on_disk (Err faults.NoMemory) P Q f p = tt
