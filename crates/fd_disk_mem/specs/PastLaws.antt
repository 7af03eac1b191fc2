-- What holds of the moments of a dataset in memory.
use Rattle.std.specs.Prelude.{◌≡◌, ◌⊎◌, ◌≤◌, ◌<◌, ◌+◌, ◌-◌, min, zero, suc, ℕ, List, length, Option, Some, None, option_map, refl}
use Rattle.std.proofs.Common.{inl, inr, subst, sym, ap, arith, ◌∙◌}
use Rattle.fd_disk.specs.declared.file.File.{File}
use Rattle.fd_disk.specs.declared.folders.FileName.{FileName}
use Rattle.fd_disk.specs.Folders.{Contents, Left, IsTableLeft, IsFolderImage}
use Rattle.fd_disk.specs.Images.{IsImage}
use Rattle.fd_disk.specs.Moments.{LeavesOnly, MayLeave}
use Rattle.fd_disk.specs.Renewals.{IsLeftBeside, IsLeftWith}
use Rattle.fd_file_mem.specs.Calls.{Memory, file_of}
use Rattle.fd_file_mem.specs.Past as calls
use Rattle.fd_file_mem.specs.declared.disk.MemDisk.{MemDisk}
use Rattle.fd_disk_mem.specs.Drawers.{below, bytes_in}
use Rattle.fd_disk_mem.specs.Slots.{contents_of}
use Rattle.fd_disk_mem.specs.declared.drawers.Drawers.{Drawers}
use Rattle.fd_disk_mem.specs.declared.past.Past.{Past, Start, Renewed', Removed'}
use Rattle.fd_disk_mem.specs.Pasts.{IsSince, IsTableSince, LeftFrom, begins, calls_of, clock, memory_of, moments, table_in}

-- no time lasts beyond its clock
pub ends : (p : Past) (table : Option Memory) (files : Drawers) (t : ℕ) (left : Left) → LeftFrom p table files t left → t ≤ clock p table
ends Start table files t left h = let u = h.upto in omega (arith, u)
ends (Renewed' d q rest) table files t left (inl h) = h.upto
ends (Renewed' d q rest) table files t left (inr h) = let u = ends rest (Some d.file) files t left h in omega (arith, u)
ends (Removed' d q rest) table files t left (inl h) = h.upto
ends (Removed' d q rest) table files t left (inr h) = let u = ends rest (memory_of d) (below files) t left h in omega (arith, u)

-- an image of now is one of each time that lasts until now
table_now : (first s t : ℕ) (table : Option Memory) (c : Option (List ℕ)) → IsTableLeft (option_map file_of table) c → IsTableSince first s t table c
table_now first s t None c is = is
table_now first s t (Some m) None is = is
table_now first s t (Some m) (Some c) is = calls.now_counts m (min (length m.calls) (first + (t - s))) c (omega arith) is

since_now : (first s t : ℕ) (table : Option Memory) (files : Drawers) (left : Left) → t ≤ s + (calls_of table - first)
    → IsTableLeft (option_map file_of table) left.table → ((n : FileName) → left.files n ≡ bytes_in files n) → IsSince first s t table files left
since_now first s t table files left le is same = record { upto = le; table_is = table_now first s t table left.table is; files_are = same }

pub now_from : (p : Past) (table : Option Memory) (files : Drawers) (t : ℕ) (left : Left) → t ≤ clock p table
    → IsTableLeft (option_map file_of table) left.table → ((n : FileName) → left.files n ≡ bytes_in files n) → LeftFrom p table files t left
now_from Start table files t left le is same = since_now 0 0 t table files left le is same
now_from (Renewed' d q rest) table files t left le is same = inl (since_now 0 (moments (Renewed' d q rest)) t table files left le is same)
now_from (Removed' d q rest) table files t left le is same = inl (since_now (begins (Removed' d q rest)) (moments (Removed' d q rest)) t table files left le is same)

-- since now there is nothing but images of now
pub record IsNow (table : Option Memory) (files : Drawers) (left : Left) : Type 0 where
  pub table_is : IsTableLeft (option_map file_of table) left.table
  pub files_are : (n : FileName) → left.files n ≡ bytes_in files n

table_only : (first s t : ℕ) (table : Option Memory) (c : Option (List ℕ)) → s + (calls_of table - first) ≤ t → IsTableSince first s t table c → IsTableLeft (option_map file_of table) c
table_only first s t None c le is = is
table_only first s t (Some m) None le is = is
table_only first s t (Some m) (Some c) le is =
    let same : min (length m.calls) (first + (t - s)) ≡ length m.calls = omega (arith, le) in
    calls.only_now m c (subst (λ (k : ℕ). calls.LeftSince m k c) same is)

since_only : (first s t : ℕ) (table : Option Memory) (files : Drawers) (left : Left) → s + (calls_of table - first) ≤ t → IsSince first s t table files left → IsNow table files left
since_only first s t table files left le is = record { table_is = table_only first s t table left.table le is.table_is; files_are = is.files_are }

pub only_from : (p : Past) (table : Option Memory) (files : Drawers) (t : ℕ) (left : Left) → clock p table ≤ t → LeftFrom p table files t left → IsNow table files left
only_from Start table files t left le h = since_only 0 0 t table files left le h
only_from (Renewed' d q rest) table files t left le (inl h) = since_only 0 (moments (Renewed' d q rest)) t table files left le h
only_from (Renewed' d q rest) table files t left le (inr h) = let u = ends rest (Some d.file) files t left h in absurd (omega (arith, u, le))
only_from (Removed' d q rest) table files t left le (inl h) = since_only (begins (Removed' d q rest)) (moments (Removed' d q rest)) t table files left le h
only_from (Removed' d q rest) table files t left le (inr h) = let u = ends rest (memory_of d) (below files) t left h in absurd (omega (arith, u, le))

-- what is left since a moment is left since each before it
table_earlier : (first s t u : ℕ) (table : Option Memory) (c : Option (List ℕ)) → u ≤ t → IsTableSince first s t table c → IsTableSince first s u table c
table_earlier first s t u None c le is = is
table_earlier first s t u (Some m) None le is = is
table_earlier first s t u (Some m) (Some c) le is = record {
  moment = is.moment;
  from = let f = is.from in omega (arith, f, le);
  upto = is.upto;
  image = is.image;
}

since_earlier : (first s t u : ℕ) (table : Option Memory) (files : Drawers) (left : Left) → u ≤ t → IsSince first s t table files left → IsSince first s u table files left
since_earlier first s t u table files left le is = record {
  upto = let f = is.upto in omega (arith, f, le);
  table_is = table_earlier first s t u table left.table le is.table_is;
  files_are = is.files_are;
}

pub earlier_from : (p : Past) (table : Option Memory) (files : Drawers) (t u : ℕ) (left : Left) → u ≤ t → LeftFrom p table files t left → LeftFrom p table files u left
earlier_from Start table files t u left le h = since_earlier 0 0 t u table files left le h
earlier_from (Renewed' d q rest) table files t u left le (inl h) = inl (since_earlier 0 (moments (Renewed' d q rest)) t u table files left le h)
earlier_from (Renewed' d q rest) table files t u left le (inr h) = inr (earlier_from rest (Some d.file) files t u left le h)
earlier_from (Removed' d q rest) table files t u left le (inl h) = inl (since_earlier (begins (Removed' d q rest)) (moments (Removed' d q rest)) t u table files left le h)
earlier_from (Removed' d q rest) table files t u left le (inr h) = inr (earlier_from rest (memory_of d) (below files) t u left le h)

-- while the table is out the clock goes on with it
pub ticks_told : (p : Past) (old new : MemDisk) → length old.file.calls ≤ length new.file.calls → clock p (Some old.file) ≤ clock p (Some new.file)
ticks_told p old new le = omega (arith, le)

le_or : (a b : ℕ) → (a ≤ b) ⊎ (b < a)
le_or zero b = inl (omega arith)
le_or (suc a) zero = inr (omega arith)
le_or (suc a) (suc b) = up (le_or a b)
  where
    up : (a ≤ b) ⊎ (b < a) → (suc a ≤ suc b) ⊎ (suc b < suc a)
    up (inl h) = inl (omega (arith, h))
    up (inr h) = inr (omega (arith, h))

-- of a table of which nothing was written since, a crash leaves what it left before, or what it leaves now
abbrev pub Quiet : MemDisk → MemDisk → Type 0
Quiet old new = LeavesOnly (λ (d : MemDisk). length d.file.calls) (λ (d : MemDisk). calls.LeftSince d.file) old new (MayLeave (Some (file_of old.file)))

since_from : (m : Memory) (t u : ℕ) (c : List ℕ) (h : calls.LeftSince m t c) → u ≤ h.moment → calls.LeftSince m u c
since_from m t u c h le = record { moment = h.moment; from = le; upto = h.upto; image = h.image }

table_quiet : (first s t a b : ℕ) (old new : MemDisk) (c : Option (List ℕ)) → a ≡ length old.file.calls → b ≡ length new.file.calls
    → Quiet old new → t ≤ s + (b - first)
    → IsTableSince first s t (Some new.file) c → ((t ≤ s + (a - first)) × IsTableSince first s t (Some old.file) c) ⊎ IsLeftWith (MayLeave (Some (file_of old.file))) c
table_quiet first s t a b old new None a_is b_is leaves le is = absurd is
table_quiet first s t a b old new (Some c) a_is b_is leaves le is = elim (le_or k (length old.file.calls)) [
  | inl within ↦ elim (leaves.before k c within is) [
    | inl here ↦ let f = here.from in let l = leaves.later in inl (omega (arith, within, le, a_is, b_is, l), since_from old.file k (min (length old.file.calls) (first + (t - s))) c here (omega (arith, f, within, l)))
    | inr now ↦ inr now
  ]
  | inr past ↦ let f = is.from in inr (leaves.each c (since_from new.file k (length old.file.calls) c is (omega (arith, f, past))))
]
  where
    k : ℕ
    k = min (length new.file.calls) (first + (t - s))

since_quiet : (first s t : ℕ) (old new : MemDisk) (files : Drawers) (left : Left)
    → Quiet old new
    → IsSince first s t (Some new.file) files left → IsSince first s t (Some old.file) files left ⊎ (IsLeftWith (MayLeave (Some (file_of old.file))) left.table × ((n : FileName) → left.files n ≡ bytes_in files n))
since_quiet first s t old new files left leaves is = elim (table_quiet first s t _ _ old new left.table refl refl leaves is.upto is.table_is) [
  | inl here ↦ inl (record { upto = here.0; table_is = here.1; files_are = is.files_are })
  | inr now ↦ inr (now, is.files_are)
]

pub quiet_told : (p : Past) (here : Option MemDisk) (old new : MemDisk) (files : Drawers) (t : ℕ) (left : Left)
    → Quiet old new
    → LeftFrom p (Some new.file) files t left → LeftFrom p (Some old.file) files t left ⊎ IsLeftBeside (Some (contents_of here files)) (MayLeave (Some (file_of old.file))) left
quiet_told Start here old new files t left leaves h = since_quiet 0 0 t old new files left leaves h
quiet_told (Renewed' d q rest) here old new files t left leaves (inl h) = elim (since_quiet 0 (moments (Renewed' d q rest)) t old new files left leaves h) [ inl is ↦ inl (inl is) | inr is ↦ inr is ]
quiet_told (Renewed' d q rest) here old new files t left leaves (inr h) = inl (inr h)
quiet_told (Removed' d q rest) here old new files t left leaves (inl h) = elim (since_quiet (begins (Removed' d q rest)) (moments (Removed' d q rest)) t old new files left leaves h) [ inl is ↦ inl (inl is) | inr is ↦ inr is ]
quiet_told (Removed' d q rest) here old new files t left leaves (inr h) = inl (inr h)

-- with the table back, as the contents tell
told : (here : Option MemDisk) (c : Option (List ℕ)) → IsTableLeft (option_map (λ d. file_of d.file) here) c → IsTableLeft (option_map file_of (memory_of here)) c
told None c is = is
told (Some d) c is = is

untold : (here : Option MemDisk) (c : Option (List ℕ)) → IsTableLeft (option_map file_of (memory_of here)) c → IsTableLeft (option_map (λ d. file_of d.file) here) c
untold None c is = is
untold (Some d) c is = is

pub counts_told : (p : Past) (here : Option MemDisk) (files : Drawers) (v : Contents) (t : ℕ) (left : Left) → Some (contents_of here files) ≡ Some v → t ≤ clock p (memory_of here) → IsFolderImage v left
    → LeftFrom p (memory_of here) files t left
counts_told p here files v t left is le image =
    let same : contents_of here files ≡ v = cc is in
    let whole : IsFolderImage (contents_of here files) left = subst (λ w. IsFolderImage w left) (sym same) image in
    now_from p (memory_of here) files t left le (told here left.table whole.table) whole.files

pub only_now_told : (here : Option MemDisk) (files : Drawers) (left : Left) → IsNow (memory_of here) files left → IsFolderImage (contents_of here files) left
only_now_told here files left now = record { table = untold here left.table now.table_is; files = now.files_are }

pub only_told : (p : Past) (here : Option MemDisk) (files : Drawers) (v : Contents) (left : Left) → Some (contents_of here files) ≡ Some v → LeftFrom p (memory_of here) files (clock p (memory_of here)) left → IsFolderImage v left
only_told p here files v left is since =
    let same : contents_of here files ≡ v = cc is in
    subst (λ w. IsFolderImage w left) same (only_now_told here files left (only_from p (memory_of here) files (clock p (memory_of here)) left (omega arith) since))

pub only_out : (p : Past) (here : Option MemDisk) (table : MemDisk) (files : Drawers) (left : Left) → LeftFrom p (Some table.file) files (clock p (Some table.file)) left
    → IsLeftBeside (Some (contents_of here files)) (MayLeave (Some (file_of table.file))) left
only_out p here table files left since =
    let now = only_from p (Some table.file) files (clock p (Some table.file)) left (omega arith) since in
    (beside left.table now.table_is, now.files_are)
  where
    beside : (c : Option (List ℕ)) → IsTableLeft (Some (file_of table.file)) c → IsLeftWith (MayLeave (Some (file_of table.file))) c
    beside (Some c) image = image
    beside None image = absurd image
