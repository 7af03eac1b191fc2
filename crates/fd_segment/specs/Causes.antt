-- Why a call was refused.
use Rattle.std.specs.Prelude.{◌≡◌, ◌≢◌, ◌+◌, ◌<◌, ◌≤◌, ℕ, List, take, Option, Some, IfSome, IsSome, Result, Ok, Err}
use Rattle.fd_disk.specs.declared.folders.FileKind.TheVariants as kinds
use Rattle.fd_disk.specs.Names.{name_of}
use Rattle.fd_entries.specs.declared.batch.Pair.{Pair}
use Rattle.fd_entries.specs.declared.table.Entry.{Entry}
use Rattle.fd_index.specs.declared.fault.Full.{Full}
use Rattle.fd_index.specs.Records.{Record, place_of}
use Rattle.fd_segment.specs.declared.fault.PutFault.{PutFault}
use Rattle.fd_segment.specs.declared.fault.PutFault.TheVariants as puts
use Rattle.fd_segment.specs.declared.fault.Damage.{Damage}
use Rattle.fd_segment.specs.declared.fault.Damage.TheVariants.{Absent, Length, Index, Beyond, IndexDigest, FieldDigest}
use Rattle.fd_segment.specs.declared.fault.LensFault.{LensFault}
use Rattle.fd_segment.specs.declared.fault.LensFault.TheVariants as lenses
use Rattle.fd_segment.specs.declared.fault.CheckFault.{CheckFault}
use Rattle.fd_segment.specs.declared.fault.CheckFault.TheVariants as checks
use Rattle.fd_segment.specs.declared.fault.CopyFault.{CopyFault}
use Rattle.fd_segment.specs.declared.fault.CopyFault.TheVariants as copies
use Rattle.fd_pages.specs.declared.fault.PagedFault.{PagedFault}
use Rattle.fd_pages.specs.declared.fault.PagedFault.TheVariants as pages
use Rattle.fd_pages.specs.Parts.{IsBadPage, IsFrameFault, IsSeen}
use Rattle.fd_segment.specs.Copying.{IsDigestOf, IsPiece}
use Rattle.fd_segment.specs.Held.{Files, IsIndexOf, batch_of, behind, records_in}

-- `Full` is answered exactly where the key has no room in the index, with these numbers
abbrev pub FullAs : {F : Type 0} → Result (Unit {0}) Full → Result (Unit {0}) (PutFault F) → Type 0
FullAs room (Ok done) = room ≡ Ok tt
FullAs room (Err (puts.Full keys left)) = room ≡ Err (record { keys = keys; left = left })
FullAs room (Err (puts.Fault f)) = room ≡ Ok tt

abbrev pub OnPutFault : {F : Type 0} → PutFault F → Type 0 → Type 0
OnPutFault (puts.Fault f) P = P
OnPutFault (puts.Full keys left) P = Unit {0}

abbrev pub OnPutFull : {F : Type 0} → PutFault F → Type 0 → Type 0
OnPutFull (puts.Fault f) P = Unit {0}
OnPutFull (puts.Full keys left) P = P

abbrev pub OnLensFault : {F : Type 0} → LensFault F → Type 0 → Type 0
OnLensFault (lenses.Fault f) P = P
OnLensFault (lenses.Damaged d) P = Unit {0}
OnLensFault lenses.NoMemory P = Unit {0}

abbrev pub OnDamaged : {F : Type 0} → LensFault F → (Damage → Type 0) → Type 0
OnDamaged (lenses.Fault f) P = Unit {0}
OnDamaged (lenses.Damaged d) P = P d
OnDamaged lenses.NoMemory P = Unit {0}

-- a fault of the reader, or one of the sink
abbrev pub OnCopyFault : {F X : Type 0} → CopyFault F X → Type 0 → Type 0 → Type 0
OnCopyFault (copies.Fault f) P Q = P
OnCopyFault (copies.Write x) P Q = Q

-- the answer isn't a fault of the sink
abbrev pub UnlessWrite : {F X : Type 0} → Result (Unit {0}) (CopyFault F X) → Type 0 → Type 0
UnlessWrite (Ok done) P = P
UnlessWrite (Err (copies.Fault f)) P = P
UnlessWrite (Err (copies.Write x)) P = Unit {0}

-- The index file isn't in the format, where told, at the place that the damage names.
abbrev pub IsBadIndex : Entry → Option (List ℕ) → Damage → Type 0
IsBadIndex e index (Absent file) = ⊥
IsBadIndex e index (Length file want got) = ⊥
IsBadIndex e index (Index file at) = (file ≡ name_of e.writer e.seq kinds.Index) × IfSome index (λ bytes. records_in e bytes ≡ Err at)
IsBadIndex e index (Beyond file end len) = ⊥
IsBadIndex e index (IndexDigest file want got) = ⊥
IsBadIndex e index (FieldDigest file at want got) = ⊥

-- The first eight bytes or the footer of the index file aren't in the format, where told, at the place that the damage names.
abbrev pub IsBadFrame : Entry → Option (List ℕ) → Damage → Type 0
IsBadFrame e index (Absent file) = ⊥
IsBadFrame e index (Length file want got) = ⊥
IsBadFrame e index (Index file at) = (file ≡ name_of e.writer e.seq kinds.Index) × IfSome index (λ bytes. IsFrameFault (take e.index_len bytes) at)
IsBadFrame e index (Beyond file end len) = ⊥
IsBadFrame e index (IndexDigest file want got) = ⊥
IsBadFrame e index (FieldDigest file at want got) = ⊥

-- the index says that the key's bytes are at this place, where told
abbrev pub IsPlace : Entry → Option (List ℕ) → List ℕ → Option (ℕ × ℕ) → Type 0
IsPlace e index key place = IfSome index (λ bytes. (rs : List Record) → records_in e bytes ≡ Ok rs → place ≡ place_of key rs)

-- These are all records of the index, where told, and what they say of a key is what a look-up of it says.
pub record AreAllOf (f : Files) (rs : List Record) : Type 0 where
  pub read : IsIndexOf f.entry f.index rs
  pub seen : (key : List ℕ) → IsSeen f.index f.entry.index_len key (place_of key rs)

-- a page of the index has a record of the key, which ends there, with its digest where the entry has digests; and so has
-- the index, where it is in its format
pub record EndsAt (e : Entry) (index : Option (List ℕ)) (key : List ℕ) (end : ℕ) : Type 0 where
  pub at : ℕ
  pub len : ℕ
  pub ends : end ≡ at + len + behind e
  pub seen : IsSeen index e.index_len key (Some (at, len))
  pub place : IsPlace e index key (Some (at, len))

-- The damage that a look-up of a key meets: a page of the index by itself isn't in the format at the place, or the key's
-- record ends beyond the fields.
abbrev pub IsFindDamage : Entry → Option (List ℕ) → List ℕ → Damage → Type 0
IsFindDamage e index key (Absent file) = ⊥
IsFindDamage e index key (Length file want got) = ⊥
IsFindDamage e index key (Index file at) = (file ≡ name_of e.writer e.seq kinds.Index) × IsBadPage index e.index_len at
IsFindDamage e index key (Beyond file end len) = (file ≡ name_of e.writer e.seq kinds.Fields) × (len ≡ e.fields_len) × (len < end) × EndsAt e index key end
IsFindDamage e index key (IndexDigest file want got) = ⊥
IsFindDamage e index key (FieldDigest file at want got) = ⊥

-- The damage that a check of the bytes at a place meets: behind them stands another digest than theirs, as it names them.
abbrev pub IsFieldDamage : Entry → Option (List ℕ) → ℕ → ℕ → Damage → Type 0
IsFieldDamage e fields at len (Absent file) = ⊥
IsFieldDamage e fields at len (Length file want got) = ⊥
IsFieldDamage e fields at len (Index file place) = ⊥
IsFieldDamage e fields at len (Beyond file end size) = ⊥
IsFieldDamage e fields at len (IndexDigest file want got) = ⊥
IsFieldDamage e fields at len (FieldDigest file place want got) =
    (file ≡ name_of e.writer e.seq kinds.Fields) × (place ≡ at) × IsSome e.digest × (want ≢ got) × IsPiece fields (at + len) 32 want × IsDigestOf fields at len got

-- The damage that a check of a key's bytes meets: a page of the index says that they stand at a place, and so does all of it,
-- where it is in its format; and behind them stands another digest than theirs.
abbrev pub IsKeyDamage : Files → List ℕ → Damage → Type 0
IsKeyDamage f key d = (at : ℕ) × (len : ℕ) × IsSeen f.index f.entry.index_len key (Some (at, len)) × IsPlace f.entry f.index key (Some (at, len))
    × (at + len + behind f.entry ≤ f.entry.fields_len) × IsFieldDamage f.entry f.fields at len d

abbrev pub OnCheckFault : {F : Type 0} → CheckFault F → Type 0 → Type 0
OnCheckFault (checks.Fault f) P = P
OnCheckFault (checks.Damaged d) P = Unit {0}

abbrev pub OnCheckDamaged : {F : Type 0} → CheckFault F → (Damage → Type 0) → Type 0
OnCheckDamaged (checks.Fault f) P = Unit {0}
OnCheckDamaged (checks.Damaged d) P = P d

-- the answer of a lens for a refusal of its paged index
abbrev pub lens_fault : {F : Type 0} → Entry → PagedFault F → LensFault F
lens_fault e (pages.Fault f) = lenses.Fault f
lens_fault e (pages.BadIndex at) = lenses.Damaged (Index (name_of e.writer e.seq kinds.Index) at)
lens_fault e pages.NoMemory = lenses.NoMemory

-- the files stand for no batch
abbrev pub StandsForNone : Files → Type 0
StandsForNone f = (b : List Pair) → batch_of f ≡ Some b → ⊥
