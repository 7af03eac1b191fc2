-- What putting a field into the batch asks for, and what it does.
use Rattle.std.specs.Prelude.{◌≡◌, ◌≤◌, ◌<◌, ◌+◌, ◌^◌, ◌↔◌, ◌++◌, [], ◌∷◌, ℕ, List, length, None, Result, Err, IsSome, IfErr, OnOk, OnErr}
use Rattle.fd_bytes.specs.Causes.{Rose}
use Rattle.fd_entries.specs.declared.batch.Pair.{Pair}
use Rattle.fd_index.specs.Builder.{room_for}
use Rattle.fd_schema.specs.Rules.{Texts, file_key}
use Rattle.fd_archiver.specs.declared.fault.ArchiveFault.{ArchiveFault}
use Rattle.fd_archiver.specs.declared.fault.ArchiveFault.TheVariants as archives
use Rattle.fd_archiver.specs.Causes.{FullAs, OnArchiveDisk, OnUntouched}
use Rattle.fd_archiver.specs.Writing.{IsPending, Writing}

-- a field of this dataset, whose key and bytes are within the limits, also together with those of the batch
pub record CanArchive {H : Type 0} (v : Writing H) (place : Texts) (field : List ℕ) : Type 0 where
  pub dataset : place.dataset ≡ v.dataset
  pub key : length (file_key place) ≤ 256
  pub bytes : length field ≤ 134217728
  pub sum : v.draft.end + (length field + 32) < 2 ^ 63

-- The field was put into the batch under the key of its place, or was refused and the batch is as before. `Unlisted` is
-- answered exactly while a sealed batch waits, `Full` exactly where there is no room, and `Disk` only where the field
-- file's count of faults rose; nothing but the draft changes.
pub record HasArchived {F H : Type 0} (v w : Writing H) (place : Texts) (field : List ℕ) (result : Result (Unit {0}) (ArchiveFault F)) : Type 0 where
  pub unlisted : (result ≡ Err archives.Unlisted) ↔ IsSome v.unlisted
  pub ok : OnOk result ((b : List Pair) → IsPending v b → IsPending w (b ++ record { key = file_key place; bytes = field } ∷ []))
  pub end : OnOk result (w.draft.end ≡ v.draft.end + (length field + 32))
  pub err : OnErr result ((b : List Pair) → IsPending v b → IsPending w b)
  pub refused : OnErr result ((w.draft.held ≡ v.draft.held) × (w.draft.end ≡ v.draft.end))
  pub untouched : IfErr result (λ e. OnUntouched e (w ≡ v))
  pub full : v.unlisted ≡ None → FullAs (room_for v.draft.held (file_key place)) result
  pub cause : IfErr result (λ e. OnArchiveDisk e (Rose v.draft.field_faults w.draft.field_faults))
  pub origin : w.draft.origin ≡ v.draft.origin
  pub room : (w.draft.held.keys ≡ v.draft.held.keys) × (w.draft.held.bytes ≡ v.draft.held.bytes)
  pub rest : w ≡ record v { draft = w.draft }
