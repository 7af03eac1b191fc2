-- Why a call was refused, and what a refused flush leaves of the pass.
use Rattle.std.specs.Prelude.{◌≡◌, ◌⊎◌, ◌<◌, ◌≤◌, ℕ, List, [], ◌∷◌, length, Option, Some, Result, Ok, Err}
use Rattle.fd_index.specs.declared.fault.Full.{Full}
use Rattle.fd_entries.specs.declared.batch.Listing.{Listing}
use Rattle.fd_segment.specs.Held.{Standing}
use Rattle.fd_segment.specs.declared.fault.PutFault.{PutFault}
use Rattle.fd_segment.specs.declared.fault.PutFault.TheVariants as puts
use Rattle.fd_turn.specs.Views.{View}
use Rattle.fd_dataset.specs.Listed.{listing}
use Rattle.fd_dataset.specs.Causes.{AreFewer}
use Rattle.fd_dataset.specs.declared.fault.ListFault.{ListFault}
use Rattle.fd_dataset.specs.declared.fault.ListFault.TheVariants as lists
use Rattle.fd_archiver.specs.declared.fault.ArchiveFault.{ArchiveFault}
use Rattle.fd_archiver.specs.declared.fault.ArchiveFault.TheVariants as archives
use Rattle.fd_archiver.specs.declared.fault.Flush.{Flush}
use Rattle.fd_archiver.specs.declared.fault.Flush.TheVariants as ends
use Rattle.fd_archiver.specs.declared.fault.FlushFault.{FlushFault}
use Rattle.fd_archiver.specs.declared.fault.FlushFault.TheVariants as flushes

-- `Full` is answered exactly where the key has no room in the batch, with these numbers
abbrev pub FullAs : {F : Type 0} → Result (Unit {0}) Full → Result (Unit {0}) (ArchiveFault F) → Type 0
FullAs room (Ok done) = room ≡ Ok tt
FullAs room (Err archives.Unlisted) = Unit {0}
FullAs room (Err (archives.Full keys left)) = room ≡ Err (record { keys = keys; left = left })
FullAs room (Err (archives.Disk f)) = room ≡ Ok tt

-- why a field wasn't put into the batch
abbrev pub RefusedAs : {F : Type 0} → PutFault F → ArchiveFault F → Type 0
RefusedAs (puts.Full keys left) refused = refused ≡ archives.Full keys left
RefusedAs (puts.Fault f) refused = refused ≡ archives.Disk f

abbrev pub OnArchiveDisk : {F : Type 0} → ArchiveFault F → Type 0 → Type 0
OnArchiveDisk archives.Unlisted P = Unit {0}
OnArchiveDisk (archives.Full keys left) P = Unit {0}
OnArchiveDisk (archives.Disk f) P = P

-- refused before anything was asked of the draft
abbrev pub OnUntouched : {F : Type 0} → ArchiveFault F → Type 0 → Type 0
OnUntouched archives.Unlisted P = P
OnUntouched (archives.Full keys left) P = P
OnUntouched (archives.Disk f) P = Unit {0}

-- the refusal of a flush whose segment wasn't listed
abbrev pub flush_fault : {F : Type 0} → ListFault F → FlushFault F
flush_fault (lists.Disk f) = flushes.Disk f
flush_fault (lists.Full count) = flushes.TableFull count
flush_fault lists.NoMemory = flushes.NoMemory

abbrev pub OnFlushDisk : {F : Type 0} → FlushFault F → Type 0 → Type 0
OnFlushDisk (flushes.Disk f) P = P
OnFlushDisk (flushes.TableFull count) P = Unit {0}
OnFlushDisk flushes.NoMemory P = Unit {0}

-- the pass is as before, or has seen fewer than 65,535 listings
abbrev pub SawFewer : View → View → Type 0
SawFewer v w = (w ≡ v) ⊎ (length w.history < 65535)

-- `TableFull` is answered exactly where the segment comes to its listing and 65,535 listings stand then, as the pass
-- has seen afterwards.
abbrev pub FullAfter : {F : Type 0} → View → View → Result Flush (FlushFault F) → Type 0
FullAfter v w (Ok ends.Nothing) = w ≡ v
FullAfter v w (Ok (ends.Listed r)) = length w.history ≤ 65535
FullAfter v w (Err (flushes.Disk f)) = SawFewer v w
FullAfter v w (Err (flushes.TableFull count)) = (count ≡ 65535) × (length w.history ≡ 65535)
FullAfter v w (Err flushes.NoMemory) = SawFewer v w

-- the only doubt is whether the segment that waits is listed
abbrev pub DoubtsWaiting : Option Standing → List Listing → Type 0
DoubtsWaiting unlisted doubts = (s : Standing) × (unlisted ≡ Some s) × (doubts ≡ listing s ∷ [])

-- the doubts after a flush that was refused: as before or none, and after a fault also the segment that waits
abbrev pub LeavesDoubts : {F : Type 0} → Option Standing → List Listing → List Listing → FlushFault F → Type 0
LeavesDoubts unlisted before after (flushes.Disk f) = AreFewer before after ⊎ DoubtsWaiting unlisted after
LeavesDoubts unlisted before after (flushes.TableFull count) = AreFewer before after
LeavesDoubts unlisted before after flushes.NoMemory = AreFewer before after
