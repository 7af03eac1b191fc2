-- What a refused listing tells, and what it leaves.
use Rattle.std.specs.Prelude.{◌≡◌, ◌⊎◌, ◌<◌, ◌≤◌, ◌++◌, ℕ, List, [], ◌∷◌, length, Option, None, Some, Result, Ok, Err}
use mathlib.Core.List.{IsPrefix}
use Rattle.fd_entries.specs.declared.batch.Listing.{Listing}
use Rattle.fd_dataset.specs.declared.fault.Receipt.{Receipt}
use Rattle.fd_dataset.specs.declared.fault.ListFault.{ListFault}
use Rattle.fd_dataset.specs.declared.fault.ListFault.TheVariants as faults

-- A listing was added at this number: it is the last of the history, which has what was seen before in front.
pub record IsListed (before : List Listing) (added : Listing) (number : ℕ) (after : List Listing) : Type 0 where
  pub others : List Listing
  pub history : after ≡ others ++ added ∷ []
  pub seen : IsPrefix before others
  pub number_is : number ≡ length after

-- the doubts are as before, or none
abbrev pub AreFewer : List Listing → List Listing → Type 0
AreFewer before after = (after ≡ before) ⊎ (after ≡ [])

-- the doubts after a listing that was refused: as before or none, and after a fault of the table also the listing alone
abbrev pub LeavesDoubts : {F : Type 0} → Listing → List Listing → List Listing → ListFault F → Type 0
LeavesDoubts l before after (faults.Disk f) = AreFewer before after ⊎ (after ≡ l ∷ [])
LeavesDoubts l before after (faults.Full count) = AreFewer before after
LeavesDoubts l before after faults.NoMemory = AreFewer before after

-- `Full` is answered exactly where the history has 65,535 listings once the lock is taken; this is its length afterwards
abbrev pub FullAt : {F : Type 0} → ℕ → Result Receipt (ListFault F) → Type 0
FullAt after (Ok r) = after ≤ 65535
FullAt after (Err (faults.Disk f)) = after < 65535
FullAt after (Err (faults.Full count)) = (count ≡ 65535) × (after ≡ 65535)
FullAt after (Err faults.NoMemory) = after < 65535

-- a refusal over a table with so many entries: `Full` exactly at 65,535
abbrev pub FullWith : {F : Type 0} → ℕ → ListFault F → Type 0
FullWith count (faults.Disk f) = count < 65535
FullWith count (faults.Full told) = (told ≡ 65535) × (count ≡ 65535)
FullWith count faults.NoMemory = count < 65535

-- the segment whose entry is in doubt after a refusal: as before, and after a fault of the table also none or this one
abbrev pub DoubtsOne : {A F : Type 0} → A → Option A → Option A → ListFault F → Type 0
DoubtsOne one before after (faults.Disk f) = (after ≡ before) ⊎ (after ≡ None) ⊎ (after ≡ Some one)
DoubtsOne one before after (faults.Full count) = after ≡ before
DoubtsOne one before after faults.NoMemory = after ≡ before
