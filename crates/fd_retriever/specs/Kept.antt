-- What opened segments are kept, and of which listings they are.
use Rattle.std.specs.Prelude.{◌≡◌, ◌≤◌, ◌-◌, ℕ, List, [], map, Some, slice_get, Contains}
use mathlib.Core.List.{IsPrefix}
use Rattle.fd_entries.specs.declared.batch.Listing.{Listing}
use Rattle.fd_segment.specs.Held.{Files, Standing}
use Rattle.fd_dataset.specs.Listed.{listing, listing_in}

-- an opened segment: its number, and the files that it reads
pub record Kept : Type 0 where
  pub number : ℕ
  pub files : Files

-- the item with this number, from 1
abbrev pub IsNumbered : {A : Type 0} → List A → ℕ → A → Type 0
IsNumbered xs number x = (1 ≤ number) × (slice_get xs (number - 1) ≡ Some x)

-- Each kept segment is of the listing with its number: of its entry, and of its batch, where there is one.
abbrev pub Fits : List Kept → List Listing → Type 0
Fits kept ls = (k : Kept) → Contains kept k → IsNumbered ls k.number (listing_in k.files)

abbrev pub files_of : List Standing → List Files
files_of ss = map (λ s. s.files) ss

-- Each kept segment reads the files of the segment with its number.
abbrev pub AreThose : List Kept → List Standing → Type 0
AreThose kept ss = (k : Kept) → Contains kept k → IsNumbered (files_of ss) k.number k.files

-- what fits a history fits each that goes on from it
abbrev pub FitsLater : Type 0
FitsLater = (kept : List Kept) (before after : List Listing) → IsPrefix before after → Fits kept before → Fits kept after

-- nothing kept fits every history
abbrev pub NothingFits : Type 0
NothingFits = (ls : List Listing) → Fits [] ls

-- what reads the segments' own files fits their listings
abbrev pub ThoseFit : Type 0
ThoseFit = (kept : List Kept) (ss : List Standing) → AreThose kept ss → Fits kept (map listing ss)
