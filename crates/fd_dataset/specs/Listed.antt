-- The listings that segments stand for, and the entries of a history.
use Rattle.std.specs.Prelude.{List, map, Option, None, Some}
use Rattle.std.specs.declared.sync.Arc.{Arc}
use Rattle.std.specs.Arc.{arc_value}
use Rattle.fd_entries.specs.declared.table.Entry.{Entry}
use Rattle.fd_entries.specs.declared.batch.Listing.{Listing}
use Rattle.fd_segment.specs.Held.{Files, Standing, batch_of}
use Rattle.fd_segment.specs.Shared.{entry_of}

-- an entry, with the batch that its files stand for where they tell it
abbrev pub listing_in : Files → Listing
listing_in f = record { entry = f.entry; batch = batch_of f }

abbrev pub listing : Standing → Listing
listing s = listing_in s.files

module _ {A : Type 0} where
  abbrev pub doubted_entry : Option (Arc Standing A) → Option Entry
  doubted_entry None = None
  doubted_entry (Some a) = Some (entry_of a)

  abbrev pub listing_of : Arc Standing A → Listing
  listing_of a = listing (arc_value a)

  abbrev pub listings : List (Arc Standing A) → List Listing
  listings xs = map listing_of xs

  abbrev pub doubted_listing : Option (Arc Standing A) → Option Listing
  doubted_listing None = None
  doubted_listing (Some a) = Some (listing_of a)

-- the entries of a history
abbrev pub entries_of : List Listing → List Entry
entries_of ls = map (λ l. l.entry) ls
