-- What a dataset's table holds once several workers have listed in it, and their files are in its folder.
use Rattle.std.specs.Prelude.{◌≡◌, ◌≢◌, ◌≤◌, ◌<◌, ◌+◌, ◌*◌, ℕ, List, [], ◌∷◌, ◌++◌, length, take, Option, Some, Ok}
use Rattle.fd_disk.specs.declared.folders.FileName.{FileName}
use Rattle.fd_entries.specs.declared.batch.Listing.{Listing}
use Rattle.fd_entries.specs.declared.batch.Pair.{Pair}
use Rattle.fd_segment.specs.Held.{Alike, batch_of}
use Rattle.fd_dataset.specs.Listed.{entries_of, listing}
use Rattle.fd_recovery.specs.Recovered.{batches_listed, files_of}
use Rattle.fd_numbers.specs.Numbers.{Differ}
use Rattle.fd_stored.specs.Store.{Adds, AddsAll}
use Rattle.fd_shares.specs.Dealing.{dealt_to}
use Rattle.fd_bulk.specs.Gathering.{AreLanes, Lane, receipts_of, writers_in}
use Rattle.fd_shares.specs.Merging.{joined, lane_at}
use Rattle.fd_shares.specs.Working.{Sealing, pairs_in}

-- a batch that was listed, as the history shows it, and whose it is
abbrev pub listing_of : Sealing → Listing
listing_of s = listing s.segment

abbrev pub writer_of : Listing → ℕ
writer_of l = l.entry.writer

abbrev pub Every : (ℕ × Sealing → Type 0) → List (ℕ × Sealing) → Type 0
Every P [] = Unit {0}
Every P (r ∷ rs) = P r × Every P rs

-- pairs were put, and the folder's files give a batch that is alike to them
pub record IsHeld (files : FileName → Option (List ℕ)) (r : ℕ × Sealing) : Type 0 where
  pub some : r.1.pairs ≢ []
  pub batch : List Pair
  pub is : batch_of (files_of files r.1.segment.files.entry) ≡ Some batch
  pub alike : Alike r.1.pairs batch

-- What stands in a folder and a history in which workers listed, one lane each: the lanes are of different writers, and make
-- up the history behind the opening; each listed the first of the pairs that are dealt to it, each batch but one with 512 of
-- them; the folder holds what was there at the opening, and all that they listed.
pub record AreListed (deal : List ℕ → ℕ) (lanes : List (Lane Sealing)) (opening : ℕ) (history : List Listing) (pairs : List Pair) (rest : ℕ → List Pair) (files : FileName → Option (List ℕ)) (before : List (List Pair)) : Type 0 where
  pub lanes_are : AreLanes listing_of writer_of opening history lanes
  pub differ : Differ (writers_in lanes)
  pub count : length history ≡ opening + length (joined (receipts_of lanes))
  pub below : (key : List ℕ) → deal key < length lanes
  pub dealt : (w : ℕ) → dealt_to deal w pairs ≡ pairs_in (lane_at w (receipts_of lanes)) ++ rest w
  pub few : (w : ℕ) → 512 * length (lane_at w (receipts_of lanes)) ≤ length (pairs_in (lane_at w (receipts_of lanes))) + 512
  pub first : batches_listed files (Ok (entries_of (take opening history))) ≡ Some before
  pub held : (w : ℕ) → Every (IsHeld files) (lane_at w (receipts_of lanes))

-- The table has then few batches more, of these pairs alone; and where nothing is left of what is dealt to any worker, each
-- key has the newest bytes that one batch of all pairs would give it.
abbrev pub AreTables : Type 0
AreTables = (deal : List ℕ → ℕ) (lanes : List (Lane Sealing)) (opening : ℕ) (history : List Listing) (pairs : List Pair) (rest : ℕ → List Pair) (files : FileName → Option (List ℕ)) (before : List (List Pair))
    → AreListed deal lanes opening history pairs rest files before
    → Adds (length lanes) pairs before (batches_listed files (Ok (entries_of history)))
    × (((w : ℕ) → rest w ≡ []) → AddsAll (length lanes) pairs before (batches_listed files (Ok (entries_of history))))
