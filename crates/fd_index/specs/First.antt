-- The first place of bytes that is against the format of an index file, in the format's order.
use Rattle.std.specs.Prelude.{◌≡◌, ◌≢◌, ◌↔◌, ◌⊎◌, ℕ, ◌+◌, ◌-◌, ◌*◌, ◌%◌, ◌^◌, ◌<◌, ◌≤◌, false, List, [], ◌∷◌, ◌++◌, length, take, drop, replicate, slice_index, codes, Result, Ok, Err}
use Rattle.fd_index.specs.declared.fault.IndexFault.{IndexFault}
use Rattle.fd_index.specs.declared.fault.IndexFault.TheVariants as faults
use Rattle.fd_index.specs.Records.{Record, Rising, AllFit}
use Rattle.fd_index.specs.Pages.{ArePages, joined, pages_bytes, records_bytes, room_after}
use Rattle.fd_index.specs.Reading.{body_of, counts_of, index_at, is_above, number_2, number_4, number_8, pages_in}
use Rattle.fd_index.specs.Index.{AreOctets}

-- ---- The parts of a file that stand before its pages in the order

abbrev pub HasShape : List ℕ → Type 0
HasShape bytes = (24 ≤ length bytes) × ((length bytes - 24) % 4096 ≡ 0)

abbrev pub HasHead : List ℕ → Type 0
HasHead bytes = take 8 bytes ≡ codes "FDIDX001"

abbrev pub HasMark : List ℕ → Type 0
HasMark bytes = drop (length bytes - 4) bytes ≡ codes "FEND"

abbrev pub CountsItsPages : List ℕ → Type 0
CountsItsPages bytes = number_4 (drop (length bytes - 8) bytes) ≡ pages_in bytes

abbrev pub CountsItsRecords : List ℕ → Type 0
CountsItsRecords bytes = (number_8 (drop (length bytes - 16) bytes) ≡ counts_of (pages_in bytes) (body_of bytes)) × (counts_of (pages_in bytes) (body_of bytes) < 2 ^ 32)

-- ---- A page

-- a record whose key has at most 256 bytes stands at the front of what is left of a page
abbrev pub BeginsRecord : List ℕ → Type 0
BeginsRecord bytes = (2 ≤ length bytes) × (number_2 bytes ≤ 256) × (18 + number_2 bytes ≤ length bytes)

-- What stands at this place, behind these records, is no record, or its key is not above the last one.
abbrev pub IsRecordFault : ℕ → List Record → List ℕ → ℕ → Type 0
IsRecordFault place before bytes at =
    ((BeginsRecord bytes → ⊥) × (at ≡ place))
    ⊎ (BeginsRecord bytes × (is_above before (take (number_2 bytes) (drop 2 bytes)) ≡ false) × (at ≡ place + 2))

-- the first byte that isn't 0, of those at this place
abbrev pub IsZeroFault : ℕ → List ℕ → ℕ → Type 0
IsZeroFault place bytes at = (i : ℕ) × (i < length bytes) × (take i bytes ≡ replicate i 0) × (slice_index bytes i ≢ 0) × (at ≡ place + i)

-- Some records of the page are there and in order, and what stands behind them isn't the next one; or all of them are,
-- and a byte behind them isn't 0.
pub record IsFaultBehind (start room : ℕ) (before : List Record) (page : List ℕ) (at : ℕ) : Type 0 where
  pub some : 0 < number_2 page
  pub begins : BeginsRecord (drop 2 page)
  pub needed : room < 18 + number_2 (drop 2 page)
  pub records : List Record
  pub left : List ℕ
  pub is : drop 2 page ≡ records_bytes records ++ left
  pub fit : AllFit records
  pub rising : Rising (before ++ records)
  pub fault : ((length records < number_2 page) × IsRecordFault (start + 2 + length (records_bytes records)) (before ++ records) left at)
      ⊎ ((length records ≡ number_2 page) × IsZeroFault (start + 2 + length (records_bytes records)) left at)

-- A page that begins at this place, behind one that has this room and behind these records: it has no record, its first
-- one is none, or would have fitted on the page before, or the fault stands behind some records.
abbrev pub IsPageFault : ℕ → ℕ → List Record → List ℕ → ℕ → Type 0
IsPageFault start room before page at =
    ((number_2 page ≡ 0) × (at ≡ start))
    ⊎ (((0 < number_2 page) × (BeginsRecord (drop 2 page) → ⊥) × (at ≡ start + 2))
    ⊎ (((0 < number_2 page) × BeginsRecord (drop 2 page) × (18 + number_2 (drop 2 page) ≤ room) × (at ≡ start + 2))
    ⊎ IsFaultBehind start room before page at))

-- the room of the last of these pages
abbrev pub room_behind : ℕ → List (List Record) → ℕ
room_behind room [] = room
room_behind room (p ∷ ps) = room_behind (room_after p) ps

-- the pages up to a page are those of some records in order, and the fault is on that page
pub record IsFaultOnPage (bytes : List ℕ) (at : ℕ) : Type 0 where
  pub pages : List (List Record)
  pub page : List ℕ
  pub rest : List ℕ
  pub is : body_of bytes ≡ pages_bytes pages ++ (page ++ rest)
  pub long : length page ≡ 4096
  pub good : ArePages 0 pages
  pub fit : AllFit (joined pages)
  pub rising : Rising (joined pages)
  pub fault : IsPageFault (8 + 4096 * length pages) (room_behind 0 pages) (joined pages) page at

-- ---- The file

abbrev pub IsFirstPlace : List ℕ → ℕ → Type 0
IsFirstPlace bytes at =
    ((HasShape bytes → ⊥) × (at ≡ 0))
    ⊎ (HasShape bytes × (((HasHead bytes → ⊥) × (at ≡ 0))
    ⊎ (HasHead bytes × (((HasMark bytes → ⊥) × (at ≡ length bytes - 4))
    ⊎ (HasMark bytes × (((CountsItsPages bytes → ⊥) × (at ≡ length bytes - 8))
    ⊎ (CountsItsPages bytes × (((CountsItsRecords bytes → ⊥) × (at ≡ length bytes - 16))
    ⊎ (CountsItsRecords bytes × IsFaultOnPage bytes at)))))))))

-- A place is named exactly where it is the first against the format.
abbrev pub NamesFirstPlace : Type 0
NamesFirstPlace = (bytes : List ℕ) (at : ℕ) → AreOctets bytes → (index_at bytes ≡ Err at) ↔ IsFirstPlace bytes at

-- the same of what reading an index answers
abbrev pub RefusesAtFirstPlace : List ℕ → Result (List Record) IndexFault → Type 0
RefusesAtFirstPlace bytes (Err (faults.BadIndex at)) = IsFirstPlace bytes at
RefusesAtFirstPlace bytes (Ok records) = Unit {0}
RefusesAtFirstPlace bytes (Err faults.NoMemory) = Unit {0}
