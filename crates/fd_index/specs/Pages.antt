-- Records in pages of 4096 bytes, and the index file that they make.
use Rattle.std.specs.Prelude.{◌≡◌, ◌↔◌, ℕ, ◌+◌, ◌-◌, ◌<◌, ◌≤◌, ◌^◌, List, [], ◌∷◌, ◌++◌, length, nat_le, if◌then◌else◌, replicate, codes}
use Rattle.std.specs.Int.{w16, w32, w64, to_be_bytes}
use Rattle.fd_index.specs.Records.{Record, Rising, AllFit}

-- length of the key, the key, place and length
unfoldable pub record_bytes : Record → List ℕ
record_bytes r = to_be_bytes w16 (length r.key) ++ r.key ++ to_be_bytes w64 r.at ++ to_be_bytes w64 r.len

abbrev pub size : Record → ℕ
size r = 18 + length r.key

unfoldable pub records_bytes : List Record → List ℕ
records_bytes [] = []
records_bytes (r ∷ rs) = record_bytes r ++ records_bytes rs

-- a count, the records, and zeros: 4096 bytes
abbrev pub closed : ℕ → List ℕ → List ℕ
closed count text = to_be_bytes w16 count ++ text ++ replicate (4094 - length text) 0

abbrev pub page_bytes : List Record → List ℕ
page_bytes rs = closed (length rs) (records_bytes rs)

unfoldable pub pages_bytes : List (List Record) → List ℕ
pages_bytes [] = []
pages_bytes (p ∷ ps) = page_bytes p ++ pages_bytes ps

-- ---- Which record stands on which page

abbrev pub onto : Record → List (List Record) → List (List Record)
onto r [] = (r ∷ []) ∷ []
onto r (p ∷ ps) = (r ∷ p) ∷ ps

-- what goes on the page that has this room left, and the pages after it: a record goes there where it fits, else it
-- begins the next page
unfoldable pub cut : ℕ → List Record → List (List Record)
cut room [] = [] ∷ []
cut room (r ∷ rs) = if nat_le (size r) room then onto r (cut (room - size r) rs) else [] ∷ onto r (cut (4094 - size r) rs)

-- no page is empty
unfoldable pub pages_of : List Record → List (List Record)
pages_of [] = []
pages_of (r ∷ rs) = cut 4094 (r ∷ rs)

-- ---- The same in the format's own words

-- the room that the records of a page leave
abbrev pub room_after : List Record → ℕ
room_after p = 4094 - length (records_bytes p)

-- A page behind one that has this room: it has a record, which didn't fit there, and its records fit.
abbrev pub IsPage : ℕ → List Record → Type 0
IsPage room [] = ⊥
IsPage room (r ∷ rs) = (room < size r) × (length (records_bytes (r ∷ rs)) ≤ 4094)

abbrev pub ArePages : ℕ → List (List Record) → Type 0
ArePages room [] = Unit {0}
ArePages room (p ∷ ps) = IsPage room p × ArePages (room_after p) ps

-- the records of the pages
abbrev pub joined : List (List Record) → List Record
joined [] = []
joined (p ∷ ps) = p ++ joined ps

-- Records stand on the pages on which the format has them, and on no others.
abbrev pub StandOnTheirPages : Type 0
StandOnTheirPages = (rs : List Record) → AllFit rs → (ps : List (List Record)) → (ps ≡ pages_of rs) ↔ (ArePages 0 ps × (joined ps ≡ rs))

-- ---- The file

-- `FDIDX001`, the pages, and a footer: how many records, how many pages, `FEND`
unfoldable pub index_of : List Record → List ℕ
index_of rs = codes "FDIDX001" ++ pages_bytes (pages_of rs) ++ to_be_bytes w64 (length rs) ++ to_be_bytes w32 (length (pages_of rs)) ++ codes "FEND"

-- these bytes are the index file of these records, whose keys rise
pub record IsIndex (records : List Record) (bytes : List ℕ) : Type 0 where
  pub rising : Rising records
  pub fit : AllFit records
  pub few : length records < 2 ^ 32
  pub is : bytes ≡ index_of records
