-- The parts of an index file that are read, each by itself.
use Rattle.std.specs.Prelude.{◌≡◌, ◌⊎◌, ℕ, ◌+◌, ◌-◌, ◌*◌, ◌/◌, ◌%◌, ◌<◌, ◌≤◌, Bool, true, false, List, [], ◌∷◌, length, take, drop, Option, Some, None, IfSome, Result, Ok, Err, Contains}
use Rattle.std.specs.Ordering.{is_lt, nat_cmp}
use Rattle.std.specs.Cmp.Lexicographic.{slice_cmp}
use Rattle.fd_index.specs.Records.{Record, place_of}
use Rattle.fd_index.specs.Reading.{index_at, page_by_itself}
use Rattle.fd_index.specs.First.{HasShape, HasHead, HasMark, CountsItsPages}

-- ---- The frame: the first eight bytes and the footer

-- the length of an index file
abbrev pub IsShape : ℕ → Type 0
IsShape len = (24 ≤ len) × ((len - 24) % 4096 ≡ 0)

-- how many pages an index file of this length has
abbrev pub pages_by : ℕ → ℕ
pages_by len = (len - 24) / 4096

-- Length, first eight bytes, the footer's mark and its number of pages are in the format.
pub record HasFrame (bytes : List ℕ) : Type 0 where
  pub shape : HasShape bytes
  pub head : HasHead bytes
  pub mark : HasMark bytes
  pub pages : CountsItsPages bytes

-- the first of them that isn't, by its place
abbrev pub IsFrameFault : List ℕ → ℕ → Type 0
IsFrameFault bytes at =
    ((HasShape bytes → ⊥) × (at ≡ 0))
    ⊎ (HasShape bytes × (((HasHead bytes → ⊥) × (at ≡ 0))
    ⊎ (HasHead bytes × (((HasMark bytes → ⊥) × (at ≡ length bytes - 4))
    ⊎ (HasMark bytes × (CountsItsPages bytes → ⊥) × (at ≡ length bytes - 8))))))

-- a file of this length that begins with these bytes and ends with these
pub record IsFramed (len : ℕ) (head footer file : List ℕ) : Type 0 where
  pub long : length file ≡ len
  pub head_is : take 8 file ≡ head
  pub footer_is : drop (len - 16) file ≡ footer

-- ---- A page

-- the page with this number, from 0
abbrev pub page_of : List ℕ → ℕ → List ℕ
page_of bytes number = take 4096 (drop (8 + 4096 * number) bytes)

-- what it reads as by itself
abbrev pub page_in : List ℕ → ℕ → Result (List Record) ℕ
page_in bytes number = page_by_itself (4104 + 4096 * number) (page_of bytes number)

-- these are the records of a page, where told
pub record IsPageOf (bytes : Option (List ℕ)) (number : ℕ) (rs : List Record) : Type 0 where
  pub some : 0 < length rs
  pub told : IfSome bytes (λ b. page_in b number ≡ Ok rs)

-- the pages that are kept are those of the file
abbrev pub AreKept : Option (List ℕ) → List (ℕ × List Record) → Type 0
AreKept bytes pages = (number : ℕ) (rs : List Record) → Contains pages (number, rs) → IsPageOf bytes number rs

-- the key comes before those of these records
abbrev pub is_before : List Record → List ℕ → Bool
is_before [] key = false
is_before (r ∷ rs) key = is_lt (slice_cmp nat_cmp key r.key)

-- ---- What is answered, where the file is told

-- The key is at this place, if the first bytes of the file are an index file.
abbrev pub IsPlace : Option (List ℕ) → ℕ → List ℕ → Option (ℕ × ℕ) → Type 0
IsPlace bytes len key place = IfSome bytes (λ b. (rs : List Record) → index_at (take len b) ≡ Ok rs → place ≡ place_of key rs)

-- One of its pages by itself isn't in the format, at this place.
abbrev pub IsBadPage : Option (List ℕ) → ℕ → ℕ → Type 0
IsBadPage bytes len at = IfSome bytes (λ b. (number : ℕ) × (number < pages_by len) × (page_in b number ≡ Err at))

-- The first bytes of the file are no index file.
abbrev pub IsNoIndex : Option (List ℕ) → ℕ → Type 0
IsNoIndex bytes len = IfSome bytes (λ b. (rs : List Record) → index_at (take len b) ≡ Ok rs → ⊥)

-- ---- What was read for an answer

-- A page by itself is in the format, and the key comes before those of its records.
abbrev pub IsBehind : List ℕ → ℕ → List ℕ → Type 0
IsBehind b number key = (rs : List Record) × (page_in b number ≡ Ok rs) × (is_before rs key ≡ true)

-- A page by itself is in the format, and the key doesn't come before its first one and isn't on it.
abbrev pub IsInFront : List ℕ → ℕ → List ℕ → Type 0
IsInFront b number key = (rs : List Record) × (page_in b number ≡ Ok rs) × (is_before rs key ≡ false) × (place_of key rs ≡ None)

-- the key would stand between the page before this number and the page with it, where these are there
pub record IsGap (b : List ℕ) (len : ℕ) (key : List ℕ) (number : ℕ) : Type 0 where
  pub within : number ≤ pages_by len
  pub front : (n : ℕ) → number ≡ n + 1 → IsInFront b n key
  pub behind : number < pages_by len → IsBehind b number key

-- The place of a key stands on a page that by itself is in the format; a key without a place would stand between two such
-- pages, or before the first or behind the last.
abbrev pub IsOnPages : Option (List ℕ) → ℕ → List ℕ → Option (ℕ × ℕ) → Type 0
IsOnPages bytes len key (Some place) = IfSome bytes (λ b. (number : ℕ) × (number < pages_by len) × (rs : List Record) × (page_in b number ≡ Ok rs) × (place_of key rs ≡ Some place))
IsOnPages bytes len key None = IfSome bytes (λ b. (number : ℕ) × IsGap b len key number)

-- A page by itself is in the format, the key doesn't come before its first one, and is on it at this place.
abbrev pub IsOn : List ℕ → ℕ → List ℕ → (ℕ × ℕ) → Type 0
IsOn b number key place = (rs : List Record) × (page_in b number ≡ Ok rs) × (is_before rs key ≡ false) × (place_of key rs ≡ Some place)

-- the page in the middle of those from one number to another
abbrev pub middle : ℕ → ℕ → ℕ
middle low high = low + (high - low) / 2

-- How a key is found among the pages from one number to another: it is on the middle one; or it comes before that one, and is
-- found among those below (`true`); or it doesn't and isn't on it, and is found among those above (`false`). Among no pages
-- it has no place.
abbrev pub Turns : List ℕ → List ℕ → ℕ → ℕ → List Bool → Option (ℕ × ℕ) → Type 0
Turns b key low high [] None = high ≤ low
Turns b key low high [] (Some place) = (low < high) × IsOn b (middle low high) key place
Turns b key low high (true ∷ turns) place = (low < high) × (IsBehind b (middle low high) key × Turns b key low (middle low high) turns place)
Turns b key low high (false ∷ turns) place = (low < high) × (IsInFront b (middle low high) key × Turns b key (middle low high + 1) high turns place)

abbrev pub IsHalved : List ℕ → List ℕ → ℕ → ℕ → Option (ℕ × ℕ) → Type 0
IsHalved b key low high place = (turns : List Bool) × Turns b key low high turns place

-- What a look-up of a key has read: the pages that decide are in the format by themselves, and they are those that halving
-- comes to. So two look-ups of one key in one file, where told, have one answer, whatever else the file holds.
abbrev pub IsSeen : Option (List ℕ) → ℕ → List ℕ → Option (ℕ × ℕ) → Type 0
IsSeen bytes len key place = IsOnPages bytes len key place × IfSome bytes (λ b. IsHalved b key 0 (pages_by len) place)

-- A file that is told gives a key one answer.
abbrev pub IsSeenOnce : Type 0
IsSeenOnce = (b : List ℕ) (len : ℕ) (key : List ℕ) (p q : Option (ℕ × ℕ)) → IsSeen (Some b) len key p → IsSeen (Some b) len key q → p ≡ q
