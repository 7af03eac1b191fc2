-- Reading an index file: its records, or the first place against the format.
use Rattle.std.specs.Prelude.{ℕ, zero, suc, ◌+◌, ◌-◌, ◌/◌, ◌%◌, ◌^◌, Bool, true, ◌&&◌, ◌||◌, List, [], ◌∷◌, ◌++◌, length, take, drop, nat_lt, nat_le, ◌==◌, if◌then◌else◌, codes, bytes_eq, Result, Ok, Err}
use Rattle.std.specs.Int.{w16, w32, w64, from_be_bytes}
use Rattle.std.specs.Ordering.{is_lt, nat_cmp}
use Rattle.std.specs.Cmp.Lexicographic.{slice_cmp}
use Rattle.fd_index.specs.Records.{Record}

infixl 10 ◌>>=◌
abbrev pub ◌>>=◌ : {A B : Type 0} → Result A ℕ → (A → Result B ℕ) → Result B ℕ
(Ok x) >>= f = f x
(Err place) >>= f = Err place

abbrev pub check : Bool → ℕ → Result (Unit {0}) ℕ
check good place = if good then Ok tt else Err place

-- the numbers at the front of these bytes
abbrev pub number_2 : List ℕ → ℕ
number_2 bytes = from_be_bytes w16 (take 2 bytes)

abbrev pub number_4 : List ℕ → ℕ
number_4 bytes = from_be_bytes w32 (take 4 bytes)

abbrev pub number_8 : List ℕ → ℕ
number_8 bytes = from_be_bytes w64 (take 8 bytes)

-- ---- One record, at the front of what is left of a page that ends at this place

-- The length of the key, which is at most 256 and such that the record ends on its page; else the place of this number.
unfoldable pub key_len_at : ℕ → List ℕ → Result ℕ ℕ
key_len_at end bytes =
    if nat_lt (length bytes) 2 || nat_lt 256 (number_2 bytes) || nat_lt (length bytes) (18 + number_2 bytes)
    then Err (end - length bytes)
    else Ok (number_2 bytes)

-- the record whose key has this length
abbrev pub record_of : ℕ → List ℕ → Record
record_of n bytes = record { key = take n (drop 2 bytes); at = number_8 (drop (2 + n) bytes); len = number_8 (drop (10 + n) bytes) }

-- the key is above that of the last record before it
abbrev pub is_above : List Record → List ℕ → Bool
is_above [] key = true
is_above (r ∷ []) key = is_lt (slice_cmp nat_cmp r.key key)
is_above (r ∷ s ∷ rs) key = is_above (s ∷ rs) key

-- the records before it and this one, and what is left of the page
unfoldable pub record_at : ℕ → List Record → List ℕ → Result (List Record × List ℕ) ℕ
record_at end before bytes = do
  n ← key_len_at end bytes
  _ ← check (is_above before (take n (drop 2 bytes))) (end - length bytes + 2)
  Ok (before ++ record_of n bytes ∷ [], drop (18 + n) bytes)

-- so many of them
unfoldable pub records_at : ℕ → ℕ → List Record → List ℕ → Result (List Record × List ℕ) ℕ
records_at zero end before bytes = Ok (before, bytes)
records_at (suc n) end before bytes = do
  one ← record_at end before bytes
  records_at n end one.0 one.1

-- the first byte that isn't 0
abbrev pub zeros_at : ℕ → List ℕ → Result (Unit {0}) ℕ
zeros_at end [] = Ok tt
zeros_at end (b ∷ bytes) = if b == 0 then zeros_at end bytes else Err (end - length (b ∷ bytes))

-- ---- A page, which ends at this place

-- A page has a record, and its first one doesn't fit on the page before, which has this room. The records before it and
-- its own, and the room that they leave.
unfoldable pub page_at : ℕ → ℕ → List Record → List ℕ → Result (List Record × ℕ) ℕ
page_at end room before page = do
  _ ← check (nat_lt 0 (number_2 page)) (end - 4096)
  n ← key_len_at end (drop 2 page)
  _ ← check (nat_lt room (18 + n)) (end - 4094)
  records ← records_at (number_2 page) end before (drop 2 page)
  _ ← zeros_at end records.1
  Ok (records.0, length records.1)

-- the records of a page that ends at this place, by itself: whatever stands on the other pages
abbrev pub page_by_itself : ℕ → List ℕ → Result (List Record) ℕ
page_by_itself end page = page_at end 0 [] page >>= λ read. Ok read.0

-- so many pages, of which the last ends at this place
unfoldable pub pages_at : ℕ → ℕ → ℕ → List Record → List ℕ → Result (List Record) ℕ
pages_at zero end room before bytes = Ok before
pages_at (suc p) end room before bytes = do
  page ← page_at (end - length (drop 4096 bytes)) room before (take 4096 bytes)
  pages_at p end page.1 page.0 (drop 4096 bytes)

-- the sum of the counts of so many pages
unfoldable pub counts_of : ℕ → List ℕ → ℕ
counts_of zero bytes = 0
counts_of (suc p) bytes = number_2 (take 4096 bytes) + counts_of p (drop 4096 bytes)

-- ---- The file

-- how many pages a file of this length has
abbrev pub pages_in : List ℕ → ℕ
pages_in bytes = (length bytes - 24) / 4096

-- what stands between the first eight bytes and the footer
abbrev pub body_of : List ℕ → List ℕ
body_of bytes = take (length bytes - 24) (drop 8 bytes)

-- Shape, first eight bytes, the footer's mark, its number of pages, its number of records, and then the pages from
-- left to right. The number of records isn't so where it isn't the sum of the counts, or isn't below 2^32.
unfoldable pub index_at : List ℕ → Result (List Record) ℕ
index_at bytes = do
  _ ← check (nat_le 24 (length bytes) && (length bytes - 24) % 4096 == 0) 0
  _ ← check (bytes_eq (take 8 bytes) (codes "FDIDX001")) 0
  _ ← check (bytes_eq (drop (length bytes - 4) bytes) (codes "FEND")) (length bytes - 4)
  _ ← check (number_4 (drop (length bytes - 8) bytes) == pages_in bytes) (length bytes - 8)
  _ ← check (number_8 (drop (length bytes - 16) bytes) == counts_of (pages_in bytes) (body_of bytes) && nat_lt (counts_of (pages_in bytes) (body_of bytes)) (2 ^ 32)) (length bytes - 16)
  pages_at (pages_in bytes) (length bytes - 16) 0 [] (body_of bytes)
