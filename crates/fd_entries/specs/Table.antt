-- The table of contents: a header, then slots of 64 bytes, each a gate and an entry.
use Rattle.std.specs.Prelude.{◌≡◌, ◌≢◌, ◌⊎◌, ◌↔◌, slice_get, slice_index, unwrap_or, ◌+◌, ◌-◌, ◌*◌, ◌^◌, ◌<◌, ◌≤◌, ◌==◌, ℕ, zero, suc, nat_lt, Bool, true, false, IfSome, List, [], ◌∷◌, ◌++◌, if◌then◌else◌, length, take, drop, replicate, Option, Some, None, Result, Ok, Err, codes}
use Rattle.std.specs.Int.{w16, w32, w64, to_be_bytes, from_be_bytes}
use Rattle.fd_disk.specs.declared.file.File.{File}
use Rattle.fd_disk.specs.Images.{written}
use Rattle.fd_entries.specs.declared.table.Entry.{Entry}
use Rattle.fd_entries.specs.declared.table.NotATable.{NotATable}

-- `FDTOC001`, the length of the dataset's text, the text, and zeros to 319
abbrev pub header : List ℕ → List ℕ
header dataset = codes "FDTOC001" ++ to_be_bytes w16 (length dataset) ++ dataset ++ replicate (310 - length dataset) 0

-- an entry is of kind 2 where it has a digest, and else of kind 1
abbrev pub kind_of : Option (List ℕ) → ℕ
kind_of None = 1
kind_of (Some digest) = 2

-- an octet of the digest, and zero where there is none
abbrev pub digest_octet : Option (List ℕ) → ℕ → ℕ
digest_octet None i = 0
digest_octet (Some digest) i = slice_index digest i

-- so many of them, from the place i on
abbrev pub digest_octets : ℕ → ℕ → Option (List ℕ) → List ℕ
digest_octets zero i digest = []
digest_octets (suc n) i digest = digest_octet digest i ∷ digest_octets n (i + 1) digest

-- what stands behind the gate of a slot: the kind, the numbers, the 32 octets of the digest, and two zeros
abbrev pub body_of : Entry → List ℕ
body_of e = kind_of e.digest ∷ to_be_bytes w32 e.writer ++ to_be_bytes w32 e.seq ++ to_be_bytes w32 e.fields ++ to_be_bytes w64 e.index_len ++ to_be_bytes w64 e.fields_len ++ digest_octets 32 0 e.digest ++ replicate 2 0

-- open slots of these entries
abbrev pub slots_of : List Entry → List ℕ
slots_of [] = []
slots_of (e ∷ es) = 79 ∷ body_of e ++ slots_of es

abbrev pub gate_at : ℕ → ℕ
gate_at i = 320 + 64 * i

abbrev pub greatest_writer : ℕ → ℕ
greatest_writer i = 65536 * (i + 1)

-- An octet of the format: one that is fixed, or one that may have any value.
-- The first octet against the pattern, from this place on.
abbrev pub mismatch : ℕ → List (Option ℕ) → List ℕ → Option NotATable
mismatch at [] bytes = None
mismatch at (Some want ∷ pattern) (x ∷ bytes) = if x == want then mismatch (at + 1) pattern bytes else Some (record { at = at; want = want; found = Some x })
mismatch at (None ∷ pattern) (x ∷ bytes) = mismatch (at + 1) pattern bytes
mismatch at (Some want ∷ pattern) [] = Some (record { at = at; want = want; found = None })
mismatch at (None ∷ pattern) [] = Some (record { at = at; want = 0; found = None })

abbrev pub fixed : List ℕ → List (Option ℕ)
fixed [] = []
fixed (x ∷ xs) = Some x ∷ fixed xs

abbrev pub any_octets : ℕ → List (Option ℕ)
any_octets zero = []
any_octets (suc n) = None ∷ any_octets n

-- the first octet of a number that is greater than this one
abbrev pub exceeds : ℕ → List ℕ → List ℕ → Option NotATable
exceeds at (m ∷ most) (x ∷ xs) = if x == m then exceeds (at + 1) most xs else (if nat_lt m x then Some (record { at = at; want = m; found = Some x }) else None)
exceeds at [] xs = None
exceeds at (m ∷ most) [] = None

abbrev pub or_else : Option NotATable → Option NotATable → Option NotATable
or_else (Some f) next = Some f
or_else None next = next

-- whether the slot whose bytes begin here is of kind 2
abbrev pub has_digest : List ℕ → Bool
has_digest [] = false
has_digest (kind ∷ rest) = kind == 2

-- the octets behind the numbers: in kind 1 zeros, in kind 2 a digest, and two zeros
abbrev pub tail_octets : Bool → List (Option ℕ)
tail_octets false = fixed (replicate 34 0)
tail_octets true = any_octets 32 ++ fixed (replicate 2 0)

-- The first fault of the entry in slot i, whose 63 bytes begin here. Where the kind is neither 1 nor 2, 1 is wanted.
abbrev pub entry_fault : ℕ → List ℕ → Option NotATable
entry_fault i bytes =
    or_else (mismatch (gate_at i + 1) (Some (if has_digest bytes then 2 else 1) ∷ any_octets 4) bytes)
    (or_else (exceeds (gate_at i + 2) (to_be_bytes w32 (greatest_writer i)) (take 4 (drop 1 bytes)))
    (mismatch (gate_at i + 6) (any_octets 24 ++ tail_octets (has_digest bytes)) (drop 5 bytes)))

abbrev pub entry_in : List ℕ → Entry
entry_in bytes = record {
  writer = from_be_bytes w32 (take 4 (drop 1 bytes));
  seq = from_be_bytes w32 (take 4 (drop 5 bytes));
  fields = from_be_bytes w32 (take 4 (drop 9 bytes));
  index_len = from_be_bytes w64 (take 8 (drop 13 bytes));
  fields_len = from_be_bytes w64 (take 8 (drop 21 bytes));
  digest = if has_digest bytes then Some (take 32 (drop 29 bytes)) else None;
}

abbrev pub with_entry : Entry → Result (List Entry) NotATable → Result (List Entry) NotATable
with_entry e (Ok es) = Ok (e ∷ es)
with_entry e (Err f) = Err f

abbrev pub unless_fault : Option NotATable → Result (List Entry) NotATable → Result (List Entry) NotATable
unless_fault (Some f) result = Err f
unless_fault None result = result

-- each number of an entry fits its octets, and its writer its slot; a digest has 32 octets
pub record Fits (i : ℕ) (e : Entry) : Type 0 where
  pub writer : e.writer ≤ greatest_writer i
  pub seq : e.seq < 2 ^ 32
  pub fields : e.fields < 2 ^ 32
  pub index_len : e.index_len < 2 ^ 64
  pub fields_len : e.fields_len < 2 ^ 64
  pub digest : IfSome e.digest (λ d. length d ≡ 32)

abbrev pub AllFit : ℕ → List Entry → Type 0
AllFit i [] = Unit {0}
AllFit i (e ∷ es) = Fits i e × AllFit (i + 1) es

-- the entries of the slots from i on, of which there may be as many as the first number; the bytes begin at gate i
abbrev pub run_from : ℕ → ℕ → List ℕ → Result (List Entry) NotATable
run_from room i [] = Err (record { at = gate_at i; want = 0; found = None })
run_from zero i (gate ∷ rest) = if gate == 79 then Err (record { at = gate_at i; want = 0; found = Some gate }) else Ok []
run_from (suc room) i (gate ∷ rest) =
    if gate == 79
    then unless_fault (entry_fault i rest) (with_entry (entry_in rest) (run_from room (i + 1) (drop 63 rest)))
    else Ok []

-- The entries that a table's bytes list, or the first octet against the format.
unfoldable pub listed : List ℕ → List ℕ → Result (List Entry) NotATable
listed dataset bytes = unless_fault (mismatch 0 (fixed (header dataset)) bytes) (run_from 65535 0 (drop 320 bytes))

-- a table as listing leaves it: open slots, a closed gate, and whatever stands behind
abbrev pub table_of : List ℕ → List Entry → ℕ → List ℕ → List ℕ
table_of dataset es gate tail = header dataset ++ slots_of es ++ gate ∷ tail

-- bytes are these entries, a closed gate and whatever stands behind
pub record IsTable (dataset : List ℕ) (es : List Entry) (bytes : List ℕ) : Type 0 where
  pub gate : ℕ
  pub tail : List ℕ
  pub shut : gate ≢ 79
  pub is : bytes ≡ table_of dataset es gate tail
  pub short : length dataset ≤ 255
  pub fit : AllFit 0 es
  pub few : length es ≤ 65535

-- the body of entry n with the closed gate n + 1, in one write
abbrev pub with_body : File → ℕ → Entry → File
with_body f n e = written f (gate_at n + 1) (body_of e ++ 0 ∷ [])

abbrev pub with_gate : File → ℕ → File
with_gate f n = written f (gate_at n) (79 ∷ [])

abbrev pub with_closed : File → ℕ → File
with_closed f n = written f (gate_at n) (0 ∷ [])

-- each byte is an octet
pub record AreOctets (bytes : List ℕ) : Type 0 where
  pub each : (i : ℕ) → slice_index bytes i < 256

-- Bytes list entries exactly where they are a table of them: its header, their slots with open gates, a closed gate,
-- and whatever stands behind.
abbrev pub ListsItsEntries : Type 0
ListsItsEntries = (dataset bytes : List ℕ) (es : List Entry) → length dataset ≤ 255 → AreOctets bytes → (listed dataset bytes ≡ Ok es) ↔ IsTable dataset es bytes

-- The octet against the format behind so many entries: the gate is missing, or open though no slot may follow, or it
-- is open and the octet is the first fault of its slot.
abbrev pub IsSlotFault : ℕ → List ℕ → NotATable → Type 0
IsSlotFault i [] f = f ≡ record { at = gate_at i; want = 0; found = None }
IsSlotFault i (gate ∷ rest) f = (gate ≡ 79) × (((i ≡ 65535) × (f ≡ record { at = gate_at i; want = 0; found = Some gate })) ⊎ ((i < 65535) × (entry_fault i rest ≡ Some f)))

-- the header and the slots of these entries stand, and the octet is against the format behind them
pub record IsFirstFault (dataset bytes : List ℕ) (f : NotATable) : Type 0 where
  pub entries : List Entry
  pub rest : List ℕ
  pub is : bytes ≡ header dataset ++ (slots_of entries ++ rest)
  pub fit : AllFit 0 entries
  pub few : length entries ≤ 65535
  pub fault : IsSlotFault (length entries) rest f

-- An octet is named exactly where it is the first against the header, or the first behind entries that stand.
abbrev pub NamesFirstFault : Type 0
NamesFirstFault = (dataset bytes : List ℕ) (f : NotATable) → length dataset ≤ 255 → AreOctets bytes
    → (listed dataset bytes ≡ Err f) ↔ ((mismatch 0 (fixed (header dataset)) bytes ≡ Some f) ⊎ IsFirstFault dataset bytes f)

-- an octet of the pattern, which is fixed or may have any value, is met by the octet that stands there
abbrev pub IsMet : Option ℕ → Option ℕ → Type 0
IsMet want None = ⊥
IsMet None (Some x) = Unit {0}
IsMet (Some w) (Some x) = x ≡ w

-- The first octet that does not meet a pattern, whose first place has this number.
pub record IsFirstAgainst (at : ℕ) (pattern : List (Option ℕ)) (bytes : List ℕ) (f : NotATable) : Type 0 where
  pub place : ℕ
  pub want : Option ℕ
  pub wanted : slice_get pattern place ≡ Some want
  pub before : (k : ℕ) (w : Option ℕ) → k < place → slice_get pattern k ≡ Some w → IsMet w (slice_get bytes k)
  pub against : IsMet want (slice_get bytes place) → ⊥
  pub is : f ≡ record { at = at + place; want = unwrap_or want 0; found = slice_get bytes place }

abbrev pub NamesFirstOctet : Type 0
NamesFirstOctet = (at : ℕ) (pattern : List (Option ℕ)) (bytes : List ℕ) (f : NotATable) → (mismatch at pattern bytes ≡ Some f) ↔ IsFirstAgainst at pattern bytes f
