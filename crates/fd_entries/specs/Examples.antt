-- Worked tables: their bytes, what they list, and the first octet against the format.
use Rattle.std.specs.Prelude.{◌≡◌, ℕ, List, [], ◌∷◌, ◌++◌, length, replicate, take, Some, None, Ok, Err, codes, slice_set}
use Rattle.fd_entries.specs.declared.table.Entry.{Entry}
use Rattle.fd_entries.specs.Table.{listed, table_of}

-- writer 1 lists its first batch: two keys, 549 bytes, an index of 4,120 bytes
abbrev pub an_entry : Entry
an_entry = record { writer = 1; seq = 1; fields = 2; index_len = 4120; fields_len = 549; digest = None }

-- `FDTOC001`, the length of `a=1`, that text, and zeros to 319
abbrev pub header_bytes : List ℕ
header_bytes = 0x46 ∷ 0x44 ∷ 0x54 ∷ 0x4F ∷ 0x43 ∷ 0x30 ∷ 0x30 ∷ 0x31 ∷ 0x00 ∷ 0x03 ∷ 0x61 ∷ 0x3D ∷ 0x31 ∷ replicate 307 0

-- the open gate, the kind, the writer, the number of its batch, the keys, the lengths of the two files, 34 zeros
abbrev pub slot_bytes : List ℕ
slot_bytes =
    0x4F ∷ 0x01 ∷ 0x00 ∷ 0x00 ∷ 0x00 ∷ 0x01 ∷ 0x00 ∷ 0x00 ∷ 0x00 ∷ 0x01 ∷ 0x00 ∷ 0x00 ∷ 0x00 ∷ 0x02
    ∷ 0x00 ∷ 0x00 ∷ 0x00 ∷ 0x00 ∷ 0x00 ∷ 0x00 ∷ 0x10 ∷ 0x18 ∷ 0x00 ∷ 0x00 ∷ 0x00 ∷ 0x00 ∷ 0x00 ∷ 0x00 ∷ 0x02 ∷ 0x25 ∷ replicate 34 0

-- the same batch with digests, of 32 octets each: the SHA-256 of an index of 4,120 bytes, here the octets from 0 to 31
abbrev pub a_digest : List ℕ
a_digest =
    0 ∷ 1 ∷ 2 ∷ 3 ∷ 4 ∷ 5 ∷ 6 ∷ 7 ∷ 8 ∷ 9 ∷ 10 ∷ 11 ∷ 12 ∷ 13 ∷ 14 ∷ 15
    ∷ 16 ∷ 17 ∷ 18 ∷ 19 ∷ 20 ∷ 21 ∷ 22 ∷ 23 ∷ 24 ∷ 25 ∷ 26 ∷ 27 ∷ 28 ∷ 29 ∷ 30 ∷ 31 ∷ []

abbrev pub a_digested : Entry
a_digested = record { writer = 2; seq = 1; fields = 2; index_len = 4120; fields_len = 645; digest = Some a_digest }

abbrev pub digested_bytes : List ℕ
digested_bytes =
    0x4F ∷ 0x02 ∷ 0x00 ∷ 0x00 ∷ 0x00 ∷ 0x02 ∷ 0x00 ∷ 0x00 ∷ 0x00 ∷ 0x01 ∷ 0x00 ∷ 0x00 ∷ 0x00 ∷ 0x02
    ∷ 0x00 ∷ 0x00 ∷ 0x00 ∷ 0x00 ∷ 0x00 ∷ 0x00 ∷ 0x10 ∷ 0x18 ∷ 0x00 ∷ 0x00 ∷ 0x00 ∷ 0x00 ∷ 0x00 ∷ 0x00 ∷ 0x02 ∷ 0x85 ∷ a_digest ++ 0x00 ∷ 0x00 ∷ []

-- the table of `a=1` with that one entry: 385 bytes
abbrev pub table_bytes : List ℕ
table_bytes = header_bytes ++ slot_bytes ++ 0x00 ∷ []

-- a table of both kinds: 449 bytes
abbrev pub mixed_bytes : List ℕ
mixed_bytes = header_bytes ++ slot_bytes ++ digested_bytes ++ 0x00 ∷ []

pub record TableExamples : Type 0 where
  -- the bytes by the definitions are those that are written out
  pub bytes : table_of (codes "a=1") (an_entry ∷ []) 0 [] ≡ table_bytes
  pub long : length table_bytes ≡ 385
  pub lists : listed (codes "a=1") table_bytes ≡ Ok (an_entry ∷ [])
  -- a founded table lists nothing
  pub founded : listed (codes "a=1") (header_bytes ++ 0 ∷ []) ≡ Ok []
  -- a gate that is not 4F is closed, whatever its byte, and what stands behind it is not read
  pub torn : listed (codes "a=1") (slice_set table_bytes 320 0x4E) ≡ Ok []
  -- another dataset's table, a wrong mark, another kind, a byte that is no zero
  pub other_name : listed (codes "b=1") table_bytes ≡ Err (record { at = 10; want = 98; found = Some 97 })
  pub mark : listed (codes "a=1") (slice_set table_bytes 7 0x32) ≡ Err (record { at = 7; want = 0x31; found = Some 0x32 })
  pub kind : listed (codes "a=1") (slice_set table_bytes 321 3) ≡ Err (record { at = 321; want = 1; found = Some 3 })
  pub filler : listed (codes "a=1") (slice_set table_bytes 383 7) ≡ Err (record { at = 383; want = 0; found = Some 7 })
  -- writer 65,537 in the first slot, whose greatest is 65,536
  pub great_writer : listed (codes "a=1") (slice_set table_bytes 323 1) ≡ Err (record { at = 325; want = 0; found = Some 1 })
  -- the gate after the run is missing, and so are a writer's last octet and the last zero
  pub no_gate : listed (codes "a=1") (take 384 table_bytes) ≡ Err (record { at = 384; want = 0; found = None })
  pub cut_number : listed (codes "a=1") (take 325 table_bytes) ≡ Err (record { at = 325; want = 0; found = None })
  pub no_body : listed (codes "a=1") (take 321 table_bytes) ≡ Err (record { at = 321; want = 1; found = None })
  -- entries of kind 1 and of kind 2 stand in one table; behind a digest stand two zeros, and a digest whose end is missing is
  -- a number that may have any value
  pub mixed : table_of (codes "a=1") (an_entry ∷ a_digested ∷ []) 0 [] ≡ mixed_bytes
  pub lists_mixed : listed (codes "a=1") mixed_bytes ≡ Ok (an_entry ∷ a_digested ∷ [])
  pub digested_filler : listed (codes "a=1") (slice_set mixed_bytes 446 7) ≡ Err (record { at = 446; want = 0; found = Some 7 })
  pub cut_digest : listed (codes "a=1") (take 445 mixed_bytes) ≡ Err (record { at = 445; want = 0; found = None })
  pub as_kind_1 : listed (codes "a=1") (slice_set mixed_bytes 385 1) ≡ Err (record { at = 415; want = 0; found = Some 1 })
