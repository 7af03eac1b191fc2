-- The worked rows over a store.
use Rattle.std.specs.Prelude.{◌≡◌, ℕ, List, [], ◌∷◌, ◌++◌, replicate, take, drop, codes, Option, Some, None, Result, Ok, if◌then◌else◌}
use Rattle.std.specs.Str.{bytes_eq}
use Rattle.std.specs.Int.{w16, w32, w64, to_be_bytes}
use Rattle.fd_key.specs.Pairs as keys
use Rattle.fd_disk.specs.declared.folders.FileKind.TheVariants.{Fields, Index}
use Rattle.fd_disk.specs.declared.folders.FileName.{FileName}
use Rattle.fd_disk.specs.Folders.{Contents, Holdings}
use Rattle.fd_disk.specs.Images.{firm_file}
use Rattle.fd_disk.specs.Names.{same_name, name_of}
use Rattle.fd_entries.specs.declared.batch.Pair.{Pair}
use Rattle.fd_entries.specs.declared.table.Entry.{Entry}
use Rattle.fd_entries.specs.Table.{table_of}
use Rattle.fd_schema.specs.Rules.{Rule}
use Rattle.fd_request.specs.Expansion.{Keyword, expand}
use Rattle.fd_listing.specs.Lines.{line}
use Rattle.fd_segment.specs.declared.fault.Damage.TheVariants as damages
use Rattle.fd_entries.specs.Batches.{newest}
use Rattle.fd_words.specs.declared.command.Command.TheVariants.{Create, Retrieve, RetrieveOver, List as List_, Axes, Split, Stats, Trial}
use Rattle.fd_stored.specs.declared.status.Status.TheVariants.{Done, Missed, Refused, Damaged}
use Rattle.fd_stored.specs.Causes.{Cause, BadTable, BadFile, damaged_line}
use Rattle.fd_outcome.specs.Asking.{Asked, rules_of, request_in, partial_in, placed, ◌then◌}
use Rattle.fd_stored.specs.Archiving.{taken}
use Rattle.fd_outcome.specs.Trying.{trial_rules}
use Rattle.fd_outcome.specs.Outcome.{outcome, archived}
use Rattle.fd_stored.specs.Store.{table_at}

-- m(0): one field of 183 octets
abbrev pub field : List ℕ
field = 71 ∷ 82 ∷ 73 ∷ 66 ∷ 255 ∷ 255 ∷ 0 ∷ 2 ∷ 0 ∷ 0 ∷ 0 ∷ 0 ∷ 0 ∷ 0 ∷ 0 ∷ 183 ∷ 0 ∷ 0 ∷ 0 ∷ 21 ∷ 1 ∷ 0 ∷ 98 ∷ 0 ∷ 0 ∷ 2 ∷ 0 ∷ 1 ∷ 7 ∷ 232 ∷ 1 ∷ 1 ∷ 0 ∷ 0 ∷ 0 ∷ 0 ∷ 1 ∷ 0 ∷ 0 ∷ 0 ∷ 72 ∷ 3 ∷ 0 ∷ 0 ∷ 0 ∷ 0 ∷ 4 ∷ 0 ∷ 0 ∷ 0 ∷ 0 ∷ 6 ∷ 255 ∷ 255 ∷ 255 ∷ 255 ∷ 255 ∷ 255 ∷ 255 ∷ 255 ∷ 255 ∷ 255 ∷ 255 ∷ 255 ∷ 255 ∷ 255 ∷ 255 ∷ 0 ∷ 0 ∷ 0 ∷ 2 ∷ 0 ∷ 0 ∷ 0 ∷ 2 ∷ 0 ∷ 0 ∷ 0 ∷ 0 ∷ 255 ∷ 255 ∷ 255 ∷ 255 ∷ 0 ∷ 152 ∷ 150 ∷ 128 ∷ 0 ∷ 0 ∷ 0 ∷ 0 ∷ 48 ∷ 0 ∷ 0 ∷ 0 ∷ 0 ∷ 0 ∷ 152 ∷ 150 ∷ 128 ∷ 0 ∷ 152 ∷ 150 ∷ 128 ∷ 0 ∷ 152 ∷ 150 ∷ 128 ∷ 0 ∷ 0 ∷ 0 ∷ 0 ∷ 34 ∷ 4 ∷ 0 ∷ 0 ∷ 0 ∷ 0 ∷ 0 ∷ 0 ∷ 2 ∷ 0 ∷ 0 ∷ 0 ∷ 0 ∷ 0 ∷ 1 ∷ 0 ∷ 0 ∷ 0 ∷ 0 ∷ 100 ∷ 0 ∷ 0 ∷ 1 ∷ 134 ∷ 160 ∷ 255 ∷ 255 ∷ 255 ∷ 255 ∷ 255 ∷ 255 ∷ 0 ∷ 0 ∷ 0 ∷ 21 ∷ 5 ∷ 0 ∷ 0 ∷ 0 ∷ 4 ∷ 0 ∷ 0 ∷ 67 ∷ 250 ∷ 0 ∷ 0 ∷ 128 ∷ 1 ∷ 0 ∷ 1 ∷ 8 ∷ 0 ∷ 0 ∷ 0 ∷ 0 ∷ 6 ∷ 6 ∷ 255 ∷ 0 ∷ 0 ∷ 0 ∷ 9 ∷ 7 ∷ 3 ∷ 16 ∷ 29 ∷ 42 ∷ 55 ∷ 55 ∷ 55 ∷ 55 ∷ []

-- the same with its last packed octet 2B in place of 2A
abbrev pub other_field : List ℕ
other_field = take 178 field ++ 43 ∷ codes "7777"

-- sections 4 to 7 of it
abbrev pub round : List ℕ
round = drop 109 (take 179 field)

-- the field twice in one message: these octets behind its own sections, and another length
abbrev pub field_with : List ℕ → List ℕ
field_with again = take 15 field ++ 253 ∷ drop 16 (take 179 field) ++ again ++ codes "7777"

-- the same, whose second round has the bit map before it
abbrev pub unmapped_round : List ℕ
unmapped_round = take 60 round ++ 254 ∷ drop 61 round

abbrev pub given : List keys.Pair
given = (codes "class", codes "od") ∷ (codes "expver", codes "0001") ∷ []

abbrev pub schema_text : List ℕ
schema_text = codes "[class, expver, date, time [centre, type, levtype [param, step, levelist?]]]"

abbrev pub request : List ℕ → List ℕ
request level = codes "retrieve,class=od,expver=0001,date=20240101,time=00,centre=98,type=1,levtype=100,param=0.0.0,step=0,levelist=" ++ level

abbrev pub other_request : List ℕ
other_request = codes "retrieve,class=od,expver=0002,date=20240101,time=00,centre=98,type=1,levtype=100,param=0.0.0,step=0,levelist=100000"

abbrev pub dataset : List ℕ
dataset = codes "class=od,expver=0001,date=20240101,time=0000"

abbrev pub file_key : List ℕ
file_key = codes "centre=98,type=1,levtype=100|param=0.0.0,step=0,levelist=100000"

-- what the schema is, for all rows
abbrev pub rules : Result (List Rule) Cause
rules = rules_of (Some schema_text)

-- the request as keys with their places
abbrev pub asked : List ℕ → Result (List Asked) Cause
asked level = rules then λ rs. (request_in (request level) then λ ks. placed rs (expand ks))

-- the key of a request, in the request's order
abbrev pub key_of_level : List ℕ → List keys.Pair
key_of_level level = (codes "class", codes "od") ∷ (codes "expver", codes "0001") ∷ (codes "date", codes "20240101") ∷ (codes "time", codes "0000")
    ∷ (codes "centre", codes "98") ∷ (codes "type", codes "1") ∷ (codes "levtype", codes "100") ∷ (codes "param", codes "0.0.0") ∷ (codes "step", codes "0")
    ∷ (codes "levelist", level) ∷ []

abbrev pub pair : List ℕ → Pair
pair bytes = record { key = file_key; bytes = bytes }

-- ---- a store with the one field, as its files stand

abbrev pub entry : Entry
entry = record { writer = 1; seq = 1; fields = 1; index_len = 4120; fields_len = 183; digest = None }

abbrev pub index_bytes : List ℕ
index_bytes = codes "FDIDX001" ++ to_be_bytes w16 1 ++ to_be_bytes w16 63 ++ file_key ++ to_be_bytes w64 0 ++ to_be_bytes w64 183 ++ replicate 4013 0
    ++ to_be_bytes w64 1 ++ to_be_bytes w32 1 ++ codes "FEND"

abbrev pub files : FileName → Option (List ℕ)
files n = if same_name n (name_of 1 1 Fields) then Some field else (if same_name n (name_of 1 1 Index) then Some index_bytes else None)

abbrev pub folder : Contents
folder = record { table = Some (firm_file (table_of dataset (entry ∷ []) 0 [])); files = files }

abbrev pub store : Holdings
store = record { schema = Some schema_text; folders = λ name. if bytes_eq name dataset then Some folder else None }

-- a store that holds nothing
abbrev pub nothing : Holdings
nothing = record { schema = None; folders = λ name. None }

abbrev pub names : List (List ℕ)
names = dataset ∷ []

-- `list,param=0.0.0`
abbrev pub partial : List ℕ
partial = codes "list,param=0.0.0"

abbrev pub partial_keywords : List Keyword
partial_keywords = record { name = codes "param"; values = codes "0.0.0" ∷ [] } ∷ []

abbrev pub axis : List ℕ → List ℕ
axis text = line (dataset ++ codes " centre=98,type=1,levtype=100 " ++ text)

pub record Rows : Type 0 where
  -- `archive` of one field, of nothing, of the field twice with other values
  pub taken_one : (rules then λ rs. Ok (taken rs given field)) ≡ Ok (record { stored = record { dataset = dataset; pair = pair field } ∷ []; refusal = None; junk = 0; next = 2 })
  pub archived_one : archived given rules field ≡ record { output = []; report = line (codes "archived 1 datasets 1 junk 0"); status = Done }
  pub archived_none : archived given rules [] ≡ record { output = []; report = line (codes "archived 0 datasets 0 junk 0"); status = Done }
  pub archived_two : archived given rules (field ++ other_field) ≡ record { output = []; report = line (codes "archived 2 datasets 1 junk 0"); status = Done }
  -- of both fields of one message, and of a field and a message whose second field lacks a bit map
  pub archived_fields : archived given rules (field_with round) ≡ record { output = []; report = line (codes "archived 2 datasets 1 junk 0"); status = Done }
  pub archived_unmapped : archived given rules (field ++ field_with unmapped_round) ≡ record { output = []; report = line (codes "refused message 2 NoMap 2"); status = Refused }
  -- `split` of a message of two fields, of the field behind three octets, and of two fields of which the second lacks a bit map
  pub split_two : outcome Split nothing [] (field_with round) ≡ Some (record { output = field ++ field; report = line (codes "split 2 junk 0"); status = Done })
  pub split_one : outcome Split nothing [] (codes "GRI" ++ field) ≡ Some (record { output = field; report = line (codes "split 1 junk 3"); status = Done })
  pub split_unmapped : outcome Split nothing [] (field ++ field_with unmapped_round) ≡ Some (record { output = field; report = line (codes "refused message 2 NoMap 2"); status = Refused })
  -- the request's one key and its place
  pub asked_for : asked (codes "100000") ≡ Ok (record { key = key_of_level (codes "100000"); place = record { rule = 0; dataset = dataset; index = codes "centre=98,type=1,levtype=100"; datum = codes "param=0.0.0,step=0,levelist=100000" } } ∷ [])
  -- the files stand for one batch of one pair
  pub table : table_at store dataset ≡ Some ((pair field ∷ []) ∷ [])
  -- `retrieve` of the field, and of a level that isn't stored
  pub retrieved_one : outcome (Retrieve [] 1) store names (request (codes "100000")) ≡ Some (record { output = field; report = line (codes "found 1 missed 0"); status = Done })
  pub missed_one : outcome (Retrieve [] 1) store names (request (codes "5")) ≡ Some (record {
    output = [];
    report = line (codes "miss class=od,expver=0001,date=20240101,time=0000,centre=98,type=1,levtype=100,param=0.0.0,step=0,levelist=5") ++ line (codes "found 0 missed 1");
    status = Missed;
  })
  -- the same of another experiment over this one, and under a name that the key hasn't
  pub retrieved_over : outcome (RetrieveOver [] (((codes "expver", codes "0001") ∷ []) ∷ []) 1) store names other_request ≡ Some (record { output = field; report = line (codes "found 1 missed 0"); status = Done })
  pub no_layer : outcome (RetrieveOver [] (((codes "expver", codes "0001") ∷ []) ∷ ((codes "stream", codes "x") ∷ []) ∷ []) 1) store names other_request ≡ Some (record {
    output = [];
    report = line (codes "refused Layer 2 class=od,expver=0002,date=20240101,time=0000,centre=98,type=1,levtype=100,param=0.0.0,step=0,levelist=100000");
    status = Refused;
  })
  -- the second of two pairs in one batch, and of two batches
  pub newest_in_batch : newest ((pair field ∷ pair other_field ∷ []) ∷ []) file_key ≡ Some other_field
  pub newest_batch : newest ((pair field ∷ []) ∷ (pair other_field ∷ []) ∷ []) file_key ≡ Some other_field
  -- the three listings
  pub partial_is : partial_in partial ≡ Ok partial_keywords
  pub lists : outcome (List_ []) store names partial ≡ Some (record { output = line (dataset ++ codes " centre=98,type=1,levtype=100 param=0.0.0,step=0,levelist=100000 183 1"); report = []; status = Done })
  pub axes : outcome (Axes []) store names partial ≡ Some (record { output = axis (codes "levelist=100000") ++ axis (codes "param=0.0.0") ++ axis (codes "step=0"); report = []; status = Done })
  pub stats : outcome (Stats []) store names [] ≡ Some (record { output = line (dataset ++ codes " entries 1 fields 1 keys 1 bytes 183"); report = []; status = Done })
  -- `create` of the schema, and over one; no schema
  pub created_new : outcome (Create []) (record { schema = None; folders = λ n. None }) [] schema_text ≡ Some (record { output = []; report = line (codes "created"); status = Done })
  pub created_again : outcome (Create []) store names schema_text ≡ Some (record { output = []; report = line (codes "refused SchemaPresent"); status = Refused })
  pub no_schema : outcome (Stats []) (record { schema = None; folders = λ n. None }) [] [] ≡ Some (record { output = []; report = line (codes "refused SchemaMissing"); status = Refused })
  pub damaged_schema : outcome (Stats []) (record { schema = Some (codes "[a"); folders = λ n. None }) [] [] ≡ Some (record { output = []; report = line (codes "damaged schema 1 End"); status = Damaged })
  -- `trial` where there is no schema, and over another one
  pub planted_rules : trial_rules None ≡ rules
  pub tried_two : outcome (Trial [] 2 4) (record { schema = None; folders = λ n. None }) [] [] ≡ Some (record { output = []; report = line (codes "trial 2 found 2 bytes 366 missed 0"); status = Done })
  pub tried_over : outcome (Trial [] 2 4) (record { schema = Some (codes "[class, expver, date [centre, type, levtype [param, step, levelist?]]]"); folders = λ n. None }) [] [] ≡ Some (record { output = []; report = line (codes "refused SchemaDifferent"); status = Refused })
  -- lines of damage
  pub absent : damaged_line (codes "DS") (BadFile (damages.Absent (name_of 1 1 Fields))) ≡ line (codes "damaged DS Absent 1-1.fields")
  pub short : damaged_line (codes "DS") (BadFile (damages.Length (name_of 1 1 Index) 4120 4000)) ≡ line (codes "damaged DS Length 1-1.index 4120 4000")
  pub bad_index : damaged_line (codes "DS") (BadFile (damages.Index (name_of 1 1 Index) 0)) ≡ line (codes "damaged DS Index 1-1.index 0")
  pub beyond : damaged_line (codes "DS") (BadFile (damages.Beyond (name_of 1 1 Fields) 184 183)) ≡ line (codes "damaged DS Beyond 1-1.fields 184 183")
  pub index_digest : damaged_line (codes "DS") (BadFile (damages.IndexDigest (name_of 1 1 Index) (0 ∷ 171 ∷ []) (255 ∷ 16 ∷ []))) ≡ line (codes "damaged DS IndexDigest 1-1.index 00ab ff10")
  pub field_digest : damaged_line (codes "DS") (BadFile (damages.FieldDigest (name_of 1 1 Fields) 215 (9 ∷ 10 ∷ []) (160 ∷ 95 ∷ []))) ≡ line (codes "damaged DS FieldDigest 1-1.fields 215 090a a05f")
  pub cut_table : damaged_line (codes "DS") (BadTable (record { at = 5; want = 48; found = None })) ≡ line (codes "damaged DS NotATable 5 48 -")
