-- Why a command is refused, and the line that tells it.
use Rattle.std.specs.Prelude.{ℕ, ◌/◌, ◌%◌, Bool, true, false, List, [], ◌∷◌, ◌++◌, codes, slice_index, Option, Some, None, if◌then◌else◌}
use Rattle.std.specs.Fmt.{decimal}
use Rattle.fd_disk.specs.declared.folders.FileKind.{FileKind}
use Rattle.fd_disk.specs.declared.folders.FileKind.TheVariants.{Fields, Index}
use Rattle.fd_disk.specs.declared.folders.FileName.{FileName}
use Rattle.fd_entries.specs.declared.table.NotATable.{NotATable}
use Rattle.fd_segment.specs.declared.fault.Damage.{Damage}
use Rattle.fd_segment.specs.declared.fault.Damage.TheVariants as damages
use Rattle.fd_key.specs.Pairs.{Pair, key_text}
use Rattle.fd_schema.specs.Grammar as schemas
use Rattle.fd_schema.specs.Reading.{line_of}
use Rattle.fd_schema.specs.FaultTexts.{schema_wrong_text}
use Rattle.fd_request.specs.Grammar as requests
use Rattle.fd_request.specs.FaultTexts.{request_wrong_text}
use Rattle.fd_listing.specs.Lines.{blank, line}
use Rattle.fd_split.specs.declared.refusal.Refusal.{Refusal}
use Rattle.fd_stored.specs.declared.status.Status.{Status}
use Rattle.fd_stored.specs.declared.status.Status.TheVariants as statuses
use Rattle.fd_stored.specs.Refusals.{refusal_line, refusal_status}

pub data Cause : Type 0 where
  -- what refuses a stream of messages
  InStream : (refusal : Refusal) → Cause
  SchemaMissing : Cause
  SchemaPresent : Cause
  -- the stored schema prints as another text than that of `trial`
  SchemaDifferent : Cause
  -- the first place that is wrong in the text that is to be the schema
  InSchema : (text : List ℕ) (fault : schemas.Fault) → Cause
  -- the same in the schema that is stored
  InStored : (text : List ℕ) (fault : schemas.Fault) → Cause
  -- the first place that is wrong in a request
  InRequest : (fault : requests.Fault) → Cause
  -- no rule admits the key
  NoRule : (key : List Pair) → Cause
  -- a key that matches has a value that is a word of ranges, `to` or `by`, so that no request can name it
  NoRequest : (key : List Pair) → Cause
  -- more keys match than a request may have
  TooManyKeys : Cause
  -- the key has no place under the layer with this number, from 1
  NoLayer : (layer : ℕ) (key : List Pair) → Cause
  -- a 2,049th dataset
  TooManyDatasets : Cause
  -- the dataset that is to be purged or wiped has no table
  NoDataset : Cause
  -- the first entry that is to be kept and whose writer is greater than a new table allows at its place, by its number
  WriterTooGreat : (entry writer : ℕ) → Cause

-- ---- limits

-- what is wrong in a schema passes a limit
abbrev pub is_schema_limit : schemas.Wrong → Bool
is_schema_limit schemas.TooLong = true
is_schema_limit (schemas.TooMany count) = true
is_schema_limit schemas.Byte = false
is_schema_limit schemas.Name = false
is_schema_limit schemas.Value = false
is_schema_limit (schemas.Twice name) = false
is_schema_limit schemas.Depth = false
is_schema_limit schemas.NoneRequired = false
is_schema_limit schemas.OtherVersion = false
is_schema_limit schemas.End = false
is_schema_limit schemas.Empty = false

-- the same of a request
abbrev pub is_request_limit : requests.Wrong → Bool
is_request_limit requests.TooLong = true
is_request_limit (requests.TooMany count) = true
is_request_limit requests.Verb = false
is_request_limit requests.Pair = false
is_request_limit (requests.Repeated name) = false
is_request_limit requests.Value = false
is_request_limit requests.Range = false
is_request_limit (requests.KeyTooLong len) = false

-- ---- lines

-- a status with its line
pub record Telling : Type 0 where
  pub status : Status
  pub line : List ℕ

abbrev pub refused_so : List ℕ → Telling
refused_so text = record { status = statuses.Refused; line = line (codes "refused " ++ text) }

abbrev pub limited_so : List ℕ → Telling
limited_so text = record { status = statuses.Limit; line = line (codes "limit " ++ text) }

abbrev pub damaged_so : List ℕ → Telling
damaged_so text = record { status = statuses.Damaged; line = line (codes "damaged " ++ text) }

-- `schema LINE KIND`
abbrev pub schema_place : List ℕ → schemas.Fault → List ℕ
schema_place text fault = codes "schema " ++ decimal (line_of text fault.at) ++ blank (schema_wrong_text (slice_index text fault.at) fault.kind)

abbrev pub schema_limit : List ℕ → schemas.Fault → Telling
schema_limit text fault = limited_so (schema_wrong_text (slice_index text fault.at) fault.kind)

-- what is told of a text that is no schema: the limit that it passes, or these words, the line, and what is wrong there
abbrev pub no_schema : List ℕ → Status → List ℕ → schemas.Fault → Telling
no_schema words status text fault =
    if is_schema_limit fault.kind then schema_limit text fault
    else record { status = status; line = line (words ++ decimal (line_of text fault.at) ++ blank (schema_wrong_text (slice_index text fault.at) fault.kind)) }

abbrev pub telling : Cause → Telling
telling (InStream refusal) = record { status = refusal_status refusal; line = refusal_line refusal }
telling SchemaMissing = refused_so (codes "SchemaMissing")
telling SchemaPresent = refused_so (codes "SchemaPresent")
telling SchemaDifferent = refused_so (codes "SchemaDifferent")
telling (InSchema text fault) = if is_schema_limit fault.kind then schema_limit text fault else refused_so (schema_place text fault)
telling (InStored text fault) = if is_schema_limit fault.kind then schema_limit text fault else damaged_so (schema_place text fault)
telling (InRequest fault) =
    if is_request_limit fault.kind then limited_so (request_wrong_text fault.kind)
    else refused_so (codes "request " ++ decimal fault.at ++ blank (request_wrong_text fault.kind))
telling (NoRule key) = refused_so (codes "NoRule " ++ key_text key)
telling (NoRequest key) = refused_so (codes "NoRequest " ++ key_text key)
telling TooManyKeys = limited_so (codes "TooMany 262145")
telling (NoLayer layer key) = refused_so (codes "Layer " ++ decimal layer ++ blank (key_text key))
telling TooManyDatasets = limited_so (codes "TooMany 2049")
telling NoDataset = refused_so (codes "NoDataset")
telling (WriterTooGreat entry writer) = limited_so (codes "Writers " ++ decimal entry ++ blank (decimal writer))

-- ---- damage

abbrev pub kind_text : FileKind → List ℕ
kind_text Fields = codes "fields"
kind_text Index = codes "index"

-- `W-Q.fields` or `W-Q.index`
abbrev pub file_text : FileName → List ℕ
file_text n = decimal n.writer ++ codes "-" ++ decimal n.seq ++ codes "." ++ kind_text n.kind

abbrev pub found_text : Option ℕ → List ℕ
found_text None = codes "-"
found_text (Some octet) = decimal octet

-- octets, each as two hexadecimal digits with small letters
abbrev pub hex_digit : ℕ → ℕ
hex_digit n = slice_index (codes "0123456789abcdef") n

abbrev pub hex_text : List ℕ → List ℕ
hex_text [] = []
hex_text (x ∷ xs) = hex_digit (x / 16) ∷ hex_digit (x % 16) ∷ hex_text xs

-- what is broken in a dataset: its table, or one of its files
pub data Broken : Type 0 where
  BadTable : (fault : NotATable) → Broken
  BadFile : (damage : Damage) → Broken

abbrev pub broken_text : Broken → List ℕ
broken_text (BadTable f) = codes "NotATable " ++ decimal f.at ++ blank (decimal f.want ++ blank (found_text f.found))
broken_text (BadFile (damages.Absent file)) = codes "Absent " ++ file_text file
broken_text (BadFile (damages.Length file want got)) = codes "Length " ++ file_text file ++ blank (decimal want ++ blank (decimal got))
broken_text (BadFile (damages.Index file at)) = codes "Index " ++ file_text file ++ blank (decimal at)
broken_text (BadFile (damages.Beyond file end len)) = codes "Beyond " ++ file_text file ++ blank (decimal end ++ blank (decimal len))
broken_text (BadFile (damages.IndexDigest file want got)) = codes "IndexDigest " ++ file_text file ++ blank (hex_text want ++ blank (hex_text got))
broken_text (BadFile (damages.FieldDigest file at want got)) = codes "FieldDigest " ++ file_text file ++ blank (decimal at ++ blank (hex_text want ++ blank (hex_text got)))

abbrev pub damaged_line : List ℕ → Broken → List ℕ
damaged_line dataset broken = (damaged_so (dataset ++ blank (broken_text broken))).line

abbrev pub table_full : List ℕ
table_full = (limited_so (codes "TableFull 65535")).line
