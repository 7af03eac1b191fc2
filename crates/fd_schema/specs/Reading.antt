-- What the calls that read answer.
use Rattle.std.specs.Prelude.{◌≡◌, ℕ, ◌+◌, List, take, count_by, ◌==◌, slice_index, Result, Ok, Err, Option, Some, None, string_bytes}
use Rattle.fd_schema.specs.declared.fault.Wrong as code_wrong
use Rattle.fd_schema.specs.declared.fault.Wrong.TheVariants as wrongs
use Rattle.fd_tokens.specs.declared.refusal.Refusal.{Refusal}
use Rattle.fd_tokens.specs.declared.refusal.Refusal.TheVariants as refusals
use Rattle.fd_schema.specs.declared.fault.SchemaKind.{SchemaKind}
use Rattle.fd_schema.specs.declared.fault.SchemaKind.TheVariants as kinds
use Rattle.fd_schema.specs.declared.fault.SchemaFault.{SchemaFault}
use Rattle.fd_schema.specs.declared.fault.SchemaFault.TheVariants as faults
use Rattle.fd_schema.specs.declared.fault.PlaceFault.{PlaceFault}
use Rattle.fd_schema.specs.declared.fault.PlaceFault.TheVariants as place_faults
use Rattle.fd_schema.specs.declared.place.Place.{Place}
use Rattle.fd_schema.specs.Rules.{Rule, Texts}
use Rattle.fd_schema.specs.Grammar.{Wrong, TooLong, Byte, Name, Value, Twice, Depth, NoneRequired, TooMany, OtherVersion, End, Empty, Fault, wrong, schema_of}

abbrev pub seen_wrong : code_wrong.Wrong → Wrong
seen_wrong wrongs.Byte = Byte
seen_wrong wrongs.Name = Name
seen_wrong wrongs.Value = Value
seen_wrong (wrongs.Twice name) = Twice (string_bytes name)
seen_wrong wrongs.Depth = Depth
seen_wrong wrongs.NoneRequired = NoneRequired
seen_wrong (wrongs.TooMany count) = TooMany count
seen_wrong wrongs.OtherVersion = OtherVersion
seen_wrong wrongs.End = End
seen_wrong wrongs.Empty = Empty

-- What a call answered, seen by view, is what this reading gives. It may also have run out of memory.
abbrev pub Fails : {Y : Type 0} → Refusal code_wrong.Wrong → Result Y Fault → Type 0
Fails refusals.NoMemory read = Unit {0}
Fails (refusals.At at kind) read = read ≡ wrong at (seen_wrong kind)

abbrev pub Gives : {X Y : Type 0} → (X → Y) → Result X (Refusal code_wrong.Wrong) → Result Y Fault → Type 0
Gives view (Ok x) read = read ≡ Ok (view x)
Gives view (Err e) read = Fails e read

-- the line of a place, from 1
abbrev pub line_of : List ℕ → ℕ → ℕ
line_of text at = 1 + count_by (λ b. b == 10) (take at text)

-- the kind that a call names for what is wrong where this byte stands
abbrev pub Names : SchemaKind → ℕ → Wrong → Type 0
Names kinds.TooLong byte kind = kind ≡ TooLong
Names (kinds.Byte b) byte kind = (kind ≡ Byte) × (b ≡ byte)
Names kinds.Name byte kind = kind ≡ Name
Names kinds.Value byte kind = kind ≡ Value
Names (kinds.Twice name) byte kind = kind ≡ Twice (string_bytes name)
Names kinds.Depth byte kind = kind ≡ Depth
Names kinds.Level byte kind = kind ≡ NoneRequired
Names (kinds.TooMany count) byte kind = kind ≡ TooMany count
Names kinds.Version byte kind = kind ≡ OtherVersion
Names kinds.End byte kind = kind ≡ End
Names kinds.Empty byte kind = kind ≡ Empty

-- the line and the kind of the first place that is wrong
pub record IsFirst (text : List ℕ) (line : ℕ) (kind : SchemaKind) (fault : Fault) : Type 0 where
  pub place : schema_of text ≡ Err fault
  pub line_is : line ≡ line_of text fault.at
  pub kind_is : Names kind (slice_index text fault.at) fault.kind

-- What a call answered are the rules of the text, or the first place that is wrong. It may also have run out of memory.
abbrev pub GivesSchema : List ℕ → Result (List Rule) SchemaFault → Type 0
GivesSchema text (Ok rules) = schema_of text ≡ Ok rules
GivesSchema text (Err (faults.At line kind)) = (fault : Fault) × IsFirst text line kind fault
GivesSchema text (Err faults.NoMemory) = Unit {0}

-- a place is seen as its texts
abbrev pub seen_place : Place → Texts
seen_place p = p

-- What a call answered is this place, or there is none. It may also have run out of memory.
abbrev pub GivesPlace : Result Place PlaceFault → Option Texts → Type 0
GivesPlace (Ok place) found = found ≡ Some (seen_place place)
GivesPlace (Err place_faults.NoRule) found = found ≡ None
GivesPlace (Err place_faults.NoMemory) found = Unit {0}
