-- What is printed of a fault: its kind, and its numbers or texts in their order, with a blank before each.
use Rattle.std.specs.Prelude.{ℕ, List, ◌++◌, codes, string_bytes}
use Rattle.std.specs.Fmt.{decimal}
use Rattle.fd_schema.specs.declared.fault.SchemaKind.{SchemaKind}
use Rattle.fd_schema.specs.declared.fault.SchemaKind.TheVariants as kinds
use Rattle.fd_schema.specs.declared.fault.SchemaFault.{SchemaFault}
use Rattle.fd_schema.specs.declared.fault.SchemaFault.TheVariants as faults
use Rattle.fd_schema.specs.declared.fault.PlaceFault.{PlaceFault}
use Rattle.fd_schema.specs.declared.fault.PlaceFault.TheVariants as place_faults
use Rattle.fd_schema.specs.Grammar.{Wrong, TooLong, Byte, Name, Value, Twice, Depth, NoneRequired, TooMany, OtherVersion, End, Empty}

-- what is wrong in a schema where this byte stands
abbrev pub schema_wrong_text : ℕ → Wrong → List ℕ
schema_wrong_text byte TooLong = codes "TooLong"
schema_wrong_text byte Byte = codes "Byte " ++ decimal byte
schema_wrong_text byte Name = codes "Name"
schema_wrong_text byte Value = codes "Value"
schema_wrong_text byte (Twice name) = codes "Twice " ++ name
schema_wrong_text byte Depth = codes "Depth"
schema_wrong_text byte NoneRequired = codes "Level"
schema_wrong_text byte (TooMany count) = codes "TooMany " ++ decimal count
schema_wrong_text byte OtherVersion = codes "Version"
schema_wrong_text byte End = codes "End"
schema_wrong_text byte Empty = codes "Empty"

-- the text of a kind
abbrev pub schema_kind_text : SchemaKind → List ℕ
schema_kind_text kinds.TooLong = schema_wrong_text 0 TooLong
schema_kind_text (kinds.Byte byte) = schema_wrong_text byte Byte
schema_kind_text kinds.Name = schema_wrong_text 0 Name
schema_kind_text kinds.Value = schema_wrong_text 0 Value
schema_kind_text (kinds.Twice name) = schema_wrong_text 0 (Twice (string_bytes name))
schema_kind_text kinds.Depth = schema_wrong_text 0 Depth
schema_kind_text kinds.Level = schema_wrong_text 0 NoneRequired
schema_kind_text (kinds.TooMany count) = schema_wrong_text 0 (TooMany count)
schema_kind_text kinds.Version = schema_wrong_text 0 OtherVersion
schema_kind_text kinds.End = schema_wrong_text 0 End
schema_kind_text kinds.Empty = schema_wrong_text 0 Empty

-- the line, and what is wrong there
abbrev pub schema_fault_text : SchemaFault → List ℕ
schema_fault_text (faults.At line kind) = decimal line ++ codes " " ++ schema_kind_text kind
schema_fault_text faults.NoMemory = codes "NoMemory"

-- why a key has no place
abbrev pub place_fault_text : PlaceFault → List ℕ
place_fault_text place_faults.NoRule = codes "NoRule"
place_fault_text place_faults.NoMemory = codes "NoMemory"
