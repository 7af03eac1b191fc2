-- What is printed of a fault: its kind, and its numbers in their order, with a blank before each.
use Rattle.std.specs.Prelude.{ℕ, List, ◌++◌, codes}
use Rattle.std.specs.Fmt.{decimal}
use Rattle.fd_packing.specs.declared.fault.FieldFault.{FieldFault}
use Rattle.fd_packing.specs.declared.fault.FieldFault.TheVariants as fields
use Rattle.fd_packing.specs.declared.fault.PackFault.{PackFault}
use Rattle.fd_packing.specs.declared.fault.PackFault.TheVariants as packs

-- why the values of a message are not read
abbrev pub field_fault_text : FieldFault → List ℕ
field_fault_text (fields.Template template) = codes "Template " ++ decimal template
field_fault_text (fields.BadLength said) = codes "BadLength " ++ decimal said
field_fault_text (fields.Bits bits) = codes "Bits " ++ decimal bits
field_fault_text (fields.ReferenceNotFinite raw) = codes "ReferenceNotFinite " ++ decimal raw
field_fault_text (fields.TooWide need) = codes "TooWide " ++ decimal need
field_fault_text (fields.BitMap indicator) = codes "BitMap " ++ decimal indicator
field_fault_text (fields.MapShort need found) = codes "MapShort " ++ decimal need ++ codes " " ++ decimal found
field_fault_text (fields.Count said found) = codes "Count " ++ decimal said ++ codes " " ++ decimal found
field_fault_text (fields.PackedShort need found) = codes "PackedShort " ++ decimal need ++ codes " " ++ decimal found
field_fault_text fields.NoMemory = codes "NoMemory"

-- why numbers are not packed
abbrev pub pack_fault_text : PackFault → List ℕ
pack_fault_text (packs.DoesNotFit at) = codes "DoesNotFit " ++ decimal at
pack_fault_text packs.NoMemory = codes "NoMemory"
