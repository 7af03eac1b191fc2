-- What is printed of a fault: its kind, and its numbers or texts in their order, with a blank before each. A fault inside
-- a fault follows by the same rule.
use Rattle.std.specs.Prelude.{ℕ, List, ◌++◌, codes}
use Rattle.std.specs.Fmt.{decimal}
use Rattle.fd_key.specs.FaultTexts.{given_fault_text}
use Rattle.fd_request.specs.FaultTexts.{request_fault_text}
use Rattle.fd_script.specs.declared.fault.ScriptKind.{ScriptKind}
use Rattle.fd_script.specs.declared.fault.ScriptKind.TheVariants as kinds
use Rattle.fd_script.specs.declared.fault.ScriptFault.{ScriptFault}
use Rattle.fd_script.specs.declared.fault.ScriptFault.TheVariants as faults

-- what is wrong with a script
abbrev pub script_kind_text : ScriptKind → List ℕ
script_kind_text kinds.TooLong = codes "TooLong"
script_kind_text (kinds.Byte byte) = codes "Byte " ++ decimal byte
script_kind_text kinds.Dataset = codes "Dataset"
script_kind_text kinds.Word = codes "Word"
script_kind_text kinds.Name = codes "Name"
script_kind_text (kinds.Given fault) = codes "Given " ++ given_fault_text fault
script_kind_text (kinds.Request fault) = codes "Request " ++ request_fault_text fault
script_kind_text kinds.Number = codes "Number"
script_kind_text (kinds.TooMany count) = codes "TooMany " ++ decimal count
script_kind_text kinds.End = codes "End"

-- the line, and what is wrong with it
abbrev pub script_fault_text : ScriptFault → List ℕ
script_fault_text (faults.At line kind) = decimal line ++ codes " " ++ script_kind_text kind
script_fault_text faults.NoMemory = codes "NoMemory"
