-- What is printed of a fault: its kind.
use Rattle.std.specs.Prelude.{ℕ, List, codes}
use Rattle.fd_spelling.specs.declared.fault.ValueFault.{ValueFault}
use Rattle.fd_spelling.specs.declared.fault.ValueFault.TheVariants as value_faults

-- why a text is no value
abbrev pub value_fault_text : ValueFault → List ℕ
value_fault_text value_faults.BadValue = codes "BadValue"
value_fault_text value_faults.NoMemory = codes "NoMemory"
