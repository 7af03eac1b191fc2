-- What is printed of a fault: its kind, and its numbers or texts in their order, with a blank before each.
use Rattle.std.specs.Prelude.{ℕ, List, ◌++◌, codes, string_bytes}
use Rattle.std.specs.Fmt.{decimal}
use Rattle.fd_key.specs.declared.fault.KeyFault.{KeyFault}
use Rattle.fd_key.specs.declared.fault.KeyFault.TheVariants as key_faults
use Rattle.fd_key.specs.declared.fault.GivenFault.{GivenFault}
use Rattle.fd_key.specs.declared.fault.GivenFault.TheVariants as given_faults

-- why a message has no key
abbrev pub key_fault_text : KeyFault → List ℕ
key_fault_text (key_faults.Product template) = codes "Product " ++ decimal template
key_fault_text (key_faults.ProductLength said) = codes "ProductLength " ++ decimal said
key_fault_text key_faults.BadDate = codes "BadDate"
key_fault_text (key_faults.KeyTooLong len) = codes "KeyTooLong " ++ decimal len
key_fault_text key_faults.NoMemory = codes "NoMemory"

-- why pairs are refused
abbrev pub given_fault_text : GivenFault → List ℕ
given_fault_text (given_faults.Pair at) = codes "Pair " ++ decimal at
given_fault_text (given_faults.Clash name) = codes "Clash " ++ string_bytes name
given_fault_text (given_faults.Twice name) = codes "Twice " ++ string_bytes name
given_fault_text given_faults.NoMemory = codes "NoMemory"
