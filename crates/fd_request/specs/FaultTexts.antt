-- What is printed of a fault: its kind, and its numbers or texts in their order, with a blank before each.
use Rattle.std.specs.Prelude.{ℕ, List, ◌++◌, codes}
use Rattle.std.specs.Fmt.{decimal}
use Rattle.fd_request.specs.declared.fault.RequestKind.{RequestKind}
use Rattle.fd_request.specs.declared.fault.RequestFault.{RequestFault}
use Rattle.fd_request.specs.declared.fault.RequestFault.TheVariants as faults
use Rattle.fd_request.specs.Grammar.{Wrong, TooLong, Verb, Pair, Repeated, Value, Range, TooMany, KeyTooLong}
use Rattle.fd_request.specs.Reading.{seen_kind}

-- what is wrong in a request
abbrev pub request_wrong_text : Wrong → List ℕ
request_wrong_text TooLong = codes "TooLong"
request_wrong_text Verb = codes "Verb"
request_wrong_text Pair = codes "Pair"
request_wrong_text (Repeated name) = codes "Repeated " ++ name
request_wrong_text Value = codes "Value"
request_wrong_text Range = codes "Range"
request_wrong_text (TooMany count) = codes "TooMany " ++ decimal count
request_wrong_text (KeyTooLong len) = codes "KeyTooLong " ++ decimal len

abbrev pub request_kind_text : RequestKind → List ℕ
request_kind_text kind = request_wrong_text (seen_kind kind)

-- the place, and what is wrong there
abbrev pub request_fault_text : RequestFault → List ℕ
request_fault_text (faults.At at kind) = decimal at ++ codes " " ++ request_kind_text kind
request_fault_text faults.NoMemory = codes "NoMemory"
