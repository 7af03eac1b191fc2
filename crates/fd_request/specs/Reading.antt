-- What the code that reads answers.
use Rattle.std.specs.Prelude.{◌≡◌, List, Result, Ok, Err, string_bytes}
use Rattle.fd_request.specs.declared.fault.RequestKind.{RequestKind}
use Rattle.fd_request.specs.declared.fault.RequestKind.TheVariants as kinds
use Rattle.fd_request.specs.declared.fault.RequestFault.{RequestFault}
use Rattle.fd_request.specs.declared.fault.RequestFault.TheVariants as faults
use Rattle.fd_tokens.specs.declared.refusal.Refusal.{Refusal}
use Rattle.fd_tokens.specs.declared.refusal.Refusal.TheVariants as refusals
use Rattle.fd_request.specs.Expansion.{Keyword}
use Rattle.fd_request.specs.Grammar.{Wrong, TooLong, Verb, Pair, Repeated, Value, Range, TooMany, KeyTooLong, Fault, wrong}

abbrev pub seen_kind : RequestKind → Wrong
seen_kind kinds.TooLong = TooLong
seen_kind kinds.Verb = Verb
seen_kind kinds.Pair = Pair
seen_kind (kinds.Repeated name) = Repeated (string_bytes name)
seen_kind kinds.Value = Value
seen_kind kinds.Range = Range
seen_kind (kinds.TooMany count) = TooMany count
seen_kind (kinds.KeyTooLong len) = KeyTooLong len

-- What a call refused is what this reading refuses. It may also have run out of memory.
abbrev pub Fails : {Y : Type 0} → Refusal RequestKind → Result Y Fault → Type 0
Fails refusals.NoMemory read = Unit {0}
Fails (refusals.At at kind) read = read ≡ wrong at (seen_kind kind)

-- What a call answered, seen by view, is what this reading gives.
abbrev pub Gives : {X Y : Type 0} → (X → Y) → Result X (Refusal RequestKind) → Result Y Fault → Type 0
Gives view (Ok x) read = read ≡ Ok (view x)
Gives view (Err e) read = Fails e read

-- What a call answered are the keywords of a text, or the first place that is wrong. It may also have run out of memory.
abbrev pub GivesKeywords : Result (List Keyword) RequestFault → Result (List Keyword) Fault → Type 0
GivesKeywords (Ok ks) read = read ≡ Ok ks
GivesKeywords (Err (faults.At at kind)) read = read ≡ wrong at (seen_kind kind)
GivesKeywords (Err faults.NoMemory) read = Unit {0}
