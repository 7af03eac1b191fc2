-- What reading an index answers.
use Rattle.std.specs.Prelude.{◌≡◌, ◌↔◌, ◌<◌, ℕ, List, slice_index, Result, Ok, Err}
use Rattle.std.specs.Borrow.{Bor}
use Rattle.fd_index.specs.declared.fault.IndexFault.{IndexFault}
use Rattle.fd_index.specs.declared.fault.IndexFault.TheVariants as faults
use Rattle.fd_index.specs.Records.{Record}
use Rattle.fd_index.specs.Pages.{IsIndex}
use Rattle.fd_index.specs.Reading.{index_at}

-- `BadIndex` is answered exactly where the bytes are against the format, with the first such place
abbrev pub Fails : {Y : Type 0} → IndexFault → Result Y ℕ → Type 0
Fails (faults.BadIndex at) reading = reading ≡ Err at
Fails faults.NoMemory reading = Unit {0}

-- what a reader returned is what reading gives, unless memory ran out
abbrev pub Gives : {X Y : Type 0} → (X → Y) → Result Y ℕ → Result X IndexFault → Type 0
Gives view reading (Ok x) = reading ≡ Ok (view x)
Gives view reading (Err e) = Fails e reading

-- the same of a reader that appends the records to those before them, and returns what is left of the bytes
abbrev pub PutsInto : Result (List Record × List ℕ) ℕ → List Record → Result (Bor (List ℕ)) IndexFault → Type 0
PutsInto reading new (Ok rest) = reading ≡ Ok (new, rest.now)
PutsInto reading new (Err e) = Fails e reading

-- and of one that returns a number
abbrev pub PutsPage : Result (List Record × ℕ) ℕ → List Record → Result ℕ IndexFault → Type 0
PutsPage reading new (Ok room) = reading ≡ Ok (new, room)
PutsPage reading new (Err e) = Fails e reading

-- and of one that returns nothing
abbrev pub PutsAll : Result (List Record) ℕ → List Record → Result (Unit {0}) IndexFault → Type 0
PutsAll reading new (Ok done) = reading ≡ Ok new
PutsAll reading new (Err e) = Fails e reading

abbrev pub ReadsAs : Result (List Record) ℕ → Result (List Record) IndexFault → Type 0
ReadsAs reading result = Gives (λ records. records) reading result

-- the bytes are no index file of any records, where they are refused
abbrev pub RefusesNoIndex : List ℕ → Result (List Record) IndexFault → Type 0
RefusesNoIndex bytes (Err (faults.BadIndex at)) = (records : List Record) → IsIndex records bytes → ⊥
RefusesNoIndex bytes (Ok records) = Unit {0}
RefusesNoIndex bytes (Err faults.NoMemory) = Unit {0}

-- each byte is an octet
pub record AreOctets (bytes : List ℕ) : Type 0 where
  pub each : (i : ℕ) → slice_index bytes i < 256

-- Bytes read as records exactly where they are the index file of these records.
abbrev pub ReadsItsRecords : Type 0
ReadsItsRecords = (bytes : List ℕ) (records : List Record) → AreOctets bytes → (index_at bytes ≡ Ok records) ↔ IsIndex records bytes
