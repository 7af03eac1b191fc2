-- Why a store has no rules.
use Rattle.std.specs.Prelude.{◌≡◌, ℕ, List, Option, Some, None}
use Rattle.fd_schema.specs.Grammar.{Fault}
use Rattle.fd_schema.specs.Reading.{IsFirst}
use Rattle.fd_outcome.specs.declared.stored.Unruled.{Unruled}
use Rattle.fd_outcome.specs.declared.stored.Unruled.TheVariants as unruled

-- what the refusal says of the stored schema
abbrev pub IsUnruled : {F : Type 0} → Option (List ℕ) → Unruled F → Type 0
IsUnruled schema (unruled.Disk f) = Unit {0}
IsUnruled schema unruled.Missing = schema ≡ None
IsUnruled schema (unruled.At line kind) = (text : List ℕ) × (fault : Fault) × (schema ≡ Some text) × IsFirst text line kind fault
IsUnruled schema unruled.NoMemory = Unit {0}

abbrev pub OnDisk : {F : Type 0} → Unruled F → Type 0 → Type 0
OnDisk (unruled.Disk f) P = P
OnDisk unruled.Missing P = Unit {0}
OnDisk (unruled.At line kind) P = Unit {0}
OnDisk unruled.NoMemory P = Unit {0}
