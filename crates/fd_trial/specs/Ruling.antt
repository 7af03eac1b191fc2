-- Why a trial has no rules, and what that leaves.
use Rattle.std.specs.Prelude.{◌≡◌, ◌⊎◌, ℕ, List, Option, Some, None, Vec, Result, Err, IfErr, IfOk, OnErr, unwrap_or}
use Rattle.std.specs.declared.alloc.Global.{Global}
use Rattle.fd_bytes.specs.Causes.{Rose}
use Rattle.fd_disk.specs.Folders.{Holdings, WhereTold, planted}
use Rattle.fd_schema.specs.Grammar.{Fault}
use Rattle.fd_schema.specs.Reading.{IsFirst}
use Rattle.fd_outcome.specs.Asking.{rules_of, ◌then◌}
use Rattle.fd_stored.specs.Causes.{SchemaDifferent}
use Rattle.fd_outcome.specs.Ends.{IsPlanted}
use Rattle.fd_stored.specs.Store.{Plants, Stays}
use Rattle.fd_outcome.specs.Trying.{if_trial, trial_schema}
use Rattle.fd_trial.specs.declared.ruling.Unruled.{Unruled}
use Rattle.fd_trial.specs.declared.ruling.Unruled.TheVariants as unruled

-- all stays, or the schema of a trial was planted
abbrev pub IsLeft : Holdings → Holdings → Type 0
IsLeft h m = Stays h m ⊎ Plants trial_schema h m

-- the store is the same, or the same with the schema of a trial, where there was none
abbrev pub IsPlantedOnly : Holdings → Holdings → Type 0
IsPlantedOnly h m = (m ≡ h) ⊎ ((h.schema ≡ None) × (m ≡ planted trial_schema h))

-- a fault of the store, or want of memory
abbrev pub IsOfStore : Unruled → Type 0
IsOfStore unruled.Disk = Unit {0}
IsOfStore unruled.Different = ⊥
IsOfStore (unruled.At line kind) = ⊥
IsOfStore unruled.NoMemory = Unit {0}

abbrev pub OnDisk : Unruled → Type 0 → Type 0
OnDisk unruled.Disk P = P
OnDisk unruled.Different P = Unit {0}
OnDisk (unruled.At line kind) P = Unit {0}
OnDisk unruled.NoMemory P = Unit {0}

-- The text of the store's schema is given, which the store has then; or why it isn't, and what that leaves.
pub record HasText (before now : Option Holdings) (first last : ℕ) (result : Result (Vec ℕ Global) Unruled) : Type 0 where
  pub text : IfOk result (λ t. WhereTold before now (λ h m. IsPlanted h m × (t.items ≡ unwrap_or h.schema trial_schema)))
  pub left : OnErr result (WhereTold before now IsLeft)
  pub kept : WhereTold before now IsPlantedOnly
  pub of : IfErr result IsOfStore
  pub disk : IfErr result (λ e. OnDisk e (Rose first last))

-- what is wrong with the text of a schema
abbrev pub IsUnruledBy : List ℕ → Unruled → Type 0
IsUnruledBy text unruled.Disk = ⊥
IsUnruledBy text unruled.Different = (rules_of (Some text) then if_trial) ≡ Err SchemaDifferent
IsUnruledBy text (unruled.At line kind) = (fault : Fault) × IsFirst text line kind fault
IsUnruledBy text unruled.NoMemory = Unit {0}

-- the same of the store's schema, or of that of a trial where there is none; of a fault nothing is said
abbrev pub IsUnruledIn : Holdings → Unruled → Type 0
IsUnruledIn h unruled.Disk = Unit {0}
IsUnruledIn h e = IsUnruledBy (unwrap_or h.schema trial_schema) e
