-- What stands ready for the answer of a request.
use Rattle.std.specs.Prelude.{◌≡◌, ◌⊎◌, ℕ, true, false, List, ◌∷◌, ◌++◌, [], map, All, Result, Ok, string_bytes}
use Rattle.fd_disk.specs.Folders.{Holdings, folder_at}
use Rattle.fd_schema.specs.declared.place.Place.{Place}
use Rattle.fd_schema.specs.Reading.{seen_place}
use Rattle.fd_request.specs.Expansion.{Keyword, expand}
use Rattle.fd_outcome.specs.Asking.{Asked, answers, asked_of, placed, request_in, rules_of, ◌then◌}
use Rattle.fd_stored.specs.Distinct.{is_among}
use Rattle.fd_stored.specs.Causes.{Cause}
use Rattle.fd_stored.specs.Store.{Stands, has_table, table_at}
use Rattle.fd_recovery.specs.Crashing.{IsFirmTable}
use Rattle.fd_recovery.specs.Recovered.{IsUndamaged}
use Rattle.fd_recovery.specs.declared.fault.OpenFault.{OpenFault}
use Rattle.fd_recovery.specs.declared.fault.OpenFault.TheVariants as faults
use Rattle.fd_telling.specs.declared.stop.Broken.{Broken}
use Rattle.fd_telling.specs.declared.stop.Broken.TheVariants as brokens
use Rattle.fd_telling.specs.declared.stop.Stop.{Stop}
use Rattle.fd_telling.specs.declared.stop.Stop.TheVariants as stops
use Rattle.fd_answering.specs.Finding.{asked_of_all}
use Rattle.fd_retrieve.specs.Open.{IsOpenIn, Open, names_of, table_in}
use Rattle.fd_telling.specs.Stops.{seen_broken}
use Rattle.fd_retrieve.specs.Tables.{datasets_in}

-- the keys that are asked for, with their places, or why there are none; how many datasets they have isn't looked at
abbrev pub placed_of : Holdings → List ℕ → Result (List Asked) Cause
placed_of h input = rules_of h.schema then λ rules. (request_in input then λ keywords. placed rules (expand keywords))

-- the keys of a request with these places
abbrev pub asked_at : List Keyword → List Place → List Asked
asked_at keywords places = asked_of_all (expand keywords) (map seen_place places)

-- a dataset was opened, or it has no table
abbrev pub MayOpen : Holdings → List Open → List ℕ → List Open → Type 0
MayOpen h os name after = ((o : Open) × IsOpenIn h o × (o.name ≡ name) × (after ≡ os ++ o ∷ [])) ⊎ ((has_table h name ≡ false) × (after ≡ os))

-- The datasets were opened: of these, each that has a table.
pub record AreOpen (h : Holdings) (names : List (List ℕ)) (os : List Open) : Type 0 where
  pub each : All (IsOpenIn h) os
  pub from : (n : List ℕ) → is_among (names_of os) n ≡ true → is_among names n ≡ true
  pub all : (n : List ℕ) → is_among names n ≡ true → has_table h n ≡ true → is_among (names_of os) n ≡ true

-- none of these datasets is damaged, as far as an opening looks
abbrev pub NoneIsDamaged : Holdings → List (List ℕ) → Type 0
NoneIsDamaged h names = (n : List ℕ) → is_among names n ≡ true → IsUndamaged n (folder_at h n)

-- each of these datasets has a firm table, or none
abbrev pub AreFirmOf : Holdings → List (List ℕ) → Type 0
AreFirmOf i names = (n : List ℕ) → is_among names n ≡ true → IsFirmTable (folder_at i n).table

-- this is broken in the dataset of this name; or want of memory
abbrev pub IsBrokenAs : {F : Type 0} → List ℕ → Broken → Stop F → Type 0
IsBrokenAs name broken (stops.Disk f) = ⊥
IsBrokenAs name broken stops.Input = ⊥
IsBrokenAs name broken stops.Missing = ⊥
IsBrokenAs name broken (stops.Schema line kind) = ⊥
IsBrokenAs name broken (stops.Request at kind) = ⊥
IsBrokenAs name broken (stops.NoRule text) = ⊥
IsBrokenAs name broken (stops.NoLayer layer text) = ⊥
IsBrokenAs name broken stops.TooMany = ⊥
IsBrokenAs name broken (stops.Broken dataset b) = (string_bytes dataset ≡ name) × (b ≡ broken)
IsBrokenAs name broken stops.NoMemory = Unit {0}

-- one of these datasets is broken; or a fault of the store, or want of memory
abbrev pub IsBrokenOf : {F : Type 0} → Stop F → Holdings → List (List ℕ) → Type 0
IsBrokenOf (stops.Disk f) h names = Unit {0}
IsBrokenOf stops.Input h names = ⊥
IsBrokenOf stops.Missing h names = ⊥
IsBrokenOf (stops.Schema line kind) h names = ⊥
IsBrokenOf (stops.Request at kind) h names = ⊥
IsBrokenOf (stops.NoRule text) h names = ⊥
IsBrokenOf (stops.NoLayer layer text) h names = ⊥
IsBrokenOf stops.TooMany h names = ⊥
IsBrokenOf (stops.Broken dataset broken) h names = (is_among names (string_bytes dataset) ≡ true) × Stands (string_bytes dataset) (folder_at h (string_bytes dataset)) (seen_broken broken)
IsBrokenOf stops.NoMemory h names = Unit {0}

-- the dataset of this name isn't opened for this cause
abbrev pub IsUnopened : {F : Type 0} → List ℕ → OpenFault F → Stop F → Type 0
IsUnopened name (faults.Disk f) stop = stop ≡ stops.Disk f
IsUnopened name (faults.NotATable at want found) stop = IsBrokenAs name (brokens.Table at want found) stop
IsUnopened name (faults.Damaged d) stop = IsBrokenAs name (brokens.File d) stop
IsUnopened name (faults.TooMany count) stop = ⊥
IsUnopened name faults.NoMemory stop = stop ≡ stops.NoMemory

-- The request's keys have these places, and the datasets of the places that have tables are open, none of which is damaged.
pub record IsReady (h : Holdings) (input : List ℕ) (keywords : List Keyword) (places : List Place) (os : List Open) : Type 0 where
  pub asked : asked_of h input ≡ Ok (asked_at keywords places)
  pub answered : answers (table_in os) (asked_at keywords places) ≡ answers (table_at h) (asked_at keywords places)
  pub each : All (IsOpenIn h) os
  pub among : (n : List ℕ) → is_among (names_of os) n ≡ true → is_among (datasets_in places) n ≡ true
  pub tables : (n : List ℕ) → is_among (datasets_in places) n ≡ true → table_in os n ≡ table_at h n
  pub undamaged : NoneIsDamaged h (datasets_in places)
