-- How many keys are found.
use Rattle.std.specs.Prelude.{◌≡◌, ◌+◌, ℕ, List, [], ◌∷◌, length, option_map, Option, Some, None, slice_get, string_bytes}
use Rattle.fd_entries.specs.Batches.{newest}
use Rattle.fd_disk.specs.Folders.{Holdings}
use Rattle.fd_schema.specs.Rules.{Texts, file_key}
use Rattle.fd_segment.specs.declared.fault.Damage.{Damage}
use Rattle.fd_outcome.specs.Asking.{Tables}
use Rattle.fd_outcome.specs.Trying.{Tally}
use Rattle.fd_retrieve.specs.declared.counting.Counted.{Counted}
use Rattle.fd_telling.specs.declared.stop.Broken.TheVariants as brokens
use Rattle.fd_telling.specs.declared.stop.Stop.{Stop}
use Rattle.fd_telling.specs.declared.stop.Stop.TheVariants as stops
use Rattle.fd_answering.specs.Damages.{IsDamaged}
use Rattle.fd_retrieve.specs.Open.{Open}
use Rattle.fd_retrieve.specs.Ready.{IsBrokenOf}

abbrev pub all_found : Option (Option (List ℕ)) → Option (List (Option (List ℕ))) → Option (List (Option (List ℕ)))
all_found (Some x) (Some xs) = Some (x ∷ xs)
all_found (Some x) None = None
all_found None xs = None

-- the newest bytes of each place's key in its dataset, where none of these is damaged
abbrev pub finds : Tables → List Texts → Option (List (Option (List ℕ)))
finds tables [] = Some []
finds tables (p ∷ ps) = all_found (option_map (λ t. newest t (file_key p)) (tables p.dataset)) (finds tables ps)

-- the number is the length of the bytes, where there are any
abbrev pub IsLength : Option (List ℕ) → Option ℕ → Type 0
IsLength bytes len = len ≡ option_map (λ (b : List ℕ). length b) bytes

-- the counts with one key more
abbrev pub with_length : Counted → Option ℕ → Counted
with_length r None = record { found = r.found; bytes = r.bytes; missed = r.missed + 1 }
with_length r (Some n) = record { found = r.found + 1; bytes = r.bytes + n; missed = r.missed }

-- these are the counts
pub record IsTally (r : Counted) (t : Tally) : Type 0 where
  pub found : r.found ≡ t.found
  pub bytes : r.bytes ≡ t.bytes
  pub missed : r.missed ≡ t.missed

module _ {F : Type 0} where
  -- one of these datasets is broken; or they are too many, or a fault of the store, or want of memory
  abbrev pub IsBrokenAmong : Stop F → Holdings → List (List ℕ) → Type 0
  IsBrokenAmong stops.TooMany h names = Unit {0}
  IsBrokenAmong stop h names = IsBrokenOf stop h names

  -- one of the datasets that are open has a damaged file; or a fault of the store, or want of memory
  abbrev pub IsLostIn : List Open → Stop F → Type 0
  IsLostIn os (stops.Disk f) = Unit {0}
  IsLostIn os (stops.Broken dataset broken) =
      (n : ℕ) × (o : Open) × (key : List ℕ) × (d : Damage) × (slice_get os n ≡ Some o) × (string_bytes dataset ≡ o.name) × (broken ≡ brokens.File d) × IsDamaged o.shown key d
  IsLostIn os stops.NoMemory = Unit {0}
  IsLostIn os stop = ⊥

  -- a fault of the store, a dataset that is damaged, too many datasets, or want of memory
  abbrev pub IsOfKeys : Stop F → Type 0
  IsOfKeys (stops.Disk f) = Unit {0}
  IsOfKeys (stops.Broken dataset broken) = Unit {0}
  IsOfKeys stops.TooMany = Unit {0}
  IsOfKeys stops.NoMemory = Unit {0}
  IsOfKeys stop = ⊥
