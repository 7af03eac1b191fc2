-- What the causes of a request that isn't answered say.
use Rattle.std.specs.Prelude.{◌≡◌, ◌⊎◌, ◌++◌, ℕ, List, codes, Option, None, Result, Err, IfErr, OnOk, string_bytes}
use Rattle.fd_bytes.specs.Causes.{Rose}
use Rattle.fd_disk.specs.Folders.{Holdings, folder_at}
use Rattle.fd_key.specs.Pairs.{Pair, key_text}
use Rattle.fd_schema.specs.Grammar as schemas
use Rattle.fd_schema.specs.Reading.{IsFirst}
use Rattle.fd_schema.specs.Rules.{Texts}
use Rattle.fd_request.specs.Expansion.{Keyword}
use Rattle.fd_request.specs.Reading.{seen_kind}
use Rattle.fd_outcome.specs.Asking.{Asked}
use Rattle.fd_stored.specs.Causes as causes
use Rattle.fd_outcome.specs.Ends.{disk_failed, input_failed, no_memory}
use Rattle.std.specs.Fmt.{decimal}
use Rattle.fd_listing.specs.Lines.{blank, line}
use Rattle.fd_outcome.specs.Told.{Told, ToldOrNoMemory}
use Rattle.fd_stored.specs.declared.status.Status.{Status}
use Rattle.fd_stored.specs.declared.status.Status.TheVariants as statuses
use Rattle.fd_outcome.specs.declared.stored.Unruled.{Unruled}
use Rattle.fd_outcome.specs.declared.stored.Unruled.TheVariants as unruled
use Rattle.fd_stored.specs.Store.{Stands}
use Rattle.fd_telling.specs.declared.stop.Broken.{Broken}
use Rattle.fd_telling.specs.declared.stop.Broken.TheVariants as brokens
use Rattle.fd_telling.specs.declared.stop.Stop.{Stop}
use Rattle.fd_telling.specs.declared.stop.Stop.TheVariants as stops

-- what is broken in a dataset
abbrev pub seen_broken : Broken → causes.Broken
seen_broken (brokens.Table at want found) = causes.BadTable (record { at = at; want = want; found = found })
seen_broken (brokens.File d) = causes.BadFile d

abbrev pub ToldAs : causes.Cause → Status → Option (List ℕ) → Option (List ℕ) → ℕ → ℕ → Type 0
ToldAs cause result c d m n = ToldOrNoMemory (causes.telling cause).status (causes.telling cause).line result c d m n

-- a line of what is wrong in the stored schema was told, or of want of memory
abbrev pub ToldSome : Status → Option (List ℕ) → Option (List ℕ) → ℕ → ℕ → Type 0
ToldSome result c d m n = (s : Status) × (text : List ℕ) × ((s ≡ statuses.Damaged) ⊎ ((s ≡ statuses.Limit) ⊎ (s ≡ statuses.NoMemory))) × Told s text result c d m n

-- The line of why a store has no rules was written, or a front of it; or that of want of memory in its place.
abbrev pub ToldUnruled : {F : Type 0} → Unruled F → Status → Option (List ℕ) → Option (List ℕ) → ℕ → ℕ → Type 0
ToldUnruled (unruled.Disk f) result c d m n = Told statuses.DiskFault disk_failed result c d m n
ToldUnruled unruled.Missing result c d m n = Told statuses.Refused (causes.telling causes.SchemaMissing).line result c d m n
ToldUnruled (unruled.At line kind) result c d m n = ToldSome result c d m n × ((text : List ℕ) (fault : schemas.Fault) → IsFirst text line kind fault → ToldAs (causes.InStored text fault) result c d m n)
ToldUnruled unruled.NoMemory result c d m n = Told statuses.NoMemory no_memory result c d m n

-- what is asked is refused for this cause
abbrev pub IsRefused : {A : Type 0} → Result A causes.Cause → causes.Cause → Type 0
IsRefused r cause = r ≡ Err cause

module _ {F : Type 0} where
  abbrev pub OnTooMany : Stop F → Type 0 → Type 0
  OnTooMany (stops.Disk f) P = Unit {0}
  OnTooMany stops.Input P = Unit {0}
  OnTooMany stops.Missing P = Unit {0}
  OnTooMany (stops.Schema line kind) P = Unit {0}
  OnTooMany (stops.Request at kind) P = Unit {0}
  OnTooMany (stops.NoRule text) P = Unit {0}
  OnTooMany (stops.NoLayer layer text) P = Unit {0}
  OnTooMany stops.TooMany P = P
  OnTooMany (stops.Broken dataset broken) P = Unit {0}
  OnTooMany stops.NoMemory P = Unit {0}

  abbrev pub OnInput : Stop F → Type 0 → Type 0
  OnInput (stops.Disk f) P = Unit {0}
  OnInput stops.Input P = P
  OnInput stops.Missing P = Unit {0}
  OnInput (stops.Schema line kind) P = Unit {0}
  OnInput (stops.Request at kind) P = Unit {0}
  OnInput (stops.NoRule text) P = Unit {0}
  OnInput (stops.NoLayer layer text) P = Unit {0}
  OnInput stops.TooMany P = Unit {0}
  OnInput (stops.Broken dataset broken) P = Unit {0}
  OnInput stops.NoMemory P = Unit {0}

  abbrev pub OnDisk : Stop F → Type 0 → Type 0
  OnDisk (stops.Disk f) P = P
  OnDisk stops.Input P = Unit {0}
  OnDisk stops.Missing P = Unit {0}
  OnDisk (stops.Schema line kind) P = Unit {0}
  OnDisk (stops.Request at kind) P = Unit {0}
  OnDisk (stops.NoRule text) P = Unit {0}
  OnDisk (stops.NoLayer layer text) P = Unit {0}
  OnDisk stops.TooMany P = Unit {0}
  OnDisk (stops.Broken dataset broken) P = Unit {0}
  OnDisk stops.NoMemory P = Unit {0}

  -- it is neither a fault nor want of memory
  abbrev pub OnRefusal : Stop F → Type 0 → Type 0
  OnRefusal (stops.Disk f) P = Unit {0}
  OnRefusal stops.Input P = Unit {0}
  OnRefusal stops.Missing P = P
  OnRefusal (stops.Schema line kind) P = P
  OnRefusal (stops.Request at kind) P = P
  OnRefusal (stops.NoRule text) P = P
  OnRefusal (stops.NoLayer layer text) P = P
  OnRefusal stops.TooMany P = P
  OnRefusal (stops.Broken dataset broken) P = P
  OnRefusal stops.NoMemory P = Unit {0}

  -- A fault of the input is told only where its count of faults rose; where nothing is told, or a refusal, the count is as before.
  pub record HasReadCause {A : Type 0} (before now : ℕ) (result : Result A (Stop F)) : Type 0 where
    pub input : IfErr result (λ e. OnInput e (Rose before now))
    pub calm : OnOk result (now ≡ before)
    pub calm_err : IfErr result (λ e. OnRefusal e (now ≡ before))

  -- The line of the cause was written, or a front of it; or that of want of memory in its place.
  abbrev pub ToldStop : Stop F → Status → Option (List ℕ) → Option (List ℕ) → ℕ → ℕ → Type 0
  ToldStop (stops.Disk f) result c d m n = Told statuses.DiskFault disk_failed result c d m n
  ToldStop stops.Input result c d m n = Told statuses.InputFault input_failed result c d m n
  ToldStop stops.Missing result c d m n = ToldAs causes.SchemaMissing result c d m n
  ToldStop (stops.Schema line kind) result c d m n = ToldSome result c d m n × ((text : List ℕ) (fault : schemas.Fault) → IsFirst text line kind fault → ToldAs (causes.InStored text fault) result c d m n)
  ToldStop (stops.Request at kind) result c d m n = ToldAs (causes.InRequest (record { at = at; kind = seen_kind kind })) result c d m n
  ToldStop (stops.NoRule text) result c d m n = ToldOrNoMemory statuses.Refused (line (codes "refused NoRule " ++ string_bytes text)) result c d m n
  ToldStop (stops.NoLayer layer text) result c d m n = ToldOrNoMemory statuses.Refused (line (codes "refused Layer " ++ decimal layer ++ blank (string_bytes text))) result c d m n
  ToldStop stops.TooMany result c d m n = ToldAs causes.TooManyDatasets result c d m n
  ToldStop (stops.Broken dataset broken) result c d m n = ToldOrNoMemory statuses.Damaged (causes.damaged_line (string_bytes dataset) (seen_broken broken)) result c d m n
  ToldStop stops.NoMemory result c d m n = Told statuses.NoMemory no_memory result c d m n

  -- a fault of the store, too many datasets, or want of memory
  abbrev pub NotRefused : Stop F → Type 0
  NotRefused (stops.Disk f) = Unit {0}
  NotRefused stops.Input = ⊥
  NotRefused stops.Missing = ⊥
  NotRefused (stops.Schema line kind) = ⊥
  NotRefused (stops.Request at kind) = ⊥
  NotRefused (stops.NoRule text) = ⊥
  NotRefused (stops.NoLayer layer text) = ⊥
  NotRefused stops.TooMany = Unit {0}
  NotRefused (stops.Broken dataset broken) = ⊥
  NotRefused stops.NoMemory = Unit {0}

  -- the input is no request, for this reason; a fault of the input, or want of memory
  abbrev pub OnRequest : Stop F → Result (List Keyword) causes.Cause → Type 0
  OnRequest (stops.Disk f) r = ⊥
  OnRequest stops.Input r = Unit {0}
  OnRequest stops.Missing r = ⊥
  OnRequest (stops.Schema line kind) r = ⊥
  OnRequest (stops.Request at kind) r = r ≡ Err (causes.InRequest (record { at = at; kind = seen_kind kind }))
  OnRequest (stops.NoRule text) r = ⊥
  OnRequest (stops.NoLayer layer text) r = ⊥
  OnRequest stops.TooMany r = ⊥
  OnRequest (stops.Broken dataset broken) r = ⊥
  OnRequest stops.NoMemory r = Unit {0}

  -- no rule admits the key, whose text this is; or want of memory
  abbrev pub LacksPlace : Stop F → List Pair → Option Texts → Type 0
  LacksPlace (stops.Disk f) key place = ⊥
  LacksPlace stops.Input key place = ⊥
  LacksPlace stops.Missing key place = ⊥
  LacksPlace (stops.Schema line kind) key place = ⊥
  LacksPlace (stops.Request at kind) key place = ⊥
  LacksPlace (stops.NoRule text) key place = (place ≡ None) × (string_bytes text ≡ key_text key)
  LacksPlace (stops.NoLayer layer text) key place = ⊥
  LacksPlace stops.TooMany key place = ⊥
  LacksPlace (stops.Broken dataset broken) key place = ⊥
  LacksPlace stops.NoMemory key place = Unit {0}

  -- the first key that no rule admits has this text; or want of memory
  abbrev pub LacksRule : Stop F → Result (List Asked) causes.Cause → Type 0
  LacksRule (stops.Disk f) r = ⊥
  LacksRule stops.Input r = ⊥
  LacksRule stops.Missing r = ⊥
  LacksRule (stops.Schema line kind) r = ⊥
  LacksRule (stops.Request at kind) r = ⊥
  LacksRule (stops.NoRule text) r = (key : List Pair) × (r ≡ Err (causes.NoRule key)) × (string_bytes text ≡ key_text key)
  LacksRule (stops.NoLayer layer text) r = ⊥
  LacksRule stops.TooMany r = ⊥
  LacksRule (stops.Broken dataset broken) r = ⊥
  LacksRule stops.NoMemory r = Unit {0}

  -- a key has no place, or none under a layer, for such a cause; or want of memory
  abbrev pub IsOfPlaces : Stop F → (causes.Cause → Type 0) → Type 0
  IsOfPlaces (stops.NoRule text) Is = (key : List Pair) × Is (causes.NoRule key) × (string_bytes text ≡ key_text key)
  IsOfPlaces (stops.NoLayer layer text) Is = (key : List Pair) × Is (causes.NoLayer layer key) × (string_bytes text ≡ key_text key)
  IsOfPlaces stops.NoMemory Is = Unit {0}
  IsOfPlaces stop Is = ⊥

  -- What the cause says of the store and of what is asked of it, where such a cause refuses it, and where it opens such
  -- datasets. Nothing is said of a fault, nor of want of memory.
  abbrev pub Says : Stop F → Holdings → (causes.Cause → Type 0) → (List ℕ → Type 0) → Type 0
  Says (stops.Disk f) h Is Among = Unit {0}
  Says stops.Input h Is Among = Unit {0}
  Says stops.Missing h Is Among = Is causes.SchemaMissing
  Says (stops.Schema line kind) h Is Among = (text : List ℕ) × (fault : schemas.Fault) × Is (causes.InStored text fault) × IsFirst text line kind fault
  Says (stops.Request at kind) h Is Among = Is (causes.InRequest (record { at = at; kind = seen_kind kind }))
  Says (stops.NoRule text) h Is Among = (key : List Pair) × Is (causes.NoRule key) × (string_bytes text ≡ key_text key)
  Says (stops.NoLayer layer text) h Is Among = (key : List Pair) × Is (causes.NoLayer layer key) × (string_bytes text ≡ key_text key)
  Says stops.TooMany h Is Among = Is causes.TooManyDatasets
  Says (stops.Broken dataset broken) h Is Among = Among (string_bytes dataset) × Stands (string_bytes dataset) (folder_at h (string_bytes dataset)) (seen_broken broken)
  Says stops.NoMemory h Is Among = Unit {0}

  -- What the cause says of what is asked, before the datasets are looked at. A fault or want of memory says nothing.
  abbrev pub IsOfRequest : Stop F → (causes.Cause → Type 0) → Type 0
  IsOfRequest (stops.Disk f) Is = Unit {0}
  IsOfRequest stops.Input Is = Unit {0}
  IsOfRequest stops.Missing Is = Is causes.SchemaMissing
  IsOfRequest (stops.Schema line kind) Is = (text : List ℕ) × (fault : schemas.Fault) × Is (causes.InStored text fault) × IsFirst text line kind fault
  IsOfRequest (stops.Request at kind) Is = Is (causes.InRequest (record { at = at; kind = seen_kind kind }))
  IsOfRequest (stops.NoRule text) Is = (key : List Pair) × Is (causes.NoRule key) × (string_bytes text ≡ key_text key)
  IsOfRequest (stops.NoLayer layer text) Is = (key : List Pair) × Is (causes.NoLayer layer key) × (string_bytes text ≡ key_text key)
  IsOfRequest stops.TooMany Is = ⊥
  IsOfRequest (stops.Broken dataset broken) Is = ⊥
  IsOfRequest stops.NoMemory Is = Unit {0}

  -- a fault of the store, a dataset that is damaged, or want of memory
  abbrev pub OfDataset : Stop F → Type 0
  OfDataset (stops.Disk f) = Unit {0}
  OfDataset stops.Input = ⊥
  OfDataset stops.Missing = ⊥
  OfDataset (stops.Schema line kind) = ⊥
  OfDataset (stops.Request at kind) = ⊥
  OfDataset (stops.NoRule text) = ⊥
  OfDataset (stops.NoLayer layer text) = ⊥
  OfDataset stops.TooMany = ⊥
  OfDataset (stops.Broken dataset broken) = Unit {0}
  OfDataset stops.NoMemory = Unit {0}
