-- What is stored of an input that is read piece by piece, and what stands where it ends.
use Rattle.std.specs.Prelude.{◌≡◌, ◌⊎◌, ◌≤◌, ◌<◌, ◌+◌, ◌*◌, ◌^◌, ℕ, Bool, true, false, List, [], ◌∷◌, ◌++◌, length, Option, Some, None, IfSome, Result, Ok, Err, string_bytes}
use Rattle.fd_disk.specs.declared.folders.FileName.{FileName}
use Rattle.fd_disk.specs.Folders.{Contents, Holdings, folder_at}
use Rattle.fd_sections.specs.Message.{Sections}
use Rattle.fd_sections.specs.Splitting.{finished}
use Rattle.fd_sections.specs.Stream.{first}
use Rattle.fd_sections.specs.declared.refusal.Truncated.{Truncated}
use Rattle.fd_key.specs.Keys.{key_of}
use Rattle.fd_key.specs.Pairs as keys
use Rattle.fd_key.specs.Pairs.{key_text}
use Rattle.fd_schema.specs.Rules.{Rule, place_from}
use Rattle.fd_schema.specs.Reading.{seen_place}
use Rattle.fd_schema.specs.declared.place.Place.{Place}
use Rattle.fd_turn.specs.declared.board.Pass.{Pass}
use Rattle.fd_turn.specs.Passes.{BoardId}
use Rattle.fd_archiver.specs.declared.fault.FlushFault.{FlushFault}
use Rattle.fd_archiver.specs.Writing.{Writing}
use Rattle.fd_library.specs.Open.{OpenDatasets, names_of}
use Rattle.fd_stored.specs.Archiving.{Stored, Taken, datasets_in, taken}
use Rattle.fd_split.specs.Positions.{Position, weight}
use Rattle.fd_stored.specs.Causes.{BadFile, BadTable, Cause}
use Rattle.fd_stored.specs.Store.{Stands}
use Rattle.fd_bulk.specs.declared.bulk.BulkFault.{BulkFault}
use Rattle.fd_bulk.specs.declared.bulk.BulkFault.TheVariants as faults
use Rattle.fd_bulk.specs.declared.reading.Counts.{Counts}
use Rattle.fd_shares.specs.declared.round.Job.{Job}
use Rattle.fd_shares.specs.declared.round.Parcel.{Parcel}
use Rattle.fd_bulk.specs.Archived.{HasRead, IsCause, IsNumbered, IsSplit, IsWholeTaken}
use Rattle.fd_bulk.specs.Crewing.{AreMet, Closes, Crewed, Deals, OnFull, SeeFull, Stopping, octets_of}
use Rattle.fd_bulk.specs.Taking.{Seen, StoredOn, behind, taken_from}

-- ---- one field

-- the place of a field of the message of this number, or why it has none
abbrev pub PlacedAs : {Z : Type 0} → List Rule → List keys.Pair → ℕ → Sections → Result Place (BulkFault Z) → Type 0
PlacedAs rules given number m (Ok place) = (key : List keys.Pair) × (key_of m given ≡ Ok key) × (place_from 0 rules key ≡ Some (seen_place place))
PlacedAs rules given number m (Err (faults.Key n fault)) = (n ≡ number) × (key_of m given ≡ Err fault)
PlacedAs rules given number m (Err (faults.NoRule n text)) = (n ≡ number) × ((key : List keys.Pair) × (key_of m given ≡ Ok key) × (place_from 0 rules key ≡ None) × (string_bytes text ≡ key_text key))
PlacedAs rules given number m (Err faults.NoMemory) = Unit {0}
PlacedAs rules given number m (Err fault) = ⊥

-- the first field is stored in the dataset of this text
abbrev pub BeginsIn : List ℕ → Taken → Type 0
BeginsIn name t = (s : Stored) × ((more : List Stored) × (t.stored ≡ s ∷ more) × (s.dataset ≡ name))

module _ {Z : Type 0} where
  -- What is stored ends here, for this cause. Of a fault of the store, of a read that failed and of want of memory nothing is said.
  abbrev pub EndsTaken : BulkFault Z → Taken → Type 0
  EndsTaken (faults.Input f) t = Unit {0}
  EndsTaken faults.Disk t = Unit {0}
  EndsTaken (faults.NotATable dataset at want found) t = BeginsIn (string_bytes dataset) t
  EndsTaken (faults.Damaged dataset damage) t = BeginsIn (string_bytes dataset) t
  EndsTaken (faults.TableFull count) t = Unit {0}
  EndsTaken faults.NoMemory t = Unit {0}
  EndsTaken fault t = (t.stored ≡ []) × ((c : Cause) × (t.refusal ≡ Some c) × IsCause fault c × IsNumbered fault t.next)

  -- what is stored begins so, and ends behind that for this cause
  pub record EndsAfter (fault : BulkFault Z) (new : List Stored) (t : Taken) : Type 0 where
    pub rest : Taken
    pub is : t ≡ behind new rest
    pub ends : EndsTaken fault rest

  -- fields come behind the fields a, all are b; what comes behind them isn't stored, for this cause, whatever more comes
  pub record EndedOn (fault : BulkFault Z) (all : Bool → List ℕ → Taken) (a b : List Stored) : Type 0 where
    pub new : List Stored
    pub adds : b ≡ a ++ new
    pub ends : (past : Bool) (more : List ℕ) → EndsAfter fault new (all past more)

-- a source that had the first octets left gave some that are so, and has the others left; nothing is said where it doesn't tell
abbrev pub Reads : Option (List ℕ) → Option (List ℕ) → (List ℕ → Type 0) → Type 0
Reads None left P = Unit {0}
Reads (Some octets) None P = ⊥
Reads (Some octets) (Some left) P = (seen : List ℕ) × (octets ≡ seen ++ left) × P seen

-- how many fields came and octets were skipped, or the message that is cut
abbrev pub EndsOf : {Z : Type 0} → Result Counts (BulkFault Z) → Position → Type 0
EndsOf (Ok counts) a = (counts.fields ≡ a.count) × (Ok counts.junk ≡ finished a.split (first a.split.rest))
EndsOf (Err fault) a = (t : Truncated) × (fault ≡ faults.Cut t) × (Err t ≡ finished a.split (first a.split.rest))

-- ---- over the run

module _ {D H X Y F : Type 0} (has : D → Option Contents) (kept : H → Option (FileName → Option (List ℕ))) (start now : Option Holdings) where
  -- The fields of a stream were dealt up to this position: each is no longer than a message may be, beside the 32 octets of its digest, and
  -- took 16 octets at least of those that came.
  pub record Going (all waiting : List Stored) (l : OpenDatasets D) (passes : List (Pass X Y)) (jobs : List (Job (Writing H) (Pass X Y) (FlushFault F))) (parcels : List Parcel) (a : Position) : Type 0 where
    pub deals : Deals has kept start now all waiting (datasets_in (all ++ waiting)) l passes jobs parcels
    pub given : a.count ≡ length (all ++ waiting)
    pub sizes : octets_of (all ++ waiting) ≤ 134217760 * length (all ++ waiting)
    pub count : 16 * length (all ++ waiting) + weight a ≤ a.split.fed

  -- the workers have stored the first of these messages, and store nothing more
  pub record Halts (all : List Stored) (l : OpenDatasets D) (passes : List (Pass X Y)) (jobs : List (Job (Writing H) (Pass X Y) (FlushFault F))) (parcels : List Parcel) : Type 0 where
    pub lost : ℕ
    pub crewed : Crewed has (Stopping kept (length jobs) all) start now lost l passes jobs
    pub none : parcels ≡ []

  -- What stands where no message is dealt any more, for this cause: these were dealt, and those that wait can be stored; or
  -- a worker stopped.
  module _ {Z : Type 0} (all waiting : List Stored) (l : OpenDatasets D) (passes : List (Pass X Y)) (jobs : List (Job (Writing H) (Pass X Y) (FlushFault F))) (parcels : List Parcel) where
    abbrev pub Ending : BulkFault Z → Type 0
    Ending fault = Closes has kept start now all waiting l passes jobs parcels ⊎ (Halts (all ++ waiting) l passes jobs parcels × OnFull fault jobs)

    -- why it stands so
    abbrev pub EndsFor : BulkFault Z → Type 0
    EndsFor (faults.Input f) = ⊥
    EndsFor (faults.NotATable dataset at want found) =
        Closes has kept start now all waiting l passes jobs parcels × IfSome start (λ s. Stands (string_bytes dataset) (folder_at s (string_bytes dataset)) (BadTable (record { at = at; want = want; found = found })))
    EndsFor (faults.Damaged dataset damage) = Closes has kept start now all waiting l passes jobs parcels × IfSome start (λ s. Stands (string_bytes dataset) (folder_at s (string_bytes dataset)) (BadFile damage))
    EndsFor faults.Disk = Ending faults.Disk
    EndsFor (faults.TableFull count) = Halts (all ++ waiting) l passes jobs parcels × OnFull {Z = Z} (faults.TableFull count) jobs
    EndsFor faults.NoMemory = Ending faults.NoMemory
    EndsFor fault = Closes has kept start now all waiting l passes jobs parcels × AreMet (datasets_in (all ++ waiting)) (names_of l.each) × ((messages : ℕ) × IsNumbered fault (messages + 1) × IsSplit fault)

    -- what stands where the input was read to its end, or a read failed, or it ended for a cause
    abbrev pub StandsAt : Result Counts (BulkFault Z) → Type 0
    StandsAt (Ok counts) = Deals has kept start now all waiting (datasets_in (all ++ waiting)) l passes jobs parcels
    StandsAt (Err (faults.Input f)) = Deals has kept start now all waiting (datasets_in (all ++ waiting)) l passes jobs parcels
    StandsAt (Err fault) = EndsFor fault

-- What stands where nothing waits any more: the workers run so, or one stopped.
module _ {D H X Y F : Type 0} (start : Option Holdings) (Runs Stops : Type 0) where
  abbrev pub EndsAt : {Z : Type 0} → List Stored → OpenDatasets D → List (Job (Writing H) (Pass X Y) (FlushFault F)) → Result Counts (BulkFault Z) → Type 0
  EndsAt all l jobs (Ok counts) = Runs × AreMet (datasets_in all) (names_of l.each)
  EndsAt all l jobs (Err (faults.Input f)) = Runs
  EndsAt all l jobs (Err faults.Disk) = Stops
  EndsAt all l jobs (Err (faults.NotATable dataset at want found)) = Stops × IfSome start (λ s. Stands (string_bytes dataset) (folder_at s (string_bytes dataset)) (BadTable (record { at = at; want = want; found = found })))
  EndsAt all l jobs (Err (faults.Damaged dataset damage)) = Stops × IfSome start (λ s. Stands (string_bytes dataset) (folder_at s (string_bytes dataset)) (BadFile damage))
  EndsAt all l jobs (Err (faults.TableFull count)) = Stops × ((count ≡ 65535) × SeeFull jobs)
  EndsAt all l jobs (Err faults.NoMemory) = Stops
  EndsAt all l jobs (Err fault) = Runs × ((messages : ℕ) × IsNumbered fault (messages + 1) × IsSplit fault)

-- ---- what comes of the octets

module _ {Z : Type 0} (rules : List Rule) (given : List keys.Pair) (left after : Option (List ℕ)) (all : List Stored) where
  -- these messages come of the input, and then its end, or a read that failed, or this cause
  abbrev pub ComesTo : Result Counts (BulkFault Z) → Type 0
  ComesTo (Ok counts) = (counts.fields ≡ length all) × IfSome left (λ octets. IsWholeTaken all counts.junk (taken rules given octets))
  ComesTo (Err (faults.Input f)) = IfSome left (λ octets. HasRead rules given octets after all)
  ComesTo (Err fault) = IfSome left (λ octets. EndsAfter fault all (taken rules given octets))

module _ {D H X Y F : Type 0} (has : D → Option Contents) (kept : H → Option (FileName → Option (List ℕ))) where
  abbrev pub CanGo : Option Holdings → OpenDatasets D → List (Pass X Y) → List (Job (Writing H) (Pass X Y) (FlushFault F)) → List Parcel → Position → Type 0
  CanGo now l passes jobs parcels p = (start : Option Holdings) × ((all : List Stored) × ((waiting : List Stored) × Going has kept start now all waiting l passes jobs parcels p))

  -- The stream was gone over from one position to another, and all its fields were dealt; before were these.
  pub record WentOn (rules : List Rule) (given : List keys.Pair) (p q : Position) (start now : Option Holdings) (before : List Stored) (l : OpenDatasets D) (passes : List (Pass X Y)) (jobs : List (Job (Writing H) (Pass X Y) (FlushFault F))) (parcels : List Parcel) : Type 0 where
    pub all : List Stored
    pub waiting : List Stored
    pub on : StoredOn rules given p q before (all ++ waiting)
    pub going : Going has kept start now all waiting l passes jobs parcels q

  -- it ended on the way, for this cause
  pub record EndedThere {Z : Type 0} (rules : List Rule) (given : List keys.Pair) (p : Position) (start now : Option Holdings) (before : List Stored) (l : OpenDatasets D) (passes : List (Pass X Y)) (jobs : List (Job (Writing H) (Pass X Y) (FlushFault F))) (parcels : List Parcel) (fault : BulkFault Z) : Type 0 where
    pub all : List Stored
    pub waiting : List Stored
    pub on : EndedOn fault (taken_from rules given (datasets_in before) p) before (all ++ waiting)
    pub ends : EndsFor has kept start now all waiting l passes jobs parcels fault
    pub sum : octets_of (all ++ waiting) < 2 ^ 63

  abbrev pub GoesOn : {A Z : Type 0} → List Rule → List keys.Pair → Position → Position → Option Holdings → Option Holdings → List Stored → OpenDatasets D → List (Pass X Y) → List (Job (Writing H) (Pass X Y) (FlushFault F)) → List Parcel → Result A (BulkFault Z) → Type 0
  GoesOn rules given p q start now before l passes jobs parcels (Ok some) = WentOn rules given p q start now before l passes jobs parcels
  GoesOn rules given p q start now before l passes jobs parcels (Err fault) = EndedThere rules given p start now before l passes jobs parcels fault

  module _ (rules : List Rule) (given : List keys.Pair) (left after : Option (List ℕ)) (start now : Option Holdings) (l : OpenDatasets D) (passes : List (Pass X Y)) (jobs : List (Job (Writing H) (Pass X Y) (FlushFault F))) where
    -- the fields of what was read so far are dealt up to this position
    pub record Midway (parcels : List Parcel) (p : Position) : Type 0 where
      pub all : List Stored
      pub waiting : List Stored
      pub going : Going has kept start now all waiting l passes jobs parcels p
      pub reads : Reads left after (Seen rules given p (all ++ waiting))

    -- these messages are dealt, and behind them the input is at its end, or a read of it failed, or it ended for a cause
    pub record InputDealt {Z : Type 0} (parcels : List Parcel) (result : Result Counts (BulkFault Z)) : Type 0 where
      pub all : List Stored
      pub waiting : List Stored
      pub stands : StandsAt has kept start now all waiting l passes jobs parcels result
      pub comes : ComesTo rules given left after (all ++ waiting) result
      pub sum : octets_of (all ++ waiting) < 2 ^ 63

    -- nothing waits: the workers stand so with all these messages, or one stopped
    pub record InputEnds {Z : Type 0} (How : ℕ → List Stored → ℕ → List BoardId → List (List ℕ) → Job (Writing H) (Pass X Y) (FlushFault F) → Type 0) (result : Result Counts (BulkFault Z)) : Type 0 where
      pub all : List Stored
      pub lost : ℕ
      pub ends : EndsAt start (Crewed has (How (length jobs) all) start now lost l passes jobs) (Crewed has (Stopping kept (length jobs) all) start now lost l passes jobs) all l jobs result
      pub comes : ComesTo rules given left after all result

-- ---- answers

abbrev pub is_unread : {Z : Type 0} → BulkFault Z → Bool
is_unread (faults.Input f) = true
is_unread fault = false

-- No read failed where this is told. A refusal of a worker may come in the place of a read that failed.
abbrev pub is_calm : {Z : Type 0} → BulkFault Z → Bool
is_calm (faults.Input f) = false
is_calm faults.Disk = false
is_calm (faults.TableFull count) = false
is_calm faults.NoMemory = false
is_calm fault = true

-- what is pending is to be listed: the input is at its end or refused, or a read of it failed
abbrev pub is_listed : {Z : Type 0} → Result Counts (BulkFault Z) → Bool
is_listed (Ok counts) = true
is_listed (Err faults.Disk) = false
is_listed (Err (faults.NotATable dataset at want found)) = false
is_listed (Err (faults.Damaged dataset damage)) = false
is_listed (Err (faults.TableFull count)) = false
is_listed (Err faults.NoMemory) = false
is_listed (Err fault) = true
