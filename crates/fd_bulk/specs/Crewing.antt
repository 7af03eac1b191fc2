-- What the workers have between the rounds, and what the run has of the datasets beside them.
use Rattle.std.specs.Prelude.{◌≡◌, ◌≢◌, ◌<◌, ◌≤◌, ◌+◌, ◌^◌, ℕ, suc, Bool, true, false, List, [], ◌∷◌, ◌++◌, length, map, All, Contains, slice_get, Option, Some, None, IfSome, is_some, Result, Ok, Err, string_bytes}
use mathlib.Core.List.{IsPrefix}
use Rattle.fd_disk.specs.declared.folders.FileName.{FileName}
use Rattle.fd_disk.specs.Folders.{Contents, Holdings, WhereTold, folder_at}
use Rattle.fd_entries.specs.declared.batch.Pair.{Pair}
use Rattle.fd_entries.specs.declared.table.NotATable.{NotATable}
use Rattle.fd_segment.specs.declared.fault.Damage.{Damage}
use Rattle.fd_numbers.specs.Numbers.{Differ}
use Rattle.fd_schema.specs.Rules.{Texts, file_key}
use Rattle.fd_turn.specs.declared.board.Pass.{Pass}
use Rattle.fd_turn.specs.declared.view.Lock.TheVariants.{Free}
use Rattle.fd_turn.specs.Passes.{BoardId, IsOf, view}
use Rattle.fd_turn.specs.Views.{all_parts}
use Rattle.fd_archiver.specs.Writing.{Writing}
use Rattle.fd_archiver.specs.declared.fault.FlushFault.{FlushFault}
use Rattle.fd_recovery.specs.declared.fault.OpenFault.{OpenFault}
use Rattle.fd_recovery.specs.declared.fault.OpenFault.TheVariants as opens
use Rattle.fd_recovery.specs.Recovered.{IsUndamaged}
use Rattle.fd_library.specs.Open.{AreOpen, OpenDataset, OpenDatasets, among, names_of, seat_of}
use Rattle.fd_library.specs.Stores.{KeepsFolder, held_by_pass, held_of}
use Rattle.fd_stored.specs.Archiving.{Stored, datasets_in, pairs_for}
use Rattle.fd_stored.specs.Distinct.{count_distinct, is_among}
use Rattle.fd_stored.specs.Causes.{BadFile, BadTable}
use Rattle.fd_stored.specs.Store.{Stands}
use Rattle.fd_bulk.specs.declared.bulk.BulkFault.{BulkFault}
use Rattle.fd_bulk.specs.declared.bulk.BulkFault.TheVariants as faults
use Rattle.fd_shares.specs.declared.round.Desk.{Desk}
use Rattle.fd_shares.specs.declared.round.Job.{Job}
use Rattle.fd_shares.specs.declared.round.Parcel.{Parcel}
use Rattle.fd_shares.specs.Sharing.{AllFit, AllWork, AreParcels, SeesFull, its_pairs}
use Rattle.fd_shares.specs.Working.{Filling, Flushed, Stage}

-- ---- one dataset

module _ {H X Y : Type 0} where
  abbrev pub with_desk : Option (Option (Desk (Writing H) (Pass X Y))) → List (Desk (Writing H) (Pass X Y)) → List (Desk (Writing H) (Pass X Y))
  with_desk None ds = ds
  with_desk (Some None) ds = ds
  with_desk (Some (Some d)) ds = d ∷ ds

module _ {H X Y E : Type 0} where
  -- what the workers that have met the dataset with this number have of it
  abbrev pub desks_at : ℕ → List (Job (Writing H) (Pass X Y) E) → List (Desk (Writing H) (Pass X Y))
  desks_at n [] = []
  desks_at n (j ∷ js) = with_desk (slice_get j.desks.items n) (desks_at n js)

abbrev pub writers_of : {H X Y : Type 0} → List (Desk (Writing H) (Pass X Y)) → List ℕ
writers_of ds = map (λ d. d.archiver.writer) ds

module _ {D H X Y : Type 0} (has : D → Option Contents) where
  -- a worker's pass is one part of the dataset's, and its archiver is one of those that were asked for in the run
  pub record IsLent (h : OpenDataset D) (d : Desk (Writing H) (Pass X Y)) : Type 0 where
    pub part : (view d.pass).parts ≡ 1
    pub opening : (view d.pass).opening ≡ h.opening
    pub told : d.archiver.told ≡ is_some (has h.folder)
    pub later : h.last < d.archiver.writer + h.given
    pub bounded : d.archiver.writer ≤ h.last

  -- A dataset was opened in the run: its pass is out, and lists nothing; the other parts of it are the workers', each of which
  -- has an archiver of a number of its own, behind those that are listed. The folder holds what the store held at first, and nothing of
  -- that was damaged. At most so many archivers were asked for in vain.
  pub record HasBegun (start : Option Holdings) (lost : ℕ) (b : BoardId) (h : OpenDataset D) (p : Pass X Y) (ds : List (Desk (Writing H) (Pass X Y))) : Type 0 where
    pub own : IsOf b p
    pub out : h.pass ≡ None
    pub free : (view p).lock ≡ Free
    pub subject : (view p).subject ≡ h.name
    pub seen : h.opening ≡ length (view p).history
    pub opening : (view p).opening ≡ h.opening
    pub none : (view p).amount ≡ 0
    pub sure : (view p).doubts ≡ []
    pub parts : (view p).parts + h.lent ≡ all_parts
    pub lent : length ds ≡ h.lent
    pub given : h.given ≤ h.lent + lost
    pub earlier : All (λ l. l.entry.writer + h.given ≤ h.last) (view p).history
    pub each : All (IsLent h) ds
    pub differ : Differ (writers_of ds)
    pub holds : (s : Holdings) (t : List (List Pair)) → start ≡ Some s → held_of s h.name ≡ Some t → held_by_pass (has h.folder) (Some (seat_of p)) ≡ Some t
    pub undamaged : IfSome start (λ s. IsUndamaged h.name (folder_at s h.name))

-- ---- all datasets

-- what holds of each dataset, by its number: of its board, of it, and of its pass
abbrev pub Matched : {A B C : Type 0} → (ℕ → A → B → C → Type 0) → ℕ → List A → List B → List C → Type 0
Matched P n [] [] [] = Unit {0}
Matched P n (a ∷ xs) (b ∷ bs) (c ∷ cs) = P n a b c × Matched P (suc n) xs bs cs
Matched P n xs bs cs = ⊥

-- The datasets that aren't open hold what they held: of each the folder has the files that it had, and the table as it was,
-- synced, or founded.
pub record HoldsRest (names : List (List ℕ)) (s t : Holdings) : Type 0 where
  pub schema : t.schema ≡ s.schema
  pub rest : (n : List ℕ) → among n names ≡ false → held_of t n ≡ held_of s n
  pub keeps : (n : List ℕ) → among n names ≡ false → KeepsFolder n (folder_at s n) (folder_at t n)

-- their folders are as they were at first
abbrev pub AreUntouched : Option Holdings → Option Holdings → List (List ℕ) → Type 0
AreUntouched start now names = WhereTold start now (λ s t. (n : List ℕ) → among n names ≡ false → t.folders n ≡ s.folders n)

-- the open datasets are those of these messages
pub record AreMet (datasets names : List (List ℕ)) : Type 0 where
  pub among_is : (n : List ℕ) → is_among datasets n ≡ among n names
  pub count : count_distinct datasets ≡ length names

-- the message that is stored under a place
abbrev pub message_at : Texts → List ℕ → Stored
message_at place octets = record { dataset = place.dataset; pair = record { key = file_key place; bytes = octets } }

-- how many octets were stored, with 32 for the digest of each message
abbrev pub octets_of : List Stored → ℕ
octets_of [] = 0
octets_of (s ∷ ss) = (length s.pair.bytes + 32) + octets_of ss

module _ {D H X Y E : Type 0} (has : D → Option Contents) where
  abbrev pub AllBegun : Option Holdings → ℕ → List (Job (Writing H) (Pass X Y) E) → List BoardId → List (OpenDataset D) → List (Pass X Y) → Type 0
  AllBegun start lost jobs bs hs ps = Matched (λ n b h p. HasBegun has start lost b h p (desks_at n jobs)) 0 bs hs ps

  -- The datasets that were opened since the store was as at first, and the workers, each with what holds of it, by its
  -- number, in the datasets of these boards and texts.
  pub record Crewed (How : ℕ → List BoardId → List (List ℕ) → Job (Writing H) (Pass X Y) E → Type 0) (start now : Option Holdings) (lost : ℕ) (l : OpenDatasets D) (passes : List (Pass X Y)) (jobs : List (Job (Writing H) (Pass X Y) E)) : Type 0 where
    pub some : 1 ≤ length jobs
    pub few : length jobs ≤ 8
    pub opened : AreOpen l
    pub each : AllBegun start lost jobs l.boards l.each passes
    pub works : (w : ℕ) (j : Job (Writing H) (Pass X Y) E) → slice_get jobs w ≡ Some j → How w l.boards (names_of l.each) j
    pub rest : WhereTold start now (HoldsRest (names_of l.each))

-- ---- the workers

module _ {H X Y E : Type 0} (kept : H → Option (FileName → Option (List ℕ))) (workers : ℕ) (all : List Stored) (w : ℕ) (boards : List BoardId) (names : List (List ℕ)) (j : Job (Writing H) (Pass X Y) E) where
  -- A worker has stored what was dealt to it of these messages. Their datasets are open.
  pub record Running : Type 0 where
    pub running : j.halt ≡ None
    pub works : AllWork kept (λ n. Filling) (its_pairs workers names w all) 0 boards names j.desks.items
    pub only : (n : List ℕ) → among n names ≡ false → pairs_for all n ≡ []

  -- and all that is listed
  pub record Finished : Type 0 where
    pub works : AllWork kept (λ n. Flushed) (its_pairs workers names w all) 0 boards names j.desks.items
    pub only : (n : List ℕ) → among n names ≡ false → pairs_for all n ≡ []

  -- it has stored the first of them, and stores nothing more
  pub record Stopping : Type 0 where
    pub stages : ℕ → Stage
    pub pairs : ℕ → List Pair
    pub works : AllWork kept stages pairs 0 boards names j.desks.items
    pub front : (n : ℕ) (m : List ℕ) → slice_get names n ≡ Some m → IsPrefix (pairs n) (its_pairs workers names w all n)

-- ---- messages that wait for their round

module _ {H X Y E : Type 0} where
  -- the worker has met the dataset with this number
  abbrev pub HasDesk : List (Job (Writing H) (Pass X Y) E) → ℕ → ℕ → Type 0
  HasDesk jobs worker n = (j : Job (Writing H) (Pass X Y) E) × (slice_get jobs worker ≡ Some j) × ((d : Desk (Writing H) (Pass X Y)) × (slice_get j.desks.items n ≡ Some (Some d)))

  -- these messages wait, each for its worker, which has met its dataset
  pub record Waits (names : List (List ℕ)) (waiting : List Stored) (jobs : List (Job (Writing H) (Pass X Y) E)) (parcels : List Parcel) : Type 0 where
    pub parcels_are : AreParcels (length jobs) names waiting parcels
    pub fit : AllFit names parcels
    pub met : (i : ℕ) (p : Parcel) → slice_get parcels i ≡ Some p → HasDesk jobs p.worker p.dataset

module _ {D H X Y E : Type 0} (has : D → Option Contents) (kept : H → Option (FileName → Option (List ℕ))) (start now : Option Holdings) (all waiting : List Stored) where
  -- Ready for a message: all but those that wait are stored. The datasets are those of these texts.
  pub record Deals (datasets : List (List ℕ)) (l : OpenDatasets D) (passes : List (Pass X Y)) (jobs : List (Job (Writing H) (Pass X Y) E)) (parcels : List Parcel) : Type 0 where
    pub crewed : Crewed has (Running kept (length jobs) all) start now 0 l passes jobs
    pub waits : Waits (names_of l.each) waiting jobs parcels
    pub met : AreMet datasets (names_of l.each)
    pub untouched : AreUntouched start now (names_of l.each)

  -- the same, and no message comes any more
  pub record Closes (l : OpenDatasets D) (passes : List (Pass X Y)) (jobs : List (Job (Writing H) (Pass X Y) E)) (parcels : List Parcel) : Type 0 where
    pub crewed : Crewed has (Running kept (length jobs) all) start now 1 l passes jobs
    pub waits : Waits (names_of l.each) waiting jobs parcels

  module _ {Z : Type 0} (name : List ℕ) (datasets : List (List ℕ)) where
    -- why a message of this dataset isn't dealt, and what stands then
    abbrev pub Undealt : BulkFault Z → OpenDatasets D → List (Pass X Y) → List (Job (Writing H) (Pass X Y) E) → List Parcel → Type 0
    Undealt faults.Disk l passes jobs parcels = Closes l passes jobs parcels
    Undealt (faults.NotATable dataset at want found) l passes jobs parcels =
        Closes l passes jobs parcels × (string_bytes dataset ≡ name) × IfSome start (λ s. Stands name (folder_at s name) (BadTable (record { at = at; want = want; found = found })))
    Undealt (faults.Damaged dataset damage) l passes jobs parcels = Closes l passes jobs parcels × (string_bytes dataset ≡ name) × IfSome start (λ s. Stands name (folder_at s name) (BadFile damage))
    Undealt (faults.TooMany count) l passes jobs parcels = Closes l passes jobs parcels × AreMet datasets (names_of l.each) × (count ≡ 2049)
    Undealt faults.NoMemory l passes jobs parcels = Closes l passes jobs parcels
    Undealt fault l passes jobs parcels = ⊥

    -- the dataset is open
    abbrev pub OpenedAs : Result ℕ (BulkFault Z) → OpenDatasets D → List (Pass X Y) → List (Job (Writing H) (Pass X Y) E) → List Parcel → Type 0
    OpenedAs (Ok n) l passes jobs parcels = Deals (datasets ++ name ∷ []) l passes jobs parcels × (slice_get (names_of l.each) n ≡ Some name)
    OpenedAs (Err fault) l passes jobs parcels = Undealt fault l passes jobs parcels

  -- the worker has an archiver and a pass in the dataset, or the store failed
  abbrev pub SeatedAs : {Z : Type 0} → ℕ → ℕ → List (List ℕ) → Result (Unit {0}) (BulkFault Z) → OpenDatasets D → List (Pass X Y) → List (Job (Writing H) (Pass X Y) E) → List Parcel → Type 0
  SeatedAs worker n datasets (Ok done) l passes jobs parcels = Deals datasets l passes jobs parcels × HasDesk jobs worker n
  SeatedAs worker n datasets (Err faults.Disk) l passes jobs parcels = Closes l passes jobs parcels
  SeatedAs worker n datasets (Err faults.NoMemory) l passes jobs parcels = Closes l passes jobs parcels
  SeatedAs worker n datasets (Err fault) l passes jobs parcels = ⊥

module _ {D H X Y E : Type 0} (has : D → Option Contents) (kept : H → Option (FileName → Option (List ℕ))) where
  -- a message of this dataset and this length is dealt, or why not
  abbrev pub DealtAs : {Z : Type 0} → Option Holdings → Option Holdings → List Stored → List Stored → Stored → Result (Unit {0}) (BulkFault Z) → OpenDatasets D → List (Pass X Y) → List (Job (Writing H) (Pass X Y) E) → List Parcel → Type 0
  DealtAs start now all waiting s (Ok done) l passes jobs parcels = Deals has kept start now all (waiting ++ s ∷ []) (datasets_in (all ++ (waiting ++ s ∷ []))) l passes jobs parcels
  DealtAs start now all waiting s (Err fault) l passes jobs parcels = Undealt has kept start now all waiting s.dataset (datasets_in (all ++ waiting)) fault l passes jobs parcels

  -- a worker may ask for an archiver of the dataset with this number
  pub record CanSeat (worker n : ℕ) (l : OpenDatasets D) (passes : List (Pass X Y)) (jobs : List (Job (Writing H) (Pass X Y) E)) : Type 0 where
    pub start : Option Holdings
    pub now : Option Holdings
    pub all : List Stored
    pub crewed : Crewed has (Running kept (length jobs) all) start now 0 l passes jobs
    pub worker_is : worker < length jobs
    pub number : n < length l.each

-- too many datasets is answered exactly where there would be too many
abbrev pub TooManyAt : {A Z : Type 0} → Bool → Result A (BulkFault Z) → Type 0
TooManyAt too_many (Ok done) = too_many ≡ false
TooManyAt too_many (Err (faults.NotATable dataset at want found)) = too_many ≡ false
TooManyAt too_many (Err (faults.Damaged dataset damage)) = too_many ≡ false
TooManyAt too_many (Err (faults.TooMany count)) = too_many ≡ true
TooManyAt too_many (Err fault) = Unit {0}

-- ---- rounds

module _ {H X Y F : Type 0} where
  -- a worker's pass has seen a table that is full
  abbrev pub SeeFull : List (Job (Writing H) (Pass X Y) (FlushFault F)) → Type 0
  SeeFull jobs = (w : ℕ) × ((j : Job (Writing H) (Pass X Y) (FlushFault F)) × (slice_get jobs w ≡ Some j) × ((n : ℕ) × SeesFull n j.desks.items))

  -- a refusal of a worker
  abbrev pub OnFull : {Z : Type 0} → BulkFault Z → List (Job (Writing H) (Pass X Y) (FlushFault F)) → Type 0
  OnFull faults.Disk jobs = Unit {0}
  OnFull (faults.TableFull count) jobs = (count ≡ 65535) × SeeFull jobs
  OnFull faults.NoMemory jobs = Unit {0}
  OnFull fault jobs = ⊥

module _ {D H X Y F : Type 0} (has : D → Option Contents) (kept : H → Option (FileName → Option (List ℕ))) where
  -- the workers can store the messages that wait
  pub record CanRun (l : OpenDatasets D) (passes : List (Pass X Y)) (jobs : List (Job (Writing H) (Pass X Y) (FlushFault F))) (parcels : List Parcel) : Type 0 where
    pub start : Option Holdings
    pub now : Option Holdings
    pub lost : ℕ
    pub all : List Stored
    pub waiting : List Stored
    pub crewed : Crewed has (Running kept (length jobs) all) start now lost l passes jobs
    pub waits : Waits (names_of l.each) waiting jobs parcels
    pub sum : octets_of (all ++ waiting) < 2 ^ 63

  -- the workers have stored these messages, or stopped
  abbrev pub RanAs : {Z : Type 0} → Option Holdings → Option Holdings → ℕ → List Stored → Result (Unit {0}) (BulkFault Z) → OpenDatasets D → List (Pass X Y) → List (Job (Writing H) (Pass X Y) (FlushFault F)) → Type 0
  RanAs start now lost all (Ok done) l passes jobs = Crewed has (Running kept (length jobs) all) start now lost l passes jobs
  RanAs start now lost all (Err fault) l passes jobs = Crewed has (Stopping kept (length jobs) all) start now lost l passes jobs × OnFull fault jobs

  -- the same, where something else is answered
  abbrev pub RanBeside : {A Z : Type 0} → Option Holdings → Option Holdings → ℕ → List Stored → Result A (BulkFault Z) → OpenDatasets D → List (Pass X Y) → List (Job (Writing H) (Pass X Y) (FlushFault F)) → Type 0
  RanBeside {Z = Z} start now lost all (Ok answer) l passes jobs = RanAs {Z = Z} start now lost all (Ok tt) l passes jobs
  RanBeside start now lost all (Err fault) l passes jobs = RanAs start now lost all (Err fault) l passes jobs

  -- the workers can list what is pending
  pub record CanFinish (l : OpenDatasets D) (passes : List (Pass X Y)) (jobs : List (Job (Writing H) (Pass X Y) (FlushFault F))) : Type 0 where
    pub start : Option Holdings
    pub now : Option Holdings
    pub lost : ℕ
    pub all : List Stored
    pub crewed : Crewed has (Running kept (length jobs) all) start now lost l passes jobs

  -- they have listed all of these messages, or stopped
  abbrev pub FinishedAs : {Z : Type 0} → Option Holdings → Option Holdings → ℕ → List Stored → Result (Unit {0}) (BulkFault Z) → OpenDatasets D → List (Pass X Y) → List (Job (Writing H) (Pass X Y) (FlushFault F)) → Type 0
  FinishedAs start now lost all (Ok done) l passes jobs = Crewed has (Finished kept (length jobs) all) start now lost l passes jobs
  FinishedAs start now lost all (Err fault) l passes jobs = Crewed has (Stopping kept (length jobs) all) start now lost l passes jobs × OnFull fault jobs

-- ---- the end

module _ {D H X Y F : Type 0} (has : D → Option Contents) (kept : H → Option (FileName → Option (List ℕ))) where
  -- the workers can give back what they have
  pub record CanEnd (l : OpenDatasets D) (passes : List (Pass X Y)) (jobs : List (Job (Writing H) (Pass X Y) (FlushFault F))) : Type 0 where
    pub start : Option Holdings
    pub now : Option Holdings
    pub lost : ℕ
    pub all : List Stored
    pub crewed : Crewed has (Stopping kept (length jobs) all) start now lost l passes jobs

-- an open dataset's table is full, and one of these messages is of the dataset
abbrev pub HasFull : {D : Type 0} → List Stored → List (OpenDataset D) → Type 0
HasFull {D = D} all hs = (h : OpenDataset D) × Contains hs h × IfSome h.pass (λ p. length p.view.history ≡ 65535) × (pairs_for all h.name ≢ [])

-- why a dataset wasn't opened, as it is told, with the dataset's text; or memory ran out over that
abbrev pub SaysNotATable : {Z : Type 0} → List ℕ → NotATable → BulkFault Z → Type 0
SaysNotATable name bad (faults.NotATable dataset at want found) = (string_bytes dataset ≡ name) × (record { at = at; want = want; found = found } ≡ bad)
SaysNotATable name bad faults.NoMemory = Unit {0}
SaysNotATable name bad fault = ⊥

abbrev pub SaysDamaged : {Z : Type 0} → List ℕ → Damage → BulkFault Z → Type 0
SaysDamaged name d (faults.Damaged dataset damage) = (string_bytes dataset ≡ name) × (damage ≡ d)
SaysDamaged name d faults.NoMemory = Unit {0}
SaysDamaged name d fault = ⊥

abbrev pub IsUnopened : {F Z : Type 0} → List ℕ → OpenFault F → BulkFault Z → Type 0
IsUnopened name (opens.Disk f) r = r ≡ faults.Disk
IsUnopened name (opens.NotATable at want found) r = SaysNotATable name (record { at = at; want = want; found = found }) r
IsUnopened name (opens.Damaged d) r = SaysDamaged name d r
IsUnopened name (opens.TooMany count) r = r ≡ faults.TooMany count
IsUnopened name opens.NoMemory r = r ≡ faults.NoMemory
