-- What stands in the datasets once an input was archived, or why not all of it.
use Rattle.std.specs.Prelude.{◌≡◌, ◌≢◌, ◌≤◌, ◌+◌, ◌/◌, ℕ, true, false, List, [], ◌++◌, length, All, Contains, Option, Some, None, IfSome, Result, Ok, Err, string_bytes}
use Rattle.fd_bytes.specs.Causes.{Rose}
use Rattle.fd_disk.specs.Folders.{Contents, Holdings, WhereTold, folder_at}
use Rattle.fd_sections.specs.declared.bad.Bad.TheVariants as bads
use Rattle.fd_recovery.specs.Recovered.{IsUndamaged}
use Rattle.fd_key.specs.Pairs as keys
use Rattle.fd_key.specs.Pairs.{key_text}
use Rattle.fd_schema.specs.Rules.{Rule}
use Rattle.fd_library.specs.Open.{OpenDataset, Seated, among, names_of}
use Rattle.fd_library.specs.Stores.{KeepsFolder, held_of, held_with}
use Rattle.fd_split.specs.Fields.{refusal_at}
use Rattle.fd_split.specs.declared.refusal.Refusal.TheVariants as refusals
use Rattle.fd_stored.specs.Distinct.{count_distinct}
use Rattle.fd_stored.specs.Archiving.{Stored, Taken, datasets_in, pairs_for, taken, taken_of}
use Rattle.fd_stored.specs.Causes.{BadFile, BadTable, Cause, InStream, NoRule, TooManyDatasets}
use Rattle.fd_stored.specs.Store.{Adds, AddsAll, Stands}
use Rattle.fd_entries.specs.declared.batch.Pair.{Pair}
use Rattle.fd_bulk.specs.Adding.{IsHeldBy, IsOnlyOf}
use Rattle.fd_bulk.specs.declared.bulk.Bulk.{Bulk}
use Rattle.fd_bulk.specs.declared.bulk.BulkFault.{BulkFault}
use Rattle.fd_bulk.specs.declared.bulk.BulkFault.TheVariants as faults

-- ---- all datasets

module _ {D : Type 0} (has : D → Option Contents) where
  -- each dataset, open or in the store, has batches of its pairs added to what the store held
  pub record Grows (workers : ℕ) (all : List Stored) (each : List (OpenDataset D)) (s t : Holdings) : Type 0 where
    pub schema : t.schema ≡ s.schema
    pub each_is : (name : List ℕ) (b : List (List Pair)) → held_of s name ≡ Some b → Adds workers (pairs_for all name) b (held_with has each t name)
    -- what a pass counts from are the batches that were there
    pub openings : All (λ h. (b : List (List Pair)) → held_of s h.name ≡ Some b → IfSome h.pass (λ p. length b ≡ p.view.opening)) each
    -- the open datasets weren't damaged
    pub sound : (name : List ℕ) → among name (names_of each) ≡ true → IsUndamaged name (folder_at s name)
    -- a dataset that isn't open has the files that it had, and its table as it was, synced, or founded
    pub keeps : (name : List ℕ) → among name (names_of each) ≡ false → KeepsFolder name (folder_at s name) (folder_at t name)

  -- and all pairs are stored
  pub record GrowsAll (workers : ℕ) (all : List Stored) (each : List (OpenDataset D)) (s t : Holdings) : Type 0 where
    pub schema : t.schema ≡ s.schema
    pub each_is : (name : List ℕ) (b : List (List Pair)) → held_of s name ≡ Some b → AddsAll workers (pairs_for all name) b (held_with has each t name)
    -- the datasets of the messages are open
    pub only : (name : List ℕ) → among name (names_of each) ≡ false → pairs_for all name ≡ []
    -- and weren't damaged
    pub sound : (name : List ℕ) → among name (names_of each) ≡ true → IsUndamaged name (folder_at s name)
    -- a dataset that isn't open has the files that it had, and its table as it was, synced, or founded
    pub keeps : (name : List ℕ) → among name (names_of each) ≡ false → KeepsFolder name (folder_at s name) (folder_at t name)

  -- Each pass is back, no archiver is out, and each pass has seen all that is listed. What it has in doubt is of pairs of its
  -- dataset, whose folder has the files of that; and where something is, one batch more is still few for so many workers.
  pub record IsBack (workers : ℕ) (all : List Stored) (h : OpenDataset D) : Type 0 where
    pub pass : Seated
    pub pass_is : h.pass ≡ Some pass
    pub none_out : h.lent ≡ 0
    pub seen : pass.view.opening + pass.view.amount ≡ length pass.view.history
    pub doubts : All (IsOnlyOf (pairs_for all h.name)) pass.view.doubts
    pub files : All (λ l. IfSome (has h.folder) (λ v. IsHeldBy v.files l)) pass.view.doubts
    pub few : pass.view.doubts ≢ [] → pass.view.amount + 1 ≤ workers + length (pairs_for all h.name) / 512

  -- the same, and nothing is in doubt
  abbrev pub IsSure : OpenDataset D → Type 0
  IsSure h = IfSome h.pass (λ p. p.view.doubts ≡ [])

-- ---- the answers

module _ {X : Type 0} where
  -- the cause of a refusal of the input, or of one of its messages
  abbrev pub IsCause : BulkFault X → Cause → Type 0
  IsCause (faults.Input f) c = ⊥
  IsCause (faults.Message at) c = c ≡ InStream (refusal_at at.number at.bad)
  IsCause (faults.NoMap number field) c = c ≡ InStream (refusals.NoMap number field)
  IsCause (faults.Cut t) c = c ≡ InStream (refusals.Cut t)
  IsCause (faults.Key number fault) c = c ≡ InStream (refusals.Key number fault)
  IsCause (faults.NoRule number text) c = (key : List keys.Pair) × (c ≡ NoRule key) × (string_bytes text ≡ key_text key)
  IsCause faults.Disk c = ⊥
  IsCause (faults.NotATable dataset at want found) c = ⊥
  IsCause (faults.Damaged dataset damage) c = ⊥
  IsCause (faults.TableFull count) c = ⊥
  IsCause (faults.TooMany count) c = (c ≡ TooManyDatasets) × (count ≡ 2049)
  IsCause faults.InputLimit c = c ≡ InStream refusals.Input
  IsCause faults.NoMemory c = ⊥

  -- the number that a refusal of a message tells
  abbrev pub IsNumbered : BulkFault X → ℕ → Type 0
  IsNumbered (faults.Message at) n = at.number ≡ n
  IsNumbered (faults.NoMap number field) n = number ≡ n
  IsNumbered (faults.Cut t) n = t.number ≡ n
  IsNumbered (faults.Key number fault) n = number ≡ n
  IsNumbered (faults.NoRule number text) n = number ≡ n
  IsNumbered fault n = Unit {0}

  -- octets that are no message are never told to be one of several fields
  abbrev pub IsSplit : BulkFault X → Type 0
  IsSplit (faults.Message at) = (section : ℕ) → at.bad ≡ bads.MultiField section → ⊥
  IsSplit fault = Unit {0}

  abbrev pub OnInput : Result Bulk (BulkFault X) → Type 0 → Type 0
  OnInput (Err (faults.Input f)) P = P
  OnInput answer P = Unit {0}

  abbrev pub OnDisk : Result Bulk (BulkFault X) → Type 0 → Type 0
  OnDisk (Err faults.Disk) P = P
  OnDisk answer P = Unit {0}

  -- No read failed. Where one failed, what is pending is listed first, and a refusal that is met there is told in its place.
  abbrev pub IsRead : Result Bulk (BulkFault X) → Type 0 → Type 0
  IsRead (Err (faults.Input f)) P = Unit {0}
  IsRead (Err faults.Disk) P = Unit {0}
  IsRead (Err (faults.TableFull count)) P = Unit {0}
  IsRead (Err faults.NoMemory) P = Unit {0}
  IsRead answer P = P

  -- Why an input is answered so, by its count of faults before and after, and the store's: a read that failed is told only where the
  -- input's rose, and a fault of the store only where its rose, which never falls.
  pub record HasReasons (before after first last : ℕ) (result : Result Bulk (BulkFault X)) : Type 0 where
    pub calm : IsRead result (after ≡ before)
    pub read : OnInput result (Rose before after)
    pub disk : OnDisk result (Rose first last)
    pub later : first ≤ last

-- these are all that is stored, and nothing is refused
pub record IsWholeTaken (all : List Stored) (junk : ℕ) (t : Taken) : Type 0 where
  pub stored : t.stored ≡ all
  pub refusal : t.refusal ≡ None
  pub skipped : t.junk ≡ junk

-- these come first of all that is stored
abbrev pub IsFront : List Stored → Taken → Type 0
IsFront all t = (more : List Stored) × (t.stored ≡ all ++ more)

-- These octets were read, and the messages that are whole in them are these; they come first of all.
pub record HasRead (rules : List Rule) (given : List keys.Pair) (octets : List ℕ) (after : Option (List ℕ)) (all : List Stored) : Type 0 where
  pub seen : List ℕ
  pub rest : List ℕ
  pub octets_are : octets ≡ seen ++ rest
  pub left_is : after ≡ Some rest
  pub whole : taken_of rules given seen ≡ all
  pub front : IsFront all (taken rules given octets)

module _ {D : Type 0} (has : D → Option Contents) (workers : ℕ) (rules : List Rule) (given : List keys.Pair) (left after : Option (List ℕ)) (start now : Option Holdings) (each : List (OpenDataset D)) where
  -- all messages of the input stand in the datasets
  pub record WholeArchived (bulk : Bulk) : Type 0 where
    pub all : List Stored
    pub grows : WhereTold start now (GrowsAll has workers all each)
    pub back : All (λ h. IsBack has workers all h × IsSure has h) each
    pub fields : bulk.fields ≡ length all
    pub datasets : bulk.datasets ≡ count_distinct (datasets_in all)
    pub taken_is : IfSome left (λ octets. IsWholeTaken all bulk.junk (taken rules given octets))

  -- these stand in them, and the message behind them is refused, or the input
  pub record RefusedArchived {X : Type 0} (fault : BulkFault X) : Type 0 where
    pub all : List Stored
    pub grows : WhereTold start now (GrowsAll has workers all each)
    pub back : All (λ h. IsBack has workers all h × IsSure has h) each
    -- the number of the message that is refused
    pub messages : ℕ
    pub numbered : IsNumbered fault (messages + 1)
    pub split : IsSplit fault
    pub next_is : IfSome left (λ octets. IsNumbered fault (taken rules given octets).next)
    pub refused : IfSome left (λ octets. ((taken rules given octets).stored ≡ all) × ((c : Cause) × ((taken rules given octets).refusal ≡ Some c) × IsCause fault c))

  -- these stand in them, and a read failed
  pub record UnreadArchived : Type 0 where
    pub all : List Stored
    pub grows : WhereTold start now (GrowsAll has workers all each)
    pub back : All (λ h. IsBack has workers all h × IsSure has h) each
    pub read : IfSome left (λ octets. HasRead rules given octets after all)

  -- why nothing more was stored: what is broken in a dataset of a message, or a table that is full
  abbrev pub IsStop : {X : Type 0} → BulkFault X → Type 0
  IsStop (faults.NotATable dataset at want found) =
      IfSome start (λ s. Stands (string_bytes dataset) (folder_at s (string_bytes dataset)) (BadTable (record { at = at; want = want; found = found }))) × IfSome left (λ octets. Contains (datasets_in (taken rules given octets).stored) (string_bytes dataset))
  IsStop (faults.Damaged dataset damage) =
      IfSome start (λ s. Stands (string_bytes dataset) (folder_at s (string_bytes dataset)) (BadFile damage)) × IfSome left (λ octets. Contains (datasets_in (taken rules given octets).stored) (string_bytes dataset))
  IsStop (faults.TableFull count) = (count ≡ 65535) × ((h : OpenDataset D) × Contains each h × IfSome h.pass (λ p. length p.view.history ≡ 65535) × IfSome left (λ octets. Contains (datasets_in (taken rules given octets).stored) h.name))
  IsStop fault = Unit {0}

  -- the store failed or refused, or memory ran out: each dataset holds what it held, and behind it batches of these alone
  pub record StoppedArchived {X : Type 0} (fault : BulkFault X) : Type 0 where
    pub all : List Stored
    pub grows : WhereTold start now (Grows has workers all each)
    pub back : All (IsBack has workers all) each
    pub front : IfSome left (λ octets. IsFront all (taken rules given octets))
    pub stop : IsStop fault

  -- what each answer says
  abbrev pub Archived : {X : Type 0} → Result Bulk (BulkFault X) → Type 0
  Archived (Ok bulk) = WholeArchived bulk
  Archived (Err (faults.Input f)) = UnreadArchived
  Archived {X = X} (Err (faults.Message at)) = RefusedArchived {X = X} (faults.Message at)
  Archived {X = X} (Err (faults.NoMap number field)) = RefusedArchived {X = X} (faults.NoMap number field)
  Archived {X = X} (Err (faults.Cut t)) = RefusedArchived {X = X} (faults.Cut t)
  Archived {X = X} (Err (faults.Key number fault)) = RefusedArchived {X = X} (faults.Key number fault)
  Archived {X = X} (Err (faults.NoRule number text)) = RefusedArchived {X = X} (faults.NoRule number text)
  Archived {X = X} (Err faults.Disk) = StoppedArchived {X = X} faults.Disk
  Archived {X = X} (Err (faults.NotATable dataset at want found)) = StoppedArchived {X = X} (faults.NotATable dataset at want found)
  Archived {X = X} (Err (faults.Damaged dataset damage)) = StoppedArchived {X = X} (faults.Damaged dataset damage)
  Archived {X = X} (Err (faults.TableFull count)) = StoppedArchived {X = X} (faults.TableFull count)
  Archived {X = X} (Err (faults.TooMany count)) = RefusedArchived {X = X} (faults.TooMany count)
  Archived {X = X} (Err faults.InputLimit) = RefusedArchived {X = X} faults.InputLimit
  Archived {X = X} (Err faults.NoMemory) = StoppedArchived {X = X} faults.NoMemory
