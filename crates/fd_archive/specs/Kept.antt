-- What the store holds once an input was archived, or why not all of it, and all was given back.
use Rattle.std.specs.Prelude.{◌≡◌, ◌+◌, ℕ, List, length, Option, Some, None, IfSome, Result, Ok, Err, Contains, string_bytes}
use Rattle.fd_disk.specs.Folders.{Holdings, WhereTold, folder_at}
use Rattle.fd_recovery.specs.Recovered.{IsUndamaged}
use Rattle.fd_key.specs.Pairs.{Pair}
use Rattle.fd_schema.specs.Rules.{Rule}
use Rattle.fd_stored.specs.Distinct.{count_distinct}
use Rattle.fd_stored.specs.Archiving.{Stored, datasets_in, pairs_for, taken}
use Rattle.fd_stored.specs.Causes.{BadFile, BadTable, Cause}
use Rattle.fd_stored.specs.Store.{Grows, GrowsBy, IsFull, Stands}
use Rattle.fd_bulk.specs.declared.bulk.Bulk.{Bulk}
use Rattle.fd_bulk.specs.declared.bulk.BulkFault.{BulkFault}
use Rattle.fd_bulk.specs.declared.bulk.BulkFault.TheVariants as faults
use Rattle.fd_bulk.specs.Archived.{HasRead, IsCause, IsFront, IsNumbered, IsWholeTaken}
use Rattle.fd_archive.specs.Crashing.{GrowsFirmly, IsFirm}

-- none of the datasets of these messages is damaged
abbrev pub NoneDamaged : List Stored → Holdings → Type 0
NoneDamaged all h = (name : List ℕ) → Contains (datasets_in all) name → IsUndamaged name (folder_at h name)

module _ (workers : ℕ) (rules : List Rule) (given : List Pair) (left after : Option (List ℕ)) (start now : Option Holdings) where
  -- all messages of the input stand in the store, also after a crash, in datasets that weren't damaged
  pub record WholeKept (bulk : Bulk) : Type 0 where
    pub all : List Stored
    pub grows : WhereTold start now (GrowsBy workers (pairs_for all))
    pub firm : WhereTold start now (IsFirm workers all)
    pub firmly : WhereTold start now (GrowsFirmly workers (pairs_for all))
    pub undamaged : IfSome start (NoneDamaged all)
    pub fields : bulk.fields ≡ length all
    pub datasets : bulk.datasets ≡ count_distinct (datasets_in all)
    pub taken_is : IfSome left (λ octets. IsWholeTaken all bulk.junk (taken rules given octets))

  -- these stand in it so, and the message behind them is refused, or the input
  pub record RefusedKept {X : Type 0} (fault : BulkFault X) : Type 0 where
    pub all : List Stored
    pub grows : WhereTold start now (GrowsBy workers (pairs_for all))
    pub firm : WhereTold start now (IsFirm workers all)
    pub firmly : WhereTold start now (GrowsFirmly workers (pairs_for all))
    pub undamaged : IfSome start (NoneDamaged all)
    -- the number of the message that is refused
    pub messages : ℕ
    pub numbered : IsNumbered fault (messages + 1)
    pub next_is : IfSome left (λ octets. IsNumbered fault (taken rules given octets).next)
    pub refused : IfSome left (λ octets. ((taken rules given octets).stored ≡ all) × ((c : Cause) × ((taken rules given octets).refusal ≡ Some c) × IsCause fault c))

  -- these stand in it so, and a read failed
  pub record UnreadKept : Type 0 where
    pub all : List Stored
    pub grows : WhereTold start now (GrowsBy workers (pairs_for all))
    pub firm : WhereTold start now (IsFirm workers all)
    pub firmly : WhereTold start now (GrowsFirmly workers (pairs_for all))
    pub read : IfSome left (λ octets. HasRead rules given octets after all)

  -- the dataset is that of a message
  abbrev pub IsOfMessage : List ℕ → Type 0
  IsOfMessage name = IfSome left (λ octets. Contains (datasets_in (taken rules given octets).stored) name)

  -- why nothing more was stored: what is broken in a dataset of a message, or the table of one is full
  abbrev pub IsStop : {X : Type 0} → BulkFault X → Type 0
  IsStop (faults.NotATable dataset at want found) =
      IfSome start (λ s. Stands (string_bytes dataset) (folder_at s (string_bytes dataset)) (BadTable (record { at = at; want = want; found = found }))) × IsOfMessage (string_bytes dataset)
  IsStop (faults.Damaged dataset damage) = IfSome start (λ s. Stands (string_bytes dataset) (folder_at s (string_bytes dataset)) (BadFile damage)) × IsOfMessage (string_bytes dataset)
  IsStop (faults.TableFull count) = (count ≡ 65535) × ((name : List ℕ) × IfSome now (λ t. IsFull t name) × IsOfMessage name)
  IsStop fault = Unit {0}

  -- The store failed or refused, or memory ran out: each dataset holds what it held, and behind it batches of these alone, also
  -- after a crash.
  pub record StoppedKept {X : Type 0} (fault : BulkFault X) : Type 0 where
    pub all : List Stored
    pub grows : WhereTold start now (Grows workers (pairs_for all))
    pub firmly : WhereTold start now (GrowsFirmly workers (pairs_for all))
    pub front : IfSome left (λ octets. IsFront all (taken rules given octets))
    pub stop : IsStop fault

  -- what each answer says
  abbrev pub InputKept : {X : Type 0} → Result Bulk (BulkFault X) → Type 0
  InputKept (Ok bulk) = WholeKept bulk
  InputKept (Err (faults.Input f)) = UnreadKept
  InputKept {X = X} (Err (faults.Message at)) = RefusedKept {X = X} (faults.Message at)
  InputKept {X = X} (Err (faults.NoMap number field)) = RefusedKept {X = X} (faults.NoMap number field)
  InputKept {X = X} (Err (faults.Cut t)) = RefusedKept {X = X} (faults.Cut t)
  InputKept {X = X} (Err (faults.Key number fault)) = RefusedKept {X = X} (faults.Key number fault)
  InputKept {X = X} (Err (faults.NoRule number text)) = RefusedKept {X = X} (faults.NoRule number text)
  InputKept {X = X} (Err faults.Disk) = StoppedKept {X = X} faults.Disk
  InputKept {X = X} (Err (faults.NotATable dataset at want found)) = StoppedKept {X = X} (faults.NotATable dataset at want found)
  InputKept {X = X} (Err (faults.Damaged dataset damage)) = StoppedKept {X = X} (faults.Damaged dataset damage)
  InputKept {X = X} (Err (faults.TableFull count)) = StoppedKept {X = X} (faults.TableFull count)
  InputKept {X = X} (Err (faults.TooMany count)) = RefusedKept {X = X} (faults.TooMany count)
  InputKept {X = X} (Err faults.InputLimit) = RefusedKept {X = X} faults.InputLimit
  InputKept {X = X} (Err faults.NoMemory) = StoppedKept {X = X} faults.NoMemory
