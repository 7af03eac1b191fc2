-- Fields that were taken with their places are dealt.
use Rattle.std.specs.Prelude.{◌≡◌, ◌≤◌, ℕ, List, Option, Err}
use Rattle.fd_disk.specs.declared.folders.FileName.{FileName}
use Rattle.fd_disk.specs.Folders.{Contents, Holdings}
use Rattle.fd_sections.specs.Message.{Sections}
use Rattle.fd_split.specs.Positions.{Position}
use Rattle.fd_key.specs.Pairs as keys
use Rattle.fd_schema.specs.Rules.{Rule}
use Rattle.fd_sheets.specs.declared.sheets.Sheet.{Sheet}
use Rattle.fd_sheets.specs.declared.sheets.Unplaced.{Unplaced}
use Rattle.fd_sheets.specs.declared.reader.Stop.{Stop}
use Rattle.fd_sheets.specs.declared.reader.Stop.TheVariants as stops
use Rattle.fd_sheets.specs.Sheets.{FoundAs, Placed}
use Rattle.fd_turn.specs.declared.board.Pass.{Pass}
use Rattle.fd_archiver.specs.declared.fault.FlushFault.{FlushFault}
use Rattle.fd_archiver.specs.Writing.{Writing}
use Rattle.fd_library.specs.Open.{OpenDatasets}
use Rattle.fd_stored.specs.Archiving.{Stored}
use Rattle.fd_bulk.specs.declared.bulk.BulkFault.{BulkFault}
use Rattle.fd_bulk.specs.declared.bulk.BulkFault.TheVariants as faults
use Rattle.fd_shares.specs.declared.round.Job.{Job}
use Rattle.fd_shares.specs.declared.round.Parcel.{Parcel}
use Rattle.fd_bulk.specs.Inputs.{Going, PlacedAs}

-- why a field has no place, told of the message of this number
abbrev pub ToldAs : {Z : Type 0} → ℕ → Unplaced → BulkFault Z → Type 0
ToldAs number reason fault = (rules : List Rule) (given : List keys.Pair) (m : Sections) → FoundAs rules given m (Err reason) → PlacedAs rules given number m (Err fault)

-- why no more is read, as it is told
abbrev pub IsTold : {Z : Type 0} → Stop Z → BulkFault Z → Type 0
IsTold (stops.Input f) fault = fault ≡ faults.Input f
IsTold (stops.Message at) fault = fault ≡ faults.Message at
IsTold (stops.NoMap number field) fault = fault ≡ faults.NoMap number field
IsTold stops.InputLimit fault = fault ≡ faults.InputLimit
IsTold stops.NoMemory fault = fault ≡ faults.NoMemory

module _ {D H X Y F : Type 0} (has : D → Option Contents) (kept : H → Option (FileName → Option (List ℕ))) where
  -- these fields come next, and can be dealt
  pub record CanDeal (now : Option Holdings) (sheets : List Sheet) (l : OpenDatasets D) (passes : List (Pass X Y)) (jobs : List (Job (Writing H) (Pass X Y) (FlushFault F))) (parcels : List Parcel) : Type 0 where
    pub rules : List Rule
    pub given : List keys.Pair
    pub from : Position
    pub to : Position
    pub few : from.split.fed ≤ 68719476736
    pub placed : Placed rules given from sheets to
    pub start : Option Holdings
    pub all : List Stored
    pub waiting : List Stored
    pub going : Going has kept start now all waiting l passes jobs parcels from
