-- A batch of an input: its fields are dealt, and the reader stands behind them.
use Rattle.std.specs.Prelude.{◌≡◌, ◌≤◌, ◌<◌, ℕ, false, List, [], Option, Result, Ok, Err}
use Rattle.fd_disk.specs.declared.folders.FileName.{FileName}
use Rattle.fd_disk.specs.Folders.{Contents, Holdings}
use Rattle.fd_io.specs.Streams.{Gives, IsAtEnd}
use Rattle.fd_key.specs.Pairs as keys
use Rattle.fd_schema.specs.Rules.{Rule}
use Rattle.fd_turn.specs.declared.board.Pass.{Pass}
use Rattle.fd_archiver.specs.declared.fault.FlushFault.{FlushFault}
use Rattle.fd_archiver.specs.Writing.{Writing}
use Rattle.fd_library.specs.Open.{OpenDatasets}
use Rattle.fd_split.specs.Positions.{IsIdle, Position}
use Rattle.fd_sheets.specs.declared.reader.Reach.{Reach}
use Rattle.fd_sheets.specs.Reading.{StopsAs, is_end}
use Rattle.fd_bulk.specs.declared.bulk.BulkFault.{BulkFault}
use Rattle.fd_shares.specs.declared.round.Job.{Job}
use Rattle.fd_shares.specs.declared.round.Parcel.{Parcel}
use Rattle.fd_bulk.specs.Inputs.{InputDealt, Midway}

module _ {D H X Y F : Type 0} (has : D → Option Contents) (kept : H → Option (FileName → Option (List ℕ))) (rules : List Rule) (given : List keys.Pair) (left after : Option (List ℕ)) (start now : Option Holdings) (l : OpenDatasets D) (passes : List (Pass X Y)) (jobs : List (Job (Writing H) (Pass X Y) (FlushFault F))) (parcels : List Parcel) (p q : Position) where
  -- The reader went from p to q, and all fields before q are dealt. Where more is to be read, it has gone on.
  pub record BatchDealt (Z : Type 0) (reach : Reach) : Type 0 where
    pub mid : Option (List ℕ)
    pub midway : Midway has kept rules given left mid start now l passes jobs parcels q
    pub few : q.split.fed ≤ 68719476736
    pub stops : StopsAs {X = Z} q q mid after (Ok reach)
    pub further : is_end reach ≡ false → p.count < q.count

  -- or the input ended
  abbrev pub BatchEnds : {Z : Type 0} → Result Reach (BulkFault Z) → Type 0
  BatchEnds {Z = Z} (Ok reach) = BatchDealt Z reach
  BatchEnds (Err fault) = InputDealt has kept rules given left after start now l passes jobs parcels (Err fault)

module _ {D H X Y F : Type 0} (has : D → Option Contents) (kept : H → Option (FileName → Option (List ℕ))) (rules : List Rule) (given : List keys.Pair) (left after : Option (List ℕ)) (start now : Option Holdings) (l : OpenDatasets D) (passes : List (Pass X Y)) (jobs : List (Job (Writing H) (Pass X Y) (FlushFault F))) (parcels : List Parcel) (q : Position) where
  -- The input is at its end, where the reader stands at q, and all fields of the messages that are whole are dealt.
  pub record EndReached : Type 0 where
    pub mid : Option (List ℕ)
    pub midway : Midway has kept rules given left mid start now l passes jobs parcels q
    pub few : q.split.fed ≤ 68719476736
    pub waits : IsIdle q
    pub at_end : IsAtEnd mid
    pub nothing : Gives mid after []

  -- or the input ended before
  abbrev pub AllDealt : {A Z : Type 0} → Result A (BulkFault Z) → Type 0
  AllDealt (Ok done) = EndReached
  AllDealt (Err fault) = InputDealt has kept rules given left after start now l passes jobs parcels (Err fault)
