-- What was found of an input stands, or a worker's refusal comes in its place; and why each is told.
use Rattle.std.specs.Prelude.{◌≡◌, ◌⊎◌, ◌≤◌, ℕ, true, false, List, Option, Result, Err, OnOk, IfErr}
use Rattle.fd_bytes.specs.Causes.{Rose}
use Rattle.fd_disk.specs.declared.folders.FileName.{FileName}
use Rattle.fd_disk.specs.Folders.{Contents, Holdings}
use Rattle.fd_key.specs.Pairs.{Pair}
use Rattle.fd_schema.specs.Rules.{Rule}
use Rattle.fd_turn.specs.declared.board.Pass.{Pass}
use Rattle.fd_archiver.specs.declared.fault.FlushFault.{FlushFault}
use Rattle.fd_archiver.specs.Writing.{Writing}
use Rattle.fd_library.specs.Open.{OpenDatasets}
use Rattle.fd_bulk.specs.declared.bulk.BulkFault.{BulkFault}
use Rattle.fd_bulk.specs.declared.reading.Counts.{Counts}
use Rattle.fd_shares.specs.declared.round.Job.{Job}
use Rattle.fd_shares.specs.declared.round.Parcel.{Parcel}
use Rattle.fd_bulk.specs.Crewing.{Running}
use Rattle.fd_bulk.specs.Halting.{OnStore}
use Rattle.fd_bulk.specs.Inputs.{InputDealt, InputEnds, is_calm, is_unread}

-- Why each answer comes, by the input's count of faults before and after, and the store's: a read that failed is told only where the
-- input's rose, and a fault of the store only where its rose; where no read failed, the input's is the same.
pub record HasCauses {A Z : Type 0} (before after first last : ℕ) (result : Result A (BulkFault Z)) : Type 0 where
  pub calm : OnOk result (after ≡ before)
  pub read : IfErr result (λ e. is_unread e ≡ true → Rose before after)
  pub read_quiet : IfErr result (λ e. is_calm e ≡ true → after ≡ before)
  pub cause : IfErr result (λ e. OnStore e (Rose first last))
  pub later : first ≤ last

-- a worker's refusal: it says nothing of a read
pub record IsRefusal {Z : Type 0} (first last : ℕ) (fault : BulkFault Z) : Type 0 where
  pub unread : is_unread fault ≡ false
  pub calm : is_calm fault ≡ false
  pub cause : OnStore fault (Rose first last)

-- what was found stands, or a worker's refusal comes in its place; the store's count of faults never falls
pub record StandsOr {A Z : Type 0} (first last : ℕ) (found result : Result A (BulkFault Z)) : Type 0 where
  pub later : first ≤ last
  pub stands : (result ≡ found) ⊎ ((fault : BulkFault Z) × (result ≡ Err fault) × IsRefusal first last fault)

module _ {D H X Y F Z : Type 0} (has : D → Option Contents) (kept : H → Option (FileName → Option (List ℕ))) (now : Option Holdings) (l : OpenDatasets D) (passes : List (Pass X Y)) (jobs : List (Job (Writing H) (Pass X Y) (FlushFault F))) where
  -- the fields of some input are dealt, and this was found of it
  pub record WasDealt (parcels : List Parcel) (found : Result Counts (BulkFault Z)) : Type 0 where
    pub rules : List Rule
    pub given : List Pair
    pub left : Option (List ℕ)
    pub after : Option (List ℕ)
    pub start : Option Holdings
    pub dealt : InputDealt has kept rules given left after start now l passes jobs parcels found

  -- they are stored
  pub record WasStored (found : Result Counts (BulkFault Z)) : Type 0 where
    pub rules : List Rule
    pub given : List Pair
    pub left : Option (List ℕ)
    pub after : Option (List ℕ)
    pub start : Option Holdings
    pub stored : InputEnds has kept rules given left after start now l passes jobs (Running kept) found
