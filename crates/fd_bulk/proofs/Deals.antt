-- A message that is dealt, or isn't.
use Rattle.std.proofs.Common.{◌≡◌, ℕ, Bool, false, List, Option, Err, refl}
use Rattle.fd_disk.specs.declared.folders.FileName.{FileName}
use Rattle.fd_disk.specs.Folders.{Contents, Holdings}
use Rattle.fd_turn.specs.declared.board.Pass.{Pass}
use Rattle.fd_archiver.specs.Writing.{Writing}
use Rattle.fd_library.specs.Open.{OpenDatasets}
use Rattle.fd_stored.specs.Archiving.{Stored}
use Rattle.fd_bulk.specs.declared.bulk.BulkFault.{BulkFault}
use Rattle.fd_bulk.specs.declared.bulk.BulkFault.TheVariants as faults
use Rattle.fd_shares.specs.declared.round.Job.{Job}
use Rattle.fd_shares.specs.declared.round.Parcel.{Parcel}
use Rattle.fd_bulk.specs.Inputs.{is_calm}
use Rattle.fd_bulk.specs.Crewing.{SeatedAs, TooManyAt, Undealt}

module _ {D H X Y E : Type 0} (has : D → Option Contents) (kept : H → Option (FileName → Option (List ℕ))) (start now : Option Holdings) (all waiting : List Stored) (worker n : ℕ) (datasets texts : List (List ℕ)) (name : List ℕ) (l : OpenDatasets D) (ps : List (Pass X Y)) (js : List (Job (Writing H) (Pass X Y) E)) (parcels : List Parcel) where
  -- a worker that met no dataset leaves its message
  pub seated_undealt : {Z : Type 0} (fault : BulkFault Z) → SeatedAs has kept start now all waiting worker n datasets (Err fault) l ps js parcels → Undealt has kept start now all waiting name texts fault l ps js parcels
  seated_undealt (faults.Input f) s = absurd s
  seated_undealt (faults.Message bad) s = absurd s
  seated_undealt (faults.NoMap number field) s = absurd s
  seated_undealt (faults.Cut t) s = absurd s
  seated_undealt (faults.Key number why) s = absurd s
  seated_undealt (faults.NoRule number text) s = absurd s
  seated_undealt faults.Disk s = s
  seated_undealt (faults.NotATable dataset at want found) s = absurd s
  seated_undealt (faults.Damaged dataset damage) s = absurd s
  seated_undealt (faults.TableFull count) s = absurd s
  seated_undealt (faults.TooMany count) s = absurd s
  seated_undealt faults.InputLimit s = absurd s
  seated_undealt faults.NoMemory s = s

  pub seated_few : {Z : Type 0} (too_many : Bool) (fault : BulkFault Z) → SeatedAs has kept start now all waiting worker n datasets (Err fault) l ps js parcels → TooManyAt {A = Unit {0}} too_many (Err fault)
  seated_few b (faults.Input f) s = tt
  seated_few b (faults.Message bad) s = tt
  seated_few b (faults.NoMap number field) s = tt
  seated_few b (faults.Cut t) s = tt
  seated_few b (faults.Key number why) s = tt
  seated_few b (faults.NoRule number text) s = tt
  seated_few b faults.Disk s = tt
  seated_few b (faults.NotATable dataset at want found) s = absurd s
  seated_few b (faults.Damaged dataset damage) s = absurd s
  seated_few b (faults.TableFull count) s = tt
  seated_few b (faults.TooMany count) s = absurd s
  seated_few b faults.InputLimit s = tt
  seated_few b faults.NoMemory s = tt

  -- a read may have failed where that is told
  pub seated_calm : {Z : Type 0} (fault : BulkFault Z) → SeatedAs has kept start now all waiting worker n datasets (Err fault) l ps js parcels → is_calm fault ≡ false
  seated_calm (faults.Input f) s = refl
  seated_calm (faults.Message bad) s = absurd s
  seated_calm (faults.NoMap number field) s = absurd s
  seated_calm (faults.Cut t) s = absurd s
  seated_calm (faults.Key number why) s = absurd s
  seated_calm (faults.NoRule number text) s = absurd s
  seated_calm faults.Disk s = refl
  seated_calm (faults.NotATable dataset at want found) s = absurd s
  seated_calm (faults.Damaged dataset damage) s = absurd s
  seated_calm (faults.TableFull count) s = refl
  seated_calm (faults.TooMany count) s = absurd s
  seated_calm faults.InputLimit s = absurd s
  seated_calm faults.NoMemory s = refl
