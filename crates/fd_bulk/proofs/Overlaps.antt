-- Messages that were dealt are stored while the input is read on.
use Rattle.std.proofs.Common.{◌≡◌, ◌≤◌, ℕ, false, List, [], ◌++◌, Option, Result, Ok, Err, IfErr}
use Rattle.fd_disk.specs.declared.folders.FileName.{FileName}
use Rattle.fd_disk.specs.Folders.{Contents, Holdings}
use Rattle.fd_split.specs.Positions.{Position}
use Rattle.fd_key.specs.Pairs.{Pair}
use Rattle.fd_schema.specs.Rules.{Rule}
use Rattle.fd_turn.specs.declared.board.Pass.{Pass}
use Rattle.fd_archiver.specs.declared.fault.FlushFault.{FlushFault}
use Rattle.fd_archiver.specs.Writing.{Writing}
use Rattle.fd_library.specs.Open.{OpenDatasets}
use Rattle.fd_stored.specs.Archiving.{Stored}
use Rattle.fd_bulk.specs.declared.bulk.BulkFault.{BulkFault}
use Rattle.fd_shares.specs.declared.round.Job.{Job}
use Rattle.fd_shares.specs.declared.round.Parcel.{Parcel}
use Rattle.fd_bulk.specs.Crewing.{RanBeside}
use Rattle.fd_bulk.specs.Inputs.{GoesOn, Going, is_calm}
use Rattle.fd_bulk.proofs.Gone.{ended_run, gone_run}
use Rattle.fd_bulk.proofs.Settling.{not_calm}
use Rattle.fd_bulk.proofs.Steps.{stored_nothing}

module _ {D H X Y F A Z : Type 0} (has : D → Option Contents) (kept : H → Option (FileName → Option (List ℕ))) (start before now : Option Holdings) (all waits : List Stored) (l : OpenDatasets D) (qs : List (Pass X Y)) where
  pub ran_goes : (rules : List Rule) (given : List Pair) (ps : List (Pass X Y)) (js ks : List (Job (Writing H) (Pass X Y) (FlushFault F))) (parcels more : List Parcel) (p : Position) (few : p.split.fed ≤ 68719476736) (g : Going has kept start before all waits l ps js parcels p) → now ≡ before → more ≡ []
      → (result : Result A (BulkFault Z)) → RanBeside has kept start before 0 (all ++ waits) result l qs ks → GoesOn has kept rules given p p start now (all ++ waits) l qs ks more result
  ran_goes rules given ps js ks parcels more p few g same none (Ok answer) ran = gone_run has kept rules given start before (all ++ waits) l ps js parcels p p (record { all = all; waiting = waits; on = stored_nothing rules given p (all ++ waits); going = g }) few now same qs ks more none Z ran
  ran_goes rules given ps js ks parcels more p few g same none (Err fault) ran = ended_run has kept rules given start before (all ++ waits) l ps js parcels p p (record { all = all; waiting = waits; on = stored_nothing rules given p (all ++ waits); going = g }) few now same qs ks more none fault ran

  pub ran_stopped : (ks : List (Job (Writing H) (Pass X Y) (FlushFault F))) (result : Result A (BulkFault Z)) → RanBeside has kept start before 0 (all ++ waits) result l qs ks → IfErr result (λ e. is_calm e ≡ false)
  ran_stopped ks (Ok answer) ran = tt
  ran_stopped ks (Err fault) ran = not_calm ks fault ran.1
