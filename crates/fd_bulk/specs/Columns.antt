-- What the workers have of one dataset, one place for each worker, and what is left of it once all is back.
use Rattle.std.specs.Prelude.{◌≡◌, ◌+◌, ℕ, suc, List, [], ◌∷◌, Option, Some, None}
use mathlib.Core.List.{IsPrefix}
use Rattle.fd_disk.specs.declared.folders.FileName.{FileName}
use Rattle.fd_entries.specs.declared.batch.Listing.{Listing}
use Rattle.fd_entries.specs.declared.batch.Pair.{Pair}
use Rattle.fd_turn.specs.declared.board.Pass.{Pass}
use Rattle.fd_turn.specs.Passes.{BoardId, view}
use Rattle.fd_archiver.specs.Writing.{Writing}
use Rattle.fd_shares.specs.declared.round.Desk.{Desk}
use Rattle.fd_shares.specs.Sharing.{MayWork}
use Rattle.fd_bulk.specs.Tables.{Every, IsHeld}
use Rattle.fd_shares.specs.Working.{AreSealed, Sealing, Stage}

module _ {H X Y : Type 0} where
  -- how many entries the workers' passes count together
  abbrev pub amounts : List (Option (Desk (Writing H) (Pass X Y))) → ℕ
  amounts [] = 0
  amounts (None ∷ ds) = amounts ds
  amounts (Some d ∷ ds) = (view d.pass).amount + amounts ds

  -- the numbers of their archivers
  abbrev pub numbers : List (Option (Desk (Writing H) (Pass X Y))) → List ℕ
  numbers [] = []
  numbers (None ∷ ds) = numbers ds
  numbers (Some d ∷ ds) = d.archiver.writer ∷ numbers ds

  module _ (kept : H → Option (FileName → Option (List ℕ))) where
    -- where each worker stands in the dataset
    abbrev pub ColumnWorks : (ℕ → Stage) → (ℕ → List Pair) → BoardId → List ℕ → ℕ → List (Option (Desk (Writing H) (Pass X Y))) → Type 0
    ColumnWorks stages mine b name w [] = Unit {0}
    ColumnWorks stages mine b name w (x ∷ xs) = MayWork kept (stages w) b name (mine w) x × ColumnWorks stages mine b name (suc w) xs

    -- all that a worker has listed is in this history, and its files are among these
    pub record IsHome (opening : ℕ) (history : List Listing) (files : FileName → Option (List ℕ)) (d : Desk (Writing H) (Pass X Y)) : Type 0 where
      pub seen : IsPrefix (view d.pass).history history
      pub opening_is : (view d.pass).opening ≡ opening
      pub held : (h : List Listing) (rs : List (ℕ × Sealing)) → AreSealed kept d.archiver h rs → Every (IsHeld files) rs

    abbrev pub AreHome : ℕ → List Listing → (FileName → Option (List ℕ)) → List (Option (Desk (Writing H) (Pass X Y))) → Type 0
    AreHome opening history files [] = Unit {0}
    AreHome opening history files (None ∷ ds) = AreHome opening history files ds
    AreHome opening history files (Some d ∷ ds) = IsHome opening history files d × AreHome opening history files ds
