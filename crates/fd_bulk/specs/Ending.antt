-- What the workers give back of a dataset, and what stands in it then.
use Rattle.std.specs.Prelude.{◌≡◌, ◌≤◌, ◌<◌, ◌+◌, ℕ, List, [], ◌∷◌, take, length, slice_get, Option, Some, None}
use mathlib.Core.List.{IsPrefix}
use Rattle.fd_disk.specs.declared.folders.FileName.{FileName}
use Rattle.fd_disk.specs.Folders.{Contents}
use Rattle.fd_turn.specs.declared.board.Pass.{Pass}
use Rattle.fd_turn.specs.declared.view.Lock.TheVariants.{Free}
use Rattle.fd_turn.specs.Passes.{BoardId, IsOf, view}
use Rattle.fd_turn.specs.Views.{View, all_parts, merger}
use Rattle.fd_dataset.specs.Causes.{AreFewer}
use Rattle.fd_archiver.specs.Writing.{Writing}
use Rattle.fd_library.specs.Calls.{TakesWriter}
use Rattle.fd_library.specs.Open.{OpenDataset, OpenDatasets, Seated, names_of}
use Rattle.fd_shares.specs.declared.round.Desk.{Desk}
use Rattle.fd_shares.specs.declared.round.Job.{Job}
use Rattle.fd_bulk.specs.Halting.{Each}

-- ---- what the workers have of one dataset, one place for each worker

module _ {H X Y : Type 0} where
  abbrev pub desk_in : Option (Option (Desk (Writing H) (Pass X Y))) → Option (Desk (Writing H) (Pass X Y))
  desk_in None = None
  desk_in (Some o) = o

  -- how many parts their passes have together
  abbrev pub parts_in : List (Option (Desk (Writing H) (Pass X Y))) → ℕ
  parts_in [] = 0
  parts_in (None ∷ ds) = parts_in ds
  parts_in (Some d ∷ ds) = (view d.pass).parts + parts_in ds

  -- an archiver and a pass of this dataset
  abbrev pub CanHand : BoardId → List ℕ → Option (Desk (Writing H) (Pass X Y)) → Type 0
  CanHand b name None = Unit {0}
  CanHand b name (Some d) = IsOf b d.pass × ((view d.pass).lock ≡ Free) × (d.archiver.dataset ≡ name)

module _ {H X Y E : Type 0} where
  -- what a worker has in the dataset with this number
  abbrev pub desk_of : ℕ → Job (Writing H) (Pass X Y) E → Option (Desk (Writing H) (Pass X Y))
  desk_of n j = desk_in (slice_get j.desks.items n)

  abbrev pub column : ℕ → List (Job (Writing H) (Pass X Y) E) → List (Option (Desk (Writing H) (Pass X Y)))
  column n [] = []
  column n (j ∷ js) = desk_of n j ∷ column n js

  -- a worker has still what it had in the datasets before this number
  pub record IsShorter (n : ℕ) (j k : Job (Writing H) (Pass X Y) E) : Type 0 where
    pub desks : k.desks.items ≡ take n j.desks.items

-- ---- it is given back

module _ {D H X Y : Type 0} (has : D → Option Contents) (faults : D → ℕ) (kept : H → Option (FileName → Option (List ℕ))) where
  -- a worker's pass was joined, and its archiver is back; or it had none
  abbrev pub Hands : Option (Desk (Writing H) (Pass X Y)) → OpenDataset D → OpenDataset D → View → View → Type 0
  Hands None h g v w = (g ≡ h) × (w ≡ v)
  Hands (Some d) h g v w = TakesWriter has faults kept d.archiver h g × (w ≡ merger v (view d.pass)) × IsPrefix v.history w.history × IsPrefix (view d.pass).history w.history

  -- those of these workers
  abbrev pub HandsAll : List (Option (Desk (Writing H) (Pass X Y))) → OpenDataset D → OpenDataset D → View → View → Type 0
  HandsAll [] h g v w = (g ≡ h) × (w ≡ v)
  HandsAll (x ∷ xs) h g v w = (mid : OpenDataset D) × ((mid_view : View) × (Hands x h mid v mid_view × HandsAll xs mid g mid_view w))

  -- all is back, and the pass, which has seen all that is listed
  pub record EndedAs (v : View) (ds : List (Option (Desk (Writing H) (Pass X Y)))) (h g : OpenDataset D) : Type 0 where
    pub mid : OpenDataset D
    pub mid_view : View
    pub handed : HandsAll ds h mid v mid_view
    pub seat : Seated
    pub rest : g ≡ record mid { pass = Some seat }
    pub seen : IsPrefix mid_view.history seat.view.history
    pub count : seat.view.opening + seat.view.amount ≡ length seat.view.history
    pub doubts : AreFewer mid_view.doubts seat.view.doubts
    pub few : length seat.view.history ≤ 65535
    pub view_is : seat.view ≡ record mid_view { history = seat.view.history; doubts = seat.view.doubts }

module _ {D H X Y E : Type 0} where
  -- the pass is of the dataset with this number, which is the worker's last, and what the worker has in it is so too
  pub record CanGive (n : ℕ) (l : OpenDatasets D) (p : Pass X Y) (j : Job (Writing H) (Pass X Y) E) : Type 0 where
    pub board : BoardId
    pub held : OpenDataset D
    pub board_at : slice_get l.boards n ≡ Some board
    pub held_at : slice_get l.each n ≡ Some held
    pub own : IsOf board p
    pub free : (view p).lock ≡ Free
    pub long : length j.desks.items ≡ n + 1
    pub can : CanHand board held.name (desk_of n j)

  -- the same of all workers
  pub record CanGiveAll (n : ℕ) (l : OpenDatasets D) (p : Pass X Y) (js : List (Job (Writing H) (Pass X Y) E)) : Type 0 where
    pub board : BoardId
    pub held : OpenDataset D
    pub board_at : slice_get l.boards n ≡ Some board
    pub held_at : slice_get l.each n ≡ Some held
    pub own : IsOf board p
    pub free : (view p).lock ≡ Free
    pub each : (w : ℕ) (j : Job (Writing H) (Pass X Y) E) → slice_get js w ≡ Some j → (length j.desks.items ≡ n + 1) × CanHand board held.name (desk_of n j)

  -- the pass is out, and has every part once those of the workers are back
  pub record CanEndOne (n : ℕ) (l : OpenDatasets D) (p : Pass X Y) (js : List (Job (Writing H) (Pass X Y) E)) : Type 0 where
    pub give : CanGiveAll n l p js
    pub out : give.held.pass ≡ None
    pub subject : (view p).subject ≡ give.held.name
    pub parts : (view p).parts + parts_in (column n js) ≡ all_parts

-- ---- all datasets, the last one first

module _ {D H X Y : Type 0} (has : D → Option Contents) (faults : D → ℕ) (kept : H → Option (FileName → Option (List ℕ))) where
  -- the dataset with this number is back
  pub record IsEnded (n : ℕ) (v : View) (ds : List (Option (Desk (Writing H) (Pass X Y)))) (h : OpenDataset D) (m : OpenDatasets D) : Type 0 where
    pub after : OpenDataset D
    pub after_at : slice_get m.each n ≡ Some after
    pub how : EndedAs has faults kept v ds h after

module _ {D H X Y E : Type 0} (has : D → Option Contents) (faults : D → ℕ) (kept : H → Option (FileName → Option (List ℕ))) where
  -- of the datasets l with these passes and workers, those behind the passes that are left are back
  pub record Ends (l m : OpenDatasets D) (ps qs : List (Pass X Y)) (js ks : List (Job (Writing H) (Pass X Y) E)) : Type 0 where
    pub boards : m.boards ≡ l.boards
    pub names : names_of m.each ≡ names_of l.each
    pub front : IsPrefix qs ps
    pub jobs : Each (λ i. IsShorter (length qs)) js ks
    pub still : (n : ℕ) → n < length qs → slice_get m.each n ≡ slice_get l.each n
    pub ended : (n : ℕ) (h : OpenDataset D) (p : Pass X Y) → length qs ≤ n → slice_get l.each n ≡ Some h → slice_get ps n ≡ Some p → IsEnded has faults kept n (view p) (column n js) h m
