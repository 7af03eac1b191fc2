-- The one dataset that a session has open, the archivers of its lanes, and what is given back.
use Rattle.std.specs.Prelude.{◌≡◌, ◌≤◌, ◌<◌, ◌+◌, ℕ, List, [], ◌∷◌, All, length, Option, IfSome, is_some}
use Rattle.fd_disk.specs.declared.folders.FileName.{FileName}
use Rattle.fd_disk.specs.Folders.{Contents, Holdings, WhereTold}
use Rattle.fd_entries.specs.Table.{greatest_writer}
use Rattle.fd_numbers.specs.Numbers.{Differ}
use Rattle.fd_turn.specs.Passes.{BoardId}
use Rattle.fd_archiver.specs.Writing.{IsPending, Writing}
use Rattle.fd_lanes.specs.Jobs.{writers_of}
use Rattle.fd_library.specs.Calls.{TakesFiles}
use Rattle.fd_library.specs.Open.{OpenDataset, OpenDatasets}
use Rattle.fd_library.specs.Stores.{GivesBack, HasSeenAll, held_of, held_with}

-- this dataset is open, on this board, and no other
pub record IsSole {D : Type 0} (l : OpenDatasets D) (b : BoardId) (h : OpenDataset D) : Type 0 where
  pub boards : l.boards ≡ b ∷ []
  pub each : l.each ≡ h ∷ []

-- the files of writers up to this one stay, where told
abbrev pub KeepsOlder : ℕ → Option Contents → Option Contents → Type 0
KeepsOlder last old new = WhereTold old new (λ v w. (n : FileName) → n.writer ≤ last → w.files n ≡ v.files n)

-- what the shelves of these archivers keep was taken into a folder, that of the last one first
abbrev pub TakesAll : {H : Type 0} → (H → Option (FileName → Option (List ℕ))) → List (Writing H) → Option Contents → Option Contents → Type 0
TakesAll kept [] old new = new ≡ old
TakesAll kept (w ∷ ws) old new = (mid : Option Contents) × TakesAll kept ws old mid × TakesFiles kept w mid new

module _ {D H : Type 0} (has : D → Option Contents) where
  -- an archiver with which a lane may begin in the dataset, with a greater writer than all before
  pub record IsStaff (h : OpenDataset D) (w : Writing H) : Type 0 where
    pub later : h.last < w.writer
    pub bounded : w.writer ≤ greatest_writer h.opening
    pub dataset : w.dataset ≡ h.name
    pub told : w.told ≡ is_some (has h.folder)
    pub last : w.last ≡ 1
    pub keys : w.draft.held.keys ≡ 4096
    pub bytes : w.draft.held.bytes ≡ 1048576
    pub empty : IsPending w []

  -- The dataset has given these archivers, each another writer.
  pub record Staffs (b : BoardId) (h : OpenDataset D) (l : OpenDatasets D) (ws : List (Writing H)) : Type 0 where
    pub now : OpenDataset D
    pub sole : IsSole l b now
    pub name : now.name ≡ h.name
    pub pass : now.pass ≡ h.pass
    pub opening : now.opening ≡ h.opening
    pub same : has now.folder ≡ has h.folder
    pub given : now.given ≡ h.given + length ws
    pub lent : now.lent ≡ h.lent + length ws
    pub higher : h.last ≤ now.last
    pub staff : All (IsStaff h) ws
    pub below : All (λ (w : Writing H). w.writer ≤ now.last) ws
    pub differ : Differ (writers_of ws)

  -- the same, where one more was refused
  pub record Tried (b : BoardId) (h : OpenDataset D) (l : OpenDatasets D) (ws : List (Writing H)) : Type 0 where
    pub now : OpenDataset D
    pub sole : IsSole l b now
    pub name : now.name ≡ h.name
    pub pass : now.pass ≡ h.pass
    pub opening : now.opening ≡ h.opening
    pub files : KeepsOlder h.last (has h.folder) (has now.folder)
    pub lent : now.lent ≡ h.lent + length ws
    pub staff : All (IsStaff h) ws

  -- The archivers went back to the dataset, and the dataset to the store. Where its pass has seen all and nothing is in doubt,
  -- the store holds what it held by the pass and the files.
  pub record HandsBack (kept : H → Option (FileName → Option (List ℕ))) (h : OpenDataset D) (ws : List (Writing H)) (s t : Holdings) : Type 0 where
    pub after : OpenDataset D
    pub name : after.name ≡ h.name
    pub pass : after.pass ≡ h.pass
    pub files : TakesAll kept ws (has h.folder) (has after.folder)
    pub given : GivesBack has (after ∷ []) s t
    pub held : IfSome after.pass HasSeenAll → (n : List ℕ) → held_of t n ≡ held_with has (after ∷ []) s n
