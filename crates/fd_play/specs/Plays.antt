-- What a run of a script leaves of its dataset, and of the store.
use Rattle.std.specs.Prelude.{◌≡◌, ◌≢◌, ◌⊎◌, ◌≤◌, ◌<◌, ◌++◌, ℕ, List, [], ◌∷◌, All, length, map, Option, Some, None, IfSome, Result, Ok, Err, is_some}
use Rattle.fd_disk.specs.declared.file.File.{File}
use Rattle.fd_disk.specs.declared.folders.FileName.{FileName}
use Rattle.fd_disk.specs.Folders.{Contents, Holdings, SameBut, WhereTold, folder_at}
use Rattle.fd_disk.specs.Images.{IsImage}
use Rattle.fd_entries.specs.declared.batch.Pair.{Pair}
use Rattle.fd_entries.specs.declared.batch.Listing.{Listing}
use Rattle.fd_entries.specs.declared.table.Entry.{Entry}
use Rattle.fd_entries.specs.declared.table.NotATable.{NotATable}
use Rattle.fd_entries.specs.Table.{listed}
use Rattle.fd_schema.specs.Rules.{Rule, Texts}
use Rattle.fd_numbers.specs.Numbers.{Differ}
use Rattle.fd_turn.specs.Views.{View}
use Rattle.fd_turn.specs.Passes.{BoardId}
use Rattle.fd_archiver.specs.Writing.{Writing}
use Rattle.fd_recovery.specs.declared.fault.OpenFault.{OpenFault}
use Rattle.fd_recovery.specs.declared.fault.OpenFault.TheVariants as faults
use Rattle.fd_recovery.specs.Crashing.{IsFolderAfter}
use Rattle.fd_recovery.specs.Damages.{IsFirst, damages}
use Rattle.fd_segment.specs.Held.{batch_of}
use Rattle.fd_recovery.specs.Recovered.{IsUndamaged, WithTable, batches_listed, files_of}
use Rattle.fd_dataset.specs.Listed.{entries_of}
use Rattle.fd_library.specs.Open.{OpenDataset, OpenDatasets, Seated}
use Rattle.fd_library.specs.Stores.{KeepsFolder, ListsIn, held_of, held_with}
use Rattle.fd_script.specs.declared.script.Lane.{Lane}
use Rattle.fd_script.specs.Scripts.{Scripted}
use Rattle.fd_lanes.specs.declared.end.End.{End}
use Rattle.fd_lanes.specs.Acts.{ArePlaces, all_acts}
use Rattle.fd_lanes.specs.Jobs.{AllKept, AreKeptFrom, Ran, owners_of, writers_of}
use Rattle.fd_lanes.specs.Legal.{AllSound, IsDoubt, Legal}
use Rattle.fd_lanes.specs.Tables.{AlikeTables}
use Rattle.fd_play.specs.Staff.{HandsBack, IsSole, IsStaff}

-- Why a dataset wasn't opened: what is broken in it stands there. A fault and want of memory say nothing of it.
abbrev pub IsUnopened : {F : Type 0} → List ℕ → OpenFault F → Holdings → Type 0
IsUnopened name (faults.Disk f) h = Unit {0}
IsUnopened name (faults.NotATable at want found) h = WithTable (folder_at h name).table (λ f. listed name f.reads ≡ Err (record { at = at; want = want; found = found }))
IsUnopened name (faults.Damaged d) h = WithTable (folder_at h name).table (λ f. (es : List Entry) × (listed name f.reads ≡ Ok es) × IsFirst d (damages (folder_at h name).files es))
IsUnopened name (faults.TooMany count) h = ⊥
IsUnopened name faults.NoMemory h = Unit {0}

-- each dataset holds what it held, and the schema is as it was
pub record HoldsSame (h i : Holdings) : Type 0 where
  pub schema : i.schema ≡ h.schema
  pub each : (name : List ℕ) → held_of i name ≡ held_of h name

-- The table has these entries still, and maybe more behind them, in each image that a crash might leave of it. The files of
-- these entries are those that there were.
pub record KeepsEntries (name : List ℕ) (es : List Entry) (v w : Contents) : Type 0 where
  pub table : File
  pub table_is : w.table ≡ Some table
  pub reads : IsImage table table.reads
  pub images : (c : List ℕ) → IsImage table c → (more : List Entry) × (listed name c ≡ Ok (es ++ more))
  pub files : map (files_of w.files) es ≡ map (files_of v.files) es

-- the same, and none behind them
pub record KeepsOnly (name : List ℕ) (es : List Entry) (v w : Contents) : Type 0 where
  pub keeps : KeepsEntries name es v w
  pub none : (c : List ℕ) → IsImage keeps.table c → listed name c ≡ Ok es

-- What is left of a dataset that was opened and over which no lane ran: it wasn't damaged, and lists what it listed.
pub record LeavesOpened (name : List ℕ) (v w : Contents) : Type 0 where
  pub undamaged : IsUndamaged name v
  pub lists : (es : List Entry) → ListsIn name es v.table → KeepsOnly name es v w

-- What is left of a store where no lane ran over a dataset of it: all else is as it was. The dataset was looked into, and has its
-- files, and its table as it was, or synced, or one that was founded and lists nothing; or it was opened.
pub record LeavesUnplayed (name : List ℕ) (h i : Holdings) : Type 0 where
  pub others : SameBut name h i
  pub dataset : KeepsFolder name (folder_at h name) (folder_at i name) ⊎ LeavesOpened name (folder_at h name) (folder_at i name)

-- These files hold the batches, by alike, where these are listed.
abbrev pub HoldBatches : (FileName → Option (List ℕ)) → Result (List Entry) NotATable → List (List Pair) → Type 0
HoldBatches files es t = (u : List (List Pair)) × (batches_listed files es ≡ Some u) × AlikeTables u t

-- The table's bytes list the batches, and behind them one entry more: that of what a lane has pending of which a flush
-- failed since its last listed one. Its files are there too, and stand for that batch.
pub record HasOneMore (name : List ℕ) (files : FileName → Option (List ℕ)) (c : List ℕ) (t : List (List Pair)) (IsDoubted : Listing → Type 0) : Type 0 where
  pub entries : List Entry
  pub more : Listing
  pub lists : listed name c ≡ Ok (entries ++ more.entry ∷ [])
  pub holds : HoldBatches files (Ok entries) t
  pub doubted : IsDoubted more
  pub batch : List Pair
  pub batch_is : more.batch ≡ Some batch
  pub kept : batch_of (files_of files more.entry) ≡ Some batch

module _ {F : Type 0} where
  -- The lanes of a script ran over a dataset that held these batches: how their steps ended is legal, and the store has a table now, of which
  -- each folder that a crash may leave lists the batches that were there and those that were listed, or one in doubt behind them.
  pub record PlayedOver (rules : List Rule) (messages : List (List ℕ)) (s : Scripted) (before : ℕ) (ends : List (List (End F))) (t : List (List Pair)) (i : Holdings) : Type 0 where
    pub before_is : before ≡ length t
    pub flushed : List (List Pair)
    pub legal : Legal rules messages t flushed s.lanes ends
    pub sound : AllSound ends
    pub table : File
    pub table_is : (folder_at i s.dataset).table ≡ Some table
    pub reads : IsImage table table.reads
    pub images : (w : Contents) → IsFolderAfter (folder_at i s.dataset) w → WithTable w.table (λ f. HoldBatches w.files (listed s.dataset f.reads) (t ++ flushed)
        ⊎ HasOneMore s.dataset w.files f.reads (t ++ flushed) (λ l. IsDoubt l before (all_acts rules messages legal.places s.lanes) ends))

  -- The lanes of a script ran over a store that held h and holds i. The schema and the other datasets are as they were. The
  -- script's dataset wasn't damaged, and has the entries that it listed, whatever their files hold.
  pub record Played (rules : List Rule) (messages : List (List ℕ)) (s : Scripted) (before : ℕ) (ends : List (List (End F))) (h i : Holdings) : Type 0 where
    pub others : SameBut s.dataset h i
    pub over : (t : List (List Pair)) → held_of h s.dataset ≡ Some t → PlayedOver rules messages s before ends t i
    pub undamaged : IsUndamaged s.dataset (folder_at h s.dataset)
    pub entries : (es : List Entry) → ListsIn s.dataset es (folder_at h s.dataset).table → KeepsEntries s.dataset es (folder_at h s.dataset) (folder_at i s.dataset)

-- The lanes ran over an open dataset, which then went back to the store with its archivers.
pub record PlayedOpen {F D H : Type 0} (has : D → Option Contents) (kept : H → Option (FileName → Option (List ℕ))) (rules : List Rule) (messages : List (List ℕ)) (s : Scripted) (before : ℕ) (ends : List (List (End F))) (b : BoardId) (h : OpenDataset D) (old new : Option Holdings) : Type 0 where
  pub last : OpenDataset D
  pub first : View
  pub pass : View
  pub was : h.pass ≡ Some (record { board = b; view = first })
  pub pass_is : last.pass ≡ Some (record { board = b; view = pass })
  pub name : last.name ≡ h.name
  pub same : has last.folder ≡ has h.folder
  pub staff : List (Writing H)
  pub begun : All (IsStaff has h) staff
  pub differ : Differ (writers_of staff)
  pub archivers : List (Writing H)
  pub owners : owners_of archivers ≡ owners_of staff
  pub places : List Texts
  pub are_places : ArePlaces rules messages s.lanes places
  pub ran : Ran first pass before (all_acts rules messages places s.lanes) ends
  pub files : AreKeptFrom kept archivers before pass.history
  pub doubted : AllKept kept archivers pass.doubts
  pub back : WhereTold old new (HandsBack has kept last archivers)

-- a fault or want of memory
abbrev pub IsPlain : {F : Type 0} → OpenFault F → Type 0
IsPlain (faults.Disk f) = Unit {0}
IsPlain (faults.NotATable at want found) = ⊥
IsPlain (faults.Damaged d) = ⊥
IsPlain (faults.TooMany count) = ⊥
IsPlain faults.NoMemory = Unit {0}

-- An open dataset went back to the store, which holds of it what it held, and all else as it was. It lists what the pass had seen.
pub record HoldsOpened {D : Type 0} (has : D → Option Contents) (h : OpenDataset D) (s t : Holdings) : Type 0 where
  pub schema : t.schema ≡ s.schema
  pub others : (other : List ℕ) → other ≢ h.name → t.folders other ≡ s.folders other
  pub left : (p : Seated) → h.pass ≡ Some p → (v : Contents) × (has h.folder ≡ Some v) × KeepsOnly h.name (entries_of p.view.history) v (folder_at t h.name)
  pub each : (name : List ℕ) → held_of t name ≡ held_with has (h ∷ []) s name
