-- What a worker's share of a round makes of what it has in the datasets.
use Rattle.std.specs.Prelude.{◌≡◌, ◌≤◌, ◌<◌, ◌+◌, ◌^◌, ◌==◌, ◌&&◌, ℕ, suc, List, [], ◌∷◌, ◌++◌, if◌then◌else◌, nat_lt, length, take, slice_get, slice_index_or, Option, Some, None, Result, Ok, Err}
use Rattle.fd_disk.specs.declared.folders.FileName.{FileName}
use Rattle.fd_entries.specs.declared.batch.Pair.{Pair}
use Rattle.fd_segment.specs.Filling.{stored}
use Rattle.fd_schema.specs.Rules.{file_key}
use Rattle.fd_schema.specs.Reading.{seen_place}
use Rattle.fd_turn.specs.declared.board.Pass.{Pass}
use Rattle.fd_turn.specs.Passes.{BoardId, IsOf, view}
use Rattle.fd_archiver.specs.declared.fault.FlushFault.{FlushFault}
use Rattle.fd_archiver.specs.declared.fault.FlushFault.TheVariants as flushes
use Rattle.fd_archiver.specs.Writing.{Writing}
use Rattle.fd_shares.specs.declared.round.Desk.{Desk}
use Rattle.fd_shares.specs.declared.round.Halt.{Halt}
use Rattle.fd_shares.specs.declared.round.Job.{Job}
use Rattle.fd_shares.specs.declared.round.Parcel.{Parcel}
use Rattle.fd_stored.specs.Archiving.{Stored as Kept, pairs_for}
use Rattle.fd_shares.specs.Dealing.{dealt_to}
use Rattle.fd_sheets.specs.Dealt.{dealt}
use Rattle.fd_shares.specs.Working.{Filling, Flushed, HasSealed, Stage, Stopped, Works}

-- the pair under which a message stands in its dataset
abbrev pub pair_of : Parcel → Pair
pair_of p = record { key = file_key (seen_place p.place); bytes = p.bytes }

-- the pairs that a worker stores in the dataset of a number
abbrev pub share : ℕ → ℕ → List Parcel → List Pair
share worker n [] = []
share worker n (p ∷ ps) = if (p.worker == worker) && (p.dataset == n) then pair_of p ∷ share worker n ps else share worker n ps

-- a message may be stored: its dataset has this text, and it is not too long, nor its key
pub record IsFit (names : List (List ℕ)) (p : Parcel) : Type 0 where
  pub named : slice_get names p.dataset ≡ Some (seen_place p.place).dataset
  pub key : length (file_key (seen_place p.place)) ≤ 256
  pub bytes : length p.bytes ≤ 134217728

module _ {H X Y : Type 0} (kept : H → Option (FileName → Option (List ℕ))) where
  -- a worker's archiver and pass in the dataset of this board and this text
  pub record DeskWorks (stage : Stage) (board : BoardId) (name : List ℕ) (pairs : List Pair) (d : Desk (Writing H) (Pass X Y)) : Type 0 where
    pub own : IsOf board d.pass
    pub named : d.archiver.dataset ≡ name
    pub works : Works kept stage pairs d.archiver (view d.pass)

  -- the same, where it has met the dataset
  abbrev pub MayWork : Stage → BoardId → List ℕ → List Pair → Option (Desk (Writing H) (Pass X Y)) → Type 0
  MayWork stage board name pairs None = pairs ≡ []
  MayWork stage board name pairs (Some d) = DeskWorks stage board name pairs d

  -- what it has in each dataset, by the datasets' numbers
  abbrev pub AllWork : (ℕ → Stage) → (ℕ → List Pair) → ℕ → List BoardId → List (List ℕ) → List (Option (Desk (Writing H) (Pass X Y))) → Type 0
  AllWork stages pairs n [] [] [] = Unit {0}
  AllWork stages pairs n (b ∷ bs) (m ∷ ms) (d ∷ ds) = MayWork (stages n) b m (pairs n) d × AllWork stages pairs (suc n) bs ms ds
  AllWork stages pairs n bs ms ds = ⊥

  -- it has met the datasets of its messages
  abbrev pub HasMet : ℕ → List (Option (Desk (Writing H) (Pass X Y))) → Parcel → Type 0
  HasMet worker ds p = p.worker ≡ worker → (d : Desk (Writing H) (Pass X Y)) × (slice_get ds p.dataset ≡ Some (Some d))

-- a worker's stages where it stopped in one dataset
abbrev pub stopped_at : ℕ → ℕ → Stage
stopped_at at n = if at == n then Stopped else Filling

module _ {H X Y : Type 0} where
  -- in the dataset with this number the worker's pass has seen a table that is full, and a segment waits
  abbrev pub SeesFull : ℕ → List (Option (Desk (Writing H) (Pass X Y))) → Type 0
  SeesFull n ds = (d : Desk (Writing H) (Pass X Y)) × (slice_get ds n ≡ Some (Some d)) × (length (view d.pass).history ≡ 65535) × HasSealed d.archiver

  abbrev pub IsFullAt : {F : Type 0} → FlushFault F → ℕ → List (Option (Desk (Writing H) (Pass X Y))) → Type 0
  IsFullAt (flushes.Disk f) n ds = Unit {0}
  IsFullAt (flushes.TableFull count) n ds = (count ≡ 65535) × SeesFull n ds
  IsFullAt flushes.NoMemory n ds = Unit {0}

  -- an archiver and a pass that went on: whose they are, and which part the pass is
  pub record StaysDesk (d e : Desk (Writing H) (Pass X Y)) : Type 0 where
    pub writer : e.archiver.writer ≡ d.archiver.writer
    pub told : e.archiver.told ≡ d.archiver.told
    pub parts : (view e.pass).parts ≡ (view d.pass).parts
    pub opening : (view e.pass).opening ≡ (view d.pass).opening

  abbrev pub SameDesk : Option (Desk (Writing H) (Pass X Y)) → Option (Desk (Writing H) (Pass X Y)) → Type 0
  SameDesk None None = Unit {0}
  SameDesk None (Some e) = ⊥
  SameDesk (Some d) None = ⊥
  SameDesk (Some d) (Some e) = StaysDesk d e

  -- the worker has met the same datasets, and has the same archivers and parts in them
  abbrev pub SameMet : List (Option (Desk (Writing H) (Pass X Y))) → List (Option (Desk (Writing H) (Pass X Y))) → Type 0
  SameMet [] [] = Unit {0}
  SameMet [] (e ∷ es) = ⊥
  SameMet (d ∷ ds) [] = ⊥
  SameMet (d ∷ ds) (e ∷ es) = SameDesk d e × SameMet ds es

module _ {H X Y : Type 0} (kept : H → Option (FileName → Option (List ℕ))) (boards : List BoardId) where
  -- a message can be stored by the worker that has this
  pub record CanStore (p : Parcel) (ds : List (Option (Desk (Writing H) (Pass X Y)))) : Type 0 where
    pub names : List (List ℕ)
    pub pairs : ℕ → List Pair
    pub works : AllWork kept (λ n. Filling) pairs 0 boards names ds
    pub fit : IsFit names p
    pub desk : Desk (Writing H) (Pass X Y)
    pub at : slice_get ds p.dataset ≡ Some (Some desk)
    pub sum : stored (pairs p.dataset) + (length p.bytes + 32) < 2 ^ 63

  -- what a worker has after it stored a message in a dataset, or didn't
  abbrev pub StoredAt : {F : Type 0} → Result (Unit {0}) (FlushFault F) → Parcel → List (List ℕ) → (ℕ → List Pair) → List (Option (Desk (Writing H) (Pass X Y))) → Type 0
  StoredAt (Ok done) p names pairs ds = AllWork kept (λ n. Filling) (λ n. pairs n ++ share p.worker n (p ∷ [])) 0 boards names ds
  StoredAt (Err fault) p names pairs ds = AllWork kept (stopped_at p.dataset) pairs 0 boards names ds × IsFullAt fault p.dataset ds

-- the stages where one is another
abbrev pub with_stage : (ℕ → Stage) → ℕ → Stage → ℕ → Stage
with_stage stages at stage n = if at == n then stage else stages n

module _ {H X Y : Type 0} (kept : H → Option (FileName → Option (List ℕ))) (boards : List BoardId) where
  -- what a worker has pending in the dataset with this number can be listed
  pub record CanListAt (n : ℕ) (ds : List (Option (Desk (Writing H) (Pass X Y)))) : Type 0 where
    pub names : List (List ℕ)
    pub stages : ℕ → Stage
    pub pairs : ℕ → List Pair
    pub works : AllWork kept stages pairs 0 boards names ds
    pub filling : stages n ≡ Filling
    pub inside : n < length ds
    pub few : length ds ≤ 2048

  abbrev pub ListedAt : {F : Type 0} → Result (Unit {0}) (FlushFault F) → ℕ → List (List ℕ) → (ℕ → Stage) → (ℕ → List Pair) → List (Option (Desk (Writing H) (Pass X Y))) → Type 0
  ListedAt (Ok done) n names stages pairs ds = AllWork kept (with_stage stages n Flushed) pairs 0 boards names ds
  ListedAt (Err fault) n names stages pairs ds = AllWork kept (with_stage stages n Stopped) pairs 0 boards names ds × IsFullAt fault n ds

-- a worker's stages where it has listed what is pending in so many datasets
abbrev pub listed_below : ℕ → ℕ → Stage
listed_below count n = if nat_lt n count then Flushed else Filling

module _ {F H X Y : Type 0} (kept : H → Option (FileName → Option (List ℕ))) (boards : List BoardId) where
  -- the worker can list what it has pending
  pub record CanListAll (j : Job (Writing H) (Pass X Y) (FlushFault F)) : Type 0 where
    pub running : j.halt ≡ None
    pub few : length j.desks.items ≤ 2048
    pub names : List (List ℕ)
    pub pairs : ℕ → List Pair
    pub works : AllWork kept (λ n. Filling) pairs 0 boards names j.desks.items

  -- what it has after it listed all, or stopped in one dataset
  abbrev pub ListedTo : List (List ℕ) → (ℕ → List Pair) → List (Option (Desk (Writing H) (Pass X Y))) → Option (Halt (FlushFault F)) → Type 0
  ListedTo names pairs ds None = AllWork kept (λ n. Flushed) pairs 0 boards names ds
  ListedTo names pairs ds (Some h) = AllWork kept (with_stage (listed_below h.at) h.at Stopped) pairs 0 boards names ds × IsFullAt h.fault h.at ds

  -- how far it has come, up to the dataset with this number
  pub record Listing (at : ℕ) (j k : Job (Writing H) (Pass X Y) (FlushFault F)) : Type 0 where
    pub running : k.halt ≡ None
    pub met : SameMet j.desks.items k.desks.items
    pub long : length k.desks.items ≡ length j.desks.items
    pub goes : (names : List (List ℕ)) (pairs : ℕ → List Pair) → AllWork kept (λ n. Filling) pairs 0 boards names j.desks.items → AllWork kept (listed_below at) pairs 0 boards names k.desks.items

  pub record Listed (j k : Job (Writing H) (Pass X Y) (FlushFault F)) : Type 0 where
    pub met : SameMet j.desks.items k.desks.items
    pub goes : (names : List (List ℕ)) (pairs : ℕ → List Pair) → AllWork kept (λ n. Filling) pairs 0 boards names j.desks.items → ListedTo names pairs k.desks.items k.halt

-- a message that is dealt to so many workers, as it is to be stored; the datasets' texts stand by their numbers
pub record IsParcelOf (workers : ℕ) (names : List (List ℕ)) (s : Kept) (p : Parcel) : Type 0 where
  pub pair : pair_of p ≡ s.pair
  pub named : slice_get names p.dataset ≡ Some s.dataset
  pub worker : p.worker ≡ dealt workers s.dataset s.pair.key

abbrev pub AreParcels : ℕ → List (List ℕ) → List Kept → List Parcel → Type 0
AreParcels workers names [] [] = Unit {0}
AreParcels workers names [] (p ∷ ps) = ⊥
AreParcels workers names (s ∷ ss) [] = ⊥
AreParcels workers names (s ∷ ss) (p ∷ ps) = IsParcelOf workers names s p × AreParcels workers names ss ps

abbrev pub AllFit : List (List ℕ) → List Parcel → Type 0
AllFit names [] = Unit {0}
AllFit names (p ∷ ps) = IsFit names p × AllFit names ps

module _ {F H X Y : Type 0} (kept : H → Option (FileName → Option (List ℕ))) (boards : List BoardId) (worker : ℕ) (parcels : List Parcel) where
  -- the worker can store its share of these messages
  pub record CanShare (j : Job (Writing H) (Pass X Y) (FlushFault F)) : Type 0 where
    pub running : j.halt ≡ None
    pub names : List (List ℕ)
    pub pairs : ℕ → List Pair
    pub works : AllWork kept (λ n. Filling) pairs 0 boards names j.desks.items
    pub fit : AllFit names parcels
    pub met : (i : ℕ) (p : Parcel) → slice_get parcels i ≡ Some p → HasMet kept worker j.desks.items p
    pub sum : (n : ℕ) → stored (pairs n ++ share worker n parcels) < 2 ^ 63

  -- what it has after it stored its share, or stopped at one of them
  abbrev pub SharedTo : List (List ℕ) → (ℕ → List Pair) → List (Option (Desk (Writing H) (Pass X Y))) → Option (Halt (FlushFault F)) → Type 0
  SharedTo names pairs ds None = AllWork kept (λ n. Filling) (λ n. pairs n ++ share worker n parcels) 0 boards names ds
  SharedTo names pairs ds (Some h) = (p : Parcel) × (slice_get parcels h.at ≡ Some p) × (p.worker ≡ worker)
      × AllWork kept (stopped_at p.dataset) (λ n. pairs n ++ share worker n (take h.at parcels)) 0 boards names ds × IsFullAt h.fault p.dataset ds

  -- how far it has come in the round, up to the message at this place
  pub record Sharing (at : ℕ) (j k : Job (Writing H) (Pass X Y) (FlushFault F)) : Type 0 where
    pub running : k.halt ≡ None
    pub met : SameMet j.desks.items k.desks.items
    pub goes : (names : List (List ℕ)) (pairs : ℕ → List Pair) → AllWork kept (λ n. Filling) pairs 0 boards names j.desks.items → AllWork kept (λ n. Filling) (λ n. pairs n ++ share worker n (take at parcels)) 0 boards names k.desks.items

  pub record Shared (j k : Job (Writing H) (Pass X Y) (FlushFault F)) : Type 0 where
    pub met : SameMet j.desks.items k.desks.items
    pub goes : (names : List (List ℕ)) (pairs : ℕ → List Pair) → AllWork kept (λ n. Filling) pairs 0 boards names j.desks.items → SharedTo names pairs k.desks.items k.halt

-- the text of the dataset with this number
abbrev pub name_at : List (List ℕ) → ℕ → List ℕ
name_at names n = slice_index_or names n []

-- the pairs that a worker has in the dataset with this number, where all workers together stored these messages
abbrev pub its_pairs : ℕ → List (List ℕ) → ℕ → List Kept → ℕ → List Pair
its_pairs workers names w all n = dealt_to (dealt workers (name_at names n)) w (pairs_for all (name_at names n))
