-- What a job has before it runs, what a run leaves of it, and what joining all passes makes of one.
use Rattle.std.specs.Prelude.{◌≡◌, ◌≤◌, ◌<◌, ◌+◌, ◌-◌, ◌^◌, ◌++◌, ◌⊎◌, ℕ, Bool, List, [], ◌∷◌, map, take, length, All, slice_get, slice_index_or, Contains, Option, Some, IsSome, true}
use Rattle.std.specs.Vec.{vec_capacity}
use Rattle.std.specs.declared.vec.Vec.{Vec}
use mathlib.Core.List.{IsPrefix}
use Rattle.fd_disk.specs.declared.folders.FileName.{FileName}
use Rattle.fd_entries.specs.declared.batch.Pair.{Pair}
use Rattle.fd_entries.specs.declared.batch.Listing.{Listing}
use Rattle.fd_entries.specs.Table.{greatest_writer}
use Rattle.fd_turn.specs.declared.view.Lock.TheVariants.{Free}
use Rattle.fd_turn.specs.declared.board.Pass.{Pass}
use Rattle.fd_turn.specs.Views.{View}
use Rattle.fd_turn.specs.Passes.{BoardId, view, IsOf}
use Rattle.fd_segment.specs.Held.{Standing, batch_of}
use Rattle.fd_dataset.specs.Listed.{listing}
use Rattle.fd_archiver.specs.Writing.{IsKept, IsPending, Writing}
use Rattle.fd_retriever.specs.Kept.{Kept}
use Rattle.fd_retriever.specs.Answers.{Tells}
use Rattle.fd_schema.specs.Rules.{Rule, Texts}
use Rattle.fd_script.specs.declared.script.Lane.{Lane}
use Rattle.fd_lanes.specs.declared.lane.Job.{Job}
use Rattle.fd_lanes.specs.declared.lane.Room.{Room}
use Rattle.fd_lanes.specs.declared.end.End.{End}
use Rattle.fd_lanes.specs.Acts.{Act, acts_of, places_at}
use Rattle.fd_numbers.specs.Numbers.{IsIn}
use Rattle.fd_lanes.specs.Tables.{AlikeTables, StandsFor}
use Rattle.fd_lanes.specs.Walks.{beginning, receipts, walked}
use Rattle.fd_lanes.specs.Legal.{WalksIn, IsLegal, IsDoubt, AllSound}
use Rattle.fd_lanes.specs.Fits.{AreKept, Keeps, StaysOf}

-- room for the ends of a lane
pub record HasRoom {F A : Type 0} (v : Vec (End F) A) : Type 0 where
  pub empty : v.items ≡ []
  pub room : vec_capacity v ≡ 4096

-- nothing opened, and room
pub record IsRoom {F : Type 0} (r : Room (List Kept) (End F)) : Type 0 where
  pub closed : r.lenses ≡ []
  pub room : HasRoom r.ends

-- An archiver with which a lane may begin: nothing is pending, there is room for 4,096 puts and a number for as many
-- flushes, and it is of this dataset, with a number that a table of so many entries may have.
pub record MayBegin {H : Type 0} (text : List ℕ) (entries : ℕ) (w : Writing H) : Type 0 where
  pub nothing : IsPending w []
  pub dataset : w.dataset ≡ text
  pub writer : w.writer ≤ greatest_writer entries
  pub left : w.last + 4096 ≤ 2 ^ 32 - 1
  pub keys : 4096 ≤ w.draft.held.keys
  pub bytes : 1048576 ≤ w.draft.held.bytes

abbrev pub writers_of : {H : Type 0} → List (Writing H) → List ℕ
writers_of xs = map (λ (a : Writing _). a.writer) xs

-- whose archivers they are: the writer, the dataset's text, and whether the shelf tells what it keeps
abbrev pub owners_of : {H : Type 0} → List (Writing H) → List (ℕ × List ℕ × Bool)
owners_of xs = map (λ (a : Writing _). (a.writer, a.dataset, a.told)) xs

-- what the shelves of archivers keep
module _ {H : Type 0} (kept : H → Option (FileName → Option (List ℕ))) where
  -- The listing is that of a segment of this archiver, both of whose files its shelf keeps; where the shelf tells, they stand
  -- for a batch.
  pub record IsKeptBy (w : Writing H) (l : Listing) : Type 0 where
    pub segment : Standing
    pub is : l ≡ listing segment
    pub by : segment.files.entry.writer ≡ w.writer
    pub files : IsKept (kept w.shelf) segment
    pub batch : w.told ≡ true → IsSome (batch_of segment.files)

  -- one of these archivers keeps it so
  abbrev pub IsKeptByOne : List (Writing H) → Listing → Type 0
  IsKeptByOne [] l = ⊥
  IsKeptByOne (w ∷ ws) l = IsKeptBy w l ⊎ IsKeptByOne ws l

  -- each listing of the history from this place on is kept by one of these archivers
  abbrev pub AreKeptFrom : List (Writing H) → ℕ → List Listing → Type 0
  AreKeptFrom ws before history = (i : ℕ) (l : Listing) → before ≤ i → slice_get history i ≡ Some l → IsKeptByOne ws l

  -- each of these listings is kept by one of these archivers
  abbrev pub AllKept : List (Writing H) → List Listing → Type 0
  AllKept ws ls = (l : Listing) → Contains ls l → IsKeptByOne ws l

module _ {F H X Y : Type 0} where
  -- the archivers of jobs, and their ends
  abbrev pub archivers_of : List (Job (Writing H) (Pass X Y) (List Kept) (End F)) → List (Writing H)
  archivers_of js = map (λ (j : Job (Writing H) (Pass X Y) (List Kept) (End F)). j.archiver) js

  abbrev pub ends_of : List (Job (Writing H) (Pass X Y) (List Kept) (End F)) → List (List (End F))
  ends_of js = map (λ (j : Job (Writing H) (Pass X Y) (List Kept) (End F)). j.ends.items) js

  -- a pass that is split off, nothing opened, and room
  pub record IsReady (z : BoardId) (v : View) (j : Job (Writing H) (Pass X Y) (List Kept) (End F)) : Type 0 where
    pub own : IsOf z j.pass
    pub fresh : view j.pass ≡ v
    pub closed : j.lenses ≡ []
    pub room : HasRoom j.ends

  -- a job with which a lane may begin
  pub record IsFresh (z : BoardId) (j : Job (Writing H) (Pass X Y) (List Kept) (End F)) : Type 0 where
    pub own : IsOf z j.pass
    pub free : (view j.pass).lock ≡ Free
    pub sure : (view j.pass).doubts ≡ []
    pub archiver : MayBegin (view j.pass).subject (length (view j.pass).history) j.archiver
    pub closed : j.lenses ≡ []
    pub room : HasRoom j.ends

  -- a run of these steps leaves this of the job
  pub record RanJob (kept : H → Option (FileName → Option (List ℕ))) (z : BoardId) (acts : List Act) (j k : Job (Writing H) (Pass X Y) (List Kept) (End F)) : Type 0 where
    pub own : IsOf z k.pass
    pub keeps : Keeps (view j.pass) (view k.pass)
    pub writer : k.archiver.writer ≡ j.archiver.writer
    pub dataset : k.archiver.dataset ≡ j.archiver.dataset
    pub told : k.archiver.told ≡ j.archiver.told
    pub walks : WalksIn (view k.pass).history j.archiver.writer (beginning (length (view j.pass).history)) acts k.ends.items
    pub pending : IsPending k.archiver (walked (beginning (length (view j.pass).history)) acts k.ends.items).pending
    pub amount : (view k.pass).amount ≡ (view j.pass).amount + length (receipts (beginning (length (view j.pass).history)) acts k.ends.items)
    pub listed : AreKept kept k.archiver (view k.pass).history (receipts (beginning (length (view j.pass).history)) acts k.ends.items)
    pub doubts : (l : Listing) → IsIn (view k.pass).doubts l → ((walked (beginning (length (view j.pass).history)) acts k.ends.items).faulted ≡ true) × StandsFor l (walked (beginning (length (view j.pass).history)) acts k.ends.items).pending
    pub doubted : (l : Listing) → IsIn (view k.pass).doubts l → IsKeptBy kept k.archiver l

  -- the same of the job and the lane at one place
  pub record RanAt (kept : H → Option (FileName → Option (List ℕ))) (z : BoardId) (rules : List Rule) (messages : List (List ℕ)) (places : List Texts) (lanes : List Lane) (i : ℕ) (j k : Job (Writing H) (Pass X Y) (List Kept) (End F)) : Type 0 where
    pub ran : (d : Lane) → RanJob kept z (acts_of rules messages (places_at places lanes i) (slice_index_or lanes i d).steps) j k

  abbrev pub all_parts_of : List (Job (Writing H) (Pass X Y) (List Kept) (End F)) → ℕ
  all_parts_of [] = 0
  all_parts_of (j ∷ js) = (view j.pass).parts + all_parts_of js

  abbrev pub all_amounts_of : List (Job (Writing H) (Pass X Y) (List Kept) (End F)) → ℕ
  all_amounts_of [] = 0
  all_amounts_of (j ∷ js) = (view j.pass).amount + all_amounts_of js

  abbrev pub all_doubts_of : List (Job (Writing H) (Pass X Y) (List Kept) (End F)) → List Listing
  all_doubts_of [] = []
  all_doubts_of (j ∷ js) = (view j.pass).doubts ++ all_doubts_of js

  -- a pass into which those of the jobs were taken
  pub record TookIn (v w : View) (js : List (Job (Writing H) (Pass X Y) (List Kept) (End F))) : Type 0 where
    pub seen : IsPrefix v.history w.history
    pub each : All (λ (j : Job (Writing H) (Pass X Y) (List Kept) (End F)). IsPrefix (view j.pass).history w.history) js
    pub opening : w.opening ≡ v.opening
    pub subject : w.subject ≡ v.subject
    pub parts : w.parts ≡ v.parts + all_parts_of js
    pub amount : w.amount ≡ v.amount + all_amounts_of js
    pub doubts : w.doubts ≡ v.doubts ++ all_doubts_of js
    pub free : w.lock ≡ Free

-- What a run of lanes says: of the pass before, of the pass after, of the number of entries before, and of the ends. The
-- last but one says what the table holds where its listings tell it, and the last what the table may hold beside it.
pub record Ran {F : Type 0} (v w : View) (before : ℕ) (script : List (List Act)) (ends : List (List (End F))) : Type 0 where
  pub keeps : Keeps v w
  pub begins : before ≡ v.opening + v.amount
  pub inside : length v.history ≤ before
  pub whole : length w.history ≡ w.opening + w.amount
  pub legal : (t : List (List Pair)) → Tells w.history t → (flushed : List (List Pair)) × IsLegal (take before t) flushed script ends × AlikeTables t (take before t ++ flushed) × AllSound ends
  pub doubts : (l : Listing) → Contains w.doubts l → IsDoubt l before script ends
