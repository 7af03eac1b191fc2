-- What holds over every run.
use Rattle.std.specs.Prelude.{◌≡◌, ◌≢◌, ◌⊎◌, ◌↔◌, ◌≤◌, ℕ, Bool, true, false, List, [], ◌∷◌, ◌++◌, length, take, Some, None}
use Rattle.fd_entries.specs.declared.batch.Pair.{Pair}
use Rattle.fd_disk.specs.Images.{IsImage}
use Rattle.fd_entries.specs.declared.table.Entry.{Entry}
use Rattle.fd_machine.specs.declared.machine.NamedFile.{NamedFile}
use Rattle.fd_machine.specs.declared.machine.Phase.TheVariants.{Listed, GateLoose}
use Rattle.fd_machine.specs.World.{World}
use Rattle.fd_machine.specs.declared.machine.Step.{Step}
use Rattle.fd_machine.specs.declared.machine.Step.TheVariants.{Put, SyncData, WriteIndex, SyncIndex, Take, Body, SyncBody, Gate, SyncGate, Post, Release, Look, Fetch, CloseGate, SyncClose, Fail, Crash, Reopen}
use Rattle.fd_entries.specs.Batches.{newest}
use Rattle.fd_machine.specs.Took.{answered, took_of}
use Rattle.fd_machine.specs.Machine.{possible, after, length_of, writer_of, run, start}

abbrev pub IsPrefix : {A : Type 0} → List A → List A → Type 0
IsPrefix {A} xs ys = (rest : List A) × (xs ++ rest ≡ ys)

-- only these two change the history
abbrev pub may_list : Step → Bool
may_list (Post w) = true
may_list (Put w key bytes) = false
may_list (SyncData w) = false
may_list (WriteIndex w) = false
may_list (SyncIndex w) = false
may_list (Take w) = false
may_list (Body w) = false
may_list (SyncBody w) = false
may_list (Gate w) = false
may_list (SyncGate w) = false
may_list (Release w) = false
may_list (Look r) = false
may_list (Fetch r key) = false
may_list (CloseGate w) = false
may_list (SyncClose w) = false
may_list (Fail w) = false
may_list (Crash left) = false
may_list Reopen = true

-- a fetch answers the newest bytes of the batches that the reader has seen
abbrev pub FetchesNewest : World → Type 0
FetchesNewest s = (r : ℕ) (key : List ℕ) → possible s (Fetch r key) ≡ true → took_of s (Fetch r key) ≡ answered (newest (take (length_of s r) s.history) key)

-- the history before a step begins the one after it
abbrev pub OnlyGrows : World → Type 0
OnlyGrows s = (step : Step) → IsPrefix s.history (after s step).history

abbrev pub SeesOnlyListed : World → Type 0
SeesOnlyListed s = (r : ℕ) → length_of s r ≤ length s.history

abbrev pub PostsItsPairs : World → Type 0
PostsItsPairs s = (w : ℕ) → possible s (Post w) ≡ true → (after s (Post w)).history ≡ s.history ++ (writer_of s w).pairs ∷ []

abbrev pub OnlyPostLists : World → Type 0
OnlyPostLists s = (step : Step) → may_list step ≡ false → (after s step).history ≡ s.history

-- after every list of steps
abbrev pub OverEveryRun : (World → Type 0) → Type 0
OverEveryRun P = (steps : List Step) → P (run steps start)

-- What a crash and opening again make of the history.
pub record IsReopened (s : World) (found : List (List Pair)) : Type 0 where
  -- a batch that its writer has listed is there
  pub listed : (w : ℕ) → (writer_of s w).phase ≡ Listed → found ≡ s.history ++ (writer_of s w).pairs ∷ []
  -- one whose gate is being opened is there whole, or not at all
  pub opening : (w : ℕ) → (writer_of s w).phase ≡ GateLoose → (found ≡ s.history) ⊎ (found ≡ s.history ++ (writer_of s w).pairs ∷ [])
  -- and so is one in doubt
  pub in_doubt : (e : Entry) → s.doubt ≡ Some e → (found ≡ s.history) ⊎ (found ≡ s.history ++ (writer_of s e.writer).pairs ∷ [])
  -- and else there is the history
  pub otherwise : ((w : ℕ) → (writer_of s w).phase ≢ Listed) → ((w : ℕ) → (writer_of s w).phase ≢ GateLoose) → s.doubt ≡ None → found ≡ s.history

-- each is an image of its file
abbrev pub AreImages : List NamedFile → List (List ℕ) → Type 0
AreImages [] [] = Unit {0}
AreImages (f ∷ fs) (c ∷ cs) = IsImage f.file c × AreImages fs cs
AreImages [] (c ∷ cs) = ⊥
AreImages (f ∷ fs) [] = ⊥

-- the table's first
abbrev pub MayBeLeft : World → List (List ℕ) → Type 0
MayBeLeft s [] = ⊥
MayBeLeft s (c ∷ cs) = IsImage s.table c × AreImages s.files cs

-- a crash can leave the images of the files, and nothing else
abbrev pub LeavesImages : World → Type 0
LeavesImages s = (left : List (List ℕ)) → (possible s (Crash left) ≡ true) ↔ ((s.down ≡ false) × MayBeLeft s left)

-- whatever images a crash leaves, opening finds the history, with or without the batch that is being listed, whole
abbrev pub SurvivesCrash : World → Type 0
SurvivesCrash s = (left : List (List ℕ)) → possible s (Crash left) ≡ true → IsReopened s (after (after s (Crash left)) Reopen).history

-- from a crash to the next opening nothing else is possible
abbrev pub OnlyReopens : World → Type 0
OnlyReopens s = (step : Step) → s.down ≡ true → possible s step ≡ true → step ≡ Reopen
