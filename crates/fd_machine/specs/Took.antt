-- What a step answers.
use Rattle.std.specs.Prelude.{◌≡◌, ◌<◌, ℕ, length, slice_get, slice_set, List, [], ◌∷◌, false, if◌then◌else◌, Option, Some, None}
use Rattle.fd_entries.specs.declared.table.Entry.{Entry}
use Rattle.fd_machine.specs.World.{World}
use Rattle.fd_machine.specs.declared.machine.Writer.{Writer}
use Rattle.fd_machine.specs.declared.machine.Step.{Step}
use Rattle.fd_machine.specs.declared.machine.Step.TheVariants.{Put, SyncData, WriteIndex, SyncIndex, Take, Body, SyncBody, Gate, SyncGate, Post, Release, Look, Fetch, CloseGate, SyncClose, Fail, Crash, Reopen}
use Rattle.fd_machine.specs.declared.machine.Answer.TheVariants.{Found, Miss}
use Rattle.fd_machine.specs.declared.machine.Took.{Took}
use Rattle.fd_machine.specs.declared.machine.Took.TheVariants.{No, Yes, Answer}
use Rattle.fd_machine.specs.declared.machine.Phase.{Phase}
use Rattle.fd_disk.specs.Names.{name_of}
use Rattle.fd_disk.specs.declared.folders.FileKind.TheVariants.{Fields, Index}
use Rattle.fd_machine.specs.declared.machine.NamedFile.{NamedFile}
use Rattle.fd_entries.specs.Batches.{HoldBatch}
use Rattle.fd_machine.specs.Machine.{file_of, possible, answer, run, start, writer_in, writer_of, put_writer}

abbrev pub answered : Option (List ℕ) → Took
answered (Some bytes) = Answer (Found bytes)
answered None = Answer Miss

abbrev pub took_by : World → Step → Took
took_by s (Fetch r key) = answered (answer s r key)
took_by s (Put w key bytes) = Yes
took_by s (SyncData w) = Yes
took_by s (WriteIndex w) = Yes
took_by s (SyncIndex w) = Yes
took_by s (Take w) = Yes
took_by s (Body w) = Yes
took_by s (SyncBody w) = Yes
took_by s (Gate w) = Yes
took_by s (SyncGate w) = Yes
took_by s (Post w) = Yes
took_by s (Release w) = Yes
took_by s (Look r) = Yes
took_by s (CloseGate w) = Yes
took_by s (SyncClose w) = Yes
took_by s (Fail w) = Yes
took_by s (Crash left) = Yes
took_by s Reopen = Yes

abbrev pub took_of : World → Step → Took
took_of s step = if possible s step then took_by s step else No

-- some list of steps has led here
pub record IsReached (s : World) : Type 0 where
  pub steps : List Step
  pub is : run steps start ≡ s

-- the writer stands at this place of the list
pub record IsPlace (xs : List Writer) (w i : ℕ) : Type 0 where
  pub inside : i < length xs
  pub writer : (o : Writer) → slice_get xs i ≡ Some (writer_in xs w o)
  pub put : (y : Writer) → y.id ≡ w → put_writer xs y ≡ slice_set xs i y

-- the machine is up, and the writer stands at this place of its list and has come this far
pub record IsAt (s : World) (w i : ℕ) (p : Phase) : Type 0 where
  pub up : s.down ≡ false
  pub place : IsPlace s.writers w i
  pub phase : (writer_of s w).phase ≡ p

-- the files of an entry hold a batch
abbrev pub IsHeld : List NamedFile → Entry → Type 0
IsHeld files e = HoldBatch (file_of files (name_of e.writer e.seq Index)).reads (file_of files (name_of e.writer e.seq Fields)).reads

abbrev pub AllHeld : List NamedFile → List Entry → Type 0
AllHeld files [] = Unit {0}
AllHeld files (e ∷ es) = IsHeld files e × AllHeld files es
