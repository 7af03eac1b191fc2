-- Which call of the disk a step of the machine is.
use Rattle.std.specs.Prelude.{◌≡◌, ◌+◌, ℕ, true, List, [], ◌∷◌, ◌++◌, length}
use Rattle.fd_disk.specs.declared.file.File.{File}
use Rattle.fd_disk.specs.declared.folders.FileName.{FileName}
use Rattle.fd_disk.specs.Images.{IsAfterFailedWrite, IsImage, synced, written}
use Rattle.fd_entries.specs.Batches.{rows, total}
use Rattle.fd_entries.specs.Table.{body_of, gate_at}
use Rattle.fd_machine.specs.World.{World}
use Rattle.fd_machine.specs.declared.machine.Step.{Step}
use Rattle.fd_machine.specs.declared.machine.Step.TheVariants.{Put, SyncData, WriteIndex, SyncIndex, Body, SyncBody, Gate, SyncGate, CloseGate, SyncClose, Fail}
use Rattle.fd_machine.specs.Machine.{after, entry_of, fields_name, file_of, index_name, possible, writer_of}

-- what a crash may leave of the one file it may leave of the other
abbrev pub LeavesAmong : File → File → Type 0
LeavesAmong f g = (c : List ℕ) → IsImage f c → IsImage g c

-- This write of a file is this step of the writer. Where it ended well, it did to the file what the step does. Where it failed,
-- what a crash may leave of the file it may leave behind the writer's `Fail`, also where the write did nothing.
pub record IsWrite (file : World → File) (s : World) (w : ℕ) (step : Step) (at : ℕ) (bytes : List ℕ) : Type 0 where
  pub well : file (after s step) ≡ written (file s) at bytes
  pub fails : (f : File) → IsAfterFailedWrite (file s) at (length bytes) f → LeavesAmong f (file (after s (Fail w)))

-- The same of a sync, which leaves the file as it was where it failed.
pub record IsSync (file : World → File) (s : World) (w : ℕ) (step : Step) : Type 0 where
  pub well : file (after s step) ≡ synced (file s)
  pub fails : LeavesAmong (file s) (file (after s (Fail w)))

abbrev pub the_table : World → File
the_table s = s.table

abbrev pub the_file : FileName → World → File
the_file name s = file_of s.files name

-- the calls of a writer's two files, and those of the table while it is the owner
pub record CallsAreSteps (s : World) (w : ℕ) : Type 0 where
  pub put : (key bytes : List ℕ) → possible s (Put w key bytes) ≡ true → IsWrite (the_file (fields_name (writer_of s w))) s w (Put w key bytes) (total (writer_of s w).pairs) bytes
  pub put_sync : possible s (SyncData w) ≡ true → IsSync (the_file (fields_name (writer_of s w))) s w (SyncData w)
  pub index : possible s (WriteIndex w) ≡ true → IsWrite (the_file (index_name (writer_of s w))) s w (WriteIndex w) 0 (rows (writer_of s w).pairs)
  pub index_sync : possible s (SyncIndex w) ≡ true → IsSync (the_file (index_name (writer_of s w))) s w (SyncIndex w)
  pub closing : possible s (CloseGate w) ≡ true → IsWrite the_table s w (CloseGate w) (gate_at (length s.history)) (0 ∷ [])
  pub closing_sync : possible s (SyncClose w) ≡ true → IsSync the_table s w (SyncClose w)
  pub body : possible s (Body w) ≡ true → IsWrite the_table s w (Body w) (gate_at (length s.history) + 1) (body_of (entry_of (writer_of s w)) ++ 0 ∷ [])
  pub body_sync : possible s (SyncBody w) ≡ true → IsSync the_table s w (SyncBody w)
  pub gate : possible s (Gate w) ≡ true → IsWrite the_table s w (Gate w) (gate_at (length s.history)) (79 ∷ [])
  pub gate_sync : possible s (SyncGate w) ≡ true → IsSync the_table s w (SyncGate w)

abbrev pub EveryCallIsAStep : Type 0
EveryCallIsAStep = (s : World) (w : ℕ) → CallsAreSteps s w
