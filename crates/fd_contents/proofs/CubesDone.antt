-- What `cubes` has done is what a command has done that ran.
use Rattle.std.proofs.Common.{ℕ, List, Option, Some, None, refl}
use Rattle.std.specs.Prelude.{IfSome}
use Rattle.fd_disk.specs.Folders.{Holdings}
use Rattle.fd_words.specs.declared.command.Command.{Command}
use Rattle.fd_words.specs.declared.command.Command.TheVariants as commands
use Rattle.fd_stored.specs.declared.status.Status.{Status}
use Rattle.fd_stored.specs.declared.status.Status.TheVariants.{NoMemory}
use Rattle.fd_outcome.specs.Ends.{no_memory}
use Rattle.fd_outcome.specs.Objects.{Object, object}
use Rattle.fd_outcome.specs.Ran.{Ran}
use Rattle.fd_outcome.specs.Told.{Told}
use Rattle.fd_retrieve.proofs.Looking.{looked_told}
use Rattle.fd_retrieve.proofs.Unread.{unread_same}
use Rattle.fd_contents.specs.Cubing.{CubesRan, OfCubes}
use Rattle.fd_contents.proofs.CubeExits.{starved_ran}

pub cubes_ran : (root : List ℕ) (s : Status) (store : Object Holdings) (input output report : Object (List ℕ)) → CubesRan root s store input output report → Ran (commands.Cubes root) s store input output report
cubes_ran root s store input output report ran = record {
  ends = tt;
  store_is = ran.looks;
  words = ran.words;
  to_end = ran.to_end;
  calm = ran.calm;
  input_fault = ran.input_fault;
  output_fault = ran.output_fault;
  disk_fault = ran.disk_fault;
}

of_cubes : (command : Command) (P : List ℕ → Type 0) → ((root : List ℕ) → P root) → OfCubes command P
of_cubes (commands.Pick wanted) P p = tt
of_cubes commands.Describe P p = tt
of_cubes commands.Split P p = tt
of_cubes (commands.Values decimals) P p = tt
of_cubes (commands.Generate count) P p = tt
of_cubes (commands.Create root) P p = tt
of_cubes (commands.Archive root given workers) P p = tt
of_cubes (commands.Retrieve root workers) P p = tt
of_cubes (commands.RetrieveOver root layers workers) P p = tt
of_cubes (commands.List root) P p = tt
of_cubes (commands.Axes root) P p = tt
of_cubes (commands.Stats root) P p = tt
of_cubes (commands.Cubes root) P p = p root
of_cubes (commands.Session root) P p = tt
of_cubes (commands.Purge root dataset) P p = tt
of_cubes (commands.Wipe root dataset) P p = tt
of_cubes (commands.Trial root count workers) P p = tt

-- a run that ends for want of memory before it has done anything
pub starved_cubes : (s : Status) (has : Option Holdings) (k : ℕ) (left : Option (List ℕ)) (l : ℕ) (taken : Option (List ℕ)) (o : ℕ) (c d : Option (List ℕ)) (m n : ℕ) → Told NoMemory no_memory s c d m n
    → (command : Option Command) → IfSome command (λ x. OfCubes x (λ root. CubesRan root s (object has has k k) (object left left l l) (object taken taken o o) (object c d m n)))
starved_cubes s has k left l taken o c d m n told None = tt
starved_cubes s has k left l taken o c d m n told (Some command) =
    of_cubes command (λ root. CubesRan root s (object has has k k) (object left left l l) (object taken taken o o) (object c d m n)) (λ root. starved_ran root has has k k (object left left l l) (object taken taken o o) (object c d m n) s (looked_told has) (unread_same has left l) refl told)
