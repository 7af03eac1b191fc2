-- What a run of `generate` has done at each of its exits.
use Rattle.std.proofs.Common.{◌≡◌, ℕ, List, [], Option, Some, None, refl, inl, arith}
use Rattle.fd_bytes.specs.Causes.{Rose}
use Rattle.fd_io.specs.Streams.{Takes, TakesFront}
use Rattle.fd_disk.specs.Folders.{Holdings, WhereTold}
use Rattle.fd_words.specs.declared.command.Command.TheVariants.{Generate}
use Rattle.fd_stored.specs.declared.status.Status.{Status}
use Rattle.fd_stored.specs.declared.status.Status.TheVariants.{Done, InputFault, OutputFault, DiskFault, NoMemory}
use Rattle.fd_outcome.specs.Outcome.{generated, generated_messages}
use Rattle.fd_stored.specs.Causes.{table_full}
use Rattle.fd_outcome.specs.Objects.{object}
use Rattle.fd_outcome.specs.Ends.{Leaves, output_failed, no_memory}
use Rattle.fd_outcome.specs.Ran.{Ran}
use Rattle.fd_outcome.specs.Told.{Told}
use Rattle.fd_outcome.proofs.Endings.{takes_nothing}
use Rattle.fd_outcome.proofs.Exits.{LeavesIt, told_ran, stopped_ran, unwritten_ran, apart, is_input_fault, is_disk_fault}

module _ (count : ℕ) (has : Option Holdings) (sm : ℕ) (left : Option (List ℕ)) (im : ℕ) (a b : Option (List ℕ)) (km kn : ℕ) where
  abbrev pub To : Option (List ℕ) → Option (List ℕ) → ℕ → ℕ → Status → Type 0
  To c d m n result = Ran (Generate count) result (object has has sm sm) (object left left im im) (object a b km kn) (object c d m n)

  untouched : (c d : Option (List ℕ)) (m n : ℕ) (r : Status) → LeavesIt (Generate count) (object has has sm sm) (object left left im im) (object a b km kn) (object c d m n) r
  untouched c d m n r = go has
    where
      go : (k : Option Holdings) → WhereTold k k (Leaves (Generate count) r (¬ (Rose sm sm)) (Takes c d table_full) left left)
      go None = tt
      go (Some h) = refl

  -- all messages were written
  pub done : (c : Option (List ℕ)) (m : ℕ) → Takes a b (generated_messages count) → kn ≡ km → To c c m m Done
  done c m took calm =
      told_ran (Generate count) (object has has sm sm) (object left left im im) (object a b km kn) (object c c m m) Done Done [] c m m (record { later = omega arith; told = inl (record { status = refl; took = takes_nothing c }) }) (λ r. r) tt
      (λ names an. (generated count, refl, record { status_is = refl; wrote = took; front = []; rest_is = refl; told = takes_nothing c }))
      (refl, calm) (λ r e. untouched c c m m r) (λ e. refl)

  -- a write failed
  pub unwritten : (c d : Option (List ℕ)) (m n : ℕ) (result : Status) → TakesFront a b (generated_messages count) → Rose km kn → Told OutputFault output_failed result c d m n → To c d m n result
  unwritten c d m n result front rose tells =
      unwritten_ran (Generate count) (object has has sm sm) (object left left im im) (object a b km kn) (object c d m n) result c m n tells (λ r. r) rose
      (λ names an. (front, ([], record { rest = []; is = refl; report = takes_nothing c })))
      (untouched c d m n OutputFault)

  -- memory ran out
  pub starved : (c d : Option (List ℕ)) (m n : ℕ) (result : Status) → TakesFront a b (generated_messages count) → Told NoMemory no_memory result c d m n → To c d m n result
  starved c d m n result front tells =
      stopped_ran (Generate count) (object has has sm sm) (object left left im im) (object a b km kn) (object c d m n) NoMemory result no_memory c m n tells (λ r. r) tt
      (λ names an. (refl, ([], record { output = front; rest = []; is = refl; report = takes_nothing c })))
      (λ t. tt) (λ r e. untouched c d m n r) (λ e. absurd (apart is_input_fault NoMemory InputFault refl refl e)) (λ e. absurd (apart is_disk_fault NoMemory DiskFault refl refl e))
