-- What a session has done is what a command has done that ran.
use Rattle.std.proofs.Common.{◌≡◌, ◌⊎◌, ℕ, List, [], Option, Some, None, refl, inl, inr}
use Rattle.std.specs.Prelude.{IfSome}
use Rattle.fd_disk.specs.Folders.{Holdings, WhereTold}
use Rattle.fd_io.specs.Streams.{Takes}
use Rattle.fd_words.specs.declared.command.Command.{Command}
use Rattle.fd_words.specs.declared.command.Command.TheVariants as commands
use Rattle.fd_stored.specs.declared.status.Status.{Status}
use Rattle.fd_stored.specs.declared.status.Status.TheVariants as statuses
use Rattle.fd_stored.specs.Causes.{table_full}
use Rattle.fd_outcome.specs.Ends.{AreCalm, Calm, Leaves, no_memory}
use Rattle.fd_outcome.specs.Objects.{Failed, Object, object}
use Rattle.fd_outcome.specs.Ran.{Ran}
use Rattle.fd_outcome.specs.Told.{Told}
use Rattle.fd_session.specs.Sessions.{OfSession, SessionRan}
use Rattle.fd_session.proofs.Ending.{Starves, idle_ran}
use Rattle.fd_session.proofs.Halting.{kept}

module _ (F : Type 0) (root : List ℕ) (s : Status) (store : Object Holdings) (input output report : Object (List ℕ)) where
  leaves : (a b : Option Holdings) → WhereTold a b (λ h i. Unit {0}) → WhereTold a b (Leaves (commands.Session root) s (¬ (Failed store)) (Takes report.before report.now table_full) input.before input.now)
  leaves None None w = tt
  leaves None (Some i) w = absurd w
  leaves (Some h) None w = absurd w
  leaves (Some h) (Some i) w = tt

  calm_of : (x : Status) → ¬ (x ≡ statuses.Missed) → ((x ≡ statuses.Done) ⊎ ((x ≡ statuses.Refused) ⊎ (x ≡ statuses.Limit)) → AreCalm input output) → Calm (commands.Session root) x input output report
  calm_of statuses.Done never f = f (inl refl)
  calm_of statuses.Missed never f = absurd (never refl)
  calm_of statuses.Words never f = tt
  calm_of statuses.Refused never f = f (inr (inl refl))
  calm_of statuses.InputFault never f = tt
  calm_of statuses.OutputFault never f = tt
  calm_of statuses.DiskFault never f = tt
  calm_of statuses.NoMemory never f = tt
  calm_of statuses.Damaged never f = tt
  calm_of statuses.Limit never f = inl (f (inr (inr refl)))

  pub session_ran : SessionRan F s store input output report → Ran (commands.Session root) s store input output report
  session_ran ran = record {
    ends = tt;
    store_is = leaves store.before store.now ran.told;
    words = ran.words;
    to_end = λ w. elim w as (λ _. IfSome input.before (λ octets. input.now ≡ Some [])) [ inl e ↦ ran.to_end e | inr e ↦ absurd (ran.missed e) ];
    calm = calm_of s ran.missed ran.calm;
    input_fault = ran.input_fault;
    output_fault = ran.output_fault;
    disk_fault = ran.disk_fault;
  }

of_session : (command : Command) (P : Type 0) → P → OfSession command P
of_session (commands.Pick wanted) P p = tt
of_session commands.Describe P p = tt
of_session commands.Split P p = tt
of_session (commands.Values decimals) P p = tt
of_session (commands.Generate count) P p = tt
of_session (commands.Create root) P p = tt
of_session (commands.Archive root given workers) P p = tt
of_session (commands.Retrieve root workers) P p = tt
of_session (commands.RetrieveOver root layers workers) P p = tt
of_session (commands.List root) P p = tt
of_session (commands.Axes root) P p = tt
of_session (commands.Stats root) P p = tt
of_session (commands.Cubes root) P p = tt
of_session (commands.Session root) P p = p
of_session (commands.Purge root dataset) P p = tt
of_session (commands.Wipe root dataset) P p = tt
of_session (commands.Trial root count workers) P p = tt

-- a run that ends for want of memory before it has done anything
pub starved_session : (F : Type 0) (s : Status) (has : Option Holdings) (k : ℕ) (left : Option (List ℕ)) (l : ℕ) (taken : Option (List ℕ)) (o : ℕ) (c d : Option (List ℕ)) (m n : ℕ) → Told statuses.NoMemory no_memory s c d m n
    → (command : Option Command) → IfSome command (λ x. OfSession x (SessionRan F s (object has has k k) (object left left l l) (object taken taken o o) (object c d m n)))
starved_session F s has k left l taken o c d m n told None = tt
starved_session F s has k left l taken o c d m n told (Some command) = of_session command _ (idle_ran F s _ _ _ _ refl refl (kept _ _ refl) (Starves told))
