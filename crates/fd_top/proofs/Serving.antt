-- What `fdb` promises of a run, of what its command has done, or where it has done none.
use Rattle.std.proofs.Common.{◌≡◌, ◌∙◌, ℕ, Bool, true, false, List, Option, Some, None, refl, sym, subst, inl, inr}
use Rattle.std.specs.Prelude.{◌⊎◌}
use Rattle.fd_bytes.specs.Causes.{Rose}
use Rattle.fd_disk.specs.Folders.{Holdings, WhereTold}
use Rattle.fd_words.specs.declared.command.Command.{Command}
use Rattle.fd_stored.specs.declared.status.Status.{Status}
use Rattle.fd_stored.specs.declared.status.Status.TheVariants.{Done, Missed, Words, InputFault, OutputFault, DiskFault, NoMemory}
use Rattle.fd_outcome.specs.Ends.{no_memory, usage}
use Rattle.fd_outcome.specs.Objects.{Object, object}
use Rattle.fd_outcome.specs.Told.{Told}
use Rattle.fd_outcome.proofs.Completing.{completes, starved_calm, starved_complete, starved_ends, starved_store, unasked_ends}
use Rattle.fd_outcome.proofs.Exits.{apart, is_disk_fault, is_input_fault, is_output_fault, is_whole, is_words}
use Rattle.fd_outcome.proofs.Starved.{is_idle}
use Rattle.fd_archive.proofs.Outlasting.{starved_outlasts}
use Rattle.fd_contents.proofs.CubesDone.{starved_cubes}
use Rattle.fd_session.proofs.Commands.{starved_session}
use Rattle.fd_top.specs.Served.{CommandRan, Served}
use Rattle.fd_top.proofs.Commands.{starved_firm, starved_notices, starved_recorded, starved_spares, starved_unread}

-- ---- where a command ran

module _ (F : Type 0) (s : Status) (store : Object Holdings) (input output report : Object (List ℕ)) where
  of_command : (command : Command) → CommandRan F command s store input output report → Served F (Some command) s store input output report
  of_command command did = record {
    words = λ is. absurd (did.ran.words is);
    ends = did.ran.ends;
    complete = completes command s store input output report did.ran;
    store = did.ran.store_is;
    outlasts = did.outlasts;
    firm = did.firm;
    spares = did.spares;
    notices = did.notices;
    unread = did.unread;
    to_end = did.ran.to_end;
    calm = did.ran.calm;
    session = did.session;
    cubes = did.cubes;
    recorded = did.recorded;
    input_fault = did.ran.input_fault;
    output_fault = did.ran.output_fault;
    disk_fault = did.ran.disk_fault;
  }

  pub serves : (asked : Option Command) (command : Command) → asked ≡ Some command → CommandRan F command s store input output report → Served F asked s store input output report
  serves asked command is did = subst (λ o. Served F o s store input output report) (sym is) (of_command command did)

-- ---- where only a line was told

module _ (s result : Status) (text : List ℕ) (c d : Option (List ℕ)) (m n : ℕ) (told : Told s text result c d m n) where
  ends_apart : (t : Status → Bool) (other : Status) → t s ≡ false → t OutputFault ≡ false → t other ≡ true → ¬ (result ≡ other)
  ends_apart t other fails fault passes is =
      elim told.told as (λ _. ⊥) [ inl x ↦ apart t s other fails passes (sym x.status ∙ is) | inr x ↦ apart t OutputFault other fault passes (sym x.status ∙ is) ]

  never_read : is_whole s ≡ false → ¬ ((result ≡ Done) ⊎ (result ≡ Missed))
  never_read fails ends = elim ends as (λ _. ⊥) [ inl is ↦ ends_apart is_whole Done fails refl refl is | inr is ↦ ends_apart is_whole Missed fails refl refl is ]

  rises : is_output_fault s ≡ false → result ≡ OutputFault → Rose m n
  rises fails is = elim told.told as (λ _. Rose m n) [ inl x ↦ absurd (apart is_output_fault s OutputFault fails refl (sym x.status ∙ is)) | inr x ↦ x.rose ]

same_store : (has : Option Holdings) → WhereTold has has (λ h i. i ≡ h)
same_store None = tt
same_store (Some h) = refl

module _ (F : Type 0) (result : Status) (has : Option Holdings) (k : ℕ) (left : Option (List ℕ)) (l : ℕ) (taken : Option (List ℕ)) (o : ℕ) (c d : Option (List ℕ)) (m n : ℕ) where
  unasked : Told Words usage result c d m n → Served F None result (object has has k k) (object left left l l) (object taken taken o o) (object c d m n)
  unasked told = record {
    words = λ is. refl;
    ends = unasked_ends None result (object has has k k) (object left left l l) taken o o c d m n refl told;
    complete = λ calm_input calm_output calm_report calm_store. tt;
    store = same_store has;
    outlasts = tt;
    firm = tt;
    spares = tt;
    notices = tt;
    unread = tt;
    to_end = λ ends. tt;
    calm = tt;
    session = tt;
    cubes = tt;
    recorded = tt;
    input_fault = λ is. absurd (ends_apart Words result usage c d m n told is_input_fault InputFault refl refl refl is);
    output_fault = λ is. inr (rises Words result usage c d m n told refl is);
    disk_fault = λ is. absurd (ends_apart Words result usage c d m n told is_disk_fault DiskFault refl refl refl is);
  }

  -- the words are no command
  pub refuses : (asked : Option Command) → asked ≡ None → Told Words usage result c d m n → Served F asked result (object has has k k) (object left left l l) (object taken taken o o) (object c d m n)
  refuses asked is told = subst (λ x. Served F x result (object has has k k) (object left left l l) (object taken taken o o) (object c d m n)) (sym is) (unasked told)

  -- memory ran out over the words
  pub starves : (asked : Option Command) → Told NoMemory no_memory result c d m n → Served F asked result (object has has k k) (object left left l l) (object taken taken o o) (object c d m n)
  starves asked told = record {
    words = λ is. absurd (ends_apart NoMemory result no_memory c d m n told is_words Words refl refl refl is);
    ends = starved_ends result has k k left l l taken o o c d m n told asked;
    complete = starved_complete result has k k left l l taken o o c d m n told asked;
    store = starved_store result has k k left l l taken o o c d m n told asked;
    outlasts = starved_outlasts result has k k left l l c d m n told asked;
    firm = starved_firm asked result (object has has k k) (object left left l l) (is_idle result c d m n told);
    spares = starved_spares asked has;
    notices = starved_notices asked result (object has has k k) (object left left l l) (object taken taken o o) (object c d m n) (is_idle result c d m n told);
    unread = starved_unread asked (object has has k k) left l;
    to_end = λ ends. absurd (never_read NoMemory result no_memory c d m n told refl ends);
    calm = starved_calm result has k k left l l taken o o c d m n told asked;
    session = starved_session F result has k left l taken o c d m n told asked;
    cubes = starved_cubes result has k left l taken o c d m n told asked;
    recorded = starved_recorded asked result (object has has k k) (object left left l l) (object taken taken o o) (is_idle result c d m n told);
    input_fault = λ is. absurd (ends_apart NoMemory result no_memory c d m n told is_input_fault InputFault refl refl refl is);
    output_fault = λ is. inr (rises NoMemory result no_memory c d m n told refl is);
    disk_fault = λ is. absurd (ends_apart NoMemory result no_memory c d m n told is_disk_fault DiskFault refl refl refl is);
  }
