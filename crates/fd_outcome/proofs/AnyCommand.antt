-- A run of any command that calls the store: what its objects tell, and how it has ended.
use Rattle.std.proofs.Common.{◌≡◌, ◌∙◌, ℕ, false, List, [], Option, Some, None, refl, sym, subst, inl, inr}
use Rattle.std.specs.Prelude.{◌⊎◌, IfSome}
use Rattle.fd_bytes.specs.Causes.{Rose}
use Rattle.fd_io.specs.Streams.{Takes}
use Rattle.fd_disk.specs.Folders.{Holdings, WhereTold}
use Rattle.fd_words.specs.declared.command.Command.{Command}
use Rattle.fd_words.specs.declared.command.Command.TheVariants as commands
use Rattle.fd_stored.specs.declared.status.Status.{Status}
use Rattle.fd_stored.specs.declared.status.Status.TheVariants.{Done, Missed, Words, InputFault, OutputFault, DiskFault}
use Rattle.fd_stored.specs.Causes.{table_full}
use Rattle.fd_outcome.specs.Ends.{Calm, Ends, Leaves, ReadsOut, UsesStore, WhereAsked, troubles}
use Rattle.fd_outcome.specs.Objects.{Failed, Failures, Object, failures}
use Rattle.fd_outcome.specs.Outcome.{early, outcome}
use Rattle.fd_outcome.specs.Ran.{Ran}
use Rattle.fd_stored.specs.Store.{AreNames}
use Rattle.fd_outcome.specs.Told.{Told}
use Rattle.fd_outcome.proofs.Exits.{apart, either_of, is_disk_fault, is_input_fault, is_output_fault, is_whole, is_words, neither, rose_of}

-- the octets of the input, where the command reads it
abbrev pub Seen : Command → Option (List ℕ) → List ℕ → Type 0
Seen (commands.Pick wanted) input octets = input ≡ Some octets
Seen commands.Describe input octets = input ≡ Some octets
Seen commands.Split input octets = input ≡ Some octets
Seen (commands.Values decimals) input octets = input ≡ Some octets
Seen (commands.Generate count) input octets = octets ≡ []
Seen (commands.Create root) input octets = input ≡ Some octets
Seen (commands.Archive root given workers) input octets = input ≡ Some octets
Seen (commands.Retrieve root workers) input octets = input ≡ Some octets
Seen (commands.RetrieveOver root layers workers) input octets = input ≡ Some octets
Seen (commands.List root) input octets = input ≡ Some octets
Seen (commands.Axes root) input octets = input ≡ Some octets
Seen (commands.Stats root) input octets = octets ≡ []
Seen (commands.Cubes root) input octets = input ≡ Some octets
Seen (commands.Session root) input octets = input ≡ Some octets
Seen (commands.Purge root dataset) input octets = octets ≡ []
Seen (commands.Wipe root dataset) input octets = octets ≡ []
Seen (commands.Trial root count workers) input octets = octets ≡ []

module _ (P : List ℕ → Holdings → Holdings → Type 0) (input : Option (List ℕ)) (store after : Option Holdings) where
  of_store : (octets : List ℕ) (s a : Option Holdings) → store ≡ s → after ≡ a → ((h i : Holdings) → store ≡ Some h → after ≡ Some i → P octets h i) → IfSome s (λ h. IfSome a (P octets h))
  of_store octets None a e f all = tt
  of_store octets (Some h) None e f all = tt
  of_store octets (Some h) (Some i) e f all = all h i e f

  of_input : (o : Option (List ℕ)) → input ≡ o → ((octets : List ℕ) (h i : Holdings) → input ≡ Some octets → store ≡ Some h → after ≡ Some i → P octets h i) → IfSome o (λ octets. IfSome store (λ h. IfSome after (P octets h)))
  of_input None d all = tt
  of_input (Some octets) d all = of_store octets store after refl refl (λ h i. all octets h i d)

  -- what holds wherever the objects tell
  pub where_seen : (command : Command) → UsesStore command → ((octets : List ℕ) (h i : Holdings) → Seen command input octets → store ≡ Some h → after ≡ Some i → P octets h i) → WhereAsked command input store after P
  where_seen (commands.Pick wanted) uses all = absurd uses
  where_seen commands.Describe uses all = absurd uses
  where_seen commands.Split uses all = absurd uses
  where_seen (commands.Values decimals) uses all = absurd uses
  where_seen (commands.Generate count) uses all = absurd uses
  where_seen (commands.Create root) uses all = of_input input refl all
  where_seen (commands.Archive root given workers) uses all = of_input input refl all
  where_seen (commands.Retrieve root workers) uses all = of_input input refl all
  where_seen (commands.RetrieveOver root layers workers) uses all = of_input input refl all
  where_seen (commands.List root) uses all = of_input input refl all
  where_seen (commands.Axes root) uses all = of_input input refl all
  where_seen (commands.Stats root) uses all = of_store [] store after refl refl (λ h i. all [] h i refl)
  where_seen (commands.Cubes root) uses all = tt
  where_seen (commands.Session root) uses all = tt
  where_seen (commands.Purge root dataset) uses all = of_store [] store after refl refl (λ h i. all [] h i refl)
  where_seen (commands.Wipe root dataset) uses all = of_store [] store after refl refl (λ h i. all [] h i refl)
  where_seen (commands.Trial root count workers) uses all = of_store [] store after refl refl (λ h i. all [] h i refl)

module _ (command : Command) (uses : UsesStore command) (store : Object Holdings) (input output report : Object (List ℕ)) (result : Status) where
  abbrev pub Fs : Failures
  Fs = failures store input output report

  abbrev pub LeavesIt : Type 0
  LeavesIt = WhereTold store.before store.now (Leaves command result (¬ (Failed store)) (Takes report.before report.now table_full) input.before input.now)

  abbrev pub EndsAs : List ℕ → Holdings → Holdings → List (List ℕ) → Type 0
  EndsAs octets h i names = Ends Fs result (outcome command h names octets) (early command h names octets) (troubles command Fs h i names octets) output.before output.now report.before report.now

  -- of what the input and the store tell, and of the names of the datasets
  abbrev pub Each : (List ℕ → Holdings → Holdings → List (List ℕ) → Type 0) → Type 0
  Each P = (octets : List ℕ) (h i : Holdings) (names : List (List ℕ)) → Seen command input.before octets → store.before ≡ Some h → store.now ≡ Some i → AreNames h names → P octets h i names

  pub ran_of : Each EndsAs → ¬ (result ≡ Words) → (result ≡ InputFault → Failed input) → (result ≡ OutputFault → Failed output ⊎ Failed report) → (result ≡ DiskFault → Failed store)
      → Calm command result input output report → LeavesIt → (((result ≡ Done) ⊎ (result ≡ Missed)) → ReadsOut command input.before input.now) → Ran command result store input output report
  ran_of ends words input_fault output_fault disk_fault calm leaves read = record {
    ends = where_seen (λ octets h i. (names : List (List ℕ)) → AreNames h names → EndsAs octets h i names) input.before store.before store.now command uses (λ octets h i d e f names an. ends octets h i names d e f an);
    store_is = leaves;
    words = words;
    to_end = read;
    calm = calm;
    input_fault = input_fault;
    output_fault = output_fault;
    disk_fault = disk_fault;
  }

  module _ (s : Status) (text : List ℕ) (mid : Option (List ℕ)) (m n : ℕ) (told : Told s text result mid report.now m n) (reported : Rose m n → Failed report)
      (words : is_words s ≡ false) (output_no : is_output_fault s ≡ false) (input_fault : s ≡ InputFault → Failed input) (disk : s ≡ DiskFault → Failed store)
      (calm : Takes mid report.now text → Calm command s input output report) (leaves : LeavesIt) (read : ((s ≡ Done) ⊎ (s ≡ Missed)) → ReadsOut command input.before input.now) where
    -- a run that tells such a status with its line
    pub told_of : Each EndsAs → Ran command result store input output report
    told_of ends =
        let e = either_of s result text mid report.now m n told in
        ran_of ends (neither s result Words e (apart is_words s Words words refl) (apart is_words OutputFault Words refl refl))
        (λ x. input_fault (elim e as (λ _. s ≡ InputFault) [ inl is ↦ sym is ∙ x | inr is ↦ absurd (apart is_input_fault OutputFault InputFault refl refl (sym is ∙ x)) ]))
        (λ x. inr (reported (rose_of s result text mid report.now m n (apart is_output_fault s OutputFault output_no refl) told x)))
        (λ x. disk (elim e as (λ _. s ≡ DiskFault) [ inl is ↦ sym is ∙ x | inr is ↦ absurd (apart is_disk_fault OutputFault DiskFault refl refl (sym is ∙ x)) ]))
        (elim told.told as (λ _. Calm command result input output report) [
          | inl x ↦ subst (λ y. Calm command y input output report) (sym x.status) (calm x.took)
          | inr x ↦ subst (λ y. Calm command y input output report) (sym x.status) tt
        ])
        leaves
        (λ w. read (elim w as (λ _. (s ≡ Done) ⊎ (s ≡ Missed)) [
          | inl x ↦ inl (elim e as (λ _. s ≡ Done) [ inl y ↦ sym y ∙ x | inr y ↦ absurd (apart is_whole OutputFault Done refl refl (sym y ∙ x)) ])
          | inr x ↦ inr (elim e as (λ _. s ≡ Missed) [ inl y ↦ sym y ∙ x | inr y ↦ absurd (apart is_whole OutputFault Missed refl refl (sym y ∙ x)) ])
        ]))
