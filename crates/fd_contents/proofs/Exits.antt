-- The exits of `list`, `axes` and `stats`.
use Rattle.std.proofs.Common.{◌≡◌, ◌∙◌, ◌≤◌, ◌++◌, ℕ, false, List, [], ◌∷◌, Option, Some, None, refl, sym, ap, subst, inl, inr, append-nil, string_bytes, arith}
use Rattle.std.specs.Prelude.{◌⊎◌, IfSome, Contains, Ok, Err, option_map}
use Rattle.std.specs.Result.{is_ok}
use Rattle.fd_bytes.specs.Causes.{Rose}
use Rattle.fd_io.specs.Streams.{Takes, TakesFront}
use Rattle.fd_disk.specs.Folders.{Holdings, WhereTold, folder_at}
use Rattle.fd_entries.specs.declared.batch.Pair.{Pair}
use Rattle.fd_request.specs.Expansion.{Keyword}
use Rattle.fd_request.specs.Reading.{seen_kind}
use Rattle.fd_schema.specs.Grammar as schemas
use Rattle.fd_schema.specs.Reading.{IsFirst}
use Rattle.fd_schema.specs.Rules.{Rule}
use Rattle.fd_schema.specs.declared.fault.SchemaKind.{SchemaKind}
use Rattle.fd_words.specs.declared.command.Command.{Command}
use Rattle.fd_words.specs.declared.command.Command.TheVariants as commands
use Rattle.fd_stored.specs.declared.status.Status.{Status}
use Rattle.fd_stored.specs.declared.status.Status.TheVariants.{Done, Missed, Words, Refused, InputFault, OutputFault, DiskFault, NoMemory, Damaged, Limit}
use Rattle.fd_outcome.specs.Asking.{rules_of}
use Rattle.fd_stored.specs.Causes as causes
use Rattle.fd_stored.specs.Causes.{Broken, Cause, damaged_line, table_full, telling}
use Rattle.fd_outcome.specs.Ends.{Calm, Ends, IsBroken, Leaves, Opens, ReadsOut, Troubles, UsesStore, disk_failed, input_failed, no_memory, output_failed, troubles}
use Rattle.fd_outcome.specs.Objects.{Failed, Failures, IsCalm, Object, failures, object}
use Rattle.fd_outcome.specs.Outcome.{Early, Outcome, both, early, lines_early, lines_of, nothing_early, outcome, output_early, printed, printed_of, refused, stats_lines, stats_of, stats_printed}
use Rattle.fd_outcome.specs.Ran.{Ran}
use Rattle.fd_outcome.specs.Rows.{axes_text, list_text}
use Rattle.fd_stored.specs.Store.{AreNames, IsLookedThrough, Stands, entries_in, table_at}
use Rattle.fd_outcome.specs.Told.{Told, ToldOrNoMemory}
use Rattle.fd_outcome.proofs.AnyCommand.{Seen, ran_of, told_of}
use Rattle.fd_outcome.proofs.Endings.{CanStop, ends_early, ends_told, ends_unwritten, takes_nothing, nothing_of}
use Rattle.fd_outcome.proofs.Exits.{apart, by_cause, cause_calm, cause_not_whole, cause_told, is_disk_fault, is_input_fault, is_output_fault, is_whole, is_words, never_whole}
use Rattle.fd_telling.specs.declared.stop.Stop.{Stop}
use Rattle.fd_telling.specs.declared.stop.Stop.TheVariants as stops
use Rattle.fd_retrieve.specs.Ready.{IsBrokenOf}
use Rattle.fd_telling.specs.Stops.{OfDataset, OnDisk, OnInput, OnRefusal, ToldSome, ToldStop, seen_broken}
use Rattle.fd_retrieve.proofs.ReadyLemmas.{contains_among}
use Rattle.fd_contents.specs.declared.lines.Lines.{Lines}
use Rattle.fd_contents.specs.declared.lines.Lines.TheVariants as lines
use Rattle.fd_contents.specs.Asked.{IsEarly, IsListing, Refuses, WhereSeen, asked_in}
use Rattle.fd_contents.specs.Texts.{text_for, texts_for}

-- ---- what a listing is

pub uses : (command : Command) → IsListing command → UsesStore command
uses (commands.Pick wanted) is = absurd is
uses commands.Describe is = absurd is
uses commands.Split is = absurd is
uses (commands.Values decimals) is = absurd is
uses (commands.Generate count) is = absurd is
uses (commands.Create root) is = absurd is
uses (commands.Archive root given workers) is = absurd is
uses (commands.Retrieve root workers) is = absurd is
uses (commands.RetrieveOver root layers workers) is = absurd is
uses (commands.List root) is = tt
uses (commands.Axes root) is = tt
uses (commands.Stats root) is = tt
uses (commands.Session root) is = absurd is
uses (commands.Cubes root) is = absurd is
uses (commands.Purge root dataset) is = absurd is
uses (commands.Wipe root dataset) is = absurd is
uses (commands.Trial root count workers) is = absurd is

-- what is broken stands there before
broken_there : (command : Command) → IsListing command → (h i : Holdings) (name : List ℕ) (broken : Broken) → Stands name (folder_at h name) broken → IsBroken command h i name broken
broken_there (commands.Pick wanted) is h i name broken x = absurd is
broken_there commands.Describe is h i name broken x = absurd is
broken_there commands.Split is h i name broken x = absurd is
broken_there (commands.Values decimals) is h i name broken x = absurd is
broken_there (commands.Generate count) is h i name broken x = absurd is
broken_there (commands.Create root) is h i name broken x = absurd is
broken_there (commands.Archive root given workers) is h i name broken x = absurd is
broken_there (commands.Retrieve root workers) is h i name broken x = absurd is
broken_there (commands.RetrieveOver root layers workers) is h i name broken x = absurd is
broken_there (commands.List root) is h i name broken x = x
broken_there (commands.Axes root) is h i name broken x = x
broken_there (commands.Stats root) is h i name broken x = x
broken_there (commands.Session root) is h i name broken x = absurd is
broken_there (commands.Cubes root) is h i name broken x = absurd is
broken_there (commands.Purge root dataset) is h i name broken x = absurd is
broken_there (commands.Wipe root dataset) is h i name broken x = absurd is
broken_there (commands.Trial root count workers) is h i name broken x = absurd is

early_is : (command : Command) → IsListing command → (h : Holdings) (names : List (List ℕ)) (octets : List ℕ) → early command h names octets ≡ output_early (outcome command h names octets)
early_is (commands.Pick wanted) is h names octets = absurd is
early_is commands.Describe is h names octets = absurd is
early_is commands.Split is h names octets = absurd is
early_is (commands.Values decimals) is h names octets = absurd is
early_is (commands.Generate count) is h names octets = absurd is
early_is (commands.Create root) is h names octets = absurd is
early_is (commands.Archive root given workers) is h names octets = absurd is
early_is (commands.Retrieve root workers) is h names octets = absurd is
early_is (commands.RetrieveOver root layers workers) is h names octets = absurd is
early_is (commands.List root) is h names octets = refl
early_is (commands.Axes root) is h names octets = refl
early_is (commands.Stats root) is h names octets = refl
early_is (commands.Session root) is h names octets = absurd is
early_is (commands.Cubes root) is h names octets = absurd is
early_is (commands.Purge root dataset) is h names octets = absurd is
early_is (commands.Wipe root dataset) is h names octets = absurd is
early_is (commands.Trial root count workers) is h names octets = absurd is

leaves_by : (command : Command) → IsListing command → (s : Status) (calm full : Type 0) (input left : Option (List ℕ)) (before now : Option Holdings) → WhereTold before now IsLookedThrough → WhereTold before now (Leaves command s calm full input left)
leaves_by (commands.Pick wanted) is s calm full input left before now looks = absurd is
leaves_by commands.Describe is s calm full input left before now looks = absurd is
leaves_by commands.Split is s calm full input left before now looks = absurd is
leaves_by (commands.Values decimals) is s calm full input left before now looks = absurd is
leaves_by (commands.Generate count) is s calm full input left before now looks = absurd is
leaves_by (commands.Create root) is s calm full input left before now looks = absurd is
leaves_by (commands.Archive root given workers) is s calm full input left before now looks = absurd is
leaves_by (commands.Retrieve root workers) is s calm full input left before now looks = absurd is
leaves_by (commands.RetrieveOver root layers workers) is s calm full input left before now looks = absurd is
leaves_by (commands.List root) is s calm full input left before now looks = looks
leaves_by (commands.Axes root) is s calm full input left before now looks = looks
leaves_by (commands.Stats root) is s calm full input left before now looks = looks
leaves_by (commands.Session root) is s calm full input left before now looks = absurd is
leaves_by (commands.Cubes root) is s calm full input left before now looks = absurd is
leaves_by (commands.Purge root dataset) is s calm full input left before now looks = absurd is
leaves_by (commands.Wipe root dataset) is s calm full input left before now looks = absurd is
leaves_by (commands.Trial root count workers) is s calm full input left before now looks = absurd is

-- what holds where the objects tell
pub seen_at : (command : Command) (input : Option (List ℕ)) (store : Option Holdings) (P : List ℕ → Holdings → Type 0) → WhereSeen command input store P → (octets : List ℕ) (h : Holdings) → Seen command input octets → store ≡ Some h → P octets h
seen_at (commands.Pick wanted) input store P w octets h d e = w octets h d e
seen_at commands.Describe input store P w octets h d e = w octets h d e
seen_at commands.Split input store P w octets h d e = w octets h d e
seen_at (commands.Values decimals) input store P w octets h d e = w octets h d e
seen_at (commands.Generate count) input store P w octets h d e = subst (λ o. P o h) (sym d) (w h e)
seen_at (commands.Create root) input store P w octets h d e = w octets h d e
seen_at (commands.Archive root given workers) input store P w octets h d e = w octets h d e
seen_at (commands.Retrieve root workers) input store P w octets h d e = w octets h d e
seen_at (commands.RetrieveOver root layers workers) input store P w octets h d e = w octets h d e
seen_at (commands.List root) input store P w octets h d e = w octets h d e
seen_at (commands.Axes root) input store P w octets h d e = w octets h d e
seen_at (commands.Stats root) input store P w octets h d e = subst (λ o. P o h) (sym d) (w h e)
seen_at (commands.Session root) input store P w octets h d e = w octets h d e
seen_at (commands.Cubes root) input store P w octets h d e = w octets h d e
seen_at (commands.Purge root dataset) input store P w octets h d e = subst (λ o. P o h) (sym d) (w h e)
seen_at (commands.Wipe root dataset) input store P w octets h d e = subst (λ o. P o h) (sym d) (w h e)
seen_at (commands.Trial root count workers) input store P w octets h d e = subst (λ o. P o h) (sym d) (w h e)

-- ---- how a listing ends, by its outcome

module _ (f : Failures) (tr : Troubles) (a b c d : Option (List ℕ)) where
  -- where a dataset is damaged, nothing is said but the last line
  bare : (s : Status) (text : List ℕ) → CanStop f tr s text → Takes c d text → Ends f s None nothing_early tr a b c d
  bare Done text can t = absurd can
  bare Missed text can t = absurd can
  bare Words text can t = absurd can
  bare Refused text can t = absurd can
  bare InputFault text can t = subst (λ x. (before : List ℕ) × Takes c d (before ++ x)) can.1 ([], t)
  bare OutputFault text can t = inl (can.0, subst (λ x. (before : List ℕ) × Takes c d (before ++ x)) can.1 ([], t))
  bare DiskFault text can t = (text, can, ([], t))
  bare NoMemory text can t = subst (λ x. (before : List ℕ) × Takes c d (before ++ x)) can ([], t)
  bare Damaged text can t = inr (text, can, ([], t))
  bare Limit text can t = inr (text, can, ([], t))

  -- the output took a front of the lines
  abbrev pub Part : Option Outcome → Type 0
  Part o = IfSome o (λ x. TakesFront a b x.output)

  stop_ends : (o : Option Outcome) (s result : Status) (text : List ℕ) (m n : ℕ) → Part o → CanStop f tr s text → (Rose m n → f.report) → Told s text result c d m n → Ends f result o (output_early o) tr a b c d
  stop_ends None s result text m n part can reported told = elim told.told as (λ _. Ends f result None nothing_early tr a b c d) [
    | inl x ↦ subst (λ y. Ends f y None nothing_early tr a b c d) (sym x.status) (bare s text can x.took)
    | inr x ↦ subst (λ y. Ends f y None nothing_early tr a b c d) (sym x.status) (inr (reported x.rose))
  ]
  stop_ends (Some o) s result text m n part can reported told =
      ends_early f a b c c d (lines_early o.output) tr (Some o) s result text [] m n ([], sym (append-nil o.output)) can (record { output = part; rest = []; is = refl; report = takes_nothing c }) reported told

  unwritten_ends : (o : Option Outcome) (result : Status) (m n : ℕ) → Part o → f.output → (Rose m n → f.report) → Told OutputFault output_failed result c d m n → Ends f result o (output_early o) tr a b c d
  unwritten_ends None result m n part failed reported told = elim told.told as (λ _. Ends f result None nothing_early tr a b c d) [
    | inl x ↦ subst (λ y. Ends f y None nothing_early tr a b c d) (sym x.status) (inl (failed, ([], x.took)))
    | inr x ↦ subst (λ y. Ends f y None nothing_early tr a b c d) (sym x.status) (inr (reported x.rose))
  ]
  unwritten_ends (Some o) result m n part failed reported told =
      ends_unwritten f a b c c d (lines_early o.output) tr (Some o) result [] m n part failed (record { rest = []; is = refl; report = takes_nothing c }) reported told

-- ---- the exits of any of the commands

module _ (command : Command) (is : IsListing command) (before now : Option Holdings) (sm sn : ℕ) (input output report : Object (List ℕ)) (result : Status) (looks : WhereTold before now IsLookedThrough) where
  abbrev S : Object Holdings
  S = object before now sm sn

  abbrev pub Out : Type 0
  Out = Ran command result S input output report

  abbrev F : Failures
  F = failures S input output report

  abbrev ToldAs : Status → List ℕ → Type 0
  ToldAs s text = Told s text result report.before report.now report.faults_before report.faults_now

  abbrev EndsBy : Holdings → Holdings → List (List ℕ) → List ℕ → Option Outcome → Early → Type 0
  EndsBy h i names octets o e = Ends F result o e (troubles command F h i names octets) output.before output.now report.before report.now

  -- what the output took is a front of the lines
  abbrev pub InPart : Type 0
  InPart = (octets : List ℕ) (h : Holdings) (names : List (List ℕ)) → Seen command input.before octets → before ≡ Some h → AreNames h names → IfSome (outcome command h names octets) (λ x. TakesFront output.before output.now x.output)

  leaves : WhereTold before now (Leaves command result (¬ (Failed S)) (Takes report.before report.now table_full) input.before input.now)
  leaves = leaves_by command is result (¬ (Failed S)) (Takes report.before report.now table_full) input.before input.now before now looks

  ends_as : (h i : Holdings) (names : List (List ℕ)) (octets : List ℕ) → EndsBy h i names octets (outcome command h names octets) (output_early (outcome command h names octets)) → EndsBy h i names octets (outcome command h names octets) (early command h names octets)
  ends_as h i names octets e = subst (EndsBy h i names octets (outcome command h names octets)) (sym (early_is command is h names octets)) e

  early_ran : InPart → (s : Status) (text : List ℕ) → ToldAs s text → is_words s ≡ false → is_output_fault s ≡ false → (s ≡ InputFault → Failed input) → is_whole s ≡ false → (s ≡ DiskFault → Failed S) → Calm command s input output report
      → ((octets : List ℕ) (h i : Holdings) (names : List (List ℕ)) → Seen command input.before octets → before ≡ Some h → AreNames h names → CanStop F (troubles command F h i names octets) s text) → Out
  early_ran part s text told words output_no input_fault whole disk calm can =
      told_of command (uses command is) S input output report result s text report.before report.faults_before report.faults_now told (λ r. r) words output_no input_fault disk (λ t. calm) leaves (never_whole (ReadsOut command input.before input.now) s whole)
      (λ octets h i names d e f an. ends_as h i names octets
      (stop_ends F (troubles command F h i names octets) output.before output.now report.before report.now (outcome command h names octets) s result text report.faults_before report.faults_now (part octets h names d e an) (can octets h i names d e an) (λ r. r) told))

  memory_ran : InPart → ToldAs NoMemory no_memory → Out
  memory_ran part told = early_ran part NoMemory no_memory told refl refl (λ e. absurd (apart is_input_fault NoMemory InputFault refl refl e)) refl (λ e. absurd (apart is_disk_fault NoMemory DiskFault refl refl e)) tt (λ octets h i names d e an. refl)

  disk_ran : InPart → ToldAs DiskFault disk_failed → Rose sm sn → Out
  disk_ran part told rose = early_ran part DiskFault disk_failed told refl refl (λ e. absurd (apart is_input_fault DiskFault InputFault refl refl e)) refl (λ e. rose) tt (λ octets h i names d e an. (uses command is, rose, refl))

  -- each dataset is opened
  abbrev pub OpensAll : Type 0
  OpensAll = WhereSeen command input.before before (λ octets h. (names : List (List ℕ)) (name : List ℕ) → Contains names name → Opens command h names octets name)

  broken_ran : InPart → OpensAll → (name : List ℕ) (broken : causes.Broken) → ((h : Holdings) (names : List (List ℕ)) → before ≡ Some h → AreNames h names → Contains names name × Stands name (folder_at h name) broken) → ToldAs Damaged (damaged_line name broken) → Out
  broken_ran part opens name broken says told = early_ran part Damaged (damaged_line name broken) told refl refl (λ e. absurd (apart is_input_fault Damaged InputFault refl refl e)) refl (λ e. absurd (apart is_disk_fault Damaged DiskFault refl refl e)) tt
      (λ octets h i names d e an. let s = says h names e an in (name, broken, seen_at command input.before before (λ octets h. (names : List (List ℕ)) (name : List ℕ) → Contains names name → Opens command h names octets name) opens octets h d e names name s.0, broken_there command is h i name broken s.1, refl))

  -- the store or a dataset ends the lines
  pub halted : {A : Type 0} (stop : Stop A) → ToldStop stop result report.before report.now report.faults_before report.faults_now → OfDataset stop → IfSome before (λ h. (names : List (List ℕ)) → AreNames h names → IsBrokenOf stop h names)
      → OnDisk stop (Rose sm sn) → InPart → OpensAll → Out
  halted (stops.Disk f) told of says disk part opens = disk_ran part told disk
  halted stops.Input told of says disk part opens = absurd of
  halted stops.Missing told of says disk part opens = absurd of
  halted (stops.Schema line kind) told of says disk part opens = absurd of
  halted (stops.Request at kind) told of says disk part opens = absurd of
  halted (stops.NoRule text) told of says disk part opens = absurd of
  halted (stops.NoLayer layer text) told of says disk part opens = absurd of
  halted stops.TooMany told of says disk part opens = absurd of
  halted {A = A} (stops.Broken dataset broken) told of says disk part opens = elim told as (λ _. Out) [
    | inl t ↦ broken_ran part opens (string_bytes dataset) (seen_broken broken)
        (λ h names e an. let b = subst (λ o. IfSome o (λ h. (names : List (List ℕ)) → AreNames h names → IsBrokenOf {F = A} (stops.Broken dataset broken) h names)) e says names an in (contains_among names (string_bytes dataset) b.0, b.1)) t
    | inr t ↦ memory_ran part t
  ]
  halted stops.NoMemory told of says disk part opens = memory_ran part told

  -- the output fails
  pub unwritten_ran : ToldAs OutputFault output_failed → Failed output → InPart → Out
  unwritten_ran told failed part =
      let so : result ≡ OutputFault = elim told.told as (λ _. result ≡ OutputFault) [ inl x ↦ x.status | inr x ↦ x.status ] in
      ran_of command (uses command is) S input output report result
      (λ octets h i names d e f an. ends_as h i names octets
      (unwritten_ends F (troubles command F h i names octets) output.before output.now report.before report.now (outcome command h names octets) result report.faults_before report.faults_now (part octets h names d e an) failed (λ r. r) told))
      (λ e. apart is_words OutputFault Words refl refl (sym so ∙ e)) (λ e. absurd (apart is_input_fault OutputFault InputFault refl refl (sym so ∙ e))) (λ e. inl failed) (λ e. absurd (apart is_disk_fault OutputFault DiskFault refl refl (sym so ∙ e)))
      (subst (λ y. Calm command y input output report) (sym so) tt) leaves
      (λ w. absurd (elim w as (λ _. ⊥) [ inl x ↦ apart is_whole OutputFault Done refl refl (sym so ∙ x) | inr x ↦ apart is_whole OutputFault Missed refl refl (sym so ∙ x) ]))

  -- all lines are written
  pub done_ran : result ≡ Done → report.now ≡ report.before → IsCalm input → IsCalm output → ReadsOut command input.before input.now
      → ((octets : List ℕ) (h : Holdings) (names : List (List ℕ)) → Seen command input.before octets → before ≡ Some h → AreNames h names → (o : Option (List ℕ)) × (outcome command h names octets ≡ option_map printed o) × IfSome o (λ text. Takes output.before output.now text)) → Out
  done_ran so quiet calm_in calm_out reads all =
      ran_of command (uses command is) S input output report result
      (λ octets h i names d e f an. let x = all octets h names d e an in
      subst (λ s. Ends F s (outcome command h names octets) (early command h names octets) (troubles command F h i names octets) output.before output.now report.before report.now) (sym so)
      (subst (λ o. Ends F Done o (early command h names octets) (troubles command F h i names octets) output.before output.now report.before report.now) (sym x.1) (told h i names octets x.0 x.2)))
      (λ e. apart is_words Done Words refl refl (sym so ∙ e)) (λ e. absurd (apart is_input_fault Done InputFault refl refl (sym so ∙ e))) (λ e. absurd (apart is_output_fault Done OutputFault refl refl (sym so ∙ e))) (λ e. absurd (apart is_disk_fault Done DiskFault refl refl (sym so ∙ e)))
      (subst (λ y. Calm command y input output report) (sym so) (calm_in, calm_out)) leaves (λ w. reads)
    where
      told : (h i : Holdings) (names : List (List ℕ)) (octets : List ℕ) (o : Option (List ℕ)) → IfSome o (λ text. Takes output.before output.now text) → Ends F Done (option_map printed o) (early command h names octets) (troubles command F h i names octets) output.before output.now report.before report.now
      told h i names octets None took = tt
      told h i names octets (Some text) took = record { status = refl; output = took; report = subst (λ r. Takes report.before r []) (sym quiet) (takes_nothing report.before) }

-- ---- the exits before the first dataset is opened

module _ (command : Command) (is : IsListing command) (before now : Option Holdings) (sm sn : ℕ) (input : Object (List ℕ)) (a : Option (List ℕ)) (k : ℕ) (report : Object (List ℕ)) (result : Status) (looks : WhereTold before now IsLookedThrough) where
  abbrev S0 : Object Holdings
  S0 = object before now sm sn

  abbrev O0 : Object (List ℕ)
  O0 = object a a k k

  abbrev pub Out0 : Type 0
  Out0 = Ran command result S0 input O0 report

  abbrev F0 : Failures
  F0 = failures S0 input O0 report

  abbrev ToldSo : Status → List ℕ → Type 0
  ToldSo s text = Told s text result report.before report.now report.faults_before report.faults_now

  nothing_yet : InPart command is before now sm sn input O0 report result looks
  nothing_yet octets h names d e an = go (outcome command h names octets)
    where
      go : (o : Option Outcome) → IfSome o (λ x. TakesFront a a x.output)
      go None = tt
      go (Some o) = nothing_of a o.output

  leaves0 : WhereTold before now (Leaves command result (¬ (Failed S0)) (Takes report.before report.now table_full) input.before input.now)
  leaves0 = leaves_by command is result (¬ (Failed S0)) (Takes report.before report.now table_full) input.before input.now before now looks

  abbrev EndsSo : Holdings → Holdings → List (List ℕ) → List ℕ → Option Outcome → Type 0
  EndsSo h i names octets o = Ends F0 result o (early command h names octets) (troubles command F0 h i names octets) a a report.before report.now

  -- the outcome is this refusal
  abbrev pub IsRefused : List ℕ → Holdings → Cause → Type 0
  IsRefused octets h cause = (names : List (List ℕ)) → outcome command h names octets ≡ Some (refused cause)

  told_ends : (octets : List ℕ) (h i : Holdings) (names : List (List ℕ)) (cause : Cause) → IsRefused octets h cause → ToldSo (telling cause).status (telling cause).line → EndsSo h i names octets (outcome command h names octets)
  told_ends octets h i names cause q told =
      subst (EndsSo h i names octets) (sym (q names))
      (ends_told F0 a a report.before report.before report.now (early command h names octets) (troubles command F0 h i names octets) (refused cause) result (telling cause).line [] report.faults_before report.faults_now (cause_told cause) refl (takes_nothing a) (takes_nothing report.before) (λ r. r) told)

  starved0 : ToldSo NoMemory no_memory → Out0
  starved0 told = memory_ran command is before now sm sn input O0 report result looks nothing_yet told

  memory_ends : (octets : List ℕ) (h i : Holdings) (names : List (List ℕ)) → Seen command input.before octets → before ≡ Some h → AreNames h names → ToldSo NoMemory no_memory → EndsSo h i names octets (outcome command h names octets)
  memory_ends octets h i names d e an told =
      subst (λ m. Ends F0 result (outcome command h names octets) m (troubles command F0 h i names octets) a a report.before report.now) (sym (early_is command is h names octets))
      (stop_ends F0 (troubles command F0 h i names octets) a a report.before report.now (outcome command h names octets) NoMemory result no_memory report.faults_before report.faults_now (nothing_yet octets h names d e an) refl (λ r. r) told)

  refused_ran : (cause : Cause) → ((octets : List ℕ) (h : Holdings) → Seen command input.before octets → before ≡ Some h → IsRefused octets h cause) → IsCalm input → ToldSo (telling cause).status (telling cause).line → Out0
  refused_ran cause says calm told =
      told_of command (uses command is) S0 input O0 report result (telling cause).status (telling cause).line report.before report.faults_before report.faults_now told (λ r. r)
      (by_cause (λ s. is_words s ≡ false) refl refl refl cause) (by_cause (λ s. is_output_fault s ≡ false) refl refl refl cause)
      (by_cause (λ s. s ≡ InputFault → Failed input) (λ e. absurd (apart is_input_fault Refused InputFault refl refl e)) (λ e. absurd (apart is_input_fault Damaged InputFault refl refl e)) (λ e. absurd (apart is_input_fault Limit InputFault refl refl e)) cause)
      (by_cause (λ s. s ≡ DiskFault → Failed S0) (λ e. absurd (apart is_disk_fault Refused DiskFault refl refl e)) (λ e. absurd (apart is_disk_fault Damaged DiskFault refl refl e)) (λ e. absurd (apart is_disk_fault Limit DiskFault refl refl e)) cause)
      (λ t. cause_calm command input O0 report (calm, refl) cause) leaves0 (cause_not_whole (ReadsOut command input.before input.now) cause)
      (λ octets h i names d e f an. told_ends octets h i names cause (says octets h d e) told)

  either_ran : (cause : Cause) → ((octets : List ℕ) (h : Holdings) → Seen command input.before octets → before ≡ Some h → IsRefused octets h cause) → IsCalm input
      → ToldOrNoMemory (telling cause).status (telling cause).line result report.before report.now report.faults_before report.faults_now → Out0
  either_ran cause says calm told = elim told as (λ _. Out0) [ inl t ↦ refused_ran cause says calm t | inr t ↦ starved0 t ]

  input_ran : ToldSo InputFault input_failed → Failed input → Out0
  input_ran told rose = early_ran command is before now sm sn input O0 report result looks nothing_yet InputFault input_failed told refl refl (λ e. rose) refl (λ e. absurd (apart is_disk_fault InputFault DiskFault refl refl e)) tt (λ octets h i names d e an. (rose, refl))

  abbrev SchemaSays : ℕ → SchemaKind → List ℕ → Holdings → Type 0
  SchemaSays line kind octets h = (text : List ℕ) × (fault : schemas.Fault) × IsFirst text line kind fault × IsRefused octets h (causes.InStored text fault)

  -- the stored schema is damaged, or passes a limit
  schema_ran : (line : ℕ) (kind : SchemaKind) → ToldSome result report.before report.now report.faults_before report.faults_now
      → ((text : List ℕ) (fault : schemas.Fault) → IsFirst text line kind fault → ToldOrNoMemory (telling (causes.InStored text fault)).status (telling (causes.InStored text fault)).line result report.before report.now report.faults_before report.faults_now)
      → ((octets : List ℕ) (h : Holdings) → Seen command input.before octets → before ≡ Some h → SchemaSays line kind octets h) → IsCalm input → Out0
  schema_ran line kind (s, text, which, told) told_if says calm =
      told_of command (uses command is) S0 input O0 report result s text report.before report.faults_before report.faults_now told (λ r. r)
      (chosen s which (λ s. is_words s ≡ false) refl refl refl) (chosen s which (λ s. is_output_fault s ≡ false) refl refl refl)
      (chosen s which (λ s. s ≡ InputFault → Failed input) (λ e. absurd (apart is_input_fault Damaged InputFault refl refl e)) (λ e. absurd (apart is_input_fault Limit InputFault refl refl e)) (λ e. absurd (apart is_input_fault NoMemory InputFault refl refl e)))
      (chosen s which (λ s. s ≡ DiskFault → Failed S0) (λ e. absurd (apart is_disk_fault Damaged DiskFault refl refl e)) (λ e. absurd (apart is_disk_fault Limit DiskFault refl refl e)) (λ e. absurd (apart is_disk_fault NoMemory DiskFault refl refl e)))
      (λ t. chosen s which (λ s. Calm command s input O0 report) tt (inl (calm, refl)) tt) leaves0
      (chosen s which (λ s. ((s ≡ Done) ⊎ (s ≡ Missed)) → ReadsOut command input.before input.now) (never_whole (ReadsOut command input.before input.now) Damaged refl) (never_whole (ReadsOut command input.before input.now) Limit refl) (never_whole (ReadsOut command input.before input.now) NoMemory refl))
      (λ octets h i names d e f an.
      let x = says octets h d e in
      elim (told_if x.0 x.1 x.2) as (λ _. EndsSo h i names octets (outcome command h names octets)) [ inl t ↦ told_ends octets h i names (causes.InStored x.0 x.1) x.3 t | inr t ↦ memory_ends octets h i names d e an t ])
    where
      chosen : (s : Status) → (s ≡ Damaged) ⊎ ((s ≡ Limit) ⊎ (s ≡ NoMemory)) → (P : Status → Type 0) → P Damaged → P Limit → P NoMemory → P s
      chosen s (inl e) P d l n = subst P (sym e) d
      chosen s (inr (inl e)) P d l n = subst P (sym e) l
      chosen s (inr (inr e)) P d l n = subst P (sym e) n

  -- why nothing is listed
  pub stopped : {A : Type 0} (stop : Stop A) → ToldStop stop result report.before report.now report.faults_before report.faults_now → IsEarly stop → ((octets : List ℕ) (h : Holdings) → Seen command input.before octets → before ≡ Some h → Refuses stop (IsRefused octets h))
      → OnInput stop (Failed input) → OnDisk stop (Rose sm sn) → OnRefusal stop (IsCalm input) → Out0
  stopped (stops.Disk f) told soon says rose disk calm = disk_ran command is before now sm sn input O0 report result looks nothing_yet told disk
  stopped stops.Input told soon says rose disk calm = input_ran told rose
  stopped stops.Missing told soon says rose disk calm = either_ran causes.SchemaMissing says calm told
  stopped (stops.Schema line kind) told soon says rose disk calm = schema_ran line kind told.0 told.1 says calm
  stopped (stops.Request at kind) told soon says rose disk calm = either_ran (causes.InRequest (record { at = at; kind = seen_kind kind })) says calm told
  stopped (stops.NoRule text) told soon says rose disk calm = absurd soon
  stopped (stops.NoLayer layer text) told soon says rose disk calm = absurd soon
  stopped stops.TooMany told soon says rose disk calm = absurd soon
  stopped (stops.Broken dataset broken) told soon says rose disk calm = absurd soon
  stopped stops.NoMemory told soon says rose disk calm = starved0 told

-- ---- what each command prints

lines_same : (l : Lines) (text : List ℕ → List (List Pair) → List ℕ) (h : Holdings) (names : List (List ℕ)) → ((name : List ℕ) → option_map (text name) (table_at h name) ≡ text_for l h name) → lines_of text h names ≡ texts_for l h names
lines_same l text h [] same = refl
lines_same l text h (n ∷ ns) same = ap (λ o. both o (lines_of text h ns)) (same n) ∙ ap (both (text_for l h n)) (lines_same l text h ns same)

stats_same : (h : Holdings) (names : List (List ℕ)) → stats_lines h names ≡ texts_for lines.Stats h names
stats_same h [] = refl
stats_same h (n ∷ ns) = ap (both (stats_of n (entries_in n (folder_at h n).table) (table_at h n))) (stats_same h ns)

pub list_prints : (root octets : List ℕ) (h : Holdings) (keywords : List Keyword) → asked_in h octets ≡ Ok keywords → (names : List (List ℕ)) → outcome (commands.List root) h names octets ≡ option_map printed (texts_for (lines.List keywords) h names)
list_prints root octets h keywords asked names = ap (printed_of list_text h names) asked ∙ ap (option_map printed) (lines_same (lines.List keywords) (list_text keywords) h names (λ n. refl))

pub axes_prints : (root octets : List ℕ) (h : Holdings) (keywords : List Keyword) → asked_in h octets ≡ Ok keywords → (names : List (List ℕ)) → outcome (commands.Axes root) h names octets ≡ option_map printed (texts_for (lines.Axes keywords) h names)
axes_prints root octets h keywords asked names = ap (printed_of axes_text h names) asked ∙ ap (option_map printed) (lines_same (lines.Axes keywords) (axes_text keywords) h names (λ n. refl))

pub stats_prints : (root octets : List ℕ) (h : Holdings) (rules : List Rule) → rules_of h.schema ≡ Ok rules → (names : List (List ℕ)) → outcome (commands.Stats root) h names octets ≡ option_map printed (texts_for lines.Stats h names)
stats_prints root octets h rules ruled names = ap (stats_printed h names) ruled ∙ ap (option_map printed) (stats_same h names)

-- ---- and opens

pub list_opens : (root octets : List ℕ) (h : Holdings) (keywords : List Keyword) → asked_in h octets ≡ Ok keywords → (names : List (List ℕ)) (name : List ℕ) → Contains names name → Opens (commands.List root) h names octets name
list_opens root octets h keywords asked names name there = (ap is_ok asked, there)

pub axes_opens : (root octets : List ℕ) (h : Holdings) (keywords : List Keyword) → asked_in h octets ≡ Ok keywords → (names : List (List ℕ)) (name : List ℕ) → Contains names name → Opens (commands.Axes root) h names octets name
axes_opens root octets h keywords asked names name there = (ap is_ok asked, there)

pub stats_opens : (root octets : List ℕ) (h : Holdings) (rules : List Rule) → rules_of h.schema ≡ Ok rules → (names : List (List ℕ)) (name : List ℕ) → Contains names name → Opens (commands.Stats root) h names octets name
stats_opens root octets h rules ruled names name there = (ap is_ok ruled, there)

-- ---- and of what is refused

pub list_refused : (root octets : List ℕ) (h : Holdings) (cause : Cause) → asked_in h octets ≡ Err cause → (names : List (List ℕ)) → outcome (commands.List root) h names octets ≡ Some (refused cause)
list_refused root octets h cause is names = ap (printed_of list_text h names) is

pub axes_refused : (root octets : List ℕ) (h : Holdings) (cause : Cause) → asked_in h octets ≡ Err cause → (names : List (List ℕ)) → outcome (commands.Axes root) h names octets ≡ Some (refused cause)
axes_refused root octets h cause is names = ap (printed_of axes_text h names) is

pub stats_refused : (root octets : List ℕ) (h : Holdings) (cause : Cause) → rules_of h.schema ≡ Err cause → (names : List (List ℕ)) → outcome (commands.Stats root) h names octets ≡ Some (refused cause)
stats_refused root octets h cause is names = ap (stats_printed h names) is

-- what holds of what both tell
pub both_at : (has : Option Holdings) (left : Option (List ℕ)) (P : List ℕ → Holdings → Type 0) → IfSome has (λ h. IfSome left (λ octets. P octets h)) → (octets : List ℕ) (h : Holdings) → left ≡ Some octets → has ≡ Some h → P octets h
both_at has left P w octets h d e = subst (λ i. IfSome i (λ octets. P octets h)) d (subst (λ b. IfSome b (λ h. IfSome left (λ octets. P octets h))) e w)

pub store_at : (has : Option Holdings) (P : Holdings → Type 0) → IfSome has P → (h : Holdings) → has ≡ Some h → P h
store_at has P w h e = subst (λ b. IfSome b P) e w

-- ---- of a store that was as it is when the lines begin

pub later_both : (m k n : ℕ) → m ≤ k → k ≤ n → m ≤ n
later_both m k n a b = omega (arith, a, b)

pub looks_since : (before first now : Option Holdings) → first ≡ before → WhereTold first now IsLookedThrough → WhereTold before now IsLookedThrough
looks_since before first now same looks = subst (λ o. WhereTold o now IsLookedThrough) same looks

pub told_since : (before first : Option Holdings) (P : Holdings → Type 0) → first ≡ before → IfSome first P → IfSome before P
told_since before first P same p = subst (λ o. IfSome o P) same p

module _ (command : Command) (before : Option Holdings) (input : Option (List ℕ)) (l : Lines) (first : Option Holdings) (a b : Option (List ℕ))
    (prints : WhereSeen command input before (λ octets h. (names : List (List ℕ)) → outcome command h names octets ≡ option_map printed (texts_for l h names))) (same : first ≡ before) where
  pub whole_lines : IfSome first (λ h. (names : List (List ℕ)) (text : List ℕ) → AreNames h names → texts_for l h names ≡ Some text → Takes a b text)
      → (octets : List ℕ) (h : Holdings) (names : List (List ℕ)) → Seen command input octets → before ≡ Some h → AreNames h names → (o : Option (List ℕ)) × (outcome command h names octets ≡ option_map printed o) × IfSome o (λ text. Takes a b text)
  whole_lines took octets h names d e an =
      (texts_for l h names, seen_at command input before (λ octets h. (names : List (List ℕ)) → outcome command h names octets ≡ option_map printed (texts_for l h names)) prints octets h d e names, go (texts_for l h names) refl)
    where
      at : (names : List (List ℕ)) (text : List ℕ) → AreNames h names → texts_for l h names ≡ Some text → Takes a b text
      at = store_at first (λ h. (names : List (List ℕ)) (text : List ℕ) → AreNames h names → texts_for l h names ≡ Some text → Takes a b text) took h (same ∙ e)

      go : (o : Option (List ℕ)) → texts_for l h names ≡ o → IfSome o (λ text. Takes a b text)
      go None q = tt
      go (Some text) q = at names text an q

  pub lines_part : IfSome first (λ h. (names : List (List ℕ)) (text : List ℕ) → AreNames h names → texts_for l h names ≡ Some text → TakesFront a b text)
      → (octets : List ℕ) (h : Holdings) (names : List (List ℕ)) → Seen command input octets → before ≡ Some h → AreNames h names → IfSome (outcome command h names octets) (λ x. TakesFront a b x.output)
  lines_part front octets h names d e an =
      subst (λ o. IfSome o (λ x. TakesFront a b x.output)) (sym (seen_at command input before (λ octets h. (names : List (List ℕ)) → outcome command h names octets ≡ option_map printed (texts_for l h names)) prints octets h d e names)) (go (texts_for l h names) refl)
    where
      at : (names : List (List ℕ)) (text : List ℕ) → AreNames h names → texts_for l h names ≡ Some text → TakesFront a b text
      at = store_at first (λ h. (names : List (List ℕ)) (text : List ℕ) → AreNames h names → texts_for l h names ≡ Some text → TakesFront a b text) front h (same ∙ e)

      go : (o : Option (List ℕ)) → texts_for l h names ≡ o → IfSome (option_map printed o) (λ x. TakesFront a b x.output)
      go None q = tt
      go (Some text) q = at names text an q

-- ---- where the input isn't read

pub never_input : {A : Type 0} (stop : Stop A) (P : Type 0) → OnInput stop ⊥ → OnInput stop P
never_input (stops.Disk f) P on = tt
never_input stops.Input P on = absurd on
never_input stops.Missing P on = tt
never_input (stops.Schema line kind) P on = tt
never_input (stops.Request at kind) P on = tt
never_input (stops.NoRule text) P on = tt
never_input (stops.NoLayer layer text) P on = tt
never_input stops.TooMany P on = tt
never_input (stops.Broken dataset broken) P on = tt
never_input stops.NoMemory P on = tt

pub calm_always : {A : Type 0} (stop : Stop A) (P : Type 0) → P → OnRefusal stop P
calm_always (stops.Disk f) P p = tt
calm_always stops.Input P p = tt
calm_always stops.Missing P p = p
calm_always (stops.Schema line kind) P p = p
calm_always (stops.Request at kind) P p = p
calm_always (stops.NoRule text) P p = p
calm_always (stops.NoLayer layer text) P p = p
calm_always stops.TooMany P p = p
calm_always (stops.Broken dataset broken) P p = p
calm_always stops.NoMemory P p = tt
