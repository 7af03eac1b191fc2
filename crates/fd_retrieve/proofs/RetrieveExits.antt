-- The exits of `retrieve`.
use Rattle.std.proofs.Common.{◌≡◌, ◌∙◌, ◌≤◌, ℕ, Bool, true, false, List, [], ◌∷◌, ◌++◌, length, take, Option, Some, None, refl, sym, ap, subst, inl, inr, append-nil}
use Rattle.std.specs.Prelude.{◌⊎◌, IfSome, option_map, nat_lt, if◌then◌else◌}
use Rattle.fd_bytes.specs.Causes.{Rose}
use Rattle.fd_io.specs.Streams.{Takes}
use Rattle.fd_disk.specs.Folders.{Holdings, WhereTold}
use Rattle.fd_key.specs.Pairs as keys
use Rattle.fd_words.specs.declared.command.Command.{Command}
use Rattle.fd_stored.specs.declared.status.Status.{Status}
use Rattle.fd_stored.specs.declared.status.Status.TheVariants.{Done, Missed, Words, Refused, InputFault, OutputFault, DiskFault, NoMemory, Damaged, Limit}
use Rattle.fd_outcome.specs.Asking.{Answer, count_found, count_missed, counts_line, found_bytes, miss_lines}
use Rattle.fd_outcome.specs.Ends.{Calm, Ends, IsBroken, Leaves, ReadsOut, Tells, Troubles, UsesStore, disk_failed, no_memory, output_failed, troubles}
use Rattle.fd_outcome.specs.Objects.{Failed, Failures, IsCalm, Object, failures, object}
use Rattle.fd_outcome.specs.Outcome.{answered, answered_early, early, nothing_early, outcome}
use Rattle.fd_outcome.specs.Ran.{Ran}
use Rattle.fd_stored.specs.Store.{IsLookedThrough, Stands}
use Rattle.fd_outcome.specs.Told.{Told, ToldOrNoMemory}
use Rattle.fd_outcome.proofs.Endings.{CanStop, CanTell, Reached, ends_early, ends_on_the_way, ends_told, ends_unwritten, nothing_of, takes_both}
use Rattle.fd_outcome.proofs.AnyCommand.{Seen, ran_of, told_of}
use Rattle.fd_outcome.proofs.Exits.{apart, is_disk_fault, is_input_fault, is_output_fault, is_whole, is_words, never_whole}
use Rattle.fd_answering.specs.Finding.{IsAnswered, IsAnsweredInPart, TookSome}
use Rattle.fd_retrieve.specs.Commands.{Begins, IsReadyFor, retrieving}
use Rattle.std.specs.Prelude.{slice_get}
use Rattle.fd_disk.specs.Folders.{folder_at}
use Rattle.fd_segment.specs.declared.fault.Damage.{Damage}
use Rattle.fd_stored.specs.Causes as causes
use Rattle.fd_stored.specs.Causes.{BadFile, damaged_line, table_full}
use Rattle.fd_answering.specs.Damages.{IsDamaged, IsDamagedAt}
use Rattle.fd_retrieve.specs.Open.{IsOpenIn, Open}
use Rattle.fd_retrieve.specs.Telling.{counts_status, counts_text}
use Rattle.fd_telling.proofs.StopLemmas.{rose_later}
use Rattle.fd_retrieve.proofs.DatasetLemmas.{all_at, among_named, damage_stands}

take_whole : {A : Type 0} (xs : List A) → take (length xs) xs ≡ xs
take_whole [] = refl
take_whole (x ∷ xs) = ap (λ l. x ∷ l) (take_whole xs)

module _ (f : Failures) (tr : Troubles) (a b c mid d : Option (List ℕ)) where
  -- where a dataset is damaged, nothing is said but the last line
  bare : (s : Status) (text : List ℕ) → CanStop f tr s text → TookSome c mid → Takes mid d text → Ends f s None nothing_early tr a b c d
  bare Done text can m t = absurd can
  bare Missed text can m t = absurd can
  bare Words text can m t = absurd can
  bare Refused text can m t = absurd can
  bare InputFault text can m t = subst (λ x. (before : List ℕ) × Takes c d (before ++ x)) can.1 (m.0, takes_both c mid d m.0 text m.1 t)
  bare OutputFault text can m t = inl (can.0, subst (λ x. (before : List ℕ) × Takes c d (before ++ x)) can.1 (m.0, takes_both c mid d m.0 text m.1 t))
  bare DiskFault text can m t = (text, can, (m.0, takes_both c mid d m.0 text m.1 t))
  bare NoMemory text can m t = subst (λ x. (before : List ℕ) × Takes c d (before ++ x)) can (m.0, takes_both c mid d m.0 text m.1 t)
  bare Damaged text can m t = inr (text, can, (m.0, takes_both c mid d m.0 text m.1 t))
  bare Limit text can m t = inr (text, can, (m.0, takes_both c mid d m.0 text m.1 t))

  reached : (xs : List Answer) (p : IsAnsweredInPart xs a b c mid) → Reached a b c mid (answered_early (Some xs)) p.report.0
  reached xs p = record { output = p.output; rest = p.report.1; is = p.report.2; report = p.report.3 }

  -- a run that stops on the way
  pub stop_ends : (o : Option (List Answer)) (s result : Status) (text : List ℕ) (m n : ℕ) → CanStop f tr s text → ((xs : List Answer) → o ≡ Some xs → IsAnsweredInPart xs a b c mid) → TookSome c mid → (Rose m n → f.report)
      → Told s text result mid d m n → Ends f result (option_map answered o) (answered_early o) tr a b c d
  stop_ends None s result text m n can part some reported told = elim told.told as (λ _. Ends f result None nothing_early tr a b c d) [
    | inl x ↦ subst (λ y. Ends f y None nothing_early tr a b c d) (sym x.status) (bare s text can some x.took)
    | inr x ↦ subst (λ y. Ends f y None nothing_early tr a b c d) (sym x.status) (inr (reported x.rose))
  ]
  stop_ends (Some xs) s result text m n can part some reported told =
      let p = part xs refl in
      ends_early f a b c mid d (answered_early (Some xs)) tr (Some (answered xs)) s result text p.report.0 m n ([], sym (append-nil (found_bytes xs))) can (reached xs p) reported told

  -- a run whose output fails
  pub unwritten_ends : (o : Option (List Answer)) (result : Status) (m n : ℕ) → f.output → ((xs : List Answer) → o ≡ Some xs → IsAnsweredInPart xs a b c mid) → TookSome c mid → (Rose m n → f.report)
      → Told OutputFault output_failed result mid d m n → Ends f result (option_map answered o) (answered_early o) tr a b c d
  unwritten_ends None result m n failed part some reported told = elim told.told as (λ _. Ends f result None nothing_early tr a b c d) [
    | inl x ↦ subst (λ y. Ends f y None nothing_early tr a b c d) (sym x.status) (inl (failed, (some.0, takes_both c mid d some.0 output_failed some.1 x.took)))
    | inr x ↦ subst (λ y. Ends f y None nothing_early tr a b c d) (sym x.status) (inr (reported x.rose))
  ]
  unwritten_ends (Some xs) result m n failed part some reported told =
      let p = part xs refl in
      ends_unwritten f a b c mid d (answered_early (Some xs)) tr (Some (answered xs)) result p.report.0 m n p.output failed (record { rest = p.report.1; is = p.report.2; report = p.report.3 }) reported told

  -- a run that tells how many were found and missed
  pub count_ends : (o : Option (List Answer)) (result : Status) (found missed m n : ℕ) → ((xs : List Answer) → o ≡ Some xs → IsAnswered xs (length xs) a b c mid found missed) → (Rose m n → f.report)
      → Told (counts_status missed) (counts_text found missed) result mid d m n → Ends f result (option_map answered o) (answered_early o) tr a b c d
  count_ends None result found missed m n whole reported told = elim told.told as (λ _. Ends f result None nothing_early tr a b c d) [
    | inl x ↦ subst (λ y. Ends f y None nothing_early tr a b c d) (sym x.status) (by (nat_lt 0 missed))
    | inr x ↦ subst (λ y. Ends f y None nothing_early tr a b c d) (sym x.status) (inr (reported x.rose))
  ]
    where
      by : (t : Bool) → Ends f (if t then Missed else Done) None nothing_early tr a b c d
      by true = tt
      by false = tt
  count_ends (Some xs) result found missed m n whole reported told =
      let w = whole xs refl in
      let all = take_whole xs in
      let fs : found ≡ count_found xs = w.found_is ∙ ap count_found all in
      let ms : missed ≡ count_missed xs = w.missed_is ∙ ap count_missed all in
      let same : counts_text found missed ≡ counts_line xs = ap (λ k. counts_text k missed) fs ∙ ap (λ k. counts_text (count_found xs) k) ms in
      let so : Told (counts_status (count_missed xs)) (counts_text found missed) result mid d m n = subst (λ k. Told (counts_status k) (counts_text found missed) result mid d m n) ms told in
      ends_told f a b c mid d (answered_early (Some xs)) tr (answered xs) result (counts_text found missed) (miss_lines xs) m n (by (nat_lt 0 (count_missed xs))) (ap (λ t. miss_lines xs ++ t) (sym same))
      (subst (λ l. Takes a b (found_bytes l)) all w.output) (subst (λ l. Takes c mid (miss_lines l)) all w.report) reported so
    where
      by : (t : Bool) → CanTell (if t then Missed else Done)
      by true = tt
      by false = tt

-- a run whose report fails at the line of a miss
pub untold_ends : (f : Failures) (tr : Troubles) (a b c d : Option (List ℕ)) (o : Option (List Answer)) → f.report → ((xs : List Answer) → o ≡ Some xs → IsAnsweredInPart xs a b c d) → Ends f OutputFault (option_map answered o) (answered_early o) tr a b c d
untold_ends f tr a b c d None failed part = inr failed
untold_ends f tr a b c d (Some xs) failed part = let p = part xs refl in ends_on_the_way f a b c d (answered_early (Some xs)) tr (Some (answered xs)) failed p.output p.report

-- ---- a command that answers a request

module _ (root : List ℕ) (over : Option (List (List keys.Pair))) (workers : ℕ) where
  abbrev Cmd : Command
  Cmd = retrieving root over workers

  pub uses : UsesStore Cmd
  uses = go over
    where
      go : (o : Option (List (List keys.Pair))) → UsesStore (retrieving root o workers)
      go None = tt
      go (Some layers) = tt

  seen : (input : Option (List ℕ)) (octets : List ℕ) → Seen Cmd input octets → input ≡ Some octets
  seen input octets = go over
    where
      go : (o : Option (List (List keys.Pair))) → Seen (retrieving root o workers) input octets → input ≡ Some octets
      go None e = e
      go (Some layers) e = e

  reads : (before after : Option (List ℕ)) → IfSome before (λ octets. after ≡ Some []) → ReadsOut Cmd before after
  reads before after = go over
    where
      go : (o : Option (List (List keys.Pair))) → IfSome before (λ octets. after ≡ Some []) → ReadsOut (retrieving root o workers) before after
      go None e = e
      go (Some layers) e = e

  pub broken_is : (h i : Holdings) (name : List ℕ) (broken : causes.Broken) → Stands name (folder_at h name) broken → IsBroken Cmd h i name broken
  broken_is h i name broken = go over
    where
      go : (o : Option (List (List keys.Pair))) → Stands name (folder_at h name) broken → IsBroken (retrieving root o workers) h i name broken
      go None e = e
      go (Some layers) e = e

  leaves : (s : Status) (calm full : Type 0) (input left : Option (List ℕ)) (before now : Option Holdings) → WhereTold before now IsLookedThrough → WhereTold before now (Leaves Cmd s calm full input left)
  leaves s calm full input left before now = go over
    where
      go : (o : Option (List (List keys.Pair))) → WhereTold before now IsLookedThrough → WhereTold before now (Leaves (retrieving root o workers) s calm full input left)
      go None e = e
      go (Some layers) e = e

  module _ (store : Object Holdings) (input output report : Object (List ℕ)) (result : Status) (looks : WhereTold store.before store.now IsLookedThrough) where
    abbrev pub Fs : Failures
    Fs = failures store input output report

    -- how it ends, wherever the input and the store tell
    abbrev pub EndsSo : Type 0
    EndsSo = (octets : List ℕ) (h i : Holdings) (names : List (List ℕ)) → input.before ≡ Some octets → store.before ≡ Some h
        → Ends Fs result (outcome Cmd h names octets) (early Cmd h names octets) (troubles Cmd Fs h i names octets) output.before output.now report.before report.now

    pub ran_by : EndsSo → ¬ (result ≡ Words) → (result ≡ InputFault → Failed input) → (result ≡ OutputFault → Failed output ⊎ Failed report) → (result ≡ DiskFault → Failed store)
        → Calm Cmd result input output report → (((result ≡ Done) ⊎ (result ≡ Missed)) → IfSome input.before (λ octets. input.now ≡ Some [])) → Ran Cmd result store input output report
    ran_by ends words input_fault output_fault disk_fault calm read =
        ran_of Cmd uses store input output report result (λ octets h i names d e f an. ends octets h i names (seen input.before octets d) e) words input_fault output_fault disk_fault calm
        (leaves result (¬ (Failed store)) (Takes report.before report.now table_full) input.before input.now store.before store.now looks) (λ w. reads input.before input.now (read w))

    -- it tells such a status with its line
    pub told_by : (s : Status) (text : List ℕ) (mid : Option (List ℕ)) (m n : ℕ) (told : Told s text result mid report.now m n) (reported : Rose m n → Failed report) (words : is_words s ≡ false) (output_no : is_output_fault s ≡ false)
        (input_fault : s ≡ InputFault → Failed input) (disk : s ≡ DiskFault → Failed store) (calm : Calm Cmd s input output report) (read : ((s ≡ Done) ⊎ (s ≡ Missed)) → IfSome input.before (λ octets. input.now ≡ Some [])) → EndsSo → Ran Cmd result store input output report
    told_by s text mid m n told reported words output_no input_fault disk calm read ends =
        told_of Cmd uses store input output report result s text mid m n told reported words output_no input_fault disk (λ t. calm)
        (leaves result (¬ (Failed store)) (Takes report.before report.now table_full) input.before input.now store.before store.now looks) (λ w. reads input.before input.now (read w))
        (λ octets h i names d e f an. ends octets h i names (seen input.before octets d) e)

whole_part : (xs : List Answer) (a b c d : Option (List ℕ)) (found missed : ℕ) → IsAnswered xs (length xs) a b c d found missed → IsAnsweredInPart xs a b c d
whole_part xs a b c d found missed w =
    let all = take_whole xs in
    record {
      output = (found_bytes xs, [], sym (append-nil (found_bytes xs)), subst (λ l. Takes a b (found_bytes l)) all w.output);
      report = (miss_lines xs, [], sym (append-nil (miss_lines xs)), subst (λ l. Takes c d (miss_lines l)) all w.report);
    }

-- ---- what is told whole

-- a line of another status than 0 and 1
pub told_not_whole : (s result : Status) (text : List ℕ) (c d : Option (List ℕ)) (m n : ℕ) → is_whole s ≡ false → Told s text result c d m n → is_whole result ≡ false
told_not_whole s result text c d m n other told = elim told.told as (λ _. is_whole result ≡ false) [ inl x ↦ ap is_whole x.status ∙ other | inr x ↦ ap is_whole x.status ]

pub either_not_whole : (s result : Status) (text : List ℕ) (c d : Option (List ℕ)) (m n : ℕ) → is_whole s ≡ false → ToldOrNoMemory s text result c d m n → is_whole result ≡ false
either_not_whole s result text c d m n other told = elim told as (λ _. is_whole result ≡ false) [ inl t ↦ told_not_whole s result text c d m n other t | inr t ↦ told_not_whole NoMemory result no_memory c d m n refl t ]

-- the counts behind what was found and missed
pub counted_tells : (xs : List Answer) (a b c mid d : Option (List ℕ)) (result : Status) (found missed m n : ℕ) → IsAnswered xs (length xs) a b c mid found missed → ToldOrNoMemory (counts_status missed) (counts_text found missed) result mid d m n
    → (result ≡ Done) ⊎ (result ≡ Missed) → Tells result (answered xs) a b c d
counted_tells xs a b c mid d result found missed m n w told whole = elim told as (λ _. Tells result (answered xs) a b c d) [
  | inl t ↦ elim t.told as (λ _. Tells result (answered xs) a b c d) [
    | inl x ↦ record {
      status = x.status ∙ ap counts_status ms;
      output = subst (λ l. Takes a b (found_bytes l)) all w.output;
      report = subst (Takes c d) (ap (λ t. miss_lines xs ++ t) same) (takes_both c mid d (miss_lines xs) (counts_text found missed) (subst (λ l. Takes c mid (miss_lines l)) all w.report) x.took);
    }
    | inr x ↦ never_whole (Tells result (answered xs) a b c d) result (ap is_whole x.status) whole
  ]
  | inr t ↦ never_whole (Tells result (answered xs) a b c d) result (told_not_whole NoMemory result no_memory mid d m n refl t) whole
]
  where
    all : take (length xs) xs ≡ xs
    all = take_whole xs

    ms : missed ≡ count_missed xs
    ms = w.missed_is ∙ ap count_missed all

    same : counts_text found missed ≡ counts_line xs
    same = ap (λ k. counts_text k missed) (w.found_is ∙ ap count_found all) ∙ ap (λ k. counts_text (count_found xs) k) ms

-- ---- the exits of a request that stands ready

module _ (root : List ℕ) (over : Option (List (List keys.Pair))) (workers : ℕ) (before first now : Option Holdings) (sm sk sn : ℕ) (input output report : Object (List ℕ)) (os : List Open) (o : Option (List Answer))
    (begins : Begins (retrieving root over workers) before first sm sk input os o) (same : now ≡ first) (mid : Option (List ℕ)) (k : ℕ) (result : Status) (sooner : report.faults_before ≤ k) where
  abbrev One : Command
  One = retrieving root over workers

  abbrev pub Part : Type 0
  Part = (xs : List Answer) → o ≡ Some xs → IsAnsweredInPart xs output.before output.now report.before mid

  abbrev Store_ : Object Holdings
  Store_ = object before now sm sn

  abbrev pub Out : Type 0
  Out = Ran One result Store_ input output report

  ready_at : (octets : List ℕ) (h : Holdings) → input.before ≡ Some octets → before ≡ Some h → IsReadyFor One h octets os o
  ready_at octets h e f = subst (λ i. IfSome i (λ octets. IsReadyFor One h octets os o)) e (subst (λ b. IfSome b (λ h. IfSome input.before (λ octets. IsReadyFor One h octets os o))) f begins.ready)

  abbrev Fs_ : Failures
  Fs_ = failures Store_ input output report

  ends_at : (octets : List ℕ) (h i : Holdings) (names : List (List ℕ)) → IsReadyFor One h octets os o → Ends Fs_ result (option_map answered o) (answered_early o) (troubles One Fs_ h i names octets) output.before output.now report.before report.now
      → Ends Fs_ result (outcome One h names octets) (early One h names octets) (troubles One Fs_ h i names octets) output.before output.now report.before report.now
  ends_at octets h i names ready e =
      subst (λ x. Ends Fs_ result x (early One h names octets) (troubles One Fs_ h i names octets) output.before output.now report.before report.now) (sym (ready.outcome_is names))
      (subst (λ x. Ends Fs_ result (option_map answered o) x (troubles One Fs_ h i names octets) output.before output.now report.before report.now) (sym (ready.early_is names)) e)

  looks_now : WhereTold before now IsLookedThrough
  looks_now = subst (λ o. WhereTold before o IsLookedThrough) (sym same) begins.looks

  abbrev pub CanHalt : Status → List ℕ → Type 0
  CanHalt s text = (octets : List ℕ) (h i : Holdings) (names : List (List ℕ)) → input.before ≡ Some octets → before ≡ Some h → CanStop Fs_ (troubles One Fs_ h i names octets) s text

  -- it stops on the way
  pub halt_ran : (s : Status) (text : List ℕ) → Told s text result mid report.now k report.faults_now → is_words s ≡ false → is_output_fault s ≡ false → is_input_fault s ≡ false → is_whole s ≡ false → (s ≡ DiskFault → Failed Store_) → Calm One s input output report
      → CanHalt s text → Part → TookSome report.before mid → Out
  halt_ran s text told words output_no input_no whole disk calm can part some =
      told_by root over workers Store_ input output report result looks_now s text mid k report.faults_now told (rose_later report.faults_before k report.faults_now sooner) words output_no (λ e. absurd (apart is_input_fault s InputFault input_no refl e)) disk calm (λ w. begins.read)
      (λ octets h i names e f. ends_at octets h i names (ready_at octets h e f)
      (stop_ends Fs_ (troubles One Fs_ h i names octets) output.before output.now report.before mid report.now o s result text k report.faults_now
      (can octets h i names e f) part some (rose_later report.faults_before k report.faults_now sooner) told))

  -- memory runs out
  pub starved_ran : Told NoMemory no_memory result mid report.now k report.faults_now → Part → TookSome report.before mid → Out
  starved_ran told part some = halt_ran NoMemory no_memory told refl refl refl refl (λ e. absurd (apart is_disk_fault NoMemory DiskFault refl refl e)) tt (λ octets h i names e f. refl) part some

  -- a call of the store fails
  pub disk_ran : Told DiskFault disk_failed result mid report.now k report.faults_now → Rose sm sn → Part → TookSome report.before mid → Out
  disk_ran told rose part some = halt_ran DiskFault disk_failed told refl refl refl refl (λ e. rose) tt (λ octets h i names e f. (uses root over workers, rose, refl)) part some

  -- the output fails
  pub unwritten_ran : Told OutputFault output_failed result mid report.now k report.faults_now → Failed output → Part → TookSome report.before mid → Out
  unwritten_ran told failed part some =
      let is : result ≡ OutputFault = elim told.told as (λ _. result ≡ OutputFault) [ inl x ↦ x.status | inr x ↦ x.status ] in
      ran_by root over workers Store_ input output report result looks_now
      (λ octets h i names e f. ends_at octets h i names (ready_at octets h e f)
      (unwritten_ends Fs_ (troubles One Fs_ h i names octets) output.before output.now report.before mid report.now o result k report.faults_now
      failed part some (rose_later report.faults_before k report.faults_now sooner) told))
      (λ e. apart is_words OutputFault Words refl refl (sym is ∙ e)) (λ e. absurd (apart is_input_fault OutputFault InputFault refl refl (sym is ∙ e))) (λ e. inl failed) (λ e. absurd (apart is_disk_fault OutputFault DiskFault refl refl (sym is ∙ e)))
      (subst (λ y. Calm One y input output report) (sym is) tt) (λ w. begins.read)

  -- it tells how many were found and missed
  pub counted_ran : (found missed : ℕ) → ToldOrNoMemory (counts_status missed) (counts_text found missed) result mid report.now k report.faults_now → IsCalm output
      → ((xs : List Answer) → o ≡ Some xs → IsAnswered xs (length xs) output.before output.now report.before mid found missed) → TookSome report.before mid → Out
  counted_ran found missed told calm whole some = elim told as (λ _. Out) [
    | inl t ↦
        told_by root over workers Store_ input output report result looks_now (counts_status missed) (counts_text found missed) mid k report.faults_now t (rose_later report.faults_before k report.faults_now sooner)
        (either (λ s. is_words s ≡ false) refl refl (nat_lt 0 missed)) (either (λ s. is_output_fault s ≡ false) refl refl (nat_lt 0 missed)) (either (λ s. s ≡ InputFault → Failed input) (λ e. absurd (apart is_input_fault Missed InputFault refl refl e)) (λ e. absurd (apart is_input_fault Done InputFault refl refl e)) (nat_lt 0 missed))
        (either (λ s. s ≡ DiskFault → Failed Store_) (λ e. absurd (apart is_disk_fault Missed DiskFault refl refl e)) (λ e. absurd (apart is_disk_fault Done DiskFault refl refl e)) (nat_lt 0 missed))
        (either (λ s. Calm One s input output report) (begins.calm, calm) (begins.calm, calm) (nat_lt 0 missed)) (λ w. begins.read)
        (λ octets h i names e f. ends_at octets h i names (ready_at octets h e f)
        (count_ends Fs_ (troubles One Fs_ h i names octets) output.before output.now report.before mid report.now o result found missed k report.faults_now
        whole (rose_later report.faults_before k report.faults_now sooner) t))
    | inr t ↦ starved_ran t (λ xs e. whole_part xs output.before output.now report.before mid found missed (whole xs e)) some
  ]
    where
      either : (P : Status → Type 0) → P Missed → P Done → (t : Bool) → P (if t then Missed else Done)
      either P p q true = p
      either P p q false = q

  -- the report fails at the line of a miss
  pub untold_ran : result ≡ OutputFault → mid ≡ report.now → Rose report.faults_before report.faults_now → Part → Out
  untold_ran is end rose part = ran_by root over workers Store_ input output report result looks_now
      (λ octets h i names e f. ends_at octets h i names (ready_at octets h e f)
      (subst (λ y. Ends Fs_ y (option_map answered o) (answered_early o) (troubles One Fs_ h i names octets) output.before output.now report.before report.now) (sym is)
      (untold_ends Fs_ (troubles One Fs_ h i names octets) output.before output.now report.before report.now o rose
      (λ xs q. subst (λ d. IsAnsweredInPart xs output.before output.now report.before d) end (part xs q)))))
      (λ e. apart is_words OutputFault Words refl refl (sym is ∙ e)) (λ e. absurd (apart is_input_fault OutputFault InputFault refl refl (sym is ∙ e))) (λ e. inr rose) (λ e. absurd (apart is_disk_fault OutputFault DiskFault refl refl (sym is ∙ e)))
      (subst (λ y. Calm One y input output report) (sym is) tt) (λ w. begins.read)

  -- ---- a damage is told

  pub damaged_ran : (number : ℕ) (one : Open) (d : Damage) → slice_get os number ≡ Some one → IsDamagedAt os number d
      → ToldOrNoMemory Damaged (damaged_line one.name (BadFile d)) result mid report.now k report.faults_now → Part → TookSome report.before mid → Out
  damaged_ran number one d at bad told part some = elim told as (λ _. Out) [
    | inl t ↦ stands t
    | inr t ↦ starved_ran t part some
  ]
    where
      same_one : bad.dataset ≡ one
      same_one = cc (bad.at, at)

      stands : Told Damaged (damaged_line one.name (BadFile d)) result mid report.now k report.faults_now → Out
      stands t =
          halt_ran Damaged (damaged_line one.name (BadFile d)) t refl refl refl refl (λ e. absurd (apart is_disk_fault Damaged DiskFault refl refl e)) tt
          (λ octets h i names e f.
          let r = ready_at octets h e f in
          let open_ = all_at (IsOpenIn h) os number one r.each at in (
            one.name,
            BadFile d,
            r.opens names one.name (among_named os number one at),
            broken_is root over workers h i one.name (BadFile d) (damage_stands (folder_at h one.name) one bad.key d open_.listed (subst (λ (x : Open). IsDamaged x.shown bad.key d) same_one bad.stands)),
            refl,
          ))
          part some

-- nothing was written and told yet
pub part_none : (xs : List Answer) (a c : Option (List ℕ)) → IsAnsweredInPart xs a a c c
part_none xs a c = record { output = nothing_of a (found_bytes xs); report = nothing_of c (miss_lines xs) }
