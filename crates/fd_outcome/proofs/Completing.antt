-- Where no object failed, a run ends as its outcome says.
use Rattle.std.proofs.Common.{◌≡◌, ◌∙◌, ℕ, true≢false, List, Option, Some, None, refl, sym, ap, subst, inl, inr, []}
use Rattle.std.specs.Prelude.{◌⊎◌, IfSome, is_some, MatchOption}
use Rattle.fd_disk.specs.Folders.{Holdings, WhereTold, folder_at}
use Rattle.fd_words.specs.declared.command.Command.{Command}
use Rattle.fd_words.specs.declared.command.Command.TheVariants as commands
use Rattle.fd_io.specs.Streams.{Takes, TakesFront}
use Rattle.fd_stored.specs.declared.status.Status.{Status}
use Rattle.fd_stored.specs.declared.status.Status.TheVariants.{Done, Missed, Words, Refused, InputFault, OutputFault, DiskFault, NoMemory, Damaged, Limit}
use Rattle.fd_outcome.specs.Told.{Told}
use Rattle.fd_outcome.specs.Outcome.{Outcome, outcome, early}
use Rattle.fd_outcome.specs.Objects.{Object, Failed, Failures, failures, object}
use Rattle.fd_outcome.specs.Ends.{Runs, Ends, EndsUnasked, Calm, Completes, AreSound, IsBroken, StoresFields, TellsSome, Leaves, troubles, usage, no_memory}
use Rattle.fd_stored.specs.Causes.{Broken, table_full}
use Rattle.fd_stored.specs.Store.{table_at}
use Rattle.fd_outcome.specs.Ran.{Ran}
use Rattle.fd_outcome.proofs.Asked.{where_asked}
use Rattle.fd_outcome.proofs.Damaging.{damaged_held}
use Rattle.fd_outcome.proofs.Endings.{takes_nothing}
use Rattle.fd_outcome.proofs.Leaving.{idle_store}
use Rattle.fd_outcome.proofs.Starved.{is_idle, starved}

-- a dataset in which something is broken isn't told
broken_held : (command : Command) (h i : Holdings) (name : List ℕ) (broken : Broken) → IsBroken command h i name broken → table_at h name ≡ None
broken_held (commands.Pick wanted) h i name broken x = damaged_held name (folder_at h name) broken x
broken_held commands.Describe h i name broken x = damaged_held name (folder_at h name) broken x
broken_held commands.Split h i name broken x = damaged_held name (folder_at h name) broken x
broken_held (commands.Values decimals) h i name broken x = damaged_held name (folder_at h name) broken x
broken_held (commands.Generate count) h i name broken x = damaged_held name (folder_at h name) broken x
broken_held (commands.Create root) h i name broken x = damaged_held name (folder_at h name) broken x
broken_held (commands.Archive root given workers) h i name broken x = damaged_held name (folder_at h name) broken x
broken_held (commands.Retrieve root workers) h i name broken x = damaged_held name (folder_at h name) broken x
broken_held (commands.RetrieveOver root layers workers) h i name broken x = damaged_held name (folder_at h name) broken x
broken_held (commands.List root) h i name broken x = damaged_held name (folder_at h name) broken x
broken_held (commands.Axes root) h i name broken x = damaged_held name (folder_at h name) broken x
broken_held (commands.Stats root) h i name broken x = damaged_held name (folder_at h name) broken x
broken_held (commands.Cubes root) h i name broken x = damaged_held name (folder_at h name) broken x
broken_held (commands.Session root) h i name broken x = damaged_held name (folder_at h name) broken x
broken_held (commands.Purge root dataset) h i name broken x = damaged_held name (folder_at h name) broken x
broken_held (commands.Wipe root dataset) h i name broken x = damaged_held name (folder_at h name) broken x
broken_held (commands.Trial root count workers) h i name broken (inl x) = damaged_held name (folder_at h name) broken x
broken_held (commands.Trial root count workers) h i name broken (inr x) = x.0

module _ (failed : Failures) (command : Command) (h i : Holdings) (names : List (List ℕ)) (octets : List ℕ) (a b c d : Option (List ℕ)) (sound : AreSound command h names octets) (x : Outcome) (is : outcome command h names octets ≡ Some x) where
  abbrev Comes : Status → Type 0
  Comes s = (s ≡ x.status) ⊎ ((s ≡ NoMemory) ⊎ (StoresFields command × (s ≡ Limit)))

  of_tells : (s : Status) → TellsSome s (Some x) a b c d → Comes s
  of_tells s t = inl t.status

  come : (s : Status) → Ends failed s (Some x) (early command h names octets) (troubles command failed h i names octets) a b c d → ¬ (s ≡ InputFault) → ¬ (s ≡ OutputFault) → ¬ (s ≡ DiskFault) → Comes s
  come Done e x1 x2 x3 = inl e.status
  come Missed e x1 x2 x3 = inl e.status
  come Words e x1 x2 x3 = absurd e
  come Refused e x1 x2 x3 = inl e.status
  come InputFault e x1 x2 x3 = absurd (x1 refl)
  come OutputFault e x1 x2 x3 = absurd (x2 refl)
  come DiskFault e x1 x2 x3 = absurd (x3 refl)
  come NoMemory e x1 x2 x3 = inr (inl refl)
  come Damaged (inl e) x1 x2 x3 = inl e.status
  come Damaged (inr (text, (name, broken, opens, stands, line_is), rest)) x1 x2 x3 =
      absurd (true≢false (sym (sound name opens) ∙ ap is_some (broken_held command h i name broken stands)))
  come Limit (inl e) x1 x2 x3 = inl e.status
  come Limit (inr (text, (stores, line_is, full), rest)) x1 x2 x3 = inr (inr (stores, refl))

pub completes : (command : Command) (s : Status) (store : Object Holdings) (input output report : Object (List ℕ)) → Ran command s store input output report
    → ¬ (Failed input) → ¬ (Failed output) → ¬ (Failed report) → ¬ (Failed store) → Completes command s input.before store.before store.now
completes command s store input output report ran ni nk nr ns =
    let f = failures store input output report in
    where_asked _ _ (λ octets h i ends names an sound x is. come f command h i names octets output.before output.now report.before report.now sound x is s
    (subst (λ y. Ends f s y (early command h names octets) (troubles command f h i names octets) output.before output.now report.before report.now) is (ends names an))
    (λ e. ni (ran.input_fault e)) (λ e. elim (ran.output_fault e) as (λ _. ⊥) [ inl f ↦ nk f | inr f ↦ nr f ]) (λ e. ns (ran.disk_fault e)))
    command input.before store.before store.now ran.ends

-- ---- where the words are no command, or memory runs out over them

pub unasked : (s : Status) (text : List ℕ) (result : Status) (a : Option (List ℕ)) (km km' : ℕ) (c d : Option (List ℕ)) (m n : ℕ) → ((s ≡ Words) × (text ≡ usage)) ⊎ ((s ≡ NoMemory) × (text ≡ no_memory)) → Told s text result c d m n → EndsUnasked result (object a a km km') (object c d m n)
unasked s text result a km km' c d m n (inl (is, text_is)) told = elim told.told as (λ _. EndsUnasked result (object a a km km') (object c d m n)) [
  | inl w ↦ rw (w.status, is) (record { output = ([], [], refl, takes_nothing a); report = ([], [], refl, subst (Takes c d) text_is w.took) })
  | inr w ↦ rw w.status (w.rose, ([], [], refl, takes_nothing a), inl (subst (TakesFront c d) text_is w.took))
]
unasked s text result a km km' c d m n (inr (is, text_is)) told = elim told.told as (λ _. EndsUnasked result (object a a km km') (object c d m n)) [
  | inl w ↦ rw (w.status, is) (record { output = ([], [], refl, takes_nothing a); report = ([], [], refl, subst (Takes c d) text_is w.took) })
  | inr w ↦ rw w.status (w.rose, ([], [], refl, takes_nothing a), inr (subst (TakesFront c d) text_is w.took))
]

module _ (result : Status) (has : Option Holdings) (sm sn : ℕ) (input : Option (List ℕ)) (im im' : ℕ) (a : Option (List ℕ)) (km km' : ℕ) (c d : Option (List ℕ)) (m n : ℕ) (told : Told NoMemory no_memory result c d m n) where
  ran : (command : Command) → Ran command result (object has has sm sn) (object input input im im') (object a a km km') (object c d m n)
  ran command = starved command result has sm sn input input im im' a km km' c d m n told

  pub starved_ends : (o : Option Command) → MatchOption o (EndsUnasked result (object a a km km') (object c d m n)) (λ command. Runs command result (object has has sm sn) (object input input im im') (object a a km km') (object c d m n))
  starved_ends None = unasked NoMemory no_memory result a km km' c d m n (inr (refl, refl)) told
  starved_ends (Some command) = (ran command).ends

  pub starved_store : (o : Option Command) → WhereTold has has (λ h i. MatchOption o (i ≡ h) (λ command. Leaves command result (¬ (Failed (object has has sm sn))) (Takes c d table_full) input input h i))
  starved_store o = go has o
    where
      idle_leaves : (command : Command) (h : Holdings) → Leaves command result (¬ (Failed (object has has sm sn))) (Takes c d table_full) input input h h
      idle_leaves command h = idle_store command result (is_idle result c d m n told) (¬ (Failed (object has has sm sn))) (Takes c d table_full) input input (Some h)

      go : (k : Option Holdings) (o : Option Command) → WhereTold k k (λ h i. MatchOption o (i ≡ h) (λ command. Leaves command result (¬ (Failed (object has has sm sn))) (Takes c d table_full) input input h i))
      go None o = tt
      go (Some h) None = refl
      go (Some h) (Some command) = idle_leaves command h

  pub starved_calm : (o : Option Command) → IfSome o (λ command. Calm command result (object input input im im') (object a a km km') (object c d m n))
  starved_calm None = tt
  starved_calm (Some command) = (ran command).calm

  pub starved_complete : (o : Option Command) → ¬ (Failed (object input input im im')) → ¬ (Failed (object a a km km')) → ¬ (Failed (object c d m n)) → ¬ (Failed (object has has sm sn)) → IfSome o (λ command. Completes command result input has has)
  starved_complete None ni nk nr ns = tt
  starved_complete (Some command) ni nk nr ns = completes command result (object has has sm sn) (object input input im im') (object a a km km') (object c d m n) (ran command) ni nk nr ns

pub unasked_ends : (o : Option Command) (result : Status) (store : Object Holdings) (input : Object (List ℕ)) (a : Option (List ℕ)) (km km' : ℕ) (c d : Option (List ℕ)) (m n : ℕ) → o ≡ None → Told Words usage result c d m n
    → MatchOption o (EndsUnasked result (object a a km km') (object c d m n)) (λ command. Runs command result store input (object a a km km') (object c d m n))
unasked_ends o result store input a km km' c d m n is told = rw is (unasked Words usage result a km km' c d m n (inl (refl, refl)) told)
