-- What each kind of command has done, of what its own clauses say.
use Rattle.std.proofs.Common.{◌≡◌, ◌∙◌, ℕ, List, [], Option, Some, None, refl, sym, subst, inl, inr}
use Rattle.std.specs.Prelude.{◌⊎◌, IfSome}
use Rattle.fd_key.specs.Pairs.{Pair}
use Rattle.fd_disk.specs.Folders.{Holdings, WhereTold}
use Rattle.fd_words.specs.declared.command.Command.{Command}
use Rattle.fd_words.specs.declared.command.Command.TheVariants as commands
use Rattle.fd_stored.specs.declared.status.Status.{Status}
use Rattle.fd_stored.specs.declared.status.Status.TheVariants.{Done, Missed, OutputFault, NoMemory}
use Rattle.fd_outcome.specs.Ends.{StoresFields, WhereAsked}
use Rattle.fd_outcome.specs.Noticing.{AnswersFirmly, IsAnswering, IsUnfit, IsUnread, Noticed, Notices, ReadsFitly}
use Rattle.fd_stored.specs.Sparing.{SparesDamaged}
use Rattle.fd_outcome.specs.Objects.{Object, object}
use Rattle.fd_outcome.specs.Ran.{Ran}
use Rattle.fd_stored.specs.Store.{AreNames}
use Rattle.fd_outcome.proofs.Asked.{asked_all}
use Rattle.fd_outcome.proofs.Exits.{apart, is_whole}
use Rattle.fd_archive.specs.Crashing.{OutlastsCrash}
use Rattle.fd_contents.specs.Cubing.{CubesRan}
use Rattle.fd_contents.specs.Recorded.{CountsRecords, PrintsRecords}
use Rattle.fd_contents.proofs.CubesDone.{cubes_ran}
use Rattle.fd_session.specs.Sessions.{SessionRan}
use Rattle.fd_session.proofs.Commands.{session_ran}
use Rattle.fd_top.specs.Served.{CommandRan}

-- a status at which memory ran out, or at which that couldn't be told, is neither 0 nor 1
never_whole : (s : Status) → (s ≡ NoMemory) ⊎ (s ≡ OutputFault) → (s ≡ Done) ⊎ (s ≡ Missed) → ⊥
never_whole s (inl is) (inl e) = apart is_whole NoMemory Done refl refl (sym is ∙ e)
never_whole s (inl is) (inr e) = apart is_whole NoMemory Missed refl refl (sym is ∙ e)
never_whole s (inr is) (inl e) = apart is_whole OutputFault Done refl refl (sym is ∙ e)
never_whole s (inr is) (inr e) = apart is_whole OutputFault Missed refl refl (sym is ∙ e)

-- of a store that tells, what holds of any schema
fits : (command : Command) (has : Option Holdings) (input : Object (List ℕ)) → ((schema : Option (List ℕ)) → IsUnfit command schema → IsUnread input) → IfSome has (λ h. IsUnfit command h.schema → IsUnread input)
fits command None input all = tt
fits command (Some h) input all = all h.schema

-- ---- a run that ends for want of memory before it has done anything

pub starved_notices : (o : Option Command) (s : Status) (store : Object Holdings) (input output report : Object (List ℕ)) → (s ≡ NoMemory) ⊎ (s ≡ OutputFault) → IfSome o (λ command. Notices command s store input output report)
starved_notices None s store input output report idle = tt
starved_notices (Some command) s store input output report idle = λ whole. absurd (never_whole s idle whole)

-- where a run doesn't end with 0, nothing is said of what it prints by the records of indexes
unprinted : (command : Command) (s : Status) (store : Object Holdings) (input output : Object (List ℕ)) → ¬ (s ≡ Done) → PrintsRecords command s store input output
unprinted (commands.Pick wanted) s store input output never = tt
unprinted commands.Describe s store input output never = tt
unprinted commands.Split s store input output never = tt
unprinted (commands.Values decimals) s store input output never = tt
unprinted (commands.Generate count) s store input output never = tt
unprinted (commands.Create root) s store input output never = tt
unprinted (commands.Archive root given workers) s store input output never = tt
unprinted (commands.Retrieve root workers) s store input output never = tt
unprinted (commands.RetrieveOver root layers workers) s store input output never = tt
unprinted (commands.List root) s store input output never = λ done. absurd (never done)
unprinted (commands.Axes root) s store input output never = λ done. absurd (never done)
unprinted (commands.Stats root) s store input output never = λ done. absurd (never done)
unprinted (commands.Cubes root) s store input output never = tt
unprinted (commands.Session root) s store input output never = tt
unprinted (commands.Purge root dataset) s store input output never = tt
unprinted (commands.Wipe root dataset) s store input output never = tt
unprinted (commands.Trial root count workers) s store input output never = tt

pub starved_recorded : (o : Option Command) (s : Status) (store : Object Holdings) (input output : Object (List ℕ)) → (s ≡ NoMemory) ⊎ (s ≡ OutputFault) → IfSome o (λ command. PrintsRecords command s store input output)
starved_recorded None s store input output idle = tt
starved_recorded (Some command) s store input output idle = unprinted command s store input output (λ done. never_whole s idle (inl done))

pub starved_unread : (o : Option Command) (store : Object Holdings) (left : Option (List ℕ)) (k : ℕ) → IfSome o (λ command. ReadsFitly command store (object left left k k))
starved_unread None store left k = tt
starved_unread (Some command) store left k = fits command store.before (object left left k k) (λ schema unfit. record { same = refl; calm = refl })

pub starved_firm : (o : Option Command) (s : Status) (store : Object Holdings) (input : Object (List ℕ)) → (s ≡ NoMemory) ⊎ (s ≡ OutputFault) → IfSome o (λ command. IsAnswering command → AnswersFirmly command s store input)
starved_firm None s store input idle = tt
starved_firm (Some command) s store input idle = λ answers whole. absurd (never_whole s idle whole)

spares_same : (has : Option Holdings) → WhereTold has has SparesDamaged
spares_same None = tt
spares_same (Some h) = λ name damaged. record { files = refl; table = inl refl }

pub starved_spares : (o : Option Command) (has : Option Holdings) → IfSome o (λ command. StoresFields command → WhereTold has has SparesDamaged)
starved_spares None has = tt
starved_spares (Some command) has = λ stores. spares_same has

-- ---- by the kind of the command

module _ (F : Type 0) where
  pub did_by : (command is : Command) (s : Status) (store : Object Holdings) (input output report : Object (List ℕ)) → command ≡ is → CommandRan F is s store input output report → CommandRan F command s store input output report
  did_by command is s store input output report same did = subst (λ c. CommandRan F c s store input output report) (sym same) did

  module _ (s : Status) (store : Object Holdings) (input output report : Object (List ℕ)) where
    silent : (command : Command) → ((octets : List ℕ) (h : Holdings) (names : List (List ℕ)) → Noticed command s h names octets output.before output.now report.before report.now) → Notices command s store input output report
    silent command all whole = asked_all (λ octets h i. (names : List (List ℕ)) → AreNames h names → Noticed command s h names octets output.before output.now report.before report.now) (λ octets h i names are. all octets h names)
        command input.before store.before store.now

    -- a command over streams, or one that reclaims
    abbrev pub IsPlain : Command → Type 0
    IsPlain (commands.Pick wanted) = Unit {0}
    IsPlain commands.Describe = Unit {0}
    IsPlain commands.Split = Unit {0}
    IsPlain (commands.Values decimals) = Unit {0}
    IsPlain (commands.Generate count) = Unit {0}
    IsPlain (commands.Create root) = ⊥
    IsPlain (commands.Archive root given workers) = ⊥
    IsPlain (commands.Retrieve root workers) = ⊥
    IsPlain (commands.RetrieveOver root layers workers) = ⊥
    IsPlain (commands.List root) = ⊥
    IsPlain (commands.Axes root) = ⊥
    IsPlain (commands.Stats root) = ⊥
    IsPlain (commands.Cubes root) = ⊥
    IsPlain (commands.Session root) = ⊥
    IsPlain (commands.Purge root dataset) = Unit {0}
    IsPlain (commands.Wipe root dataset) = Unit {0}
    IsPlain (commands.Trial root count workers) = ⊥

    never_unfit : (command : Command) → ((schema : Option (List ℕ)) → IsUnfit command schema → ⊥) → ReadsFitly command store input
    never_unfit command never = fits command store.before input (λ schema unfit. absurd (never schema unfit))

    pub plain : (command : Command) → IsPlain command → Ran command s store input output report → CommandRan F command s store input output report
    plain (commands.Pick wanted) is ran =
        record { ran = ran; session = tt; cubes = tt; recorded = tt; notices = silent (commands.Pick wanted) (λ octets h names. tt); unread = never_unfit (commands.Pick wanted) (λ schema unfit. unfit); spares = λ stores. absurd stores; outlasts = tt; firm = λ answers. absurd answers }
    plain commands.Describe is ran = record { ran = ran; session = tt; cubes = tt; recorded = tt; notices = silent commands.Describe (λ octets h names. tt); unread = never_unfit commands.Describe (λ schema unfit. unfit); spares = λ stores. absurd stores; outlasts = tt; firm = λ answers. absurd answers }
    plain commands.Split is ran = record { ran = ran; session = tt; cubes = tt; recorded = tt; notices = silent commands.Split (λ octets h names. tt); unread = never_unfit commands.Split (λ schema unfit. unfit); spares = λ stores. absurd stores; outlasts = tt; firm = λ answers. absurd answers }
    plain (commands.Values decimals) is ran =
        record { ran = ran; session = tt; cubes = tt; recorded = tt; notices = silent (commands.Values decimals) (λ octets h names. tt); unread = never_unfit (commands.Values decimals) (λ schema unfit. unfit); spares = λ stores. absurd stores; outlasts = tt; firm = λ answers. absurd answers }
    plain (commands.Generate count) is ran =
        record { ran = ran; session = tt; cubes = tt; recorded = tt; notices = silent (commands.Generate count) (λ octets h names. tt); unread = never_unfit (commands.Generate count) (λ schema unfit. unfit); spares = λ stores. absurd stores; outlasts = tt; firm = λ answers. absurd answers }
    plain (commands.Create root) is ran = absurd is
    plain (commands.Archive root given workers) is ran = absurd is
    plain (commands.Retrieve root workers) is ran = absurd is
    plain (commands.RetrieveOver root layers workers) is ran = absurd is
    plain (commands.List root) is ran = absurd is
    plain (commands.Axes root) is ran = absurd is
    plain (commands.Stats root) is ran = absurd is
    plain (commands.Cubes root) is ran = absurd is
    plain (commands.Session root) is ran = absurd is
    plain (commands.Purge root dataset) is ran =
        record { ran = ran; session = tt; cubes = tt; recorded = tt; notices = silent (commands.Purge root dataset) (λ octets h names. tt); unread = never_unfit (commands.Purge root dataset) (λ schema unfit. unfit); spares = λ stores. absurd stores; outlasts = tt; firm = λ answers. absurd answers }
    plain (commands.Wipe root dataset) is ran =
        record { ran = ran; session = tt; cubes = tt; recorded = tt; notices = silent (commands.Wipe root dataset) (λ octets h names. tt); unread = never_unfit (commands.Wipe root dataset) (λ schema unfit. unfit); spares = λ stores. absurd stores; outlasts = tt; firm = λ answers. absurd answers }
    plain (commands.Trial root count workers) is ran = absurd is

    pub created : (root : List ℕ) → Ran (commands.Create root) s store input output report → ReadsFitly (commands.Create root) store input → CommandRan F (commands.Create root) s store input output report
    created root ran unread = record { ran = ran; session = tt; cubes = tt; recorded = tt; notices = silent (commands.Create root) (λ octets h names. tt); unread = unread; spares = λ stores. absurd stores; outlasts = tt; firm = λ answers. absurd answers }

    pub counted : (root : List ℕ) → Ran (commands.Stats root) s store input output report → Notices (commands.Stats root) s store input output report → CountsRecords s store.before output → AnswersFirmly (commands.Stats root) s store input → CommandRan F (commands.Stats root) s store input output report
    counted root ran notices recorded firm = record { ran = ran; session = tt; cubes = tt; recorded = recorded; notices = notices; unread = never_unfit (commands.Stats root) (λ schema unfit. unfit); spares = λ stores. absurd stores; outlasts = tt; firm = λ answers. firm }

    pub cubed : (root : List ℕ) → CubesRan root s store input output report → CommandRan F (commands.Cubes root) s store input output report
    cubed root ran = record { ran = cubes_ran root s store input output report ran; session = tt; cubes = ran; recorded = tt; notices = λ whole. tt; unread = ran.unread; spares = λ stores. absurd stores; outlasts = tt; firm = λ answers. absurd answers }

    pub played : (root : List ℕ) → SessionRan F s store input output report → ReadsFitly (commands.Session root) store input → CommandRan F (commands.Session root) s store input output report
    played root ran unread = record { ran = session_ran F root s store input output report ran; session = ran; cubes = tt; recorded = tt; notices = λ whole. tt; unread = unread; spares = λ stores. ran.spares; outlasts = tt; firm = λ answers. absurd answers }

    pub tried : (root : List ℕ) (count workers : ℕ) → Ran (commands.Trial root count workers) s store input output report → OutlastsCrash (commands.Trial root count workers) s store input report
        → Notices (commands.Trial root count workers) s store input output report → WhereTold store.before store.now SparesDamaged → CommandRan F (commands.Trial root count workers) s store input output report
    tried root count workers ran outlasts notices spares = record { ran = ran; session = tt; cubes = tt; recorded = tt; notices = notices; unread = never_unfit (commands.Trial root count workers) (λ schema unfit. unfit); spares = λ stores. spares; outlasts = outlasts; firm = λ answers. absurd answers }
