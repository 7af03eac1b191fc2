-- The tables of all datasets are firm once these were listed.
use Rattle.std.proofs.Common.{◌≡◌, ℕ, List, [], Option, Some, None, IfSome, subst}
use Rattle.std.specs.Prelude.{◌⊎◌, Contains}
use Rattle.fd_disk.specs.Folders.{Holdings, folder_at}
use Rattle.fd_recovery.specs.Crashing.{IsFirmTable}
use Rattle.fd_words.specs.declared.command.Command.TheVariants as commands
use Rattle.fd_stored.specs.declared.status.Status.{Status}
use Rattle.fd_stored.specs.declared.status.Status.TheVariants.{Done, Missed}
use Rattle.fd_outcome.specs.Ends.{Opens}
use Rattle.fd_outcome.specs.Noticing.{AnswersFirmly}
use Rattle.fd_outcome.specs.Objects.{Object}
use Rattle.fd_stored.specs.Store.{AreNames}
use Rattle.fd_retrieve.specs.Ready.{AreFirmOf}
use Rattle.fd_retrieve.proofs.ReadyLemmas.{among_contained}

-- what holds of whatever a store tells
pub told_any : (has : Option Holdings) (P : Type 0) → P → IfSome has (λ h. P)
told_any None P p = tt
told_any (Some h) P p = p

-- where the names of the one store are those of firm tables of the other
abbrev pub NamesFirm : Option Holdings → Option Holdings → Type 0
NamesFirm b n = IfSome b (λ h. (names : List (List ℕ)) → AreNames h names → IfSome n (λ j. AreFirmOf j names))

each_firm : (b n : Option Holdings) (A : Holdings → List (List ℕ) → List ℕ → Type 0) → ((h : Holdings) (names : List (List ℕ)) (name : List ℕ) → A h names name → Contains names name) → NamesFirm b n
    → IfSome b (λ h. IfSome n (λ j. (names : List (List ℕ)) → AreNames h names → (name : List ℕ) → A h names name → IsFirmTable (folder_at j name).table))
each_firm None n A among firm = tt
each_firm (Some h) None A among firm = tt
each_firm (Some h) (Some j) A among firm = λ names are name a. firm names are name (among_contained names name (among h names name a))

module _ (root : List ℕ) (s : Status) (store : Object Holdings) (mid : Option Holdings) (same : mid ≡ store.before) (firm : (s ≡ Done) ⊎ (s ≡ Missed) → NamesFirm mid store.now) where
  pub list_firm : (input : Object (List ℕ)) → AnswersFirmly (commands.List root) s store input
  list_firm input whole = go input.before (subst (λ (o : Option Holdings). NamesFirm o store.now) same (firm whole))
    where
      go : (i : Option (List ℕ)) → NamesFirm store.before store.now
          → IfSome i (λ octets. IfSome store.before (λ h. IfSome store.now (λ j. (names : List (List ℕ)) → AreNames h names → (name : List ℕ) → Opens (commands.List root) h names octets name → IsFirmTable (folder_at j name).table)))
      go None f = tt
      go (Some octets) f = each_firm store.before store.now (λ h names name. Opens (commands.List root) h names octets name) (λ h names name o. o.1) f

  pub axes_firm : (input : Object (List ℕ)) → AnswersFirmly (commands.Axes root) s store input
  axes_firm input whole = go input.before (subst (λ (o : Option Holdings). NamesFirm o store.now) same (firm whole))
    where
      go : (i : Option (List ℕ)) → NamesFirm store.before store.now
          → IfSome i (λ octets. IfSome store.before (λ h. IfSome store.now (λ j. (names : List (List ℕ)) → AreNames h names → (name : List ℕ) → Opens (commands.Axes root) h names octets name → IsFirmTable (folder_at j name).table)))
      go None f = tt
      go (Some octets) f = each_firm store.before store.now (λ h names name. Opens (commands.Axes root) h names octets name) (λ h names name o. o.1) f

  pub stats_firm : (input : Object (List ℕ)) → AnswersFirmly (commands.Stats root) s store input
  stats_firm input whole =
      each_firm store.before store.now (λ h names name. Opens (commands.Stats root) h names [] name) (λ h names name o. o.1) (subst (λ (o : Option Holdings). NamesFirm o store.now) same (firm whole))
