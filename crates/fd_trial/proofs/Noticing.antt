-- What is noticed at each exit of `trial`: that no dataset of a message was damaged; and that damaged datasets stay.
use Rattle.std.proofs.Common.{◌≡◌, ℕ, false, List, [], Option, Some, None, refl, sym, subst, inl, inr}
use Rattle.std.specs.Prelude.{◌⊎◌, IfSome, Ok}
use Rattle.fd_disk.specs.Folders.{Holdings, WhereTold, folder_at, planted}
use Rattle.fd_schema.specs.Rules.{Rule}
use Rattle.fd_words.specs.declared.command.Command.TheVariants.{Trial}
use Rattle.fd_stored.specs.declared.status.Status.{Status}
use Rattle.fd_stored.specs.declared.status.Status.TheVariants.{Done, Missed}
use Rattle.fd_stored.specs.Archiving.{Stored, taken}
use Rattle.fd_outcome.specs.Ends.{AmongTaken, IsPlanted}
use Rattle.fd_outcome.specs.Noticing.{Noticed, Notices}
use Rattle.fd_stored.specs.Sparing.{SparesDamaged}
use Rattle.fd_outcome.specs.Objects.{Object, object}
use Rattle.fd_outcome.specs.Outcome.{generated_messages}
use Rattle.fd_stored.specs.Store.{AreNames, IsLookedThrough}
use Rattle.fd_outcome.specs.Trying.{trial_given, trial_rules, trial_schema}
use Rattle.fd_outcome.proofs.Exits.{is_whole, never_whole}
use Rattle.fd_recovery.specs.Recovered.{IsUndamaged}
use Rattle.fd_retrieve.proofs.Looking.{looked_later, looked_same}
use Rattle.fd_bulk.specs.declared.bulk.Bulk.{Bulk}
use Rattle.fd_bulk.specs.declared.bulk.BulkFault.{BulkFault}
use Rattle.fd_bulk.specs.declared.bulk.BulkFault.TheVariants as faults
use Rattle.fd_archive.specs.Kept.{NoneDamaged, WholeKept}
use Rattle.fd_archive.proofs.Noticing.{fault_part, told_part}
use Rattle.fd_trial.specs.Ruling.{IsPlantedOnly}
use Rattle.fd_trial.specs.Telling.{ToldUnstored}
use Rattle.fd_trial.proofs.Stepping.{through, where_told}

-- ---- a line that isn't that of 0 was told, or couldn't be

pub unstored_part : {X : Type 0} (fault : BulkFault X) (result : Status) (c d : Option (List ℕ)) (m n : ℕ) → ToldUnstored fault result c d m n → is_whole result ≡ false
unstored_part (faults.Input f) result c d m n told = told_part _ _ result c d m n told refl
unstored_part {X = X} (faults.Message at) result c d m n told = fault_part {X = X} (faults.Message at) result c d m n told
unstored_part {X = X} (faults.NoMap number field) result c d m n told = fault_part {X = X} (faults.NoMap number field) result c d m n told
unstored_part {X = X} (faults.Cut t) result c d m n told = fault_part {X = X} (faults.Cut t) result c d m n told
unstored_part {X = X} (faults.Key number fault) result c d m n told = fault_part {X = X} (faults.Key number fault) result c d m n told
unstored_part {X = X} (faults.NoRule number text) result c d m n told = fault_part {X = X} (faults.NoRule number text) result c d m n told
unstored_part {X = X} faults.Disk result c d m n told = fault_part {X = X} faults.Disk result c d m n told
unstored_part {X = X} (faults.NotATable dataset at want found) result c d m n told = fault_part {X = X} (faults.NotATable dataset at want found) result c d m n told
unstored_part {X = X} (faults.Damaged dataset damage) result c d m n told = fault_part {X = X} (faults.Damaged dataset damage) result c d m n told
unstored_part {X = X} (faults.TableFull count) result c d m n told = fault_part {X = X} (faults.TableFull count) result c d m n told
unstored_part {X = X} (faults.TooMany count) result c d m n told = fault_part {X = X} (faults.TooMany count) result c d m n told
unstored_part {X = X} faults.InputLimit result c d m n told = fault_part {X = X} faults.InputLimit result c d m n told
unstored_part {X = X} faults.NoMemory result c d m n told = fault_part {X = X} faults.NoMemory result c d m n told

-- ---- no dataset of the messages was damaged

module _ (count workers : ℕ) where
  abbrev Messages : List Rule → List Stored
  Messages rules = (taken rules trial_given (generated_messages count)).stored

  pub whole_undamaged : (rules : List Rule) (mid now : Option Holdings) (after : Option (List ℕ)) (bulk : Bulk) → WholeKept workers rules trial_given (Some (generated_messages count)) after mid now bulk → IfSome mid (NoneDamaged (Messages rules))
  whole_undamaged rules mid now after bulk w = subst (λ ss. IfSome mid (NoneDamaged ss)) (sym w.taken_is.stored) w.undamaged

  module _ (root : List ℕ) (start now : Option Holdings) (sm sn : ℕ) (left : Option (List ℕ)) (l : ℕ) (a : Option (List ℕ)) (k : ℕ) (report : Object (List ℕ)) (result : Status) where
    abbrev Says : Type 0
    Says = Notices (Trial root count workers) result (object start now sm sn) (object left left l l) (object a a k k) report

    pub part_notices : is_whole result ≡ false → Says
    part_notices part whole = never_whole _ result part whole

    undamaged_first : (h m : Holdings) (name : List ℕ) → IsPlantedOnly h m → IsUndamaged name (folder_at m name) → IsUndamaged name (folder_at h name)
    undamaged_first h m name (inl e) u = subst (λ (x : Holdings). IsUndamaged name (folder_at x name)) e u
    undamaged_first h m name (inr p) u = subst (λ (x : Holdings). IsUndamaged name (folder_at x name)) p.1 u

    module _ (rules : List Rule) where
      abbrev Planted : Holdings → Holdings → Type 0
      Planted h m = IsPlanted h m × (trial_rules h.schema ≡ Ok rules)

      -- all is stored, and none of its datasets was damaged
      pub whole_notices : (mid : Option Holdings) → WhereTold start mid Planted → WhereTold start mid IsPlantedOnly → ((result ≡ Done) ⊎ (result ≡ Missed) → IfSome mid (NoneDamaged (Messages rules))) → Says
      whole_notices mid ruled only none whole = go start mid now ruled only (none whole)
        where
          go : (s m n : Option Holdings) → WhereTold s m Planted → WhereTold s m IsPlantedOnly → IfSome m (NoneDamaged (Messages rules))
              → IfSome s (λ h. IfSome n (λ i. (names : List (List ℕ)) → AreNames h names → Noticed (Trial root count workers) result h names [] a a report.before report.now))
          go None m n r o u = tt
          go (Some h) None n r o u = absurd r
          go (Some h) (Some m) None r o u = tt
          go (Some h) (Some m) (Some i) r o u = λ names an name opens. undamaged_first h m name o (u name (subst (λ x. AmongTaken trial_given x (generated_messages count) name) r.1 opens))

-- ---- damaged datasets stay

spared_later : (m j i : Holdings) → SparesDamaged m j → IsLookedThrough j i → SparesDamaged m i
spared_later m j i spared looks = λ name damaged. looked_later (folder_at m name) (folder_at j name) (folder_at i name) (spared name damaged) (looks.folders name)

pub looked_spares : (mid now later : Option Holdings) → WhereTold mid now SparesDamaged → WhereTold now later IsLookedThrough → WhereTold mid later SparesDamaged
looked_spares mid now later spared looks = through mid now later SparesDamaged IsLookedThrough SparesDamaged spared_later spared looks

spared_first : (h m i : Holdings) → IsPlantedOnly h m → SparesDamaged m i → SparesDamaged h i
spared_first h m i (inl e) spared = subst (λ (x : Holdings). SparesDamaged x i) e spared
spared_first h m i (inr p) spared =
    let s : SparesDamaged (planted trial_schema h) i = subst (λ (x : Holdings). SparesDamaged x i) p.1 spared in
    λ name damaged. s name damaged

pub planted_spares : (start mid now : Option Holdings) → WhereTold start mid IsPlantedOnly → WhereTold mid now SparesDamaged → WhereTold start now SparesDamaged
planted_spares start mid now only spared = through start mid now IsPlantedOnly SparesDamaged SparesDamaged spared_first only spared

spared_all : (h : Holdings) → SparesDamaged h h
spared_all h = λ name damaged. looked_same (folder_at h name)

-- nothing was stored
pub early_spares : (start now : Option Holdings) → WhereTold start now IsPlantedOnly → WhereTold start now SparesDamaged
early_spares start now only = where_told start now IsPlantedOnly SparesDamaged (λ h m o. spared_first h m m o (spared_all m)) only

pub same_spares : (has : Option Holdings) → WhereTold has has SparesDamaged
same_spares None = tt
same_spares (Some h) = spared_all h
