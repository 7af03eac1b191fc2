-- What outlasts a crash, at each exit of `trial`.
use Rattle.std.proofs.Common.{◌≡◌, ◌∙◌, ℕ, List, Option, Some, refl, sym, ap, subst, inl, inr}
use Rattle.std.specs.Prelude.{Result, Ok, Err}
use Rattle.fd_disk.specs.Folders.{Holdings, WhereTold, planted}
use Rattle.fd_schema.specs.Rules.{Rule}
use Rattle.fd_stored.specs.declared.status.Status.{Status}
use Rattle.fd_stored.specs.declared.status.Status.TheVariants.{Done}
use Rattle.fd_stored.specs.Archiving.{Stored, Taken, pairs_for, taken}
use Rattle.fd_stored.specs.Causes.{Cause}
use Rattle.fd_outcome.specs.Ends.{IsPlanted}
use Rattle.fd_outcome.specs.Outcome.{generated_messages}
use Rattle.fd_stored.specs.Store.{GrowsBy}
use Rattle.fd_outcome.specs.Trying.{trial_given, trial_rules, trial_schema}
use Rattle.fd_outcome.proofs.Exits.{apart, is_whole}
use Rattle.fd_retrieve.specs.Looking.{IsLookedThrough}
use Rattle.fd_telling.specs.Stops.{ToldSome}
use Rattle.fd_bulk.specs.Archived.{IsFront}
use Rattle.fd_bulk.specs.declared.bulk.Bulk.{Bulk}
use Rattle.fd_bulk.specs.declared.bulk.BulkFault.{BulkFault}
use Rattle.fd_bulk.specs.declared.bulk.BulkFault.TheVariants as faults
use Rattle.fd_archive.specs.Crashing.{GrowsFirmly, IsFirm, OutlastsTrial}
use Rattle.fd_archive.specs.Kept.{InputKept, RefusedKept, WholeKept}
use Rattle.fd_archive.proofs.Growing.{firm_front, firm_same, grows_of}
use Rattle.fd_archive.proofs.Looked.{firm_looked, firmly_looked}
use Rattle.fd_archive.proofs.Noticing.{some_part}
use Rattle.fd_archive.proofs.Told.{both_told}
use Rattle.fd_trial.specs.Ruling.{IsPlantedOnly}
use Rattle.fd_trial.specs.Telling.{ToldUnstored}
use Rattle.fd_trial.proofs.Noticing.{unstored_part}
use Rattle.fd_trial.proofs.Stepping.{through, where_told}
use Rattle.fd_trial.proofs.TrialExits.{never_unruled}

-- ---- the schema was there, or it was planted

module _ (result : Status) (workers count : ℕ) where
  abbrev Out : Result (List Rule) Cause → Holdings → Holdings → Type 0
  Out r h i = OutlastsTrial result workers count r h i

  planted_first : (rules : List Rule) (h m i : Holdings) → IsPlantedOnly h m → Out (Ok rules) m i → Out (Ok rules) h i
  planted_first rules h m i (inl e) x = subst (λ y. Out (Ok rules) y i) e x
  planted_first rules h m i (inr p) x =
      let y : Out (Ok rules) (planted trial_schema h) i = subst (λ z. Out (Ok rules) z i) p.1 x in
      ((λ e. record { each = (y.0 e).each }), record { each = y.1.each })

  pub since_planted : (rules : List Rule) (start mid now : Option Holdings) → WhereTold start mid (λ h m. IsPlanted h m × (trial_rules h.schema ≡ Ok rules)) → WhereTold start mid IsPlantedOnly → WhereTold mid now (Out (Ok rules)) → WhereTold start now (λ h i. Out (trial_rules h.schema) h i)
  since_planted rules start mid now ruled only out =
      through start mid now (λ h m. (trial_rules h.schema ≡ Ok rules) × IsPlantedOnly h m) (Out (Ok rules)) (λ h i. Out (trial_rules h.schema) h i) (λ h m i x y. subst (λ r. Out r h i) (sym x.0) (planted_first rules h m i x.1 y))
      (both_told start mid (λ h m. IsPlanted h m × (trial_rules h.schema ≡ Ok rules)) IsPlantedOnly (λ h m. (trial_rules h.schema ≡ Ok rules) × IsPlantedOnly h m) (λ h m p q. (p.1, q)) ruled only) out

  early_one : (result ≡ Done → ⊥) → (h i : Holdings) → IsPlantedOnly h i → Out (trial_rules h.schema) h i
  early_one undone h i p = go (trial_rules h.schema) refl
    where
      go : (r : Result (List Rule) Cause) → trial_rules h.schema ≡ r → Out r h i
      go (Ok rules) e = planted_first rules h i i p ((λ d. absurd (undone d)), firm_same workers _ i)
      go (Err c) e = elim p as (λ _. i ≡ h) [ inl same ↦ same | inr x ↦ absurd (never_unruled c (ap trial_rules (sym x.0) ∙ e)) ]

  -- nothing was stored, and the line of 0 wasn't told
  pub early : (start now : Option Holdings) → WhereTold start now IsPlantedOnly → (result ≡ Done → ⊥) → WhereTold start now (λ h i. Out (trial_rules h.schema) h i)
  early start now only undone = where_told start now IsPlantedOnly (λ h i. Out (trial_rules h.schema) h i) (early_one undone) only

-- ---- messages were stored

module _ (workers count : ℕ) (rules : List Rule) (mid : Option Holdings) where
  abbrev T : Taken
  T = taken rules trial_given (generated_messages count)

  abbrev Firm : List Stored → Holdings → Holdings → Type 0
  Firm all m j = GrowsBy workers (pairs_for all) m j × (IsFirm workers all m j × GrowsFirmly workers (pairs_for all) m j)

  -- all of them, and then their keys were asked for
  pub asked_outlasts : (result : Status) (j now : Option Holdings) (left : Option (List ℕ)) (b : Bulk) → WholeKept workers rules trial_given (Some (generated_messages count)) left mid j b → WhereTold j now IsLookedThrough → WhereTold mid now (OutlastsTrial result workers count (Ok rules))
  asked_outlasts result j now left b w looks =
      through mid j now (Firm T.stored) IsLookedThrough (OutlastsTrial result workers count (Ok rules))
      (λ m k i x l. ((λ e. firm_looked workers m k i l T.stored x.0 x.1.0), firmly_looked workers m k i l (pairs_for T.stored) (grows_of workers T.stored m k x.0) x.1.1))
      (subst (λ ss. WhereTold mid j (Firm ss)) (sym w.taken_is.stored)
      (both_told mid j (GrowsBy workers (pairs_for w.all)) (λ m k. IsFirm workers w.all m k × GrowsFirmly workers (pairs_for w.all) m k) (Firm w.all) (λ m k p q. (p, q)) w.grows
      (both_told mid j (IsFirm workers w.all) (GrowsFirmly workers (pairs_for w.all)) (λ m k. IsFirm workers w.all m k × GrowsFirmly workers (pairs_for w.all) m k) (λ m k p q. (p, q)) w.firm w.firmly)))
      looks

  module _ (now : Option Holdings) where
    front_firmly : (all : List Stored) → IsFront all T → WhereTold mid now (GrowsFirmly workers (pairs_for all)) → WhereTold mid now (GrowsFirmly workers (pairs_for T.stored))
    front_firmly all front w =
        where_told mid now (GrowsFirmly workers (pairs_for all)) (GrowsFirmly workers (pairs_for T.stored)) (λ m j g. subst (λ ss. GrowsFirmly workers (pairs_for ss) m j) (sym front.1) (firm_front workers all front.0 m j g)) w

    module _ {X : Type 0} (left : Option (List ℕ)) where
      refused_firmly : (fault : BulkFault X) → RefusedKept workers rules trial_given (Some (generated_messages count)) left mid now fault → WhereTold mid now (GrowsFirmly workers (pairs_for T.stored))
      refused_firmly fault w = subst (λ ss. WhereTold mid now (GrowsFirmly workers (pairs_for ss))) (sym w.refused.0) w.firmly

      kept_firmly : (fault : BulkFault X) → InputKept workers rules trial_given (Some (generated_messages count)) left mid now (Err fault) → WhereTold mid now (GrowsFirmly workers (pairs_for T.stored))
      kept_firmly (faults.Input f) w = front_firmly w.all w.read.front w.firmly
      kept_firmly (faults.Message at) w = refused_firmly (faults.Message at) w
      kept_firmly (faults.NoMap number field) w = refused_firmly (faults.NoMap number field) w
      kept_firmly (faults.Cut t) w = refused_firmly (faults.Cut t) w
      kept_firmly (faults.Key number fault) w = refused_firmly (faults.Key number fault) w
      kept_firmly (faults.NoRule number text) w = refused_firmly (faults.NoRule number text) w
      kept_firmly faults.Disk w = front_firmly w.all w.front w.firmly
      kept_firmly (faults.NotATable dataset at want found) w = front_firmly w.all w.front w.firmly
      kept_firmly (faults.Damaged dataset damage) w = front_firmly w.all w.front w.firmly
      kept_firmly (faults.TableFull n) w = front_firmly w.all w.front w.firmly
      kept_firmly (faults.TooMany n) w = refused_firmly (faults.TooMany n) w
      kept_firmly faults.InputLimit w = refused_firmly faults.InputLimit w
      kept_firmly faults.NoMemory w = front_firmly w.all w.front w.firmly

-- ---- the line of 0 wasn't told

module _ (result : Status) (c d : Option (List ℕ)) (m n : ℕ) where
  pub some_undone : ToldSome result c d m n → result ≡ Done → ⊥
  some_undone told = apart is_whole result Done (some_part result c d m n told) refl

  unstored_undone : {X : Type 0} (fault : BulkFault X) → ToldUnstored fault result c d m n → result ≡ Done → ⊥
  unstored_undone fault told = apart is_whole result Done (unstored_part fault result c d m n told) refl

  -- not all messages were stored
  pub unstored_outlasts : (workers count : ℕ) (rules : List Rule) (mid now : Option Holdings) {X : Type 0} (left : Option (List ℕ)) (fault : BulkFault X) → InputKept workers rules trial_given (Some (generated_messages count)) left mid now (Err fault)
      → ToldUnstored fault result c d m n → WhereTold mid now (OutlastsTrial result workers count (Ok rules))
  unstored_outlasts workers count rules mid now left fault w told =
      where_told mid now (GrowsFirmly workers (pairs_for (taken rules trial_given (generated_messages count)).stored)) (OutlastsTrial result workers count (Ok rules)) (λ h i g. ((λ e. absurd (unstored_undone fault told e)), g)) (kept_firmly workers count rules mid now left fault w)
