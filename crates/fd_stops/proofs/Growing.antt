-- What is found of an archive and of a trial.
use Rattle.std.proofs.Common.{◌≡◌, ◌∙◌, inl, inr, ℕ, List, Option, Some, None, IfSome, Result, Ok, Err, ap, subst}
use Rattle.std.specs.Prelude.{◌⊎◌}
use Rattle.fd_disk.specs.Folders.{Holdings, WhereTold, folder_at}
use Rattle.fd_entries.specs.declared.batch.Pair.{Pair}
use Rattle.fd_key.specs.Pairs as keys
use Rattle.fd_schema.specs.Rules.{Rule}
use Rattle.fd_recovery.specs.Recovered.{held}
use Rattle.fd_stored.specs.declared.status.Status.{Status}
use Rattle.fd_stored.specs.declared.status.Status.TheVariants.{Done, Missed, Words, Refused, InputFault, OutputFault, DiskFault, NoMemory, Damaged, Limit}
use Rattle.fd_outcome.specs.Asking.{rules_of}
use Rattle.fd_stored.specs.Archiving.{pairs_for, taken}
use Rattle.fd_stored.specs.Causes.{Cause}
use Rattle.fd_outcome.specs.Ends.{LeavesBy, LeavesStored, LeavesTried}
use Rattle.fd_outcome.specs.Outcome.{generated_messages}
use Rattle.fd_stored.specs.Store.{Adds, Sorted, table_at}
use Rattle.fd_outcome.specs.Trying.{trial_given, trial_rules, trial_schema}
use Rattle.fd_outcome.proofs.Leaving.{adds_none}
use Rattle.fd_archive.specs.Crashing.{AreFirm, GrowsFirmly, IsAfterCrash, Outlasts, OutlastsBy, OutlastsTrial}
use Rattle.fd_stops.specs.Found.{EachLeft, FoundStored, FoundTried, HasGrown, HasSchemaOr, IsFolderAfter}
use Rattle.fd_stops.proofs.Folders.{firm_same, folder_after, untouched_after}

grown : (workers : ℕ) (pairs : Sorted) (h i : Holdings) → GrowsFirmly workers pairs h i → (j : Holdings) → IsAfterCrash i j → HasGrown workers pairs h j
grown workers pairs h i grows j after = record { each = each; firm = firm }
  where
    each : (name : List ℕ) (t : List (List Pair)) → table_at h name ≡ Some t → IsFolderAfter (folder_at h name) (folder_at j name) ⊎ Adds workers (pairs name) t (table_at j name)
    each name t is = elim (grows.each name t is) [
      | inl same ↦ inl (untouched_after (folder_at h name) (folder_at i name) (folder_at j name) same (folder_after i j after name))
      | inr adds ↦ inr (adds j after)
    ]

    firm : AreFirm h → (name : List ℕ) (t : List (List Pair)) → table_at h name ≡ Some t → Adds workers (pairs name) t (table_at j name)
    firm are name t is = elim (each name t is) [
      | inl same ↦ adds_none workers (pairs name) t (table_at j name) (ap (held name) (firm_same (folder_at h name) (folder_at j name) (are name) same) ∙ is)
      | inr adds ↦ adds
    ]

-- the schema stays, whatever the status
schema_stays : (s : Status) (full calm : Type 0) (workers : ℕ) (rules : List Rule) (given : List keys.Pair) (octets : List ℕ) (left : Option (List ℕ)) (h i : Holdings)
    → Outlasts s full workers rules given octets left h i → LeavesStored s calm full workers rules given octets left h i → i.schema ≡ h.schema
schema_stays Done full calm workers rules given octets left h i out leaves = leaves.schema
schema_stays Missed full calm workers rules given octets left h i out leaves = absurd out
schema_stays Words full calm workers rules given octets left h i out leaves = absurd out
schema_stays Refused full calm workers rules given octets left h i out leaves = leaves.schema
schema_stays InputFault full calm workers rules given octets left h i out leaves = leaves.grows.schema
schema_stays OutputFault full calm workers rules given octets left h i out leaves = out.schema
schema_stays DiskFault full calm workers rules given octets left h i out leaves = out.schema
schema_stays NoMemory full calm workers rules given octets left h i out leaves = out.schema
schema_stays Damaged full calm workers rules given octets left h i out leaves = out.schema
schema_stays Limit full calm workers rules given octets left h i out leaves = elim leaves [ inl all ↦ all.schema | inr until ↦ until.1.grows.schema ]

stored : (s : Status) (full calm : Type 0) (workers : ℕ) (rules : Result (List Rule) Cause) (given : List keys.Pair) (octets : List ℕ) (left : Option (List ℕ)) (h i : Holdings)
    → OutlastsBy s full workers rules given octets left h i → LeavesBy s calm full workers rules given octets left h i → (j : Holdings) → IsAfterCrash i j → FoundStored workers rules given octets h j
stored s full calm workers (Ok rules) given octets left h i out leaves j after =
    (after.image.schema_is ∙ schema_stays s full calm workers rules given octets left h i out.0 leaves, grown workers (pairs_for (taken rules given octets).stored) h i out.1 j after)
stored s full calm workers (Err cause) given octets left h i out leaves j after = subst (λ (k : Holdings). IsAfterCrash k j) out after

pub archived : (s : Status) (full calm : Type 0) (workers : ℕ) (given : List keys.Pair) (before left : Option (List ℕ)) (a b : Option Holdings)
    → IfSome before (λ octets. WhereTold a b (λ h i. OutlastsBy s full workers (rules_of h.schema) given octets left h i))
    → WhereTold a b (λ h i. IfSome before (λ octets. LeavesBy s calm full workers (rules_of h.schema) given octets left h i))
    → IfSome before (λ octets. WhereTold a b (EachLeft (λ h j. FoundStored workers (rules_of h.schema) given octets h j)))
archived s full calm workers given None left a b out leaves = tt
archived s full calm workers given (Some octets) left None None out leaves = tt
archived s full calm workers given (Some octets) left None (Some i) out leaves = absurd out
archived s full calm workers given (Some octets) left (Some h) None out leaves = absurd out
archived s full calm workers given (Some octets) left (Some h) (Some i) out leaves = stored s full calm workers (rules_of h.schema) given octets left h i out leaves

-- the schema that was there stays, or that of a trial, which was planted
tried_schema : (s : Status) (calm full : Type 0) (workers count : ℕ) (rules : List Rule) (h i : Holdings) → LeavesTried s calm full workers (Ok rules) count h i → HasSchemaOr trial_schema h i
tried_schema s calm full workers count rules h i (inl (ends, stays)) = inl stays.schema
tried_schema s calm full workers count rules h i (inr (m, inl was, same, leaves)) = inl (same ∙ was.1.schema)
tried_schema s calm full workers count rules h i (inr (m, inr plants, same, leaves)) = inr (plants.none, same ∙ plants.schema)

left_schema : (text : List ℕ) (h i j : Holdings) → j.schema ≡ i.schema → HasSchemaOr text h i → HasSchemaOr text h j
left_schema text h i j same (inl is) = inl (same ∙ is)
left_schema text h i j same (inr (none, is)) = inr (none, same ∙ is)

trial_found : (s : Status) (calm full : Type 0) (workers count : ℕ) (rules : Result (List Rule) Cause) (h i : Holdings) → OutlastsTrial s workers count rules h i → LeavesTried s calm full workers rules count h i
    → (j : Holdings) → IsAfterCrash i j → FoundTried workers count rules h j
trial_found s calm full workers count (Ok rules) h i out leaves j after =
    (left_schema trial_schema h i j after.image.schema_is (tried_schema s calm full workers count rules h i leaves), grown workers (pairs_for (taken rules trial_given (generated_messages count)).stored) h i out.1 j after)
trial_found s calm full workers count (Err cause) h i out leaves j after = subst (λ (k : Holdings). IsAfterCrash k j) out after

pub tried : (s : Status) (calm full : Type 0) (workers count : ℕ) (a b : Option Holdings) → WhereTold a b (λ h i. OutlastsTrial s workers count (trial_rules h.schema) h i)
    → WhereTold a b (λ h i. LeavesTried s calm full workers (trial_rules h.schema) count h i)
    → WhereTold a b (EachLeft (λ h j. FoundTried workers count (trial_rules h.schema) h j))
tried s calm full workers count None None out leaves = tt
tried s calm full workers count None (Some i) out leaves = absurd out
tried s calm full workers count (Some h) None out leaves = absurd out
tried s calm full workers count (Some h) (Some i) out leaves = trial_found s calm full workers count (trial_rules h.schema) h i out leaves
