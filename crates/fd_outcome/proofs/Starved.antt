-- A run that ends for want of memory before it has done anything.
use Rattle.std.proofs.Common.{◌≡◌, ◌∙◌, ℕ, Bool, true, false, true≢false, List, [], ◌++◌, Option, Some, None, refl, sym, ap, subst, inl, inr, append-nil}
use Rattle.std.specs.Prelude.{◌⊎◌, IfSome, option_map, Result, Ok, Err}
use Rattle.fd_bytes.specs.Causes.{Rose}
use Rattle.fd_disk.specs.Folders.{Holdings}
use Rattle.fd_words.specs.declared.command.Command.{Command}
use Rattle.fd_words.specs.declared.command.Command.TheVariants as commands
use Rattle.fd_stored.specs.declared.status.Status.{Status}
use Rattle.fd_stored.specs.declared.status.Status.TheVariants.{Done, Missed, Words, Refused, InputFault, OutputFault, DiskFault, NoMemory, Damaged, Limit}
use Rattle.fd_outcome.specs.declared.listing.Listing.TheVariants as listings
use Rattle.fd_stored.specs.Causes.{Cause}
use Rattle.fd_stored.specs.Store.{table_at}
use Rattle.fd_outcome.specs.Picking.{found}
use Rattle.fd_outcome.specs.Listed.{listed}
use Rattle.fd_outcome.specs.Splitting.{octets_of, split_of}
use Rattle.fd_outcome.specs.Asking.{Answer, Asked, answers, asked_of, found_bytes, rules_of}
use Rattle.fd_outcome.specs.Told.{Told}
use Rattle.fd_outcome.specs.Layered.{Laid, laid_answers, laid_of}
use Rattle.fd_outcome.specs.Outcome.{Outcome, outcome, early, output_early, answered, answered_early, over_early, retrieved, retrieved_early, retrieved_over, picked, created, archived, generated_messages, tried}
use Rattle.fd_outcome.specs.Trying.{trial_rules}
use Rattle.fd_outcome.specs.Objects.{failures, object}
use Rattle.fd_outcome.specs.Ends.{Calm, troubles, no_memory}
use Rattle.fd_outcome.specs.Ran.{Ran}
use Rattle.fd_outcome.proofs.Endings.{ends_early, nothing_of, takes_nothing}
use Rattle.fd_outcome.proofs.Asked.{asked_all}
use Rattle.fd_outcome.proofs.Leaving.{idle_store}

-- one of the two statuses at which such a run ends
abbrev is_last : Status → Bool
is_last NoMemory = true
is_last OutputFault = true
is_last Done = false
is_last Missed = false
is_last Words = false
is_last Refused = false
is_last InputFault = false
is_last DiskFault = false
is_last Damaged = false
is_last Limit = false

abbrev starves : Status → Bool
starves NoMemory = true
starves OutputFault = false
starves Done = false
starves Missed = false
starves Words = false
starves Refused = false
starves InputFault = false
starves DiskFault = false
starves Damaged = false
starves Limit = false

not_both : (result other : Status) → (result ≡ NoMemory) ⊎ (result ≡ OutputFault) → result ≡ other → is_last other ≡ false → ⊥
not_both result other (inl a) b h = true≢false (ap is_last (sym a ∙ b) ∙ h)
not_both result other (inr a) b h = true≢false (ap is_last (sym a ∙ b) ∙ h)

pub is_idle : (result : Status) (c d : Option (List ℕ)) (m n : ℕ) → Told NoMemory no_memory result c d m n → (result ≡ NoMemory) ⊎ (result ≡ OutputFault)
is_idle result c d m n told = elim told.told as (λ _. (result ≡ NoMemory) ⊎ (result ≡ OutputFault)) [ inl x ↦ inl x.status | inr x ↦ inr x.status ]

-- what may be written early is a front of what is written
module _ (h : Holdings) (names : List (List ℕ)) (input : List ℕ) where
  abbrev Within_ : Command → Type 0
  Within_ command = IfSome (outcome command h names input) (λ x. (more : List ℕ) × (x.output ≡ (early command h names input).output ++ more))

  whole_early : (o : Option Outcome) → IfSome o (λ x. (more : List ℕ) × (x.output ≡ (output_early o).output ++ more))
  whole_early None = tt
  whole_early (Some o) = ([], sym (append-nil o.output))

  answers_early : (o : Option (List Answer)) → IfSome (option_map answered o) (λ x. (more : List ℕ) × (x.output ≡ (answered_early o).output ++ more))
  answers_early None = tt
  answers_early (Some xs) = ([], sym (append-nil (found_bytes xs)))

  retrieved_within : (r : Result (List Asked) Cause) → IfSome (retrieved h r) (λ x. (more : List ℕ) × (x.output ≡ (retrieved_early h r).output ++ more))
  retrieved_within (Ok asked) = answers_early (answers (table_at h) asked)
  retrieved_within (Err cause) = ([], refl)

  over_within : (r : Result (List Laid) Cause) → IfSome (retrieved_over h r) (λ x. (more : List ℕ) × (x.output ≡ (over_early h r).output ++ more))
  over_within (Ok asked) = answers_early (laid_answers (table_at h) asked)
  over_within (Err cause) = ([], refl)

  nothing_within : (o : Option Outcome) → IfSome o (λ x. (more : List ℕ) × (x.output ≡ [] ++ more))
  nothing_within None = tt
  nothing_within (Some x) = (x.output, refl)

  pub within : (command : Command) → Within_ command
  within (commands.Pick wanted) = ((picked (found wanted input)).output, refl)
  within commands.Describe = ([], sym (append-nil (listed listings.Descriptions input).lines))
  within commands.Split = ([], sym (append-nil (octets_of (split_of input).fields)))
  within (commands.Values decimals) = ([], sym (append-nil (listed (listings.Points decimals) input).lines))
  within (commands.Generate count) = ([], sym (append-nil (generated_messages count)))
  within (commands.Create root) = ((created h.schema input).output, refl)
  within (commands.Archive root given workers) = ((archived given (rules_of h.schema) input).output, refl)
  within (commands.Retrieve root workers) = retrieved_within (asked_of h input)
  within (commands.RetrieveOver root layers workers) = over_within (laid_of h layers input)
  within (commands.List root) = whole_early (outcome (commands.List root) h names input)
  within (commands.Axes root) = whole_early (outcome (commands.Axes root) h names input)
  within (commands.Stats root) = whole_early (outcome (commands.Stats root) h names input)
  within (commands.Cubes root) = tt
  within (commands.Session root) = tt
  within (commands.Purge root dataset) = nothing_within (outcome (commands.Purge root dataset) h names input)
  within (commands.Wipe root dataset) = nothing_within (outcome (commands.Wipe root dataset) h names input)
  within (commands.Trial root count workers) = nothing_within (tried h count (trial_rules h.schema))

-- nothing was read or written, and then the report took the line, or a front of it
pub starved : (command : Command) (result : Status) (has : Option Holdings) (sm sn : ℕ) (input left : Option (List ℕ)) (im im' : ℕ) (a : Option (List ℕ)) (km km' : ℕ) (c d : Option (List ℕ)) (m n : ℕ)
    → Told NoMemory no_memory result c d m n
    → Ran command result (object has has sm sn) (object input left im im') (object a a km km') (object c d m n)
starved command result has sm sn input left im im' a km km' c d m n told =
    let idle = is_idle result c d m n told in
    let f = failures (object has has sm sn) (object input left im im') (object a a km km') (object c d m n) in
    record {
      ends = asked_all _ (λ octets h i names an. ends_early f a a c c d (early command h names octets) (troubles command f h i names octets) (outcome command h names octets) NoMemory result no_memory [] m n
          (within h names octets command) refl (record { output = nothing_of a (early command h names octets).output; rest = (early command h names octets).report; is = refl; report = takes_nothing c }) (λ r. r) told) command input has has;
      store_is = idle_store command result idle _ _ input left has;
      words = λ w. not_both result Words idle w refl;
      to_end = λ e. absurd (elim e as (λ _. ⊥) [ inl x ↦ not_both result Done idle x refl | inr x ↦ not_both result Missed idle x refl ]);
      calm = elim idle as (λ _. Calm command result (object input left im im') (object a a km km') (object c d m n)) [
        | inl x ↦ subst (λ y. Calm command y (object input left im im') (object a a km km') (object c d m n)) (sym x) tt
        | inr x ↦ subst (λ y. Calm command y (object input left im im') (object a a km km') (object c d m n)) (sym x) tt
      ];
      input_fault = λ e. absurd (not_both result InputFault idle e refl);
      output_fault = λ e. inr (elim told.told as (λ _. Rose m n) [ inl x ↦ absurd (true≢false (ap starves (sym x.status ∙ e))) | inr x ↦ x.rose ]);
      disk_fault = λ e. absurd (not_both result DiskFault idle e refl);
    }
