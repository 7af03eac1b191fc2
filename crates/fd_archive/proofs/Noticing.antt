-- What is noticed at each exit of `archive`: that no dataset of a message was damaged, and that nothing is read without rules.
use Rattle.std.proofs.Common.{◌≡◌, ◌∙◌, ℕ, false, true≢false, List, Option, Some, None, refl, ap, sym, subst, inl, inr}
use Rattle.std.specs.Prelude.{◌⊎◌, IfSome, Ok, Contains}
use Rattle.std.specs.Result.{is_err}
use Rattle.fd_disk.specs.Folders.{Holdings}
use Rattle.fd_key.specs.Pairs as keys
use Rattle.fd_schema.specs.Rules.{Rule}
use Rattle.fd_words.specs.declared.command.Command.TheVariants.{Archive}
use Rattle.fd_split.specs.declared.refusal.Refusal.{Refusal}
use Rattle.fd_stored.specs.declared.status.Status.{Status}
use Rattle.fd_stored.specs.declared.status.Status.TheVariants.{Damaged, Limit, NoMemory}
use Rattle.fd_stored.specs.Archiving.{datasets_in, taken}
use Rattle.fd_outcome.specs.Asking.{rules_of}
use Rattle.fd_outcome.specs.Ends.{AmongTaken, no_memory}
use Rattle.fd_outcome.specs.Noticing.{Noticed, Notices, ReadsFitly}
use Rattle.fd_outcome.specs.Objects.{Object, object}
use Rattle.fd_stored.specs.Refusals.{refusal_status}
use Rattle.fd_stored.specs.Store.{AreNames}
use Rattle.fd_outcome.specs.Told.{Told, ToldOrNoMemory}
use Rattle.fd_telling.specs.Stops.{ToldSome}
use Rattle.fd_outcome.proofs.Exits.{by_refusal, is_whole, never_whole}
use Rattle.fd_bulk.specs.Archived.{IsWholeTaken}
use Rattle.fd_bulk.specs.declared.bulk.Bulk.{Bulk}
use Rattle.fd_bulk.specs.declared.bulk.BulkFault.{BulkFault}
use Rattle.fd_bulk.specs.declared.bulk.BulkFault.TheVariants as faults
use Rattle.fd_archive.specs.Kept.{NoneDamaged, WholeKept}
use Rattle.fd_archive.specs.Telling.{ToldFault}

-- ---- a line that isn't that of 0 or 1 was told, or couldn't be

pub told_part : (s : Status) (text : List ℕ) (result : Status) (c d : Option (List ℕ)) (m n : ℕ) → Told s text result c d m n → is_whole s ≡ false → is_whole result ≡ false
told_part s text result c d m n told part = elim told.told as (λ _. is_whole result ≡ false) [ inl w ↦ ap is_whole w.status ∙ part | inr w ↦ ap is_whole w.status ]

pub either_part : (s : Status) (text : List ℕ) (result : Status) (c d : Option (List ℕ)) (m n : ℕ) → ToldOrNoMemory s text result c d m n → is_whole s ≡ false → is_whole result ≡ false
either_part s text result c d m n told part = elim told as (λ _. is_whole result ≡ false) [ inl t ↦ told_part s text result c d m n t part | inr t ↦ told_part NoMemory no_memory result c d m n t refl ]

refusal_part : (refusal : Refusal) → is_whole (refusal_status refusal) ≡ false
refusal_part refusal = by_refusal (λ s. is_whole s ≡ false) refl refl refusal

-- what is wrong in the stored schema
pub some_part : (result : Status) (c d : Option (List ℕ)) (m n : ℕ) → ToldSome result c d m n → is_whole result ≡ false
some_part result c d m n (s, text, which, told) = told_part s text result c d m n told (part which)
  where
    part : (s ≡ Damaged) ⊎ ((s ≡ Limit) ⊎ (s ≡ NoMemory)) → is_whole s ≡ false
    part (inl e) = ap is_whole e
    part (inr (inl e)) = ap is_whole e
    part (inr (inr e)) = ap is_whole e

-- why not all is stored
pub fault_part : {X : Type 0} (fault : BulkFault X) (result : Status) (c d : Option (List ℕ)) (m n : ℕ) → ToldFault fault result c d m n → is_whole result ≡ false
fault_part (faults.Input f) result c d m n told = told_part _ _ result c d m n told refl
fault_part (faults.Message at) result c d m n told = either_part _ _ result c d m n told.2 (refusal_part told.0)
fault_part (faults.NoMap number field) result c d m n told = either_part _ _ result c d m n told refl
fault_part (faults.Cut t) result c d m n told = either_part _ _ result c d m n told refl
fault_part (faults.Key number fault) result c d m n told = either_part _ _ result c d m n told refl
fault_part (faults.NoRule number text) result c d m n told = either_part _ _ result c d m n told refl
fault_part faults.Disk result c d m n told = told_part _ _ result c d m n told refl
fault_part (faults.NotATable dataset at want found) result c d m n told = either_part _ _ result c d m n told refl
fault_part (faults.Damaged dataset damage) result c d m n told = either_part _ _ result c d m n told refl
fault_part (faults.TableFull count) result c d m n told = told_part _ _ result c d m n told refl
fault_part (faults.TooMany count) result c d m n told = told_part _ _ result c d m n told refl
fault_part faults.InputLimit result c d m n told = told_part _ _ result c d m n told refl
fault_part faults.NoMemory result c d m n told = told_part _ _ result c d m n told refl

-- ---- the exits

module _ (root : List ℕ) (given : List keys.Pair) (workers : ℕ) (start now : Option Holdings) (sm sn : ℕ) (before after : Option (List ℕ)) (im io : ℕ) where
  abbrev Store : Object Holdings
  Store = object start now sm sn

  abbrev Input : Object (List ℕ)
  Input = object before after im io

  module _ (output report : Object (List ℕ)) (result : Status) where
    abbrev Says : Type 0
    Says = Notices (Archive root given workers) result Store Input output report

    pub part_notices : is_whole result ≡ false → Says
    part_notices part whole = never_whole _ result part whole

    -- all is stored, and none of its datasets was damaged
    pub whole_notices : (rules : List Rule) → IfSome start (λ h. rules_of h.schema ≡ Ok rules) → (bulk : Bulk) → WholeKept workers rules given before after start now bulk → Says
    whole_notices rules ruled bulk w whole = go before start now ruled w.undamaged w.taken_is
      where
        go : (o : Option (List ℕ)) (s n : Option Holdings) → IfSome s (λ h. rules_of h.schema ≡ Ok rules) → IfSome s (NoneDamaged w.all) → IfSome o (λ octets. IsWholeTaken w.all bulk.junk (taken rules given octets))
            → IfSome o (λ octets. IfSome s (λ h. IfSome n (λ i. (names : List (List ℕ)) → AreNames h names → Noticed (Archive root given workers) result h names octets output.before output.now report.before report.now)))
        go None s n r u t = tt
        go (Some octets) None n r u t = tt
        go (Some octets) (Some h) None r u t = tt
        go (Some octets) (Some h) (Some i) r u t = λ names an name opens.
            let among : AmongTaken given (Ok rules) octets name = subst (λ x. AmongTaken given x octets name) r opens in
            u name (subst (λ ss. Contains (datasets_in ss) name) t.stored among)

  -- ---- nothing is read without rules

  pub ruled_fitly : (rules : List Rule) → IfSome start (λ h. rules_of h.schema ≡ Ok rules) → ReadsFitly (Archive root given workers) Store Input
  ruled_fitly rules ruled = go start ruled
    where
      go : (s : Option Holdings) → IfSome s (λ h. rules_of h.schema ≡ Ok rules) → ReadsFitly (Archive root given workers) (object s now sm sn) Input
      go None r = tt
      go (Some h) r = λ unfit. absurd (true≢false (sym unfit ∙ ap is_err r))

  pub unread_fitly : after ≡ before → io ≡ im → ReadsFitly (Archive root given workers) Store Input
  unread_fitly same calm = go start
    where
      go : (s : Option Holdings) → ReadsFitly (Archive root given workers) (object s now sm sn) Input
      go None = tt
      go (Some h) = λ unfit. record { same = same; calm = calm }
