-- `retrieve` without layers: what stands ready for it, and why it is refused.
use Rattle.std.proofs.Common.{◌≡◌, ◌∙◌, ℕ, List, length, Option, Some, None, IfSome, sym, ap, subst, arith}
use Rattle.std.specs.Prelude.{◌⊎◌, Contains, Result, Ok, Err, IfOk, IsOk, option_map}
use Rattle.fd_disk.specs.Folders.{Holdings}
use Rattle.fd_schema.specs.declared.place.Place.{Place}
use Rattle.fd_request.specs.Expansion.{Keyword, expand}
use Rattle.fd_words.specs.declared.command.Command.TheVariants.{Retrieve}
use Rattle.fd_outcome.specs.Asking.{Answer, answers, asked_of}
use Rattle.fd_stored.specs.Causes.{Cause}
use Rattle.fd_outcome.specs.Ends.{AmongAsked, Tells}
use Rattle.fd_outcome.specs.Noticing.{AnsweredEach, AreUndamaged, IsAnswer, Noticed, Notices}
use Rattle.fd_outcome.specs.Objects.{Object}
use Rattle.fd_stored.specs.Store.{AreNames, table_at}
use Rattle.fd_stored.specs.declared.status.Status.{Status}
use Rattle.fd_stored.specs.declared.status.Status.TheVariants.{Done, Missed}
use Rattle.fd_ahead.specs.declared.located.Located.{Located}
use Rattle.fd_outcome.specs.Outcome.{answered, answered_early, outcome, refused, retrieved, retrieved_early}
use Rattle.fd_retrieve.specs.Commands.{IsReadyFor}
use Rattle.fd_answering.specs.Located.{AreAt}
use Rattle.fd_retrieve.specs.Located.{AreLocated}
use Rattle.fd_retrieve.specs.Open.{Open, table_in}
use Rattle.fd_retrieve.specs.Ready.{IsReady, asked_at}
use Rattle.fd_retrieve.specs.Tables.{datasets_in}
use Rattle.fd_retrieve.proofs.Noticing.{each_answered, fielded, stand_all, standing_at, zip_of}
use Rattle.fd_retrieve.proofs.ReadyLemmas.{among_contained, contains_among, datasets_at}

plain_ready : (root : List ℕ) (workers : ℕ) (h : Holdings) (octets : List ℕ) (ks : List Keyword) (ps : List Place) (os : List Open) → length ps ≡ length (expand ks) → IsReady h octets ks ps os → IsReadyFor (Retrieve root workers) h octets os (answers (table_in os) (asked_at ks ps))
plain_ready root workers h octets ks ps os long r = record {
  outcome_is = λ names. ap (retrieved h) r.asked ∙ ap (option_map answered) (sym r.answered);
  early_is = λ names. ap (retrieved_early h) r.asked ∙ ap answered_early (sym r.answered);
  each = r.each;
  opens = λ names n among. subst (λ q. AmongAsked q n) (sym r.asked) (subst (λ ds. Contains ds n) (sym (datasets_at (expand ks) ps long)) (contains_among (datasets_in ps) n (r.among n among)));
}

pub plain_told : (root : List ℕ) (workers : ℕ) (has : Option Holdings) (left : Option (List ℕ)) (ks : List Keyword) (ps : List Place) (os : List Open) → length ps ≡ length (expand ks) → IfSome has (λ h. IfSome left (λ octets. IsReady h octets ks ps os))
    → IfSome has (λ h. IfSome left (λ octets. IsReadyFor (Retrieve root workers) h octets os (answers (table_in os) (asked_at ks ps))))
plain_told root workers None left ks ps os long r = tt
plain_told root workers (Some h) None ks ps os long r = tt
plain_told root workers (Some h) (Some octets) ks ps os long r = plain_ready root workers h octets ks ps os long r

pub plain_refuses : (root : List ℕ) (workers : ℕ) (h : Holdings) (names : List (List ℕ)) (octets : List ℕ) (cause : Cause) → asked_of h octets ≡ Err cause → outcome (Retrieve root workers) h names octets ≡ Some (refused cause)
plain_refuses root workers h names octets cause is = ap (retrieved h) is

-- ---- what it says whatever is damaged

-- what holds of a value that there is
pub with_ok : {V E : Type 0} (r : Result V E) (P Q : V → Type 0) (R : Type 0) → IsOk r → IfOk r P → IfOk r Q → ((v : V) → P v → Q v → R) → R
with_ok (Ok v) P Q R ok p q f = f v p q
with_ok (Err e) P Q R ok p q f = absurd (cc ok)

-- each key is answered
pub plain_each : (h : Holdings) (octets : List ℕ) (ks : List Keyword) (ps : List Place) (os : List Open) → length ps ≡ length (expand ks) → IsReady h octets ks ps os → (ls : List (Option Located)) → AreLocated os ps ls → (s : Status) (a b c d : Option (List ℕ))
    → ((xs : List Answer) → AreAt os (expand ks) xs ls → Tells s (answered xs) a b c d) → AnsweredEach (IsAnswer (table_at h)) (asked_of h octets) s a b c d
plain_each h octets ks ps os long r ls there s a b c d tells =
    let many = there.long in
    let all = stand_all os (fielded h os r.each (λ n is. r.undamaged n (r.among n is))) (expand ks) ls (many ∙ long) (λ k e lt. there.within k e (omega (arith, many, lt))) in
    subst (λ q. AnsweredEach (IsAnswer (table_at h)) q s a b c d) (sym r.asked) (
      all.0,
      each_answered os (table_at h) (expand ks) ps ls all.0 long (zip_of os ps ls many there.each) all.1 r.tables,
      tells all.0 (standing_at os (expand ks) ls all.0 all.1),
    )

plain_undamaged : (root : List ℕ) (workers : ℕ) (h : Holdings) (names : List (List ℕ)) (octets : List ℕ) (ks : List Keyword) (ps : List Place) (os : List Open) → length ps ≡ length (expand ks) → IsReady h octets ks ps os → AreUndamaged (Retrieve root workers) h names octets
plain_undamaged root workers h names octets ks ps os long r name among =
    let there = subst (λ q. AmongAsked q name) r.asked among in
    r.undamaged name (among_contained (datasets_in ps) name (subst (λ ds. Contains ds name) (datasets_at (expand ks) ps long) there))

pub plain_notices : (root : List ℕ) (workers : ℕ) (s : Status) (store : Object Holdings) (input output report : Object (List ℕ)) (ks : List Keyword) (ps : List Place) (os : List Open) → length ps ≡ length (expand ks)
    → IfSome store.before (λ h. IfSome input.before (λ octets. IsReady h octets ks ps os))
    → ((h : Holdings) (octets : List ℕ) → IsReady h octets ks ps os → (s ≡ Done) ⊎ (s ≡ Missed) → AnsweredEach (IsAnswer (table_at h)) (asked_of h octets) s output.before output.now report.before report.now) → Notices (Retrieve root workers) s store input output report
plain_notices root workers s store input output report ks ps os long ready each whole = go input.before store.before store.now ready
  where
    go : (i : Option (List ℕ)) (b n : Option Holdings) → IfSome b (λ h. IfSome i (λ octets. IsReady h octets ks ps os))
        → IfSome i (λ octets. IfSome b (λ h. IfSome n (λ j. (names : List (List ℕ)) → AreNames h names → Noticed (Retrieve root workers) s h names octets output.before output.now report.before report.now)))
    go None b n r = tt
    go (Some octets) None n r = tt
    go (Some octets) (Some h) None r = tt
    go (Some octets) (Some h) (Some j) r = λ names are. (plain_undamaged root workers h names octets ks ps os long r, each h octets r whole)
