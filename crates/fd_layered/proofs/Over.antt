-- `retrieve` over layers: what stands ready for it, and why it is refused.
use Rattle.std.proofs.Common.{◌≡◌, ◌∙◌, ℕ, List, length, map, Option, Some, None, IfSome, sym, ap, subst}
use Rattle.std.specs.Prelude.{Contains, Err, option_map}
use Rattle.fd_disk.specs.Folders.{Holdings}
use Rattle.fd_key.specs.Pairs.{Pair}
use Rattle.fd_schema.specs.declared.place.Place.{Place}
use Rattle.fd_schema.specs.Reading.{seen_place}
use Rattle.fd_request.specs.Expansion.{Keyword, expand}
use Rattle.fd_words.specs.declared.command.Command.TheVariants.{RetrieveOver}
use Rattle.fd_stored.specs.Causes.{Cause}
use Rattle.fd_outcome.specs.Ends.{AmongLaid}
use Rattle.fd_outcome.specs.Layered.{laid_answers, laid_of}
use Rattle.fd_outcome.specs.Outcome.{answered, answered_early, outcome, over_early, refused, retrieved_over}
use Rattle.fd_retrieve.specs.Commands.{IsReadyFor}
use Rattle.fd_retrieve.specs.Open.{Open, table_in}
use Rattle.fd_retrieve.specs.Tables.{datasets_in}
use Rattle.fd_retrieve.proofs.ReadyLemmas.{contains_among}
use Rattle.fd_layered.specs.Chains.{AreChains}
use Rattle.fd_layered.specs.Ready.{IsReady, laid_with}
use Rattle.fd_layered.proofs.PreparingLemmas.{sets_of, sets}

over_ready : (root : List ℕ) (layers : List (List Pair)) (workers : ℕ) (h : Holdings) (octets : List ℕ) (ks : List Keyword) (ps : List Place) (os : List Open) → AreChains (length layers) (expand ks) (map seen_place ps) → IsReady h layers octets ks ps os
    → IsReadyFor (RetrieveOver root layers workers) h octets os (laid_answers (table_in os) (laid_with layers ks ps))
over_ready root layers workers h octets ks ps os chains r = record {
  outcome_is = λ names. ap (retrieved_over h) r.asked ∙ ap (option_map answered) (sym r.answered);
  early_is = λ names. ap (over_early h) r.asked ∙ ap answered_early (sym r.answered);
  each = r.each;
  opens = λ names n among. subst (λ q. AmongLaid q n) (sym r.asked) (subst (λ ds. Contains ds n) (sym (ap sets chains.places ∙ sets_of ps)) (contains_among (datasets_in ps) n (r.among n among)));
}

pub over_told : (root : List ℕ) (layers : List (List Pair)) (workers : ℕ) (has : Option Holdings) (left : Option (List ℕ)) (ks : List Keyword) (ps : List Place) (os : List Open) → AreChains (length layers) (expand ks) (map seen_place ps)
    → IfSome has (λ h. IfSome left (λ octets. IsReady h layers octets ks ps os)) → IfSome has (λ h. IfSome left (λ octets. IsReadyFor (RetrieveOver root layers workers) h octets os (laid_answers (table_in os) (laid_with layers ks ps))))
over_told root layers workers None left ks ps os chains r = tt
over_told root layers workers (Some h) None ks ps os chains r = tt
over_told root layers workers (Some h) (Some octets) ks ps os chains r = over_ready root layers workers h octets ks ps os chains r

pub over_refuses : (root : List ℕ) (layers : List (List Pair)) (workers : ℕ) (h : Holdings) (names : List (List ℕ)) (octets : List ℕ) (cause : Cause) → laid_of h layers octets ≡ Err cause → outcome (RetrieveOver root layers workers) h names octets ≡ Some (refused cause)
over_refuses root layers workers h names octets cause is = ap (retrieved_over h) is
