-- A stream is split, one message after the other.
use Rattle.std.proofs.Common.{◌≡◌, ℕ, ◌+◌, Bool, true, false, List, [], ◌∷◌, ◌++◌, length, map, Some, None, Result, Ok, Err, refl, sym, ap, ap₂, subst, ◌∙◌, append-nil}
use Rattle.std.proofs.lemmas.List.{map-append}
use Rattle.std.proofs.lemmas.List.Elements.{All-nil, All-push}
use Rattle.fd_sections.specs.declared.refusal.BadAt.{BadAt}
use Rattle.fd_sections.specs.declared.refusal.Truncated.{Truncated}
use Rattle.fd_sections.specs.Message.{Sections, IsMessage, message_octets}
use Rattle.fd_sections.specs.Progress.{Progress}
use Rattle.fd_sections.specs.Splitting.{answer, fed, finished, progress, start}
use Rattle.fd_sections.specs.Stream.{Bad_end, first, stream}
use Rattle.fd_sections.specs.Joining.{IsStream, IsWaiting, SplitsOn}
use Rattle.fd_sections.proofs.Joins.{all_ended, all_ended_so, all_refused_so, message_so, splits_all, splits_then, takes_so, waits_so}
use Rattle.fd_split.specs.declared.refusal.Refusal.{Refusal}
use Rattle.fd_split.specs.declared.refusal.Refusal.TheVariants as refusals
use Rattle.fd_split.specs.Inputs.{refused}
use Rattle.fd_session.specs.Inputs.{octets_of, refusal_of}
use Rattle.fd_session.specs.Splits.{HasGiven, Measures}
use Rattle.fd_session.specs.Split.{IsRefusal, IsSplit}
use Rattle.fd_session.specs.declared.splitting.Unsplit.{Unsplit}
use Rattle.fd_session.specs.declared.splitting.Unsplit.TheVariants as unsplits

pub measured_one : (p q : Progress) (m : Sections) → answer p (first p.rest) ≡ Ok (Some m) → q ≡ progress p (first p.rest) → Measures true p q
measured_one p q m e goes = (takes_so p q m e goes).1

pub measured_none : (p q : Progress) → answer p (first p.rest) ≡ Ok None → q ≡ progress p (first p.rest) → Measures false p q
measured_none p q e goes = (waits_so p q e goes).1

-- a stream behind which more comes than an input may have
past_limit : (octets : List ℕ) (ms : List Sections) (r : Result ℕ Truncated) → IsStream octets ms r → refusal_of true (stream octets) ≡ Some refusals.Input
past_limit octets ms (Ok junk) is = ap (refusal_of true) is
past_limit octets ms (Err t) (number, (junk, is)) = ap (refusal_of true) is

module _ (octets : List ℕ) where
  pub given_nothing : (p : Progress) → p ≡ fed start octets → HasGiven octets p []
  given_nothing p e = subst (λ (q : Progress). HasGiven octets q []) (sym e) (record { given = []; messages_are = refl; splits = splits_all octets; each = All-nil (λ (x : List ℕ). (s : Sections) × IsMessage x s) })

  module _ (p : Progress) (messages : List (List ℕ)) (h : HasGiven octets p messages) where
    pub given_none : (q : Progress) → answer p (first p.rest) ≡ Ok None → q ≡ progress p (first p.rest) → HasGiven octets q messages
    given_none q e goes = record {
      given = h.given;
      messages_are = h.messages_are;
      splits = subst (λ (ms : List Sections). SplitsOn start q octets ms) (append-nil h.given) (splits_then start p q octets h.given [] h.splits (waits_so p q e goes).0);
      each = h.each;
    }

    pub given_one : (q : Progress) (m : Sections) (bytes : List ℕ) → answer p (first p.rest) ≡ Ok (Some m) → q ≡ progress p (first p.rest) → bytes ≡ message_octets m → HasGiven octets q (messages ++ bytes ∷ [])
    given_one q m bytes e goes are = record {
      given = h.given ++ m ∷ [];
      messages_are = ap₂ (λ (xs : List (List ℕ)) (b : List ℕ). xs ++ b ∷ []) h.messages_are are ∙ sym (map-append message_octets h.given (m ∷ []));
      splits = splits_then start p q octets h.given (m ∷ []) h.splits (takes_so p q m e goes).0;
      each = All-push (λ (x : List ℕ). (s : Sections) × IsMessage x s) messages bytes h.each (m, subst (λ (b : List ℕ). IsMessage b m) (sym are) (message_so p m e));
    }

    pub refused_there : (at : BadAt) (r : Refusal) → answer p (first p.rest) ≡ Err at → ((past : Bool) (n : ℕ) → at.number ≡ n + 1 → refused past n (Bad_end at.bad) ≡ Some r) → (past : Bool) → refusal_of past (stream octets) ≡ Some r
    refused_there at r e tells past =
        let b = all_refused_so p octets h.given at h.splits e in
        ap (refusal_of past) (ap stream (sym (append-nil octets)) ∙ b.1.1 []) ∙ tells past (length h.given) b.0

    -- more comes than an input may have
    pub ends_past : IsWaiting p → refusal_of true (stream octets) ≡ Some refusals.Input
    ends_past w = past_limit octets h.given (finished p (first p.rest)) (all_ended p octets h.given h.splits w)

    pub ends_whole : (junk : ℕ) → IsWaiting p → Ok junk ≡ finished p (first p.rest) → (messages ≡ octets_of (stream octets)) × (refusal_of false (stream octets) ≡ None)
    ends_whole junk w done =
        let is = all_ended_so p octets h.given (Ok junk) h.splits w done in
        (h.messages_are ∙ ap octets_of (sym is), ap (refusal_of false) is)

    pub ends_cut : (t : Truncated) → IsWaiting p → Err t ≡ finished p (first p.rest) → refusal_of false (stream octets) ≡ Some (refusals.Cut t)
    ends_cut t w done =
        let is = all_ended_so p octets h.given (Err t) h.splits w done in
        ap (refusal_of false) is.1.1 ∙ ap (λ (n : ℕ). Some (refusals.Cut (record { number = n; have = t.have; want = t.want }))) (sym is.0)

    pub refused_now : (e : Unsplit) (past : Bool) → IsRefusal e (λ r. (others : List ℕ) (more : Bool) → HasGiven others p messages → refusal_of more (stream others) ≡ Some r) → IsSplit octets past (Err e)
    refused_now (unsplits.Refused r) past all = all octets past h
    refused_now unsplits.NoMemory past all = tt
