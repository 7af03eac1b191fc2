-- The partial request that an input is.
use Rattle.std.proofs.Common.{◌≡◌, ◌∙◌, ◌<◌, ◌≤◌, ℕ, Bool, true, false, List, [], length, Option, Some, None, IfSome, ap, inl, inr, arith}
use Rattle.std.specs.Prelude.{◌⊎◌, Result, Ok, Err, nat_lt, codes, if◌then◌else◌}
use Rattle.std.proofs.lemmas.Bool.Decides.{nat_tests}
use Rattle.fd_io.specs.Streams.{Gives}
use Rattle.fd_disk.specs.Folders.{Holdings}
use Rattle.fd_schema.specs.Rules.{Rule}
use Rattle.fd_request.specs.Expansion.{Keyword}
use Rattle.fd_request.specs.Grammar.{Fault, TooLong, keywords_of}
use Rattle.fd_request.specs.Limits.{partial_of, too_long, within_size}
use Rattle.fd_outcome.specs.Asking.{in_request, partial_in, ◌then◌}
use Rattle.fd_stored.specs.Causes.{Cause, InRequest}
use Rattle.fd_telling.specs.declared.stop.Stop.{Stop}
use Rattle.fd_telling.specs.declared.stop.Stop.TheVariants as stops
use Rattle.fd_telling.specs.Stops.{OnRequest}
use Rattle.fd_retrieve.proofs.RequestLemmas.{front_is}
use Rattle.fd_contents.specs.Asked.{IsRuled, Refuses, asked_in, unruled}

too_long_text : (text : List ℕ) (ks : List Keyword) → 65536 < length text → partial_of text ≡ Ok ks → ⊥
unfolding partial_of within_size
too_long_text text ks long is = let passes : nat_lt 65536 (length text) ≡ true = grind (arith, nat_tests) in never (keywords_of (codes "list") text) (rw passes at is)
  where
    never : (r : Result (List Keyword) Fault) → too_long r ≡ Ok ks → ⊥
    never (Ok xs) e = absurd cc
    never (Err f) e = go (nat_lt f.at 65536) e
      where
        go : (b : Bool) → (if b then Err f else Err (record { at = 65536; kind = TooLong })) ≡ Ok ks → ⊥
        go true e = absurd cc
        go false e = absurd cc

pub partial_read : (left0 left : Option (List ℕ)) (text : List ℕ) (ks : List Keyword) → Gives left0 left text → IfSome left0 (λ (x : List ℕ). (left ≡ Some []) ⊎ (length text ≡ 68719476736)) → length text ≤ 68719476736
    → partial_of text ≡ Ok ks → IfSome left0 (λ octets. (partial_in octets ≡ Ok ks) × (left ≡ Some []))
partial_read None left text ks given whole few is = tt
partial_read (Some octets) left text ks given whole few is = (
  ap (λ t. in_request (partial_of t)) (front_is octets left text 68719476736 given whole few) ∙ ap in_request is,
  elim whole as (λ _. left ≡ Some []) [ inl end ↦ end | inr long ↦ absurd (too_long_text text ks (omega (arith, long)) is) ],
)

pub partial_refused : (left0 left : Option (List ℕ)) (text : List ℕ) (fault : Fault) → Gives left0 left text → IfSome left0 (λ (x : List ℕ). (left ≡ Some []) ⊎ (length text ≡ 68719476736)) → length text ≤ 68719476736
    → partial_of text ≡ Err fault → IfSome left0 (λ octets. partial_in octets ≡ Err (InRequest fault))
partial_refused None left text fault given whole few is = tt
partial_refused (Some octets) left text fault given whole few is = ap (λ t. in_request (partial_of t)) (front_is octets left text 68719476736 given whole few) ∙ ap in_request is

-- ---- behind the rules of the schema

asked_by : (h : Holdings) (octets : List ℕ) → IsRuled h.schema → asked_in h octets ≡ partial_in octets
asked_by h octets ruled = ap (λ (r : Result (List Rule) Cause). r then λ rules. partial_in octets) ruled.1

pub asked_read : (has : Option Holdings) (left0 : Option (List ℕ)) (after : List ℕ → Type 0) (ks : List Keyword) → IfSome has (λ h. IsRuled h.schema) → IfSome left0 (λ octets. (partial_in octets ≡ Ok ks) × after octets)
    → IfSome has (λ h. IfSome left0 (λ octets. asked_in h octets ≡ Ok ks))
asked_read None left0 after ks ruled read = tt
asked_read (Some h) None after ks ruled read = tt
asked_read (Some h) (Some octets) after ks ruled read = asked_by h octets ruled ∙ read.0

refused_by : {F : Type 0} (stop : Stop F) (h : Holdings) (octets : List ℕ) → IsRuled h.schema → OnRequest stop (partial_in octets) → Refuses stop (λ cause. asked_in h octets ≡ Err cause)
refused_by (stops.Disk f) h octets ruled on = tt
refused_by stops.Input h octets ruled on = tt
refused_by stops.Missing h octets ruled on = absurd on
refused_by (stops.Schema line kind) h octets ruled on = absurd on
refused_by (stops.Request at kind) h octets ruled on = asked_by h octets ruled ∙ on
refused_by (stops.NoRule text) h octets ruled on = absurd on
refused_by (stops.NoLayer layer text) h octets ruled on = absurd on
refused_by stops.TooMany h octets ruled on = absurd on
refused_by (stops.Broken dataset broken) h octets ruled on = absurd on
refused_by stops.NoMemory h octets ruled on = tt

pub asked_refused : {F : Type 0} (stop : Stop F) (has : Option Holdings) (left0 : Option (List ℕ)) → IfSome has (λ h. IsRuled h.schema) → IfSome left0 (λ octets. OnRequest stop (partial_in octets))
    → IfSome has (λ h. IfSome left0 (λ octets. Refuses stop (λ cause. asked_in h octets ≡ Err cause)))
asked_refused stop None left0 ruled on = tt
asked_refused stop (Some h) None ruled on = tt
asked_refused stop (Some h) (Some octets) ruled on = refused_by stop h octets ruled on

pub refuses_more : {F : Type 0} (stop : Stop F) (P Q : Cause → Type 0) → ((cause : Cause) → P cause → Q cause) → Refuses stop P → Refuses stop Q
refuses_more (stops.Disk f) P Q to says = tt
refuses_more stops.Input P Q to says = tt
refuses_more stops.Missing P Q to says = to _ says
refuses_more (stops.Schema line kind) P Q to says = (says.0, says.1, says.2, to _ says.3)
refuses_more (stops.Request at kind) P Q to says = to _ says
refuses_more (stops.NoRule text) P Q to says = says
refuses_more (stops.NoLayer layer text) P Q to says = says
refuses_more stops.TooMany P Q to says = says
refuses_more (stops.Broken dataset broken) P Q to says = says
refuses_more stops.NoMemory P Q to says = tt

-- a schema that has no rules refuses what is asked
pub asked_unruled : {F : Type 0} (stop : Stop F) (has : Option Holdings) (left0 : Option (List ℕ)) → IfSome has (λ h. Refuses stop (unruled h.schema)) → IfSome has (λ h. IfSome left0 (λ octets. Refuses stop (λ cause. asked_in h octets ≡ Err cause)))
asked_unruled stop None left0 says = tt
asked_unruled stop (Some h) None says = tt
asked_unruled stop (Some h) (Some octets) says = refuses_more stop (unruled h.schema) (λ cause. asked_in h octets ≡ Err cause) (λ cause is. ap (λ (r : Result (List Rule) Cause). r then λ rules. partial_in octets) is) says
