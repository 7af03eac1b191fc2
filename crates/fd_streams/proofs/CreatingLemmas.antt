-- What comes of a text that is to be a schema.
use Rattle.std.proofs.Common.{◌≡◌, ◌∙◌, ◌<◌, ℕ, Bool, true, false, List, [], ◌++◌, length, Option, Some, None, refl, sym, ap, subst, inl, inr, append-nil, arith}
use Rattle.std.specs.Prelude.{◌⊎◌, IfSome, Result, Ok, Err, nat_lt}
use Rattle.std.proofs.lemmas.List.{length-append}
use Rattle.std.proofs.lemmas.Bool.Decides.{nat_tests}
use Rattle.fd_io.specs.Streams.{Gives}
use Rattle.fd_schema.specs.Rules.{Rule}
use Rattle.fd_schema.specs.Grammar.{Fault, TooLong, schema_of}
use Rattle.fd_stored.specs.Causes.{InSchema}
use Rattle.fd_streams.specs.Creating.{IsSchemaText}
use Rattle.fd_outcome.specs.Outcome.{refused, planted}

pub text_read : (octets : List ℕ) (left : Option (List ℕ)) (text : List ℕ) → Gives (Some octets) left text → IfSome (Some octets) (λ (x : List ℕ). (left ≡ Some []) ⊎ (length text ≡ 65537)) → IsSchemaText octets left text
text_read octets None text given whole = absurd given
text_read octets (Some rest) text given (inl end) = inl (sym (given ∙ ap (λ o. text ++ o) (rest_is rest end) ∙ append-nil text), end)
  where
    rest_is : (rest : List ℕ) → (let o : Option (List ℕ) = Some rest in o ≡ Some []) → rest ≡ []
    rest_is rest e = cc
text_read octets (Some rest) text given (inr long) = let sum = ap length given ∙ length-append text rest in inr (omega (arith, long), omega (arith, long, sum))

too_long : (text : List ℕ) → 65536 < length text → schema_of text ≡ Err (record { at = 0; kind = TooLong })
unfolding schema_of
too_long text long = let passes : nat_lt 65536 (length text) ≡ true = grind (arith, nat_tests) in rw passes refl

-- a text that is no schema refuses the input
pub refused_so : (octets : List ℕ) (left : Option (List ℕ)) (text : List ℕ) (fault : Fault) → IsSchemaText octets left text → schema_of text ≡ Err fault → planted octets (schema_of octets) ≡ refused (InSchema text fault)
refused_so octets left text fault (inl (same, end)) is = subst (λ t. planted t (schema_of t) ≡ refused (InSchema text fault)) same (ap (planted text) is)
refused_so octets left text fault (inr (long, more)) is =
    ap (planted octets) (too_long octets more) ∙ sym (ap (λ f. refused (InSchema text f)) (fault_is (too_long text long)))
  where
    error_of : Result (List Rule) Fault → Fault
    error_of (Ok rules) = record { at = 0; kind = TooLong }
    error_of (Err f) = f

    fault_is : schema_of text ≡ Err (record { at = 0; kind = TooLong }) → fault ≡ record { at = 0; kind = TooLong }
    fault_is e = ap error_of (sym is ∙ e)

-- a text that is one is the whole input
pub whole_so : (octets : List ℕ) (left : Option (List ℕ)) (text : List ℕ) (rules : List Rule) → IsSchemaText octets left text → schema_of text ≡ Ok rules → (text ≡ octets) × (left ≡ Some [])
whole_so octets left text rules (inl both) is = both
whole_so octets left text rules (inr (long, more)) is = absurd (differ (sym is ∙ too_long text long))
  where
    is_ok : Result (List Rule) Fault → Bool
    is_ok (Ok rules) = true
    is_ok (Err f) = false

    differ : (let r : Result (List Rule) Fault = Ok rules in r ≡ Err (record { at = 0; kind = TooLong })) → ⊥
    differ e = absurd cc
