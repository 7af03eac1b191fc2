-- The request that an input is.
use Rattle.std.proofs.Common.{◌≡◌, ◌∙◌, ◌<◌, ◌≤◌, ℕ, zero, suc, Bool, true, false, List, [], ◌∷◌, ◌++◌, length, take, Option, Some, None, IfSome, refl, ap, subst, inl, inr, append-nil, arith}
use Rattle.std.specs.Prelude.{◌⊎◌, Result, Ok, Err, nat_lt, codes, if◌then◌else◌}
use Rattle.std.proofs.lemmas.Bool.Decides.{nat_tests}
use Rattle.fd_io.specs.Streams.{Gives}
use Rattle.fd_request.specs.Expansion.{Keyword}
use Rattle.fd_request.specs.Grammar.{Fault, TooLong, keywords_of, ◌>>=◌}
use Rattle.fd_request.specs.Limits.{request_of, too_long, within_limits, within_size}
use Rattle.fd_outcome.specs.Asking.{in_request, request_in}
use Rattle.fd_stored.specs.Causes.{InRequest}

take_all : (xs : List ℕ) (n : ℕ) → length xs ≤ n → take n xs ≡ xs
take_all [] zero le = refl
take_all [] (suc n) le = refl
take_all (x ∷ xs) zero le = absurd (omega (arith, le))
take_all (x ∷ xs) (suc n) le = ap (λ l. x ∷ l) (take_all xs n (omega (arith, le)))

take_front : (xs ys : List ℕ) (n : ℕ) → length xs ≡ n → take n (xs ++ ys) ≡ xs
take_front [] ys n is = subst (λ k. take k ys ≡ []) is refl
take_front (x ∷ xs) ys zero is = absurd (omega (arith, is))
take_front (x ∷ xs) ys (suc n) is = ap (λ l. x ∷ l) (take_front xs ys n (omega (arith, is)))

-- as many octets of the input as an input may have
pub front_is : (octets : List ℕ) (left : Option (List ℕ)) (text : List ℕ) (n : ℕ) → Gives (Some octets) left text → (left ≡ Some []) ⊎ (length text ≡ n) → length text ≤ n → take n octets ≡ text
front_is octets None text n given whole few = absurd given
front_is octets (Some rest) text n given (inl end) few =
    let is : octets ≡ text = given ∙ ap (λ o. text ++ o) (rest_is end) ∙ append-nil text in
    ap (take n) is ∙ take_all text n few
  where
    rest_is : (let o : Option (List ℕ) = Some rest in o ≡ Some []) → rest ≡ []
    rest_is e = cc
front_is octets (Some rest) text n given (inr long) few = ap (take n) given ∙ take_front text rest n long

too_long_text : (text : List ℕ) (ks : List Keyword) → 65536 < length text → request_of text ≡ Ok ks → ⊥
unfolding request_of within_size
too_long_text text ks long is = let passes : nat_lt 65536 (length text) ≡ true = grind (arith, nat_tests) in never (keywords_of (codes "retrieve") text >>= λ ks. within_limits (length text) ks) (rw passes at is)
  where
    never : (r : Result (List Keyword) Fault) → too_long r ≡ Ok ks → ⊥
    never (Ok xs) e = absurd cc
    never (Err f) e = go (nat_lt f.at 65536) e
      where
        go : (b : Bool) → (if b then Err f else Err (record { at = 65536; kind = TooLong })) ≡ Ok ks → ⊥
        go true e = absurd cc
        go false e = absurd cc

pub request_read : (left0 left : Option (List ℕ)) (text : List ℕ) (ks : List Keyword) → Gives left0 left text → IfSome left0 (λ (x : List ℕ). (left ≡ Some []) ⊎ (length text ≡ 68719476736)) → length text ≤ 68719476736
    → request_of text ≡ Ok ks → IfSome left0 (λ octets. (request_in octets ≡ Ok ks) × (left ≡ Some []))
request_read None left text ks given whole few is = tt
request_read (Some octets) left text ks given whole few is = (
  ap (λ t. in_request (request_of t)) (front_is octets left text 68719476736 given whole few) ∙ ap in_request is,
  elim whole as (λ _. left ≡ Some []) [ inl end ↦ end | inr long ↦ absurd (too_long_text text ks (omega (arith, long)) is) ],
)

pub request_refused : (left0 left : Option (List ℕ)) (text : List ℕ) (fault : Fault) → Gives left0 left text → IfSome left0 (λ (x : List ℕ). (left ≡ Some []) ⊎ (length text ≡ 68719476736)) → length text ≤ 68719476736
    → request_of text ≡ Err fault → IfSome left0 (λ octets. request_in octets ≡ Err (InRequest fault))
request_refused None left text fault given whole few is = tt
request_refused (Some octets) left text fault given whole few is = ap (λ t. in_request (request_of t)) (front_is octets left text 68719476736 given whole few) ∙ ap in_request is
