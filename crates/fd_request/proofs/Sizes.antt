-- Requests whole.
use Rattle.std.proofs.Common.{◌≡◌, ℕ, ◌<◌, ◌≤◌, Bool, true, false, cond, ltb, List, length, Option, Some, None, Result, Ok, Err, codes, refl, ap, subst, ◌∙◌, sym, arith}
use Rattle.std.proofs.lemmas.Bool.{cond-true, cond-false, lt-ltb, le-ltb, ltb-true, ltb-false}
use Rattle.fd_tokens.specs.declared.refusal.Refusal.{Refusal}
use Rattle.fd_tokens.specs.declared.refusal.Refusal.TheVariants as refusals
use Rattle.fd_request.specs.declared.fault.RequestKind.{RequestKind}
use Rattle.fd_request.specs.declared.fault.RequestFault.{RequestFault}
use Rattle.fd_request.specs.declared.fault.RequestFault.TheVariants as faults
use Rattle.fd_request.specs.Expansion.{Keyword, expand}
use Rattle.fd_request.specs.Grammar.{Wrong, Fault, ◌>>=◌, wrong, TooLong, TooMany, KeyTooLong, keywords_of}
use Rattle.fd_request.specs.Limits.{too_many, longest_key, within_count, within_limits, too_long, within_size, request_of, partial_of}
use Rattle.fd_request.specs.Reading.{Fails, GivesKeywords, seen_kind}
use Rattle.fd_request.specs.Requests.{IsFaultOf, IsPlace}
use Rattle.fd_request.proofs.Places.{Within, fails_within, places_within}

-- a text that isn't over the size
pub small_size : (size : ℕ) (read : Result (List Keyword) Fault) → size ≤ 65536 → within_size size read ≡ read
unfolding within_size
small_size size read le = cond-false (ltb 65536 size) (too_long read) read (le-ltb 65536 size le)

large_size : (size : ℕ) (read : Result (List Keyword) Fault) → 65536 < size → within_size size read ≡ too_long read
unfolding within_size
large_size size read lt = cond-true (ltb 65536 size) (too_long read) read (lt-ltb 65536 size lt)

-- what is wrong before that place stays
before_size : (size at : ℕ) (kind : RequestKind) (read : Result (List Keyword) Fault) → at < 65536 → read ≡ wrong at (seen_kind kind) → within_size size read ≡ wrong at (seen_kind kind)
unfolding within_size
before_size size at kind read lt h = go (ltb 65536 size)
  where
    go : (b : Bool) → cond b (too_long read) read ≡ wrong at (seen_kind kind)
    go true = ap too_long h ∙ cond-true (ltb at 65536) (wrong at (seen_kind kind)) (wrong 65536 TooLong) (lt-ltb at 65536 lt)
    go false = h

behind_size : (size at : ℕ) (kind : RequestKind) (read : Result (List Keyword) Fault) → 65536 < size → 65536 ≤ at → read ≡ wrong at (seen_kind kind) → within_size size read ≡ wrong 65536 TooLong
behind_size size at kind read large le h =
    large_size size read large ∙ ap too_long h ∙ cond-false (ltb at 65536) (wrong at (seen_kind kind)) (wrong 65536 TooLong) (le-ltb at 65536 le)

pub fault_before : (size at : ℕ) (kind : RequestKind) → at < 65536 → IsFaultOf size (refusals.At at kind) (faults.At at kind)
fault_before size at kind lt read h = before_size size at kind read lt h

pub fault_small : (size at : ℕ) (kind : RequestKind) → size ≤ 65536 → IsFaultOf size (refusals.At at kind) (faults.At at kind)
fault_small size at kind le read h = small_size size read le ∙ h

pub fault_large : (size at : ℕ) (kind : RequestKind) (fault : RequestFault) → 65536 < size → 65536 ≤ at → GivesKeywords (Err fault) (wrong 65536 TooLong) → IsFaultOf size (refusals.At at kind) fault
fault_large size at kind fault large le is read h =
    subst (λ (r : Result (List Keyword) Fault). GivesKeywords (Err fault) r) (sym (behind_size size at kind read large le h)) is

-- ---- requests

-- limits name the end of the text
limits_are : (end : ℕ) (ks : List Keyword) → Within end (within_limits end ks)
unfolding within_limits
limits_are end ks = go (too_many 1 ks)
  where
    go : (o : Option ℕ) → Within end (within_count end o ks)
    go (Some count) = omega arith
    go None = length_go (ltb 255 (longest_key (expand ks)))
      where
        length_go : (b : Bool) → Within end (cond b (wrong end (KeyTooLong (longest_key (expand ks)))) (Ok ks))
        length_go true = omega arith
        length_go false = tt

large_limits : (end : ℕ) (ks : List Keyword) → 65536 < end → too_long (within_limits end ks) ≡ wrong 65536 TooLong
unfolding within_limits
large_limits end ks large = go (too_many 1 ks)
  where
    go : (o : Option ℕ) → too_long (within_count end o ks) ≡ wrong 65536 TooLong
    go (Some count) = cond-false (ltb end 65536) (wrong end (TooMany count)) (wrong 65536 TooLong) (le-ltb end 65536 (omega arith))
    go None = length_go (ltb 255 (longest_key (expand ks)))
      where
        length_go : (b : Bool) → too_long (cond b (wrong end (KeyTooLong (longest_key (expand ks)))) (Ok ks)) ≡ wrong 65536 TooLong
        length_go true = cond-false (ltb end 65536) (wrong end (KeyTooLong (longest_key (expand ks)))) (wrong 65536 TooLong) (le-ltb end 65536 (omega arith))
        length_go false = refl

goes_on : (e : Refusal RequestKind) (r : Result (List Keyword) Fault) (f : List Keyword → Result (List Keyword) Fault) → Fails e r → Fails e (r >>= f)
goes_on refusals.NoMemory r f h = tt
goes_on (refusals.At at kind) r f h = ap (λ (x : Result (List Keyword) Fault). x >>= f) h

pub reading_place : (e : Refusal RequestKind) (verb text : List ℕ) → Fails e (keywords_of verb text) → IsPlace (length text) e
reading_place e verb text h = fails_within (length text) e (keywords_of verb text) h (places_within verb text)

pub limit_place : (e : Refusal RequestKind) (end : ℕ) (ks : List Keyword) → Fails e (within_limits end ks) → IsPlace end e
limit_place e end ks h = fails_within end e (within_limits end ks) h (limits_are end ks)

-- what is refused before the limits
still : (n : ℕ) (read : Result (List Keyword) Fault) (at : ℕ) (kind : Wrong) → within_size n read ≡ wrong at kind → within_size n (read >>= λ ks. within_limits n ks) ≡ wrong at kind
still n (Err f) at kind h = h
still n (Ok ks) at kind h = by (ltb 65536 n) refl
  where
    by : (b : Bool) → ltb 65536 n ≡ b → within_size n (within_limits n ks) ≡ wrong at kind
    by true e =
        let lt = ltb-true 65536 n e in
        large_size n (within_limits n ks) lt ∙ large_limits n ks lt ∙ sym (large_size n (Ok ks) lt) ∙ h
    by false e =
        let k : Ok ks ≡ wrong at kind = sym (small_size n (Ok ks) (ltb-false 65536 n e)) ∙ h in
        absurd (cc k)

pub keywords_refused : (text : List ℕ) (fault : RequestFault) → GivesKeywords (Err fault) (within_size (length text) (keywords_of (codes "retrieve") text)) → GivesKeywords (Err fault) (request_of text)
unfolding request_of
keywords_refused text (faults.At at kind) h = still (length text) (keywords_of (codes "retrieve") text) at (seen_kind kind) h
keywords_refused text faults.NoMemory h = tt

pub size_refused : (size : ℕ) (read : Result (List Keyword) Fault) (ks : List Keyword) (fault : RequestFault) → 65536 < size → read ≡ Ok ks → GivesKeywords (Err fault) (wrong 65536 TooLong) → GivesKeywords (Err fault) (within_size size read)
size_refused size read ks fault large h is =
    subst (λ (r : Result (List Keyword) Fault). GivesKeywords (Err fault) r) (sym (large_size size read large ∙ ap too_long h)) is

pub limit_refused : (text : List ℕ) (ks : List Keyword) (e : Refusal RequestKind) (fault : RequestFault) → keywords_of (codes "retrieve") text ≡ Ok ks → Fails e (within_limits (length text) ks) → IsFaultOf (length text) e fault → GivesKeywords (Err fault) (request_of text)
unfolding request_of
limit_refused text ks e fault h f is =
    let goes = ap (λ (x : Result (List Keyword) Fault). x >>= λ ks. within_limits (length text) ks) (sym h) in
    is (keywords_of (codes "retrieve") text >>= λ ks. within_limits (length text) ks) (subst (λ (r : Result (List Keyword) Fault). Fails e r) goes f)

pub request_is : (text : List ℕ) (ks : List Keyword) → length text ≤ 65536 → keywords_of (codes "retrieve") text ≡ Ok ks → within_limits (length text) ks ≡ Ok ks → request_of text ≡ Ok ks
unfolding request_of
request_is text ks le h f =
    small_size (length text) (keywords_of (codes "retrieve") text >>= λ ks. within_limits (length text) ks) le
    ∙ ap (λ (x : Result (List Keyword) Fault). x >>= λ ks. within_limits (length text) ks) h ∙ f

-- ---- partial requests

pub partial_refused : (text : List ℕ) (fault : RequestFault) → GivesKeywords (Err fault) (within_size (length text) (keywords_of (codes "list") text)) → GivesKeywords (Err fault) (partial_of text)
unfolding partial_of
partial_refused text fault h = h

pub partial_is : (text : List ℕ) (ks : List Keyword) → length text ≤ 65536 → keywords_of (codes "list") text ≡ Ok ks → partial_of text ≡ Ok ks
unfolding partial_of
partial_is text ks le h = small_size (length text) (keywords_of (codes "list") text) le ∙ h
