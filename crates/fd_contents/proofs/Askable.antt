-- Keys that a request can name, and what is told of keys.
use Rattle.std.proofs.Common.{◌≡◌, ◌∙◌, ◌≤◌, ℕ, Bool, true, false, true≢false, ◌||◌, cond, List, [], ◌∷◌, length, Some, None, is_some, refl, sym, ap, subst, nat_lt, inl, inr}
use Rattle.std.specs.Prelude.{option_map, slice_get, ◌+◌, drop, map, Ok, Err, Result, IfOk, Vec, String}
use Rattle.std.specs.declared.alloc.Global.{Global}
use Rattle.fd_spelling.specs.Texts.{texts}
use Rattle.std.specs.List.Sorted.{IsPermutation}
use Rattle.std.specs.List.{All}
use Rattle.std.proofs.lemmas.Bool.{cond-false, le-ltb}
use Rattle.std.proofs.lemmas.List.Elements.{All-cons, All-head, All-nil, All-tail, All-weaker}
use Rattle.fd_key.specs.Pairs.{Pair}
use Rattle.fd_key.proofs.PairLaws.{drop_from_slice_get}
use Rattle.fd_request.specs.Expansion.{Keyword}
use Rattle.fd_request.specs.Grammar.{is_range_word}
use Rattle.fd_request.specs.Limits.{request_of}
use Rattle.fd_cubes.specs.Axes.{AreSorted}
use Rattle.fd_cubes.specs.Cubes.{IsAskable, IsCube, IsPlain, cube_text, keys_of}
use Rattle.fd_cubes.specs.Joining.{NoneCanJoin}
use Rattle.fd_cubes.proofs.ReadsBack.{reads_back}
use Rattle.fd_inventory.specs.Found.{IsNamed, IsSpelled}
use Rattle.fd_stored.specs.declared.status.Status.{Status}
use Rattle.fd_stored.specs.Causes.{Cause, NoRequest, TooManyKeys}
use Rattle.fd_stored.specs.Causes.{telling}
use Rattle.fd_outcome.specs.Objects.{IsCalm, Object}
use Rattle.fd_outcome.specs.Told.{ToldOrNoMemory}
use Rattle.fd_contents.specs.Cubing.{AreCubes}
use Rattle.fd_contents.specs.Told.{KeysRefused, KeysStarved, ToldKeys}
use Rattle.fd_outcome.specs.Cubing.{first_ranged, is_ranged, keys_refusal}
use Rattle.fd_outcome.specs.Matching.{Keys}

or_false : (a b : Bool) → (a || b) ≡ false → (a ≡ false) × (b ≡ false)
or_false true b h = absurd (true≢false h)
or_false false b h = (refl, h)

plain : (key : List Pair) → is_ranged key ≡ false → All IsSpelled key → All (λ p. IsPlain p.0 p.1) key
plain [] none all = All-nil (λ (p : Pair). IsPlain p.0 p.1)
plain (p ∷ ps) none all =
    let parts = or_false (is_range_word p.1) (is_ranged ps) none in
    let head = All-head IsSpelled p ps all in
    All-cons (λ (q : Pair). IsPlain q.0 q.1) p ps (record { named = head.named; valued = head.valued; again = head.again; word = parts.0 }) (plain ps parts.1 (All-tail IsSpelled p ps all))

askable_key : (key : List Pair) → is_ranged key ≡ false → IsNamed key → IsAskable key
askable_key key none n = record { once = n.once; plain = plain key none n.spelled; short = n.short }

pub askable : (ks : Keys) → first_ranged ks ≡ None → All IsNamed ks → All IsAskable ks
askable [] none all = All-nil IsAskable
askable (k ∷ ks) none all = by (is_ranged k) refl none (askable ks)
  where
    by : (b : Bool) → is_ranged k ≡ b → cond b (Some k) (first_ranged ks) ≡ None → (first_ranged ks ≡ None → All IsNamed ks → All IsAskable ks) → All IsAskable (k ∷ ks)
    by true e none more = absurd (true≢false (ap is_some none))
    by false e none more = All-cons IsAskable k ks (askable_key k e (All-head IsNamed k ks all)) (more none (All-tail IsNamed k ks all))

not_many : (ks : Keys) → length ks ≤ 262144 → nat_lt 262144 (length ks) ≡ false
not_many ks few = le-ltb 262144 (length ks) few

pub nothing_refused : (ks : Keys) → length ks ≤ 262144 → first_ranged ks ≡ None → keys_refusal ks ≡ None
nothing_refused ks few none = cond-false (nat_lt 262144 (length ks)) (Some TooManyKeys) (option_map NoRequest (first_ranged ks)) (not_many ks few) ∙ ap (option_map NoRequest) none

pub ranged_refused : (ks : Keys) (k : List Pair) → length ks ≤ 262144 → first_ranged ks ≡ Some k → keys_refusal ks ≡ Some (NoRequest k)
ranged_refused ks k few is = cond-false (nat_lt 262144 (length ks)) (Some TooManyKeys) (option_map NoRequest (first_ranged ks)) (not_many ks few) ∙ ap (option_map NoRequest) is

-- what becomes of keys that are refused
pub refused_told : (s : Status) (output report : Object (List ℕ)) (ks : Keys) (cause : Cause) → keys_refusal ks ≡ Some cause → output.now ≡ output.before → IsCalm output
    → ToldOrNoMemory (telling cause).status (telling cause).line s report.before report.now report.faults_before report.faults_now → ToldKeys s output report ks
refused_told s output report ks cause is nothing calm told = elim told as (λ _. ToldKeys s output report ks) [
  | inl t ↦ KeysRefused cause is nothing calm t
  | inr t ↦ KeysStarved nothing calm t
]

-- the cubes of keys, and their texts in byte order
pub are_cubes : (ks : Keys) (cubes : List (List Keyword)) (lines : List (List ℕ)) → IsPermutation ks (keys_of cubes) → NoneCanJoin cubes → All IsCube cubes → IsPermutation (map cube_text cubes) lines → AreSorted lines → AreCubes ks lines
are_cubes ks cubes lines keys apart each texts sorted = record {
  cubes = cubes;
  keys = keys;
  apart = apart;
  each = each;
  read = All-weaker IsCube (λ (cube : List Keyword). request_of (cube_text cube) ≡ Ok cube) reads_back cubes each;
  texts = texts;
  sorted = sorted;
}

pub cubes_read : {E : Type 0} (ks : Keys) (found cubes : List (List Keyword)) (r : Result (Vec (String Global) Global) E) → cubes ≡ found → IsPermutation ks (keys_of found) → NoneCanJoin found → All IsCube found
    → IfOk r (λ v. IsPermutation (map cube_text cubes) (texts v.items)) → IfOk r (λ v. AreSorted (texts v.items)) → IfOk r (λ v. AreCubes ks (texts v.items))
cubes_read ks found cubes (Ok v) same keys apart each texts_are sorted = are_cubes ks found (texts v.items) keys apart each (subst (λ (cs : List (List Keyword)). IsPermutation (map cube_text cs) (texts v.items)) same texts_are) sorted
cubes_read ks found cubes (Err e) same keys apart each texts_are sorted = tt

-- ---- one pair of a key

ranged_at : (key : List Pair) (i : ℕ) (n v : List ℕ) → slice_get key i ≡ Some (n, v) → is_ranged (drop i key) ≡ (is_range_word v || is_ranged (drop (i + 1) key))
ranged_at key i n v at = ap is_ranged (drop_from_slice_get key i (n, v) at)

pub ranged_here : (key : List Pair) (i : ℕ) (n v : List ℕ) (b : Bool) → is_ranged key ≡ is_ranged (drop i key) → slice_get key i ≡ Some (n, v) → b ≡ is_range_word v → b ≡ true → true ≡ is_ranged key
ranged_here key i n v b so_far at is t = sym (so_far ∙ ranged_at key i n v at ∙ ap (λ x. x || is_ranged (drop (i + 1) key)) (sym is ∙ t))

pub ranged_on : (key : List Pair) (i : ℕ) (n v : List ℕ) (b : Bool) → is_ranged key ≡ is_ranged (drop i key) → slice_get key i ≡ Some (n, v) → b ≡ is_range_word v → b ≡ false → is_ranged key ≡ is_ranged (drop (i + 1) key)
ranged_on key i n v b so_far at is f = so_far ∙ ranged_at key i n v at ∙ ap (λ x. x || is_ranged (drop (i + 1) key)) (sym is ∙ f)
