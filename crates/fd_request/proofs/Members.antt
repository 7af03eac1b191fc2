-- Which texts are values, and which keys are asked for.
use Rattle.std.proofs.Common.{◌≡◌, ℕ, zero, suc, ◌+◌, ◌-◌, ◌*◌, ◌/◌, ◌%◌, ◌<◌, ◌≤◌, Bool, true, eqb, ltb, List, length, get_or, Option, Some, None, sym, ap, subst, ◌∙◌, arith}
use Rattle.std.specs.Prelude.{slice_index_or, ◌&&◌, IsTrue, ◌↔◌}
use Rattle.std.specs.List.{Contains, list_any}
use Rattle.std.specs.Str.{bytes_eq}
use Rattle.std.specs.Cmp.Lexicographic.{bytes_decides, nat_list_eq_equiv}
use Rattle.std.proofs.lemmas.Map.Views.{Contains-from_any, list_any-from_Contains}
use Rattle.std.proofs.Math.Nat.{mul-div_cancel, mul-mod_left, div-add-mod'}
use Rattle.std.proofs.lemmas.List.{get_or-map, length-map}
use Rattle.std.proofs.lemmas.Bool.{and_parts, and_from, eqb-true, eq-eqb, lt-ltb}
use borrow.Author.Tests.{ltb-true}
use borrow.Author.Count.{below_more}
use Rattle.fd_key.specs.Pairs.{Pair}
use Rattle.fd_request.specs.declared.range.Range as code_range
use Rattle.fd_request.specs.declared.values.Values as code_values
use Rattle.fd_request.specs.declared.keyword.Keyword as code_keyword
use Rattle.fd_request.specs.declared.end.End as code_end
use Rattle.fd_request.specs.Ranges.{End, distance, text_behind, values_from}
use Rattle.fd_request.specs.Seen.{Fits, seen_end}
use Rattle.fd_request.specs.Values.{seen_range, seen_values}
use Rattle.fd_request.specs.Behind.{end_behind, ReadsBehind}
use Rattle.fd_request.specs.Expansion.{Keyword}
use Rattle.fd_request.specs.Keywords.{seen_keyword, seen_keywords}
use Rattle.fd_request.specs.Matching.{Admits, Matches}
use Rattle.fd_request.proofs.RangeLaws.{length_values, fits_less, place_within}
use Rattle.fd_request.proofs.ReadAgain.{text_again, far_again, behind_is}

-- ---- the values of a range, by their places

index_value : (first : End) (step far n i : ℕ) (x : List ℕ) → i < n → slice_index_or (values_from first step far n) i x ≡ text_behind first (far + i * step)
unfolding values_from
index_value first step far zero i x lt = absurd (omega arith)
index_value first step far (suc n) zero x lt = ap (text_behind first) (let e : far ≡ far + 0 * step = omega arith in e)
index_value first step far (suc n) (suc i) x lt =
    index_value first step (far + step) n i x (omega arith) ∙ ap (text_behind first) (let e : (far + step) + i * step ≡ far + suc i * step = omega arith in e)

-- a text is the value at this place
pub record IsAt (r : code_range.Range) (text : List ℕ) (i : ℕ) : Type 0 where
  pub within : i < r.count
  pub is : text ≡ text_behind (seen_end r.first) (i * r.step)

pub place_of : (r : code_range.Range) (text : List ℕ) → Contains (seen_range r) text → (i : ℕ) × IsAt r text i
unfolding seen_range
place_of r text h =
    let first = seen_end r.first in
    let lt : h.0 < r.count = omega (arith, h.1, length_values first r.step 0 r.count) in
    (h.0, record { within = lt; is = sym h.2 ∙ index_value first r.step 0 r.count h.0 text lt ∙ ap (text_behind first) (let e : 0 + h.0 * r.step ≡ h.0 * r.step = omega arith in e) })

pub at_place : (r : code_range.Range) (text : List ℕ) (i : ℕ) → IsAt r text i → Contains (seen_range r) text
unfolding seen_range
at_place r text i at =
    let first = seen_end r.first in (
      i,
      omega (arith, at.within, length_values first r.step 0 r.count),
      index_value first r.step 0 r.count i text at.within ∙ ap (text_behind first) (let e : 0 + i * r.step ≡ i * r.step = omega arith in e) ∙ sym at.is,
    )

pub fits_at : (r : code_range.Range) (text : List ℕ) (i : ℕ) → IsAt r text i → Fits (seen_end r.first) (i * r.step)
fits_at r text i at = fits_less (seen_end r.first) ((r.count - 1) * r.step) (i * r.step) (place_within r.count i r.step at.within) r.fits

-- ---- what a text is read as

-- a value is read as the end at its place
pub found : (r : code_range.Range) (text : List ℕ) (read : Option End) (i : ℕ) → ReadsBehind (seen_end r.first) text read → IsAt r text i → read ≡ Some (end_behind (seen_end r.first) (i * r.step))
found r text read i reads at = reads (i * r.step) (fits_at r text i at) at.is

pub unread : (r : code_range.Range) (text : List ℕ) → ReadsBehind (seen_end r.first) text None → Contains (seen_range r) text → ⊥
unread r text reads h =
    let p = place_of r text h in
    let e = found r text None p.0 reads p.1 in cc

-- a value is as far behind the first as its place says
pub far_is : (r : code_range.Range) (text : List ℕ) (end : code_end.End) (i : ℕ) → ReadsBehind (seen_end r.first) text (Some (seen_end end)) → IsAt r text i → distance (seen_end r.first) (seen_end end) ≡ Some (i * r.step)
far_is r text end i reads at =
    let e = found r text (Some (seen_end end)) i reads at in
    let same : seen_end end ≡ end_behind (seen_end r.first) (i * r.step) = cc in
    ap (distance (seen_end r.first)) same ∙ far_again r.first (i * r.step) (fits_at r text i at)

pub no_distance : (r : code_range.Range) (text : List ℕ) (end : code_end.End) → ReadsBehind (seen_end r.first) text (Some (seen_end end)) → distance (seen_end r.first) (seen_end end) ≡ None → Contains (seen_range r) text → ⊥
no_distance r text end reads none h =
    let p = place_of r text h in
    let e = far_is r text end p.0 reads p.1 in cc

-- a value is spelled as the end that it is read as
pub spelled_is : (r : code_range.Range) (text : List ℕ) (end : code_end.End) (i : ℕ) → ReadsBehind (seen_end r.first) text (Some (seen_end end)) → IsAt r text i → text ≡ text_behind (seen_end end) 0
spelled_is r text end i reads at =
    let e = found r text (Some (seen_end end)) i reads at in
    let same : seen_end end ≡ end_behind (seen_end r.first) (i * r.step) = cc in
    at.is ∙ sym (text_again (seen_end r.first) (i * r.step)) ∙ ap (λ (x : End). text_behind x 0) (sym same)

-- ---- the places that are in reach

pub in_reach : (r : code_range.Range) (far : ℕ) → (eqb (far % r.step) 0 && ltb (far / r.step) r.count) ≡ true → (far / r.step < r.count) × (far ≡ far / r.step * r.step)
in_reach r far h =
    let p = and_parts (eqb (far % r.step) 0) (ltb (far / r.step) r.count) h in
    let whole : far % r.step ≡ 0 = eqb-true (far % r.step) 0 p.0 in
    (ltb-true (far / r.step) r.count p.1, omega (arith, whole, div-add-mod' far r.step))

pub reach : (r : code_range.Range) (i : ℕ) → i < r.count → (eqb (i * r.step % r.step) 0 && ltb (i * r.step / r.step) r.count) ≡ true
reach r i lt =
    let moves = r.moves in
    let same : i * r.step / r.step ≡ i = mul-div_cancel i moves in
    and_from (eqb (i * r.step % r.step) 0) (ltb (i * r.step / r.step) r.count) (eq-eqb (i * r.step % r.step) 0 (mul-mod_left i r.step)) (lt-ltb (i * r.step / r.step) r.count (rw same lt))

-- an end at a multiple of the step is the value at that place
pub is_at : (r : code_range.Range) (text : List ℕ) (end : code_end.End) (far i : ℕ) → distance (seen_end r.first) (seen_end end) ≡ Some far → text ≡ text_behind (seen_end end) 0 → i < r.count → far ≡ i * r.step → IsAt r text i
is_at r text end far i apart is lt e =
    let f = fits_less (seen_end r.first) ((r.count - 1) * r.step) (i * r.step) (place_within r.count i r.step lt) r.fits in
    let same = behind_is r.first end (i * r.step) f (apart ∙ ap (λ k. Some k) e) in
    record { within = lt; is = is ∙ ap (λ (x : End). text_behind x 0) same ∙ text_again (seen_end r.first) (i * r.step) }

-- ---- the test of a text

-- A text that was read as an end at this distance is a value exactly where the distance is in reach and the end is spelled
-- so.
pub has_value : (r : code_range.Range) (text : List ℕ) (end : code_end.End) (far : ℕ) → distance (seen_end r.first) (seen_end end) ≡ Some far → (eqb (far % r.step) 0 && ltb (far / r.step) r.count) ≡ true → bytes_eq text (text_behind (seen_end end) 0) ≡ true
    → Contains (seen_range r) text
has_value r text end far apart within spelled =
    let k = in_reach r far within in
    let is : text ≡ text_behind (seen_end end) 0 = (bytes_decides text (text_behind (seen_end end) 0)).0 spelled in
    at_place r text (far / r.step) (is_at r text end far (far / r.step) apart is k.0 k.1)

pub is_in_reach : (r : code_range.Range) (text : List ℕ) (end : code_end.End) (far : ℕ) → ReadsBehind (seen_end r.first) text (Some (seen_end end)) → distance (seen_end r.first) (seen_end end) ≡ Some far → Contains (seen_range r) text
    → (eqb (far % r.step) 0 && ltb (far / r.step) r.count) ≡ true
is_in_reach r text end far reads apart h =
    let p = place_of r text h in
    let at = far_is r text end p.0 reads p.1 in
    let some : Some far ≡ Some (p.0 * r.step) = sym apart ∙ at in
    let same : far ≡ p.0 * r.step = cc in
    rw same (reach r p.0 p.1.within)

pub is_so_spelled : (r : code_range.Range) (text : List ℕ) (end : code_end.End) → ReadsBehind (seen_end r.first) text (Some (seen_end end)) → Contains (seen_range r) text → bytes_eq text (text_behind (seen_end end) 0) ≡ true
is_so_spelled r text end reads h =
    let p = place_of r text h in
    (bytes_decides text (text_behind (seen_end end) 0)).1 (spelled_is r text end p.0 reads p.1)

-- a text is one of these exactly where it equals one of them
pub listed_is : (values : code_values.Values) (given : List (List ℕ)) (text : List ℕ) (result : Bool) → seen_values values ≡ given → result ≡ list_any (bytes_eq text) given → IsTrue result ↔ Contains (seen_values values) text
listed_is values given text result seen is = (
  λ e. subst (λ (vs : List (List ℕ)). Contains vs text) (sym seen) (Contains-from_any (λ x y. (bytes_decides x y).0) text given (sym is ∙ e)),
  λ h. is ∙ list_any-from_Contains nat_list_eq_equiv text given (subst (λ (vs : List (List ℕ)). Contains vs text) seen h),
)

-- ---- keywords

-- so many of the keywords admit the key
abbrev pub AdmitTo : List Pair → List code_keyword.Keyword → ℕ → Type 0
AdmitTo key ks i = (k : ℕ) → k < i → (d : Keyword) → Admits key (slice_index_or (seen_keywords ks) k d)

-- the keyword at a place
keyword_at : (ks : List code_keyword.Keyword) (i : ℕ) (keyword : code_keyword.Keyword) (d : Keyword) → i < length ks → keyword ≡ get_or ks i keyword → slice_index_or (seen_keywords ks) i d ≡ seen_keyword keyword
keyword_at ks i keyword d lt is = get_or-map seen_keyword ks i keyword d lt ∙ ap seen_keyword (sym is)

pub admit_none : (key : List Pair) (ks : List code_keyword.Keyword) → AdmitTo key ks 0
admit_none key ks = λ k lt d. absurd (omega arith)

pub admit_more : (key : List Pair) (ks : List code_keyword.Keyword) (i : ℕ) (keyword : code_keyword.Keyword) → i < length ks → keyword ≡ get_or ks i keyword → AdmitTo key ks i → Admits key (seen_keyword keyword) → AdmitTo key ks (i + 1)
admit_more key ks i keyword lt is before here =
    below_more (λ k. (d : Keyword) → Admits key (slice_index_or (seen_keywords ks) k d)) i before (λ d. subst (λ (k : Keyword). Admits key k) (sym (keyword_at ks i keyword d lt is)) here)

pub admit_all : (key : List Pair) (ks : List code_keyword.Keyword) (i : ℕ) (all : List Keyword) → all ≡ seen_keywords ks → length ks ≤ i → AdmitTo key ks i → Matches all key
admit_all key ks i all seen end to =
    subst (λ (xs : List Keyword). Matches xs key) (sym seen) (λ k d lt. to k (let n : length (seen_keywords ks) ≡ length ks = length-map ks seen_keyword in omega arith) d)

pub admits_at : (key : List Pair) (ks : List code_keyword.Keyword) (i : ℕ) (keyword : code_keyword.Keyword) (all : List Keyword) → all ≡ seen_keywords ks → i < length ks → keyword ≡ get_or ks i keyword → Matches all key → Admits key (seen_keyword keyword)
admits_at key ks i keyword all seen lt is h =
    let n : length (seen_keywords ks) ≡ length ks = length-map ks seen_keyword in
    let every : Matches (seen_keywords ks) key = subst (λ (xs : List Keyword). Matches xs key) seen h in
    subst (λ (k : Keyword). Admits key k) (keyword_at ks i keyword (seen_keyword keyword) lt is) (every i (seen_keyword keyword) (omega arith))
