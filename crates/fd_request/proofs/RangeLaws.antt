-- The values of ranges.
use Rattle.std.proofs.Common.{◌≡◌, ℕ, zero, suc, ◌+◌, ◌-◌, ◌*◌, ◌/◌, ◌^◌, ◌<◌, ◌≤◌, Bool, true, false, cond, ltb, max, List, length, get_or, drop, Some, None, refl, sym, ap, ◌∙◌, arith, ℤ, pos, negsuc, ◌+ℤ◌, ◌-ℤ◌, ◌≤ℤ◌, unsigned_abs}
use Rattle.std.proofs.Math.Nat.{mul-le-mul_right, div-le_self, div-mul-le_self}
use Rattle.std.specs.Prelude.{slice_get, string_bytes, String}
use Rattle.std.specs.List.{list_all}
use Rattle.std.specs.Fmt.{decimal, signed_decimal}
use Rattle.std.specs.Str.Parse.{digits_value}
use Rattle.std.specs.declared.alloc.Global.{Global}
use borrow.Author.Tests.{ltb-true}
use Rattle.std.proofs.lemmas.Int.{ints}
use Rattle.std.proofs.lemmas.Bool.{and_from}
use Rattle.std.proofs.lemmas.List.{at_drop_more, at_drop_all}
use Rattle.std.proofs.lemmas.Fmt.{length-decimal-le_wide, digits_decimal, digits_value-decimal, decimal_nonempty}
use Rattle.std.proofs.lemmas.Str.Parse.{digits_value_short}
use Rattle.fd_spelling.specs.Civil.{date_text, time_text}
use Rattle.fd_spelling.proofs.Digits.{numerals}
use Rattle.fd_spelling.specs.Names.{is_value}
use Rattle.fd_spelling.proofs.ValueLaws.{date_is_value, time_is_value}
use Rattle.fd_spelling.specs.Texts.{texts}
use Rattle.fd_request.specs.declared.range.Range as code_range
use Rattle.fd_request.specs.Ranges.{End, Number, Hour, OnDay, place, same_kind, distance, distance_if, later, text_behind, values_from}
use Rattle.fd_request.specs.Limits.{longest_text}
use Rattle.fd_request.specs.Seen.{Fits, most, seen_end}
use Rattle.fd_request.specs.Values.{AreValues, seen_range}
use Rattle.fd_request.proofs.Ends.{signed_value}

most_small : (e : End) → most e ≤ℤ pos (10 ^ 15)
unfolding most
most_small (Number z) = omega (arith, ints)
most_small (Hour h) = omega (arith, ints)
most_small (OnDay d) = omega (arith, ints)

pub fits_small : (e : End) (far : ℕ) → Fits e far → far < 2 ^ 60
fits_small e far f = omega (arith, ints, f.low, f.high, most_small e)

pub fits_less : (e : End) (far near : ℕ) → near ≤ far → Fits e far → Fits e near
fits_less e far near le f = record { low = f.low; high = omega (arith, ints, f.high) }

most_same : (a b : End) → same_kind a b ≡ true → most a ≡ most b
unfolding most
most_same (Number x) (Number y) h = refl
most_same (Hour x) (Hour y) h = refl
most_same (OnDay x) (OnDay y) h = refl
most_same (Number x) (Hour y) h = absurd cc
most_same (Number x) (OnDay y) h = absurd cc
most_same (Hour x) (Number y) h = absurd cc
most_same (Hour x) (OnDay y) h = absurd cc
most_same (OnDay x) (Number y) h = absurd cc
most_same (OnDay x) (Hour y) h = absurd cc

pub distance_is : (z : ℤ) (far : ℕ) → distance_if z ≡ Some far → z ≡ pos far
distance_is (pos n) far h = go (ltb n 0) refl h
  where
    go : (b : Bool) → ltb n 0 ≡ b → cond b None (Some n) ≡ Some far → pos n ≡ pos far
    go true e h = absurd (omega (arith, ltb-true n 0 e))
    go false e h = let some : Some n ≡ Some far = h in let same : n ≡ far = cc in ap pos same
distance_is (negsuc n) far h = let none : None ≡ Some far = h in absurd cc

-- an end that fits is as far as this behind another
pub distance_fits : (a b : End) (far : ℕ) → distance a b ≡ Some far → Fits a 0 → Fits b 0 → Fits a far
unfolding distance
distance_fits a b far h fa fb = go (same_kind a b) refl h
  where
    go : (k : Bool) → same_kind a b ≡ k → cond k (distance_if (place b -ℤ place a)) None ≡ Some far → Fits a far
    go true e h = let z = distance_is (place b -ℤ place a) far h in record { low = fa.low; high = omega (arith, ints, fb.high, z, most_same a b e) }
    go false e h = absurd cc

-- ---- their number, and each of them

pub length_values : (first : End) (step far n : ℕ) → length (values_from first step far n) ≡ n
unfolding values_from
length_values first step far zero = refl
length_values first step far (suc n) = ap suc (length_values first step (far + step) n)

pub get_value : (first : End) (step far n i : ℕ) → i < n → slice_get (values_from first step far n) i ≡ Some (text_behind first (far + i * step))
unfolding values_from
get_value first step far zero i lt = absurd (omega arith)
get_value first step far (suc n) zero lt = ap (λ k. Some (text_behind first k)) (let e : far ≡ far + 0 * step = omega arith in e)
get_value first step far (suc n) (suc i) lt =
    get_value first step (far + step) n i (omega arith) ∙ ap (λ k. Some (text_behind first k)) (let e : (far + step) + i * step ≡ far + suc i * step = omega arith in e)

pub place_within : (count i step : ℕ) → i < count → i * step ≤ (count - 1) * step
place_within count i step lt = let le : i ≤ count - 1 = omega arith in mul-le-mul_right step le

-- ---- they are values

text_value : (e : End) (far : ℕ) → Fits e far → is_value (text_behind e far) ≡ true
unfolding text_behind place most
text_value (Number z) far f = signed_value (z +ℤ pos far) (omega (arith, ints, f.low)) f.high
text_value (Hour h) far f = time_is_value (h + far) 0 0
text_value (OnDay d) far f = date_is_value (later far d).year (later far d).month (later far d).day

all_values : (first : End) (step far n last : ℕ) → Fits first last → far + n * step ≤ last + step → list_all is_value (values_from first step far n) ≡ true
unfolding values_from
all_values first step far zero last f within = refl
all_values first step far (suc n) last f within =
    and_from (is_value (text_behind first far)) (list_all is_value (values_from first step (far + step) n))
    (text_value first far (fits_less first last far (omega arith) f))
    (all_values first step (far + step) n last f (omega arith))

pub range_values : (r : code_range.Range) → AreValues (seen_range r)
unfolding seen_range
range_values r = record {
  some = (let e = length_values (seen_end r.first) r.step 0 r.count in let some = r.some in omega arith);
  all = all_values (seen_end r.first) r.step 0 r.count ((r.count - 1) * r.step) r.fits (let some = r.some in let e : suc (r.count - 1) ≡ r.count = omega arith in let m : suc (r.count - 1) * r.step ≡ r.count * r.step = ap (λ k. k * r.step) e in omega arith);
}

-- ---- the longest of them

pub longest_more : (vs : List (String Global)) (i : ℕ) (v : String Global) → i < length vs → v ≡ get_or vs i v → longest_text (texts (drop i vs)) ≡ max (length (string_bytes v)) (longest_text (texts (drop (i + 1) vs)))
unfolding longest_text
longest_more vs i v lt is =
    at_drop_more (λ (us : List (String Global)). longest_text (texts us)) vs i v lt
    ∙ ap (λ (x : String Global). max (length (string_bytes x)) (longest_text (texts (drop (i + 1) vs)))) (sym is)

pub longest_none : (vs : List (String Global)) (i : ℕ) → length vs ≤ i → longest_text (texts (drop i vs)) ≡ 0
unfolding longest_text
longest_none vs i le = at_drop_all (λ (us : List (String Global)). longest_text (texts us)) vs i le

-- a smaller number has no longer text
decimal_grows : (m n : ℕ) → m ≤ n → n < 2 ^ 64 → length (decimal m) ≤ length (decimal n)
decimal_grows m n le small =
    let value : digits_value 10 (decimal n) ≡ n = digits_value-decimal numerals n small in
    let short : digits_value 10 (decimal n) < 10 ^ length (decimal n) = digits_value_short numerals (decimal n) (length (decimal n)) (digits_decimal numerals n small) (omega arith) in
    length-decimal-le_wide (length (decimal n)) m (decimal_nonempty n small) (omega arith) (omega arith)

-- a number between two has no longer text than one of them
signed_between : (x y z : ℤ) → x ≤ℤ y → y ≤ℤ z → unsigned_abs x < 2 ^ 63 → unsigned_abs z < 2 ^ 63 → length (signed_decimal y) ≤ max (length (signed_decimal x)) (length (signed_decimal z))
signed_between x (pos m) (pos n) xy yz xs zs = omega (arith, decimal_grows m n (omega (arith, ints)) (omega arith))
signed_between x (pos m) (negsuc n) xy yz xs zs = absurd (omega (arith, ints))
signed_between (pos k) (negsuc m) z xy yz xs zs = absurd (omega (arith, ints))
signed_between (negsuc k) (negsuc m) z xy yz xs zs = omega (arith, decimal_grows (suc m) (suc k) (omega (arith, ints)) (omega arith))

text_between : (e : End) (last near : ℕ) → Fits e last → near ≤ last → length (text_behind e near) ≤ max (length (text_behind e 0)) (length (text_behind e last))
unfolding text_behind place most date_text time_text
text_between (Number z) last near f le = signed_between (z +ℤ pos 0) (z +ℤ pos near) (z +ℤ pos last) (omega (arith, ints)) (omega (arith, ints)) (omega (arith, ints, f.low, f.high)) (omega (arith, ints, f.low, f.high))
text_between (Hour h) last near f le = omega arith
text_between (OnDay d) last near f le = omega arith

longest_at_most : (first : End) (step far n m : ℕ) → ((k : ℕ) → k + step ≤ far + n * step → length (text_behind first k) ≤ m) → longest_text (values_from first step far n) ≤ m
unfolding values_from longest_text
longest_at_most first step far zero m each = omega arith
longest_at_most first step far (suc n) m each =
    omega (arith, each far (omega arith), longest_at_most first step (far + step) n m (λ k le. each k (omega arith)))

longest_at_least : (first : End) (step far n i : ℕ) → i < n → length (text_behind first (far + i * step)) ≤ longest_text (values_from first step far n)
unfolding values_from longest_text
longest_at_least first step far zero i lt = absurd (omega arith)
longest_at_least first step far (suc n) zero lt =
    let e : length (text_behind first (far + 0 * step)) ≡ length (text_behind first far) = ap (λ k. length (text_behind first k)) (omega arith) in
    omega arith
longest_at_least first step far (suc n) (suc i) lt =
    let e : length (text_behind first (far + suc i * step)) ≡ length (text_behind first ((far + step) + i * step)) = ap (λ k. length (text_behind first k)) (omega arith) in
    omega (arith, longest_at_least first step (far + step) n i (omega arith))

-- the longest value of a range is its first or its last
pub longest_of_range : (r : code_range.Range) (a b : ℕ) → a ≡ length (text_behind (seen_end r.first) 0) → b ≡ length (text_behind (seen_end r.first) ((r.count - 1) * r.step)) → max a b ≡ longest_text (seen_range r)
unfolding seen_range
longest_of_range r a b ea eb =
    let first = seen_end r.first in
    let last = (r.count - 1) * r.step in
    let some = r.some in
    let all : suc (r.count - 1) ≡ r.count = omega arith in
    let product : suc (r.count - 1) * r.step ≡ r.count * r.step = ap (λ k. k * r.step) all in
    let most_ : longest_text (values_from first r.step 0 r.count) ≤ max (length (text_behind first 0)) (length (text_behind first last)) =
    longest_at_most first r.step 0 r.count _ (λ k le. text_between first last k r.fits (omega arith)) in
    let low : length (text_behind first (0 + 0 * r.step)) ≤ longest_text (values_from first r.step 0 r.count) = longest_at_least first r.step 0 r.count 0 some in
    let high : length (text_behind first (0 + last)) ≤ longest_text (values_from first r.step 0 r.count) = longest_at_least first r.step 0 r.count (r.count - 1) (omega arith) in
    let low_is : length (text_behind first (0 + 0 * r.step)) ≡ a = ap (λ k. length (text_behind first k)) (let e : 0 + 0 * r.step ≡ 0 = omega arith in e) ∙ sym ea in
    let high_is : length (text_behind first (0 + last)) ≡ b = ap (λ k. length (text_behind first k)) (let e : 0 + last ≡ last = omega arith in e) ∙ sym eb in
    omega (arith, most_, low, high, low_is, high_is, ea, eb)

-- what a place in the values of a range has
pub in_range : (r : code_range.Range) (i : ℕ) → i < length (seen_range r) → i < r.count
unfolding seen_range
in_range r i lt = omega (arith, lt, length_values (seen_end r.first) r.step 0 r.count)

pub count_is : (r : code_range.Range) → length (seen_range r) ≡ r.count
unfolding seen_range
count_is r = length_values (seen_end r.first) r.step 0 r.count

pub place_fits : (r : code_range.Range) (i step : ℕ) → i < length (seen_range r) → step ≡ r.step → Fits (seen_end r.first) (i * step)
place_fits r i step lt e = fits_less (seen_end r.first) ((r.count - 1) * r.step) (i * step) (rw e (place_within r.count i r.step (in_range r i lt))) r.fits

pub value_at : (r : code_range.Range) (i step : ℕ) → i < length (seen_range r) → step ≡ r.step → slice_get (seen_range r) i ≡ Some (text_behind (seen_end r.first) (i * step))
unfolding seen_range
value_at r i step lt e =
    get_value (seen_end r.first) r.step 0 r.count i (omega (arith, lt, length_values (seen_end r.first) r.step 0 r.count))
    ∙ ap (λ k. Some (text_behind (seen_end r.first) k)) (let same : 0 + i * r.step ≡ i * r.step = omega arith in same ∙ ap (λ k. i * k) (sym e))

pub stepped_is : (r : code_range.Range) (e : End) (step n m : ℕ) → seen_end r.first ≡ e → r.step ≡ step → r.count ≡ n → n ≡ m → seen_range r ≡ values_from e step 0 m
unfolding seen_range
stepped_is r e step n m first steps count same = rw (first, steps, count, same) refl

pub quotient_small : (far step k : ℕ) → far < 2 ^ 60 → step ≡ k → far / step + 1 < 2 ^ 64
quotient_small far step k lt e = omega (arith, div-le_self far step)

pub last_fits : (e : End) (far step k : ℕ) → Fits e far → step ≡ k → Fits e ((far / step + 1 - 1) * k)
last_fits e far step k f same = fits_less e far ((far / step + 1 - 1) * k) (let n : far / step + 1 - 1 ≡ far / step = omega arith in rw (n, ← same) (div-mul-le_self far step)) f

pub same_bytes_len : (xs : List (List ℕ)) (i : ℕ) (a b : List ℕ) → slice_get xs i ≡ Some a → slice_get xs i ≡ Some b → length a ≡ length b
same_bytes_len xs i a b p q = let e : Some a ≡ Some b = sym p ∙ q in let same : a ≡ b = cc in ap length same
