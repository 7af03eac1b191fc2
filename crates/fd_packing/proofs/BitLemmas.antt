use Rattle.std.proofs.Common.{◌≡◌, ltb, leb, ℕ, zero, suc, ◌+◌, ◌-◌, ◌*◌, ◌/◌, ◌%◌, ◌^◌, ◌<◌, ◌≤◌, List, [], ◌∷◌, ◌++◌, length, get_or, take, drop, refl, append_assoc, replicate, sym, ap, ◌∙◌, arith, inl, inr, length-append, length-drop}
use Rattle.std.proofs.lemmas.List.{take-append-drop, length-take, drop-take, get_or-take, get_or-drop, get_or_past, take_more, append-nil, nil_from_length}
use Rattle.std.proofs.Math.Seq.{take-append-add, drop-append-add, take-append_seam}
use Rattle.std.proofs.lemmas.Bool.{cases_lt}
use Rattle.std.proofs.lemmas.Bool.Decides.{nat_tests}
use Rattle.std.proofs.Math.Nat.{pow-succ', pow-suc, pow-zero, pow-le-pow_right, mod-eq_of_lt}
use Rattle.std.specs.Int.{bit_at}
use Rattle.std.specs.Int.Digits.{number_from_digits, number_from_digits_after, AllBelowBase}
use Rattle.std.proofs.lemmas.Int.Digits.{number_after_append, number_lt}
use Rattle.std.proofs.lemmas.Nat.{mod-pow-add, shr_high, mod_low, div_below, le-div}
use Rattle.std.proofs.lemmas.Nat.Bits.{bit_at-lt, bit_at_lowest, bit_at-suc}
use Rattle.fd_packing.specs.Bits.{binary, bits_of, number_at, packed}

abbrev none : List ℕ
none = []

-- a number before the digits counts for as many places
pub after_is : (b n : ℕ) (ds : List ℕ) → number_from_digits_after b n ds ≡ n * b ^ length ds + number_from_digits b ds
after_is b n [] = let e : n ≡ n * b ^ 0 + 0 = rw (pow-zero b) (omega arith) in e
after_is b n (d ∷ ds) =
    let e : number_from_digits_after b (n * b + d) ds ≡ n * b ^ suc (length ds) + number_from_digits_after b (0 * b + d) ds =
    rw (pow-succ' b (length ds)) (omega (arith, after_is b (n * b + d) ds, after_is b (0 * b + d) ds)) in e

pub number_append : (b : ℕ) (xs ys : List ℕ) → number_from_digits b (xs ++ ys) ≡ number_from_digits b xs * b ^ length ys + number_from_digits b ys
number_append b xs ys = number_after_append b 0 xs ys ∙ after_is b (number_from_digits b xs) ys

pub length-binary : (w x : ℕ) → length (binary w x) ≡ w
unfolding binary
length-binary zero x = refl
length-binary (suc w) x = ap suc (length-binary w x)

pub below-binary : (w x : ℕ) → AllBelowBase 2 (binary w x)
unfolding binary
below-binary zero x = tt
below-binary (suc w) x = (bit_at-lt x w, below-binary w x)

pub number_binary : (w x : ℕ) → number_from_digits 2 (binary w x) ≡ x % 2 ^ w
unfolding binary
number_binary zero x = omega arith
number_binary (suc w) x =
    let e : number_from_digits_after 2 (0 * 2 + bit_at x w) (binary w x) ≡ x % 2 ^ (1 + w) =
    after_is 2 (0 * 2 + bit_at x w) (binary w x) ∙ rw (length-binary w x, number_binary w x, mod-pow-add x 1 w) (omega arith) in
    e ∙ ap (λ k. x % 2 ^ k) (omega arith)

pub below-append : (xs ys : List ℕ) → AllBelowBase 2 xs → AllBelowBase 2 ys → AllBelowBase 2 (xs ++ ys)
below-append [] ys p q = q
below-append (x ∷ xs) ys p q = (p.0, below-append xs ys p.1 q)

pub below-bits : (bytes : List ℕ) → AllBelowBase 2 (bits_of bytes)
unfolding bits_of
below-bits [] = tt
below-bits (b ∷ bytes) = below-append (binary 8 b) (bits_of bytes) (below-binary 8 b) (below-bits bytes)

pub length-bits : (bytes : List ℕ) → length (bits_of bytes) ≡ 8 * length bytes
unfolding bits_of
length-bits [] = refl
length-bits (b ∷ bytes) = omega (arith, length-append (binary 8 b) (bits_of bytes), length-binary 8 b, length-bits bytes)

-- the bits of bytes write the number that the bytes write
pub number_bits : (n : ℕ) (bytes : List ℕ) → ((i : ℕ) → get_or bytes i 0 < 256) → number_from_digits_after 2 n (bits_of bytes) ≡ number_from_digits_after 256 n bytes
unfolding bits_of
number_bits n [] fits = refl
number_bits n (b ∷ bytes) fits =
    let small : b < 256 = fits 0 in
    let one : number_from_digits_after 2 n (binary 8 b) ≡ n * 256 + b =
    after_is 2 n (binary 8 b) ∙ rw (length-binary 8 b, number_binary 8 b) (omega arith) in
    number_after_append 2 n (binary 8 b) (bits_of bytes)
    ∙ ap (λ k. number_from_digits_after 2 k (bits_of bytes)) one
    ∙ number_bits (n * 256 + b) bytes (λ i. fits (suc i))

below-take : (n : ℕ) (xs : List ℕ) → AllBelowBase 2 xs → AllBelowBase 2 (take n xs)
below-take zero xs h = tt
below-take (suc n) [] h = tt
below-take (suc n) (x ∷ xs) h = (h.0, below-take n xs h.1)

below-drop : (n : ℕ) (xs : List ℕ) → AllBelowBase 2 xs → AllBelowBase 2 (drop n xs)
below-drop zero xs h = h
below-drop (suc n) [] h = tt
below-drop (suc n) (x ∷ xs) h = below-drop n xs h.1

-- the first bits, and the last ones
pub number_take : (k : ℕ) (xs : List ℕ) → AllBelowBase 2 xs → k ≤ length xs → number_from_digits 2 (take k xs) ≡ number_from_digits 2 xs / 2 ^ (length xs - k)
number_take k xs h le =
    let len : length (drop k xs) ≡ length xs - k = length-drop k xs in
    let whole : number_from_digits 2 (take k xs) * 2 ^ (length xs - k) + number_from_digits 2 (drop k xs) ≡ number_from_digits 2 xs =
    rw (← len) (sym (number_append 2 (take k xs) (drop k xs)) ∙ ap (number_from_digits 2) (take-append-drop k xs)) in
    let small : number_from_digits 2 (drop k xs) < 2 ^ (length xs - k) = rw (← len) (number_lt 2 (drop k xs) (below-drop k xs h)) in
    sym (shr_high (number_from_digits 2 (take k xs)) (length xs - k) (number_from_digits 2 (drop k xs)) small) ∙ ap (λ n. n / 2 ^ (length xs - k)) whole

pub number_drop : (k : ℕ) (xs : List ℕ) → AllBelowBase 2 xs → k ≤ length xs → number_from_digits 2 (drop k xs) ≡ number_from_digits 2 xs % 2 ^ (length xs - k)
number_drop k xs h le =
    let len : length (drop k xs) ≡ length xs - k = length-drop k xs in
    let whole : number_from_digits 2 (take k xs) * 2 ^ (length xs - k) + number_from_digits 2 (drop k xs) ≡ number_from_digits 2 xs =
    rw (← len) (sym (number_append 2 (take k xs) (drop k xs)) ∙ ap (number_from_digits 2) (take-append-drop k xs)) in
    let small : number_from_digits 2 (drop k xs) < 2 ^ (length xs - k) = rw (← len) (number_lt 2 (drop k xs) (below-drop k xs h)) in
    sym (mod_low (number_from_digits 2 (take k xs)) (length xs - k) (number_from_digits 2 (drop k xs)) small) ∙ ap (λ n. n % 2 ^ (length xs - k)) whole

take_nil : (n : ℕ) → take n none ≡ none
take_nil zero = refl
take_nil (suc n) = refl

drop_nil : (n : ℕ) → drop n none ≡ none
drop_nil zero = refl
drop_nil (suc n) = refl

pub take_take : (n m : ℕ) (xs : List ℕ) → n ≤ m → take n (take m xs) ≡ take n xs
take_take zero m xs le = refl
take_take (suc n) zero xs le = absurd (omega arith)
take_take (suc n) (suc m) [] le = refl
take_take (suc n) (suc m) (x ∷ xs) le = ap (λ (t : List ℕ). x ∷ t) (take_take n m xs (omega arith))

pub drop_drop : (n m : ℕ) (xs : List ℕ) → drop n (drop m xs) ≡ drop (m + n) xs
drop_drop n zero xs = ap (λ k. drop k xs) (omega arith)
drop_drop n (suc m) [] = drop_nil n ∙ sym (drop_nil (suc m + n))
drop_drop n (suc m) (x ∷ xs) = drop_drop n m xs ∙ ap (λ k. drop k (x ∷ xs)) (let e : suc (m + n) ≡ suc m + n = omega arith in e)

-- whole bytes, cut out as bits
pub bits_take : (k : ℕ) (bytes : List ℕ) → bits_of (take k bytes) ≡ take (8 * k) (bits_of bytes)
unfolding bits_of
bits_take zero bytes = refl
bits_take (suc k) [] = sym (take_nil (8 * suc k))
bits_take (suc k) (b ∷ bytes) =
    let e : 8 * suc k ≡ length (binary 8 b) + 8 * k = omega (arith, length-binary 8 b) in
    sym (ap (λ n. take n (binary 8 b ++ bits_of bytes)) e ∙ take-append-add (binary 8 b) (bits_of bytes) (8 * k) ∙ ap (λ (t : List ℕ). binary 8 b ++ t) (sym (bits_take k bytes)))

pub bits_drop : (k : ℕ) (bytes : List ℕ) → bits_of (drop k bytes) ≡ drop (8 * k) (bits_of bytes)
unfolding bits_of
bits_drop zero bytes = refl
bits_drop (suc k) [] = sym (drop_nil (8 * suc k))
bits_drop (suc k) (b ∷ bytes) =
    let e : 8 * suc k ≡ length (binary 8 b) + 8 * k = omega (arith, length-binary 8 b) in
    bits_drop k bytes ∙ sym (ap (λ n. drop n (binary 8 b ++ bits_of bytes)) e ∙ drop-append-add (binary 8 b) (bits_of bytes) (8 * k))

pub IsBytes-slice : (i n : ℕ) (bytes : List ℕ) → ((j : ℕ) → get_or bytes j 0 < 256) → (j : ℕ) → get_or (take n (drop i bytes)) j 0 < 256
IsBytes-slice i n bytes fits j =
    elim (cases_lt j n) [
      | inl lt ↦ rw (get_or-take n (drop i bytes) j 0 lt, get_or-drop) (fits (i + j))
      | inr le ↦ rw (get_or_past (take n (drop i bytes)) j 0 (omega (arith, length-take n (drop i bytes)))) (omega arith)
    ]

-- The bits from at on, cut out of the bytes that hold them.
pub number_cut : (bytes : List ℕ) (at w first past : ℕ) → ((i : ℕ) → get_or bytes i 0 < 256) → 8 * first ≤ at → at + w ≤ 8 * past → first ≤ past → past ≤ length bytes
    → number_from_digits 256 (take (past - first) (drop first bytes)) / 2 ^ (8 * past - (at + w)) % 2 ^ w ≡ number_at bytes at w
unfolding number_at
number_cut bytes at w first past fits low high order within =
    let all = bits_of bytes in
    let some = take (8 * (past - first)) (drop (8 * first) all) in
    let some-is : bits_of (take (past - first) (drop first bytes)) ≡ some = bits_take (past - first) (drop first bytes) ∙ ap (take (8 * (past - first))) (bits_drop first bytes) in
    let digits : number_from_digits 256 (take (past - first) (drop first bytes)) ≡ number_from_digits 2 some =
    sym (number_bits 0 (take (past - first) (drop first bytes)) (IsBytes-slice first (past - first) bytes fits)) ∙ ap (number_from_digits 2) some-is in
    let some-len : length some ≡ 8 * (past - first) =
    length-take (8 * (past - first)) (drop (8 * first) all) ∙ omega (arith, length-drop (8 * first) all, length-bits bytes) in
    let some-below : AllBelowBase 2 some = below-take (8 * (past - first)) (drop (8 * first) all) (below-drop (8 * first) all (below-bits bytes)) in
    let end = at + w - 8 * first in
    let cut = take end some in
    let cut-len : length cut ≡ end = length-take end some ∙ omega (arith, some-len) in
    let one : number_from_digits 2 some / 2 ^ (8 * past - (at + w)) ≡ number_from_digits 2 cut =
    ap (λ k. number_from_digits 2 some / 2 ^ k) (omega (arith, some-len)) ∙ sym (number_take end some some-below (omega (arith, some-len))) in
    let two : number_from_digits 2 cut % 2 ^ w ≡ number_from_digits 2 (drop (at - 8 * first) cut) =
    ap (λ k. number_from_digits 2 cut % 2 ^ k) (omega (arith, cut-len)) ∙ sym (number_drop (at - 8 * first) cut (below-take end some some-below) (omega (arith, cut-len))) in
    let list : drop (at - 8 * first) cut ≡ take w (drop at all) =
    ap (drop (at - 8 * first)) (take_take end (8 * (past - first)) (drop (8 * first) all) (omega arith))
    ∙ ap (λ k. drop (at - 8 * first) (take k (drop (8 * first) all))) (omega arith)
    ∙ drop-take (at - 8 * first) w (drop (8 * first) all)
    ∙ ap (take w) (drop_drop (at - 8 * first) (8 * first) all ∙ ap (λ k. drop k all) (omega arith)) in
    ap (λ n. n / 2 ^ (8 * past - (at + w)) % 2 ^ w) digits ∙ ap (λ n. n % 2 ^ w) one ∙ two ∙ ap (number_from_digits 2) list

-- the next byte after i bytes, of 16 at most
pub byte_fits : (n i b len : ℕ) → n < 256 ^ i → i < len → len ≤ 16 → b < 256 → (n * 256 + b < 256 ^ (i + 1)) × (n * 256 + b < 2 ^ 128)
byte_fits n i b len below lt le small =
    let more : 256 ^ (i + 1) ≡ 256 ^ i * 256 = ap (λ k. 256 ^ k) (let e : i + 1 ≡ suc i = omega arith in e) ∙ pow-suc 256 i in
    let here : n * 256 + b < 256 ^ (i + 1) = omega (arith, more) in
    let top : 256 ^ (i + 1) ≤ 256 ^ 16 =
    (let pos : 0 < 256 = omega arith in let within : i + 1 ≤ 16 = omega arith in pow-le-pow_right pos within) in
    (here, omega (arith, here, top))

abbrev one_bit : ℕ → List ℕ
one_bit b = b ∷ []

pub binary_push : (w x b : ℕ) → b < 2 → binary (suc w) (x * 2 + b) ≡ binary w x ++ b ∷ []
unfolding binary
binary_push zero x b h = let e : bit_at (x * 2 + b) 0 ≡ b = bit_at_lowest (x * 2 + b) ∙ omega arith in ap one_bit e
binary_push (suc w) x b h =
    let e : bit_at (x * 2 + b) (suc w) ≡ bit_at x w = bit_at-suc (x * 2 + b) w ∙ ap (λ n. bit_at n w) (omega arith) in
    rw (e, binary_push w x b h) refl

replicate_more : (z : ℕ) → replicate z 0 ++ one_bit 0 ≡ replicate (suc z) 0
replicate_more zero = refl
replicate_more (suc z) = ap (λ (t : List ℕ). 0 ∷ t) (replicate_more z)

pub binary_zeros : (c z x : ℕ) → binary (z + c) (x * 2 ^ z) ≡ binary c x ++ replicate z 0
binary_zeros c zero x = ap (λ k. binary k (x * 1)) (omega arith) ∙ ap (binary c) (omega arith) ∙ sym (append-nil (binary c x))
binary_zeros c (suc z) x =
    let n : x * 2 ^ suc z ≡ x * 2 ^ z * 2 + 0 = ap (λ p. x * p) (pow-suc 2 z) ∙ omega arith in
    let k : suc z + c ≡ suc (z + c) = omega arith in
    ap (λ w. binary w (x * 2 ^ suc z)) k ∙ ap (binary (suc (z + c))) n ∙ binary_push (z + c) (x * 2 ^ z) 0 (omega arith)
    ∙ ap (λ (t : List ℕ). t ++ one_bit 0) (binary_zeros c z x) ∙ append_assoc (binary c x) (replicate z 0) (one_bit 0) ∙ ap (λ (t : List ℕ). binary c x ++ t) (replicate_more z)

pub bits_append : (xs ys : List ℕ) → bits_of (xs ++ ys) ≡ bits_of xs ++ bits_of ys
unfolding bits_of
bits_append [] ys = refl
bits_append (x ∷ xs) ys = ap (λ (t : List ℕ). binary 8 x ++ t) (bits_append xs ys) ∙ sym (append_assoc (binary 8 x) (bits_of xs) (bits_of ys))

pub bits_push : (xs : List ℕ) (b : ℕ) → bits_of (xs ++ b ∷ []) ≡ bits_of xs ++ binary 8 b
unfolding bits_of
bits_push xs b = bits_append xs (b ∷ []) ∙ ap (λ (t : List ℕ). bits_of xs ++ t) (append-nil (binary 8 b))

pub packed_append : (w : ℕ) (xs ys : List ℕ) → packed w (xs ++ ys) ≡ packed w xs ++ packed w ys
unfolding packed
packed_append w [] ys = refl
packed_append w (x ∷ xs) ys = ap (λ (t : List ℕ). binary w x ++ t) (packed_append w xs ys) ∙ sym (append_assoc (binary w x) (packed w xs) (packed w ys))

pub packed_more : (w : ℕ) (xs : List ℕ) (i : ℕ) → i < length xs → packed w (take (i + 1) xs) ≡ packed w (take i xs) ++ binary w (get_or xs i 0)
unfolding packed
packed_more w xs i lt = ap (packed w) (take_more xs i 0 lt) ∙ packed_append w (take i xs) (get_or xs i 0 ∷ []) ∙ ap (λ (t : List ℕ). packed w (take i xs) ++ t) (append-nil (binary w (get_or xs i 0)))

not_wide : (x p : ℕ) → 0 < p → x < p → ltb 0 (x / p) ≡ leb p x
not_wide x p pos lt = let d : x / p < 1 = div_below x p 1 pos (omega arith) in grind (arith, nat_tests)

yes_wide : (x p : ℕ) → 0 < p → p ≤ x → ltb 0 (x / p) ≡ leb p x
yes_wide x p pos le = let d : 1 ≤ x / p = le-div 1 x p pos (omega arith) in grind (arith, nat_tests)

pub wide_is : (x p : ℕ) → 0 < p → ltb 0 (x / p) ≡ leb p x
wide_is x p pos = elim (cases_lt x p) [ inl lt ↦ not_wide x p pos lt | inr le ↦ yes_wide x p pos le ]

pub length-packed : (w : ℕ) (xs : List ℕ) → length (packed w xs) ≡ w * length xs
unfolding packed
length-packed w [] = omega arith
length-packed w (x ∷ xs) = omega (arith, length-append (binary w x) (packed w xs), length-binary w x, length-packed w xs)

-- the next digit to write, of those that are left
pub binary_next : (w i x : ℕ) → i < w → binary (w - i) x ≡ x / 2 ^ (w - 1 - i) % 2 ∷ binary (w - (i + 1)) x
unfolding binary
binary_next w i x lt =
    let k : w - i ≡ suc (w - (i + 1)) = omega arith in
    ap (λ n. binary n x) k ∙ ap (λ n. x / 2 ^ n % 2 ∷ binary (w - (i + 1)) x) (omega arith)

-- a part of a byte, filled up with zeros
pub filled : (bytes : List ℕ) (c x : ℕ) → c ≤ 8 → bits_of (bytes ++ x * 2 ^ (8 - c) ∷ []) ≡ (bits_of bytes ++ binary c x) ++ replicate (8 - c) 0
filled bytes c x le =
    bits_push bytes (x * 2 ^ (8 - c)) ∙ ap (λ (t : List ℕ). bits_of bytes ++ t) (ap (λ w. binary w (x * 2 ^ (8 - c))) (let e : 8 ≡ 8 - c + c = omega arith in e) ∙ binary_zeros c (8 - c) x)
    ∙ sym (append_assoc (bits_of bytes) (binary c x) (replicate (8 - c) 0))

pub length-view : (bytes : List ℕ) (c x : ℕ) → length (bits_of bytes ++ binary c x) ≡ 8 * length bytes + c
length-view bytes c x = omega (arith, length-append (bits_of bytes) (binary c x), length-binary c x, length-bits bytes)

pub push_part : (bytes : List ℕ) (c p b : ℕ) → b < 2 → bits_of bytes ++ binary (c + 1) (p * 2 + b) ≡ (bits_of bytes ++ binary c p) ++ b ∷ []
push_part bytes c p b h =
    ap (λ w. bits_of bytes ++ binary w (p * 2 + b)) (let e : c + 1 ≡ suc c = omega arith in e)
    ∙ ap (λ (t : List ℕ). bits_of bytes ++ t) (binary_push c p b h) ∙ sym (append_assoc (bits_of bytes) (binary c p) (b ∷ []))

pub push_full : (bytes : List ℕ) (c p b : ℕ) → c ≡ 7 → b < 2 → bits_of (bytes ++ (p * 2 + b) ∷ []) ++ binary 0 0 ≡ (bits_of bytes ++ binary c p) ++ b ∷ []
push_full bytes c p b seven h =
    (let none_left : binary 0 0 ≡ [] = nil_from_length (binary 0 0) (length-binary 0 0) in
    ap (λ (t : List ℕ). bits_of (bytes ++ (p * 2 + b) ∷ []) ++ t) none_left ∙ append-nil (bits_of (bytes ++ (p * 2 + b) ∷ [])))
    ∙ bits_push bytes (p * 2 + b)
    ∙ ap (λ w. bits_of bytes ++ binary w (p * 2 + b)) (let e : 8 ≡ c + 1 = omega arith in e)
    ∙ push_part bytes c p b h

pub none_pending : (bytes : List ℕ) (c x : ℕ) → c ≡ 0 → bits_of bytes ≡ (bits_of bytes ++ binary c x) ++ replicate 0 0
none_pending bytes c x e =
    let nothing : binary c x ≡ [] = nil_from_length (binary c x) (length-binary c x ∙ e) in
    sym (append-nil (bits_of bytes ++ binary c x) ∙ ap (λ (t : List ℕ). bits_of bytes ++ t) nothing ∙ append-nil (bits_of bytes))

-- the digits of the j-th number, cut out of those of all
get_packed : (w : ℕ) (xs : List ℕ) (j : ℕ) (rest : List ℕ) → j < length xs → take w (drop (j * w) (packed w xs ++ rest)) ≡ binary w (get_or xs j 0)
unfolding packed
get_packed w [] j rest lt = absurd (omega arith)
get_packed w (x ∷ xs) zero rest lt =
    let digits = binary w x in
    let tail = packed w xs ++ rest in
    let none_before : 0 * w ≡ 0 = omega arith in
    ap (λ k. take w (drop k ((digits ++ packed w xs) ++ rest))) none_before
    ∙ ap (take w) (append_assoc digits (packed w xs) rest)
    ∙ ap (λ n. take n (digits ++ tail)) (sym (length-binary w x)) ∙ take-append_seam digits tail
get_packed w (x ∷ xs) (suc j) rest lt =
    let digits = binary w x in
    let tail = packed w xs ++ rest in
    let place : suc j * w ≡ length digits + j * w = omega (arith, length-binary w x) in
    ap (λ k. take w (drop k ((digits ++ packed w xs) ++ rest))) place
    ∙ ap (λ (t : List ℕ). take w (drop (length digits + j * w) t)) (append_assoc digits (packed w xs) rest)
    ∙ ap (take w) (drop-append-add digits tail (j * w))
    ∙ get_packed w xs j rest (omega arith)

pub number_packed : (w : ℕ) (xs bytes rest : List ℕ) → bits_of bytes ≡ packed w xs ++ rest → (j : ℕ) → j < length xs → get_or xs j 0 < 2 ^ w → number_at bytes (j * w) w ≡ get_or xs j 0
unfolding number_at
number_packed w xs bytes rest e j lt small =
    ap (λ bs. number_from_digits 2 (take w (drop (j * w) bs))) e ∙ ap (number_from_digits 2) (get_packed w xs j rest lt) ∙ number_binary w (get_or xs j 0) ∙ mod-eq_of_lt small

-- a number of some bits fits them
pub number_at-lt : (bytes : List ℕ) (at w : ℕ) → number_at bytes at w < 2 ^ w
unfolding number_at
number_at-lt bytes at w =
    let digits = take w (drop at (bits_of bytes)) in
    let low : number_from_digits 2 digits < 2 ^ length digits = number_lt 2 digits (below-take w (drop at (bits_of bytes)) (below-drop at (bits_of bytes) (below-bits bytes))) in
    let two : 0 < 2 = omega arith in
    let short : length digits ≤ w = omega (arith, length-take w (drop at (bits_of bytes))) in
    omega (arith, low, pow-le-pow_right two short)
