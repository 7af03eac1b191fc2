-- Numbers by their single octets.
use Rattle.std.proofs.Common.{◌≡◌, ℕ, zero, suc, ◌+◌, ◌-◌, ◌*◌, ◌≤◌, ◌<◌, List, [], ◌∷◌, length, refl, ap, ◌∙◌, arith}
use Rattle.std.specs.Prelude.{slice_index, Some, None, if◌then◌else◌}
use Rattle.byteorder.specs.Endian.{big_from}
use Rattle.fd_bytes.specs.Numbers.{octets, signed, is_missing}
use Rattle.fd_templates.specs.Octets.{number, signed_number, number_or_missing, signed_or_missing}

pub one_octet : (o : ℕ) (s : List ℕ) → number o o s ≡ slice_index s (o - 1)
unfolding number
one_octet o s = ap (λ n. big_from (o - 1) n s) (let e : o + 1 - o ≡ 1 = omega arith in e) ∙ omega arith

past : (s : List ℕ) (i : ℕ) → length s ≤ i → slice_index s i ≡ 0
past [] i le = refl
past (x ∷ s) zero le = absurd (omega arith)
past (x ∷ s) (suc i) le = past s i (omega arith)

-- an octet that isn't there reads as 0
pub number_past : (o : ℕ) (s : List ℕ) → length s < o → number o o s ≡ 0
number_past o s lt = one_octet o s ∙ past s (o - 1) (omega arith)

pub two_octets : (o : ℕ) (s : List ℕ) → 1 ≤ o → number o (o + 1) s ≡ slice_index s (o - 1) * 256 + slice_index s o
unfolding number
two_octets o s one =
    let count : o + 1 + 1 - o ≡ 2 = omega arith in
    let next : suc (o - 1) ≡ o = omega arith in
    ap (λ n. big_from (o - 1) n s) count ∙ ap (λ i. slice_index s (o - 1) * 256 + (slice_index s i * 1 + 0)) next ∙ omega arith

pub four_octets : (o : ℕ) (s : List ℕ) → 1 ≤ o → number o (o + 3) s ≡ slice_index s (o - 1) * 16777216 + slice_index s o * 65536 + slice_index s (o + 1) * 256 + slice_index s (o + 2)
unfolding number
four_octets o s one =
    let count : o + 3 + 1 - o ≡ 4 = omega arith in
    let next : suc (o - 1) ≡ o = omega arith in
    let second : suc (suc (o - 1)) ≡ o + 1 = omega arith in
    let third : suc (suc (suc (o - 1))) ≡ o + 2 = omega arith in
    ap (λ n. big_from (o - 1) n s) count
    ∙ ap (λ i. slice_index s (o - 1) * 16777216 + (slice_index s i * 65536 + (slice_index s (suc i) * 256 + (slice_index s (suc (suc i)) * 1 + 0)))) next
    ∙ ap (λ i. slice_index s (o - 1) * 16777216 + (slice_index s o * 65536 + (slice_index s i * 256 + (slice_index s (suc i) * 1 + 0)))) (let e : suc o ≡ o + 1 = omega arith in e)
    ∙ ap (λ i. slice_index s (o - 1) * 16777216 + (slice_index s o * 65536 + (slice_index s (o + 1) * 256 + (slice_index s i * 1 + 0)))) (let e : suc (o + 1) ≡ o + 2 = omega arith in e)
    ∙ omega arith

pub signed_two : (o : ℕ) (s : List ℕ) → signed_number o (o + 1) s ≡ signed 16 (number o (o + 1) s)
unfolding number signed_number
signed_two o s = ap (λ b. signed b (octets o (o + 1) s)) (let e : 8 * (o + 1 + 1 - o) ≡ 16 = omega arith in e)

pub signed_four : (o : ℕ) (s : List ℕ) → signed_number o (o + 3) s ≡ signed 32 (number o (o + 3) s)
unfolding number signed_number
signed_four o s = ap (λ b. signed b (octets o (o + 3) s)) (let e : 8 * (o + 3 + 1 - o) ≡ 32 = omega arith in e)

pub missing_one : (o : ℕ) (s : List ℕ) → signed_or_missing o o s ≡ (if is_missing 8 (number o o s) then None else Some (signed 8 (number o o s)))
unfolding number signed_or_missing
missing_one o s = ap (λ b. if is_missing b (octets o o s) then None else Some (signed b (octets o o s))) (let e : 8 * (o + 1 - o) ≡ 8 = omega arith in e)

pub missing_four : (o : ℕ) (s : List ℕ) → signed_or_missing o (o + 3) s ≡ (if is_missing 32 (number o (o + 3) s) then None else Some (signed 32 (number o (o + 3) s)))
unfolding number signed_or_missing
missing_four o s = ap (λ b. if is_missing b (octets o (o + 3) s) then None else Some (signed b (octets o (o + 3) s))) (let e : 8 * (o + 3 + 1 - o) ≡ 32 = omega arith in e)

pub number_missing_four : (o : ℕ) (s : List ℕ) → number_or_missing o (o + 3) s ≡ (if is_missing 32 (number o (o + 3) s) then None else Some (number o (o + 3) s))
unfolding number number_or_missing
number_missing_four o s = ap (λ b. if is_missing b (octets o (o + 3) s) then None else Some (octets o (o + 3) s)) (let e : 8 * (o + 3 + 1 - o) ≡ 32 = omega arith in e)
