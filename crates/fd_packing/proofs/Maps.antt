-- Bit maps, and places.
use Rattle.std.proofs.Common.{◌≡◌, ℕ, ◌+◌, ◌*◌, ◌<◌, ◌≤◌, List, length, take, true, false, Option, Some, None, cond, subst, refl, ap, ◌∙◌, arith}
use Rattle.std.specs.Prelude.{◌==◌, slice_index, IfSome}
use Rattle.std.proofs.Math.Nat.{mul-le-mul_left}
use Rattle.std.specs.Int.Digits.{number_from_digits}
use Rattle.std.proofs.lemmas.List.{length-take}
use Rattle.std.proofs.lemmas.List.Sums.{count_by_more_yes, count_by_more_no, count_by-le-length, sum_by-take-le}
use Rattle.std.proofs.Math.Seq.{drop-cons}
use Rattle.fd_packing.specs.Bits.{bits_of, number_at}
use Rattle.fd_packing.specs.Value.{ones, has_value, place_of}
use Rattle.fd_packing.specs.Field.{map_bits}
use Rattle.fd_packing.proofs.BitLemmas.{length-bits, take_take}

pub one_bit : (bytes : List ℕ) (i : ℕ) → i < 8 * length bytes → number_at bytes i 1 ≡ slice_index (bits_of bytes) i
unfolding number_at
one_bit bytes i lt =
    let within : i < length (bits_of bytes) = omega (arith, length-bits bytes) in
    ap (λ (t : List ℕ). number_from_digits 2 (take 1 t)) (drop-cons (bits_of bytes) i 0 within) ∙ omega arith

pub ones_yes : (bits : List ℕ) (i : ℕ) → i < length bits → (slice_index bits i == 1) ≡ true → ones (take (i + 1) bits) ≡ ones (take i bits) + 1
ones_yes bits i lt e = count_by_more_yes (λ b. b == 1) bits i 0 lt e

pub ones_no : (bits : List ℕ) (i : ℕ) → i < length bits → (slice_index bits i == 1) ≡ false → ones (take (i + 1) bits) ≡ ones (take i bits)
ones_no bits i lt e = count_by_more_no (λ b. b == 1) bits i 0 lt e

pub ones_few : (bits : List ℕ) (i : ℕ) → ones (take i bits) ≤ i
ones_few bits i = omega (arith, count_by-le-length (λ b. b == 1) (take i bits), length-take i bits)

pub ones_grow : (bits : List ℕ) (i j : ℕ) → i ≤ j → ones (take i bits) ≤ ones (take j bits)
ones_grow bits i j le =
    let less : ones (take i (take j bits)) ≤ ones (take j bits) = sum_by-take-le (λ b. cond (b == 1) 1 0) (take j bits) i in
    let P : List ℕ → Type 0 = λ (t : List ℕ). ones t ≤ ones (take j bits) in
    subst P (take_take i j bits le) less

-- a point that has a value has a place below their number
pub place_below : (map : Option (List ℕ)) (points i : ℕ) → i < points → IfSome map (λ bits. length bits ≡ points) → has_value map i ≡ true → place_of map i + 1 ≤ place_of map points
place_below None points i lt long there = omega arith
place_below (Some bits) points i lt long there =
    omega (arith, ones_yes bits i (omega (arith, long)) there, ones_grow bits (i + 1) points (omega arith))

-- a bit map has a bit for each point
pub map_bits-long : (points : ℕ) (map : Option (List ℕ)) → IfSome map (λ bytes. points ≤ 8 * length bytes) → IfSome (map_bits points map) (λ bits. length bits ≡ points)
map_bits-long points None long = tt
map_bits-long points (Some bytes) long = let e : length (take points (bits_of bytes)) ≡ points = omega (arith, long, length-take points (bits_of bytes), length-bits bytes) in e

-- the next point
pub place_next : (map : Option (List ℕ)) (points i : ℕ) → i < points → IfSome map (λ bits. length bits ≡ points) → has_value map i ≡ true → place_of map (i + 1) ≡ place_of map i + 1
place_next None points i lt long there = refl
place_next (Some bits) points i lt long there = ones_yes bits i (omega (arith, long)) there

pub place_same : (map : Option (List ℕ)) (points i : ℕ) → i < points → IfSome map (λ bits. length bits ≡ points) → has_value map i ≡ false → place_of map (i + 1) ≡ place_of map i
place_same None points i lt long there = absurd (let e : ⊥ = cc in e)
place_same (Some bits) points i lt long there = ones_no bits i (omega (arith, long)) there

pub place_first : (map : Option (List ℕ)) → place_of map 0 ≡ 0
place_first None = refl
place_first (Some bits) = refl

pub place_few : (map : Option (List ℕ)) (i : ℕ) → place_of map i ≤ i
place_few None i = omega arith
place_few (Some bits) i = ones_few bits i

-- the packed number at a place lies within the octets
pub place_within : (j there w octets : ℕ) → j + 1 ≤ there → there * w ≤ 8 * octets → j * w + w ≤ 8 * octets
place_within j there w octets le fits = omega (arith, mul-le-mul_left w le)
