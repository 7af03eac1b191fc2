-- The faults of steps are counted one after the other.
use Rattle.std.proofs.Common.{◌≡◌, ◌≤◌, ◌<◌, ◌+◌, ◌-◌, ◌^◌, ℕ, List, [], ◌∷◌, ◌++◌, length, refl, arith}
use Rattle.fd_lanes.specs.declared.end.End.{End}
use Rattle.fd_session.specs.Endings.{count_faults, is_fault, lane_faults, one_if}
use Rattle.fd_session.specs.Writes.{HasCounted}

module _ {F : Type 0} where
  pub lane_more : (es : List (End F)) (e : End F) → lane_faults (es ++ e ∷ []) ≡ lane_faults es + one_if (is_fault e)
  lane_more [] e = omega arith
  lane_more (x ∷ xs) e = omega (arith, lane_more xs e)

  pub count_more : (ends : List (List (End F))) (es : List (End F)) → count_faults (ends ++ es ∷ []) ≡ count_faults ends + lane_faults es
  count_more [] es = omega arith
  count_more (x ∷ xs) es = omega (arith, count_more xs es)

-- So many faults are to be counted, of which these are left: the count rose by the others, unless it stands at its highest.
abbrev pub IsCounting : ℕ → ℕ → ℕ → ℕ → Type 0
IsCounting all left before now = now < 2 ^ 64 - 1 → before + all ≤ now + left

pub counting_more : (all left rest one x y z : ℕ) → left ≡ rest + one → IsCounting all left x y → HasCounted one y z → IsCounting all rest x z
counting_more all left rest one x y z is e f = λ lt.
    let h = f lt in
    let below : y < 2 ^ 64 - 1 = omega (arith, h, lt) in
    let k = e below in
    omega (arith, h, k, is)

pub counting_ends : (all left x y : ℕ) → left ≡ 0 → IsCounting all left x y → HasCounted all x y
counting_ends all left x y none e = λ lt. let k = e lt in omega (arith, k, none)

pub counting_begins : (all left x : ℕ) → left ≡ all → IsCounting all left x x
counting_begins all left x same = λ lt. omega (arith, same)

pub nothing_left : {X : Type 0} (xs : List X) → length xs ≡ 0 → xs ≡ []
nothing_left [] is = refl
nothing_left (x ∷ xs) is = absurd (omega (arith, is))
