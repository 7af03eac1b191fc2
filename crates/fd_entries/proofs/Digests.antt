-- The octets of a digest.
use Rattle.std.proofs.Common.{◌≡◌, ℕ, zero, suc, ◌+◌, ◌≤◌, List, ◌∷◌, length, take, drop, get_or, refl, sym, ◌∙◌, ap, arith, Some}
use Rattle.std.proofs.lemmas.List.{drop_more, take_all}
use Rattle.fd_entries.specs.Table.{digest_octets}

digest_part : (n i : ℕ) (d : List ℕ) → i + n ≤ length d → digest_octets n i (Some d) ≡ take n (drop i d)
digest_part zero i d le = refl
digest_part (suc n) i d le = ap (λ (l : List ℕ). get_or d i 0 ∷ l) (digest_part n (i + 1) d (omega arith)) ∙ sym (ap (take (suc n)) (drop_more d i 0 (omega arith)))

-- they are all of it
pub octets_are : (d : List ℕ) → length d ≡ 32 → digest_octets 32 0 (Some d) ≡ d
octets_are d long = digest_part 32 0 d (omega (arith, long)) ∙ take_all 32 d (omega (arith, long))
