-- A damage that is met in a dataset that is open.
use Rattle.std.proofs.Common.{◌≡◌, ◌∙◌, ◌<◌, ◌-◌, ℕ, List, [], length, Option, Some, inl, inr, sym, ap, subst}
use Rattle.std.specs.Prelude.{slice_get, Contains}
use Rattle.fd_segment.specs.Held.{Standing}
use Rattle.fd_segment.specs.declared.fault.Damage.{Damage}
use Rattle.fd_finding.specs.Spots.{StandsForOne, StandsForSome}
use Rattle.fd_ahead.specs.declared.located.Located.{Located}
use Rattle.fd_retrieve.specs.declared.locating.Lost.{Lost}
use Rattle.fd_retrieve.specs.declared.locating.Lost.TheVariants as losses
use Rattle.fd_retrieve.specs.Located.{OnLost}
use Rattle.fd_answering.specs.Damages.{IsDamaged, IsDamagedAt}
use Rattle.fd_retrieve.specs.Open.{Open}
use Rattle.fd_answering.proofs.DamageLemmas.{at_number}

-- what a look for keys meets in a segment
met : (ss : List Standing) (s : Standing) (keys : List (List ℕ)) (d : Damage) → Contains ss s → StandsForOne s.files keys d → (key : List ℕ) × IsDamaged ss key d
met ss s keys d there (inl bad) = ([], (s, there, inl bad.0))
met ss s keys d there (inr found) = (found.0, (s, there, inr (inl found.2)))

-- a damage that a look for keys meets stands in the dataset
pub damaged_in : (os : List Open) (n : ℕ) (o : Open) (shown : List Standing) (keys : List (List ℕ)) (d : Damage) → n < length os → slice_get os n ≡ Some o → shown ≡ o.shown → StandsForSome shown keys d → IsDamagedAt os n d
damaged_in os n o shown keys d lt at is met_at =
    let one = met shown met_at.1 keys d (at_number shown (met_at.0 - 1) met_at.1 met_at.2.1) met_at.3 in
    record { inside = lt; dataset = o; at = at; key = one.0; stands = subst (λ ss. IsDamaged ss one.0 d) is one.1 }

module _ {F : Type 0} where
  -- it is lost with the number of its dataset
  pub lost_at : (e : Lost F) (os : List Open) (located : Option Located) (damage : Damage) → OnLost e (λ n d. (l : Located) × (located ≡ Some l) × (n ≡ l.number) × (d ≡ damage))
      → (l : Located) × (located ≡ Some l) × IsDamagedAt os l.number damage → OnLost e (IsDamagedAt os)
  lost_at (losses.Disk f) os located damage lost at = tt
  lost_at (losses.Damaged n d) os located damage lost at =
      let same : at.0 ≡ lost.0 = cc (at.1, lost.1) in
      subst (λ (k : ℕ). IsDamagedAt os k d) (ap (λ (l : Located). l.number) same ∙ sym lost.2) (subst (IsDamagedAt os at.0.number) (sym lost.3) at.2)
  lost_at losses.NoMemory os located damage lost at = tt
