-- A damage that is met in a dataset that is open.
use Rattle.std.proofs.Common.{◌≡◌, ◌∙◌, ◌<◌, ◌-◌, ℕ, zero, suc, List, [], ◌∷◌, length, IfSome, Option, Some, inl, inr, refl, sym, ap, subst, arith}
use Rattle.std.specs.Prelude.{slice_get, Contains}
use Rattle.std.proofs.lemmas.List.Elements.{Contains-get_or}
use Rattle.std.proofs.lemmas.Option.{get_or_from_slice_get, slice_get_within}
use Rattle.fd_segment.specs.Held.{Standing}
use Rattle.fd_segment.specs.declared.fault.Damage.{Damage}
use Rattle.fd_retriever.specs.declared.fault.FetchFault.{FetchFault}
use Rattle.fd_retriever.specs.declared.fault.FetchFault.TheVariants as fetches
use Rattle.fd_retriever.specs.Answers as fetching
use Rattle.fd_retriever.specs.Answers.{StandsIn}
use Rattle.fd_finding.specs.Spots.{IsWithin}
use Rattle.fd_answering.specs.declared.answering.Halt.{Halt}
use Rattle.fd_answering.specs.declared.answering.Halt.TheVariants as halts
use Rattle.fd_ahead.specs.declared.located.Located.{Located}
use Rattle.fd_ahead.specs.Places.{InSegment, IsMetAt}
use Rattle.fd_answering.specs.Finding.{OnDamaged}
use Rattle.fd_answering.specs.Damages.{IsDamagedAt}
use Rattle.fd_ahead.specs.Places.{Open}

pub at_number : {A : Type 0} (xs : List A) (i : ℕ) (x : A) → slice_get xs i ≡ Some x → Contains xs x
at_number xs i x at = subst (Contains xs) (get_or_from_slice_get xs i x x at) (Contains-get_or xs i x (slice_get_within xs i x at))

get_within : {A : Type 0} (xs : List A) (i : ℕ) → i < length xs → (x : A) × (slice_get xs i ≡ Some x)
get_within [] i lt = absurd (omega (arith, lt))
get_within (x ∷ xs) zero lt = (x, refl)
get_within (x ∷ xs) (suc i) lt = get_within xs i (omega (arith, lt))

-- what holds of a segment of the dataset
pub in_dataset : (os : List Open) (l : Located) (o : Open) (P : Standing → Type 0) → slice_get os l.number ≡ Some o → InSegment os l P → IfSome (slice_get o.shown (l.spot.number - 1)) P
in_dataset os l o P at is = subst (λ (q : Option Open). IfSome q (λ (p : Open). IfSome (slice_get p.shown (l.spot.number - 1)) P)) at is

-- a damage that is met where bytes are read stands in the dataset, too
pub copied_damage : (os : List Open) (l : Located) (o : Open) (d : Damage) → slice_get os l.number ≡ Some o → IsWithin o.shown l.spot
    → IfSome (slice_get o.shown (l.spot.number - 1)) (IsMetAt l d) → IsDamagedAt os l.number d
copied_damage os l o d at within bad =
    let s = get_within o.shown (l.spot.number - 1) (omega (arith, within.from, within.to)) in
    let stands = subst (λ (x : Option Standing). IfSome x (IsMetAt l d)) s.1 bad in
    record { inside = slice_get_within os l.number o at; dataset = o; at = at; key = within.key; stands = (s.0, at_number o.shown (l.spot.number - 1) s.0 s.1, go s.0 s.1 stands) }
  where
    go : (s : Standing) → slice_get o.shown (l.spot.number - 1) ≡ Some s → IsMetAt l d s → StandsIn s.files within.key d
    go s is (inl frame) = inl frame.0
    go s is (inr digest) = let said = within.said s is in inr (inr (l.spot.at, l.spot.len, said.0, said.1, within.ends s is, digest))

module _ {F X : Type 0} where
  pub on_damaged : (e : FetchFault F X) (P Q : Damage → Type 0) → ((d : Damage) → P d → Q d) → fetching.OnDamaged e P → fetching.OnDamaged e Q
  on_damaged (fetches.Disk f) P Q so is = tt
  on_damaged (fetches.Damaged d) P Q so is = so d is
  on_damaged (fetches.Write x) P Q so is = tt
  on_damaged fetches.NoMemory P Q so is = tt

  -- it is told with the number of its dataset
  pub told_at : (h : Halt F X) (os : List Open) (located : Option Located) (damage : Damage) → OnDamaged h (λ n d. (l : Located) × (located ≡ Some l) × (n ≡ l.number) × (d ≡ damage))
      → (l : Located) × (located ≡ Some l) × IsDamagedAt os l.number damage → OnDamaged h (IsDamagedAt os)
  told_at (halts.Disk f) os located damage told at = tt
  told_at (halts.Unwritten x) os located damage told at = tt
  told_at (halts.Untold x) os located damage told at = tt
  told_at (halts.Damaged n d) os located damage told at =
      let same : at.0 ≡ told.0 = cc (at.1, told.1) in
      subst (λ (k : ℕ). IsDamagedAt os k d) (ap (λ (l : Located). l.number) same ∙ sym told.2) (subst (IsDamagedAt os at.0.number) (sym told.3) at.2)
  told_at halts.NoMemory os located damage told at = tt
