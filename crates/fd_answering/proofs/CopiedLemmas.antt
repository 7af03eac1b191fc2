-- The bytes of a key that was located, copied.
use Rattle.std.proofs.Common.{◌≡◌, ◌∙◌, ◌-◌, ◌+◌, ◌≤◌, ◌<◌, ◌++◌, ℕ, List, length, take, drop, get_or, Option, None, Some, refl, sym, ap, subst, slice_get, take-take, take-append-drop}
use Rattle.std.specs.Prelude.{IfSome}
use Rattle.fd_segment.specs.Copying.{IsCopied, IsCopiedInPart}
use Rattle.fd_segment.specs.Held.{Standing, behind}
use Rattle.fd_retriever.specs.declared.fault.Got.TheVariants.{Found, Miss}
use Rattle.fd_retriever.specs.Answers.{IsAnswer, TookFront}
use Rattle.fd_finding.specs.Spots.{IsWithin}
use Rattle.fd_ahead.specs.declared.located.Located.{Located}
use Rattle.fd_answering.specs.Located.{StandsAt}
use Rattle.fd_ahead.specs.Places.{IsIn}
use Rattle.fd_ahead.specs.Places.{Open}
use Rattle.fd_answering.proofs.AnsweringLemmas.{some_is}

pub told_is : (fields : Option (List ℕ)) (all bytes : List ℕ) (at len : ℕ) → fields ≡ Some all → IfSome fields (λ f. bytes ≡ take len (drop at f)) → bytes ≡ take len (drop at all)
told_is fields all bytes at len is told = subst (λ (o : Option (List ℕ)). IfSome o (λ f. bytes ≡ take len (drop at f))) is told

pub at_segment : (ss : List Standing) (n : ℕ) (s : Standing) (P : Standing → Type 0) → slice_get ss n ≡ Some s → IfSome (slice_get ss n) P → P s
at_segment ss n s P is h = subst (λ (o : Option Standing). IfSome o P) is h

module _ (os : List Open) (bytes : Option (List ℕ)) (l : Located) (o : Open) (old new : Option (List ℕ)) (at : slice_get os l.number ≡ Some o) (there : StandsAt os bytes l) where
  here : slice_get o.shown (l.spot.number - 1) ≡ Some there.segment
  here = subst (λ (x : Open). slice_get x.shown (l.spot.number - 1) ≡ Some there.segment) (some_is there.dataset o (sym there.at ∙ at)) there.numbered.1

  pub found_whole : IfSome (slice_get o.shown (l.spot.number - 1)) (λ s. IsCopied s.files.fields l.spot.at l.spot.len old new) → IsAnswer bytes old new (Found l.spot.len)
  found_whole copied =
      let c = at_segment o.shown (l.spot.number - 1) there.segment (λ s. IsCopied s.files.fields l.spot.at l.spot.len old new) here copied in
      let is = told_is there.segment.files.fields there.fields c.0 l.spot.at l.spot.len there.told c.1.told in
      subst (λ (x : Option (List ℕ)). IsAnswer x old new (Found l.spot.len)) (ap (λ (b : List ℕ). Some b) is ∙ sym there.is) (sym c.1.long, c.2)

  pub found_part : IfSome (slice_get o.shown (l.spot.number - 1)) (λ s. IsCopiedInPart s.files.fields l.spot.at l.spot.len old new) → TookFront bytes old new
  found_part copied =
      let p = at_segment o.shown (l.spot.number - 1) there.segment (λ s. IsCopiedInPart s.files.fields l.spot.at l.spot.len old new) here copied in
      let all = drop l.spot.at there.fields in
      let is : p.2.0 ≡ take p.0 all = told_is there.segment.files.fields there.fields p.2.0 l.spot.at p.0 there.told p.2.1.told in
      let front : take l.spot.len all ≡ p.2.0 ++ drop p.0 (take l.spot.len all) =
      sym (take-append-drop p.0 (take l.spot.len all)) ∙ ap (λ (x : List ℕ). x ++ drop p.0 (take l.spot.len all)) (take-take p.0 l.spot.len all p.1 ∙ sym is) in
      subst (λ (x : Option (List ℕ)). TookFront x old new) (sym there.is) (p.2.0, drop p.0 (take l.spot.len all), front, p.2.2)

-- a key that isn't located is a miss
pub missed_whole : (bytes taken : Option (List ℕ)) → bytes ≡ None → IsAnswer bytes taken taken Miss
missed_whole bytes taken none = subst (λ (x : Option (List ℕ)). IsAnswer x taken taken Miss) (sym none) refl

-- the spot lies within a segment of the dataset with the number
pub within_of : (os : List Open) (l : Located) (o : Open) → slice_get os l.number ≡ Some o → IsIn os l → IsWithin o.shown l.spot
within_of os l o at there = subst (λ (x : Open). IsWithin x.shown l.spot) (some_is there.dataset o (sym there.at ∙ at)) there.within

-- its bytes end within the fields
pub ends_within : (ss : List Standing) (n at len : ℕ) → ((s : Standing) → slice_get ss n ≡ Some s → at + len + behind s.files.entry ≤ s.files.entry.fields_len) → IfSome (slice_get ss n) (λ s. at + len + behind s.files.entry ≤ s.files.entry.fields_len)
ends_within ss n at len ends = go (slice_get ss n) refl
  where
    go : (o : Option Standing) → slice_get ss n ≡ o → IfSome o (λ s. at + len + behind s.files.entry ≤ s.files.entry.fields_len)
    go None is = tt
    go (Some s) is = ends s is

-- what is located lies within a segment
pub within_at : (now os : List Open) (located : List (Option Located)) (i : ℕ) → now ≡ os → ((k : ℕ) (d : Option Located) → k < length located → IfSome (get_or located k d) (IsIn os)) → i < length located → (d : Option Located) → IfSome (get_or located i d) (IsIn now)
within_at now os located i same within lt d = subst (λ (x : List Open). IfSome (get_or located i d) (IsIn x)) (sym same) (within i d lt)
