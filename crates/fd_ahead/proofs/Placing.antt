-- Places in segments of datasets that are open.
use Rattle.std.proofs.Common.{◌≡◌, ◌≤◌, ◌-◌, ◌+◌, ◌∙◌, ℕ, List, length, Option, Some, None, IfSome, slice_get, refl, ap, sym, subst}
use Rattle.std.specs.Prelude.{option_map}
use Rattle.fd_segment.specs.Held.{Standing, behind}
use Rattle.fd_retriever.specs.Kept.{AreThose, Kept}
use Rattle.fd_ahead.specs.declared.located.Located.{Located}
use Rattle.fd_ahead.specs.Places.{InSegment, IsIn, Keeping, Keeps, Open}

-- the dataset with the number has these segments
abbrev pub Shows : List Open → Located → List Standing → Type 0
Shows os l ss = IfSome (slice_get os l.number) (λ o. o.shown ≡ ss)

pub shown_is : (os : List Open) (l : Located) (ss : List Standing) (within : IsIn os l) → Shows os l ss → within.dataset.shown ≡ ss
shown_is os l ss within shows = subst (λ q. IfSome q (λ (o : Open). o.shown ≡ ss)) within.at shows

pub number_in : (os : List Open) (l : Located) (ss : List Standing) → IsIn os l → Shows os l ss → (1 ≤ l.spot.number) × (l.spot.number ≤ length ss)
number_in os l ss within shows = (within.within.from, subst (λ (xs : List Standing). l.spot.number ≤ length xs) (shown_is os l ss within shows) within.within.to)

pub ends_in : (os : List Open) (l : Located) (ss : List Standing) → IsIn os l → Shows os l ss → IfSome (slice_get ss (l.spot.number - 1)) (λ s. l.spot.at + l.spot.len + behind s.files.entry ≤ s.files.entry.fields_len)
ends_in os l ss within shows =
    subst (λ (xs : List Standing). IfSome (slice_get xs (l.spot.number - 1)) (λ s. l.spot.at + l.spot.len + behind s.files.entry ≤ s.files.entry.fields_len)) (shown_is os l ss within shows)
    (go (slice_get within.dataset.shown (l.spot.number - 1)) within.within.ends)
  where
    go : (q : Option Standing) → ((s : Standing) → q ≡ Some s → l.spot.at + l.spot.len + behind s.files.entry ≤ s.files.entry.fields_len) → IfSome q (λ s. l.spot.at + l.spot.len + behind s.files.entry ≤ s.files.entry.fields_len)
    go None ends = tt
    go (Some s) ends = ends s refl

-- what is kept of the dataset reads its files
pub those_of : (k : Option Keeping) (os : List Open) (l : Located) (ss : List Standing) → IsIn os l → Keeps os k → Shows os l ss → IfSome k (λ c. c.number ≡ l.number → AreThose c.kept ss)
those_of None os l ss within keeps shows = tt
those_of (Some c) os l ss within keeps shows = λ e.
    subst (AreThose c.kept) (shown_is os l ss within shows) (subst (λ q. IfSome q (λ (o : Open). AreThose c.kept o.shown)) (ap (slice_get os) e ∙ within.at) keeps)

pub keeps_those : (os : List Open) (l : Located) (ss : List Standing) (kept : List Kept) → Shows os l ss → AreThose kept ss → Keeps os (Some (record { number = l.number; kept = kept }))
keeps_those os l ss kept shows those = go (slice_get os l.number) shows
  where
    go : (q : Option Open) → IfSome q (λ o. o.shown ≡ ss) → IfSome q (λ o. AreThose kept o.shown)
    go None is = tt
    go (Some o) is = subst (AreThose kept) (sym is) those

-- what holds of a segment of the dataset with the number
pub in_segment : (os : List Open) (l : Located) (ss : List Standing) (P : Standing → Type 0) → Shows os l ss → IfSome (slice_get ss (l.spot.number - 1)) P → InSegment os l P
in_segment os l ss P shows is = go (slice_get os l.number) shows
  where
    go : (q : Option Open) → IfSome q (λ o. o.shown ≡ ss) → IfSome q (λ o. IfSome (slice_get o.shown (l.spot.number - 1)) P)
    go None same = tt
    go (Some o) same = subst (λ xs. IfSome (slice_get xs (l.spot.number - 1)) P) (sym same) is

-- what holds of a segment, where another does
pub as_segment : (os : List Open) (l : Located) (P Q : Standing → Type 0) → ((s : Standing) → P s → Q s) → InSegment os l P → InSegment os l Q
as_segment os l P Q so is = go (slice_get os l.number) is
  where
    inner : (q : Option Standing) → IfSome q P → IfSome q Q
    inner None h = tt
    inner (Some s) h = so s h

    go : (q : Option Open) → IfSome q (λ o. IfSome (slice_get o.shown (l.spot.number - 1)) P) → IfSome q (λ o. IfSome (slice_get o.shown (l.spot.number - 1)) Q)
    go None h = tt
    go (Some o) h = inner (slice_get o.shown (l.spot.number - 1)) h

pub in_any : (os : List Open) (l : Located) (P : Standing → Type 0) → ((s : Standing) → P s) → InSegment os l P
in_any os l P so = go (slice_get os l.number)
  where
    inner : (q : Option Standing) → IfSome q P
    inner None = tt
    inner (Some s) = so s

    go : (q : Option Open) → IfSome q (λ o. IfSome (slice_get o.shown (l.spot.number - 1)) P)
    go None = tt
    go (Some o) = inner (slice_get o.shown (l.spot.number - 1))

-- what holds of a mapped value, where there is one
pub of_mapped : {A B : Type 0} (o : Option A) (f : A → B) (P : B → Type 0) → IfSome (option_map f o) P → IfSome o (λ x. P (f x))
of_mapped None f P is = tt
of_mapped (Some x) f P is = is
