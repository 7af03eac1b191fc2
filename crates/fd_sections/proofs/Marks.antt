-- Where the first `GRIB` stands, as a search finds it.
use Rattle.std.proofs.Common.{◌≡◌, ℕ, zero, suc, ◌+◌, ◌<◌, ◌≤◌, true, false, List, [], ◌∷◌, length, take, drop, Option, Some, None, refl, sym, ap, ◌∙◌, arith, inl, inr, length-drop, length-take}
use Rattle.std.specs.Prelude.{nat_eq, MatchOption}
use Rattle.std.specs.List.{starts_with}
use Rattle.std.proofs.lemmas.Bool.{cases_Bool}
use Rattle.std.proofs.lemmas.Slice.Eq.{bytes_eq-Decides}
use Rattle.memchr.specs.Find.{OccursAt, FindsNeedle}
use Rattle.memchr.proofs.lemmas.MatchLemmas.{OccursAt-part, OccursAt-from_part}
use Rattle.fd_sections.specs.Message.{grib}
use Rattle.fd_sections.specs.Stream.{from_mark}
use Rattle.fd_sections.proofs.SectionLaws.{same_from_pointwise}

-- no `GRIB` stands at this place
abbrev pub IsUnmarkedAt : List ℕ → ℕ → Type 0
IsUnmarkedAt s k = starts_with nat_eq (drop k s) grib ≡ false

-- the octets at an occurrence
marked_at : (s : List ℕ) (k : ℕ) → OccursAt s grib k → starts_with nat_eq (drop k s) grib ≡ true
marked_at s k h = (bytes_eq-Decides grib (take 4 (drop k s))).1 (sym (OccursAt-part s grib k h))

occurs : (s : List ℕ) (k : ℕ) → k ≤ length s → starts_with nat_eq (drop k s) grib ≡ true → OccursAt s grib k
occurs s k le e =
    let same : grib ≡ take 4 (drop k s) = same_from_pointwise grib (take 4 (drop k s)) e in
    let long : 4 ≡ length (take 4 (drop k s)) = ap length same in
    OccursAt-from_part s grib k (omega (arith, length-take 4 (drop k s), length-drop k s)) (sym same)

unmarked_at : (s : List ℕ) (k : ℕ) → k ≤ length s → (OccursAt s grib k → ⊥) → IsUnmarkedAt s k
unmarked_at s k le apart =
    elim (cases_Bool (starts_with nat_eq (drop k s) grib)) [
      | inl stands ↦ absurd (apart (occurs s k le stands))
      | inr missing ↦ missing
    ]

pub from_mark-here : (s : List ℕ) → starts_with nat_eq s grib ≡ true → from_mark s ≡ s
from_mark-here [] here = absurd cc
from_mark-here (b ∷ bs) here = rw here refl

from_mark-later : (k : ℕ) (s : List ℕ) → k ≤ length s → ((j : ℕ) → j < k → IsUnmarkedAt s j) → from_mark s ≡ from_mark (drop k s)
from_mark-later zero s le before = refl
from_mark-later (suc k) [] le before = absurd (omega arith)
from_mark-later (suc k) (b ∷ bs) le before =
    let here : starts_with nat_eq (b ∷ bs) grib ≡ false = before 0 (omega arith) in
    let later = from_mark-later k bs (omega arith) (λ j lt. before (suc j) (omega arith)) in
    rw here later

nothing_after : (s : List ℕ) → from_mark (drop (length s) s) ≡ []
nothing_after [] = refl
nothing_after (b ∷ bs) = nothing_after bs

-- what a search for the mark found
abbrev pub Found : List ℕ → Option ℕ → Type 0
Found s r = MatchOption r (from_mark s ≡ []) (λ k. (from_mark s ≡ drop k s) × (k ≤ length s))

pub mark_found : (s : List ℕ) (r : Option ℕ) → FindsNeedle s grib 0 r → Found s r
mark_found s None nowhere =
    let before : (j : ℕ) → j < length s → IsUnmarkedAt s j = λ j lt. unmarked_at s j (omega arith) (nowhere j (omega arith) (omega arith)) in
    from_mark-later (length s) s (omega arith) before ∙ nothing_after s
mark_found s (Some k) h =
    let fits : k + 4 ≤ length s = h.1.fits in
    let before : (j : ℕ) → j < k → IsUnmarkedAt s j = λ j lt. unmarked_at s j (omega arith) (h.0.before j (omega arith) lt) in
    (from_mark-later k s (omega arith) before ∙ from_mark-here (drop k s) (marked_at s k h.1), omega arith)

drop_end : (s : List ℕ) → drop (length s) s ≡ []
drop_end [] = refl
drop_end (b ∷ bs) = drop_end bs

pub missing_is : (s : List ℕ) (r : Option ℕ) (rest : List ℕ) → r ≡ None → FindsNeedle s grib 0 r → rest ≡ drop (length s) s → rest ≡ from_mark s
missing_is s None rest is found e = e ∙ drop_end s ∙ sym (mark_found s None found)
missing_is s (Some k) rest is found e = absurd cc
