-- Bytes that were read ahead, one behind the other.
use Rattle.std.proofs.Common.{◌≡◌, ◌∙◌, ◌≤◌, ◌<◌, ◌+◌, ◌-◌, ℕ, List, [], ◌∷◌, ◌++◌, length, Option, Some, refl, sym, ap, subst, slice_get, get_or, append-nil, append_assoc, length-append, arith}
use Rattle.std.specs.List.{concat}
use Rattle.std.proofs.lemmas.List.Folds.{concat-append}
use Rattle.std.proofs.lemmas.Option.{slice_get-get_or}
use Rattle.fd_ahead.specs.declared.located.Located.{Located}
use Rattle.fd_ahead.specs.Places.{Open}
use Rattle.fd_ahead.specs.Reading.{AreHeld, AreJoined, IsHeld, IsHeldAt}

held_more : (os : List Open) (located : List (Option Located)) (from : ℕ) (pieces : List (List ℕ)) (l : Located) (bytes : List ℕ) → AreHeld os located from pieces
    → slice_get located (from + length pieces) ≡ Some (Some l) → IsHeldAt os l bytes → AreHeld os located from (pieces ++ bytes ∷ [])
held_more os located from [] l bytes held at one =
    let here : from + 0 ≡ from = omega arith in
    (l, subst (λ k. slice_get located k ≡ Some (Some l)) here at, one, tt)
held_more os located from (p ∷ ps) l bytes held at one =
    let here : from + length (p ∷ ps) ≡ from + 1 + length ps = omega arith in
    (held.0, held.1, held.2, held_more os located (from + 1) ps l bytes held.3 (subst (λ k. slice_get located k ≡ Some (Some l)) here at) one)

-- nothing yet
pub joined_none : (os : List Open) (located : List (Option Located)) (from : ℕ) (old : List ℕ) → AreJoined os located from 0 old old
joined_none os located from old = record { pieces = []; long = refl; held = tt; joined = sym (append-nil old) }

-- one more
joined_more : (os : List Open) (located : List (Option Located)) (from count : ℕ) (old mid new bytes : List ℕ) (place : Option Located) → AreJoined os located from count old mid
    → slice_get located (from + count) ≡ Some place → IsHeld os place bytes → new ≡ mid ++ bytes → AreJoined os located from (count + 1) old new
joined_more os located from count old mid new bytes place before at one is =
    let ps = before.pieces in
    let there : slice_get located (from + length ps) ≡ Some (Some one.0) = ap (λ n. slice_get located (from + n)) before.long ∙ at ∙ ap (λ (o : Option Located). Some o) one.1 in
    record {
      pieces = ps ++ bytes ∷ [];
      long = let e = length-append ps (bytes ∷ []) in let l = before.long in omega (arith, e, l);
      held = held_more os located from ps one.0 bytes before.held there one.2;
      joined = is ∙ ap (λ z. z ++ bytes) before.joined ∙ append_assoc old (concat ps) bytes ∙ ap (λ z. old ++ z) (ap (λ z. concat ps ++ z) (sym (append-nil bytes)) ∙ sym (concat-append ps (bytes ∷ [])));
    }

-- those up to a key, and this one
pub joined_next : (os : List Open) (located : List (Option Located)) (from i : ℕ) (old mid new bytes : List ℕ) (d : Option Located) → from ≤ i → i < length located → AreJoined os located from (i - from) old mid
    → IsHeld os (get_or located i d) bytes → new ≡ mid ++ bytes → AreJoined os located from (i + 1 - from) old new
joined_next os located from i old mid new bytes d up within before one is =
    let here : i ≡ from + (i - from) = omega (arith, up) in
    let next : i - from + 1 ≡ i + 1 - from = omega (arith, up) in
    let at : slice_get located (from + (i - from)) ≡ Some (get_or located i d) = ap (slice_get located) (sym here) ∙ slice_get-get_or located i d within in
    subst (λ n. AreJoined os located from n old new) next (joined_more os located from (i - from) old mid new bytes (get_or located i d) before at one is)
