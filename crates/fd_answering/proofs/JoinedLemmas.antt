-- Keys whose bytes were read ahead, and joined.
use Rattle.std.proofs.Common.{◌≡◌, ◌∙◌, ◌≤◌, ◌<◌, ◌+◌, ◌-◌, ℕ, suc, List, [], ◌∷◌, ◌++◌, length, take, drop, Option, Some, refl, sym, ap, subst, append-nil, append_assoc, get_or, arith}
use Rattle.std.specs.Prelude.{slice_get, IfSome}
use Rattle.std.specs.List.{concat}
use Rattle.std.proofs.lemmas.Option.{get_or_from_slice_get}
use Rattle.fd_io.specs.Streams.{Takes, TakesFront}
use Rattle.fd_key.specs.Pairs as keys
use Rattle.fd_segment.specs.Copying.{IsPiece}
use Rattle.fd_ahead.specs.declared.located.Located.{Located}
use Rattle.fd_ahead.specs.Reading.{AreHeld, AreJoined, IsHeldAt}
use Rattle.fd_outcome.specs.Asking.{Answer, found_bytes, miss_lines, count_found, count_missed}
use Rattle.fd_outcome.proofs.Endings.{takes_both, takes_then_front, front_more}
use Rattle.fd_answering.specs.Finding.{IsAnswered, IsAnsweredInPart}
use Rattle.fd_answering.specs.Located.{AreAt, IsAt, StandsAt}
use Rattle.fd_ahead.specs.Places.{Open}
use Rattle.fd_answering.proofs.AnsweringLemmas.{count_more, found_more, found_rest, lines_more, lines_rest, miss_more, there_is}
use Rattle.fd_answering.proofs.CopiedLemmas.{at_segment, told_is}
use Rattle.fd_answering.proofs.DamageLemmas.{in_dataset}

-- what stands where a key is located is what is found for it
held_is : (os : List Open) (found : Option (List ℕ)) (l : Located) (bytes : List ℕ) → StandsAt os found l → IsHeldAt os l bytes → found ≡ Some bytes
held_is os found l bytes there held =
    let piece = at_segment there.dataset.shown (l.spot.number - 1) there.segment (λ s. IsPiece s.files.fields l.spot.at l.spot.len bytes) there.numbered.1
    (in_dataset os l there.dataset (λ s. IsPiece s.files.fields l.spot.at l.spot.len bytes) there.at held.piece) in
    there.is ∙ ap (λ (b : List ℕ). Some b) (sym (told_is there.segment.files.fields there.fields bytes l.spot.at l.spot.len there.told piece.told))

-- So many more answers are found, with these bytes.
record More (xs : List Answer) (from n : ℕ) (bytes : List ℕ) : Type 0 where
  found : found_bytes (take (from + n) xs) ≡ found_bytes (take from xs) ++ bytes
  lines : miss_lines (take (from + n) xs) ≡ miss_lines (take from xs)
  counted : count_found (take (from + n) xs) ≡ count_found (take from xs) + n
  missed : count_missed (take (from + n) xs) ≡ count_missed (take from xs)

module _ (os : List Open) (ks : List (List keys.Pair)) (xs : List Answer) (located : List (Option Located)) (there : AreAt os ks xs located) where
  -- the answer of a key whose bytes are held
  answer_held : (i : ℕ) (l : Located) (bytes : List ℕ) → i < length ks → slice_get located i ≡ Some (Some l) → IsHeldAt os l bytes
      → (key : List keys.Pair) × (slice_get xs i ≡ Some (record { key = key; found = Some bytes }))
  answer_held i l bytes within at held =
      let key = there_is ks i within in
      let n = there.each i key.0 key.1 in
      let stands = subst (IsAt os n.0) (get_or_from_slice_get located i (Some l) (Some l) at) (n.2 (Some l)) in
      (key.0, n.1 ∙ ap (λ (found : Option (List ℕ)). let x : Answer = record { key = key.0; found = found } in Some x) (held_is os n.0 l bytes stands held))

  -- the keys whose bytes are held are found, after those before them
  more_held : (from : ℕ) (pieces : List (List ℕ)) → from + length pieces ≤ length ks → AreHeld os located from pieces → More xs from (length pieces) (concat pieces)
  more_held from [] within held =
      let same : from + 0 ≡ from = omega arith in
      record {
        found = ap (λ n. found_bytes (take n xs)) same ∙ sym (append-nil (found_bytes (take from xs)));
        lines = ap (λ n. miss_lines (take n xs)) same;
        counted = ap (λ n. count_found (take n xs)) same ∙ omega arith;
        missed = ap (λ n. count_missed (take n xs)) same;
      }
  more_held from (p ∷ ps) within held =
      let a = answer_held from held.0 p (omega (arith, within)) held.1 held.2 in
      let x : Answer = record { key = a.0; found = Some p } in
      let rest = more_held (from + 1) ps (omega (arith, within)) held.3 in
      let same : from + length (p ∷ ps) ≡ from + 1 + length ps = omega arith in
      let next : from + 1 ≡ suc from = omega arith in
      record {
        found = ap (λ n. found_bytes (take n xs)) same ∙ rest.found ∙ ap (λ z. z ++ concat ps) (ap (λ n. found_bytes (take n xs)) next ∙ found_more xs from x a.1) ∙ append_assoc (found_bytes (take from xs)) p (concat ps);
        lines = ap (λ n. miss_lines (take n xs)) same ∙ rest.lines ∙ ap (λ n. miss_lines (take n xs)) next ∙ lines_more xs from x a.1 ∙ append-nil (miss_lines (take from xs));
        counted = ap (λ n. count_found (take n xs)) same ∙ rest.counted
            ∙ (let one = ap (λ n. count_found (take n xs)) next ∙ count_more xs from x a.1 in omega (arith, one));
        missed = ap (λ n. count_missed (take n xs)) same ∙ rest.missed
            ∙ (let one = ap (λ n. count_missed (take n xs)) next ∙ miss_more xs from x a.1 in omega (arith, one));
      }

  module _ (from n : ℕ) (bytes : List ℕ) (within : from + n ≤ length ks) (joined : AreJoined os located from n [] bytes) where
    more_joined : More xs from n bytes
    more_joined =
        let fits : from + length joined.pieces ≤ length ks = let l = joined.long in omega (arith, l, within) in
        subst (λ k. More xs from k bytes) joined.long (subst (More xs from (length joined.pieces)) (sym joined.joined) (more_held from joined.pieces fits joined.held))

    -- the bytes were written
    pub joined_answered : (a b b' c d : Option (List ℕ)) (f : ℕ) → f ≤ from → IsAnswered xs from a b c d f (from - f) → Takes b b' bytes → IsAnswered xs (from + n) a b' c d (f + n) (from + n - (f + n))
    joined_answered a b b' c d f few so_far took = record {
      output = subst (Takes a b') (sym more_joined.found) (takes_both a b b' (found_bytes (take from xs)) bytes so_far.output took);
      report = subst (Takes c d) (sym more_joined.lines) so_far.report;
      found_is = let e = more_joined.counted in let s = so_far.found_is in omega (arith, e, s);
      missed_is = let e = more_joined.missed in let s = so_far.missed_is in omega (arith, e, s, few);
    }

    -- a front of them was written
    pub joined_in_part : (a b b' c d : Option (List ℕ)) (f : ℕ) → IsAnswered xs from a b c d f (from - f) → TakesFront b b' bytes → IsAnsweredInPart xs a b' c d
    joined_in_part a b b' c d f so_far front = record {
      output = front_more a b' (found_bytes (take (from + n) xs)) (found_bytes (drop (from + n) xs)) (found_bytes xs) (found_rest xs (from + n))
          (subst (TakesFront a b') (sym more_joined.found) (takes_then_front a b b' (found_bytes (take from xs)) bytes so_far.output front));
      report = (miss_lines (take from xs), miss_lines (drop from xs), lines_rest xs from, so_far.report);
    }
