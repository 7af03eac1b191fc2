-- Texts cut at a byte.
use Rattle.std.proofs.Common.{◌≡◌, ◌≤◌, ◌+◌, ℕ, Bool, true, false, cond, List, [], ◌∷◌, length, ltb, eqb, Some, None, refl, ap, ◌∙◌, arith}
use Rattle.std.specs.List.{position_or_len, before_first, after_first}
use Rattle.std.proofs.lemmas.Bool.{ltb-true, ltb-false}
use Rattle.std.proofs.lemmas.List.Splits.{slice_split_first, slice_split_none}
use Rattle.std.proofs.lemmas.List.Sums.{fails_before_first}
use Rattle.std.proofs.lemmas.List.{length-take, length-drop}
use Rattle.fd_spelling.specs.Numerals.{cut}
use Rattle.fd_spelling.specs.Pieces.{pieces}

-- the lengths of the parts of a text that is cut
pub cut_lengths : (mark : ℕ) (text : List ℕ) (parts : List ℕ × List ℕ) → cut mark text ≡ Some parts → length parts.0 + length parts.1 + 1 ≡ length text
unfolding cut
cut_lengths mark text parts h = go (ltb (position_or_len (λ b. eqb b mark) text) (length text)) refl h
  where
    at : ℕ
    at = position_or_len (λ b. eqb b mark) text

    go : (b : Bool) → ltb (position_or_len (λ b. eqb b mark) text) (length text) ≡ b
        → cond b (Some (before_first (λ b. eqb b mark) text, after_first (λ b. eqb b mark) text)) None ≡ Some parts → length parts.0 + length parts.1 + 1 ≡ length text
    go false e h = absurd (cc)
    go true e h =
        let within = ltb-true (position_or_len (λ b. eqb b mark) text) (length text) e in
        let front : before_first (λ b. eqb b mark) text ≡ parts.0 = cc in
        let back : after_first (λ b. eqb b mark) text ≡ parts.1 = cc in
        omega (arith, within, ap length front, ap length back, length-take (position_or_len (λ b. eqb b mark) text) text, length-drop (position_or_len (λ b. eqb b mark) text + 1) text)

-- the text cut at its first mark
pub pieces_cut : (mark : ℕ) (text : List ℕ) (parts : List ℕ × List ℕ) → cut mark text ≡ Some parts → pieces mark text ≡ parts.0 ∷ pieces mark parts.1
unfolding cut
pieces_cut mark text parts h = go (ltb (position_or_len (λ b. eqb b mark) text) (length text)) refl h
  where
    go : (b : Bool) → ltb (position_or_len (λ b. eqb b mark) text) (length text) ≡ b
        → cond b (Some (before_first (λ b. eqb b mark) text, after_first (λ b. eqb b mark) text)) None ≡ Some parts → pieces mark text ≡ parts.0 ∷ pieces mark parts.1
    go false e h = absurd (cc)
    go true e h =
        let within = ltb-true (position_or_len (λ b. eqb b mark) text) (length text) e in
        let front : before_first (λ b. eqb b mark) text ≡ parts.0 = cc in
        let back : after_first (λ b. eqb b mark) text ≡ parts.1 = cc in
        slice_split_first (λ b. eqb b mark) text 0 within ∙ ap (λ t. t ∷ pieces mark (after_first (λ b. eqb b mark) text)) front ∙ ap (λ t. parts.0 ∷ pieces mark t) back

-- a text without the mark
uncut_past : (mark : ℕ) (text : List ℕ) → cut mark text ≡ None → length text ≤ position_or_len (λ b. eqb b mark) text
unfolding cut
uncut_past mark text h = go (ltb (position_or_len (λ b. eqb b mark) text) (length text)) (before_first (λ b. eqb b mark) text, after_first (λ b. eqb b mark) text) refl h
  where
    go : (b : Bool) (parts : List ℕ × List ℕ) → ltb (position_or_len (λ b. eqb b mark) text) (length text) ≡ b → cond b (Some parts) None ≡ None → length text ≤ position_or_len (λ b. eqb b mark) text
    go true parts e k = absurd (cc)
    go false parts e k = ltb-false (position_or_len (λ b. eqb b mark) text) (length text) e

pub pieces_uncut : (mark : ℕ) (text : List ℕ) → cut mark text ≡ None → pieces mark text ≡ text ∷ []
pieces_uncut mark text h =
    let past = uncut_past mark text h in
    slice_split_none (λ b. eqb b mark) text (λ k d within. fails_before_first (λ b. eqb b mark) text k d (omega (arith, past, within)))
