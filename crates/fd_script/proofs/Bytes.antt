-- Bytes that aren't ASCII.
use Rattle.std.proofs.Common.{◌≡◌, ◌∙◌, ℕ, ◌+◌, ◌<◌, ◌≤◌, Bool, true, false, cond, ltb, eqb, take, get_or, drop, List, [], ◌∷◌, length, Option, Some, None, refl, sym, ap, subst, arith}
use Rattle.std.specs.List.{list_all}
use Rattle.std.proofs.lemmas.Bool.{and_from, lt-ltb, le-ltb}
use Rattle.std.specs.List.{position_or_len}
use Rattle.std.proofs.lemmas.List.{drop-drop, drop_all}
use Rattle.std.proofs.lemmas.List.Splits.{slice_split_first, length-slice_split}
use Rattle.std.specs.Prelude.{◌||◌, codes}
use Rattle.std.specs.Str.{bytes_eq}
use Rattle.fd_script.specs.Lines.{lines_of}
use Rattle.fd_spelling.specs.Texts.{is_ascii}
use Rattle.fd_script.specs.Grammar.{Wrong, Byte, foreign_byte, has_messages}

pub all_ascii : (line : List ℕ) → foreign_byte line ≡ None → is_ascii line ≡ true
unfolding foreign_byte
all_ascii [] h = refl
all_ascii (b ∷ bs) h = go (ltb b 128) refl h (λ k. all_ascii bs k)
  where
    go : (t : Bool) → ltb b 128 ≡ t → cond t (foreign_byte bs) (Some (Byte b)) ≡ None → (foreign_byte bs ≡ None → is_ascii bs ≡ true) → is_ascii (b ∷ bs) ≡ true
    go true e k later = and_from (ltb b 128) (list_all (λ c. ltb c 128) bs) e (later k)
    go false e k later = absurd (cc)

pub foreign_here : (b : ℕ) (bs : List ℕ) → 128 ≤ b → foreign_byte (b ∷ bs) ≡ Some (Byte b)
unfolding foreign_byte
foreign_here b bs h = ap (λ (t : Bool). cond t (foreign_byte bs) (Some (Byte b))) (le-ltb b 128 h)

pub ascii_here : (b : ℕ) (bs : List ℕ) → b < 128 → foreign_byte (b ∷ bs) ≡ foreign_byte bs
unfolding foreign_byte
ascii_here b bs h = ap (λ (t : Bool). cond t (foreign_byte bs) (Some (Byte b))) (lt-ltb b 128 h)

pub none_foreign : (line : List ℕ) (i : ℕ) → length line ≤ i → foreign_byte (drop i line) ≡ None
unfolding foreign_byte
none_foreign line i h = ap foreign_byte (drop_all i line h)

-- a text cut behind its first line
pub lines_cut : (text : List ℕ) (at : ℕ) → at ≡ position_or_len (λ b. eqb b 10) text → at < length text → lines_of text ≡ take at text ∷ lines_of (drop 1 (drop at text))
lines_cut text at e within =
    let inside : position_or_len (λ b. eqb b 10) text < length text = omega arith in
    rw (e, drop-drop) (slice_split_first (λ b. eqb b 10) text 0 inside)

pub has_end : (line : List ℕ) → has_messages (line ∷ []) ≡ false
unfolding has_messages
has_end line = refl

pub has_turn : (line others : List ℕ) → has_messages (line ∷ lines_of others) ≡ (bytes_eq line (codes "messages") || has_messages (lines_of others))
unfolding has_messages
has_turn line others = go (lines_of others) (omega (arith, length-slice_split (λ b. eqb b 10) others))
  where
    go : (ls : List (List ℕ)) → 0 < length ls → has_messages (line ∷ ls) ≡ (bytes_eq line (codes "messages") || has_messages ls)
    go [] h = absurd (omega (arith, h))
    go (next ∷ more) h = refl
