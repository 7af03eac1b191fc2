-- Where tokens and parts end, and how many tokens there are.
use Rattle.std.proofs.Common.{◌≡◌, ℕ, ◌+◌, ◌≤◌, Bool, true, false, cond, eqb, List, [], ◌∷◌, length, refl, arith}
use Rattle.std.specs.Prelude.{◌&&◌}
use Rattle.std.proofs.lemmas.Bool.{and_parts, eqb-true}
use Rattle.fd_tokens.specs.Tokens.{Piece, Part, onto, parts, is_token, is_word, is_blank, begins_word, glue, with_byte, tokens}

-- a token ends at most at this place
abbrev pub Ends : ℕ → Piece → Type 0
Ends n t = t.at + length t.text ≤ n

abbrev pub AllEnd : ℕ → List Piece → Type 0
AllEnd n [] = Unit {0}
AllEnd n (t ∷ ts) = Ends n t × AllEnd n ts

glue_end : (marks : List ℕ) (n at b : ℕ) (ts : List Piece) → at + 1 ≤ n → AllEnd n ts → AllEnd n (glue marks at b ts)
glue_end marks n at b [] le h = (omega arith, tt)
glue_end marks n at b (t ∷ ts) le h = go (eqb t.at (at + 1) && begins_word marks t.text) refl
  where
    go : (c : Bool) → eqb t.at (at + 1) && begins_word marks t.text ≡ c → AllEnd n (cond c (record { at = at; text = b ∷ t.text } ∷ ts) (record { at = at; text = b ∷ [] } ∷ t ∷ ts))
    go true e = let here = eqb-true t.at (at + 1) (and_parts (eqb t.at (at + 1)) (begins_word marks t.text) e).0 in (omega (arith, h.0), h.1)
    go false e = (omega arith, (h.0, h.1))

with_byte_end : (marks : List ℕ) (n at b : ℕ) (ts : List Piece) → at + 1 ≤ n → AllEnd n ts → AllEnd n (with_byte marks at b ts)
with_byte_end marks n at b ts le h = go (is_word marks b) (is_blank b) (glue_end marks n at b ts le h)
  where
    go : (c d : Bool) → AllEnd n (glue marks at b ts) → AllEnd n (cond c (glue marks at b ts) (cond d ts (record { at = at; text = b ∷ [] } ∷ ts)))
    go true d g = g
    go false true g = h
    go false false g = (omega arith, h)

-- the tokens of a text end within it
pub tokens_end : (marks : List ℕ) (n at : ℕ) (text : List ℕ) → at + length text ≤ n → AllEnd n (tokens marks at text)
unfolding tokens
tokens_end marks n at [] le = tt
tokens_end marks n at (b ∷ bs) le = with_byte_end marks n at b (tokens marks (at + 1) bs) (omega arith) (tokens_end marks n (at + 1) bs (omega arith))

abbrev pub PartEnds : ℕ → Part → Type 0
PartEnds n p = AllEnd n p.tokens × Ends n p.stop

abbrev pub PartsEnd : ℕ → List Part → Type 0
PartsEnd n [] = Unit {0}
PartsEnd n (p ∷ ps) = PartEnds n p × PartsEnd n ps

onto_end : (n : ℕ) (t : Piece) (ps : List Part) → Ends n t → PartsEnd n ps → PartsEnd n (onto t ps)
onto_end n t [] e h = tt
onto_end n t (p ∷ ps) e h = (((e, h.0.0), h.0.1), h.1)

pub parts_end : (n mark : ℕ) (stop : Piece) (ts : List Piece) → Ends n stop → AllEnd n ts → PartsEnd n (parts mark stop ts)
unfolding parts
parts_end n mark stop [] e h = ((tt, e), tt)
parts_end n mark stop (t ∷ ts) e h = go (is_token mark t) (parts_end n mark stop ts e h.1)
  where
    go : (c : Bool) → PartsEnd n (parts mark stop ts) → PartsEnd n (cond c (record { tokens = []; stop = t } ∷ parts mark stop ts) (onto t (parts mark stop ts)))
    go true g = ((tt, h.0), g)
    go false g = onto_end n t (parts mark stop ts) h.0 g

-- ---- there are no more tokens than bytes

glue_few : (marks : List ℕ) (at b : ℕ) (ts : List Piece) → length (glue marks at b ts) ≤ length ts + 1
glue_few marks at b [] = omega arith
glue_few marks at b (t ∷ ts) = go (eqb t.at (at + 1) && begins_word marks t.text)
  where
    go : (c : Bool) → length (cond c (record { at = at; text = b ∷ t.text } ∷ ts) (record { at = at; text = b ∷ [] } ∷ t ∷ ts)) ≤ length (t ∷ ts) + 1
    go true = omega arith
    go false = omega arith

with_byte_few : (marks : List ℕ) (at b : ℕ) (ts : List Piece) → length (with_byte marks at b ts) ≤ length ts + 1
with_byte_few marks at b ts = go (is_word marks b) (is_blank b) (glue_few marks at b ts)
  where
    go : (c d : Bool) → length (glue marks at b ts) ≤ length ts + 1 → length (cond c (glue marks at b ts) (cond d ts (record { at = at; text = b ∷ [] } ∷ ts))) ≤ length ts + 1
    go true d h = h
    go false true h = omega arith
    go false false h = omega arith

pub tokens_few : (marks : List ℕ) (at : ℕ) (text : List ℕ) → length (tokens marks at text) ≤ length text
unfolding tokens
tokens_few marks at [] = omega arith
tokens_few marks at (b ∷ bs) = omega (arith, with_byte_few marks at b (tokens marks (at + 1) bs), tokens_few marks (at + 1) bs)
