-- The pairs of a key, and the length of their text.
use Rattle.std.proofs.Common.{◌≡◌, ◌<◌, ◌+◌, ◌-◌, ◌≤◌, ℕ, suc, Bool, true, false, cond, List, [], ◌∷◌, ◌++◌, length, drop, Some, None, refl, ap, ◌∙◌, sym, arith, append_assoc, length-append}
use Rattle.std.specs.Prelude.{slice_get}
use Rattle.std.proofs.Math.Seq.{drop-cons}
use Rattle.std.proofs.lemmas.Option.{slice_get_within, get_or_from_slice_get}
use Rattle.std.specs.Str.{bytes_eq}
use Rattle.fd_key.specs.Pairs.{Pair, with_pair, text_of, pair_text, rest_text, key_text}

-- the pair at a place is the first of what is left from there
pub drop_from_slice_get : {X : Type 0} (xs : List X) (i : ℕ) (x : X) → slice_get xs i ≡ Some x → drop i xs ≡ x ∷ drop (i + 1) xs
drop_from_slice_get xs i x h =
    let within : i < length xs = slice_get_within xs i x h in
    let next : suc i ≡ i + 1 = omega arith in
    drop-cons xs i x within ∙ ap (λ y. y ∷ drop (suc i) xs) (get_or_from_slice_get xs i x x h) ∙ ap (λ n. x ∷ drop n xs) next

-- one more pair of the text
pub text_step : (ps : List Pair) (i : ℕ) (p : Pair) (out key : List ℕ) → slice_get ps i ≡ Some p → out ++ rest_text (drop i ps) ≡ key
    → ((out ++ 44 ∷ []) ++ pair_text p) ++ rest_text (drop (i + 1) ps) ≡ key
text_step ps i p out key at so_far =
    let opened : out ++ rest_text (p ∷ drop (i + 1) ps) ≡ key = ap (λ r. out ++ rest_text r) (sym (drop_from_slice_get ps i p at)) ∙ so_far in
    append_assoc (out ++ 44 ∷ []) (pair_text p) (rest_text (drop (i + 1) ps)) ∙ append_assoc out (44 ∷ []) (pair_text p ++ rest_text (drop (i + 1) ps)) ∙ opened

-- the length of a pair's text
pub length-pair_text : (p : Pair) → length (pair_text p) ≡ length p.0 + length p.1 + 1
length-pair_text p = let e : length (p.0 ++ 61 ∷ p.1) ≡ length p.0 + length (61 ∷ p.1) = length-append p.0 (61 ∷ p.1) in omega (arith, e)

pub length-rest_text : (p : Pair) (ps : List Pair) → length (rest_text (p ∷ ps)) ≡ length p.0 + length p.1 + 2 + length (rest_text ps)
length-rest_text p ps =
    let e : length ((44 ∷ pair_text p) ++ rest_text ps) ≡ length (44 ∷ pair_text p) + length (rest_text ps) = length-append (44 ∷ pair_text p) (rest_text ps) in
    omega (arith, e, length-pair_text p)

pub length-key_text : (p : Pair) (ps : List Pair) → length (key_text (p ∷ ps)) ≡ length p.0 + length p.1 + 1 + length (rest_text ps)
length-key_text p ps = omega (arith, length-append (pair_text p) (rest_text ps), length-pair_text p)

rest_grows : (ps : List Pair) (name text : List ℕ) → length (rest_text (with_pair ps name text)) ≤ length (rest_text ps) + length name + length text + 2
rest_grows [] name text = omega (arith, length-rest_text (name, text) [])
rest_grows (p ∷ ps) name text = go (bytes_eq name p.0) (rest_grows ps name text)
  where
    go : (b : Bool) → length (rest_text (with_pair ps name text)) ≤ length (rest_text ps) + length name + length text + 2
        → length (rest_text (cond b ((p.0, text) ∷ ps) (p ∷ with_pair ps name text))) ≤ length (rest_text (p ∷ ps)) + length name + length text + 2
    go true h = omega (arith, length-rest_text (p.0, text) ps, length-rest_text p ps)
    go false h = omega (arith, h, length-rest_text p (with_pair ps name text), length-rest_text p ps)

-- a pair adds no more than its name, its text, `=` and a comma
pub key_text_grows : (ps : List Pair) (name text : List ℕ) → length (key_text (with_pair ps name text)) ≤ length (key_text ps) + length name + length text + 2
key_text_grows [] name text = omega (arith, length-key_text (name, text) [])
key_text_grows (p ∷ ps) name text = go (bytes_eq name p.0)
  where
    go : (b : Bool) → length (key_text (cond b ((p.0, text) ∷ ps) (p ∷ with_pair ps name text))) ≤ length (key_text (p ∷ ps)) + length name + length text + 2
    go true = omega (arith, length-key_text (p.0, text) ps, length-key_text p ps)
    go false = omega (arith, rest_grows ps name text, length-key_text p (with_pair ps name text), length-key_text p ps)

-- a name that the pairs don't have is put at their end
pub with_new_pair : (ps : List Pair) (name text : List ℕ) → text_of ps name ≡ None → with_pair ps name text ≡ ps ++ (name, text) ∷ []
with_new_pair [] name text none = refl
with_new_pair (p ∷ ps) name text none = go (bytes_eq name p.0) none (with_new_pair ps name text)
  where
    go : (b : Bool) → cond b (Some p.1) (text_of ps name) ≡ None → (text_of ps name ≡ None → with_pair ps name text ≡ ps ++ (name, text) ∷ [])
        → cond b ((p.0, text) ∷ ps) (p ∷ with_pair ps name text) ≡ p ∷ (ps ++ (name, text) ∷ [])
    go true h e = absurd (cc)
    go false h e = ap (λ qs. p ∷ qs) (e h)

pub count_within_rest : (ps : List Pair) → length ps ≤ length (rest_text ps)
count_within_rest [] = omega arith
count_within_rest (p ∷ ps) = omega (arith, count_within_rest ps, length-rest_text p ps)

-- there are no more pairs than bytes in their text
pub count_within_text : (ps : List Pair) → length ps ≤ length (key_text ps)
count_within_text [] = omega arith
count_within_text (p ∷ ps) = omega (arith, count_within_rest ps, length-key_text p ps)

rest_joined : (ps qs : List Pair) → length (rest_text (ps ++ qs)) ≡ length (rest_text ps) + length (rest_text qs)
rest_joined [] qs = omega arith
rest_joined (p ∷ ps) qs = omega (arith, rest_joined ps qs, length-rest_text p (ps ++ qs), length-rest_text p ps)

pub rest_short : (ps : List Pair) → length (rest_text ps) ≤ length (key_text ps) + 1
rest_short [] = omega arith
rest_short (p ∷ ps) = omega (arith, length-rest_text p ps, length-key_text p ps)

-- pairs behind pairs add their text and a comma
pub key_text_joined : (ps qs : List Pair) → length (key_text (ps ++ qs)) ≤ length (key_text ps) + length (key_text qs) + 1
key_text_joined [] qs = omega arith
key_text_joined (p ∷ ps) qs = omega (arith, rest_joined ps qs, rest_short qs, length-key_text p (ps ++ qs), length-key_text p ps)

-- a pair makes a key longer by one at most
pub with_pair_longer : (ps : List Pair) (name text : List ℕ) → length (with_pair ps name text) ≤ length ps + 1
with_pair_longer [] name text = omega arith
with_pair_longer (p ∷ ps) name text = go (bytes_eq name p.0) (with_pair_longer ps name text)
  where
    go : (b : Bool) → length (with_pair ps name text) ≤ length ps + 1 → length (cond b ((p.0, text) ∷ ps) (p ∷ with_pair ps name text)) ≤ length (p ∷ ps) + 1
    go true h = omega arith
    go false h = omega arith

-- a pair behind others, with a comma before each
pub length-rest_push : (ps : List Pair) (name text : List ℕ) → length (rest_text (ps ++ (name, text) ∷ [])) ≡ length (rest_text ps) + length name + length text + 2
length-rest_push ps name text = omega (arith, rest_joined ps ((name, text) ∷ []), length-rest_text (name, text) [])

-- the first of them needs no comma
pub length-key_push : (ps : List Pair) (p : Pair) → length (key_text (ps ++ p ∷ [])) + 1 ≡ length (rest_text (ps ++ p ∷ []))
length-key_push [] p = omega (arith, length-key_text p [], length-rest_text p [])
length-key_push (q ∷ ps) p = omega (arith, length-key_text q (ps ++ p ∷ []), length-rest_text q (ps ++ p ∷ []))

-- so their text is one byte shorter, where there are any
pub key_from_rest : (ps : List Pair) → length (rest_text ps) - 1 ≡ length (key_text ps)
key_from_rest [] = omega arith
key_from_rest (p ∷ ps) = omega (arith, length-rest_text p ps, length-key_text p ps)
