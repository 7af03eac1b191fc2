-- Tokens cut at marks, one part at a time.
use Rattle.std.proofs.Common.{◌≡◌, ℕ, zero, suc, ◌+◌, ◌-◌, ◌<◌, ◌≤◌, Bool, true, false, not, cond, List, [], ◌∷◌, ◌++◌, length, take, drop, get_or, refl, sym, ap, ◌∙◌, arith, length-drop}
use Rattle.std.specs.List.{list_all}
use Rattle.std.proofs.lemmas.Bool.{and_parts}
use Rattle.std.proofs.Math.Seq.{take-length}
use Rattle.std.proofs.lemmas.List.{drop-drop}
use Rattle.fd_tokens.specs.declared.token.Token.{Token}
use Rattle.fd_tokens.specs.Tokens.{Piece, Part, is_token, onto, parts, mark_place, view, views}

more_go : (mark : ℕ) (stop : Piece) (t : Token) (ts : List Token) (m : Token) (b : Bool)
    → (mark_place mark (views ts) < length ts → m ≡ get_or ts (mark_place mark (views ts)) m
    → parts mark stop (views ts) ≡ record { tokens = views (take (mark_place mark (views ts)) ts); stop = view m } ∷ parts mark stop (views (drop (suc (mark_place mark (views ts))) ts)))
    → cond (not b) (1 + mark_place mark (views ts)) 0 < suc (length ts) → m ≡ get_or (t ∷ ts) (cond (not b) (1 + mark_place mark (views ts)) 0) m
    → cond b (record { tokens = []; stop = view t } ∷ parts mark stop (views ts)) (onto (view t) (parts mark stop (views ts)))
    ≡ record { tokens = views (take (cond (not b) (1 + mark_place mark (views ts)) 0) (t ∷ ts)); stop = view m } ∷ parts mark stop (views (drop (suc (cond (not b) (1 + mark_place mark (views ts)) 0)) (t ∷ ts)))
more_go mark stop t ts m true ih lt is = ap (λ (x : Token). record { tokens = []; stop = view x } ∷ parts mark stop (views ts)) (sym is)
more_go mark stop t ts m false ih lt is =
    let e : 1 + mark_place mark (views ts) ≡ suc (mark_place mark (views ts)) = omega arith in
    let here : m ≡ get_or ts (mark_place mark (views ts)) m = is ∙ ap (λ k. get_or (t ∷ ts) k m) e in
    rw (e, ih (omega arith) here) refl

-- the first mark ends the first part
pub front_more : (mark : ℕ) (stop : Piece) (ts : List Token) (m : Token) → mark_place mark (views ts) < length ts → m ≡ get_or ts (mark_place mark (views ts)) m
    → parts mark stop (views ts) ≡ record { tokens = views (take (mark_place mark (views ts)) ts); stop = view m } ∷ parts mark stop (views (drop (suc (mark_place mark (views ts))) ts))
unfolding parts
front_more mark stop [] m lt is = absurd (omega arith)
front_more mark stop (t ∷ ts) m lt is = more_go mark stop t ts m (is_token mark (view t)) (front_more mark stop ts m) lt is

last_go : (mark : ℕ) (stop : Piece) (t : Token) (ts : List Token) (b : Bool)
    → (length ts ≤ mark_place mark (views ts) → parts mark stop (views ts) ≡ record { tokens = views ts; stop = stop } ∷ [])
    → suc (length ts) ≤ cond (not b) (1 + mark_place mark (views ts)) 0
    → cond b (record { tokens = []; stop = view t } ∷ parts mark stop (views ts)) (onto (view t) (parts mark stop (views ts))) ≡ record { tokens = views (t ∷ ts); stop = stop } ∷ []
last_go mark stop t ts true ih le = absurd (omega arith)
last_go mark stop t ts false ih le = rw (ih (omega arith)) refl

-- without a mark there is one part
pub front_last : (mark : ℕ) (stop : Piece) (ts : List Token) → length ts ≤ mark_place mark (views ts) → parts mark stop (views ts) ≡ record { tokens = views ts; stop = stop } ∷ []
unfolding parts
front_last mark stop [] le = refl
front_last mark stop (t ∷ ts) le = last_go mark stop t ts (is_token mark (view t)) (front_last mark stop ts) le

get_drop : (ts : List Token) (from n : ℕ) (m : Token) → get_or (drop from ts) n m ≡ get_or ts (from + n) m
get_drop ts zero n m = ap (λ k. get_or ts k m) (let e : n ≡ 0 + n = omega arith in e)
get_drop [] (suc from) n m = refl
get_drop (t ∷ ts) (suc from) n m = get_drop ts from n m ∙ ap (λ k. get_or (t ∷ ts) k m) (let e : suc (from + n) ≡ suc from + n = omega arith in e)

-- the part from a place on, and the mark behind it
pub part_more : (mark : ℕ) (stop : Piece) (ts : List Token) (from end : ℕ) (m : Token) → end ≡ from + mark_place mark (views (drop from ts)) → end < length ts → m ≡ get_or ts end m
    → parts mark stop (views (drop from ts)) ≡ record { tokens = views (take (end - from) (drop from ts)); stop = view m } ∷ parts mark stop (views (drop (end + 1) ts))
part_more mark stop ts from end m place lt is =
    let n = mark_place mark (views (drop from ts)) in
    let inside : n < length (drop from ts) = omega (arith, length-drop from ts) in
    let here : m ≡ get_or (drop from ts) n m = is ∙ ap (λ k. get_or ts k m) place ∙ sym (get_drop ts from n m) in
    let count : n ≡ end - from = omega arith in
    let next : from + suc n ≡ end + 1 = omega arith in
    front_more mark stop (drop from ts) m inside here
    ∙ ap (λ k. record { tokens = views (take k (drop from ts)); stop = view m } ∷ parts mark stop (views (drop (suc n) (drop from ts)))) count
    ∙ ap (λ (us : List Token). record { tokens = views (take (end - from) (drop from ts)); stop = view m } ∷ parts mark stop (views us)) (drop-drop (suc n) from ts ∙ ap (λ k. drop k ts) next)

-- the last part from a place on
pub part_last : (mark : ℕ) (stop : Piece) (ts : List Token) (from end : ℕ) → end ≡ from + mark_place mark (views (drop from ts)) → end ≡ length ts → from ≤ end
    → parts mark stop (views (drop from ts)) ≡ record { tokens = views (take (end - from) (drop from ts)); stop = stop } ∷ []
part_last mark stop ts from end place all le =
    let count : end - from ≡ length (drop from ts) = omega (arith, length-drop from ts) in
    let whole : take (end - from) (drop from ts) ≡ drop from ts = ap (λ k. take k (drop from ts)) count ∙ take-length (drop from ts) in
    front_last mark stop (drop from ts) (omega (arith, length-drop from ts))
    ∙ ap (λ (us : List Token). record { tokens = views us; stop = stop } ∷ []) (sym whole)

-- ---- how many parts there are, and where they are cut

onto_some : (t : Piece) (ps : List Part) → 0 < length ps → 0 < length (onto t ps)
onto_some t [] some = some
onto_some t (p ∷ ps) some = some

pub parts_some : (mark : ℕ) (stop : Piece) (ts : List Piece) → 0 < length (parts mark stop ts)
unfolding parts
parts_some mark stop [] = omega arith
parts_some mark stop (t ∷ ts) = go (is_token mark t) (parts_some mark stop ts)
  where
    go : (b : Bool) → 0 < length (parts mark stop ts) → 0 < length (cond b (record { tokens = []; stop = t } ∷ parts mark stop ts) (onto t (parts mark stop ts)))
    go true h = omega arith
    go false h = onto_some t (parts mark stop ts) h

-- none of the tokens is the mark
abbrev pub are_apart : ℕ → List Piece → Bool
are_apart mark ts = list_all (λ t. not (is_token mark t)) ts

pub no_cut : (mark : ℕ) (ts : List Piece) (stop : Piece) → are_apart mark ts ≡ true → parts mark stop ts ≡ record { tokens = ts; stop = stop } ∷ []
unfolding parts
no_cut mark [] stop h = refl
no_cut mark (t ∷ ts) stop h =
    let both = and_parts (not (is_token mark t)) (are_apart mark ts) h in
    go (is_token mark t) both.0 (no_cut mark ts stop both.1)
  where
    go : (b : Bool) → not b ≡ true → parts mark stop ts ≡ record { tokens = ts; stop = stop } ∷ []
        → cond b (record { tokens = []; stop = t } ∷ parts mark stop ts) (onto t (parts mark stop ts)) ≡ record { tokens = t ∷ ts; stop = stop } ∷ []
    go true n h = absurd (cc)
    go false n h = ap (onto t) h

pub first_cut : (mark : ℕ) (ts : List Piece) (m : Piece) (others : List Piece) (stop : Piece) → are_apart mark ts ≡ true → is_token mark m ≡ true
    → parts mark stop (ts ++ m ∷ others) ≡ record { tokens = ts; stop = m } ∷ parts mark stop others
unfolding parts
first_cut mark [] m others stop h is = ap (λ b. cond b (record { tokens = []; stop = m } ∷ parts mark stop others) (onto m (parts mark stop others))) is
first_cut mark (t ∷ ts) m others stop h is =
    let both = and_parts (not (is_token mark t)) (are_apart mark ts) h in
    go (is_token mark t) both.0 (first_cut mark ts m others stop both.1 is)
  where
    go : (b : Bool) → not b ≡ true → parts mark stop (ts ++ m ∷ others) ≡ record { tokens = ts; stop = m } ∷ parts mark stop others
        → cond b (record { tokens = []; stop = t } ∷ parts mark stop (ts ++ m ∷ others)) (onto t (parts mark stop (ts ++ m ∷ others))) ≡ record { tokens = t ∷ ts; stop = m } ∷ parts mark stop others
    go true n h = absurd (cc)
    go false n h = ap (onto t) h
