-- The token that a text begins with.
use Rattle.std.proofs.Common.{◌≡◌, ℕ, suc, ◌+◌, ◌<◌, ◌≤◌, Bool, true, false, ◌&&◌, cond, eqb, List, [], ◌∷◌, length, get_or, take, drop, refl, sym, ap, ◌∙◌, arith}
use Rattle.std.proofs.lemmas.Bool.{ne_eqb, eq-eqb}
use Rattle.fd_tokens.specs.Tokens.{Piece, is_blank, is_word, word_len, begins_word, one, glue, tokens}

-- the first token stands at k or behind it
abbrev AtLeast : ℕ → List Piece → Type 0
AtLeast k [] = Unit {0}
AtLeast k (t ∷ ts) = k ≤ t.at

least_cond : (c : Bool) (k : ℕ) (xs ys : List Piece) → AtLeast k xs → AtLeast k ys → AtLeast k (cond c xs ys)
least_cond true k xs ys p q = p
least_cond false k xs ys p q = q

least_weaker : (j k : ℕ) (ts : List Piece) → j ≤ k → AtLeast k ts → AtLeast j ts
least_weaker j k [] le h = tt
least_weaker j k (t ∷ ts) le h = omega (arith, h)

glue_least : (marks : List ℕ) (at b : ℕ) (ts : List Piece) → AtLeast at (glue marks at b ts)
glue_least marks at b [] = let h : at ≤ at = omega arith in h
glue_least marks at b (t ∷ ts) =
    let h : at ≤ at = omega arith in
    least_cond (eqb t.at (at + 1) && begins_word marks t.text) at (record { at = at; text = b ∷ t.text } ∷ ts) (one at b ∷ t ∷ ts) h h

tokens_least : (marks : List ℕ) (at : ℕ) (bs : List ℕ) → AtLeast at (tokens marks at bs)
unfolding tokens
tokens_least marks at [] = tt
tokens_least marks at (b ∷ bs) =
    let h : at ≤ at = omega arith in
    let ts = tokens marks (at + 1) bs in
    least_cond (is_word marks b) at (glue marks at b ts) (cond (is_blank b) ts (one at b ∷ ts)) (glue_least marks at b ts)
    (least_cond (is_blank b) at ts (one at b ∷ ts) (least_weaker at (at + 1) ts (omega arith) (tokens_least marks (at + 1) bs)) h)

-- a token further on is not joined
far : (marks : List ℕ) (at b : ℕ) (ts : List Piece) → AtLeast (at + 1 + 1) ts → glue marks at b ts ≡ one at b ∷ ts
far marks at b [] h = refl
far marks at b (t ∷ ts) h =
    ap (λ c. cond (c && begins_word marks t.text) (record { at = at; text = b ∷ t.text } ∷ ts) (one at b ∷ t ∷ ts)) (ne_eqb t.at (at + 1) (λ e. omega (arith, h, e)))

and_false : (a : Bool) → (a && false) ≡ false
and_false true = refl
and_false false = refl

-- a mark is not joined
mark : (marks : List ℕ) (at b c : ℕ) (ts : List Piece) → is_word marks c ≡ false → glue marks at b (one (at + 1) c ∷ ts) ≡ one at b ∷ one (at + 1) c ∷ ts
mark marks at b c ts e =
    ap (λ w. cond (eqb (at + 1) (at + 1) && w) (record { at = at; text = b ∷ c ∷ [] } ∷ ts) (one at b ∷ one (at + 1) c ∷ ts)) e
    ∙ ap (λ w. cond w (record { at = at; text = b ∷ c ∷ [] } ∷ ts) (one at b ∷ one (at + 1) c ∷ ts)) (and_false (eqb (at + 1) (at + 1)))

alone_go : (marks : List ℕ) (at b c : ℕ) (cs : List ℕ) (blank : Bool) → is_word marks c ≡ false → AtLeast (at + 1 + 1) (tokens marks (at + 1 + 1) cs)
    → glue marks at b (cond blank (tokens marks (at + 1 + 1) cs) (one (at + 1) c ∷ tokens marks (at + 1 + 1) cs)) ≡ one at b ∷ cond blank (tokens marks (at + 1 + 1) cs) (one (at + 1) c ∷ tokens marks (at + 1 + 1) cs)
alone_go marks at b c cs true e h = far marks at b (tokens marks (at + 1 + 1) cs) h
alone_go marks at b c cs false e h = mark marks at b c (tokens marks (at + 1 + 1) cs) e

-- where no word begins behind it, a word byte is a word
alone : (marks : List ℕ) (at b : ℕ) (bs : List ℕ) → begins_word marks bs ≡ false → glue marks at b (tokens marks (at + 1) bs) ≡ one at b ∷ tokens marks (at + 1) bs
unfolding tokens
alone marks at b [] e = refl
alone marks at b (c ∷ cs) e =
    let ts = tokens marks (at + 1 + 1) cs in
    let plain : tokens marks (at + 1) (c ∷ cs) ≡ cond (is_blank c) ts (one (at + 1) c ∷ ts) = ap (λ w. cond w (glue marks (at + 1) c ts) (cond (is_blank c) ts (one (at + 1) c ∷ ts))) e in
    ap (glue marks at b) plain ∙ alone_go marks at b c cs (is_blank c) e (tokens_least marks (at + 1 + 1) cs) ∙ ap (λ (us : List Piece). one at b ∷ us) (sym plain)

-- a word joins the byte before it
join : (marks : List ℕ) (at b : ℕ) (text : List ℕ) (ts : List Piece) → begins_word marks text ≡ true → glue marks at b (record { at = at + 1; text = text } ∷ ts) ≡ record { at = at; text = b ∷ text } ∷ ts
join marks at b text ts e =
    ap (λ w. cond (w && begins_word marks text) (record { at = at; text = b ∷ text } ∷ ts) (one at b ∷ record { at = at + 1; text = text } ∷ ts)) (eq-eqb (at + 1) (at + 1) refl)
    ∙ ap (λ w. cond w (record { at = at; text = b ∷ text } ∷ ts) (one at b ∷ record { at = at + 1; text = text } ∷ ts)) e

word_step : (marks : List ℕ) (b : ℕ) (bs : List ℕ) → is_word marks b ≡ true → word_len marks (b ∷ bs) ≡ suc (word_len marks bs)
word_step marks b bs e = ap (λ w. cond w (1 + word_len marks bs) 0) e ∙ omega arith

word_none : (marks : List ℕ) (bs : List ℕ) → begins_word marks bs ≡ false → word_len marks bs ≡ 0
word_none marks [] e = refl
word_none marks (c ∷ cs) e = ap (λ w. cond w (1 + word_len marks cs) 0) e

word_byte_first : (marks : List ℕ) (at b : ℕ) (bs : List ℕ) → is_word marks b ≡ true → tokens marks at (b ∷ bs) ≡ glue marks at b (tokens marks (at + 1) bs)
unfolding tokens
word_byte_first marks at b bs e = ap (λ w. cond w (glue marks at b (tokens marks (at + 1) bs)) (cond (is_blank b) (tokens marks (at + 1) bs) (one at b ∷ tokens marks (at + 1) bs))) e

mutual_go : (marks : List ℕ) (at b : ℕ) (bs : List ℕ) (begins : Bool) → begins_word marks bs ≡ begins → is_word marks b ≡ true
    → (begins ≡ true → tokens marks (at + 1) bs ≡ record { at = at + 1; text = take (word_len marks bs) bs } ∷ tokens marks (at + 1 + word_len marks bs) (drop (word_len marks bs) bs))
    → (begins ≡ true → begins_word marks (take (word_len marks bs) bs) ≡ true)
    → tokens marks at (b ∷ bs) ≡ record { at = at; text = b ∷ take (word_len marks bs) bs } ∷ tokens marks (at + suc (word_len marks bs)) (drop (word_len marks bs) bs)
mutual_go marks at b bs true e w ih starts =
    word_byte_first marks at b bs w ∙ ap (glue marks at b) (ih refl) ∙ join marks at b (take (word_len marks bs) bs) (tokens marks (at + 1 + word_len marks bs) (drop (word_len marks bs) bs)) (starts refl)
    ∙ ap (λ k. record { at = at; text = b ∷ take (word_len marks bs) bs } ∷ tokens marks k (drop (word_len marks bs) bs)) (let k : at + 1 + word_len marks bs ≡ at + suc (word_len marks bs) = omega arith in k)
mutual_go marks at b bs false e w ih starts =
    let none : word_len marks bs ≡ 0 = word_none marks bs e in
    word_byte_first marks at b bs w ∙ alone marks at b bs e
    ∙ ap (λ n. record { at = at; text = b ∷ take n bs } ∷ tokens marks (at + suc n) (drop n bs)) (sym none)

front_begins : (marks : List ℕ) (bs : List ℕ) → begins_word marks bs ≡ true → begins_word marks (take (word_len marks bs) bs) ≡ true
front_begins marks [] e = absurd cc
front_begins marks (c ∷ cs) e = ap (λ n. begins_word marks (take n (c ∷ cs))) (word_step marks c cs e) ∙ e

-- a text that begins with a word byte begins with its longest word
pub words : (marks : List ℕ) (at : ℕ) (text : List ℕ) → begins_word marks text ≡ true → tokens marks at text ≡ record { at = at; text = take (word_len marks text) text } ∷ tokens marks (at + word_len marks text) (drop (word_len marks text) text)
words marks at [] e = absurd cc
words marks at (b ∷ bs) e =
    mutual_go marks at b bs (begins_word marks bs) refl e (λ h. words marks (at + 1) bs h) (λ h. front_begins marks bs h)
    ∙ ap (λ n. record { at = at; text = take n (b ∷ bs) } ∷ tokens marks (at + n) (drop n (b ∷ bs))) (sym (word_step marks b bs e))

-- ---- one step, at the front of what is left

pub step_word : (marks : List ℕ) (at n : ℕ) (rest : List ℕ) → 0 < length rest → is_word marks (get_or rest 0 0) ≡ true → n ≡ word_len marks rest → tokens marks at rest ≡ record { at = at; text = take n rest } ∷ tokens marks (at + n) (drop n rest)
step_word marks at n [] some w e = absurd (omega arith)
step_word marks at n (c ∷ cs) some w e = words marks at (c ∷ cs) w ∙ ap (λ k. record { at = at; text = take k (c ∷ cs) } ∷ tokens marks (at + k) (drop k (c ∷ cs))) (sym e)

pub step_blank : (marks : List ℕ) (at : ℕ) (rest : List ℕ) → 0 < length rest → is_word marks (get_or rest 0 0) ≡ false → is_blank (get_or rest 0 0) ≡ true → tokens marks at rest ≡ tokens marks (at + 1) (drop 1 rest)
unfolding tokens
step_blank marks at [] some w e = absurd (omega arith)
step_blank marks at (c ∷ cs) some w e =
    let ts = tokens marks (at + 1) cs in
    ap (λ v. cond v (glue marks at c ts) (cond (is_blank c) ts (one at c ∷ ts))) w ∙ ap (λ v. cond v ts (one at c ∷ ts)) e

pub step_mark : (marks : List ℕ) (at : ℕ) (rest : List ℕ) → 0 < length rest → is_word marks (get_or rest 0 0) ≡ false → is_blank (get_or rest 0 0) ≡ false → tokens marks at rest ≡ record { at = at; text = take 1 rest } ∷ tokens marks (at + 1) (drop 1 rest)
unfolding tokens
step_mark marks at [] some w e = absurd (omega arith)
step_mark marks at (c ∷ cs) some w e =
    let ts = tokens marks (at + 1) cs in
    ap (λ v. cond v (glue marks at c ts) (cond (is_blank c) ts (one at c ∷ ts))) w ∙ ap (λ v. cond v ts (one at c ∷ ts)) e

pub no_tokens : (marks : List ℕ) (at : ℕ) (rest : List ℕ) → length rest ≡ 0 → tokens marks at rest ≡ []
unfolding tokens
no_tokens marks at [] e = refl
no_tokens marks at (c ∷ cs) e = absurd (omega arith)
