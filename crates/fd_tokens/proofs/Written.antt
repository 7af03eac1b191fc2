-- Texts that are written: a word, a mark or a blank before other bytes.
use Rattle.std.proofs.Common.{◌≡◌, ◌<◌, ◌+◌, ◌∙◌, ℕ, Bool, true, false, cond, List, [], ◌∷◌, ◌++◌, length, take, drop, eqb, refl, ap, arith}
use Rattle.std.specs.List.{list_all}
use Rattle.std.proofs.lemmas.Bool.{and_parts, eqb-true}
use Rattle.std.proofs.Math.Seq.{take-append_seam, drop-append_seam}
use Rattle.fd_tokens.specs.Tokens.{is_blank, is_word, word_len, Piece, begins_word, one, glue, tokens, is_token}
use Rattle.fd_tokens.proofs.Words.{words}

abbrev pub are_word : List ℕ → List ℕ → Bool
are_word marks text = list_all (is_word marks) text

word_end : (marks rest : List ℕ) → begins_word marks rest ≡ false → word_len marks rest ≡ 0
word_end marks [] h = refl
word_end marks (b ∷ bs) h = ap (λ w. cond w (1 + word_len marks bs) 0) h

word_len_is : (marks word rest : List ℕ) → are_word marks word ≡ true → begins_word marks rest ≡ false → word_len marks (word ++ rest) ≡ length word
word_len_is marks [] rest h ends = word_end marks rest ends
word_len_is marks (b ∷ bs) rest h ends =
    let parts = and_parts (is_word marks b) (are_word marks bs) h in
    ap (λ w. cond w (1 + word_len marks (bs ++ rest)) 0) parts.0 ∙ omega (arith, word_len_is marks bs rest parts.1 ends)

begins : (marks word rest : List ℕ) → 0 < length word → are_word marks word ≡ true → begins_word marks (word ++ rest) ≡ true
begins marks [] rest some h = absurd (omega arith)
begins marks (b ∷ bs) rest some h = (and_parts (is_word marks b) (are_word marks bs) h).0

abbrev pub piece : ℕ → List ℕ → Piece
piece at text = record { at = at; text = text }

-- a word before what begins no word is a token
pub word_token : (marks : List ℕ) (at : ℕ) (word rest : List ℕ) → 0 < length word → are_word marks word ≡ true → begins_word marks rest ≡ false
    → tokens marks at (word ++ rest) ≡ piece at word ∷ tokens marks (at + length word) rest
word_token marks at word rest some h ends =
    let n : word_len marks (word ++ rest) ≡ length word = word_len_is marks word rest h ends in
    words marks at (word ++ rest) (begins marks word rest some h)
    ∙ ap (λ k. piece at (take k (word ++ rest)) ∷ tokens marks (at + k) (drop k (word ++ rest))) n
    ∙ ap (λ (t : List ℕ). piece at t ∷ tokens marks (at + length word) (drop (length word) (word ++ rest))) (take-append_seam word rest)
    ∙ ap (λ (t : List ℕ). piece at word ∷ tokens marks (at + length word) t) (drop-append_seam word rest)

pub mark_token : (marks : List ℕ) (at mark : ℕ) (rest : List ℕ) → is_word marks mark ≡ false → is_blank mark ≡ false → tokens marks at (mark ∷ rest) ≡ one at mark ∷ tokens marks (at + 1) rest
unfolding tokens
mark_token marks at mark rest w b =
    let ts = tokens marks (at + 1) rest in
    ap (λ v. cond v (glue marks at mark ts) (cond (is_blank mark) ts (one at mark ∷ ts))) w ∙ ap (λ v. cond v ts (one at mark ∷ ts)) b

pub blank_token : (marks : List ℕ) (at blank : ℕ) (rest : List ℕ) → is_word marks blank ≡ false → is_blank blank ≡ true → tokens marks at (blank ∷ rest) ≡ tokens marks (at + 1) rest
unfolding tokens
blank_token marks at blank rest w b =
    let ts = tokens marks (at + 1) rest in
    ap (λ v. cond v (glue marks at blank ts) (cond (is_blank blank) ts (one at blank ∷ ts))) w ∙ ap (λ v. cond v ts (one at blank ∷ ts)) b

-- a word is no mark
pub word_is_no_mark : (marks : List ℕ) (at mark : ℕ) (word : List ℕ) → are_word marks word ≡ true → is_word marks mark ≡ false → is_token mark (piece at word) ≡ false
word_is_no_mark marks at mark [] w m = refl
word_is_no_mark marks at mark (b ∷ []) w m = go (eqb b mark) refl
  where
    go : (e : Bool) → eqb b mark ≡ e → e ≡ false
    go true e =
        let same : is_word marks b ≡ is_word marks mark = ap (is_word marks) (eqb-true b mark e) in
        let word : is_word marks b ≡ true = (and_parts (is_word marks b) true w).0 in
        absurd (cc)
    go false e = refl
word_is_no_mark marks at mark (b ∷ c ∷ bs) w m = refl
