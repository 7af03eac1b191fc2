-- The text of a cube is read as the cube.
use Rattle.std.proofs.Common.{◌≡◌, ◌<◌, ◌≤◌, ◌+◌, ◌*◌, ◌∙◌, ℕ, Bool, true, false, cond, not, List, [], ◌∷◌, ◌++◌, length, take, drop, ltb, leb, Some, None, Ok, refl, sym, ap, subst, append_assoc, length-append, arith}
use Rattle.std.specs.Prelude.{◌&&◌, ◌||◌, codes, map}
use Rattle.std.specs.List.{list_all, list_any, prefix_len}
use Rattle.std.specs.Char.{to_ascii_lowercase}
use Rattle.std.proofs.lemmas.Bool.{and_parts, and_from, cond-true, cond-false, le-ltb, lt-ltb, not_from_false}
use Rattle.std.proofs.lemmas.Bool.Decides.{nat_tests}
use Rattle.std.proofs.lemmas.List.{append-nil}
use Rattle.std.proofs.lemmas.List.Elements.{recursion_from_All}
use Rattle.std.specs.List.{AllByRecursion}
use Rattle.std.proofs.Math.Nat.{mul_assoc}
use Rattle.std.proofs.lemmas.Nat.{mul-le}
use Rattle.std.proofs.Math.Seq.{take-append_seam, drop-append_seam}
use Rattle.fd_spelling.specs.Names.{is_name, is_name_byte, is_value, is_value_byte, lower}
use Rattle.fd_key.specs.Pairs.{Pair, key_text}
use Rattle.fd_tokens.specs.Tokens.{is_word, Piece, begins_word, one, onto, tokens, is_token, parts}
use Rattle.fd_tokens.proofs.Written.{are_word, piece, word_token, mark_token, word_is_no_mark}
use Rattle.fd_tokens.proofs.Cuts.{are_apart, no_cut, first_cut}
use Rattle.fd_schema.proofs.Laid.{are_kept, is_kept, kept_joined, name_bytes, name_is_word, value_is_word}
use Rattle.fd_request.specs.Expansion.{Keyword, expand}
use Rattle.fd_request.specs.Grammar.{marks, Word, word_in, past, led, verb_of, value_of, value_in, value_or, values_of, is_range_word, up_to_behind, given, behind_name, name_of, has_name, keyword_of, keyword_in, request_in, keywords_of, each_of, ◌>>=◌, wrong, range_or, word_texts, behind_words, KeyTooLong}
use Rattle.fd_request.specs.Ranges.{range_of}
use Rattle.fd_request.specs.Limits.{too_many, longest_text, longest_key, within_count, within_limits, within_size, too_long, request_of}
use Rattle.fd_request.specs.Keywords.{differ_after}
use Rattle.fd_request.proofs.Products.{length-expand}
use Rattle.fd_cubes.specs.Cubes.{IsPlain, more_values, values_text, keywords_text, cube_text, IsAxis, IsCube}

-- ---- bytes

name_word : (b : ℕ) → is_name_byte b ≡ true → is_word marks b ≡ true
name_word b h = grind (arith, nat_tests)

value_word : (b : ℕ) → is_value_byte b ≡ true → is_word marks b ≡ true
value_word b h = grind (arith, nat_tests)

kept_case : (b : ℕ) → is_kept b ≡ true → to_ascii_lowercase b ≡ b
kept_case b h = grind (arith, nat_tests)

all_from : (p q : ℕ → Bool) → ((b : ℕ) → p b ≡ true → q b ≡ true) → (bs : List ℕ) → list_all p bs ≡ true → list_all q bs ≡ true
all_from p q each [] h = refl
all_from p q each (b ∷ bs) h =
    let both = and_parts (p b) (list_all p bs) h in
    and_from (q b) (list_all q bs) (each b both.0) (all_from p q each bs both.1)

all_joined : (p : ℕ → Bool) (xs ys : List ℕ) → list_all p xs ≡ true → list_all p ys ≡ true → list_all p (xs ++ ys) ≡ true
all_joined p [] ys hx hy = hy
all_joined p (x ∷ xs) ys hx hy =
    let both = and_parts (p x) (list_all p xs) hx in
    and_from (p x) (list_all p (xs ++ ys)) both.0 (all_joined p xs ys both.1 hy)

lower_kept : (text : List ℕ) → are_kept text ≡ true → lower text ≡ text
lower_kept [] h = refl
lower_kept (b ∷ bs) h =
    let both = and_parts (is_kept b) (are_kept bs) h in
    ap (λ c. c ∷ lower bs) (kept_case b both.0) ∙ ap (λ (t : List ℕ). b ∷ t) (lower_kept bs both.1)

value_words : (value : List ℕ) → is_value value ≡ true → are_word marks value ≡ true
value_words value h = all_from is_value_byte (is_word marks) value_word value (and_parts (ltb 0 (length value) && leb (length value) 255) (list_all is_value_byte value) h).1

name_words : (name : List ℕ) → is_name name ≡ true → are_word marks name ≡ true
name_words name h = all_from is_name_byte (is_word marks) name_word name (name_bytes name h)

-- ---- tokens

abbrev Plain : List ℕ → List (List ℕ) → Type 0
Plain name vs = AllByRecursion (IsPlain name) vs

abbrev tail_tokens : ℕ → List (List ℕ) → List Piece
tail_tokens at [] = []
tail_tokens at (v ∷ vs) = one at 47 ∷ piece (at + 1) v ∷ tail_tokens (at + 1 + length v) vs

abbrev tail_end : ℕ → List (List ℕ) → ℕ
tail_end at [] = at
tail_end at (v ∷ vs) = tail_end (at + 1 + length v) vs

more_apart : (vs : List (List ℕ)) (rest : List ℕ) → begins_word marks rest ≡ false → begins_word marks (more_values vs ++ rest) ≡ false
more_apart [] rest ends = ends
more_apart (v ∷ vs) rest ends = refl

tail_laid : (name : List ℕ) (at : ℕ) (vs : List (List ℕ)) (rest : List ℕ) → Plain name vs → begins_word marks rest ≡ false → tokens marks at (more_values vs ++ rest) ≡ tail_tokens at vs ++ tokens marks (tail_end at vs) rest
tail_laid name at [] rest all ends = refl
tail_laid name at (v ∷ vs) rest all ends =
    let more : List ℕ = more_values vs ++ rest in
    ap (λ (t : List ℕ). tokens marks at (47 ∷ t)) (append_assoc v (more_values vs) rest)
    ∙ mark_token marks at 47 (v ++ more) refl refl
    ∙ ap (λ (ts : List Piece). one at 47 ∷ ts) (word_token marks (at + 1) v more (value_is_word v all.0.valued).some (value_words v all.0.valued) (more_apart vs rest ends))
    ∙ ap (λ (ts : List Piece). one at 47 ∷ piece (at + 1) v ∷ ts) (tail_laid name (at + 1 + length v) vs rest all.1 ends)

-- the token in which a name and its first value stand
abbrev front : List ℕ → List ℕ → List ℕ
front name v = name ++ 61 ∷ v

abbrev front_tokens : ℕ → List ℕ → List (List ℕ) → List Piece
front_tokens at name [] = []
front_tokens at name (v ∷ vs) = piece at (front name v) ∷ tail_tokens (at + length (front name v)) vs

abbrev front_end : ℕ → List ℕ → List (List ℕ) → ℕ
front_end at name [] = at
front_end at name (v ∷ vs) = tail_end (at + length (front name v)) vs

front_words : (name v : List ℕ) → is_name name ≡ true → is_value v ≡ true → are_word marks (front name v) ≡ true
front_words name v n h = all_joined (is_word marks) name (61 ∷ v) (name_words name n) (value_words v h)

front_some : (name v : List ℕ) → 0 < length (front name v)
front_some name v = omega (arith, length-append name (61 ∷ v))

front_laid : (at : ℕ) (name v : List ℕ) (vs : List (List ℕ)) (rest : List ℕ) → Plain name (v ∷ vs) → begins_word marks rest ≡ false
    → tokens marks at (name ++ 61 ∷ ((v ++ more_values vs) ++ rest)) ≡ front_tokens at name (v ∷ vs) ++ tokens marks (front_end at name (v ∷ vs)) rest
front_laid at name v vs rest all ends =
    let more : List ℕ = more_values vs ++ rest in
    ap (λ (t : List ℕ). tokens marks at (name ++ 61 ∷ t)) (append_assoc v (more_values vs) rest)
    ∙ ap (tokens marks at) (sym (append_assoc name (61 ∷ v) more))
    ∙ word_token marks at (front name v) more (front_some name v) (front_words name v all.0.named all.0.valued) (more_apart vs rest ends)
    ∙ ap (λ (ts : List Piece). piece at (front name v) ∷ ts) (tail_laid name (at + length (front name v)) vs rest all.1 ends)

abbrev all_tokens : ℕ → List Keyword → List Piece
all_tokens at [] = []
all_tokens at (k ∷ ks) = one at 44 ∷ (front_tokens (at + 1) k.name k.values ++ all_tokens (front_end (at + 1) k.name k.values) ks)

keywords_apart : (ks : List Keyword) → begins_word marks (keywords_text ks) ≡ false
keywords_apart [] = refl
keywords_apart (k ∷ ks) = refl

-- keywords whose values are plain, and which have some
abbrev Axes : List Keyword → Type 0
Axes ks = AllByRecursion (λ k. (0 < length k.values) × Plain k.name k.values) ks

one_laid : (at : ℕ) (name : List ℕ) (vs : List (List ℕ)) (rest : List ℕ) → 0 < length vs → Plain name vs → begins_word marks rest ≡ false
    → tokens marks at (44 ∷ (name ++ 61 ∷ (values_text vs ++ rest))) ≡ one at 44 ∷ (front_tokens (at + 1) name vs ++ tokens marks (front_end (at + 1) name vs) rest)
one_laid at name [] rest some all ends = absurd (omega arith)
one_laid at name (v ∷ vs) rest some all ends =
    mark_token marks at 44 (name ++ 61 ∷ ((v ++ more_values vs) ++ rest)) refl refl
    ∙ ap (λ (ts : List Piece). one at 44 ∷ ts) (front_laid (at + 1) name v vs rest all ends)

all_laid : (at : ℕ) (ks : List Keyword) → Axes ks → tokens marks at (keywords_text ks) ≡ all_tokens at ks
unfolding tokens
all_laid at [] axes = refl
all_laid at (k ∷ ks) axes =
    one_laid at k.name k.values (keywords_text ks) axes.0.0 axes.0.1 (keywords_apart ks)
    ∙ ap (λ (ts : List Piece). one at 44 ∷ (front_tokens (at + 1) k.name k.values ++ ts)) (all_laid (front_end (at + 1) k.name k.values) ks axes.1)

-- ---- values

abbrev word_at : ℕ → List ℕ → Word
word_at at v = record { at = at; text = v; behind = None }

abbrev tail_words : ℕ → List (List ℕ) → List Word
tail_words at [] = []
tail_words at (v ∷ vs) = word_at (at + 1) v ∷ tail_words (at + 1 + length v) vs

cut_words : (name : List ℕ) (p : ℕ) (v : List ℕ) (at : ℕ) (vs : List (List ℕ)) (stop : Piece) → Plain name vs
    → up_to_behind (map word_in (onto (piece p v) (parts 47 stop (tail_tokens at vs)))) ≡ word_at p v ∷ tail_words at vs
unfolding parts up_to_behind
cut_words name p v at [] stop all = refl
cut_words name p v at (w ∷ ws) stop all =
    let tail : List Piece = tail_tokens (at + 1 + length w) ws in
    ap (λ b. up_to_behind (map word_in (record { tokens = piece p v ∷ []; stop = one at 47 } ∷ cond b (record { tokens = []; stop = piece (at + 1) w } ∷ parts 47 stop tail) (onto (piece (at + 1) w) (parts 47 stop tail)))))
    (word_is_no_mark marks (at + 1) 47 w (value_words w all.0.valued) refl)
    ∙ ap (λ (ws : List Word). word_at p v ∷ ws) (cut_words name (at + 1) w (at + 1 + length w) ws stop all.1)

no_range : (name : List ℕ) (at : ℕ) (vs : List (List ℕ)) → Plain name vs → list_any (λ (w : Word). is_range_word w.text) (tail_words at vs) ≡ false
no_range name at [] all = refl
no_range name at (v ∷ vs) all = ap (λ b. b || list_any (λ (w : Word). is_range_word w.text) (tail_words (at + 1 + length v) vs)) all.0.word ∙ no_range name (at + 1 + length v) vs all.1

value_reads : (name v : List ℕ) (at : ℕ) → IsPlain name v → value_of name (word_at at v) ≡ Ok v
unfolding value_of
value_reads name v at p = ap (λ o. value_or o at None) p.again

tail_reads : (name : List ℕ) (before : List (List ℕ)) (at : ℕ) (vs : List (List ℕ)) → Plain name vs → each_of (value_in name) before (tail_words at vs) ≡ Ok (before ++ vs)
unfolding each_of
tail_reads name before at [] all = ap (λ (l : List (List ℕ)). Ok l) (sym (append-nil before))
tail_reads name before at (v ∷ vs) all =
    ap (λ r. r >>= λ x. each_of (value_in name) (before ++ x ∷ []) (tail_words (at + 1 + length v) vs)) (value_reads name v (at + 1) all.0)
    ∙ tail_reads name (before ++ v ∷ []) (at + 1 + length v) vs all.1
    ∙ ap (λ (l : List (List ℕ)). Ok l) (append_assoc before (v ∷ []) vs)

words_read : (name : List ℕ) (place p at : ℕ) (v : List ℕ) (vs : List (List ℕ)) → Plain name (v ∷ vs) → values_of name place (word_at p v ∷ tail_words at vs) ≡ Ok (v ∷ vs)
unfolding values_of each_of
words_read name place p at v vs all =
    let words : List Word = word_at p v ∷ tail_words at vs in
    let none : list_any (λ (w : Word). is_range_word w.text) words ≡ false = ap (λ b. b || list_any (λ (w : Word). is_range_word w.text) (tail_words at vs)) all.0.word ∙ no_range name at vs all.1 in
    cond-false (list_any (λ (w : Word). is_range_word w.text) words) (range_or (range_of name (word_texts words)) place (behind_words words)) (each_of (value_in name) [] words) none
    ∙ ap (λ r. r >>= λ x. each_of (value_in name) (x ∷ []) (tail_words at vs)) (value_reads name v p all.0) ∙ tail_reads name (v ∷ []) at vs all.1

-- ---- keywords

name_prefix : (name v : List ℕ) → list_all is_name_byte name ≡ true → prefix_len is_name_byte (front name v) ≡ length name
name_prefix [] v h = refl
name_prefix (b ∷ bs) v h =
    let both = and_parts (is_name_byte b) (list_all is_name_byte bs) h in
    cond-true (is_name_byte b) (1 + prefix_len is_name_byte (front bs v)) 0 both.0 ∙ omega (arith, name_prefix bs v both.1)

name_reads : (before : List Keyword) (name v : List ℕ) (at : ℕ) → is_name name ≡ true → has_name before name ≡ false → name_of before (piece at (front name v)) ≡ Ok name
unfolding name_of
name_reads before name v at is new =
    let whole : take (prefix_len is_name_byte (front name v)) (front name v) ≡ name = ap (λ k. take k (front name v)) (name_prefix name v (name_bytes name is)) ∙ take-append_seam name (61 ∷ v) in
    rw (whole, is, new) refl

-- what is left of the token behind the name, and behind `=`
past_name : (name v : List ℕ) (at : ℕ) → past (length name) (piece at (front name v)) ≡ Some (piece (at + length name) (61 ∷ v))
past_name name v at =
    let more : ltb (length name) (length (front name v)) ≡ true = lt-ltb (length name) (length (front name v)) (omega (arith, length-append name (61 ∷ v))) in
    ap (λ b. cond b (Some (piece (at + length name) (drop (length name) (front name v)))) None) more ∙ ap (λ (t : List ℕ). Some (piece (at + length name) t)) (drop-append_seam name (61 ∷ v))

past_equals : (v : List ℕ) (at : ℕ) → 0 < length v → past 1 (piece at (61 ∷ v)) ≡ Some (piece (at + 1) v)
past_equals v at some =
    let more : ltb 1 (length (61 ∷ v)) ≡ true = lt-ltb 1 (length (61 ∷ v)) (omega arith) in
    ap (λ b. cond b (Some (piece (at + 1) v)) None) more

given_reads : (name v : List ℕ) (vs : List (List ℕ)) (p at : ℕ) (stop : Piece) → Plain name (v ∷ vs) → given name stop (Some (piece p v)) (tail_tokens at vs) ≡ Ok (v ∷ vs)
given_reads name v vs p at stop all = ap (values_of name p) (cut_words name p v at vs stop all.1) ∙ words_read name p p at v vs all

behind_reads : (name v : List ℕ) (vs : List (List ℕ)) (p at : ℕ) (stop : Piece) → Plain name (v ∷ vs) → behind_name name stop (piece p (61 ∷ v) ∷ tail_tokens at vs) ≡ Ok (v ∷ vs)
unfolding behind_name
behind_reads name v vs p at stop all =
    ap (λ o. given name stop o (tail_tokens at vs)) (past_equals v p (value_is_word v all.0.valued).some) ∙ given_reads name v vs (p + 1) at stop all

keyword_reads : (before : List Keyword) (name v : List ℕ) (vs : List (List ℕ)) (at : ℕ) (stop : Piece) → Plain name (v ∷ vs) → has_name before name ≡ false
    → keyword_of before stop (front_tokens at name (v ∷ vs)) ≡ Ok (record { name = name; values = v ∷ vs })
unfolding keyword_of
keyword_reads before name v vs at stop all new =
    let t = piece at (front name v) in
    let tail : List Piece = tail_tokens (at + length (front name v)) vs in
    ap (λ r. r >>= λ n. behind_name n stop (led (past (length n) t) tail) >>= λ values. Ok (record { name = n; values = values })) (name_reads before name v at all.0.named new)
    ∙ ap (λ o. behind_name name stop (led o tail) >>= λ values. Ok (record { name = name; values = values })) (past_name name v at)
    ∙ ap (λ r. r >>= λ values. Ok (record { name = name; values = values })) (behind_reads name v vs (at + length name) (at + length (front name v)) stop all)

tail_whole : (name : List ℕ) (at : ℕ) (vs : List (List ℕ)) → Plain name vs → are_apart 44 (tail_tokens at vs) ≡ true
tail_whole name at [] all = refl
tail_whole name at (v ∷ vs) all =
    and_from (not (is_token 44 (piece (at + 1) v))) (are_apart 44 (tail_tokens (at + 1 + length v) vs))
    (not_from_false (is_token 44 (piece (at + 1) v)) (word_is_no_mark marks (at + 1) 44 v (value_words v all.0.valued) refl)) (tail_whole name (at + 1 + length v) vs all.1)

front_whole : (name v : List ℕ) (vs : List (List ℕ)) (at : ℕ) → Plain name (v ∷ vs) → are_apart 44 (front_tokens at name (v ∷ vs)) ≡ true
front_whole name v vs at all =
    and_from (not (is_token 44 (piece at (front name v)))) (are_apart 44 (tail_tokens (at + length (front name v)) vs))
    (not_from_false (is_token 44 (piece at (front name v))) (word_is_no_mark marks at 44 (front name v) (front_words name v all.0.named all.0.valued) refl)) (tail_whole name (at + length (front name v)) vs all.1)

unless : (b : Bool) → not b ≡ true → b ≡ false
unless true h = absurd (cc)
unless false h = refl

-- the tokens of one keyword are read as it
pub record IsPart (before : List Keyword) (k : Keyword) (ts : List Piece) : Type 0 where
  pub reads : (stop : Piece) → keyword_of before stop ts ≡ Ok k
  pub whole : are_apart 44 ts ≡ true

keyword_part : (before : List Keyword) (name : List ℕ) (vs : List (List ℕ)) (at : ℕ) → 0 < length vs → Plain name vs → has_name before name ≡ false → IsPart before (record { name = name; values = vs }) (front_tokens at name vs)
keyword_part before name [] at some all new = absurd (omega arith)
keyword_part before name (v ∷ vs) at some all new = record { reads = λ stop. keyword_reads before name v vs at stop all new; whole = front_whole name v vs at all }

keywords_read : (before : List Keyword) (k : Keyword) (ks : List Keyword) (at : ℕ) (stop : Piece) → Axes (k ∷ ks) → differ_after before (k ∷ ks) ≡ true
    → each_of keyword_in before (parts 44 stop (front_tokens at k.name k.values ++ all_tokens (front_end at k.name k.values) ks)) ≡ Ok (before ++ k ∷ ks)
unfolding each_of
keywords_read before k [] at stop axes differ =
    let both = and_parts (not (has_name before k.name)) (differ_after (before ++ k ∷ []) []) differ in
    let ts : List Piece = front_tokens at k.name k.values in
    let part : IsPart before k ts = keyword_part before k.name k.values at axes.0.0 axes.0.1 (unless (has_name before k.name) both.0) in
    ap (λ (us : List Piece). each_of keyword_in before (parts 44 stop us)) (append-nil ts)
    ∙ ap (each_of keyword_in before) (no_cut 44 ts stop part.whole)
    ∙ ap (λ r. r >>= λ x. each_of keyword_in (before ++ x ∷ []) []) (part.reads stop)
keywords_read before k (l ∷ ls) at stop axes differ =
    let both = and_parts (not (has_name before k.name)) (differ_after (before ++ k ∷ []) (l ∷ ls)) differ in
    let ts : List Piece = front_tokens at k.name k.values in
    let part : IsPart before k ts = keyword_part before k.name k.values at axes.0.0 axes.0.1 (unless (has_name before k.name) both.0) in
    let end = front_end at k.name k.values in
    let more : List Piece = front_tokens (end + 1) l.name l.values ++ all_tokens (front_end (end + 1) l.name l.values) ls in
    ap (each_of keyword_in before) (first_cut 44 ts (one end 44) more stop part.whole refl)
    ∙ ap (λ r. r >>= λ x. each_of keyword_in (before ++ x ∷ []) (parts 44 stop more)) (part.reads (one end 44))
    ∙ keywords_read (before ++ k ∷ []) l ls (end + 1) stop axes.1 both.1
    ∙ ap (λ (ks : List Keyword). Ok ks) (append_assoc before (k ∷ []) (l ∷ ls))

-- ---- the whole text

abbrev verb : List ℕ
verb = codes "retrieve"

request_reads : (ks : List Keyword) (stop : Piece) → Axes ks → differ_after [] ks ≡ true → request_in verb (parts 44 stop (piece 0 verb ∷ all_tokens 8 ks)) ≡ Ok ks
unfolding request_in parts verb_of each_of
request_reads [] stop axes differ = refl
request_reads (k ∷ ks) stop axes differ = keywords_read [] k ks 9 stop axes differ

text_laid : (ks : List Keyword) → Axes ks → tokens marks 0 (cube_text ks) ≡ piece 0 verb ∷ all_tokens 8 ks
text_laid ks axes = word_token marks 0 verb (keywords_text ks) (omega arith) refl (keywords_apart ks) ∙ ap (λ (ts : List Piece). piece 0 verb ∷ ts) (all_laid 8 ks axes)

more_kept : (name : List ℕ) (vs : List (List ℕ)) → Plain name vs → are_kept (more_values vs) ≡ true
more_kept name [] all = refl
more_kept name (v ∷ vs) all = kept_joined v (more_values vs) (value_is_word v all.0.valued).kept (more_kept name vs all.1)

values_kept : (name : List ℕ) (vs : List (List ℕ)) → Plain name vs → are_kept (values_text vs) ≡ true
values_kept name [] all = refl
values_kept name (v ∷ vs) all = kept_joined v (more_values vs) (value_is_word v all.0.valued).kept (more_kept name vs all.1)

name_is : (k : Keyword) → 0 < length k.values → Plain k.name k.values → is_name k.name ≡ true
name_is k some all = go k.values some all
  where
    go : (vs : List (List ℕ)) → 0 < length vs → Plain k.name vs → is_name k.name ≡ true
    go [] some all = absurd (omega arith)
    go (v ∷ vs) some all = all.0.named

keywords_kept : (ks : List Keyword) → Axes ks → are_kept (keywords_text ks) ≡ true
keywords_kept [] axes = refl
keywords_kept (k ∷ ks) axes =
    kept_joined k.name (61 ∷ (values_text k.values ++ keywords_text ks)) (name_is_word k.name (name_is k axes.0.0 axes.0.1)).kept
    (kept_joined (values_text k.values) (keywords_text ks) (values_kept k.name k.values axes.0.1) (keywords_kept ks axes.1))

keywords_back : (ks : List Keyword) → Axes ks → differ_after [] ks ≡ true → keywords_of verb (cube_text ks) ≡ Ok ks
unfolding keywords_of
keywords_back ks axes differ =
    let stop = piece (length (cube_text ks)) [] in
    ap (λ (t : List ℕ). request_in verb (parts 44 stop (tokens marks 0 t))) (lower_kept (cube_text ks) (kept_joined verb (keywords_text ks) refl (keywords_kept ks axes)))
    ∙ ap (λ (ts : List Piece). request_in verb (parts 44 stop ts)) (text_laid ks axes)
    ∙ request_reads ks stop axes differ

-- ---- limits

keys_some : (ks : List Keyword) → Axes ks → 1 ≤ length (expand ks)
unfolding expand
keys_some [] axes = omega arith
keys_some (k ∷ ks) axes =
    let both : 1 * 1 ≤ length k.values * length (expand ks) = mul-le 1 1 (length k.values) (length (expand ks)) (omega (arith, axes.0.0)) (keys_some ks axes.1) in
    subst (λ n. 1 ≤ n) (sym (length-expand k ks)) both

few_enough : (product : ℕ) (ks : List Keyword) → Axes ks → product * length (expand ks) ≤ 262144 → too_many product ks ≡ None
unfolding too_many
few_enough product [] axes few = refl
few_enough product (k ∷ ks) axes few =
    let m = length k.values in
    let n = length (expand ks) in
    let e : product * length (expand (k ∷ ks)) ≡ product * m * n = ap (λ x. product * x) (length-expand k ks) ∙ sym (mul_assoc product m n) in
    let whole : product * m * n ≤ 262144 = subst (λ x. x ≤ 262144) e few in
    let one : product * m * 1 ≤ product * m * n = mul-le (product * m) 1 (product * m) n (omega arith) (keys_some ks axes.1) in
    let within : product * m ≤ 262144 = omega (arith, one, whole) in
    cond-false (ltb 262144 (product * m)) (Some (product * m)) (too_many (product * m) ks) (le-ltb 262144 (product * m) within) ∙ few_enough (product * m) ks axes.1 whole

longest_few : (keys : List (List Pair)) → AllByRecursion (λ key. length (key_text key) ≤ 255) keys → longest_text (map key_text keys) ≤ 255
unfolding longest_text
longest_few [] all = omega arith
longest_few (key ∷ keys) all = omega (arith, all.0, longest_few keys all.1)

axes_of : (ks : List Keyword) → AllByRecursion IsAxis ks → Axes ks
axes_of [] all = tt
axes_of (k ∷ ks) all = ((all.0.some, recursion_from_All (IsPlain k.name) k.values all.0.plain), axes_of ks all.1)

pub reads_back : (cube : List Keyword) → IsCube cube → request_of (cube_text cube) ≡ Ok cube
unfolding request_of within_limits within_size
reads_back cube is =
    let axes = axes_of cube (recursion_from_All IsAxis cube is.axes) in
    let end = length (cube_text cube) in
    let small : ltb 65536 end ≡ false = le-ltb 65536 end is.size in
    let few : too_many 1 cube ≡ None = few_enough 1 cube axes (omega (arith, is.few)) in
    let longest = longest_few (expand cube) (recursion_from_All (λ key. length (key_text key) ≤ 255) (expand cube) is.short) in
    let short : ltb 255 (longest_key (expand cube)) ≡ false = le-ltb 255 (longest_key (expand cube)) longest in
    cond-false (ltb 65536 end) (too_long (keywords_of verb (cube_text cube) >>= within_limits end)) (keywords_of verb (cube_text cube) >>= within_limits end) small
    ∙ ap (λ r. r >>= within_limits end) (keywords_back cube axes is.once)
    ∙ ap (λ o. within_count end o cube) few ∙ cond-false (ltb 255 (longest_key (expand cube))) (wrong end (KeyTooLong (longest_key (expand cube)))) (Ok cube) short
