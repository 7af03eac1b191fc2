-- The places that are named are those of the text, or its end.
use Rattle.std.proofs.Common.{◌≡◌, ℕ, ◌+◌, ◌≤◌, Bool, true, false, cond, not, ltb, List, [], ◌∷◌, ◌++◌, length, take, drop, map, Option, Some, None, Result, Ok, Err, refl, subst, arith, length-drop}
use Rattle.std.specs.Prelude.{IfSome}
use Rattle.std.specs.List.{list_any, prefix_len}
use Rattle.std.specs.Str.{bytes_eq}
use Rattle.std.specs.Char.{to_ascii_lowercase}
use Rattle.std.proofs.lemmas.Bool.{ltb-true}
use Rattle.std.proofs.lemmas.List.{length-map}
use Rattle.fd_spelling.specs.Names.{is_name, is_name_byte, lower}
use Rattle.fd_tokens.specs.Tokens.{Piece, Part, parts, tokens}
use Rattle.fd_tokens.proofs.Places.{Ends, AllEnd, PartEnds, PartsEnd, tokens_end, parts_end}
use Rattle.fd_spelling.specs.Texts.{spelled}
use Rattle.fd_request.specs.declared.fault.RequestKind.{RequestKind}
use Rattle.fd_tokens.specs.declared.refusal.Refusal.{Refusal}
use Rattle.fd_tokens.specs.declared.refusal.Refusal.TheVariants as refusals
use Rattle.fd_request.specs.Reading.{Fails}
use Rattle.fd_request.specs.Requests.{IsPlace}
use Rattle.fd_request.specs.Expansion.{Keyword}
use Rattle.fd_request.specs.Ranges.{range_of}
use Rattle.fd_request.specs.Grammar.{marks, Fault, ◌>>=◌, wrong, Verb, Pair, Repeated, each_of, front_place, verb_of, Word, first_place, past, led, word_of, word_in, value_or, value_of, value_in, word_texts, is_range_word, first_of_two, behind_words, range_or, values_of, has_name, unless_behind, up_to_behind, begun, words_of, begins, given, behind_name, name_of, keyword_of, keyword_in, behind_verb, request_in, keywords_of}

-- what is wrong is wrong at most at this place
abbrev pub Within : {A : Type 0} → ℕ → Result A Fault → Type 0
Within n (Ok x) = Unit {0}
Within n (Err f) = f.at ≤ n

bind : {A B : Type 0} (n : ℕ) (r : Result A Fault) (f : A → Result B Fault) → Within n r → ((x : A) → Within n (f x)) → Within n (r >>= f)
bind n (Ok x) f h each = each x
bind n (Err e) f h each = h

choice : {A : Type 0} (n : ℕ) (b : Bool) (x y : Result A Fault) → Within n x → Within n y → Within n (cond b x y)
choice n true x y hx hy = hx
choice n false x y hx hy = hy

-- ---- words

front_end : (n : ℕ) (stop : Piece) (ts : List Piece) → Ends n stop → AllEnd n ts → front_place stop ts ≤ n
front_end n stop [] e h = omega arith
front_end n stop (t ∷ ts) e h = omega (arith, h.0)

abbrev PlaceIn : ℕ → Option ℕ → Type 0
PlaceIn n o = IfSome o (λ place. place ≤ n)

first_end : (n : ℕ) (ts : List Piece) → AllEnd n ts → PlaceIn n (first_place ts)
first_end n [] h = tt
first_end n (t ∷ ts) h = omega (arith, h.0)

-- what is left of a token ends where it does
left_end : (n k : ℕ) (t : Piece) (ts : List Piece) → Ends n t → AllEnd n ts → AllEnd n (led (past k t) ts)
left_end n k t ts e h = go (ltb k (length t.text)) refl
  where
    go : (b : Bool) → ltb k (length t.text) ≡ b → AllEnd n (led (cond b (Some (record { at = t.at + k; text = drop k t.text })) None) ts)
    go true is = let less = ltb-true k (length t.text) is in (omega (arith, e, less, length-drop k t.text), h)
    go false is = h

abbrev RestEnds : ℕ → Option Piece → Type 0
RestEnds n None = Unit {0}
RestEnds n (Some t) = Ends n t

rest_end : (n k : ℕ) (t : Piece) → Ends n t → RestEnds n (past k t)
rest_end n k t e = go (ltb k (length t.text)) refl
  where
    go : (b : Bool) → ltb k (length t.text) ≡ b → RestEnds n (cond b (Some (record { at = t.at + k; text = drop k t.text })) None)
    go true is = let less = ltb-true k (length t.text) is in omega (arith, e, less, length-drop k t.text)
    go false is = tt

begun_end : (n : ℕ) (o : Option Piece) (ps : List Part) → RestEnds n o → PartsEnd n ps → PartsEnd n (begun o ps)
begun_end n None ps e h = h
begun_end n (Some t) [] e h = tt
begun_end n (Some t) (p ∷ ps) e h = (((e, h.0.0), h.0.1), h.1)

abbrev WordEnds : ℕ → Word → Type 0
WordEnds n w = (w.at ≤ n) × PlaceIn n w.behind

abbrev WordsEnd : ℕ → List Word → Type 0
WordsEnd n [] = Unit {0}
WordsEnd n (w ∷ ws) = WordEnds n w × WordsEnd n ws

word_go : (n : ℕ) (stop : Piece) (ts : List Piece) → Ends n stop → AllEnd n ts → WordEnds n (word_of stop ts)
word_go n stop [] e h = (omega arith, tt)
word_go n stop (t ∷ ts) e h = (omega (arith, h.0), first_end n ts h.1)

word_end : (n : ℕ) (p : Part) → PartEnds n p → WordEnds n (word_in p)
word_end n p h = word_go n p.stop p.tokens h.1 h.0

words_end : (n : ℕ) (ps : List Part) → PartsEnd n ps → WordsEnd n (map word_in ps)
words_end n [] h = tt
words_end n (p ∷ ps) h = (word_end n p h.0, words_end n ps h.1)

open_end : (n : ℕ) (o : Option ℕ) (ws : List Word) → WordsEnd n ws → WordsEnd n (unless_behind o ws)
open_end n None ws h = h
open_end n (Some place) ws h = tt

cut_end : (n : ℕ) (ws : List Word) → WordsEnd n ws → WordsEnd n (up_to_behind ws)
unfolding up_to_behind
cut_end n [] h = tt
cut_end n (w ∷ ws) h = (h.0, open_end n w.behind (up_to_behind ws) (cut_end n ws h.1))

two_end : (n : ℕ) (o p : Option ℕ) → PlaceIn n o → PlaceIn n p → PlaceIn n (first_of_two o p)
two_end n None p ho hp = hp
two_end n (Some x) p ho hp = ho

behind_end : (n : ℕ) (ws : List Word) → WordsEnd n ws → PlaceIn n (behind_words ws)
unfolding behind_words
behind_end n [] h = tt
behind_end n (w ∷ ws) h = two_end n w.behind (behind_words ws) h.0.1 (behind_end n ws h.1)

-- ---- values

value_or_within : (n : ℕ) (o : Option (List ℕ)) (at : ℕ) (behind : Option ℕ) → at ≤ n → PlaceIn n behind → Within n (value_or o at behind)
value_or_within n None at behind le h = le
value_or_within n (Some v) at None le h = tt
value_or_within n (Some v) at (Some place) le h = h

range_or_within : (n : ℕ) (o : Option (List (List ℕ))) (at : ℕ) (behind : Option ℕ) → at ≤ n → PlaceIn n behind → Within n (range_or o at behind)
range_or_within n None at behind le h = le
range_or_within n (Some v) at None le h = tt
range_or_within n (Some v) at (Some place) le h = h

value_within : (n : ℕ) (name : List ℕ) (w : Word) → WordEnds n w → Within n (value_of name w)
unfolding value_of
value_within n name w h = value_or_within n (spelled name w.text) w.at w.behind h.0 h.1

each_value : (n : ℕ) (name : List ℕ) (before : List (List ℕ)) (ws : List Word) → WordsEnd n ws → Within n (each_of (value_in name) before ws)
unfolding each_of
each_value n name before [] h = tt
each_value n name before (w ∷ ws) h = bind n (value_of name w) (λ x. each_of (value_in name) (before ++ x ∷ []) ws) (value_within n name w h.0) (λ x. each_value n name (before ++ x ∷ []) ws h.1)

values_within : (n : ℕ) (name : List ℕ) (at : ℕ) (ws : List Word) → at ≤ n → WordsEnd n ws → Within n (values_of name at ws)
unfolding values_of
values_within n name at ws le h =
    choice n (list_any (λ w. is_range_word w.text) ws) (range_or (range_of name (word_texts ws)) at (behind_words ws)) (each_of (value_in name) [] ws)
    (range_or_within n (range_of name (word_texts ws)) at (behind_words ws) le (behind_end n ws h)) (each_value n name [] ws h)

-- ---- keywords

behind_within : (n : ℕ) (name : List ℕ) (stop : Piece) (ts : List Piece) → Ends n stop → AllEnd n ts → Within n (behind_name name stop ts)
unfolding behind_name
behind_within n name stop [] e h = let le : stop.at ≤ n = omega arith in le
behind_within n name stop (t ∷ ts) e h =
    let rest = past 1 t in
    let ps = begun rest (parts 47 stop ts) in
    choice n (begins 61 t.text) (given name stop rest ts) (wrong t.at Pair)
    (values_within n name (front_place stop (led rest ts)) (words_of stop rest ts) (front_end n stop (led rest ts) e (left_end n 1 t ts h.0 h.1))
    (cut_end n (map word_in ps) (words_end n ps (begun_end n rest (parts 47 stop ts) (rest_end n 1 t h.0) (parts_end n 47 stop ts e h.1)))))
    (let le : t.at ≤ n = omega (arith, h.0) in le)

name_within : (n : ℕ) (before : List Keyword) (t : Piece) → Ends n t → Within n (name_of before t)
unfolding name_of
name_within n before t e =
    let k = prefix_len is_name_byte t.text in
    let first : t.at ≤ n = omega arith in
    choice n (not (is_name (take k t.text))) (wrong t.at Pair) _ first (choice n (has_name before (take k t.text)) (wrong t.at (Repeated (take k t.text))) (Ok (take k t.text)) first tt)

keyword_go : (n : ℕ) (before : List Keyword) (stop : Piece) (ts : List Piece) → Ends n stop → AllEnd n ts → Within n (keyword_of before stop ts)
unfolding keyword_of
keyword_go n before stop [] e h = let le : stop.at ≤ n = omega arith in le
keyword_go n before stop (t ∷ ts) e h =
    bind n (name_of before t) (λ name. behind_name name stop (led (past (length name) t) ts) >>= λ values. Ok (record { name = name; values = values })) (name_within n before t h.0)
    (λ name. bind n (behind_name name stop (led (past (length name) t) ts)) (λ values. Ok (record { name = name; values = values }))
    (behind_within n name stop (led (past (length name) t) ts) e (left_end n (length name) t ts h.0 h.1)) (λ values. tt))

keyword_within : (n : ℕ) (before : List Keyword) (p : Part) → PartEnds n p → Within n (keyword_in before p)
keyword_within n before p h = keyword_go n before p.stop p.tokens h.1 h.0

each_keyword : (n : ℕ) (before : List Keyword) (ps : List Part) → PartsEnd n ps → Within n (each_of keyword_in before ps)
unfolding each_of
each_keyword n before [] h = tt
each_keyword n before (p ∷ ps) h = bind n (keyword_in before p) (λ k. each_of keyword_in (before ++ k ∷ []) ps) (keyword_within n before p h.0) (λ k. each_keyword n (before ++ k ∷ []) ps h.1)

-- the place behind a verb, or what is wrong, stands within
abbrev LeftEnd : ℕ → Result (Option ℕ) Fault → Type 0
LeftEnd n (Ok place) = PlaceIn n place
LeftEnd n (Err f) = f.at ≤ n

left_choice : (n : ℕ) (b : Bool) (x y : Result (Option ℕ) Fault) → LeftEnd n x → LeftEnd n y → LeftEnd n (cond b x y)
left_choice n true x y hx hy = hx
left_choice n false x y hx hy = hy

verb_within : (n : ℕ) (verb : List ℕ) (stop : Piece) (ts : List Piece) → Ends n stop → AllEnd n ts → LeftEnd n (verb_of verb stop ts)
unfolding verb_of
verb_within n verb stop [] e h = let le : stop.at ≤ n = omega arith in le
verb_within n verb stop (t ∷ ts) e h =
    let k = prefix_len is_name_byte t.text in
    let first : t.at ≤ n = omega (arith, h.0) in
    left_choice n (bytes_eq (take k t.text) verb) (Ok (first_place (led (past k t) ts))) (wrong t.at Verb) (first_end n (led (past k t) ts) (left_end n k t ts h.0 h.1)) first

left_within : (n : ℕ) (o : Option ℕ) (ps : List Part) → PlaceIn n o → PartsEnd n ps → Within n (behind_verb o ps)
left_within n None ps h g = each_keyword n [] ps g
left_within n (Some place) ps h g = h

behind_left : (n : ℕ) (r : Result (Option ℕ) Fault) (ps : List Part) → LeftEnd n r → PartsEnd n ps → Within n (r >>= λ place. behind_verb place ps)
behind_left n (Ok place) ps h g = left_within n place ps h g
behind_left n (Err e) ps h g = h

request_within : (n : ℕ) (verb : List ℕ) (ps : List Part) → PartsEnd n ps → Within n (request_in verb ps)
unfolding request_in
request_within n verb [] h = tt
request_within n verb (p ∷ ps) h = behind_left n (verb_of verb p.stop p.tokens) ps (verb_within n verb p.stop p.tokens h.0.1 h.0.0) h.1

pub places_within : (verb text : List ℕ) → Within (length text) (keywords_of verb text)
unfolding keywords_of
places_within verb text =
    let size = length-map text to_ascii_lowercase in
    let end : Piece = record { at = length text; text = [] } in
    let last : length text + 0 ≤ length text = omega arith in
    request_within (length text) verb (parts 44 end (tokens marks 0 (lower text)))
    (parts_end (length text) 44 end (tokens marks 0 (lower text)) last (tokens_end marks (length text) 0 (lower text) (omega (arith, size))))

-- ---- refusals

pub fails_within : {A : Type 0} (n : ℕ) (e : Refusal RequestKind) (r : Result A Fault) → Fails e r → Within n r → IsPlace n e
fails_within n refusals.NoMemory r h w = tt
fails_within {A} n (refusals.At at kind) r h w = let P : Result A Fault → Type 0 = λ x. Within n x in subst P h w
