-- Words, one after the other.
use Rattle.std.proofs.Common.{◌≡◌, ℕ, ◌+◌, ◌<◌, ◌≤◌, true, false, List, [], ◌∷◌, ◌++◌, length, drop, get_or, map, Option, Some, None, refl, sym, ap, ◌∙◌, append_assoc}
use Rattle.std.specs.Prelude.{is_some}
use Rattle.std.proofs.lemmas.List.{at_drop_more, at_drop_all, append-nil, map_push}
use Rattle.fd_tokens.specs.Tokens.{Piece, Part}
use Rattle.fd_request.specs.declared.word.Word as code_word
use Rattle.fd_request.specs.Grammar.{Word, led, begun, behind_words, first_of_two, word_in, unless_behind, up_to_behind}
use Rattle.fd_request.specs.Seen.{seen_word, seen_words}

-- ---- what stands behind words

one_behind : (ws : List code_word.Word) (i : ℕ) (d : code_word.Word) → i < length ws
    → behind_words (seen_words (drop i ws)) ≡ first_of_two (get_or ws i d).behind (behind_words (seen_words (drop (i + 1) ws)))
unfolding behind_words
one_behind ws i d lt = at_drop_more (λ (us : List code_word.Word). behind_words (seen_words us)) ws i d lt

first_is : (o p : Option ℕ) → is_some o ≡ true → first_of_two o p ≡ o
first_is None p h = absurd (cc)
first_is (Some x) p h = refl

second_is : (o p : Option ℕ) → is_some o ≡ false → first_of_two o p ≡ p
second_is None p h = refl
second_is (Some x) p h = absurd (cc)

pub found_behind : (ws : List code_word.Word) (i : ℕ) (d : code_word.Word) → i < length ws → is_some (get_or ws i d).behind ≡ true → behind_words (seen_words (drop i ws)) ≡ (get_or ws i d).behind
found_behind ws i d lt some = one_behind ws i d lt ∙ first_is (get_or ws i d).behind (behind_words (seen_words (drop (i + 1) ws))) some

pub not_behind : (ws : List code_word.Word) (i : ℕ) (d : code_word.Word) → i < length ws → is_some (get_or ws i d).behind ≡ false → behind_words (seen_words (drop i ws)) ≡ behind_words (seen_words (drop (i + 1) ws))
not_behind ws i d lt none = one_behind ws i d lt ∙ second_is (get_or ws i d).behind (behind_words (seen_words (drop (i + 1) ws))) none

pub none_behind : (ws : List code_word.Word) (i : ℕ) → length ws ≤ i → behind_words (seen_words (drop i ws)) ≡ None
unfolding behind_words
none_behind ws i le = at_drop_all (λ (us : List code_word.Word). behind_words (seen_words us)) ws i le

-- ---- one more word

-- what is left of a token begins the first part
pub begun_first : (o : Option Piece) (p : Part) (ps qs : List Part) → qs ≡ p ∷ ps → begun o qs ≡ record { tokens = led o p.tokens; stop = p.stop } ∷ ps
begun_first None p ps qs is = is
begun_first (Some t) p ps qs is = ap (begun (Some t)) is

all_after : (o : Option ℕ) (ws : List Word) → is_some o ≡ false → ws ≡ unless_behind o ws
all_after None ws h = refl
all_after (Some place) ws h = absurd (cc)

none_after : (o : Option ℕ) (ws : List Word) → is_some o ≡ true → [] ≡ unless_behind o ws
none_after None ws h = absurd (cc)
none_after (Some place) ws h = refl

-- what a word and those behind it are, behind these
one_cut : (ws : List code_word.Word) (w : code_word.Word) (p : Part) (ps qs : List Part) (all : List Word)
    → seen_word w ≡ word_in p → qs ≡ p ∷ ps → seen_words ws ++ up_to_behind (map word_in qs) ≡ all
    → seen_words ws ++ (seen_word w ∷ unless_behind w.behind (up_to_behind (map word_in ps))) ≡ all
unfolding up_to_behind
one_cut ws w p ps qs all is parts_are so_far =
    ap (λ (x : Word). seen_words ws ++ (x ∷ unless_behind x.behind (up_to_behind (map word_in ps)))) is
    ∙ ap (λ (us : List Part). seen_words ws ++ up_to_behind (map word_in us)) (sym parts_are) ∙ so_far

pub word_goes : (ws new : List code_word.Word) (w : code_word.Word) (p : Part) (ps qs : List Part) (all : List Word)
    → new ≡ ws ++ w ∷ [] → seen_word w ≡ word_in p → is_some w.behind ≡ false → qs ≡ p ∷ ps → seen_words ws ++ up_to_behind (map word_in qs) ≡ all → seen_words new ++ up_to_behind (map word_in ps) ≡ all
word_goes ws new w p ps qs all pushed is open_ parts_are so_far =
    let rest = up_to_behind (map word_in ps) in
    ap (λ (us : List code_word.Word). seen_words us ++ rest) pushed
    ∙ ap (λ (us : List Word). us ++ rest) (map_push seen_word ws w)
    ∙ append_assoc (seen_words ws) (seen_word w ∷ []) rest
    ∙ ap (λ (us : List Word). seen_words ws ++ (seen_word w ∷ us)) (all_after w.behind rest open_)
    ∙ one_cut ws w p ps qs all is parts_are so_far

pub word_stops : (ws new : List code_word.Word) (w : code_word.Word) (p : Part) (ps qs : List Part) (all : List Word)
    → new ≡ ws ++ w ∷ [] → seen_word w ≡ word_in p → is_some w.behind ≡ true → qs ≡ p ∷ ps → seen_words ws ++ up_to_behind (map word_in qs) ≡ all → seen_words new ≡ all
word_stops ws new w p ps qs all pushed is some parts_are so_far =
    ap seen_words pushed ∙ map_push seen_word ws w
    ∙ ap (λ (us : List Word). seen_words ws ++ (seen_word w ∷ us)) (none_after w.behind (up_to_behind (map word_in ps)) some)
    ∙ one_cut ws w p ps qs all is parts_are so_far

pub words_end : (new : List code_word.Word) (all : List Word) → seen_words new ++ up_to_behind [] ≡ all → seen_words new ≡ all
unfolding up_to_behind
words_end new all h = sym (append-nil (seen_words new)) ∙ h
