-- Worked examples of requests, computed from the definitions.
use Rattle.std.proofs.Common.{◌≡◌, ℕ, List, [], ◌∷◌, Result, Ok, codes, refl}
use Rattle.std.specs.Fmt.{digits}
use Rattle.jiff_core.specs.Calendar.{days_of_years, days_of_months, day_count, days_from_civil}
use Rattle.fd_spelling.specs.Numerals.{number_up_to}
use Rattle.fd_spelling.specs.Civil.{date_text, date_in, date_spelling}
use Rattle.fd_spelling.specs.Steps.{step_text, unit_of, unsigned_step, step_spelling}
use Rattle.fd_spelling.specs.Canonical.{canonical, spelling}
use Rattle.fd_tokens.specs.Tokens.{tokens, parts}
use Rattle.fd_request.specs.Expansion.{Keyword, expand, each_before}
use Rattle.fd_request.specs.Ranges.{later, whole, signed_whole, day_of, end_in, end_of, place, distance, text_behind, values_from, step_of, between, range_of}
use Rattle.fd_request.specs.Grammar.{Fault, wrong, Pair, Value, Range, Repeated, each_of, verb_of, value_of, behind_words, up_to_behind, values_of, behind_name, name_of, keyword_of, request_in, keywords_of}

abbrev asked : List ℕ → Result (List Keyword) Fault
asked text = keywords_of (codes "retrieve") text

a_reversed_range : asked (codes "retrieve,step=24/to/0") ≡ wrong 14 Range
unfolding tokens parts keywords_of request_in verb_of keyword_of name_of behind_name up_to_behind values_of range_of between end_of end_in signed_whole whole step_of distance place canonical spelling step_spelling unsigned_step unit_of step_text number_up_to digits each_of
a_reversed_range = refl

a_list : asked (codes "retrieve, STEP = 6/0/6") ≡ Ok (record { name = codes "step"; values = codes "6" ∷ codes "0" ∷ codes "6" ∷ [] } ∷ [])
unfolding tokens parts keywords_of request_in verb_of keyword_of name_of behind_name up_to_behind values_of each_of value_of canonical spelling step_spelling unsigned_step unit_of step_text number_up_to digits
a_list = refl

days : asked (codes "retrieve,date=20240228/to/20240301") ≡ Ok (record { name = codes "date"; values = codes "20240228" ∷ codes "20240229" ∷ codes "20240301" ∷ [] } ∷ [])
unfolding tokens parts keywords_of request_in verb_of keyword_of name_of behind_name up_to_behind values_of range_of between end_of end_in day_of step_of distance place text_behind values_from later canonical spelling date_spelling date_in date_text number_up_to digits each_of behind_words days_of_years days_of_months day_count days_from_civil
days = refl

a_word_of_ranges_behind_the_values : asked (codes "retrieve,class=od x/to") ≡ wrong 18 Pair
unfolding tokens parts keywords_of request_in verb_of keyword_of name_of behind_name up_to_behind values_of each_of value_of canonical spelling
a_word_of_ranges_behind_the_values = refl

a_range_behind_a_step : asked (codes "retrieve,step=9 x/to/3") ≡ wrong 16 Pair
unfolding tokens parts keywords_of request_in verb_of keyword_of name_of behind_name up_to_behind values_of each_of value_of canonical spelling step_spelling unsigned_step unit_of step_text number_up_to digits
a_range_behind_a_step = refl

a_word_inside_a_range : asked (codes "retrieve,step=0/to x/3") ≡ wrong 14 Range
unfolding tokens parts keywords_of request_in verb_of keyword_of name_of behind_name up_to_behind values_of range_of each_of
a_word_inside_a_range = refl

no_name : asked (codes "retrieve, ") ≡ wrong 10 Pair
unfolding tokens parts keywords_of request_in verb_of keyword_of each_of
no_name = refl

a_foreign_byte_behind_the_verb : asked (codes "retrieve$,a=b") ≡ wrong 8 Pair
unfolding tokens parts keywords_of request_in verb_of
a_foreign_byte_behind_the_verb = refl

an_empty_value : asked (codes "retrieve,class= ,") ≡ wrong 16 Value
unfolding tokens parts keywords_of request_in verb_of keyword_of name_of behind_name up_to_behind values_of each_of value_of canonical
an_empty_value = refl

an_equals_sign_in_a_value : asked (codes "retrieve,class==od") ≡ wrong 15 Value
unfolding tokens parts keywords_of request_in verb_of keyword_of name_of behind_name up_to_behind values_of each_of value_of canonical
an_equals_sign_in_a_value = refl

two_equals_signs : asked (codes "retrieve,class=o=d/to") ≡ wrong 15 Range
unfolding tokens parts keywords_of request_in verb_of keyword_of name_of behind_name up_to_behind values_of range_of each_of
two_equals_signs = refl

marks_of_schemas_in_a_value : asked (codes "retrieve,class=[o?d] x") ≡ wrong 15 Value
unfolding tokens parts keywords_of request_in verb_of keyword_of name_of behind_name up_to_behind values_of each_of value_of canonical
marks_of_schemas_in_a_value = refl

marks_of_schemas_in_a_name : asked (codes "retrieve,class?=od") ≡ wrong 14 Pair
unfolding tokens parts keywords_of request_in verb_of keyword_of name_of behind_name each_of
marks_of_schemas_in_a_name = refl

a_value_behind_a_blank : asked (codes "retrieve , class =\tod") ≡ Ok (record { name = codes "class"; values = codes "od" ∷ [] } ∷ [])
unfolding tokens parts keywords_of request_in verb_of keyword_of name_of behind_name up_to_behind values_of each_of value_of canonical spelling
a_value_behind_a_blank = refl

an_equals_sign_behind_the_verb : asked (codes "retrieve=a,b=c") ≡ wrong 8 Pair
unfolding tokens parts keywords_of request_in verb_of
an_equals_sign_behind_the_verb = refl

a_name_again : asked (codes "retrieve,a=b,A=c") ≡ wrong 13 (Repeated (codes "a"))
unfolding tokens parts keywords_of request_in verb_of keyword_of name_of behind_name up_to_behind values_of each_of value_of canonical spelling
a_name_again = refl

the_last_is_fastest : expand (record { name = codes "a"; values = codes "1" ∷ codes "2" ∷ [] } ∷ record { name = codes "b"; values = codes "3" ∷ codes "3" ∷ [] } ∷ [])
    ≡ ((codes "a", codes "1") ∷ (codes "b", codes "3") ∷ []) ∷ ((codes "a", codes "1") ∷ (codes "b", codes "3") ∷ []) ∷ ((codes "a", codes "2") ∷ (codes "b", codes "3") ∷ []) ∷ ((codes "a", codes "2") ∷ (codes "b", codes "3") ∷ []) ∷ []
unfolding expand each_before
the_last_is_fastest = refl
