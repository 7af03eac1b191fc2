-- A spelled value is spelled as itself.
use Rattle.std.proofs.Common.{◌≡◌, ◌<◌, ◌≤◌, ◌^◌, ◌∙◌, ℕ, Bool, true, false, cond, List, [], ◌∷◌, ◌++◌, length, eqb, ltb, leb, Option, Some, None, refl, sym, subst, ap, arith}
use Rattle.std.specs.Prelude.{◌&&◌, if◌then◌else◌, option_map, codes, Result, Ok, Err, IfOk, String, string_bytes}
use Rattle.std.specs.declared.alloc.Global.{Global}
use Rattle.fd_spelling.specs.declared.fault.ValueFault.{ValueFault}
use Rattle.std.specs.Char.{to_ascii_lowercase}
use Rattle.std.specs.Fmt.{decimal}
use Rattle.std.proofs.lemmas.Bool.{and_parts, and_from, cond-true}
use Rattle.std.proofs.lemmas.Bool.Decides.{nat_tests}
use Rattle.fd_spelling.specs.declared.meaning.Meaning.{Meaning}
use Rattle.fd_spelling.specs.declared.meaning.Meaning.TheVariants.{Centre, Date, Time, ProcessedType, Param, Levtype, Levelist, Step, Number, Stat, Other}
use Rattle.fd_spelling.specs.Names.{lower, is_name, is_value_byte, is_value, meaning_of}
use Rattle.fd_spelling.specs.Numerals.{number_up_to}
use Rattle.fd_spelling.specs.Civil.{date_spelling, time_spelling}
use Rattle.fd_spelling.specs.Levels.{levtype_spelling, levtype_text}
use Rattle.fd_spelling.specs.Canonical.{param_numbers, param_of, spelling, is_text_of, canonical, GivesText}
use Rattle.fd_spelling.proofs.Digits.{short_param, short_number, short_two}
use Rattle.fd_spelling.proofs.ValueLaws.{are_values, value_few, number_is_value, param_is_value, levtype_is_value, date_is_value, time_is_value}
use Rattle.fd_spelling.proofs.Again.{map_some, when_some, number_least, number_again}
use Rattle.fd_spelling.proofs.AgainTimes.{IsDay, day_of, day_again, IsTimeOfDay, moment_of, moment_again}
use Rattle.fd_spelling.proofs.AgainLevels.{IsParam, param_in, param_again, IsTypes, types_of, types_again, levels_of, levels_again, levels_are_value}
use Rattle.fd_spelling.proofs.AgainSteps.{step_of, step_again, step_is_value}
use Rattle.fd_spelling.proofs.AgainStats.{stat_again, stat_is_value}

-- a value stays as it is in lower case
byte_stays : (b : ℕ) → is_value_byte b ≡ true → to_ascii_lowercase b ≡ b
byte_stays b h = grind (arith, nat_tests)

bytes_stay : (text : List ℕ) → are_values text ≡ true → lower text ≡ text
bytes_stay [] h = refl
bytes_stay (b ∷ bs) h =
    let parts = and_parts (is_value_byte b) (are_values bs) h in
    ap (λ x. x ∷ lower bs) (byte_stays b parts.0) ∙ ap (λ (xs : List ℕ). b ∷ xs) (bytes_stay bs parts.1)

pub value_stays : (text : List ℕ) → is_value text ≡ true → lower text ≡ text
value_stays text h = bytes_stay text (and_parts (ltb 0 (length text) && leb (length text) 255) (are_values text) h).1

-- a value whose spelling is itself
pub record IsSpelled (spell : List ℕ → Option (List ℕ)) (text : List ℕ) : Type 0 where
  pub again : spell text ≡ Some text
  pub value : is_value text ≡ true

number_spelled : (most : ℕ) (given text : List ℕ) → most < 2 ^ 32 → option_map decimal (number_up_to most given) ≡ Some text → IsSpelled (λ t. option_map decimal (number_up_to most t)) text
number_spelled most given text few h =
    let n = map_some decimal (number_up_to most given) text h in
    let within : n.0 ≤ most = number_least most n.0 given n.1 in
    record {
      again = ap (λ t. option_map decimal (number_up_to most t)) (sym n.2) ∙ ap (option_map decimal) (number_again most n.0 within (omega arith)) ∙ ap (λ t. Some t) n.2;
      value = ap is_value (sym n.2) ∙ number_is_value n.0 (omega arith);
    }

param_spelled : (given text : List ℕ) → option_map param_of (param_numbers given) ≡ Some text → IsSpelled (λ t. option_map param_of (param_numbers t)) text
param_spelled given text h =
    let p = map_some param_of (param_numbers given) text h in
    let is : IsParam p.0 = param_in given p.0 p.1 in
    let d : p.0.0 ≤ 255 = is.discipline in
    let c : p.0.1 ≤ 255 = is.category in
    let n : p.0.2 ≤ 255 = is.number in
    let short : length (param_of p.0) ≤ 32 = short_param p.0.0 p.0.1 p.0.2 (param_of p.0) refl (omega arith) (omega arith) (omega arith) in
    record {
      again = ap (λ t. option_map param_of (param_numbers t)) (sym p.2) ∙ ap (option_map param_of) (param_again p.0 is) ∙ ap (λ t. Some t) p.2;
      value = ap is_value (sym p.2) ∙ param_is_value p.0.0 p.0.1 p.0.2 (omega arith) (omega arith) (omega arith) short;
    }

levtype_short : (t u : ℕ) → t < 2 ^ 8 → u < 2 ^ 8 → length (levtype_text t u) ≤ 32
unfolding levtype_text
levtype_short t u ts us = go (eqb u 255)
  where
    go : (b : Bool) → length (cond b (decimal t) ((decimal t ++ codes "-") ++ decimal u)) ≤ 32
    go true = short_number 32 t (decimal t) refl (omega arith) (omega arith) (omega arith)
    go false = short_two t u ((decimal t ++ codes "-") ++ decimal u) refl ts us

levtype_spelled : (given text : List ℕ) → levtype_spelling given ≡ Some text → IsSpelled levtype_spelling text
levtype_spelled given text h =
    let is : IsTypes text = types_of given text h in
    let t : is.first ≤ 255 = is.first_few in
    let u : is.second ≤ 255 = is.second_few in
    record {
      again = types_again text is;
      value = ap is_value is.is ∙ levtype_is_value is.first is.second (omega arith) (omega arith) (levtype_short is.first is.second (omega arith) (omega arith));
    }

date_spelled : (given text : List ℕ) → date_spelling given ≡ Some text → IsSpelled date_spelling text
date_spelled given text h =
    let is : IsDay text = day_of given text h in
    record { again = day_again text is; value = ap is_value is.is ∙ date_is_value is.year is.month is.day }

time_spelled : (given text : List ℕ) → time_spelling given ≡ Some text → IsSpelled time_spelling text
time_spelled given text h =
    let is : IsTimeOfDay text = moment_of given text h in
    record { again = moment_again text is; value = ap is_value is.is ∙ time_is_value is.hour is.minute is.second }

-- the spelling under each meaning
spelled : (meaning : Meaning) (given text : List ℕ) → is_text_of meaning given ≡ true → spelling meaning given ≡ Some text → IsSpelled (spelling meaning) text
unfolding spelling
spelled Centre given text is h = let s = number_spelled 65535 given text (omega arith) h in record { again = s.again; value = s.value }
spelled Date given text is h = let s = date_spelled given text h in record { again = s.again; value = s.value }
spelled Time given text is h = let s = time_spelled given text h in record { again = s.again; value = s.value }
spelled ProcessedType given text is h = let s = number_spelled 255 given text (omega arith) h in record { again = s.again; value = s.value }
spelled Param given text is h = let s = param_spelled given text h in record { again = s.again; value = s.value }
spelled Levtype given text is h = let s = levtype_spelled given text h in record { again = s.again; value = s.value }
spelled Levelist given text is h = record { again = levels_again text (levels_of given text h); value = levels_are_value given text h (value_few given is) }
spelled Step given text is h = let s = step_of given text h in record { again = step_again s.0 text s.1; value = step_is_value s.0 text s.1 }
spelled Number given text is h = let s = number_spelled 255 given text (omega arith) h in record { again = s.again; value = s.value }
spelled Stat given text is h = record { again = stat_again given text h; value = stat_is_value given text h (value_few given is) }
spelled Other given text is h = let same : given ≡ text = cc in record { again = refl; value = ap is_value (sym same) ∙ is }

text_of_value : (meaning : Meaning) (text : List ℕ) → is_value text ≡ true → is_text_of meaning text ≡ true
text_of_value Centre text h = h
text_of_value Date text h = h
text_of_value Time text h = refl
text_of_value ProcessedType text h = h
text_of_value Param text h = h
text_of_value Levtype text h = h
text_of_value Levelist text h = h
text_of_value Step text h = h
text_of_value Number text h = h
text_of_value Stat text h = h
text_of_value Other text h = h

-- A spelled value is a value, and is spelled as itself.
pub spelled_again : (name text value : List ℕ) → canonical name text ≡ Some value → IsSpelled (canonical name) value
unfolding canonical
spelled_again name text value h =
    let meaning : Meaning = meaning_of (lower name) in
    let w = when_some (is_name (lower name) && is_text_of meaning (lower text)) (spelling meaning (lower text)) value h in
    let parts = and_parts (is_name (lower name)) (is_text_of meaning (lower text)) w.0 in
    let s = spelled meaning (lower text) value parts.1 w.1 in
    let test : (is_name (lower name) && is_text_of meaning value) ≡ true = and_from (is_name (lower name)) (is_text_of meaning value) parts.0 (text_of_value meaning value s.value) in
    record {
      again =
          ap (λ t. cond (is_name (lower name) && is_text_of meaning t) (spelling meaning t) None) (value_stays value s.value)
          ∙ cond-true (is_name (lower name) && is_text_of meaning value) (spelling meaning value) None test ∙ s.again;
      value = s.value;
    }

-- the same of what a call answered
pub if_spelled : (name text : List ℕ) (result : Result (String Global) ValueFault) → GivesText result (canonical name text) → IfOk result (λ s. canonical name (string_bytes s) ≡ Some (string_bytes s))
if_spelled name text (Ok s) h = (spelled_again name text (string_bytes s) h).again
if_spelled name text (Err e) h = tt

-- what is spelled of a name and a text that are in lower case is spelled of them
pub spelled_low : (name text : List ℕ) (result : Result (String Global) ValueFault) → is_value name ≡ true → is_value text ≡ true
    → GivesText result (if is_name name && is_text_of (meaning_of name) text then spelling (meaning_of name) text else None) → GivesText result (canonical name text)
unfolding canonical
spelled_low name text result n t h =
    subst (λ (x : List ℕ). GivesText result (if is_name x && is_text_of (meaning_of x) (lower text) then spelling (meaning_of x) (lower text) else None)) (sym (value_stays name n))
    (subst (λ (y : List ℕ). GivesText result (if is_name name && is_text_of (meaning_of name) y then spelling (meaning_of name) y else None)) (sym (value_stays text t)) h)
