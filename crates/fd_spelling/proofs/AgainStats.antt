-- Statistics, spelled again.
use Rattle.std.proofs.Common.{◌≡◌, ◌<◌, ◌≤◌, ◌+◌, ◌^◌, ◌∙◌, ℕ, Bool, true, false, cond, List, [], ◌∷◌, ◌++◌, length, eqb, Some, refl, ap, subst, append_assoc, length-append, arith}
use Rattle.std.specs.Prelude.{codes, option_map, Result, Ok, Err, IfOk, IsTrue, String, string_bytes}
use Rattle.std.specs.declared.alloc.Global.{Global}
use Rattle.fd_spelling.specs.declared.fault.ValueFault.{ValueFault}
use Rattle.fd_spelling.specs.Canonical.{GivesText}
use Rattle.std.specs.List.{list_all, onto_first}
use Rattle.std.specs.Char.{is_ascii_digit}
use Rattle.std.specs.Fmt.{decimal}
use Rattle.std.specs.Str.{bytes_eq}
use Rattle.std.proofs.lemmas.Bool.{and_parts, cond-false}
use Rattle.std.proofs.lemmas.List.{append-nil}
use Rattle.std.proofs.lemmas.Slice.Eq.{bytes_eq-Decides}
use Rattle.fd_spelling.specs.Names.{is_value}
use Rattle.fd_spelling.specs.Numerals.{number_up_to, cut, ◌>>=◌}
use Rattle.fd_spelling.specs.Pieces.{pieces}
use Rattle.fd_spelling.specs.Steps.{unsigned_step}
use Rattle.fd_spelling.specs.Stats.{part_text, parts_text, part_spelling, parts_spelled, joined_spelling, stat_spelling}
use Rattle.fd_spelling.proofs.ValueLaws.{are_values, value_from, joined, digits_are_values}
use Rattle.fd_spelling.proofs.Again.{bind_some, map_some, number_least, number_again, decimal_digits, decimal_some, is_without, digits_without, without_joined, cut_again, cut_none}
use Rattle.fd_spelling.proofs.AgainSteps.{begins_digit, IsStep, unsigned_of, unsigned_step_again}
use Rattle.fd_spelling.proofs.PieceLaws.{cut_lengths, pieces_cut, pieces_uncut}
use Rattle.fd_spelling.proofs.Shorter.{number_shorter, step_shorter}

-- a part in its one spelling
record IsPart (text : List ℕ) : Type 0 where
  again : part_spelling text ≡ Some text
  without_plus : is_without 43 text ≡ true
  bytes : are_values text ≡ true
  first : begins_digit text ≡ true

-- a step without a sign
record IsLength (text : List ℕ) : Type 0 where
  again : unsigned_step false text ≡ Some text
  without_plus : is_without 43 text ≡ true
  bytes : are_values text ≡ true

length_of : (text : List ℕ) → IsStep false text → IsLength text
length_of text s =
    let few : s.number < 10 ^ 15 = s.few in
    let digits : list_all is_ascii_digit (decimal s.number) ≡ true = decimal_digits s.number (omega arith) in
    record {
      again = unsigned_step_again text s;
      without_plus = ap (is_without 43) s.is ∙ without_joined 43 (decimal s.number) s.suffix (digits_without 43 (decimal s.number) refl digits) s.without_plus;
      bytes = ap are_values s.is ∙ joined (decimal s.number) s.suffix (digits_are_values (decimal s.number) digits) s.bytes;
    }

digits_first : (ds rest : List ℕ) → list_all is_ascii_digit ds ≡ true → 0 < length ds → begins_digit (ds ++ rest) ≡ true
digits_first [] rest digits some = absurd (omega arith)
digits_first (d ∷ ds) rest digits some = (and_parts (is_ascii_digit d) (list_all is_ascii_digit ds) digits).0

part_is : (p : ℕ) (length_text : List ℕ) → p ≤ 255 → IsLength length_text → IsPart (part_text p length_text)
unfolding part_spelling
part_is p l few is =
    let digits : list_all is_ascii_digit (decimal p) ≡ true = decimal_digits p (omega arith) in
    let shape : part_text p l ≡ decimal p ++ 46 ∷ l = append_assoc (decimal p) (codes ".") l in
    let cut_is : cut 46 (decimal p ++ 46 ∷ l) ≡ Some (decimal p, l) = cut_again 46 (decimal p) l (digits_without 46 (decimal p) refl digits) in
    let number : number_up_to 255 (decimal p) ≡ Some p = number_again 255 p few (omega arith) in
    record {
      again =
          ap part_spelling shape
          ∙ ap (λ o. o >>= λ parts. number_up_to 255 parts.0 >>= λ process. unsigned_step false parts.1 >>= λ text. Some (part_text process text)) cut_is
          ∙ ap (λ o. o >>= λ process. unsigned_step false l >>= λ text. Some (part_text process text)) number ∙ ap (λ o. o >>= λ text. Some (part_text p text)) is.again;
      without_plus = without_joined 43 (decimal p ++ codes ".") l (without_joined 43 (decimal p) (codes ".") (digits_without 43 (decimal p) refl digits) refl) is.without_plus;
      bytes = joined (decimal p ++ codes ".") l (joined (decimal p) (codes ".") (digits_are_values (decimal p) digits) refl) is.bytes;
      first = ap begins_digit shape ∙ digits_first (decimal p) (46 ∷ l) digits (decimal_some p (omega arith));
    }

-- what a part was read from is no shorter
part_of : (given text : List ℕ) → part_spelling given ≡ Some text → IsPart text × (length text ≤ length given)
unfolding part_spelling
part_of given text h =
    let parts = bind_some (cut 46 given) _ text h in
    let process = bind_some (number_up_to 255 parts.0.0) _ text parts.2 in
    let l = bind_some (unsigned_step false parts.0.1) _ text process.2 in
    let same : part_text process.0 l.0 ≡ text = cc in
    let whole : length (part_text process.0 l.0) ≡ length (decimal process.0 ++ codes ".") + length l.0 = length-append (decimal process.0 ++ codes ".") l.0 in
    let front : length (decimal process.0 ++ codes ".") ≡ length (decimal process.0) + 1 = length-append (decimal process.0) (codes ".") in
    let short : length text ≤ length given =
    omega (arith, whole, front, ap length same, cut_lengths 46 given parts.0 parts.1, number_shorter 255 process.0 parts.0.0 (omega arith) process.1, step_shorter parts.0.1 l.0 l.1) in
    (subst (λ (t : List ℕ). IsPart t) same (part_is process.0 l.0 (number_least 255 process.0 parts.0.0 process.1) (length_of l.0 (unsigned_of false parts.0.1 l.0 l.1))), short)

-- ---- all parts

abbrev ArePart : List (List ℕ) → Type 0
ArePart [] = Unit {0}
ArePart (t ∷ ts) = IsPart t × ArePart ts

-- the lengths of texts, each with a byte behind it
abbrev size : List (List ℕ) → ℕ
size [] = 0
size (t ∷ ts) = length t + 1 + size ts

record ArePartsOf (given parts : List (List ℕ)) : Type 0 where
  each : ArePart parts
  shorter : size parts ≤ size given
  count : length parts ≡ length given

parts_of : (given parts : List (List ℕ)) → parts_spelled given ≡ Some parts → ArePartsOf given parts
unfolding parts_spelled
parts_of [] parts h = let same : [] ≡ parts = cc in subst (λ (ts : List (List ℕ)). ArePartsOf [] ts) same record { each = tt; shorter = omega arith; count = refl }
parts_of (p ∷ ps) parts h =
    let t = bind_some (part_spelling p) _ parts h in
    let ts = bind_some (parts_spelled ps) _ parts t.2 in
    let same : t.0 ∷ ts.0 ≡ parts = cc in
    let one = part_of p t.0 t.1 in
    let more = parts_of ps ts.0 ts.1 in
    subst (λ (us : List (List ℕ)). ArePartsOf (p ∷ ps) us) same record { each = (one.0, more.each); shorter = omega (arith, one.1, more.shorter); count = omega (arith, more.count) }

spelled_all : (ts : List (List ℕ)) → ArePart ts → parts_spelled ts ≡ Some ts
unfolding parts_spelled
spelled_all [] are = refl
spelled_all (t ∷ ts) are = ap (λ o. o >>= λ x. parts_spelled ts >>= λ xs. Some (x ∷ xs)) are.0.again ∙ ap (λ o. o >>= λ xs. Some (t ∷ xs)) (spelled_all ts are.1)

text_more : (t u : List ℕ) (us : List (List ℕ)) → parts_text true (t ∷ u ∷ us) ≡ t ++ 43 ∷ parts_text true (u ∷ us)
unfolding parts_text
text_more t u us = ap (λ (x : List ℕ). t ++ x) (append_assoc (codes "+") u (parts_text false us))

text_one : (t : List ℕ) → parts_text true (t ∷ []) ≡ t
unfolding parts_text
text_one t = append-nil t

pieces_again : (t : List ℕ) (ts : List (List ℕ)) → ArePart (t ∷ ts) → pieces 43 (parts_text true (t ∷ ts)) ≡ t ∷ ts
pieces_again t [] are = ap (pieces 43) (text_one t) ∙ pieces_uncut 43 t (cut_none 43 t are.0.without_plus)
pieces_again t (u ∷ us) are =
    let rest : List ℕ = parts_text true (u ∷ us) in
    ap (pieces 43) (text_more t u us) ∙ pieces_cut 43 (t ++ 43 ∷ rest) (t, rest) (cut_again 43 t rest are.0.without_plus)
    ∙ ap (λ (ps : List (List ℕ)). t ∷ ps) (pieces_again u us are.1)

text_bytes : (t : List ℕ) (ts : List (List ℕ)) → ArePart (t ∷ ts) → are_values (parts_text true (t ∷ ts)) ≡ true
text_bytes t [] are = ap are_values (text_one t) ∙ are.0.bytes
text_bytes t (u ∷ us) are = ap are_values (text_more t u us) ∙ joined t (43 ∷ parts_text true (u ∷ us)) are.0.bytes (text_bytes u us are.1)

text_size : (t : List ℕ) (ts : List (List ℕ)) → length (parts_text true (t ∷ ts)) + 1 ≡ size (t ∷ ts)
text_size t [] = omega (arith, ap length (text_one t))
text_size t (u ∷ us) = omega (arith, ap length (text_more t u us), length-append t (43 ∷ parts_text true (u ∷ us)), text_size u us)

begins_so : (t rest : List ℕ) → begins_digit t ≡ true → begins_digit (t ++ rest) ≡ true
begins_so [] rest h = absurd (cc)
begins_so (b ∷ bs) rest h = h

text_first : (t : List ℕ) (ts : List (List ℕ)) → ArePart (t ∷ ts) → begins_digit (parts_text true (t ∷ ts)) ≡ true
text_first t [] are = ap begins_digit (text_one t) ∙ are.0.first
text_first t (u ∷ us) are = ap begins_digit (text_more t u us) ∙ begins_so t (43 ∷ parts_text true (u ∷ us)) are.0.first

begins_some : (text : List ℕ) → begins_digit text ≡ true → 0 < length text
begins_some [] h = absurd (cc)
begins_some (b ∷ bs) h = omega arith

-- a text that begins with a digit isn't `none`
not_none : (text : List ℕ) → begins_digit text ≡ true → bytes_eq text (codes "none") ≡ false
not_none text h = go (bytes_eq text (codes "none")) refl
  where
    go : (b : Bool) → bytes_eq text (codes "none") ≡ b → bytes_eq text (codes "none") ≡ false
    go false e = e
    go true e = absurd (let same : text ≡ codes "none" = (bytes_eq-Decides text (codes "none")).0 e in cc (ap begins_digit same, h))

-- ---- the pieces of a text

onto_size : (x : ℕ) (ps : List (List ℕ)) → 0 < length ps → size (onto_first x ps) ≡ size ps + 1
onto_size x [] some = absurd (omega arith)
onto_size x (p ∷ ps) some = omega arith

onto_some : (x : ℕ) (ps : List (List ℕ)) → 0 < length ps → 0 < length (onto_first x ps)
onto_some x [] some = absurd (omega arith)
onto_some x (p ∷ ps) some = omega arith

pieces_size : (text : List ℕ) → (0 < length (pieces 43 text)) × (size (pieces 43 text) ≡ length text + 1)
pieces_size [] = (omega arith, refl)
pieces_size (b ∷ bs) = go (eqb b 43) (pieces 43 bs) (pieces_size bs)
  where
    go : (c : Bool) (ps : List (List ℕ)) → (0 < length ps) × (size ps ≡ length bs + 1)
        → (0 < length (cond c ([] ∷ ps) (onto_first b ps))) × (size (cond c ([] ∷ ps) (onto_first b ps)) ≡ length (b ∷ bs) + 1)
    go true ps h = (omega arith, omega (arith, h.1))
    go false ps h = (onto_some b ps h.0, omega (arith, onto_size b ps h.0, h.1))

-- ---- statistics in their one spelling

record IsStat (given text : List ℕ) : Type 0 where
  again : joined_spelling text ≡ Some text
  bytes : are_values text ≡ true
  first : begins_digit text ≡ true
  shorter : length text ≤ length given

joined_of : (given : List ℕ) (parts : List (List ℕ)) → parts_spelled (pieces 43 given) ≡ Some parts → IsStat given (parts_text true parts)
unfolding joined_spelling
joined_of given [] h = let are = parts_of (pieces 43 given) [] h in absurd (omega (arith, are.count, (pieces_size given).0))
joined_of given (t ∷ ts) h =
    let are = parts_of (pieces 43 given) (t ∷ ts) h in
    record {
      again = ap (λ ps. option_map (parts_text true) (parts_spelled ps)) (pieces_again t ts are.each) ∙ ap (option_map (parts_text true)) (spelled_all (t ∷ ts) are.each);
      bytes = text_bytes t ts are.each;
      first = text_first t ts are.each;
      shorter = omega (arith, text_size t ts, are.shorter, (pieces_size given).1);
    }

stat_of : (given text : List ℕ) → joined_spelling given ≡ Some text → IsStat given text
unfolding joined_spelling
stat_of given text h =
    let m = map_some (parts_text true) (parts_spelled (pieces 43 given)) text h in
    subst (λ (t : List ℕ). IsStat given t) m.2 (joined_of given m.0 m.1)

pub stat_again : (given text : List ℕ) → stat_spelling given ≡ Some text → stat_spelling text ≡ Some text
unfolding stat_spelling
stat_again given text h = go (bytes_eq given (codes "none")) h
  where
    go : (b : Bool) → cond b (Some (codes "none")) (joined_spelling given) ≡ Some text → stat_spelling text ≡ Some text
    go true e = let same : codes "none" ≡ text = cc in subst (λ (t : List ℕ). stat_spelling t ≡ Some t) same refl
    go false e =
        let s = stat_of given text e in
        cond-false (bytes_eq text (codes "none")) (Some (codes "none")) (joined_spelling text) (not_none text s.first) ∙ s.again

pub stat_is_value : (given text : List ℕ) → stat_spelling given ≡ Some text → length given ≤ 255 → is_value text ≡ true
unfolding stat_spelling
stat_is_value given text h short = go (bytes_eq given (codes "none")) h
  where
    go : (b : Bool) → cond b (Some (codes "none")) (joined_spelling given) ≡ Some text → is_value text ≡ true
    go true e = let same : codes "none" ≡ text = cc in subst (λ (t : List ℕ). is_value t ≡ true) same refl
    go false e = let s = stat_of given text e in value_from text s.bytes (begins_some text s.first) (omega (arith, s.shorter))

-- the same of what a call answered
pub if_joined : (given : List ℕ) (result : Result (String Global) ValueFault) → length given ≤ 255 → GivesText result (joined_spelling given) → IfOk result (λ s. IsTrue (is_value (string_bytes s)))
if_joined given (Ok s) short h =
    let text : List ℕ = string_bytes s in
    let is = stat_of given text h in
    value_from text is.bytes (begins_some text is.first) (omega (arith, is.shorter))
if_joined given (Err e) short h = tt
