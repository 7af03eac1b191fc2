-- Parameters, and types and values of surfaces, spelled again.
use Rattle.std.proofs.Common.{◌≡◌, ◌<◌, ◌≤◌, ◌+◌, ◌^◌, ◌∙◌, ℕ, Bool, true, false, cond, not, List, [], ◌∷◌, ◌++◌, length, eqb, ltb, Option, Some, None, refl, sym, ap, append_assoc, length-append, subst, arith}
use Rattle.std.specs.Prelude.{◌&&◌, codes}
use Rattle.std.specs.List.{list_all}
use Rattle.std.specs.Char.{is_ascii_digit}
use Rattle.std.specs.Fmt.{decimal}
use Rattle.std.proofs.lemmas.Bool.{and_parts, and_from, cond-true, cond-false, lt-ltb, ltb-true}
use Rattle.std.proofs.lemmas.Bool.Decides.{nat_tests}
use Rattle.std.proofs.lemmas.List.{append-nil}
use Rattle.fd_spelling.specs.Names.{is_value}
use Rattle.fd_spelling.specs.Numerals.{is_numeral, number_up_to, cut, ◌>>=◌}
use Rattle.fd_spelling.specs.Levels.{levtype_text, types_in, both_types, levtype_spelling, without_first_zeros, without_last_zeros, before_others, or_zero, with_point, is_zero, level_text, decimal_in, unsigned_level, level_spelling, levels_text, both_levels, levelist_spelling, IsDecimal}
use Rattle.fd_spelling.specs.Canonical.{param_numbers, param_of}
use Rattle.fd_spelling.proofs.Zeros.{first_digits, last_digits}
use Rattle.fd_spelling.proofs.PieceLaws.{cut_lengths}
use Rattle.fd_spelling.proofs.ValueLaws.{with_point_decimal, without_point_decimal, alone_is_value, both_are_value, decimal_is_value}
use Rattle.fd_spelling.proofs.Again.{bind_some, choice_some, number_least, number_again, decimal_digits, is_without, cut_again, cut_none, without_joined, digits_without}

-- ---- parameters

pub record IsParam (p : ℕ × ℕ × ℕ) : Type 0 where
  pub discipline : p.0 ≤ 255
  pub category : p.1 ≤ 255
  pub number : p.2 ≤ 255

pub param_in : (text : List ℕ) (p : ℕ × ℕ × ℕ) → param_numbers text ≡ Some p → IsParam p
unfolding param_numbers
param_in text p h =
    let front = bind_some (cut 46 text) _ p h in
    let back = bind_some (cut 46 front.0.1) _ p front.2 in
    let d = bind_some (number_up_to 255 front.0.0) _ p back.2 in
    let c = bind_some (number_up_to 255 back.0.0) _ p d.2 in
    let n = bind_some (number_up_to 255 back.0.1) _ p c.2 in
    let same : (d.0, c.0, n.0) ≡ p = cc in
    subst (λ q. IsParam q) same record {
      discipline = number_least 255 d.0 front.0.0 d.1;
      category = number_least 255 c.0 back.0.0 c.1;
      number = number_least 255 n.0 back.0.1 n.1;
    }

number_without : (mark n : ℕ) → is_ascii_digit mark ≡ false → n < 10 ^ 64 → is_without mark (decimal n) ≡ true
number_without mark n apart few = digits_without mark (decimal n) apart (decimal_digits n few)

marked_twice : (x y z : List ℕ) (m : ℕ) → (((x ++ m ∷ []) ++ y) ++ m ∷ []) ++ z ≡ x ++ m ∷ (y ++ m ∷ z)
marked_twice x y z m = simp append_assoc

pub param_again : (p : ℕ × ℕ × ℕ) → IsParam p → param_numbers (param_of p) ≡ Some p
unfolding param_numbers
param_again p is =
    let d = p.0 in
    let c = p.1 in
    let n = p.2 in
    let text : param_of p ≡ decimal d ++ 46 ∷ (decimal c ++ 46 ∷ decimal n) = marked_twice (decimal d) (decimal c) (decimal n) 46 in
    let front : cut 46 (decimal d ++ 46 ∷ (decimal c ++ 46 ∷ decimal n)) ≡ Some (decimal d, decimal c ++ 46 ∷ decimal n) =
    cut_again 46 (decimal d) (decimal c ++ 46 ∷ decimal n) (number_without 46 d refl (omega (arith, is.discipline))) in
    let back : cut 46 (decimal c ++ 46 ∷ decimal n) ≡ Some (decimal c, decimal n) = cut_again 46 (decimal c) (decimal n) (number_without 46 c refl (omega (arith, is.category))) in
    let first : number_up_to 255 (decimal d) ≡ Some d = number_again 255 d is.discipline (omega (arith, is.discipline)) in
    let second : number_up_to 255 (decimal c) ≡ Some c = number_again 255 c is.category (omega (arith, is.category)) in
    let third : number_up_to 255 (decimal n) ≡ Some n = number_again 255 n is.number (omega (arith, is.number)) in
    ap param_numbers text ∙ rw (front, back, first, second, third) refl

-- ---- types of surfaces

pub record IsTypes (text : List ℕ) : Type 0 where
  pub first : ℕ
  pub second : ℕ
  pub first_few : first ≤ 255
  pub second_few : second ≤ 255
  pub is : text ≡ levtype_text first second

types_from : (first second text : List ℕ) → types_in first second ≡ Some text → IsTypes text
unfolding types_in
types_from first second text h =
    let t = bind_some (number_up_to 255 first) _ text h in
    let u = bind_some (number_up_to 255 second) _ text t.2 in
    record {
      first = t.0;
      second = u.0;
      first_few = number_least 255 t.0 first t.1;
      second_few = number_least 255 u.0 second u.1;
      is = let same : levtype_text t.0 u.0 ≡ text = cc in sym same;
    }

types_cut : (parts : Option (List ℕ × List ℕ)) (given text : List ℕ) → both_types parts given ≡ Some text → IsTypes text
types_cut None given text h = types_from given (codes "255") text h
types_cut (Some parts) given text h = types_from parts.0 parts.1 text h

pub types_of : (given text : List ℕ) → levtype_spelling given ≡ Some text → IsTypes text
unfolding levtype_spelling
types_of given text h = types_cut (cut 45 given) given text h

missing_again : number_up_to 255 (codes "255") ≡ Some 255
unfolding number_up_to
missing_again = refl

types_text_again : (t u : ℕ) → t ≤ 255 → u ≤ 255 → levtype_spelling (levtype_text t u) ≡ Some (levtype_text t u)
unfolding levtype_spelling types_in levtype_text
types_text_again t u ts us = go (eqb u 255) refl
  where
    first : number_up_to 255 (decimal t) ≡ Some t
    first = number_again 255 t ts (omega arith)

    second : number_up_to 255 (decimal u) ≡ Some u
    second = number_again 255 u us (omega arith)

    without : is_without 45 (decimal t) ≡ true
    without = number_without 45 t refl (omega arith)

    alone : cut 45 (decimal t) ≡ None
    alone = cut_none 45 (decimal t) without

    go : (b : Bool) → eqb u 255 ≡ b → levtype_spelling (cond b (decimal t) ((decimal t ++ codes "-") ++ decimal u)) ≡ Some (cond b (decimal t) ((decimal t ++ codes "-") ++ decimal u))
    go true e = rw (alone, first, missing_again) refl
    go false e =
        let text : (decimal t ++ codes "-") ++ decimal u ≡ decimal t ++ 45 ∷ decimal u = append_assoc (decimal t) (codes "-") (decimal u) in
        let parts : cut 45 (decimal t ++ 45 ∷ decimal u) ≡ Some (decimal t, decimal u) = cut_again 45 (decimal t) (decimal u) without in
        let read : both_types (cut 45 ((decimal t ++ codes "-") ++ decimal u)) ((decimal t ++ codes "-") ++ decimal u) ≡ types_in (decimal t) (decimal u) =
        ap (λ x. both_types x ((decimal t ++ codes "-") ++ decimal u)) (ap (cut 45) text ∙ parts) in
        read ∙ rw (first, second, e) refl

pub types_again : (text : List ℕ) → IsTypes text → levtype_spelling text ≡ Some text
types_again text is = ap levtype_spelling is.is ∙ types_text_again is.first is.second is.first_few is.second_few ∙ ap (λ x. Some x) (sym is.is)

-- ---- zeros that are left out already

first_done : (w : List ℕ) → or_zero (without_first_zeros (or_zero (without_first_zeros w))) ≡ or_zero (without_first_zeros w)
first_done [] = refl
first_done (b ∷ bs) = go (eqb b 48) refl (first_done bs)
  where
    go : (z : Bool) → eqb b 48 ≡ z → or_zero (without_first_zeros (or_zero (without_first_zeros bs))) ≡ or_zero (without_first_zeros bs)
        → or_zero (without_first_zeros (or_zero (cond z (without_first_zeros bs) (b ∷ bs)))) ≡ or_zero (cond z (without_first_zeros bs) (b ∷ bs))
    go true e h = h
    go false e h = ap or_zero (cond-false (eqb b 48) (without_first_zeros bs) (b ∷ bs) e)

last_done : (f : List ℕ) → without_last_zeros (without_last_zeros f) ≡ without_last_zeros f
last_done [] = refl
last_done (b ∷ bs) = go (without_last_zeros bs) (last_done bs)
  where
    alone : (z : Bool) → eqb b 48 ≡ z → without_last_zeros (cond z [] (b ∷ [])) ≡ cond z [] (b ∷ [])
    alone true e = refl
    alone false e = cond-false (eqb b 48) [] (b ∷ []) e

    go : (ds : List ℕ) → without_last_zeros ds ≡ ds → without_last_zeros (before_others b ds) ≡ before_others b ds
    go [] h = alone (eqb b 48) refl
    go (c ∷ cs) h = ap (before_others b) h

first_zero : (w : List ℕ) → is_zero (or_zero (without_first_zeros w)) ≡ is_zero w
first_zero [] = refl
first_zero (b ∷ bs) = go (eqb b 48) refl (first_zero bs)
  where
    go : (z : Bool) → eqb b 48 ≡ z → is_zero (or_zero (without_first_zeros bs)) ≡ is_zero bs → is_zero (or_zero (cond z (without_first_zeros bs) (b ∷ bs))) ≡ (z && is_zero bs)
    go true e h = h
    go false e h = ap (λ x. x && is_zero bs) e

last_zero : (f : List ℕ) → is_zero (without_last_zeros f) ≡ is_zero f
last_zero [] = refl
last_zero (b ∷ bs) = go (without_last_zeros bs) (last_zero bs)
  where
    alone : (z : Bool) → eqb b 48 ≡ z → is_zero (cond z [] (b ∷ [])) ≡ (z && true)
    alone true e = refl
    alone false e = ap (λ x. x && true) e

    go : (ds : List ℕ) → is_zero ds ≡ is_zero bs → is_zero (before_others b ds) ≡ (eqb b 48 && is_zero bs)
    go [] h = alone (eqb b 48) refl ∙ ap (λ x. eqb b 48 && x) h
    go (c ∷ cs) h = ap (λ x. eqb b 48 && x) h

-- ---- values of surfaces

-- one decimal in its one spelling
pub record IsLevel (text : List ℕ) : Type 0 where
  pub negative : Bool
  pub whole : List ℕ
  pub fraction : List ℕ
  pub some : is_numeral whole ≡ true
  pub digits : list_all is_ascii_digit fraction ≡ true
  pub is : text ≡ level_text negative whole fraction

in_parts : (negative : Bool) (parts : Option (List ℕ × List ℕ)) (given text : List ℕ) → decimal_in negative parts given ≡ Some text → IsLevel text
in_parts negative None given text h =
    let c = choice_some (is_numeral given) (level_text negative given []) text h in
    record { negative = negative; whole = given; fraction = []; some = c.0; digits = refl; is = sym c.1 }
in_parts negative (Some parts) given text h =
    let c = choice_some (is_numeral parts.0 && is_numeral parts.1) (level_text negative parts.0 parts.1) text h in
    let both = and_parts (is_numeral parts.0) (is_numeral parts.1) c.0 in
    record {
      negative = negative;
      whole = parts.0;
      fraction = parts.1;
      some = both.0;
      digits = (and_parts (ltb 0 (length parts.1)) (list_all is_ascii_digit parts.1) both.1).1;
      is = sym c.1;
    }

unsigned_of : (negative : Bool) (given text : List ℕ) → unsigned_level negative given ≡ Some text → IsLevel text
unfolding unsigned_level
unsigned_of negative given text h = in_parts negative (cut 46 given) given text h

pub level_of : (given text : List ℕ) → level_spelling given ≡ Some text → IsLevel text
unfolding level_spelling
level_of [] text h = absurd (cc)
level_of (b ∷ bs) text h = go (eqb b 45) h
  where
    go : (z : Bool) → cond z (unsigned_level true bs) (unsigned_level false (b ∷ bs)) ≡ Some text → IsLevel text
    go true e = unsigned_of true bs text e
    go false e = unsigned_of false (b ∷ bs) text e

-- the digits before the point
numeral_from : (d : ℕ) (ds : List ℕ) → list_all is_ascii_digit (d ∷ ds) ≡ true → is_numeral (d ∷ ds) ≡ true
numeral_from d ds h = and_from (ltb 0 (length (d ∷ ds))) (list_all is_ascii_digit (d ∷ ds)) (lt-ltb 0 (length (d ∷ ds)) (omega arith)) h

or_zero_numeral : (ds : List ℕ) → list_all is_ascii_digit ds ≡ true → is_numeral (or_zero ds) ≡ true
or_zero_numeral [] h = refl
or_zero_numeral (d ∷ ds) h = numeral_from d ds h

numeral_digits : (w : List ℕ) → is_numeral w ≡ true → list_all is_ascii_digit w ≡ true
numeral_digits w h = (and_parts (ltb 0 (length w)) (list_all is_ascii_digit w) h).1

whole_numeral : (w : List ℕ) → is_numeral w ≡ true → is_numeral (or_zero (without_first_zeros w)) ≡ true
whole_numeral w h = or_zero_numeral (without_first_zeros w) (first_digits w (numeral_digits w h))

-- a decimal whose parts have no needless zeros, read again
plain_again : (negative : Bool) (w f : List ℕ) → is_numeral w ≡ true → list_all is_ascii_digit f ≡ true → unsigned_level negative (w ++ with_point f) ≡ Some (level_text negative w f)
unfolding unsigned_level
plain_again negative w [] some digits =
    let alone : w ++ [] ≡ w = append-nil w in
    let uncut : cut 46 w ≡ None = cut_none 46 w (digits_without 46 w refl (numeral_digits w some)) in
    ap (unsigned_level negative) alone ∙ ap (λ x. decimal_in negative x w) uncut ∙ cond-true (is_numeral w) (Some (level_text negative w [])) None some
plain_again negative w (c ∷ cs) some digits =
    let f : List ℕ = c ∷ cs in
    let parts : cut 46 (w ++ 46 ∷ f) ≡ Some (w, f) = cut_again 46 w f (digits_without 46 w refl (numeral_digits w some)) in
    ap (λ x. decimal_in negative x (w ++ 46 ∷ f)) parts ∙ cond-true (is_numeral w && is_numeral f) (Some (level_text negative w f)) None (and_from (is_numeral w) (is_numeral f) some (numeral_from c cs digits))

-- what stands without a sign begins with a digit
unsigned_again : (w rest : List ℕ) → is_numeral w ≡ true → level_spelling (w ++ rest) ≡ unsigned_level false (w ++ rest)
unfolding level_spelling
unsigned_again [] rest some = absurd (cc)
unsigned_again (b ∷ bs) rest some =
    let digit : is_ascii_digit b ≡ true = (and_parts (is_ascii_digit b) (list_all is_ascii_digit bs) (numeral_digits (b ∷ bs) some)).0 in
    let other : eqb b 45 ≡ false = grind (arith, nat_tests) in
    cond-false (eqb b 45) (unsigned_level true (bs ++ rest)) (unsigned_level false (b ∷ (bs ++ rest))) other

signed_again : (text : List ℕ) → level_spelling (45 ∷ text) ≡ unsigned_level true text
unfolding level_spelling
signed_again text = refl

abbrev nil : List ℕ
nil = []

text_again : (negative : Bool) (w f : List ℕ) → is_numeral w ≡ true → list_all is_ascii_digit f ≡ true → level_spelling (level_text negative w f) ≡ Some (level_text negative w f)
unfolding level_text
text_again negative w f some digits = go (negative && not (is_zero w && is_zero f)) refl
  where
    whole : List ℕ
    whole = or_zero (without_first_zeros w)

    fraction : List ℕ
    fraction = without_last_zeros f

    zeros : (is_zero whole && is_zero fraction) ≡ (is_zero w && is_zero f)
    zeros = ap (λ x. x && is_zero fraction) (first_zero w) ∙ ap (λ x. is_zero w && x) (last_zero f)

    digits_again : or_zero (without_first_zeros whole) ++ with_point (without_last_zeros fraction) ≡ whole ++ with_point fraction
    digits_again = ap (λ x. x ++ with_point (without_last_zeros fraction)) (first_done w) ∙ ap (λ x. whole ++ with_point x) (last_done f)

    is_again : (sign : Bool) → unsigned_level sign (whole ++ with_point fraction) ≡ Some (level_text sign whole fraction)
    is_again sign = plain_again sign whole fraction (whole_numeral w some) (last_digits f digits)

    right : (z : Bool) → (negative && not (is_zero w && is_zero f)) ≡ z → z ≡ true → not (is_zero w && is_zero f) ≡ true
    right z e t = (and_parts negative (not (is_zero w && is_zero f)) (e ∙ t)).1

    go : (z : Bool) → (negative && not (is_zero w && is_zero f)) ≡ z → level_spelling ((cond z (45 ∷ nil) nil ++ whole) ++ with_point fraction) ≡ Some ((cond z (45 ∷ nil) nil ++ whole) ++ with_point fraction)
    go true e =
        let sign : not (is_zero whole && is_zero fraction) ≡ true = ap not zeros ∙ right true e refl in
        signed_again (whole ++ with_point fraction) ∙ is_again true
        ∙ ap (λ x. Some ((cond x (45 ∷ nil) nil ++ or_zero (without_first_zeros whole)) ++ with_point (without_last_zeros fraction))) sign
        ∙ ap (λ (x : List ℕ). Some (45 ∷ x)) digits_again
    go false e = unsigned_again whole (with_point fraction) (whole_numeral w some) ∙ is_again false ∙ ap (λ x. Some x) digits_again

pub level_again : (text : List ℕ) → IsLevel text → level_spelling text ≡ Some text
level_again text l = ap level_spelling l.is ∙ text_again l.negative l.whole l.fraction l.some l.digits ∙ ap (λ x. Some x) (sym l.is)

sign_without : (z : Bool) → is_without 95 (cond z (45 ∷ nil) nil) ≡ true
sign_without true = refl
sign_without false = refl

point_without : (f : List ℕ) → is_without 95 f ≡ true → is_without 95 (with_point f) ≡ true
point_without [] h = refl
point_without (c ∷ cs) h = h

text_without : (negative : Bool) (w f : List ℕ) → is_numeral w ≡ true → list_all is_ascii_digit f ≡ true → is_without 95 (level_text negative w f) ≡ true
unfolding level_text
text_without negative w f some digits =
    let whole : List ℕ = or_zero (without_first_zeros w) in
    let fraction : List ℕ = without_last_zeros f in
    let sign : List ℕ = cond (negative && not (is_zero w && is_zero f)) (45 ∷ nil) nil in
    without_joined 95 (sign ++ whole) (with_point fraction)
    (without_joined 95 sign whole (sign_without (negative && not (is_zero w && is_zero f))) (digits_without 95 whole refl (numeral_digits whole (whole_numeral w some))))
    (point_without fraction (digits_without 95 fraction refl (last_digits f digits)))

text_some : (negative : Bool) (w f : List ℕ) → is_numeral w ≡ true → 0 < length (level_text negative w f)
unfolding level_text
text_some negative w f some =
    let whole : List ℕ = or_zero (without_first_zeros w) in
    let sign : List ℕ = cond (negative && not (is_zero w && is_zero f)) (45 ∷ nil) nil in
    let one : 0 < length whole = ltb-true 0 (length whole) (and_parts (ltb 0 (length whole)) (list_all is_ascii_digit whole) (whole_numeral w some)).0 in
    omega (arith, length-append (sign ++ whole) (with_point (without_last_zeros f)), length-append sign whole)

-- a decimal's text has a byte, and no `_`
level_without : (text : List ℕ) → IsLevel text → (is_without 95 text ≡ true) × (0 < length text)
level_without text l = (ap (is_without 95) l.is ∙ text_without l.negative l.whole l.fraction l.some l.digits, let some : 0 < length (level_text l.negative l.whole l.fraction) = text_some l.negative l.whole l.fraction l.some in omega (arith, some, ap length l.is))

-- ---- values of both surfaces

alone_again : (w : List ℕ) → IsLevel w → levelist_spelling (codes "_" ++ w) ≡ Some (codes "_" ++ w)
unfolding levelist_spelling
alone_again w l =
    let parts : cut 95 (95 ∷ w) ≡ Some ([], w) = cut_again 95 [] w refl in
    ap (λ x. both_levels x (95 ∷ w)) parts ∙ ap (λ x. x >>= λ v. levels_text None (Some v)) (level_again w l)

first_again : (w : List ℕ) → IsLevel w → levelist_spelling w ≡ Some w
unfolding levelist_spelling
first_again w l = ap (λ x. both_levels x w) (cut_none 95 w (level_without w l).0) ∙ level_again w l

pair_again : (v w : List ℕ) → 0 < length v → both_levels (Some (v, w)) (v ++ 95 ∷ w) ≡ (level_spelling v >>= λ x. level_spelling w >>= λ y. levels_text (Some x) (Some y))
pair_again [] w some = absurd (omega arith)
pair_again (b ∷ bs) w some = refl

both_again : (v w : List ℕ) → IsLevel v → IsLevel w → levelist_spelling ((v ++ codes "_") ++ w) ≡ Some ((v ++ codes "_") ++ w)
unfolding levelist_spelling
both_again v w lv lw =
    let without = level_without v lv in
    let text : (v ++ codes "_") ++ w ≡ v ++ 95 ∷ w = append_assoc v (codes "_") w in
    let parts : cut 95 (v ++ 95 ∷ w) ≡ Some (v, w) = cut_again 95 v w without.0 in
    ap (λ t. both_levels (cut 95 t) t) text ∙ ap (λ x. both_levels x (v ++ 95 ∷ w)) parts ∙ pair_again v w without.1 ∙ rw (level_again v lv, level_again w lw) refl

-- the text of levels in its one spelling
pub data IsLevels : List ℕ → Type 0 where
  First : (v : List ℕ) → IsLevel v → IsLevels v
  Second : (w : List ℕ) → IsLevel w → IsLevels (codes "_" ++ w)
  Both : (v w : List ℕ) → IsLevel v → IsLevel w → IsLevels ((v ++ codes "_") ++ w)

levels_cut : (parts : Option (List ℕ × List ℕ)) (given text : List ℕ) → both_levels parts given ≡ Some text → IsLevels text
levels_cut None given text h = First text (level_of given text h)
levels_cut (Some ([], second)) given text h =
    let w = bind_some (level_spelling second) _ text h in
    let same : codes "_" ++ w.0 ≡ text = cc in
    subst (λ t. IsLevels t) same (Second w.0 (level_of second w.0 w.1))
levels_cut (Some (b ∷ bs, second)) given text h =
    let v = bind_some (level_spelling (b ∷ bs)) _ text h in
    let w = bind_some (level_spelling second) _ text v.2 in
    let same : (v.0 ++ codes "_") ++ w.0 ≡ text = cc in
    subst (λ t. IsLevels t) same (Both v.0 w.0 (level_of (b ∷ bs) v.0 v.1) (level_of second w.0 w.1))

pub levels_of : (given text : List ℕ) → levelist_spelling given ≡ Some text → IsLevels text
unfolding levelist_spelling
levels_of given text h = levels_cut (cut 95 given) given text h

pub levels_again : (text : List ℕ) → IsLevels text → levelist_spelling text ≡ Some text
levels_again text (First v l) = first_again v l
levels_again text (Second w l) = alone_again w l
levels_again text (Both v w lv lw) = both_again v w lv lw

-- ---- how long they are

decimal_short : (negative : Bool) (parts : Option (List ℕ × List ℕ)) (given text : List ℕ) → cut 46 given ≡ parts → decimal_in negative parts given ≡ Some text → IsDecimal (length given + cond negative 1 0) text
decimal_short negative None given text uncut h =
    let c = choice_some (is_numeral given) (level_text negative given []) text h in
    subst (λ (t : List ℕ). IsDecimal (length given + cond negative 1 0) t) c.1 (without_point_decimal negative given c.0)
decimal_short negative (Some parts) given text cut_is h =
    let c = choice_some (is_numeral parts.0 && is_numeral parts.1) (level_text negative parts.0 parts.1) text h in
    let both = and_parts (is_numeral parts.0) (is_numeral parts.1) c.0 in
    subst (λ (t : List ℕ). IsDecimal (length given + cond negative 1 0) t) c.1 (with_point_decimal negative parts.0 parts.1 (length given) both.0 both.1 (cut_lengths 46 given parts cut_is))

unsigned_short : (negative : Bool) (given text : List ℕ) → unsigned_level negative given ≡ Some text → IsDecimal (length given + cond negative 1 0) text
unfolding unsigned_level
unsigned_short negative given text h = decimal_short negative (cut 46 given) given text refl h

level_short : (given text : List ℕ) → level_spelling given ≡ Some text → IsDecimal (length given) text
unfolding level_spelling
level_short [] text h = absurd (cc)
level_short (b ∷ bs) text h = go (eqb b 45) h
  where
    go : (z : Bool) → cond z (unsigned_level true bs) (unsigned_level false (b ∷ bs)) ≡ Some text → IsDecimal (length (b ∷ bs)) text
    go true e = let long : length bs + 1 ≡ length (b ∷ bs) = omega arith in subst (λ n. IsDecimal n text) long (unsigned_short true bs text e)
    go false e = let long : length (b ∷ bs) + 0 ≡ length (b ∷ bs) = omega arith in subst (λ n. IsDecimal n text) long (unsigned_short false (b ∷ bs) text e)

cut_value : (parts : Option (List ℕ × List ℕ)) (given text : List ℕ) → cut 95 given ≡ parts → both_levels parts given ≡ Some text → length given ≤ 255 → is_value text ≡ true
cut_value None given text uncut h few = decimal_is_value (length given) text (level_short given text h) few
cut_value (Some ([], second)) given text cut_is h few =
    let w = bind_some (level_spelling second) _ text h in
    let lengths = cut_lengths 95 given ([], second) cut_is in
    alone_is_value w.0 text (length second) (sym w.2) (level_short second w.0 w.1) (omega arith)
cut_value (Some (b ∷ bs, second)) given text cut_is h few =
    let v = bind_some (level_spelling (b ∷ bs)) _ text h in
    let w = bind_some (level_spelling second) _ text v.2 in
    let lengths = cut_lengths 95 given (b ∷ bs, second) cut_is in
    both_are_value v.0 w.0 text (length (b ∷ bs)) (length second) (sym w.2) (level_short (b ∷ bs) v.0 v.1) (level_short second w.0 w.1) (omega arith)

pub levels_are_value : (given text : List ℕ) → levelist_spelling given ≡ Some text → length given ≤ 255 → is_value text ≡ true
unfolding levelist_spelling
levels_are_value given text h few = cut_value (cut 95 given) given text refl h few
