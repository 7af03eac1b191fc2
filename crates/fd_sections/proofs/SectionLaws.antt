-- A section that is read stands at the front, and each section at the front is read.
use Rattle.std.proofs.Common.{◌≡◌, ℕ, ◌≤◌, Bool, true, false, cond, List, [], ◌∷◌, ◌++◌, length, take, drop, Option, Some, None, Result, Ok, Err, refl, sym, subst, ◌∙◌, arith, inl, inr, ◌⊎◌, length-append, length-take, eqb, ltb, not}
use Rattle.std.specs.Prelude.{nat_eq, nat_le, IfSome, ◌==◌, ◌&&◌, leb}
use Rattle.std.specs.List.{starts_with}
use lib.Pointwise.{pointwise}
use Rattle.std.proofs.lemmas.Bool.{eqb-true, eq-eqb, ltb-false, le-ltb, le-leb}
use Rattle.std.proofs.lemmas.List.{take_at, drop_at, take-append-drop, take_all}
use Rattle.fd_bytes.specs.Numbers.{octets}
use Rattle.fd_bytes.proofs.Octets.{octets-append, octets-take, starts_with-append, starts_with-take}
use Rattle.fd_sections.specs.declared.bad.Bad.{Bad}
use Rattle.fd_sections.specs.declared.bad.Bad.TheVariants.{NoEnd, MultiField}
use Rattle.fd_sections.specs.Message.{IsIndicator, IsSection, grib, end_section, if_present}
use Rattle.fd_sections.specs.Reading.{◌>>=◌, indicator_at, section_at, local_use_at, end_at, repeats}

-- the value of a step that did not fail
pub bind_ok : {A B : Type 0} (r : Result A Bad) (f : A → Result B Bad) (y : B) → (r >>= f) ≡ Ok y → (x : A) × (r ≡ Ok x) × (f x ≡ Ok y)
bind_ok (Ok x) f y e = (x, refl, e)
bind_ok (Err d) f y e = absurd cc

-- a test that did not fail
pub passed : {A : Type 0} (b : Bool) (d : Bad) (r : Result A Bad) (y : A) → cond b (Err d) r ≡ Ok y → (b ≡ false) × (r ≡ Ok y)
passed true d r y e = absurd cc
passed false d r y e = (refl, e)

abbrev done : {A : Type 0} → A → Result A Bad
done x = Ok x

pub ok_is : {A : Type 0} (x y : A) → done x ≡ done y → x ≡ y
ok_is x y e = cc

not_false : (b : Bool) → not b ≡ false → b ≡ true
not_false true e = refl
not_false false e = absurd cc

pub section_takes : (number least : ℕ) (rest : List ℕ) (x : List ℕ × List ℕ) → 5 ≤ least → section_at number least rest ≡ Ok x → (rest ≡ x.0 ++ x.1) × IsSection number least x.0
unfolding section_at
section_takes number least rest x five e =
    let n = octets 1 4 rest in
    let a = passed (ltb (length rest) 5) _ _ x e in
    let b = passed (not (eqb (octets 5 5 rest) number)) _ _ x a.1 in
    let c = passed (ltb n least) _ _ x b.1 in
    let d = passed (ltb (length rest) n) _ _ x c.1 in
    let long : least ≤ n = ltb-false _ _ c.0 in
    let fits : n ≤ length rest = ltb-false _ _ d.0 in
    let len : length (take n rest) ≡ n = omega (arith, length-take n rest) in
    let whole : rest ≡ take n rest ++ drop n rest = sym (take-append-drop n rest) in
    let is : IsSection number least (take n rest) = record {
      size = octets-take 1 4 n rest (omega arith) (omega arith) (omega arith) fits ∙ sym len;
      number_is = octets-take 5 5 n rest (omega arith) (omega arith) (omega arith) fits ∙ eqb-true _ _ (not_false _ b.0);
      long = omega arith;
      header = omega arith;
    } in
    subst (λ (y : List ℕ × List ℕ). (rest ≡ y.0 ++ y.1) × IsSection number least y.0) (ok_is (take n rest, drop n rest) x d.1) (whole, is)

pub section_again : (number least : ℕ) (s after : List ℕ) → IsSection number least s → section_at number least (s ++ after) ≡ Ok (s, after)
unfolding section_at
section_again number least s after is =
    let size : octets 1 4 (s ++ after) ≡ length s = octets-append 1 4 s after (omega arith) (omega arith) (omega (arith, is.header)) ∙ is.size in
    let five : octets 5 5 (s ++ after) ≡ number = octets-append 5 5 s after (omega arith) (omega arith) is.header ∙ is.number_is in
    let t1 : ltb (length (s ++ after)) 5 ≡ false = le-ltb _ _ (omega (arith, length-append s after, is.header)) in
    let t2 : eqb number number ≡ true = eq-eqb number number refl in
    let t3 : ltb (length s) least ≡ false = le-ltb _ _ is.long in
    let t4 : ltb (length (s ++ after)) (length s) ≡ false = le-ltb _ _ (omega (arith, length-append s after)) in
    rw (t1, five, t2, size, t3, t4, take_at s after (length s) refl, drop_at s after (length s) refl) refl

and_false : (b : Bool) → (b && false) ≡ false
and_false true = refl
and_false false = refl

both : (a b : Bool) → (a && b) ≡ true → (a ≡ true) × (b ≡ true)
both true true e = (refl, refl)
both true false e = absurd cc
both false b e = absurd cc

local_use_cases : (b : Bool) (rest : List ℕ) (x : Option (List ℕ) × List ℕ) → cond b (section_at 2 5 rest >>= λ s. Ok (Some s.0, s.1)) (Ok (None, rest)) ≡ Ok x → (rest ≡ if_present x.0 ++ x.1) × IfSome x.0 (IsSection 2 5)
local_use_cases true rest x e =
    let s = bind_ok (section_at 2 5 rest) (λ s. Ok (Some s.0, s.1)) x e in
    subst (λ (y : Option (List ℕ) × List ℕ). (rest ≡ if_present y.0 ++ y.1) × IfSome y.0 (IsSection 2 5)) (ok_is (Some s.0.0, s.0.1) x s.2) (section_takes 2 5 rest s.0 (omega arith) s.1)
local_use_cases false rest x e =
    subst (λ (y : Option (List ℕ) × List ℕ). (rest ≡ if_present y.0 ++ y.1) × IfSome y.0 (IsSection 2 5)) (ok_is (None, rest) x e) (refl, tt)

pub local_use_takes : (rest : List ℕ) (x : Option (List ℕ) × List ℕ) → local_use_at rest ≡ Ok x → (rest ≡ if_present x.0 ++ x.1) × IfSome x.0 (IsSection 2 5)
unfolding local_use_at
local_use_takes rest x e = local_use_cases (nat_le 5 (length rest) && (octets 5 5 rest == 2)) rest x e

-- section 2, or its absence before another section
pub local_use_again : (o : Option (List ℕ)) (grid after : List ℕ) → IfSome o (IsSection 2 5) → IsSection 3 14 grid → local_use_at (if_present o ++ (grid ++ after)) ≡ Ok (o, grid ++ after)
unfolding local_use_at
local_use_again None grid after is three =
    let number : octets 5 5 (grid ++ after) ≡ 3 = octets-append 5 5 grid after (omega arith) (omega arith) three.header ∙ three.number_is in
    rw (number, and_false (leb 5 (length (grid ++ after)))) refl
local_use_again (Some s) grid after is three =
    let number : octets 5 5 (s ++ (grid ++ after)) ≡ 2 = octets-append 5 5 s (grid ++ after) (omega arith) (omega arith) is.header ∙ is.number_is in
    let long : leb 5 (length (s ++ (grid ++ after))) ≡ true = le-leb _ _ (omega (arith, is.header, length-append s (grid ++ after))) in
    rw (number, long, section_again 2 5 s (grid ++ after) is) refl

pub indicator_takes : (m : List ℕ) (x : List ℕ × List ℕ) → indicator_at m ≡ Ok x → (m ≡ x.0 ++ x.1) × IsIndicator (length m) x.0
unfolding indicator_at
indicator_takes m x e =
    let a = passed (ltb (length m) 16) _ _ x e in
    let b = passed (not (starts_with nat_eq m grib)) _ _ x a.1 in
    let c = passed (not (eqb (octets 8 8 m) 2)) _ _ x b.1 in
    let d = passed (ltb 134217728 (octets 9 16 m)) _ _ x c.1 in
    let t = passed (not (eqb (octets 9 16 m) (length m))) _ _ x d.1 in
    let long : 16 ≤ length m = ltb-false _ _ a.0 in
    let total : octets 9 16 m ≡ length m = eqb-true _ _ (not_false _ t.0) in
    let below : octets 9 16 m ≤ 134217728 = ltb-false _ _ d.0 in
    let limit : length m ≤ 134217728 = subst (λ (n : ℕ). n ≤ 134217728) total below in
    let is : IsIndicator (length m) (take 16 m) = record {
      size = omega (arith, length-take 16 m);
      mark = starts_with-take 16 m grib (omega arith) long ∙ not_false _ b.0;
      edition = octets-take 8 8 16 m (omega arith) (omega arith) (omega arith) long ∙ eqb-true _ _ (not_false _ c.0);
      total = octets-take 9 16 16 m (omega arith) (omega arith) (omega arith) long ∙ total;
      limit = limit;
    } in
    subst (λ (y : List ℕ × List ℕ). (m ≡ y.0 ++ y.1) × IsIndicator (length m) y.0) (ok_is (take 16 m, drop 16 m) x t.1) (sym (take-append-drop 16 m), is)

pub indicator_again : (s after : List ℕ) → IsIndicator (length (s ++ after)) s → indicator_at (s ++ after) ≡ Ok (s, after)
unfolding indicator_at
indicator_again s after is =
    let size = is.size in
    let t1 : ltb (length (s ++ after)) 16 ≡ false = le-ltb _ _ (omega (arith, length-append s after)) in
    let t2 : starts_with nat_eq (s ++ after) grib ≡ true = starts_with-append s after grib (omega arith) ∙ is.mark in
    let t3 : octets 8 8 (s ++ after) ≡ 2 = octets-append 8 8 s after (omega arith) (omega arith) (omega arith) ∙ is.edition in
    let t4 : octets 9 16 (s ++ after) ≡ length (s ++ after) = octets-append 9 16 s after (omega arith) (omega arith) (omega arith) ∙ is.total in
    let t5 : ltb 134217728 (length (s ++ after)) ≡ false = le-ltb _ _ is.limit in
    let t6 : eqb (length (s ++ after)) (length (s ++ after)) ≡ true = eq-eqb _ _ refl in
    rw (t1, t2, t3, t4, t5, t6, take_at s after 16 size, drop_at s after 16 size) refl

pub same_from_pointwise : (xs ys : List ℕ) → pointwise nat_eq xs ys ≡ true → xs ≡ ys
same_from_pointwise [] [] e = refl
same_from_pointwise [] (y ∷ ys) e = absurd cc
same_from_pointwise (x ∷ xs) [] e = absurd cc
same_from_pointwise (x ∷ xs) (y ∷ ys) e =
    let h = both (eqb x y) (pointwise nat_eq xs ys) e in
    let first : x ≡ y = eqb-true x y h.0 in
    let rest : xs ≡ ys = same_from_pointwise xs ys h.1 in
    cc

end_cases : (b : Bool) (r : Result (Unit {0}) Bad) (x : Unit {0}) → cond b (Ok tt) r ≡ Ok x → (b ≡ true) ⊎ (r ≡ Ok x)
end_cases true r x e = inl refl
end_cases false r x e = inr e

not_refused : (b : Bool) (c d : Bad) (x : Unit {0}) → cond b (Err c) (Err d) ≡ Ok x → ⊥
not_refused true c d x e = absurd cc
not_refused false c d x e = absurd cc

pub end_takes : (at : ℕ) (rest : List ℕ) (x : Unit {0}) → end_at at rest ≡ Ok x → rest ≡ end_section
unfolding end_at
end_takes at rest x e =
    elim (end_cases (starts_with nat_eq rest end_section && (length rest == 4)) (cond (repeats rest) (Err (MultiField (octets 5 5 rest))) (Err (NoEnd at))) x e) [
      | inl ends ↦
          let h = both (starts_with nat_eq rest end_section) (length rest == 4) ends in
          let len : length rest ≡ 4 = eqb-true _ _ h.1 in
          let all : take 4 rest ≡ rest = take_all 4 rest (omega arith) in
          sym (same_from_pointwise end_section (take 4 rest) h.0 ∙ all)
      | inr fails ↦ absurd (not_refused (repeats rest) (MultiField (octets 5 5 rest)) (NoEnd at) x fails)
    ]
