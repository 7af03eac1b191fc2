-- Different names that stand among others are no more than the different ones of these.
use Rattle.std.proofs.Common.{◌≡◌, ◌⊎◌, ◌∙◌, ◌≤◌, ◌<◌, ◌+◌, ◌||◌, ℕ, Bool, true, false, List, [], ◌∷◌, ◌++◌, length, length-append, refl, sym, ap, subst, inl, inr, arith, if◌then◌else◌}
use Rattle.std.specs.Prelude.{String, string_bytes}
use Rattle.std.specs.declared.alloc.Global.{Global}
use Rattle.std.specs.Str.{bytes_eq}
use Rattle.std.proofs.lemmas.List.{length-map}
use Rattle.std.proofs.lemmas.Slice.Eq.{bytes_eq-Decides}
use Rattle.fd_disk.proofs.NameLemmas.{is_or_not}
use Rattle.fd_spelling.specs.Texts.{texts}
use Rattle.fd_stored.specs.Distinct.{count_distinct, is_among}
use Rattle.fd_telling.specs.declared.stop.Stop.{Stop}
use Rattle.fd_telling.specs.Stops.{OnTooMany}
use Rattle.fd_telling.proofs.StopLemmas.{on_many}
use Rattle.fd_retrieve.specs.Tables.{AreSome, MayNote}
use Rattle.fd_retrieve.proofs.TableLemmas.{among_push, count_more, count_push}

or_true : (b : Bool) → (b || true) ≡ true
or_true true = refl
or_true false = refl

-- the names but this one
abbrev without : List ℕ → List (List ℕ) → List (List ℕ)
without x [] = []
without x (y ∷ ys) = if bytes_eq y x then without x ys else y ∷ without x ys

other_way : (x y : List ℕ) → bytes_eq y x ≡ false → bytes_eq x y ≡ false
other_way x y differs = elim (is_or_not (bytes_eq x y)) [
  | inl same ↦ absurd (cc (differs, (bytes_eq-Decides y x).1 (sym ((bytes_eq-Decides x y).0 same))))
  | inr no_one ↦ no_one
]

-- another name stands among them where it did
among_without : (x n : List ℕ) (ys : List (List ℕ)) → bytes_eq n x ≡ false → is_among (without x ys) n ≡ is_among ys n
among_without x n [] other = refl
among_without x n (y ∷ ys) other = (elim (bytes_eq y x) as (λ b. bytes_eq y x ≡ b → is_among (if b then without x ys else y ∷ without x ys) n ≡ (bytes_eq n y || is_among ys n)) [
  | true ↦ λ same.
      let here : bytes_eq n y ≡ false = ap (bytes_eq n) ((bytes_eq-Decides y x).0 same) ∙ other in
      among_without x n ys other ∙ ap (λ b. b || is_among ys n) (sym here)
  | false ↦ λ differs. ap (λ b. bytes_eq n y || b) (among_without x n ys other)
]) refl

-- one less is different where the name was there
count_without : (x : List ℕ) (ys : List (List ℕ)) → count_distinct (without x ys) + (if is_among ys x then 1 else 0) ≤ count_distinct ys
count_without x [] = omega arith
count_without x (y ∷ ys) = (elim (bytes_eq y x) as (λ b. bytes_eq y x ≡ b → count_distinct (if b then without x ys else y ∷ without x ys) + (if bytes_eq x y || is_among ys x then 1 else 0) ≤ (if is_among ys y then 0 else 1) + count_distinct ys) [
  | true ↦ λ same.
      let e : y ≡ x = (bytes_eq-Decides y x).0 same in
      let back : bytes_eq x y ≡ true = (bytes_eq-Decides x y).1 (sym e) in
      let some = ap {B = ℕ} (λ b. if b || is_among ys x then 1 else 0) back in
      let here = ap (is_among ys) e in
      let rest = count_without x ys in
      elim (is_or_not (is_among ys x)) [
        | inl there ↦
            let one = ap {B = ℕ} (λ b. if b then 1 else 0) there in
            let again = ap {B = ℕ} (λ b. if b then 0 else 1) (here ∙ there) in
            omega (arith, rest, some, one, again)
        | inr away ↦
            let one = ap {B = ℕ} (λ b. if b then 1 else 0) away in
            let again = ap {B = ℕ} (λ b. if b then 0 else 1) (here ∙ away) in
            omega (arith, rest, some, one, again)
      ]
  | false ↦ λ differs.
      let back : bytes_eq x y ≡ false = other_way x y differs in
      let some = ap {B = ℕ} (λ b. if b || is_among ys x then 1 else 0) back in
      let same = ap (λ b. (if b then 0 else 1) + count_distinct (without x ys)) (among_without x y ys differs) in
      let rest = count_without x ys in
      omega (arith, rest, some, same)
]) refl

-- names that all stand among others
pub fewer : (xs ys : List (List ℕ)) → ((n : List ℕ) → is_among xs n ≡ true → is_among ys n ≡ true) → count_distinct xs ≤ count_distinct ys
fewer [] ys within = omega arith
fewer (x ∷ xs) ys within = elim (is_or_not (is_among xs x)) [
  | inl there ↦
      let rest = fewer xs ys (λ n is. within n (ap (λ b. bytes_eq n x || b) is ∙ or_true (bytes_eq n x))) in
      let none = ap (λ b. (if b then 0 else 1) + count_distinct xs) there in
      omega (arith, rest, none)
  | inr new ↦
      let first : bytes_eq x x ≡ true = (bytes_eq-Decides x x).1 refl in
      let here : is_among ys x ≡ true = within x (ap (λ b. b || is_among xs x) first) in
      let rest = fewer xs (without x ys) (others new) in
      let one = ap (λ b. (if b then 0 else 1) + count_distinct xs) new in
      let less = count_without x ys in
      let some = ap {B = ℕ} (λ b. if b then 1 else 0) here in
      omega (arith, rest, one, less, some)
]
  where
    others : is_among xs x ≡ false → (n : List ℕ) → is_among xs n ≡ true → is_among (without x ys) n ≡ true
    others new n is = elim (is_or_not (bytes_eq n x)) [
      | inl same ↦ absurd (cc (new, sym (ap (is_among xs) ((bytes_eq-Decides n x).0 same)) ∙ is))
      | inr differs ↦ among_without x n ys differs ∙ within n (ap (λ b. bytes_eq n x || b) is ∙ or_true (bytes_eq n x))
    ]

-- ---- names that are noted, one dataset after another

pub some_none : AreSome [] []
some_none = record { within = λ n is. is; apart = refl }

among_front : (ds : List (List ℕ)) (d n : List ℕ) → is_among ds n ≡ true → is_among (ds ++ d ∷ []) n ≡ true
among_front ds d n is = among_push ds d n ∙ ap (λ b. b || bytes_eq n d) is

among_last : (ds : List (List ℕ)) (d n : List ℕ) → bytes_eq n d ≡ true → is_among (ds ++ d ∷ []) n ≡ true
among_last ds d n is = among_push ds d n ∙ (ap (λ b. is_among ds n || b) is ∙ or_true (is_among ds n))

pub some_more : (ds names : List (List ℕ)) (d : List ℕ) (after : List (List ℕ)) → AreSome ds names → MayNote names d after → AreSome (ds ++ d ∷ []) after
some_more ds names d after so_far (inr is) = subst (AreSome (ds ++ d ∷ [])) (sym is) (record { within = λ n there. among_front ds d n (so_far.within n there); apart = so_far.apart })
some_more ds names d after so_far (inl (new, is)) = subst (AreSome (ds ++ d ∷ [])) (sym is) (record {
  within = λ n there. elim (is_or_not (is_among names n)) [
    | inl before ↦ among_front ds d n (so_far.within n before)
    | inr none ↦ among_last ds d n (ap (λ b. b || bytes_eq n d) (sym none) ∙ (sym (among_push names d n) ∙ there))
  ];
  apart =
      let push = count_push names d in
      let one = ap (λ b. count_distinct names + (if b then 0 else 1)) new in
      let long = length-append names (d ∷ []) in
      let so = so_far.apart in
      omega (arith, push, one, long, so);
})

too_many_some : (ds rest names : List (List ℕ)) (d : List ℕ) → AreSome ds names → length names ≡ 2048 → is_among names d ≡ false → 2048 < count_distinct ((ds ++ d ∷ []) ++ rest)
too_many_some ds rest names d so_far full new =
    let all = some_more ds names d (names ++ d ∷ []) so_far (inl (new, refl)) in
    let few = fewer (names ++ d ∷ []) (ds ++ d ∷ []) all.within in
    let more = count_more (ds ++ d ∷ []) rest in
    let long = length-append names (d ∷ []) in
    let apart = all.apart in
    omega (arith, few, more, long, apart, full)

-- one dataset too many, of these
pub many_some : {F : Type 0} (stop : Stop F) (ds rest all : List (List ℕ)) (names : List (String Global)) (d : List ℕ) → AreSome ds (texts names) → all ≡ (ds ++ d ∷ []) ++ rest
    → OnTooMany stop ((length names ≡ 2048) × (is_among (texts names) d ≡ false)) → OnTooMany stop (2048 < count_distinct all)
many_some stop ds rest all names d so_far is on = on_many stop _ _ (λ p. subst (λ l. 2048 < count_distinct l) (sym is) (too_many_some ds rest (texts names) d so_far (length-map names string_bytes ∙ p.0) p.1)) on
