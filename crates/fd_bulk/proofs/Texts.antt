-- The datasets of the fields that were stored.
use Rattle.std.proofs.Common.{◌≡◌, ◌≢◌, ◌⊎◌, inl, inr, ℕ, ◌+◌, ◌<◌, ◌||◌, ◌&&◌, not, Bool, true, false, if◌then◌else◌, List, [], ◌∷◌, ◌++◌, refl, sym, ap, subst, ◌∙◌, arith}
use Rattle.std.specs.Prelude.{nat_lt}
use Rattle.std.specs.Str.{bytes_eq}
use Rattle.std.proofs.lemmas.Bool.{lt-ltb}
use Rattle.std.proofs.lemmas.List.Folds.{list_any-append}
use Rattle.std.proofs.lemmas.Slice.Eq.{bytes_eq-Decides}
use Rattle.fd_entries.specs.declared.batch.Pair.{Pair}
use Rattle.fd_library.specs.Open.{AreDistinct, among}
use Rattle.fd_stored.specs.Distinct.{count_distinct, is_among}
use Rattle.fd_stored.specs.Archiving.{Stored, datasets_in, is_too_many, pairs_for}

pub true_or_false : (b : Bool) → (b ≡ true) ⊎ (b ≡ false)
true_or_false true = inl refl
true_or_false false = inr refl

pub one_text : (n m : List ℕ) → bytes_eq n m ≡ true → n ≡ m
one_text n m e = (bytes_eq-Decides n m).0 e

pub texts_differ : (n m : List ℕ) → bytes_eq n m ≡ false → n ≢ m
texts_differ n m e is = let t = (bytes_eq-Decides n m).1 is in absurd (cc (t, e))

pub differ_texts : (n m : List ℕ) → n ≢ m → bytes_eq n m ≡ false
differ_texts n m other = elim (true_or_false (bytes_eq n m)) [ inl same ↦ absurd (other (one_text n m same)) | inr e ↦ e ]

pub text_sym : (n m : List ℕ) → bytes_eq n m ≡ bytes_eq m n
text_sym n m = elim (true_or_false (bytes_eq n m)) [
  | inl same ↦ same ∙ sym ((bytes_eq-Decides m n).1 (sym (one_text n m same)))
  | inr differs ↦ differs ∙ sym (differ_texts m n (λ e. texts_differ n m differs (sym e)))
]

or_false : (b : Bool) → (b || false) ≡ b
or_false true = refl
or_false false = refl

pub is_among_push : (ds : List (List ℕ)) (m n : List ℕ) → is_among (ds ++ m ∷ []) n ≡ (is_among ds n || bytes_eq n m)
is_among_push ds m n = list_any-append (bytes_eq n) ds (m ∷ []) ∙ ap (λ (b : Bool). is_among ds n || b) (or_false (bytes_eq n m))

pub among_push : (ns : List (List ℕ)) (m n : List ℕ) → among n (ns ++ m ∷ []) ≡ (among n ns || bytes_eq n m)
among_push [] m n = or_false (bytes_eq n m)
among_push (k ∷ ns) m n = ap (λ (b : Bool). bytes_eq n k || b) (among_push ns m n) ∙ or_assoc (bytes_eq n k) (among n ns) (bytes_eq n m)
  where
    or_assoc : (a b c : Bool) → (a || (b || c)) ≡ ((a || b) || c)
    or_assoc true b c = refl
    or_assoc false b c = refl

abbrev one_if : Bool → ℕ
one_if b = if b then 1 else 0

-- one name more
pub count_push : (ds : List (List ℕ)) (m : List ℕ) → count_distinct (ds ++ m ∷ []) + one_if (is_among ds m) ≡ count_distinct ds + 1
count_push [] m = refl
count_push (n ∷ ns) m = elim (true_or_false (bytes_eq n m)) [
  | inl same ↦
      let e = one_text n m same in
      let a : is_among (ns ++ m ∷ []) n ≡ true = is_among_push ns m n ∙ or_right (is_among ns n) (bytes_eq n m) same in
      let b : is_among (n ∷ ns) m ≡ true = ap (λ (x : Bool). x || is_among ns m) (text_sym m n ∙ same) in
      let c : is_among ns n ≡ is_among ns m = ap (is_among ns) e in
      here (is_among ns m) (is_among (ns ++ m ∷ []) n) (is_among (n ∷ ns) m) (is_among ns n) (count_distinct (ns ++ m ∷ [])) (count_distinct ns) a b c (count_push ns m)
  | inr differs ↦
      let a : is_among (ns ++ m ∷ []) n ≡ is_among ns n = is_among_push ns m n ∙ ap (λ (x : Bool). is_among ns n || x) differs ∙ or_false (is_among ns n) in
      let b : is_among (n ∷ ns) m ≡ is_among ns m = ap (λ (x : Bool). x || is_among ns m) (text_sym m n ∙ differs) in
      there (is_among ns m) (is_among (ns ++ m ∷ []) n) (is_among (n ∷ ns) m) (is_among ns n) (count_distinct (ns ++ m ∷ [])) (count_distinct ns) a b (count_push ns m)
]
  where
    or_right : (a b : Bool) → b ≡ true → (a || b) ≡ true
    or_right true b e = refl
    or_right false b e = e

    here : (x p q r : Bool) (k l : ℕ) → p ≡ true → q ≡ true → r ≡ x → k + one_if x ≡ l + 1 → ((if p then 0 else 1) + k) + one_if q ≡ ((if r then 0 else 1) + l) + 1
    here true true true true k l a b c e = omega (arith, e)
    here true true true false k l a b c e = absurd (cc c)
    here false true true true k l a b c e = absurd (cc c)
    here false true true false k l a b c e = omega (arith, e)
    here x false q r k l a b c e = absurd (cc a)
    here x true false r k l a b c e = absurd (cc b)

    there : (x p q r : Bool) (k l : ℕ) → p ≡ r → q ≡ x → k + one_if x ≡ l + 1 → ((if p then 0 else 1) + k) + one_if q ≡ ((if r then 0 else 1) + l) + 1
    there true true true true k l a b e = omega (arith, e)
    there true false true false k l a b e = omega (arith, e)
    there false true false true k l a b e = omega (arith, e)
    there false false false false k l a b e = omega (arith, e)
    there x true q false k l a b e = absurd (cc a)
    there x false q true k l a b e = absurd (cc a)
    there true p false r k l a b e = absurd (cc b)
    there false p true r k l a b e = absurd (cc b)

pub count_old : (ds : List (List ℕ)) (m : List ℕ) → is_among ds m ≡ true → count_distinct (ds ++ m ∷ []) ≡ count_distinct ds
count_old ds m is = let e = subst (λ (b : Bool). count_distinct (ds ++ m ∷ []) + one_if b ≡ count_distinct ds + 1) is (count_push ds m) in omega (arith, e)

pub count_new : (ds : List (List ℕ)) (m : List ℕ) → is_among ds m ≡ false → count_distinct (ds ++ m ∷ []) ≡ count_distinct ds + 1
count_new ds m is = let e = subst (λ (b : Bool). count_distinct (ds ++ m ∷ []) + one_if b ≡ count_distinct ds + 1) is (count_push ds m) in omega (arith, e)

pub datasets_push : (all : List Stored) (s : Stored) → datasets_in (all ++ s ∷ []) ≡ datasets_in all ++ s.dataset ∷ []
datasets_push [] s = refl
datasets_push (a ∷ all) s = ap (λ (ds : List (List ℕ)). a.dataset ∷ ds) (datasets_push all s)

pub no_pairs_for : (all : List Stored) (n : List ℕ) → is_among (datasets_in all) n ≡ false → pairs_for all n ≡ []
no_pairs_for [] n out = refl
no_pairs_for (a ∷ all) n out = elim (true_or_false (bytes_eq n a.dataset)) [
  | inl same ↦ absurd (cc (sym (ap (λ (b : Bool). b || is_among (datasets_in all) n) same) ∙ out))
  | inr differs ↦
      ap (λ (b : Bool). if b then a.pair ∷ pairs_for all n else pairs_for all n) (text_sym a.dataset n ∙ differs)
      ∙ no_pairs_for all n (sym (ap (λ (b : Bool). b || is_among (datasets_in all) n) differs) ∙ out)
]

pub pairs_push_same : (all : List Stored) (s : Stored) (n : List ℕ) → s.dataset ≡ n → pairs_for (all ++ s ∷ []) n ≡ pairs_for all n ++ s.pair ∷ []
pairs_push_same [] s n is = ap (λ (b : Bool). if b then s.pair ∷ [] else []) ((bytes_eq-Decides s.dataset n).1 is)
pairs_push_same (a ∷ all) s n is = go (bytes_eq a.dataset n) (pairs_push_same all s n is)
  where
    go : (b : Bool) → pairs_for (all ++ s ∷ []) n ≡ pairs_for all n ++ s.pair ∷ [] → (if b then a.pair ∷ pairs_for (all ++ s ∷ []) n else pairs_for (all ++ s ∷ []) n) ≡ (if b then a.pair ∷ pairs_for all n else pairs_for all n) ++ s.pair ∷ []
    go true e = ap (λ (ps : List Pair). a.pair ∷ ps) e
    go false e = e

pub pairs_push_other : (all : List Stored) (s : Stored) (n : List ℕ) → s.dataset ≢ n → pairs_for (all ++ s ∷ []) n ≡ pairs_for all n
pairs_push_other [] s n other = ap (λ (b : Bool). if b then s.pair ∷ [] else []) (differ_texts s.dataset n other)
pairs_push_other (a ∷ all) s n other = ap (λ (ps : List Pair). if bytes_eq a.dataset n then a.pair ∷ ps else ps) (pairs_push_other all s n other)

pub among_apart : (n m : List ℕ) (ns : List (List ℕ)) → among n (ns ++ m ∷ []) ≡ false → (among n ns ≡ false) × (n ≢ m)
among_apart n m ns out = go (among n ns) (true_or_false (bytes_eq n m)) (sym (among_push ns m n) ∙ out) refl
  where
    go : (b : Bool) → (bytes_eq n m ≡ true) ⊎ (bytes_eq n m ≡ false) → (b || bytes_eq n m) ≡ false → among n ns ≡ b → (among n ns ≡ false) × (n ≢ m)
    go true e out is = absurd (cc out)
    go false (inl same) out is = absurd (cc (same, out))
    go false (inr differs) out is = (is, texts_differ n m differs)

pub distinct_push : (ns : List (List ℕ)) (n : List ℕ) → AreDistinct ns → among n ns ≡ false → AreDistinct (ns ++ n ∷ [])
distinct_push [] n d out = (refl, tt)
distinct_push (m ∷ ms) n d out = (
  elim (true_or_false (bytes_eq n m)) as (λ _. among m (ms ++ n ∷ []) ≡ false) [
    | inl same ↦ absurd (cc (sym (ap (λ (b : Bool). b || among n ms) same) ∙ out))
    | inr differs ↦ among_push ms n m ∙ ap (λ (b : Bool). b || bytes_eq m n) d.0 ∙ text_sym m n ∙ differs
  ],
  distinct_push ms n d.1 (elim (true_or_false (bytes_eq n m)) as (λ _. among n ms ≡ false) [
    | inl same ↦ absurd (cc (sym (ap (λ (b : Bool). b || among n ms) same) ∙ out))
    | inr differs ↦ sym (ap (λ (b : Bool). b || among n ms) differs) ∙ out
  ]),
)

-- ---- too many

pub not_too_many_open : (ds : List (List ℕ)) (n : List ℕ) → is_among ds n ≡ true → is_too_many ds n ≡ false
not_too_many_open ds n is = ap (λ (b : Bool). not b && not (nat_lt (count_distinct ds) 2048)) is

pub not_too_many_few : (ds : List (List ℕ)) (n : List ℕ) → count_distinct ds < 2048 → is_too_many ds n ≡ false
not_too_many_few ds n few = ap (λ (b : Bool). not (is_among ds n) && not b) (lt-ltb (count_distinct ds) 2048 few) ∙ and_false (not (is_among ds n))
  where
    and_false : (b : Bool) → (b && false) ≡ false
    and_false true = refl
    and_false false = refl

pub too_many_new : (ds : List (List ℕ)) (n : List ℕ) → is_among ds n ≡ false → count_distinct ds ≡ 2048 → is_too_many ds n ≡ true
too_many_new ds n out full = ap (λ (b : Bool). not b && not (nat_lt (count_distinct ds) 2048)) out ∙ ap (λ (k : ℕ). not (nat_lt k 2048)) full
