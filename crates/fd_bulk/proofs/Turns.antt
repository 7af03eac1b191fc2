-- Lists whose elements become others, one by one.
use Rattle.std.proofs.Common.{◌≡◌, ◌==◌, ◌<◌, ◌≤◌, ◌+◌, ℕ, zero, suc, Bool, true, false, List, [], ◌∷◌, ◌++◌, length, take, drop, get_or, slice_get, slice_set, Some, refl, sym, ap, subst, ◌∙◌, arith, append-nil}
use Rattle.std.proofs.lemmas.List.{length-set}
use Rattle.std.proofs.lemmas.Option.{slice_get_within}
use Rattle.fd_bulk.specs.Halting.{Each}
use Rattle.fd_shares.proofs.Dealing.{equal_is, equal_to}
use Rattle.fd_shares.proofs.Shares.{get_set}

pub get_other : {A : Type 0} (xs : List A) (n i : ℕ) (y : A) → (i ≡ n → ⊥) → slice_get (slice_set xs n y) i ≡ slice_get xs i
get_other [] n i y other = refl
get_other (x ∷ xs) zero zero y other = absurd (other refl)
get_other (x ∷ xs) zero (suc i) y other = refl
get_other (x ∷ xs) (suc n) zero y other = refl
get_other (x ∷ xs) (suc n) (suc i) y other = get_other xs n i y (λ e. other (ap suc e))

module _ {A : Type 0} where
  pub each_begins : (R : ℕ → A → A → Type 0) (xs : List A) → ((i : ℕ) (x : A) → slice_get xs i ≡ Some x → R i x x) → Each R xs xs
  each_begins R xs same = record { long = refl; at = λ i x y a b. let one : x ≡ y = cc (a, b) in subst (R i x) one (same i x a) }

  -- one of them becomes another
  pub each_turns : (R S : ℕ → A → A → Type 0) (xs ys : List A) (w : ℕ) (y z : A) → Each R xs ys → slice_get ys w ≡ Some y → ((i : ℕ) (x v : A) → (i ≡ w → ⊥) → R i x v → S i x v) → ((x : A) → slice_get xs w ≡ Some x → R w x y → S w x z) → Each S xs (slice_set ys w z)
  each_turns R S xs ys w y z e there others one = record { long = length-set ys w z ∙ e.long; at = λ i x v a b. go i x v a b (i == w) refl }
    where
      go : (i : ℕ) (x v : A) → slice_get xs i ≡ Some x → slice_get (slice_set ys w z) i ≡ Some v → (b : Bool) → (i == w) ≡ b → S i x v
      go i x v a b true is =
          let here : i ≡ w = equal_is i w is in
          let now : slice_get (slice_set ys w z) w ≡ Some v = subst (λ (k : ℕ). slice_get (slice_set ys w z) k ≡ Some v) here b in
          let same : z ≡ v = cc (get_set ys w y z there, now) in
          subst (S i x) same (subst (λ (k : ℕ). S k x z) (sym here) (let first = subst (λ (k : ℕ). slice_get xs k ≡ Some x) here a in one x first (e.at w x y first there)))
      go i x v a b false is =
          let other : i ≡ w → ⊥ = λ f. absurd (let t = equal_to i w f in cc (is, t)) in
          others i x v other (e.at i x v a (sym (get_other ys w i z other) ∙ b))

  pub each_map : (R S : ℕ → A → A → Type 0) (xs ys : List A) → Each R xs ys → ((i : ℕ) (x y : A) → slice_get xs i ≡ Some x → slice_get ys i ≡ Some y → R i x y → S i x y) → Each S xs ys
  each_map R S xs ys e f = record { long = e.long; at = λ i x y a b. f i x y a b (e.at i x y a b) }

pub has_at : {A : Type 0} (xs : List A) (n : ℕ) → n < length xs → (x : A) × (slice_get xs n ≡ Some x)
has_at [] n lt = absurd (omega (arith, lt))
has_at (x ∷ xs) zero lt = (x, refl)
has_at (x ∷ xs) (suc n) lt = has_at xs n (omega (arith, lt))

-- ---- the first of them became others, the rest are as they were

abbrev pub Turned : {A : Type 0} → (A → A → Type 0) → ℕ → ℕ → A → A → Type 0
Turned Q w i x y = (i < w → Q x y) × (w ≤ i → y ≡ x)

module _ {A : Type 0} (Q : A → A → Type 0) where
  pub turns_begin : (xs : List A) → Each (Turned Q 0) xs xs
  turns_begin xs = each_begins (Turned Q 0) xs (λ i x at. (λ lt. absurd (omega (arith, lt)), λ le. refl))

  pub turns_on : (xs ys : List A) (w : ℕ) (y z : A) → Each (Turned Q w) xs ys → slice_get ys w ≡ Some y → Q y z → Each (Turned Q (w + 1)) xs (slice_set ys w z)
  turns_on xs ys w y z e there q = each_turns (Turned Q w) (Turned Q (w + 1)) xs ys w y z e there
      (λ i x v other r. (λ lt. r.0 (less i other lt), λ le. r.1 (omega (arith, le))))
      (λ x at r. (λ lt. subst (λ (k : A). Q k z) (r.1 (omega arith)) q, λ le. absurd (omega (arith, le))))
    where
      less : (i : ℕ) → (i ≡ w → ⊥) → i < w + 1 → i < w
      less i other lt = grind arith

  pub turns_end : (xs ys : List A) (n : ℕ) → length xs ≤ n → Each (Turned Q n) xs ys → Each (λ i. Q) xs ys
  turns_end xs ys n le e = record { long = e.long; at = λ i x y a b. (e.at i x y a b).0 (let lt = slice_get_within xs i x a in omega (arith, lt, le)) }

  -- what the next was
  pub turns_next : (xs ys : List A) (w : ℕ) (y : A) → Each (Turned Q w) xs ys → slice_get ys w ≡ Some y → slice_get xs w ≡ Some y
  turns_next xs ys w y e there =
      let lt = slice_get_within ys w y there in
      let long = e.long in
      let x = has_at xs w (omega (arith, lt, long)) in x.1 ∙ ap Some (sym ((e.at w x.0 y x.1 there).1 (omega arith)))

-- a slice of a list that is written whole
pub written : {B : Type 0} (js ks : List B) (n : ℕ) → n ≡ length js → length ks ≡ length js → take n (ks ++ drop (length ks) js) ≡ ks
written {B = B} js ks n is long = ap (λ (m : ℕ). take n (ks ++ drop m js)) long ∙ (ap (λ (xs : List B). take n (ks ++ xs)) (drop_all js) ∙ (ap (take n) (append-nil ks) ∙ (ap (λ (m : ℕ). take m ks) (is ∙ sym long) ∙ take_all ks)))
  where
    drop_all : (xs : List B) → drop (length xs) xs ≡ []
    drop_all [] = refl
    drop_all (x ∷ xs) = drop_all xs

    take_all : (xs : List B) → take (length xs) xs ≡ xs
    take_all [] = refl
    take_all (x ∷ xs) = ap (λ ys. x ∷ ys) (take_all xs)

pub less_next : (i w : ℕ) → (i ≡ w → ⊥) → i < w + 1 → i < w
less_next i w other lt = grind arith

pub get_place : {A : Type 0} (xs : List A) (i : ℕ) (e : A) → i < length xs → slice_get xs i ≡ Some (get_or xs i e)
get_place [] i e lt = absurd (omega (arith, lt))
get_place (x ∷ xs) zero e lt = refl
get_place (x ∷ xs) (suc i) e lt = get_place xs i e (omega (arith, lt))

pub with_both : {A B : Type 0} (P : A → B → Type 0) (a c : A) (b d : B) → c ≡ a → d ≡ b → P a b → P c d
with_both {A = A} {B = B} P a c b d e f p = subst (λ (y : B). P c y) (sym f) (subst (λ (x : A). P x b) (sym e) p)

pub written_twice : {B : Type 0} (js ks ms : List B) (n : ℕ) → n ≡ length js → length ks ≡ length js → length ms ≡ length ks → take n (ms ++ drop (length ms) (take n (ks ++ drop (length ks) js))) ≡ ms
written_twice {B = B} js ks ms n is long more = ap (λ (xs : List B). take n (ms ++ drop (length ms) xs)) (written js ks n is long) ∙ written ks ms n (is ∙ sym long) more

pub no_elements : {B : Type 0} (xs : List B) → length xs ≡ 0 → xs ≡ []
no_elements [] is = refl
no_elements (x ∷ xs) is = absurd (omega (arith, is))
