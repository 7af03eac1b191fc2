-- The listed flushes, one after the other.
use Rattle.std.proofs.Common.{◌≡◌, ◌∙◌, ◌≤◌, ◌+◌, ℕ, zero, suc, List, [], ◌∷◌, ◌++◌, length, slice_get, take, Option, Some, None, refl, sym, ap, ap₂, arith, append_assoc, append-nil, map}
use Rattle.std.specs.Prelude.{flat_map, filter_map}
use Rattle.std.specs.List.{cons_option}
use Rattle.std.specs.Option.{option_to_list}
use Rattle.std.proofs.lemmas.List.{length-append, take_all}
use Rattle.std.proofs.lemmas.List.Elements.{filter_map-append}
use Rattle.fd_transcript.specs.History.{Flushed, flushed_from}
use Rattle.fd_transcript.proofs.Pieces.{take_next}

pub flushed_both : (lane : List ℕ) (k : ℕ) (xs ys : List ℕ) → flushed_from lane k (xs ++ ys) ≡ flushed_from lane k xs ++ flushed_from lane (k + length xs) ys
flushed_both lane k [] ys = ap (λ (n : ℕ). flushed_from lane n ys) (let e : k ≡ k + 0 = omega arith in e)
flushed_both lane k (x ∷ xs) ys =
    let e : k + 1 + length xs ≡ k + length (x ∷ xs) = omega arith in
    ap (λ (fs : List Flushed). record { lane = lane; number = k; entry = x } ∷ fs) (flushed_both lane (k + 1) xs ys ∙ ap (λ (n : ℕ). flushed_from lane (k + 1) xs ++ flushed_from lane n ys) e)

cons_one : {B : Type 0} (o : Option B) → cons_option o [] ≡ option_to_list o
cons_one None = refl
cons_one (Some y) = refl

cons_few : {B : Type 0} (o : Option B) (ys : List B) (n : ℕ) → length ys ≤ n → length (cons_option o ys) ≤ suc n
cons_few None ys n few = omega (arith, few)
cons_few (Some y) ys n few = omega (arith, few)

pub listed_both : {A B : Type 0} (h : A → Option B) (xs ys : List A) → filter_map h (xs ++ ys) ≡ filter_map h xs ++ filter_map h ys
listed_both h xs ys = filter_map-append h xs ys

listed_one : {A B : Type 0} (h : A → Option B) (x : A) → filter_map h (x ∷ []) ≡ option_to_list (h x)
listed_one h x = cons_one (h x)

pub listed_next : {A B : Type 0} (h : A → Option B) (xs : List A) (i : ℕ) (x : A) → slice_get xs i ≡ Some x → filter_map h (take (i + 1) xs) ≡ filter_map h (take i xs) ++ option_to_list (h x)
listed_next h xs i x at = ap (filter_map h) (take_next xs i x at) ∙ listed_both h (take i xs) (x ∷ []) ∙ ap (λ ys. filter_map h (take i xs) ++ ys) (listed_one h x)

pub listed_few : {A B : Type 0} (h : A → Option B) (xs : List A) (i : ℕ) → length (filter_map h (take i xs)) ≤ i
listed_few h [] zero = omega arith
listed_few h [] (suc i) = omega arith
listed_few h (x ∷ xs) zero = omega arith
listed_few h (x ∷ xs) (suc i) = cons_few (h x) (filter_map h (take i xs)) i (listed_few h xs i)

-- one flush more of a lane, if it was listed
pub lane_next : {A : Type 0} (h : A → Option ℕ) (lane : List ℕ) (ends : List A) (i : ℕ) (x : A) (count : ℕ) (o : Option ℕ) (first old new : List Flushed) → slice_get ends i ≡ Some x → o ≡ h x
    → old ≡ first ++ flushed_from lane 1 (filter_map h (take i ends)) → count ≡ length (filter_map h (take i ends)) → new ≡ old ++ flushed_from lane (count + 1) (option_to_list o)
    → (new ≡ first ++ flushed_from lane 1 (filter_map h (take (i + 1) ends)))
lane_next h lane ends i x count o first old new at is before number now =
    let e : count + 1 ≡ 1 + length (filter_map h (take i ends)) = omega (arith, number) in
    now ∙ ap₂ (λ (fs : List Flushed) (gs : List Flushed). fs ++ gs) before (ap₂ (λ (n : ℕ) (p : Option ℕ). flushed_from lane n (option_to_list p)) e is)
    ∙ append_assoc first (flushed_from lane 1 (filter_map h (take i ends))) (flushed_from lane (1 + length (filter_map h (take i ends))) (option_to_list (h x)))
    ∙ ap (λ (fs : List Flushed). first ++ fs) (sym (flushed_both lane 1 (filter_map h (take i ends)) (option_to_list (h x))) ∙ ap (flushed_from lane 1) (sym (listed_next h ends i x at)))

pub count_next : {A : Type 0} (h : A → Option ℕ) (ends : List A) (i : ℕ) (x : A) (count next : ℕ) (o : Option ℕ) → slice_get ends i ≡ Some x → o ≡ h x → count ≡ length (filter_map h (take i ends)) → next ≡ count + length (option_to_list o) → next ≡ length (filter_map h (take (i + 1) ends))
count_next h ends i x count next o at is before now =
    let a = ap length (listed_next h ends i x at) in
    let b = length-append (filter_map h (take i ends)) (option_to_list (h x)) in
    let d = ap (λ (p : Option ℕ). length (option_to_list p)) is in
    omega (arith, a, b, d, before, now)

-- ---- the line of the history

pub flat_view : {A B : Type 0} (f : B → List ℕ) (view : A → B) (xs : List A) → flat_map (λ x. f (view x)) xs ≡ flat_map f (map view xs)
flat_view f view [] = refl
flat_view f view (x ∷ xs) = ap (λ (t : List ℕ). f (view x) ++ t) (flat_view f view xs)

-- ---- all lanes

module _ {A : Type 0} (f : A → List Flushed) where
  flushes_both : (xs ys : List A) → flat_map f (xs ++ ys) ≡ flat_map f xs ++ flat_map f ys
  flushes_both [] ys = refl
  flushes_both (x ∷ xs) ys = ap (λ (t : List Flushed). f x ++ t) (flushes_both xs ys) ∙ sym (append_assoc (f x) (flat_map f xs) (flat_map f ys))

  pub lanes_next : (xs : List A) (i : ℕ) (x : A) → slice_get xs i ≡ Some x → (old new : List Flushed) → new ≡ old ++ f x → old ≡ flat_map f (take i xs) → new ≡ flat_map f (take (i + 1) xs)
  lanes_next xs i x at old new is before =
      is ∙ ap (λ (t : List Flushed). t ++ f x) before ∙ ap (λ (t : List Flushed). flat_map f (take i xs) ++ t) (sym (append-nil (f x)))
      ∙ sym (ap (flat_map f) (take_next xs i x at) ∙ flushes_both (take i xs) (x ∷ []))

  pub lanes_all : (xs : List A) (i : ℕ) → length xs ≤ i → flat_map f (take i xs) ≡ flat_map f xs
  lanes_all xs i le = ap (flat_map f) (take_all i xs le)
