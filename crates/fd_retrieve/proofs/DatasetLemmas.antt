-- Datasets that were opened: by their texts, and by their segments.
use Rattle.std.proofs.Common.{◌≡◌, ◌∙◌, ◌<◌, ◌+◌, ◌||◌, ℕ, zero, suc, Bool, true, false, List, [], ◌∷◌, length, map, drop, get_or, All, Option, Some, None, inl, inr, refl, sym, ap, subst, arith, drop-cons, if◌then◌else◌}
use Rattle.std.specs.Prelude.{◌⊎◌, slice_get, Contains}
use Rattle.std.specs.Str.{bytes_eq}
use Rattle.std.proofs.lemmas.Slice.Eq.{bytes_eq-Decides}
use Rattle.fd_segment.specs.Held.{Standing}
use Rattle.std.specs.Prelude.{option_map}
use Rattle.std.proofs.lemmas.List.Elements.{All-head, All-tail}
use Rattle.fd_disk.proofs.NameLemmas.{is_or_not}
use Rattle.fd_entries.specs.declared.batch.Pair.{Pair}
use Rattle.fd_dataset.specs.Listed.{listing}
use Rattle.fd_recovery.specs.Recovered.{all_of}
use Rattle.fd_retriever.specs.Answers.{Tells}
use Rattle.fd_retrieve.proofs.Staying.{some_is}
use Rattle.fd_stored.specs.Distinct.{is_among}
use Rattle.fd_disk.specs.Folders.{Contents}
use Rattle.fd_segment.specs.Causes.{IsBadIndex, IsFindDamage, IsKeyDamage}
use Rattle.fd_segment.specs.declared.fault.Damage.{Damage}
use Rattle.fd_recovery.specs.Damages.{index_file}
use Rattle.fd_recovery.specs.Recovered.{files_of}
use Rattle.fd_retriever.specs.Answers.{StandsIn}
use Rattle.fd_stored.specs.Causes.{BadFile}
use Rattle.fd_stored.specs.Store.{Stands}
use Rattle.fd_answering.specs.Damages.{IsDamaged}
use Rattle.fd_retrieve.specs.Open.{AreListed, Open, names_of, table_in, table_of}

-- the datasets from one on
pub split : (os : List Open) (i : ℕ) (o : Open) → i < length os → o ≡ get_or os i o → drop i os ≡ o ∷ drop (i + 1) os
split os i o within is = let up : suc i ≡ i + 1 = omega arith in drop-cons os i o within ∙ ap (λ x. x ∷ drop (suc i) os) (sym is) ∙ ap (λ k. o ∷ drop k os) up

pub at_get : {A : Type 0} (xs : List A) (i : ℕ) (x : A) → i < length xs → x ≡ get_or xs i x → slice_get xs i ≡ Some x
at_get [] i x lt is = absurd (omega (arith, lt))
at_get (y ∷ ys) zero x lt is = ap (λ z. Some z) (sym is)
at_get (y ∷ ys) (suc i) x lt is = at_get ys i x (omega (arith, lt)) is

-- ---- what is found in a dataset

pub closed_table : (os : List Open) (d : List ℕ) → is_among (names_of os) d ≡ false → table_in os d ≡ Some []
closed_table [] d out = refl
closed_table (o ∷ os) d out = elim (is_or_not (bytes_eq d o.name)) [
  | inl same ↦ absurd (cc (sym (ap (λ b. b || is_among (names_of os) d) same) ∙ out))
  | inr differs ↦ ap (λ b. if b then table_of o else table_in os d) differs ∙ closed_table os d (sym (ap (λ b. b || is_among (names_of os) d) differs) ∙ out)
]

pub get_within : {A : Type 0} (xs : List A) (i : ℕ) (x : A) → slice_get xs i ≡ Some x → i < length xs
get_within [] i x is = absurd cc
get_within (y ∷ ys) zero x is = omega arith
get_within (y ∷ ys) (suc i) x is = let later = get_within ys i x is in omega (arith, later)

pub same_get : {A : Type 0} (xs : List A) (i : ℕ) (x d : A) → slice_get xs i ≡ Some x → d ≡ get_or xs i d → x ≡ d
same_get xs i x d at is = some_is x d (sym at ∙ at_get xs i d (get_within xs i x at) is)

all_told : (bs : List (Option (List Pair))) (t : List (List Pair)) → all_of bs ≡ Some t → bs ≡ map (λ b. Some b) t
all_told [] t e = ap (map (λ b. Some b)) (some_is [] t e)
all_told (None ∷ bs) t e = absurd cc
all_told (Some b ∷ bs) t e = go (all_of bs) (λ more is. all_told bs more is) e
  where
    go : (o : Option (List (List Pair))) → ((more : List (List Pair)) → o ≡ Some more → bs ≡ map (λ b. Some b) more) → option_map (λ more. b ∷ more) o ≡ Some t → Some b ∷ bs ≡ map (λ b. Some b) t
    go None rest e = absurd cc
    go (Some more) rest e = ap (λ l. Some b ∷ l) (rest more refl) ∙ ap (map (λ b. Some b)) (some_is (b ∷ more) t e)

pub tells_of : (os : List Open) (d : List ℕ) (o : Open) (t : List (List Pair)) → table_in os d ≡ table_of o → table_in os d ≡ Some t → Tells (map listing o.shown) t
tells_of os d o t is told = all_told (map (λ l. l.batch) (map listing o.shown)) t (sym is ∙ told)

-- ---- among lists

pub contains_mapped : {A B : Type 0} (f : A → B) (xs : List A) (x : A) → Contains xs x → Contains (map f xs) (f x)
contains_mapped f [] x (k, lt, e) = absurd (omega (arith, lt))
contains_mapped f (y ∷ ys) x (zero, lt, e) = (0, omega arith, ap f e)
contains_mapped f (y ∷ ys) x (suc k, lt, e) = let later = contains_mapped f ys x (k, omega (arith, lt), e) in (suc later.0, (let l = later.1 in omega (arith, l)), later.2)

-- a value of a mapped list is that of an element
pub contains_of : {A B : Type 0} (f : A → B) (xs : List A) (y : B) → Contains (map f xs) y → (x : A) × Contains xs x × (f x ≡ y)
contains_of f [] y (k, lt, e) = absurd (omega (arith, lt))
contains_of f (x ∷ xs) y (zero, lt, e) = (x, (0, omega arith, refl), e)
contains_of f (x ∷ xs) y (suc k, lt, e) = let later = contains_of f xs y (k, omega (arith, lt), e) in (later.0, (suc later.1.0, (let l = later.1.1 in omega (arith, l)), later.1.2), later.2)

pub among_named : (os : List Open) (i : ℕ) (o : Open) → slice_get os i ≡ Some o → is_among (names_of os) o.name ≡ true
among_named [] i o at = absurd cc
among_named (x ∷ xs) zero o at = ap (λ b. b || is_among (names_of xs) o.name) ((bytes_eq-Decides o.name x.name).1 (ap (λ (q : Open). q.name) (sym (some_is x o at))))
among_named (x ∷ xs) (suc i) o at = let later = among_named xs i o at in or_true (bytes_eq o.name x.name) (is_among (names_of xs) o.name) later
  where
    or_true : (a b : Bool) → b ≡ true → (a || b) ≡ true
    or_true true b e = refl
    or_true false b e = e

pub all_at : (P : Open → Type 0) (xs : List Open) (i : ℕ) (x : Open) → All P xs → slice_get xs i ≡ Some x → P x
all_at P [] i x all at = absurd cc
all_at P (y ∷ ys) zero x all at = subst P (some_is y x at) (All-head P y ys all)
all_at P (y ∷ ys) (suc i) x all at = all_at P ys i x (All-tail P y ys all) at

-- a damage that a look meets in an open dataset stands in its folder
pub damage_stands : (v : Contents) (o : Open) (key : List ℕ) (d : Damage) → AreListed v o → IsDamaged o.shown key d → Stands o.name v (BadFile d)
damage_stands v o key d l (s, there, stands) =
    let has = contains_mapped (λ (x : Standing). x.files) o.shown s there in
    let e = contains_of (files_of v.files) l.entries s.files (subst (λ fs. Contains fs s.files) l.files has) in
    let moved : StandsIn (files_of v.files e.0) key d = subst (λ f. StandsIn f key d) (sym e.2) stands in
    (l.table, l.entries, l.table_is, l.lists, inr (e.0, e.1, elim moved as (λ _. IsBadIndex e.0 (v.files (index_file e.0)) d ⊎ ((k : List ℕ) × (IsFindDamage e.0 (v.files (index_file e.0)) k d ⊎ IsKeyDamage (files_of v.files e.0) k d))) [ inl bad ↦ inl bad | inr met ↦ inr (key, met) ]))
