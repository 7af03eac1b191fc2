-- The names of a store's datasets: two lists in order with the same names are one.
use Rattle.std.proofs.Common.{◌≡◌, ◌∙◌, ℕ, Bool, true, false, true≢false, ◌||◌, List, [], ◌∷◌, Option, Some, None, IfSome, Ordering, Less, Equal, Greater, refl, sym, ap, subst, bytes_eq, string_bytes, inl, inr}
use Rattle.std.specs.Prelude.{String, is_some}
use Rattle.std.specs.declared.alloc.Global.{Global}
use Rattle.std.specs.List.{AllByRecursion, list_any}
use Rattle.std.specs.List.Sorted.{IsStrictlySortedBy}
use Rattle.std.specs.Ordering.{is_eq, nat_cmp, ordering_reverse}
use Rattle.std.specs.String.{string_cmp}
use Rattle.std.specs.Cmp.Lexicographic.{slice_cmp}
use Rattle.std.proofs.lemmas.Cmp.{nat_list_cmp_total}
use Rattle.std.proofs.lemmas.Slice.Eq.{bytes_eq-Decides}
use Rattle.fd_disk.specs.Folders.{Holdings}
use Rattle.fd_disk.proofs.NameLemmas.{is_or_not}
use Rattle.fd_spelling.specs.Texts.{texts}
use Rattle.fd_stored.specs.Distinct.{is_among}
use Rattle.fd_outcome.specs.Rows.{order}
use Rattle.fd_stored.specs.Store.{AreNames}
use Rattle.fd_inventory.proofs.Upserting.{IsBelow, Rise, eq_is, equal_same, none_among, self}

less_other : (x y : List ℕ) → order x y ≡ Less → bytes_eq x y ≡ false
less_other x y e = eq_is x y ∙ ap is_eq e

flipped : (x y : List ℕ) → order x y ≡ Greater → order y x ≡ Less
flipped x y e = nat_list_cmp_total.antisymm y x ∙ ap ordering_reverse e

below_of : (x : List ℕ) (xs : List (List ℕ)) → AllByRecursion (λ y. slice_cmp nat_cmp x y ≡ Less) xs → IsBelow x xs
below_of x [] a = tt
below_of x (y ∷ ys) a = (a.0, below_of x ys a.1)

rise_of : (xs : List (List ℕ)) → IsStrictlySortedBy (slice_cmp nat_cmp) xs → Rise xs
unfolding IsStrictlySortedBy
rise_of [] s = tt
rise_of (x ∷ xs) s = (below_of x xs s.0, rise_of xs s.1)

below_text : (x : String Global) (xs : List (String Global)) → AllByRecursion (λ y. string_cmp x y ≡ Less) xs → IsBelow (string_bytes x) (texts xs)
below_text x [] a = tt
below_text x (y ∷ ys) a = (a.0, below_text x ys a.1)

rise_texts : (xs : List (String Global)) → IsStrictlySortedBy string_cmp xs → Rise (texts xs)
unfolding IsStrictlySortedBy
rise_texts [] s = tt
rise_texts (x ∷ xs) s = (below_text x xs s.0, rise_texts xs s.1)

here : (x : List ℕ) (xs : List (List ℕ)) → is_among (x ∷ xs) x ≡ true
here x xs = ap (λ b. b || is_among xs x) (self x)

-- a text below all isn't among them
not_below : (x : List ℕ) (xs ys : List (List ℕ)) → IsBelow x ys → is_among (x ∷ xs) x ≡ is_among ys x → ⊥
not_below x xs ys below same = true≢false (sym (here x xs) ∙ same ∙ none_among x ys below)

below_all : (x y : List ℕ) (ys : List (List ℕ)) → order x y ≡ Less → Rise (y ∷ ys) → IsBelow x (y ∷ ys)
below_all x y ys l r = (l, later x y ys l r.0)
  where
    later : (x y : List ℕ) (zs : List (List ℕ)) → order x y ≡ Less → IsBelow y zs → IsBelow x zs
    later x y [] l b = tt
    later x y (z ∷ zs) l b = (nat_list_cmp_total.trans x y z l b.0, later x y zs l b.1)

tail_same : (x : List ℕ) (xs ys : List (List ℕ)) → IsBelow x xs → IsBelow x ys → ((n : List ℕ) → is_among (x ∷ xs) n ≡ is_among (x ∷ ys) n) → (n : List ℕ) → is_among xs n ≡ is_among ys n
tail_same x xs ys a b same n = elim (is_or_not (bytes_eq n x)) as (λ _. is_among xs n ≡ is_among ys n) [
  | inl is ↦ let e : n ≡ x = (bytes_eq-Decides n x).0 is in subst (λ m. is_among xs m ≡ is_among ys m) (sym e) (none_among x xs a ∙ sym (none_among x ys b))
  | inr apart ↦ sym (ap (λ t. t || is_among xs n) apart) ∙ same n ∙ ap (λ t. t || is_among ys n) apart
]

pub rise_same : (xs ys : List (List ℕ)) → Rise xs → Rise ys → ((n : List ℕ) → is_among xs n ≡ is_among ys n) → xs ≡ ys
rise_same [] [] a b same = refl
rise_same [] (y ∷ ys) a b same = absurd (true≢false (sym (here y ys) ∙ sym (same y)))
rise_same (x ∷ xs) [] a b same = absurd (true≢false (sym (here x xs) ∙ same x))
rise_same (x ∷ xs) (y ∷ ys) a b same = by (order x y) refl (rise_same xs ys a.1 b.1)
  where
    by : (o : Ordering) → order x y ≡ o → (((n : List ℕ) → is_among xs n ≡ is_among ys n) → xs ≡ ys) → x ∷ xs ≡ y ∷ ys
    by Less e more = absurd (not_below x xs (y ∷ ys) (below_all x y ys e b) (same x))
    by Equal e more =
        let is = equal_same x y e in
        λ i. is i ∷ more (tail_same x xs ys a.0 (subst (λ z. IsBelow z ys) (sym is) b.0) (subst (λ z. (n : List ℕ) → is_among (x ∷ xs) n ≡ is_among (z ∷ ys) n) (sym is) same)) i
    by Greater e more = absurd (not_below y ys (x ∷ xs) (below_all y x xs (flipped x y e) a) (sym (same y)))

among_texts : (n : List ℕ) (xs : List (String Global)) → is_among (texts xs) n ≡ list_any (λ x. bytes_eq n (string_bytes x)) xs
among_texts n [] = refl
among_texts n (x ∷ xs) = ap (λ b. bytes_eq n (string_bytes x) || b) (among_texts n xs)

-- the names that a store gives are its names
pub names_given : (h : Holdings) (xs : List (String Global)) (out : List ℕ → Bool) (names : List (List ℕ)) → ((n : List ℕ) → out n ≡ false) → IsStrictlySortedBy string_cmp xs
    → ((n : List ℕ) → out n ≡ false → list_any (λ x. bytes_eq n (string_bytes x)) xs ≡ is_some (h.folders n)) → AreNames h names → texts xs ≡ names
names_given h xs out names home sorted each are =
    rise_same (texts xs) names (rise_texts xs sorted) (rise_of names are.sorted) (λ n. among_texts n xs ∙ each n (home n) ∙ sym (are.each n))

-- what holds of the list that a store gives holds of its names
pub of_names : (has : Option Holdings) (xs : List (String Global)) (out : List ℕ → Bool) (P : Holdings → List (List ℕ) → Type 0) → ((n : List ℕ) → out n ≡ false) → IsStrictlySortedBy string_cmp xs
    → IfSome has (λ h. (n : List ℕ) → out n ≡ false → list_any (λ x. bytes_eq n (string_bytes x)) xs ≡ is_some (h.folders n))
    → IfSome has (λ h. P h (texts xs)) → IfSome has (λ h. (names : List (List ℕ)) → AreNames h names → P h names)
of_names None xs out P home sorted each p = tt
of_names (Some h) xs out P home sorted each p = λ names are. subst (P h) (names_given h xs out names home sorted each are) p

pub named_lines : (has : Option Holdings) (Q : Holdings → List (List ℕ) → List ℕ → Type 0) (R : List ℕ → Type 0) → IfSome has (λ h. (names : List (List ℕ)) → AreNames h names → (text : List ℕ) → Q h names text → R text)
    → IfSome has (λ h. (names : List (List ℕ)) (text : List ℕ) → AreNames h names → Q h names text → R text)
named_lines None Q R p = tt
named_lines (Some h) Q R p = λ names text are q. p names are text q
