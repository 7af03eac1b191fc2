-- What stands at texts: a change at one of them, as maps keep it and as lists in order show it.
use Rattle.std.proofs.Common.{◌≡◌, ◌∙◌, ℕ, Bool, true, false, true≢false, ◌||◌, cond, List, [], ◌∷◌, map, Some, Ordering, Less, Equal, Greater, refl, sym, ap, subst, bytes_eq, string_bytes, inl, inr}
use Rattle.std.specs.Prelude.{String}
use Rattle.std.specs.declared.alloc.Global.{Global}
use Rattle.std.specs.List.{AllByRecursion}
use Rattle.std.specs.List.Sorted.{IsStrictlySortedBy}
use Rattle.std.specs.Ordering.{is_eq, match_ordering, ordering_reverse}
use Rattle.std.specs.Cmp.{IsTotalOrder}
use Rattle.std.specs.Cmp.Lexicographic.{on_texts}
use Rattle.std.specs.Map.{lookup, keys_of, remove_entry}
use Rattle.std.specs.BTreeMap.{BTreeMap, insert_entry}
use Rattle.std.proofs.lemmas.Cmp.{nat_list_cmp_total}
use Rattle.std.proofs.lemmas.Map.{NonePasses, lookup-none}
use Rattle.std.proofs.lemmas.Map.Entries.{none_below_head}
use Rattle.std.proofs.lemmas.Map.Keys.{sorted_head, sorted_tail}
use Rattle.std.proofs.lemmas.Map.Text.{is_eq-slice_cmp}
use Rattle.std.proofs.lemmas.Slice.Eq.{bytes_eq-Decides}
use Rattle.fd_disk.proofs.NameLemmas.{is_or_not}
use Rattle.fd_stored.specs.Distinct.{is_among}
use Rattle.fd_outcome.specs.Rows.{order, put, put_by}
use Rattle.fd_inventory.specs.Axes.{At, at_text, entries_or_none, text_order, upsert, upsert_by}

-- ---- texts in order

pub eq_is : (x y : List ℕ) → bytes_eq x y ≡ is_eq (order x y)
eq_is x y = sym (is_eq-slice_cmp x y)

pub self : (x : List ℕ) → bytes_eq x x ≡ true
self x = (bytes_eq-Decides x x).1 refl

pub differs : (x y : List ℕ) → bytes_eq x y ≡ false → ¬ (x ≡ y)
differs x y other e = true≢false (sym ((bytes_eq-Decides x y).1 e) ∙ other)

pub not_same : (x y : List ℕ) → ¬ (x ≡ y) → bytes_eq x y ≡ false
not_same x y other = elim (is_or_not (bytes_eq x y)) as (λ _. bytes_eq x y ≡ false) [ inl is ↦ absurd (other ((bytes_eq-Decides x y).0 is)) | inr is ↦ is ]

pub turned : (x y : List ℕ) → bytes_eq x y ≡ false → bytes_eq y x ≡ false
turned x y other = not_same y x (λ e. differs x y other (sym e))

pub equal_same : (x y : List ℕ) → order x y ≡ Equal → x ≡ y
equal_same x y e = (bytes_eq-Decides x y).0 (eq_is x y ∙ ap is_eq e)

less_other : (x y : List ℕ) → order x y ≡ Less → bytes_eq x y ≡ false
less_other x y e = eq_is x y ∙ ap is_eq e

greater_other : (x y : List ℕ) → order x y ≡ Greater → bytes_eq x y ≡ false
greater_other x y e = eq_is x y ∙ ap is_eq e

flipped : (x y : List ℕ) → order x y ≡ Greater → order y x ≡ Less
flipped x y e = nat_list_cmp_total.antisymm y x ∙ ap ordering_reverse e

-- the text is below each of these
abbrev pub IsBelow : List ℕ → List (List ℕ) → Type 0
IsBelow x [] = Unit {0}
IsBelow x (y ∷ ys) = (order x y ≡ Less) × IsBelow x ys

abbrev pub Rise : List (List ℕ) → Type 0
Rise [] = Unit {0}
Rise (x ∷ xs) = IsBelow x xs × Rise xs

below_later : (x y : List ℕ) (zs : List (List ℕ)) → order x y ≡ Less → IsBelow y zs → IsBelow x zs
below_later x y [] l b = tt
below_later x y (z ∷ zs) l b = (nat_list_cmp_total.trans x y z l b.0, below_later x y zs l b.1)

below_put : (z x : List ℕ) (ys : List (List ℕ)) → order z x ≡ Less → IsBelow z ys → IsBelow z (put order x ys)
below_put z x [] l b = (l, tt)
below_put z x (y ∷ ys) l b = by (order x y) (below_put z x ys l b.1)
  where
    by : (o : Ordering) → IsBelow z (put order x ys) → IsBelow z (put_by o x y ys (put order x ys))
    by Less more = (l, b)
    by Equal more = b
    by Greater more = (b.0, more)

pub rise_put : (x : List ℕ) (ys : List (List ℕ)) → Rise ys → Rise (put order x ys)
rise_put x [] r = (tt, tt)
rise_put x (y ∷ ys) r = by (order x y) refl (rise_put x ys r.1)
  where
    by : (o : Ordering) → order x y ≡ o → Rise (put order x ys) → Rise (put_by o x y ys (put order x ys))
    by Less e more = ((e, below_later x y ys e r.0), r)
    by Equal e more = r
    by Greater e more = (below_put y x ys (flipped x y e) r.0, more)

pub none_among : (x : List ℕ) (ys : List (List ℕ)) → IsBelow x ys → is_among ys x ≡ false
none_among x [] b = refl
none_among x (y ∷ ys) b = ap (λ t. t || is_among ys x) (less_other x y b.0) ∙ none_among x ys b.1

or_both : (a b : Bool) → (a || b) ≡ false → (a ≡ false) × (b ≡ false)
or_both true b h = absurd (true≢false h)
or_both false b h = (refl, h)

-- what isn't among them after a text was put there
pub among_put : (x n : List ℕ) (ys : List (List ℕ)) → is_among (put order x ys) n ≡ false → (bytes_eq n x ≡ false) × (is_among ys n ≡ false)
among_put x n [] h = or_both (bytes_eq n x) false h
among_put x n (y ∷ ys) h = by (order x y) refl h (among_put x n ys)
  where
    by : (o : Ordering) → order x y ≡ o → is_among (put_by o x y ys (put order x ys)) n ≡ false → (is_among (put order x ys) n ≡ false → (bytes_eq n x ≡ false) × (is_among ys n ≡ false))
        → (bytes_eq n x ≡ false) × (is_among (y ∷ ys) n ≡ false)
    by Less e h more = or_both (bytes_eq n x) (is_among (y ∷ ys) n) h
    by Equal e h more = (subst (λ z. bytes_eq n z ≡ false) (sym (equal_same x y e)) (or_both (bytes_eq n y) (is_among ys n) h).0, h)
    by Greater e h more =
        let a = or_both (bytes_eq n y) (is_among (put order x ys) n) h in
        let b = more a.1 in
        (b.0, ap (λ t. t || is_among ys n) a.0 ∙ b.1)

-- ---- a change at a text, as a list of texts with what stands at them

module _ {X : Type 0} (change : X → X) (first : X) (f g : List ℕ → X) (x : List ℕ) (others : (k : List ℕ) → ¬ (k ≡ x) → g k ≡ f k) where
  abbrev pairs : (List ℕ → X) → List (List ℕ) → List (At X)
  pairs h ks = map (λ k. (k, h k)) ks

  later_same : (ys : List (List ℕ)) → IsBelow x ys → pairs f ys ≡ pairs g ys
  later_same [] b = refl
  later_same (y ∷ ys) b = λ i. (y, sym (others y (λ e. differs x y (less_other x y b.0) (sym e))) i) ∷ later_same ys b.1 i

  pub upsert_put : (ys : List (List ℕ)) → Rise ys → (is_among ys x ≡ false → f x ≡ first) → g x ≡ change (f x) → upsert change first x (map (λ k. (k, f k)) ys) ≡ map (λ k. (k, g k)) (put order x ys)
  upsert_put [] r fresh at = λ i. (x, sym (at ∙ ap change (fresh refl)) i) ∷ []
  upsert_put (y ∷ ys) r fresh at = by (order x y) refl (upsert_put ys r.1)
    where
      by : (o : Ordering) → order x y ≡ o → ((is_among ys x ≡ false → f x ≡ first) → g x ≡ change (f x) → upsert change first x (pairs f ys) ≡ pairs g (put order x ys))
          → upsert_by o change first x (y, f y) (pairs f ys) (upsert change first x (pairs f ys)) ≡ pairs g (put_by o x y ys (put order x ys))
      by Less e more =
          let below : IsBelow x (y ∷ ys) = (e, below_later x y ys e r.0) in
          λ i. (x, sym (at ∙ ap change (fresh (none_among x (y ∷ ys) below))) i) ∷ later_same (y ∷ ys) below i
      by Equal e more =
          let same = equal_same x y e in
          λ i. (y, sym (subst (λ z. g z ≡ change (f z)) same at) i) ∷ later_same ys (subst (λ z. IsBelow z ys) (sym same) r.0) i
      by Greater e more =
          let other = greater_other x y e in
          λ i. (y, sym (others y (λ same. differs x y other (sym same))) i) ∷ more (λ none. fresh (ap (λ t. t || is_among ys x) other ∙ none)) at i

-- ---- and as a map keeps it

texts_total : IsTotalOrder text_order
texts_total = on_texts (λ (x : String Global). string_bytes x)

removed_none : {K V : Type 0} (test : K → Bool) (es : List (K × V)) → NonePasses test es → remove_entry test es ≡ es
removed_none test [] none = refl
removed_none test (e ∷ es) none = ap (λ b. cond b es (e ∷ remove_entry test es)) none.0 ∙ ap (λ l. e ∷ l) (removed_none test es none.1)

module _ {V Y : Type 0} (see : List (String Global × V) → Y) (change : Y → Y) (k : String Global) (w : BTreeMap (String Global) V) where
  abbrev Entry : Type 0
  Entry = String Global × BTreeMap (String Global) V

  abbrev shape : Entry → At Y
  shape e = (string_bytes e.0, see e.1.entries)

  abbrev test : String Global → Bool
  test = at_text (string_bytes k)

  -- what was taken out is put back, changed
  pub kept_upsert : (es : List Entry) → IsStrictlySortedBy text_order (keys_of es) → see w.entries ≡ change (see (entries_or_none (lookup test es)))
      → map shape (insert_entry text_order (remove_entry test es) k w) ≡ upsert change (see []) (string_bytes k) (map shape es)
  kept_upsert [] sorted seen = λ i. (string_bytes k, seen i) ∷ []
  kept_upsert (e ∷ es) sorted seen = by (text_order k e.0) refl seen (kept_upsert es (sorted_tail text_order e.0 (keys_of es) sorted))
    where
      put_on : (o : Ordering) (rest : List Entry) → text_order k e.0 ≡ o → map shape (insert_entry text_order (e ∷ rest) k w) ≡ map shape (match_ordering o ((k, w) ∷ e ∷ rest) ((e.0, w) ∷ rest) (e ∷ insert_entry text_order rest k w))
      put_on o rest is = ap (λ p. map shape (match_ordering p ((k, w) ∷ e ∷ rest) ((e.0, w) ∷ rest) (e ∷ insert_entry text_order rest k w))) is

      in_front : (rest : List Entry) → AllByRecursion (λ y. text_order e.0 y ≡ Less) (keys_of rest) → text_order k e.0 ≡ Equal → insert_entry text_order rest k w ≡ (k, w) ∷ rest
      in_front [] above is = refl
      in_front (r ∷ rest) above is = ap (λ p. match_ordering p ((k, w) ∷ r ∷ rest) ((r.0, w) ∷ rest) (r ∷ insert_entry text_order rest k w)) (texts_total.congr k e.0 r.0 is ∙ above.0)

      by : (o : Ordering) → text_order k e.0 ≡ o → see w.entries ≡ change (see (entries_or_none (cond (is_eq o) (Some e.1) (lookup test es))))
          → (see w.entries ≡ change (see (entries_or_none (lookup test es))) → map shape (insert_entry text_order (remove_entry test es) k w) ≡ upsert change (see []) (string_bytes k) (map shape es))
          → map shape (insert_entry text_order (cond (is_eq o) es (e ∷ remove_entry test es)) k w) ≡ upsert_by o change (see []) (string_bytes k) (shape e) (map shape es) (upsert change (see []) (string_bytes k) (map shape es))
      by Less is seen more =
          let none = (none_below_head texts_total k e es sorted is).1 in
          let first : see w.entries ≡ change (see []) = seen ∙ ap (λ o. change (see (entries_or_none o))) (lookup-none test es none) in
          put_on Less (remove_entry test es) is ∙ (λ i. (string_bytes k, first i) ∷ shape e ∷ map shape (removed_none test es none i))
      by Equal is seen more =
          let same = equal_same (string_bytes k) (string_bytes e.0) is in
          ap (map shape) (in_front es (sorted_head text_order e.0 (keys_of es) sorted) is) ∙ (λ i. (same i, seen i) ∷ map shape es)
      by Greater is seen more = put_on Greater (remove_entry test es) is ∙ ap (λ l. shape e ∷ l) (more seen)
