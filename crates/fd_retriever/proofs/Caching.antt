-- What a cache keeps, as what contracts see of it.
use Rattle.std.proofs.Common.{◌≡◌, ◌∙◌, ℕ, true, List, [], ◌∷◌, map, Option, None, Some, IfSome, Result, Ok, Err, OnOk, OnErr, ◌⊎◌, inl, inr, Contains, nat_eq, sym, ap, subst}
use Rattle.std.proofs.lemmas.Bool.{eqb-true}
use Rattle.std.specs.Map.{lookup, remove_entry}
use Rattle.lru.specs.LruCache.{LruCache, lru_cache, put_entries}
use Rattle.lru.proofs.CallerLemmas.{Contains-lookup, Contains-put_entries, Contains-remove_entry}
use Rattle.lru.proofs.Splits.{Contains-cons, Contains-head, Contains-nil, Contains-tail}
use Rattle.fd_segment.specs.Held.{Opened}
use Rattle.fd_retriever.specs.Kept.{Kept}

from_map : {A B : Type 0} (f : A → B) (es : List A) (y : B) → Contains (map f es) y → (e : A) × Contains es e × (f e ≡ y)
from_map f [] y h = absurd (Contains-nil y h)
from_map f (e ∷ es) y h = elim (Contains-cons (f e) (map f es) y h) [
  | inl same ↦ (e, Contains-head e es, same)
  | inr rest ↦ let on = from_map f es y rest in (on.0, Contains-tail e es on.0 on.1, on.2)
]

to_map : {A B : Type 0} (f : A → B) (es : List A) (e : A) → Contains es e → Contains (map f es) (f e)
to_map f [] e h = absurd (Contains-nil e h)
to_map f (x ∷ es) e h = elim (Contains-cons x es e h) [
  | inl same ↦ subst (Contains (f x ∷ map f es)) (ap f same) (Contains-head (f x) (map f es))
  | inr rest ↦ Contains-tail (f x) (map f es) (f e) (to_map f es e rest)
]

abbrev pub kept_of : ℕ × Opened → Kept
kept_of e = record { number = e.0; files = e.1.files }

-- what is taken out was kept under its number
pub taken_out : (es : List (ℕ × Opened)) (number : ℕ) (lens : Opened) → Some lens ≡ lookup (nat_eq number) es → Contains (map kept_of es) (record { number = number; files = lens.files })
taken_out es number lens found =
    let at = Contains-lookup (nat_eq number) es lens (sym found) in
    subst (λ (n : ℕ). Contains (map kept_of es) (record { number = n; files = lens.files })) (sym (eqb-true number at.0 at.2)) (to_map kept_of es (at.0, lens) at.1)

-- the same, where it isn't known whether one was kept
pub taken_maybe : (es : List (ℕ × Opened)) (number : ℕ) (o : Option Opened) → o ≡ lookup (nat_eq number) es → IfSome o (λ l. Contains (map kept_of es) (record { number = number; files = l.files }))
taken_maybe es number None found = tt
taken_maybe es number (Some lens) found = taken_out es number lens found

pub left_kept : (es : List (ℕ × Opened)) (number : ℕ) (k : Kept) → Contains (map kept_of (remove_entry (nat_eq number) es)) k → Contains (map kept_of es) k
left_kept es number k has =
    let at = from_map kept_of (remove_entry (nat_eq number) es) k has in
    subst (Contains (map kept_of es)) at.2 (to_map kept_of es at.0 (Contains-remove_entry (nat_eq number) es at.0 at.1))

put_in : (c : LruCache ℕ Opened) (number : ℕ) (lens : Opened) (k : Kept) → Contains (map kept_of (put_entries nat_eq c number lens)) k → Contains (map kept_of c.entries) k ⊎ (k ≡ record { number = number; files = lens.files })
put_in c number lens k has =
    let at = from_map kept_of (put_entries nat_eq c number lens) k has in
    elim (Contains-put_entries nat_eq c number lens at.0 at.1) [
      | inl was ↦ inl (subst (Contains (map kept_of c.entries)) at.2 (to_map kept_of c.entries at.0 was))
      | inr put ↦ inr (sym at.2 ∙ (λ j. record { number = same put.1 j; files = (put.0 j).files }))
    ]
  where
    same : {m : ℕ} → (m ≡ number) ⊎ ((w : Opened) × Contains c.entries (m, w) × (nat_eq number m ≡ true)) → m ≡ number
    same (inl is) = is
    same {m = m} (inr there) = sym (eqb-true number m there.2)

pub kept_after : {X E : Type 0} (r : Result X E) (old new : LruCache ℕ Opened) (number : ℕ) (lens : Opened) → OnOk r (new ≡ lru_cache (put_entries nat_eq old number lens) old.cap) → OnErr r (new ≡ old)
    → (k : Kept) → Contains (map kept_of new.entries) k → Contains (map kept_of old.entries) k ⊎ (k ≡ record { number = number; files = lens.files })
kept_after (Ok x) old new number lens ok err k has = put_in old number lens k (subst (λ (c : LruCache ℕ Opened). Contains (map kept_of c.entries) k) ok has)
kept_after (Err x) old new number lens ok err k has = inl (subst (λ (c : LruCache ℕ Opened). Contains (map kept_of c.entries) k) err has)

pub cap_after : {X E : Type 0} (r : Result X E) (old new : LruCache ℕ Opened) (number : ℕ) (lens : Opened) → OnOk r (new ≡ lru_cache (put_entries nat_eq old number lens) old.cap) → OnErr r (new ≡ old) → new.cap ≡ old.cap
cap_after (Ok x) old new number lens ok err = ap (λ (c : LruCache ℕ Opened). c.cap) ok
cap_after (Err x) old new number lens ok err = ap (λ (c : LruCache ℕ Opened). c.cap) err
