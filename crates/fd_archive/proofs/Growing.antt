-- What more pairs than those that were stored make of a dataset.
use Rattle.std.proofs.Common.{◌≡◌, ◌≤◌, inl, inr, ℕ, Bool, true, false, List, [], ◌∷◌, ◌++◌, length, Option, refl, sym, ap, subst, arith, length-append, if◌then◌else◌}
use Rattle.std.specs.Prelude.{◌⊎◌}
use Rattle.std.specs.Str.{bytes_eq}
use Rattle.std.proofs.lemmas.List.Elements.{Contains-append_left}
use Rattle.fd_disk.specs.Folders.{Holdings, folder_at}
use Rattle.fd_entries.specs.declared.batch.Pair.{Pair}
use Rattle.fd_stored.specs.Store.{Adds, Grows, GrowsBy, Sorted, table_at}
use Rattle.fd_stored.specs.Archiving.{Stored, pairs_for}
use Rattle.fd_archive.specs.Crashing.{GrowsFirmly, IsAfterCrash, IsUntouched}

if_both : (p : Pair) (xs ys zs : List Pair) → zs ≡ xs ++ ys → (b : Bool) → (if b then p ∷ zs else zs) ≡ (if b then p ∷ xs else xs) ++ ys
if_both p xs ys zs e true = ap (λ (ps : List Pair). p ∷ ps) e
if_both p xs ys zs e false = e

pairs_both : (all more : List Stored) (name : List ℕ) → pairs_for (all ++ more) name ≡ pairs_for all name ++ pairs_for more name
pairs_both [] more name = refl
pairs_both (s ∷ ss) more name = if_both s.pair (pairs_for ss name) (pairs_for more name) (pairs_for (ss ++ more) name) (pairs_both ss more name) (bytes_eq s.dataset name)

no_front : (xs ys : List Pair) → xs ++ ys ≡ [] → xs ≡ []
no_front [] ys e = refl
no_front (x ∷ xs) ys e = absurd (cc e)

adds_more : (workers : ℕ) (pairs more : List Pair) (t : List (List Pair)) (after : Option (List (List Pair))) → Adds workers pairs t after → Adds workers (pairs ++ more) t after
adds_more workers pairs more t after a =
    let few = a.few in
    let longer : length pairs ≤ length (pairs ++ more) = omega (arith, length-append pairs more) in
    record {
      added = a.added;
      after_is = a.after_is;
      only = λ k d lt. λ key bytes is. Contains-append_left pairs more (record { key = key; bytes = bytes }) (a.only k d lt key bytes is);
      few = omega (arith, few, longer);
      none = λ e. a.none (no_front pairs more e);
    }

pub grows_front : (workers : ℕ) (all more : List Stored) (h i : Holdings) → Grows workers (pairs_for all) h i → Grows workers (pairs_for (all ++ more)) h i
grows_front workers all more h i g = record {
  schema = g.schema;
  each = λ name t is. subst (λ (ps : List Pair). Adds workers ps t (table_at i name)) (sym (pairs_both all more name)) (adds_more workers (pairs_for all name) (pairs_for more name) t (table_at i name) (g.each name t is));
}

pub grows_of : (workers : ℕ) (all : List Stored) (h i : Holdings) → GrowsBy workers (pairs_for all) h i → Grows workers (pairs_for all) h i
grows_of workers all h i g = record { schema = g.schema; each = λ name t is. (g.each name t is).adds }

-- ---- after a crash

pub firm_same : (workers : ℕ) (pairs : Sorted) (h : Holdings) → GrowsFirmly workers pairs h h
firm_same workers pairs h = record { each = λ name t is. inl (record { table = refl; files = refl }) }

pub firm_front : (workers : ℕ) (all more : List Stored) (h i : Holdings) → GrowsFirmly workers (pairs_for all) h i → GrowsFirmly workers (pairs_for (all ++ more)) h i
firm_front workers all more h i g = record {
  each = λ name t is. elim (g.each name t is) as (λ _. IsUntouched (folder_at h name) (folder_at i name) ⊎ ((j : Holdings) → IsAfterCrash i j → Adds workers (pairs_for (all ++ more) name) t (table_at j name))) [
    | inl same ↦ inl same
    | inr f ↦ inr (λ j left. subst (λ (ps : List Pair). Adds workers ps t (table_at j name)) (sym (pairs_both all more name)) (adds_more workers (pairs_for all name) (pairs_for more name) t (table_at j name) (f j left)))
  ];
}
