-- Which cubes can take the values of which, and where cubes stand.
use Rattle.std.proofs.Common.{⊎_elim, ◌≡◌, ◌≢◌, ◌<◌, ◌≤◌, ◌+◌, ◌-◌, ◌∙◌, ℕ, Bool, true, false, cond, List, [], ◌∷◌, ◌++◌, length, get_or, set, take, refl, sym, ap, subst, bytes_eq, arith}
use Rattle.std.specs.Prelude.{None, Some, String, Vec, slice_get, string_bytes}
use Rattle.std.specs.BTreeMap.{BTreeMap, Updates, UpdatesBy, get_by_text}
use Rattle.std.specs.Cmp.Lexicographic.{slice_cmp}
use Rattle.std.specs.Ordering.{nat_cmp}
use Rattle.std.specs.String.{string_cmp}
use Rattle.std.proofs.lemmas.Map.Text.{btree_map_updates_text}
use Rattle.std.specs.List.{All, Contains}
use Rattle.std.specs.declared.alloc.Global.{Global}
use Rattle.std.proofs.lemmas.Bool.{cases_Bool, cases_eq, cases_lt, cond-true, cond-false}
use Rattle.std.proofs.lemmas.List.{length-set, get_or-set_same, get_or-set_other, get_or_append_left, get_or-append_right, take_more}
use Rattle.std.proofs.lemmas.List.Elements.{All-contains, All-push, Contains-append_left, Contains-push}
use Rattle.std.proofs.lemmas.List.Quantifiers.{all_pairs_push}
use Rattle.std.proofs.lemmas.Option.{slice_get-get_or}
use Rattle.std.proofs.lemmas.Slice.Eq.{bytes_eq-Decides}
use Rattle.std.proofs.Common.{length-append}
use Rattle.fd_request.specs.Expansion.{Keyword}
use Rattle.fd_cubes.specs.declared.grid.Grid as code_grid
use Rattle.fd_cubes.specs.Axes.{code, with_values, values_at}
use Rattle.fd_cubes.specs.Cubes.{keywords_text}
use Rattle.fd_cubes.specs.Grids.{seen_grid, AreApartAt, IsGrid, IsNoting, IsSettled, Joins, NoneTakes, Puts, Takes, items_or_none, noted, rest_of}
use Rattle.fd_cubes.proofs.Distinct.{pairs-set}
use Rattle.fd_cubes.proofs.Grids.{as_long, joined_grid, joined_keys, length_with, pushed, taken}
use Rattle.fd_cubes.proofs.Joined.{other_values, values_again}
use Rattle.fd_cubes.proofs.Ordered.{width_same}
use Rattle.fd_cubes.proofs.Seen.{any_default}
use Rattle.fd_cubes.proofs.Sizes.{some_at, text_changed, width_joined}
use Rattle.std.proofs.lemmas.List.Elements.{recursion_from_All}
use Rattle.fd_cubes.specs.Axes.{IsFilled}

-- ---- which can take which

rest_same : (p : ℕ) (g h n : code_grid.Grid) → Joins p g h n → with_values p [] (seen_grid n) ≡ with_values p [] (seen_grid g)
rest_same p g h n j = ap (with_values p []) j.rest ∙ values_again p [] (values_at p (seen_grid n)) (seen_grid g)

-- what the joined cube can take, it could take before
takes_before : (p : ℕ) (g h n x : code_grid.Grid) → Joins p g h n → Takes p n x → Takes p g x
takes_before p g h n x j t = record {
  within = omega (arith, t.within, ap (λ (l : List Keyword). length l) j.rest, length_with p (values_at p (seen_grid n)) (seen_grid g));
  same = sym (rest_same p g h n j) ∙ t.same;
  room = omega (arith, t.room, j.size);
}

-- what can take it now, could before
taken_before : (p : ℕ) (g h n x : code_grid.Grid) → Joins p g h n → Takes p x n → Takes p x g
taken_before p g h n x j t =
    let us = values_at p (seen_grid g) in
    let vs = values_at p (seen_grid h) in
    record {
      within = t.within;
      same = t.same ∙ rest_same p g h n j;
      room = omega (arith, t.room, width_same (us ++ vs) (values_at p (seen_grid n)) j.values, width_joined us vs);
    }

pub takes_turned : (p : ℕ) (g h : code_grid.Grid) → IsGrid g → IsGrid h → Takes p g h → Takes p h g
takes_turned p g h hg hh t =
    let ks = seen_grid g in
    let ls = seen_grid h in
    let less : p < length ls = omega (arith, as_long p ks ls t.same, t.within) in
    let changed = text_changed p (values_at p ls) ks t.within (some_at p ks t.within (recursion_from_All IsFilled ks hg.filled)) (some_at p ls less (recursion_from_All IsFilled ls hh.filled)) in
    let other : length (keywords_text (with_values p (values_at p ls) ks)) ≡ length (keywords_text ls) = ap (λ (l : List Keyword). length (keywords_text l)) (other_values p ks ls t.same) in
    record {
      within = less;
      same = sym t.same;
      room = omega (arith, t.room, hg.sized, hh.sized, changed, other);
    }

pub turned_apart : (p : ℕ) (g h : code_grid.Grid) → AreApartAt p g h → AreApartAt p h g
turned_apart p g h a = record { one = a.other; other = a.one }

-- ---- where cubes stand

pub noted_removed : (old new : BTreeMap (String Global) (Vec ℕ Global)) (text : List ℕ) → UpdatesBy string_cmp (λ k. slice_cmp nat_cmp text (string_bytes k)) old new None → (t : List ℕ) → noted new t ≡ cond (bytes_eq text t) [] (noted old t)
noted_removed old new text h t = ap items_or_none (btree_map_updates_text text old new None h t) ∙ go (bytes_eq text t)
  where
    go : (b : Bool) → items_or_none (cond b None (get_by_text old t)) ≡ cond b [] (noted old t)
    go true = refl
    go false = refl

pub noted_inserted : (old mid new : BTreeMap (String Global) (Vec ℕ Global)) (k : String Global) (places : Vec ℕ Global) (at : ℕ) → Updates string_cmp mid new k (Some places) → places.items ≡ noted old (string_bytes k) ++ at ∷ []
    → ((t : List ℕ) → noted mid t ≡ cond (bytes_eq (string_bytes k) t) [] (noted old t)) → (t : List ℕ) → noted new t ≡ cond (bytes_eq (string_bytes k) t) (noted old (string_bytes k) ++ at ∷ []) (noted old t)
noted_inserted old mid new k places at h items left t = ap items_or_none (btree_map_updates_text (string_bytes k) mid new (Some places) h t) ∙ go (bytes_eq (string_bytes k) t) (left t)
  where
    go : (b : Bool) → noted mid t ≡ cond b [] (noted old t) → items_or_none (cond b (Some places) (get_by_text mid t)) ≡ cond b (noted old (string_bytes k) ++ at ∷ []) (noted old t)
    go true e = items
    go false e = e

kept_places : (old new : BTreeMap (String Global) (Vec ℕ Global)) (text : List ℕ) (at : ℕ) → ((t : List ℕ) → noted new t ≡ cond (bytes_eq text t) (noted old text ++ at ∷ []) (noted old t)) → (t : List ℕ) (i : ℕ) → Contains (noted old t) i → Contains (noted new t) i
kept_places old new text at notes t i h = ⊎_elim same other (cases_Bool (bytes_eq text t))
  where
    same : bytes_eq text t ≡ true → Contains (noted new t) i
    same y =
        let e : t ≡ text = sym ((bytes_eq-Decides text t).0 y) in
        let all : noted new t ≡ noted old text ++ at ∷ [] = notes t ∙ cond-true (bytes_eq text t) _ _ y in
        subst (λ (l : List ℕ). Contains l i) (sym all) (Contains-append_left (noted old text) (at ∷ []) i (subst (λ (u : List ℕ). Contains (noted old u) i) e h))

    other : bytes_eq text t ≡ false → Contains (noted new t) i
    other n = subst (λ (l : List ℕ). Contains l i) (sym (notes t ∙ cond-false (bytes_eq text t) _ _ n)) h

pub noting_none : (p : ℕ) (alike : BTreeMap (String Global) (Vec ℕ Global)) (gs : List code_grid.Grid) → gs ≡ [] → IsNoting p alike gs
noting_none p alike gs none i d lt = absurd (omega (arith, lt, ap (λ (l : List code_grid.Grid). length l) none))

pub noting_push : (p : ℕ) (old new : BTreeMap (String Global) (Vec ℕ Global)) (gs : List code_grid.Grid) (g : code_grid.Grid) (text : List ℕ) (at : ℕ) → text ≡ rest_of p g → at ≡ length gs
    → ((t : List ℕ) → noted new t ≡ cond (bytes_eq text t) (noted old text ++ at ∷ []) (noted old t)) → IsNoting p old gs → IsNoting p new (gs ++ g ∷ [])
noting_push p old new gs g text at is end notes h i d lt = ⊎_elim inside last (cases_lt i (length gs))
  where
    inside : i < length gs → Contains (noted new (rest_of p (get_or (gs ++ g ∷ []) i d))) i
    inside less =
        subst (λ (x : code_grid.Grid). Contains (noted new (rest_of p x)) i) (sym (get_or_append_left gs (g ∷ []) d i less)) (kept_places old new text at notes (rest_of p (get_or gs i d)) i (h i d less))

    last : length gs ≤ i → Contains (noted new (rest_of p (get_or (gs ++ g ∷ []) i d))) i
    last le =
        let here : i ≡ length gs = omega (arith, le, lt, length-append gs (g ∷ [])) in
        let gap : i - length gs ≡ 0 = omega (arith, here) in
        let x : get_or (gs ++ g ∷ []) i d ≡ g = get_or-append_right gs (g ∷ []) (length gs) i d refl le ∙ ap (λ n. get_or (g ∷ []) n d) gap in
        let all : noted new text ≡ noted old text ++ at ∷ [] = notes text ∙ cond-true (bytes_eq text text) _ _ ((bytes_eq-Decides text text).1 refl) in
        let there : Contains (noted new text) at = subst (λ (l : List ℕ). Contains l at) (sym all) (Contains-push (noted old text) at) in
        let now : Contains (noted new (rest_of p g)) i = subst (λ n. Contains (noted new (rest_of p g)) n) (end ∙ sym here) (subst (λ (t : List ℕ). Contains (noted new t) at) is there) in
        subst (λ (y : code_grid.Grid). Contains (noted new (rest_of p y)) i) (sym x) now

pub noting_set : (p : ℕ) (alike : BTreeMap (String Global) (Vec ℕ Global)) (gs : List code_grid.Grid) (at : ℕ) (b g n : code_grid.Grid) → at < length gs → b ≡ get_or gs at b → Joins p b g n → IsNoting p alike gs → IsNoting p alike (set gs at n)
noting_set p alike gs at b g n lt is j h i d within =
    subst (λ (t : List ℕ). Contains (noted alike t) i) (sym (⊎_elim here there (cases_eq i at))) (h i d (omega (arith, within, length-set gs at n)))
  where
    here : i ≡ at → rest_of p (get_or (set gs at n) i d) ≡ rest_of p (get_or gs i d)
    here e =
        let new : get_or (set gs at n) i d ≡ n = ap (λ k. get_or (set gs at n) k d) e ∙ get_or-set_same gs at n d lt in
        let old : get_or gs i d ≡ b = ap (λ k. get_or gs k d) e ∙ any_default gs at d b lt ∙ sym is in
        ap (rest_of p) new ∙ ap code (rest_same p b g n j) ∙ ap (rest_of p) (sym old)

    there : i ≢ at → rest_of p (get_or (set gs at n) i d) ≡ rest_of p (get_or gs i d)
    there other = ap (rest_of p) (get_or-set_other gs at i n d other)

pub all_more : {X : Type 0} (P : X → Type 0) (xs : List X) (i : ℕ) (d : X) → i < length xs → All P (take i xs) → P (get_or xs i d) → All P (take (i + 1) xs)
all_more {X} P xs i d lt h here = subst (λ (l : List X). All P l) (sym (take_more xs i d lt)) (All-push P (take i xs) (get_or xs i d) h here)

-- where none of those that stand at its text can take it, none can
pub none_takes : (p : ℕ) (alike : BTreeMap (String Global) (Vec ℕ Global)) (gs : List code_grid.Grid) (h : code_grid.Grid) (text places : List ℕ) → text ≡ rest_of p h → places ≡ noted alike text → IsNoting p alike gs
    → All (λ i. (g : code_grid.Grid) → slice_get gs i ≡ Some g → Takes p g h → ⊥) places → NoneTakes p gs h
none_takes p alike gs h text places is e noting none i d lt t =
    let same : rest_of p (get_or gs i d) ≡ text = ap code t.same ∙ sym is in
    let there : Contains places i = subst (λ (l : List ℕ). Contains l i) (sym e) (subst (λ (u : List ℕ). Contains (noted alike u) i) same (noting i d lt)) in
    All-contains (λ (k : ℕ). (g : code_grid.Grid) → slice_get gs k ≡ Some g → Takes p g h → ⊥) places i none there (get_or gs i d) (slice_get-get_or gs i d lt) t

-- what the search for one that takes it found
pub found_takes : (p : ℕ) (gs seen : List code_grid.Grid) (i : ℕ) (b h : code_grid.Grid) → seen ≡ gs → i < length gs → b ≡ get_or gs i b → ((g : code_grid.Grid) → slice_get seen i ≡ Some g → Takes p g h) → Takes p b h
found_takes p gs seen i b h e lt is all = all b (ap (λ (l : List code_grid.Grid). slice_get l i) e ∙ slice_get-get_or gs i b lt ∙ ap Some (sym is))

-- ---- one more cube

pub put_pushed : (p : ℕ) (gs : List code_grid.Grid) (g : code_grid.Grid) → All IsGrid gs → IsGrid g → IsSettled p gs → NoneTakes p gs g → Puts p gs g (gs ++ g ∷ [])
put_pushed p gs g each is settled none = record {
  regroups = pushed gs g each is;
  settled = all_pairs_push (AreApartAt p) gs g settled (λ k d lt. record { one = none k d lt; other = λ t. none k d lt (takes_turned p g (get_or gs k d) is (each k d lt) t) });
  kept = λ more. refl;
}

pub put_joined : (p : ℕ) (gs : List code_grid.Grid) (at : ℕ) (b g n : code_grid.Grid) → at < length gs → b ≡ get_or gs at b → All IsGrid gs → IsGrid g → IsSettled p gs → Takes p b g → Joins p b g n → Puts p gs g (set gs at n)
put_joined p gs at b g n lt is each good settled t j =
    let own : IsGrid b = subst IsGrid (sym is) (each at b lt) in
    record {
      regroups = taken gs at b g n lt is each (joined_grid p b g n own good t j) (joined_keys p b g n t j);
      settled =
          pairs-set (AreApartAt p) gs at n lt
          (λ d x a. let a' : AreApartAt p b x = subst (λ (y : code_grid.Grid). AreApartAt p y x) (same d) a in record { one = λ u. a'.one (takes_before p b g n x j u); other = λ u. a'.other (taken_before p b g n x j u) })
          (λ d x a. let a' : AreApartAt p x b = subst (λ (y : code_grid.Grid). AreApartAt p x y) (same d) a in record { one = λ u. a'.one (taken_before p b g n x j u); other = λ u. a'.other (takes_before p b g n x j u) })
          settled;
      kept = λ more. absurd (omega (arith, more, length-set gs at n));
    }
  where
    same : (d : code_grid.Grid) → get_or gs at d ≡ b
    same d = any_default gs at d b lt ∙ sym is
