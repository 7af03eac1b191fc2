-- Passes and rounds over all cubes.
use Rattle.std.proofs.Common.{⊎_elim, ◌≡◌, ◌≢◌, ◌<◌, ◌≤◌, ◌+◌, ◌∙◌, ℕ, List, [], ◌∷◌, ◌++◌, length, get_or, take, sym, ap, subst, append_assoc, length-append, arith}
use Rattle.std.specs.Prelude.{Some, cond}
use Rattle.std.specs.Cmp.{ranks}
use Rattle.std.specs.Ordering.{MatchOrdering, is_lt, nat_cmp, ord_max}
use Rattle.std.specs.declared.cmp.Ordering.{Ordering}
use Rattle.std.specs.declared.cmp.Ordering.TheVariants.{Less, Equal, Greater}
use Rattle.std.specs.List.{All}
use Rattle.std.specs.List.Sorted.{IsPermutation}
use Rattle.std.proofs.lemmas.Bool.{cases_eq}
use Rattle.std.proofs.lemmas.List.{append-nil, length-map, take_more}
use Rattle.std.proofs.lemmas.List.Elements.{All-nil, All-pop, All-push}
use Rattle.std.proofs.lemmas.List.Sorted.{IsPermutation-trans, IsPermutation-map, IsPermutation-append_right, IsPermutation-append_comm, All-permutation, length_permutation}
use Rattle.fd_request.specs.Expansion.{expand}
use Rattle.fd_cubes.specs.declared.grid.Grid as code_grid
use Rattle.fd_cubes.specs.Axes.{seen_axis}
use Rattle.fd_cubes.specs.Cubes.{keys_of}
use Rattle.fd_cubes.specs.Grids.{seen_grid, seen_grids, AreApartAt, IsGrid, IsPassing, IsRounding, IsSettled, PassesTo, Puts, RoundsTo, Takes}
use Rattle.fd_cubes.proofs.Distinct.{pairs-permutation}
use Rattle.fd_cubes.proofs.Grids.{popped, regrouped_again, regrouped_itself}
use Rattle.fd_cubes.proofs.Permuted.{same_order, gathered-permutation}
use Rattle.fd_cubes.proofs.Taking.{turned_apart}

-- ---- a pass

pub passing_start : (p : ℕ) (gs done left : List code_grid.Grid) → done ≡ [] → IsPermutation gs left → All IsGrid gs → IsPassing p gs done left
passing_start p gs done left none h each = subst (λ (l : List code_grid.Grid). IsPassing p gs l left) (sym none) (record {
  keys = gathered-permutation expand (seen_grids gs) (seen_grids left) (IsPermutation-map seen_grid gs left h);
  good = All-nil IsGrid;
  others = All-permutation IsGrid gs left h each;
  fewer = omega (arith, length_permutation gs left h);
  settled = λ i j d lt within. absurd (omega (arith, within));
  kept = λ more. h;
})

pub last_is : (left rest : List code_grid.Grid) (g : code_grid.Grid) → left ≡ rest ++ g ∷ [] → All IsGrid left → IsGrid g
last_is left rest g e each = (All-pop IsGrid left rest (Some g) e each).1

moved : (done left rest : List code_grid.Grid) (g : code_grid.Grid) → left ≡ rest ++ g ∷ [] → IsPermutation (done ++ left) ((done ++ g ∷ []) ++ rest)
moved done left rest g e =
    IsPermutation-trans _ _ _ (same_order _ _ (ap (λ (l : List code_grid.Grid). done ++ l) e))
    (IsPermutation-trans _ _ _ (IsPermutation-append_right done (rest ++ g ∷ []) (g ∷ rest) (IsPermutation-append_comm rest (g ∷ []))) (same_order _ _ (sym (append_assoc done (g ∷ []) rest))))

pub passing_more : (p : ℕ) (gs done new left rest : List code_grid.Grid) (g : code_grid.Grid) → left ≡ rest ++ g ∷ [] → IsPassing p gs done left → Puts p done g new → IsPassing p gs new rest
passing_more p gs done new left rest g e h r =
    let long : length left ≡ length rest + 1 = ap (λ (l : List code_grid.Grid). length l) e ∙ length-append rest (g ∷ []) in
    let grows : length new ≤ length done + 1 = omega (arith, r.regroups.fewer, length-append done (g ∷ [])) in
    record {
      keys = popped gs done new left rest g e h.keys r.regroups;
      good = r.regroups.each;
      others = (All-pop IsGrid left rest (Some g) e h.others).0;
      fewer = omega (arith, h.fewer, grows, long);
      settled = r.settled;
      kept = λ more.
          let same : new ≡ done ++ g ∷ [] = r.kept (omega (arith, more, h.fewer, grows, long)) in
          IsPermutation-trans _ _ _ (h.kept (omega (arith, more, grows, long))) (IsPermutation-trans _ _ _ (moved done left rest g e) (same_order _ _ (ap (λ (l : List code_grid.Grid). l ++ rest) (sym same))));
    }

pub passing_end : (p : ℕ) (gs done left : List code_grid.Grid) → length left ≡ 0 → IsPassing p gs done left → PassesTo p gs done
passing_end p gs done [] none h = record {
  regroups = record {
    keys = IsPermutation-trans _ _ _ h.keys (same_order _ _ (append-nil (keys_of (seen_grids done))));
    each = h.good;
    fewer = omega (arith, h.fewer);
  };
  settled = h.settled;
  kept = λ more. subst (λ (l : List code_grid.Grid). IsPermutation gs l) (append-nil done) (h.kept (omega (arith, more)));
}
passing_end p gs done (x ∷ left) none h = absurd (omega (arith, none))

-- ---- a round

pub within_max : (a b m : ℕ) → m ≡ ord_max nat_cmp a b → (a ≤ m) × (b ≤ m)
within_max a b m e = go (nat_cmp b a) (ranks b a) e
  where
    go : (o : Ordering) → MatchOrdering o (b < a) (b ≡ a) (a < b) → m ≡ cond (is_lt o) a b → (a ≤ m) × (b ≤ m)
    go Less h e = (omega (arith, e), omega (arith, e, h))
    go Equal h e = (omega (arith, e, h), omega (arith, e))
    go Greater h e = (omega (arith, e, h), omega (arith, e))

pub names_more : (gs : List code_grid.Grid) (i most more : ℕ) (g : code_grid.Grid) → i < length gs → g ≡ get_or gs i g → most ≤ more → length g.axes.items ≤ more → All (λ x. length x.axes.items ≤ most) (take i gs)
    → All (λ x. length x.axes.items ≤ more) (take (i + 1) gs)
names_more gs i most more g lt is grows here h =
    let p : code_grid.Grid → Type 0 = λ x. length x.axes.items ≤ more in
    let last : p (get_or gs i g) = subst p is here in
    let first : All p (take i gs) = λ k d within. omega (arith, h k d within, grows) in
    subst (λ (l : List code_grid.Grid). All p l) (sym (take_more gs i g lt)) (All-push p (take i gs) (get_or gs i g) first last)

pub rounding_start : (gs : List code_grid.Grid) (most : ℕ) → All IsGrid gs → All (λ g. length g.axes.items ≤ most) gs → IsRounding gs gs most
rounding_start gs most each short = record {
  regroups = regrouped_itself gs each;
  settled = λ more p low i j d lt within. record { one = λ t. past i j d p (omega (arith, lt, within)) low t; other = λ t. past j i d p within low t };
}
  where
    past : (i j : ℕ) (d : code_grid.Grid) (p : ℕ) → i < length gs → most ≤ p → Takes p (get_or gs i d) (get_or gs j d) → ⊥
    past i j d p lt low t = omega (arith, t.within, length-map (get_or gs i d).axes.items seen_axis, short i d lt, low)

pub rounding_more : (gs now new : List code_grid.Grid) (place next : ℕ) → place ≡ next + 1 → IsRounding gs now place → PassesTo next now new → IsRounding gs new next
rounding_more gs now new place next e h r = record {
  regroups = regrouped_again gs now new h.regroups r.regroups;
  settled = λ more i low. ⊎_elim (here i) (later more i low) (cases_eq i next);
}
  where
    here : (i : ℕ) → i ≡ next → IsSettled i new
    here i same = subst (λ n. IsSettled n new) (sym same) r.settled

    later : length gs ≤ length new → (i : ℕ) → next ≤ i → i ≢ next → IsSettled i new
    later more i low other =
        pairs-permutation (AreApartAt i) (turned_apart i) now new (r.kept (omega (arith, more, h.regroups.fewer))) (h.settled (omega (arith, more, r.regroups.fewer)) i (omega (arith, e, low, other)))

pub rounding_end : (gs now : List code_grid.Grid) (place : ℕ) → place ≡ 0 → IsRounding gs now place → RoundsTo gs now
rounding_end gs now place none h = record { regroups = h.regroups; settled = λ more p. h.settled more p (omega (arith, none)) }
