-- What several workers listed, in the order of the numbers.
use Rattle.std.proofs.Common.{◌≡◌, ◌==◌, ◌≤◌, ◌<◌, ◌+◌, ℕ, zero, suc, Bool, true, false, if◌then◌else◌, List, [], ◌∷◌, ◌++◌, length, ◌⊎◌, inl, inr, refl, sym, ap, ap₂, subst, ◌∙◌, arith, length-append}
use Rattle.std.proofs.lemmas.List.{length-map}
use mathlib.Core.List.{map-append}
use mathlib.Core.Logic.{dite}
use native.Mathlib.Decide.{ℕ_discrete}
use Rattle.fd_numbers.specs.Numbers.{Differ, IsIn}
use Rattle.fd_shares.specs.Merging.{AllRise, AreMerged, Merged, Rise, joined, lane_at, numbers_in, those}
use Rattle.fd_numbers.proofs.Numbers.{all_of_them}
use Rattle.fd_shares.proofs.Dealing.{equal_is, equal_to}

pub in_left : (xs ys : List ℕ) (z : ℕ) → IsIn xs z → IsIn (xs ++ ys) z
in_left [] ys z i = absurd i
in_left (x ∷ xs) ys z (inl e) = inl e
in_left (x ∷ xs) ys z (inr i) = inr (in_left xs ys z i)

pub in_right : (xs ys : List ℕ) (z : ℕ) → IsIn ys z → IsIn (xs ++ ys) z
in_right [] ys z i = i
in_right (x ∷ xs) ys z i = inr (in_right xs ys z i)

pub in_either : (xs ys : List ℕ) (z : ℕ) → IsIn (xs ++ ys) z → IsIn xs z ⊎ IsIn ys z
in_either [] ys z i = inr i
in_either (x ∷ xs) ys z (inl e) = inl (inl e)
in_either (x ∷ xs) ys z (inr i) = step (in_either xs ys z i)
  where
    step : IsIn xs z ⊎ IsIn ys z → IsIn (x ∷ xs) z ⊎ IsIn ys z
    step (inl p) = inl (inr p)
    step (inr p) = inr p

differ_left : (xs ys : List ℕ) → Differ (xs ++ ys) → Differ xs
differ_left [] ys d = tt
differ_left (x ∷ xs) ys d = ((λ i. d.0 (in_left xs ys x i)), differ_left xs ys d.1)

differ_right : (xs ys : List ℕ) → Differ (xs ++ ys) → Differ ys
differ_right [] ys d = d
differ_right (x ∷ xs) ys d = differ_right xs ys d.1

differ_apart : (xs ys : List ℕ) (z : ℕ) → Differ (xs ++ ys) → IsIn xs z → IsIn ys z → ⊥
differ_apart [] ys z d i j = i
differ_apart (x ∷ xs) ys z d (inl e) j = d.0 (in_right xs ys x (subst (IsIn ys) (sym e) j))
differ_apart (x ∷ xs) ys z d (inr i) j = differ_apart xs ys z d.1 i j

pub differ_both : (xs ys : List ℕ) → Differ xs → Differ ys → ((z : ℕ) → IsIn xs z → IsIn ys z → ⊥) → Differ (xs ++ ys)
differ_both [] ys d e apart = e
differ_both (x ∷ xs) ys d e apart = ((λ i. out (in_either xs ys x i)), differ_both xs ys d.1 e (λ z i j. apart z (inr i) j))
  where
    out : IsIn xs x ⊎ IsIn ys x → ⊥
    out (inl i) = d.0 i
    out (inr j) = apart x (inl refl) j

module _ {A : Type 0} where
  numbers_both : (xs ys : List (ℕ × A)) → numbers_in (xs ++ ys) ≡ numbers_in xs ++ numbers_in ys
  numbers_both xs ys = map-append (λ (r : ℕ × A). r.0) xs ys

  -- the numbers that rise are within
  rise_within : (low high : ℕ) (rs : List (ℕ × A)) (z : ℕ) → Rise low high rs → IsIn (numbers_in rs) z → (low < z) × (z ≤ high)
  rise_within low high [] z r i = absurd i
  rise_within low high (x ∷ rs) z r (inl e) = let lt = r.0 in let le = rise_le x.0 high rs r.1 in (omega arith, omega arith)
    where
      rise_le : (low high : ℕ) (rs : List (ℕ × A)) → Rise low high rs → low ≤ high
      rise_le low high [] r = r
      rise_le low high (x ∷ rs) r = let lt = r.0 in let le = rise_le x.0 high rs r.1 in omega arith
  rise_within low high (x ∷ rs) z r (inr i) = let lt = r.0 in let h = rise_within x.0 high rs z r.1 i in let h' = h.0 in (omega arith, h.1)

  pub rise_differ : (low high : ℕ) (rs : List (ℕ × A)) → Rise low high rs → Differ (numbers_in rs)
  rise_differ low high [] r = tt
  rise_differ low high (x ∷ rs) r = ((λ i. let h = (rise_within x.0 high rs x.0 r.1 i).0 in absurd (omega arith)), rise_differ x.0 high rs r.1)

  all_within : (low high : ℕ) (ls : List (List (ℕ × A))) (z : ℕ) → AllRise low high ls → IsIn (numbers_in (joined ls)) z → (low < z) × (z ≤ high)
  all_within low high [] z r i = absurd i
  all_within low high (l ∷ ls) z r i = go (λ j. all_within low high ls z r.1 j) (in_either (numbers_in l) (numbers_in (joined ls)) z (subst (λ (ns : List ℕ). IsIn ns z) (numbers_both l (joined ls)) i))
    where
      go : (IsIn (numbers_in (joined ls)) z → (low < z) × (z ≤ high)) → IsIn (numbers_in l) z ⊎ IsIn (numbers_in (joined ls)) z → (low < z) × (z ≤ high)
      go rest (inl j) = rise_within low high l z r.0 j
      go rest (inr j) = rest j

  -- where the next number isn't there, they rise above it
  rise_past : (low high : ℕ) (rs : List (ℕ × A)) → suc low ≤ high → Rise low high rs → (IsIn (numbers_in rs) (suc low) → ⊥) → Rise (suc low) high rs
  rise_past low high [] le r none = le
  rise_past low high (x ∷ rs) le r none = dite (ℕ_discrete x.0 (suc low)) (λ e. absurd (none (inl e))) (λ not. let lt = r.0 in (omega (arith, not), r.1))

  all_past : (low high : ℕ) (ls : List (List (ℕ × A))) → suc low ≤ high → AllRise low high ls → (IsIn (numbers_in (joined ls)) (suc low) → ⊥) → AllRise (suc low) high ls
  all_past low high [] le r none = tt
  all_past low high (l ∷ ls) le r none = (
    rise_past low high l le r.0 (λ i. none (subst (λ (ns : List ℕ). IsIn ns (suc low)) (sym (numbers_both l (joined ls))) (in_left (numbers_in l) (numbers_in (joined ls)) (suc low) i))),
    all_past low high ls le r.1 (λ i. none (subst (λ (ns : List ℕ). IsIn ns (suc low)) (sym (numbers_both l (joined ls))) (in_right (numbers_in l) (numbers_in (joined ls)) (suc low) i))),
  )

  -- the worker that listed at the next number, which is its first, and what is left
  record Popped (low high : ℕ) (lanes : List (List (ℕ × A))) : Type 0 where
    worker : ℕ
    head : ℕ × A
    rest : List (List (ℕ × A))
    number : head.0 ≡ suc low
    rise : AllRise (suc low) high rest
    count : length (joined lanes) ≡ suc (length (joined rest))
    differ : Differ (numbers_in (joined rest))
    less : (z : ℕ) → IsIn (numbers_in (joined rest)) z → IsIn (numbers_in (joined lanes)) z
    its : lane_at worker lanes ≡ head ∷ lane_at worker rest
    others : (v : ℕ) → (v ≡ worker → ⊥) → lane_at v lanes ≡ lane_at v rest

  module _ (low high : ℕ) (le : suc low ≤ high) where
    pop_here : (l : List (ℕ × A)) (ls : List (List (ℕ × A))) → AllRise low high (l ∷ ls) → Differ (numbers_in l ++ numbers_in (joined ls)) → IsIn (numbers_in l) (suc low) → Popped low high (l ∷ ls)
    pop_here [] ls r d i = absurd i
    pop_here (x ∷ rs) ls r d i = dite (ℕ_discrete x.0 (suc low)) (λ e. found e) (λ not. absurd (later not i))
      where
        later : (x.0 ≡ suc low → ⊥) → IsIn (numbers_in (x ∷ rs)) (suc low) → ⊥
        later not (inl e) = not e
        later not (inr j) = let lt = r.0.0 in let h = (rise_within x.0 high rs (suc low) r.0.1 j).0 in absurd (omega arith)

        found : x.0 ≡ suc low → Popped low high ((x ∷ rs) ∷ ls)
        found e = record {
          worker = 0;
          head = x;
          rest = rs ∷ ls;
          number = e;
          rise = (subst (λ (n : ℕ). Rise n high rs) e r.0.1, all_past low high ls le r.1 (λ j. differ_apart (numbers_in (x ∷ rs)) (numbers_in (joined ls)) (suc low) d (inl e) j));
          count = refl;
          differ = subst Differ (sym (numbers_both rs (joined ls))) d.1;
          less = λ z j. inr j;
          its = refl;
          others = λ v not. other v not;
        }
          where
            other : (v : ℕ) → (v ≡ 0 → ⊥) → lane_at v ((x ∷ rs) ∷ ls) ≡ lane_at v (rs ∷ ls)
            other zero not = absurd (not refl)
            other (suc v) not = refl

    pop_behind : (l : List (ℕ × A)) (ls : List (List (ℕ × A))) → AllRise low high (l ∷ ls) → Differ (numbers_in l ++ numbers_in (joined ls)) → IsIn (numbers_in (joined ls)) (suc low) → Popped low high ls → Popped low high (l ∷ ls)
    pop_behind l ls r d i p = record {
      worker = suc p.worker;
      head = p.head;
      rest = l ∷ p.rest;
      number = p.number;
      rise = (rise_past low high l le r.0 (λ j. differ_apart (numbers_in l) (numbers_in (joined ls)) (suc low) d j i), p.rise);
      count = (let c = p.count in let a = length-append l (joined ls) in let b = length-append l (joined p.rest) in omega arith);
      differ = subst Differ (sym (numbers_both l (joined p.rest))) (differ_both (numbers_in l) (numbers_in (joined p.rest)) (differ_left (numbers_in l) (numbers_in (joined ls)) d) p.differ (λ z a b. differ_apart (numbers_in l) (numbers_in (joined ls)) z d a (p.less z b)));
      less = λ z j. subst (λ (ns : List ℕ). IsIn ns z) (sym (numbers_both l (joined ls))) (less z (in_either (numbers_in l) (numbers_in (joined p.rest)) z (subst (λ (ns : List ℕ). IsIn ns z) (numbers_both l (joined p.rest)) j)));
      its = p.its;
      others = λ v not. other v not;
    }
      where
        less : (z : ℕ) → IsIn (numbers_in l) z ⊎ IsIn (numbers_in (joined p.rest)) z → IsIn (numbers_in l ++ numbers_in (joined ls)) z
        less z (inl a) = in_left (numbers_in l) (numbers_in (joined ls)) z a
        less z (inr b) = in_right (numbers_in l) (numbers_in (joined ls)) z (p.less z b)

        other : (v : ℕ) → (v ≡ suc p.worker → ⊥) → lane_at v (l ∷ ls) ≡ lane_at v (l ∷ p.rest)
        other zero not = refl
        other (suc v) not = p.others v (λ e. not (ap suc e))

    pop : (lanes : List (List (ℕ × A))) → AllRise low high lanes → Differ (numbers_in (joined lanes)) → IsIn (numbers_in (joined lanes)) (suc low) → Popped low high lanes
    pop [] r d i = absurd i
    pop (l ∷ ls) r d i =
        let d' = subst Differ (numbers_both l (joined ls)) d in
        go d' (λ j. pop ls r.1 (differ_right (numbers_in l) (numbers_in (joined ls)) d') j) (in_either (numbers_in l) (numbers_in (joined ls)) (suc low) (subst (λ (ns : List ℕ). IsIn ns (suc low)) (numbers_both l (joined ls)) i))
      where
        go : Differ (numbers_in l ++ numbers_in (joined ls)) → (IsIn (numbers_in (joined ls)) (suc low) → Popped low high ls) → IsIn (numbers_in l) (suc low) ⊎ IsIn (numbers_in (joined ls)) (suc low) → Popped low high (l ∷ ls)
        go d' rest (inl j) = pop_here l ls r d' j
        go d' rest (inr j) = pop_behind l ls r d' j (rest j)

  nothing_left : (ls : List (List (ℕ × A))) (w : ℕ) → length (joined ls) ≡ 0 → [] ≡ lane_at w ls
  nothing_left [] w e = refl
  nothing_left ([] ∷ ls) zero e = refl
  nothing_left ([] ∷ ls) (suc w) e = nothing_left ls w e
  nothing_left ((x ∷ l) ∷ ls) w e = absurd (omega arith)

  pub are_merged : AreMerged A
  are_merged low zero lanes r d count = record { each = []; numbers = refl; by = λ w. nothing_left lanes w count }
  are_merged low (suc n) lanes r d count =
      let i = all_of_them (numbers_in (joined lanes)) low (suc n) (suc low) (length-map (joined lanes) (λ (r : ℕ × A). r.0) ∙ count) d (λ z j. all_within low (low + suc n) lanes z r j) (omega arith) (omega arith) in
      let p = pop low (low + suc n) (omega arith) lanes r d i in
      let more : suc low + n ≡ low + suc n = omega arith in
      let m = are_merged (suc low) n p.rest (subst (λ (k : ℕ). AllRise (suc low) k p.rest) (sym more) p.rise) p.differ (let c = p.count in omega arith) in
      record {
        each = (p.worker, p.head) ∷ m.each;
        numbers = ap₂ (λ (x : ℕ) (xs : List ℕ). x ∷ xs) p.number m.numbers;
        by = λ w. by p m w (p.worker == w) refl;
      }
    where
      by : (p : Popped low (low + suc n) lanes) (m : Merged (suc low) n p.rest) (w : ℕ) (b : Bool) → (p.worker == w) ≡ b → (if p.worker == w then p.head ∷ those w m.each else those w m.each) ≡ lane_at w lanes
      by p m w true e =
          ap (λ (b : Bool). if b then p.head ∷ those w m.each else those w m.each) e ∙ ap (λ (xs : List (ℕ × A)). p.head ∷ xs) (m.by w)
          ∙ subst (λ (v : ℕ). p.head ∷ lane_at v p.rest ≡ lane_at v lanes) (equal_is p.worker w e) (sym p.its)
      by p m w false e =
          ap (λ (b : Bool). if b then p.head ∷ those w m.each else those w m.each) e ∙ m.by w
          ∙ sym (p.others w (λ s. absurd (cc (e, equal_to p.worker w (sym s)))))
