-- Only one list of records stands for some puts.
use Rattle.std.proofs.Common.{◌≡◌, ℕ, Bool, true, false, true≢false, cond, List, [], ◌∷◌, bytes_eq, Option, Some, None, is_some, unwrap_or, Ordering, Less, Equal, Greater, refl, sym, ap, ◌∙◌}
use Rattle.std.specs.Ordering.{nat_cmp, ordering_reverse}
use Rattle.std.specs.Cmp.Lexicographic.{slice_cmp}
use Rattle.std.specs.List.Sorted.{IsStrictlySortedBy}
use Rattle.std.proofs.lemmas.Cmp.{nat_list_cmp_total}
use Rattle.std.proofs.lemmas.Map.Lookups.{exact_bytes}
use Rattle.std.proofs.lemmas.Slice.Eq.{bytes_eq-Decides}
use Rattle.fd_index.specs.Records.{OneForItsPuts, Record, Rising, place_of}
use Rattle.fd_index.proofs.Putting.{none_below}

own_key : (r : Record) (rs : List Record) → place_of r.key (r ∷ rs) ≡ Some (r.at, r.len)
own_key r rs = ap (λ b. cond b (Some (r.at, r.len)) (place_of r.key rs)) ((bytes_eq-Decides r.key r.key).1 refl)

none_is_some : (p : ℕ × ℕ) → None ≡ Some p → ⊥
none_is_some p h = true≢false (sym (ap is_some h))

-- the first key is not among the others
no_more : (r : Record) (rs : List Record) → Rising (r ∷ rs) → place_of r.key rs ≡ None
unfolding IsStrictlySortedBy
no_more r [] rising = refl
no_more r (s ∷ rs) rising = none_below r s rs rising.1 rising.0.0

abbrev Agree : List Record → List Record → Type 0
Agree rs ss = (key : List ℕ) → place_of key rs ≡ place_of key ss

not_lower : (r s : Record) (rs ss : List Record) → Rising (s ∷ ss) → Agree (r ∷ rs) (s ∷ ss) → slice_cmp nat_cmp r.key s.key ≡ Less → ⊥
not_lower r s rs ss rising agree less = none_is_some (r.at, r.len) (sym (none_below r s ss rising less) ∙ sym (agree r.key) ∙ own_key r rs)

same_pair : (a b : ℕ × ℕ) → Some a ≡ Some b → a ≡ b
same_pair a b h = ap (λ (o : Option (ℕ × ℕ)). unwrap_or o a) h

same_first : (r s : Record) (rs ss : List Record) → Agree (r ∷ rs) (s ∷ ss) → r.key ≡ s.key → r ≡ s
same_first r s rs ss agree key =
    let places : (r.at, r.len) ≡ (s.at, s.len) = same_pair (r.at, r.len) (s.at, s.len) (sym (own_key r rs) ∙ agree r.key ∙ ap (λ k. place_of k (s ∷ ss)) key ∙ own_key s ss) in
    λ i. record { key = key i; at = ap (λ (p : ℕ × ℕ). p.0) places i; len = ap (λ (p : ℕ × ℕ). p.1) places i }

skips : (key : List ℕ) (r : Record) (rs : List Record) → bytes_eq key r.key ≡ false → place_of key (r ∷ rs) ≡ place_of key rs
skips key r rs h = ap (λ b. cond b (Some (r.at, r.len)) (place_of key rs)) h

others_agree : (r s : Record) (rs ss : List Record) → Rising (r ∷ rs) → Rising (s ∷ ss) → Agree (r ∷ rs) (s ∷ ss) → r.key ≡ s.key → Agree rs ss
others_agree r s rs ss rising_r rising_s agree same key = by (bytes_eq key r.key) refl
  where
    by : (b : Bool) → bytes_eq key r.key ≡ b → place_of key rs ≡ place_of key ss
    by true h =
        let is : key ≡ r.key = (bytes_eq-Decides key r.key).0 h in
        ap (λ k. place_of k rs) is ∙ no_more r rs rising_r ∙ sym (ap (λ k. place_of k ss) (is ∙ same) ∙ no_more s ss rising_s)
    by false h =
        sym (skips key r rs h) ∙ agree key ∙ skips key s ss (sym (ap (bytes_eq key) same) ∙ h)

same_records : (rs ss : List Record) → Rising rs → Rising ss → Agree rs ss → rs ≡ ss
unfolding IsStrictlySortedBy
same_records [] [] rising_r rising_s agree = refl
same_records [] (s ∷ ss) rising_r rising_s agree = absurd (none_is_some (s.at, s.len) (agree s.key ∙ own_key s ss))
same_records (r ∷ rs) [] rising_r rising_s agree = absurd (none_is_some (r.at, r.len) (sym (agree r.key) ∙ own_key r rs))
same_records (r ∷ rs) (s ∷ ss) rising_r rising_s agree = by (slice_cmp nat_cmp r.key s.key) refl (same_records rs ss rising_r.1 rising_s.1)
  where
    by : (o : Ordering) → slice_cmp nat_cmp r.key s.key ≡ o → (Agree rs ss → rs ≡ ss) → r ∷ rs ≡ s ∷ ss
    by Less h others = absurd (not_lower r s rs ss rising_s agree h)
    by Equal h others =
        let key = exact_bytes r.key s.key h in
        λ i. same_first r s rs ss agree key i ∷ others (others_agree r s rs ss rising_r rising_s agree key) i
    by Greater h others = absurd (not_lower s r ss rs rising_r (λ key. sym (agree key)) (nat_list_cmp_total.antisymm s.key r.key ∙ ap ordering_reverse h))

pub one_for_its_puts : OneForItsPuts
one_for_its_puts puts rs ss stands_r stands_s = same_records rs ss stands_r.rising stands_s.rising (λ key. stands_r.newest key ∙ sym (stands_s.newest key))
