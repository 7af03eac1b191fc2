-- The records of a builder, and one put more.
use Rattle.std.proofs.Common.{◌≡◌, ℕ, ◌+◌, Bool, true, false, true≢false, not, cond, if◌then◌else◌, List, [], ◌∷◌, ◌++◌, length, bytes_eq, Option, Some, None, is_some, Ordering, Less, Equal, Greater, refl, sym, ap, ◌∙◌, subst, add_comm, add_assoc, add-zero, arith}
use Rattle.std.specs.Ordering.{nat_cmp, is_eq, match_ordering}
use Rattle.std.specs.Cmp.Lexicographic.{slice_cmp}
use Rattle.std.specs.List.{AllByRecursion}
use Rattle.std.specs.List.Sorted.{IsStrictlySortedBy}
use Rattle.std.specs.BTreeMap.{is_at}
use Rattle.std.proofs.lemmas.Cmp.{nat_list_cmp_total, tied_itself}
use Rattle.std.proofs.lemmas.List.{reverse-append}
use Rattle.std.proofs.lemmas.List.Sums.{sum_by-cons}
use Rattle.std.proofs.lemmas.Map.{lookup-none}
use Rattle.std.proofs.lemmas.Map.Entries.{none_below_head}
use Rattle.std.proofs.lemmas.Map.Keys.{sorted_tail}
use Rattle.std.proofs.lemmas.Map.Lookups.{exact_bytes}
use Rattle.std.proofs.lemmas.Map.Text.{is_eq-slice_cmp}
use Rattle.std.proofs.lemmas.Slice.Eq.{bytes_eq-Decides}
use Rattle.fd_index.specs.Records.{Record, Rising, Fits, AllFit, StandsFor, keys, place_of}
use Rattle.fd_index.specs.Held.{key_bytes}
use Rattle.fd_index.specs.Seen.{with_record}
use Rattle.fd_index.proofs.Searching.{pair_of, pairs_of, pairs_rise, place_is}

-- no records stand for no puts
pub no_puts : StandsFor [] []
unfolding IsStrictlySortedBy
no_puts = record { rising = tt; newest = λ key. refl }

same_key : (a b : List ℕ) → bytes_eq a b ≡ true → a ≡ b
same_key a b h = (bytes_eq-Decides a b).0 h

twice : {X : Type 0} (b : Bool) (x y z : X) → cond b x z ≡ cond b x (cond b y z)
twice true x y z = refl
twice false x y z = refl

either : {X : Type 0} (b c : Bool) (x y z : X) → (b ≡ true → c ≡ true → ⊥) → cond c y (cond b x z) ≡ cond b x (cond c y z)
either true true x y z h = absurd (h refl refl)
either true false x y z h = refl
either false true x y z h = refl
either false false x y z h = refl

apart : (q a b : List ℕ) → slice_cmp nat_cmp a b ≡ Greater → bytes_eq q a ≡ true → bytes_eq q b ≡ true → ⊥
apart q a b h ha hb =
    let same : a ≡ b = sym (same_key q a ha) ∙ same_key q b hb in
    let tied : slice_cmp nat_cmp a b ≡ Equal = ap (λ x. slice_cmp nat_cmp a x) (sym same) ∙ tied_itself nat_list_cmp_total a in
    absurd (true≢false (ap is_eq (sym tied ∙ h)))

-- the put's key has its place, and each other key keeps its own
pub place_with : (q : List ℕ) (p : Record) (rs : List Record) → place_of q (with_record p rs) ≡ cond (bytes_eq q p.key) (Some (p.at, p.len)) (place_of q rs)
place_with q p [] = refl
place_with q p (r ∷ rs) = by_order (slice_cmp nat_cmp p.key r.key) refl (place_with q p rs)
  where
    by_order : (o : Ordering) → slice_cmp nat_cmp p.key r.key ≡ o → place_of q (with_record p rs) ≡ cond (bytes_eq q p.key) (Some (p.at, p.len)) (place_of q rs) → place_of q (match_ordering o (p ∷ r ∷ rs) (record { key = r.key; at = p.at; len = p.len } ∷ rs) (r ∷ with_record p rs)) ≡ cond (bytes_eq q p.key) (Some (p.at, p.len)) (place_of q (r ∷ rs))
    by_order Less h others = refl
    by_order Equal h others =
        twice (bytes_eq q r.key) (Some (p.at, p.len)) (Some (r.at, r.len)) (place_of q rs)
        ∙ ap (λ k. cond (bytes_eq q k) (Some (p.at, p.len)) (place_of q (r ∷ rs))) (sym (exact_bytes p.key r.key h))
    by_order Greater h others =
        ap (λ found. cond (bytes_eq q r.key) (Some (r.at, r.len)) found) others
        ∙ either (bytes_eq q p.key) (bytes_eq q r.key) (Some (p.at, p.len)) (Some (r.at, r.len)) (place_of q rs) (apart q p.key r.key h)

pub stands_with : (p : Record) (rs new puts : List Record) → new ≡ with_record p rs → Rising new → StandsFor puts rs → StandsFor (puts ++ p ∷ []) new
stands_with p rs new puts is rising stands = record {
  rising = rising;
  newest = λ q.
      ap (place_of q) is ∙ place_with q p rs ∙ ap (cond (bytes_eq q p.key) (Some (p.at, p.len))) (stands.newest q)
      ∙ sym (ap (place_of q) (reverse-append puts (p ∷ [])));
}

pub fit_with : (p : Record) (rs : List Record) → Fits p → AllFit rs → AllFit (with_record p rs)
fit_with p [] f h = (f, tt)
fit_with p (r ∷ rs) f h = by_order (slice_cmp nat_cmp p.key r.key) (fit_with p rs f h.1)
  where
    by_order : (o : Ordering) → AllFit (with_record p rs) → AllFit (match_ordering o (p ∷ r ∷ rs) (record { key = r.key; at = p.at; len = p.len } ∷ rs) (r ∷ with_record p rs))
    by_order Less others = (f, (h.0, h.1))
    by_order Equal others = (record { key = h.0.key; at = f.at; len = f.len }, h.1)
    by_order Greater others = (h.0, others)

-- the bytes of a key that is new
abbrev pub more_bytes : Bool → Record → ℕ
more_bytes is_new p = if is_new then length p.key else 0

add_bytes : (r : Record) (rs : List Record) → key_bytes (r ∷ rs) ≡ length r.key + key_bytes rs
add_bytes r rs = sum_by-cons (λ (x : Record). length x.key) r rs

same_by : (p r : Record) (o : Ordering) → slice_cmp nat_cmp p.key r.key ≡ o → bytes_eq p.key r.key ≡ is_eq o
same_by p r o h = sym (is_eq-slice_cmp p.key r.key) ∙ ap is_eq h

pub none_below : (p r : Record) (rs : List Record) → Rising (r ∷ rs) → slice_cmp nat_cmp p.key r.key ≡ Less → place_of p.key (r ∷ rs) ≡ None
none_below p r rs rising less =
    place_is p.key (r ∷ rs)
    ∙ lookup-none (is_at (slice_cmp nat_cmp p.key)) (pairs_of (r ∷ rs)) (none_below_head nat_list_cmp_total p.key (pair_of r) (pairs_of rs) (pairs_rise (r ∷ rs) rising) less)

pub bytes_with : (p : Record) (rs : List Record) → Rising rs → key_bytes (with_record p rs) ≡ key_bytes rs + more_bytes (not (is_some (place_of p.key rs))) p
bytes_with p [] rising = add_bytes p [] ∙ omega arith
bytes_with p (r ∷ rs) rising = by_order (slice_cmp nat_cmp p.key r.key) refl (bytes_with p rs (sorted_tail (slice_cmp nat_cmp) r.key (keys rs) rising))
  where
    by_order : (o : Ordering) → slice_cmp nat_cmp p.key r.key ≡ o → key_bytes (with_record p rs) ≡ key_bytes rs + more_bytes (not (is_some (place_of p.key rs))) p
        → key_bytes (match_ordering o (p ∷ r ∷ rs) (record { key = r.key; at = p.at; len = p.len } ∷ rs) (r ∷ with_record p rs)) ≡ key_bytes (r ∷ rs) + more_bytes (not (is_some (place_of p.key (r ∷ rs)))) p
    by_order Less h others =
        add_bytes p (r ∷ rs) ∙ add_comm (length p.key) (key_bytes (r ∷ rs))
        ∙ ap (λ (f : Option (ℕ × ℕ)). key_bytes (r ∷ rs) + more_bytes (not (is_some f)) p) (sym (none_below p r rs rising h))
    by_order Equal h others =
        sym (add-zero (key_bytes (r ∷ rs)))
        ∙ ap (λ b. key_bytes (r ∷ rs) + more_bytes (not (is_some (cond b (Some (r.at, r.len)) (place_of p.key rs)))) p) (sym (same_by p r Equal h))
    by_order Greater h others =
        let more = more_bytes (not (is_some (place_of p.key rs))) p in
        add_bytes r (with_record p rs) ∙ ap (λ n. length r.key + n) others
        ∙ sym (add_assoc (length r.key) (key_bytes rs) more) ∙ ap (λ n. n + more) (sym (add_bytes r rs))
        ∙ ap (λ b. key_bytes (r ∷ rs) + more_bytes (not (is_some (cond b (Some (r.at, r.len)) (place_of p.key rs)))) p) (sym (same_by p r Greater h))
