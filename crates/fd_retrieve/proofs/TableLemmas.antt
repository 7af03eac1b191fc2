-- The names of the datasets that have a table, one dataset after another.
use Rattle.std.proofs.Common.{◌≡◌, ◌⊎◌, ◌∙◌, ◌≤◌, ◌<◌, ◌+◌, ◌||◌, ℕ, Bool, true, false, List, [], ◌∷◌, ◌++◌, length, filter, refl, sym, ap, subst, inl, inr, arith, append_assoc, append-nil, if◌then◌else◌}
use Rattle.std.specs.Str.{bytes_eq}
use Rattle.std.proofs.lemmas.Slice.Eq.{bytes_eq-Decides}
use Rattle.std.proofs.lemmas.List.{length-append}
use Rattle.std.proofs.lemmas.List.Folds.{list_any-append}
use Rattle.std.proofs.lemmas.List.Elements.{filter-append}
use Rattle.fd_disk.specs.Folders.{Holdings}
use Rattle.fd_disk.proofs.NameLemmas.{is_or_not}
use Rattle.fd_stored.specs.Distinct.{count_distinct, is_among}
use Rattle.fd_stored.specs.Store.{has_table}
use Rattle.fd_retrieve.specs.Tables.{AreTables, MayAdd}

or_false : (b : Bool) → (b || false) ≡ b
or_false true = refl
or_false false = refl

pub among_push : (xs : List (List ℕ)) (x n : List ℕ) → is_among (xs ++ x ∷ []) n ≡ (is_among xs n || bytes_eq n x)
among_push xs x n = list_any-append (λ m. bytes_eq n m) xs (x ∷ []) ∙ ap (λ b. is_among xs n || b) (or_false (bytes_eq n x))

one_more : Bool → ℕ
one_more b = if b then 0 else 1

pub count_push : (xs : List (List ℕ)) (x : List ℕ) → count_distinct (xs ++ x ∷ []) ≡ count_distinct xs + (if is_among xs x then 0 else 1)
count_push [] x = refl
count_push (n ∷ ns) x = (elim (bytes_eq n x) as (λ b. bytes_eq n x ≡ b → count_distinct (n ∷ ns ++ x ∷ []) ≡ count_distinct (n ∷ ns) + (if is_among (n ∷ ns) x then 0 else 1)) [
  | true ↦ λ same.
      let e : n ≡ x = (bytes_eq-Decides n x).0 same in
      let back : bytes_eq x n ≡ true = (bytes_eq-Decides x n).1 (sym e) in
      let later = count_push ns x in
      let first : is_among (ns ++ x ∷ []) n ≡ true = among_push ns x n ∙ ap (λ b. is_among ns n || b) same ∙ or_true (is_among ns n) in
      let last : is_among (n ∷ ns) x ≡ true = ap (λ b. b || is_among ns x) back in
      let mid : is_among ns n ≡ is_among ns x = ap (is_among ns) e in
      let sum = ap (λ b. (if b then 0 else 1) + count_distinct (ns ++ x ∷ [])) first in
      let more = later_is later (is_among ns n) (is_among ns x) mid refl in
      let end = ap (λ b. count_distinct (n ∷ ns) + (if b then 0 else 1)) last in
      omega (arith, sum, more, end)
  | false ↦ λ differs.
      let back : bytes_eq x n ≡ false = not_back differs in
      let later = count_push ns x in
      let first : is_among (ns ++ x ∷ []) n ≡ is_among ns n = among_push ns x n ∙ ap (λ b. is_among ns n || b) differs ∙ or_false (is_among ns n) in
      let last : is_among (n ∷ ns) x ≡ is_among ns x = ap (λ b. b || is_among ns x) back in
      let sum = ap (λ b. (if b then 0 else 1) + count_distinct (ns ++ x ∷ [])) first in
      let end = ap (λ b. count_distinct (n ∷ ns) + (if b then 0 else 1)) last in
      omega (arith, sum, end, later)
]) refl
  where
    or_true : (b : Bool) → (b || true) ≡ true
    or_true true = refl
    or_true false = refl

    not_back : bytes_eq n x ≡ false → bytes_eq x n ≡ false
    not_back differs = elim (is_or_not (bytes_eq x n)) [
      | inl same ↦ absurd (cc (differs, (bytes_eq-Decides n x).1 (sym ((bytes_eq-Decides x n).0 same))))
      | inr no_one ↦ no_one
    ]

    later_is : count_distinct (ns ++ x ∷ []) ≡ count_distinct ns + (if is_among ns x then 0 else 1) → (a b : Bool) → a ≡ b → is_among ns x ≡ b → count_distinct (ns ++ x ∷ []) ≡ (if a then 0 else 1) + count_distinct ns + 0
    later_is later true b e f = let g = ap (λ c. count_distinct ns + (if c then 0 else 1)) (f ∙ sym e) in omega (arith, later, g)
    later_is later false b e f = let g = ap (λ c. count_distinct ns + (if c then 0 else 1)) (f ∙ sym e) in omega (arith, later, g)

pub count_more : (xs ys : List (List ℕ)) → count_distinct xs ≤ count_distinct (xs ++ ys)
count_more xs [] = let e = ap count_distinct (append-nil xs) in omega (arith, e)
count_more xs (y ∷ ys) =
    let e = ap count_distinct (append_assoc xs (y ∷ []) ys) in
    let more = count_more (xs ++ y ∷ []) ys in
    let push = count_push xs y in
    omega (arith, e, more, push)

filter_push : (p : List ℕ → Bool) (xs : List (List ℕ)) (x : List ℕ) → filter p (xs ++ x ∷ []) ≡ filter p xs ++ (if p x then x ∷ [] else [])
filter_push p xs x = filter-append p xs (x ∷ []) ∙ ap (λ l. filter p xs ++ l) (one (p x))
  where
    one : (b : Bool) → (if b then x ∷ [] else []) ≡ (if b then x ∷ [] else [])
    one b = refl

module _ (h : Holdings) where
  abbrev found : List (List ℕ) → List (List ℕ)
  found ds = filter (has_table h) ds

  pub tables_none : AreTables h [] []
  tables_none = record { same = λ n. refl; count = refl }

  kept_out : (ds : List (List ℕ)) (d : List ℕ) → has_table h d ≡ false → found (ds ++ d ∷ []) ≡ found ds
  kept_out ds d no_table = filter_push (has_table h) ds d ∙ ap (λ b. found ds ++ (if b then d ∷ [] else [])) no_table ∙ append-nil (found ds)

  put_in : (ds : List (List ℕ)) (d : List ℕ) → has_table h d ≡ true → found (ds ++ d ∷ []) ≡ found ds ++ d ∷ []
  put_in ds d has = filter_push (has_table h) ds d ∙ ap (λ b. found ds ++ (if b then d ∷ [] else [])) has

  -- the names stay where the dataset is among them, or has no table
  tables_same : (ds names : List (List ℕ)) (d : List ℕ) → AreTables h ds names → (is_among names d ≡ true) ⊎ (has_table h d ≡ false) → AreTables h (ds ++ d ∷ []) names
  tables_same ds names d so_far (inr no_table) = record {
    same = λ n. so_far.same n ∙ ap (λ l. is_among l n) (sym (kept_out ds d no_table));
    count = so_far.count ∙ ap count_distinct (sym (kept_out ds d no_table));
  }
  tables_same ds names d so_far (inl among) = elim (is_or_not (has_table h d)) [
    | inr no_table ↦ record {
      same = λ n. so_far.same n ∙ ap (λ l. is_among l n) (sym (kept_out ds d no_table));
      count = so_far.count ∙ ap count_distinct (sym (kept_out ds d no_table));
    }
    | inl has ↦
        let there : is_among (found ds) d ≡ true = sym (so_far.same d) ∙ among in
        let push = count_push (found ds) d in
        let none = ap (λ b. count_distinct (found ds) + (if b then 0 else 1)) there in
        let long = ap count_distinct (put_in ds d has) in
        record {
          same = λ n. so_far.same n ∙ again n there ∙ ap (λ l. is_among l n) (sym (put_in ds d has));
          count = let c = so_far.count in omega (arith, c, push, none, long);
        }
  ]
    where
      or_true : (b : Bool) → (b || true) ≡ true
      or_true true = refl
      or_true false = refl

      again : (n : List ℕ) → is_among (found ds) d ≡ true → is_among (found ds) n ≡ is_among (found ds ++ d ∷ []) n
      again n there = elim (is_or_not (bytes_eq n d)) [
        | inl same ↦
            let e : n ≡ d = (bytes_eq-Decides n d).0 same in
            ap (is_among (found ds)) e ∙ there ∙ sym (among_push (found ds) d n ∙ ap (λ b. is_among (found ds) n || b) same ∙ or_true (is_among (found ds) n))
        | inr differs ↦ sym (among_push (found ds) d n ∙ ap (λ b. is_among (found ds) n || b) differs ∙ or_false (is_among (found ds) n))
      ]

  -- one dataset more
  pub tables_more : (ds names : List (List ℕ)) (d : List ℕ) (after : List (List ℕ)) → AreTables h ds names → MayAdd h names d after → AreTables h (ds ++ d ∷ []) after
  tables_more ds names d after so_far (inr (which, is)) = subst (AreTables h (ds ++ d ∷ [])) (sym is) (tables_same ds names d so_far which)
  tables_more ds names d after so_far (inl (new, has, is)) =
      let away : is_among (found ds) d ≡ false = sym (so_far.same d) ∙ new in
      let push = count_push (found ds) d in
      let one = ap (λ b. count_distinct (found ds) + (if b then 0 else 1)) away in
      let long = ap count_distinct (put_in ds d has) in
      subst (AreTables h (ds ++ d ∷ [])) (sym is) (record {
        same = λ n. among_push names d n ∙ ap (λ b. b || bytes_eq n d) (so_far.same n) ∙ sym (among_push (found ds) d n) ∙ ap (λ l. is_among l n) (sym (put_in ds d has));
        count = let c = so_far.count in let l = length-append names (d ∷ []) in omega (arith, c, push, one, long, l);
      })

  -- one dataset too many
  pub too_many : (ds rest names : List (List ℕ)) (d : List ℕ) → AreTables h ds names → length names ≡ 2048 → is_among names d ≡ false → has_table h d ≡ true → 2048 < count_distinct (found ((ds ++ d ∷ []) ++ rest))
  too_many ds rest names d so_far full new has =
      let away : is_among (found ds) d ≡ false = sym (so_far.same d) ∙ new in
      let push = count_push (found ds) d in
      let one = ap (λ b. count_distinct (found ds) + (if b then 0 else 1)) away in
      let long = ap count_distinct (put_in ds d has) in
      let all = ap count_distinct (filter-append (has_table h) (ds ++ d ∷ []) rest) in
      let more = count_more (found (ds ++ d ∷ [])) (found rest) in
      let c = so_far.count in
      omega (arith, c, full, push, one, long, all, more)
