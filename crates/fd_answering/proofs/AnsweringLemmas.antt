-- The answers of a request, one after the other.
use Rattle.std.proofs.Common.{◌≡◌, ◌∙◌, ◌<◌, ◌≤◌, ◌+◌, ◌-◌, ℕ, zero, suc, Bool, true, false, true≢false, List, [], ◌∷◌, ◌++◌, length, take, drop, map, Option, Some, None, refl, sym, ap, subst, append_assoc, append-nil, get_or, arith}
use Rattle.std.specs.Prelude.{slice_get, is_some, option_map}
use Rattle.fd_io.specs.Streams.{Takes, TakesFront}
use Rattle.fd_entries.specs.declared.batch.Pair.{Pair}
use Rattle.fd_entries.specs.Batches.{newest}
use Rattle.fd_key.specs.Pairs as keys
use Rattle.fd_schema.specs.declared.place.Place.{Place}
use Rattle.fd_schema.specs.Reading.{seen_place}
use Rattle.fd_schema.specs.Rules.{Texts, file_key}
use Rattle.fd_retriever.specs.declared.fault.Got.TheVariants.{Found, Miss}
use Rattle.fd_outcome.specs.Asking.{Tables, Asked, Answer, answers, all_answers, bytes_or_none, found_bytes, miss_line, miss_lines, count_if, count_found, count_missed}
use Rattle.fd_retriever.specs.Answers.{IsAnswer, TookFront}
use Rattle.fd_answering.specs.Finding.{IsOne, IsOneInPart, IsAnswered, IsAnsweredInPart, TookSome, asked_of_all, one_if}
use Rattle.fd_outcome.proofs.Endings.{takes_nothing, takes_both, takes_then_front, front_more, nothing_of}

-- ---- what the report took

pub took_nothing : (c : Option (List ℕ)) → TookSome c c
took_nothing c = ([], takes_nothing c)

pub took_both : (c mid d : Option (List ℕ)) → TookSome c mid → TookSome mid d → TookSome c d
took_both c mid d a b = (a.0 ++ b.0, takes_both c mid d a.0 b.0 a.1 b.1)

pub took_front : (c d : Option (List ℕ)) (text : List ℕ) → TakesFront c d text → TookSome c d
took_front c d text t = (t.0, t.3)

-- ---- one answer

pub found_one : (bytes : Option (List ℕ)) (key : List keys.Pair) (n : ℕ) (a b c : Option (List ℕ)) → IsAnswer bytes a b (Found n) → IsOne bytes key true a b c c
found_one None key n a b c h = absurd h
found_one (Some bytes) key n a b c h = record { output = h.1; report = takes_nothing c; found_is = refl }

pub missed_one : (bytes : Option (List ℕ)) (key : List keys.Pair) (a b c d : Option (List ℕ)) → IsAnswer bytes a b Miss → Takes c d (miss_line key None) → IsOne bytes key false a b c d
missed_one None key a b c d h t = record { output = subst (λ x. Takes a x []) (sym h) (takes_nothing a); report = t; found_is = refl }
missed_one (Some bytes) key a b c d h t = absurd h

pub front_one : (bytes : Option (List ℕ)) (key : List keys.Pair) (a b c : Option (List ℕ)) → TookFront bytes a b → IsOneInPart bytes key a b c c
front_one None key a b c h = record { output = subst (λ x. TakesFront a x []) (sym h) (nothing_of a []); report = nothing_of c (miss_line key None) }
front_one (Some bytes) key a b c h = record { output = h; report = nothing_of c [] }

pub untold_one : (bytes : Option (List ℕ)) (key : List keys.Pair) (a b c d : Option (List ℕ)) → IsAnswer bytes a b Miss → TakesFront c d (miss_line key None) → IsOneInPart bytes key a b c d
untold_one None key a b c d h t = record { output = subst (λ x. TakesFront a x []) (sym h) (nothing_of a []); report = t }
untold_one (Some bytes) key a b c d h t = absurd h

-- ---- the answer with a number

pub record Numbered (tables : Tables) (place : Texts) (key : List keys.Pair) (xs : List Answer) (i : ℕ) : Type 0 where
  pub table : List (List Pair)
  pub told : tables place.dataset ≡ Some table
  pub there : slice_get xs i ≡ Some (record { key = key; found = newest table (file_key place) })

pub some_is : {A : Type 0} (x y : A) → (let o : Option A = Some x in o ≡ Some y) → x ≡ y
some_is x y e = cc

first_told : (tables : Tables) (a : Asked) (rest : Option (List Answer)) (o : Option (List (List Pair))) (xs : List Answer) → tables a.place.dataset ≡ o
    → all_answers (option_map (λ t. record { key = a.key; found = newest t (file_key a.place) }) o) rest ≡ Some xs
    → (ys : List Answer) × (t : List (List Pair)) × (rest ≡ Some ys) × (tables a.place.dataset ≡ Some t) × (xs ≡ record { key = a.key; found = newest t (file_key a.place) } ∷ ys)
first_told tables a rest None xs is e = absurd (true≢false (sym (ap is_some e)))
first_told tables a None (Some t) xs is e = absurd (true≢false (sym (ap is_some e)))
first_told tables a (Some ys) (Some t) xs is e = (ys, t, refl, is, sym (some_is _ xs e))

pub numbered : (tables : Tables) (ks : List (List keys.Pair)) (ps : List Texts) (xs : List Answer) → answers tables (asked_of_all ks ps) ≡ Some xs
    → (i : ℕ) (key : List keys.Pair) (place : Texts) → slice_get ks i ≡ Some key → slice_get ps i ≡ Some place → Numbered tables place key xs i
numbered tables [] ps xs e i key place k p = absurd (true≢false (sym (ap is_some k)))
numbered tables (k1 ∷ ks) [] xs e i key place k p = absurd (true≢false (sym (ap is_some p)))
numbered tables (k1 ∷ ks) (p1 ∷ ps) xs e zero key place k p =
    let f = first_told tables (record { key = k1; place = p1 }) (answers tables (asked_of_all ks ps)) (tables p1.dataset) xs refl e in
    let same_key : k1 ≡ key = some_is k1 key k in
    let same_place : p1 ≡ place = some_is p1 place p in
    rw (← same_key, ← same_place) (record { table = f.1; told = f.3; there = ap (λ zs. slice_get zs 0) f.4 })
numbered tables (k1 ∷ ks) (p1 ∷ ps) xs e (suc i) key place k p =
    let f = first_told tables (record { key = k1; place = p1 }) (answers tables (asked_of_all ks ps)) (tables p1.dataset) xs refl e in
    let later = numbered tables ks ps f.0 f.2 i key place k p in
    record { table = later.table; told = later.told; there = ap (λ zs. slice_get zs (suc i)) f.4 ∙ later.there }

pub as_many : (tables : Tables) (ks : List (List keys.Pair)) (ps : List Texts) (xs : List Answer) → answers tables (asked_of_all ks ps) ≡ Some xs → length ps ≡ length ks → length xs ≡ length ks
as_many tables [] ps xs e long = sym (ap length (some_is [] xs e))
as_many tables (k1 ∷ ks) [] xs e long = absurd (omega (arith, long))
as_many tables (k1 ∷ ks) (p1 ∷ ps) xs e long =
    let f = first_told tables (record { key = k1; place = p1 }) (answers tables (asked_of_all ks ps)) (tables p1.dataset) xs refl e in
    ap length f.4 ∙ ap suc (as_many tables ks ps f.0 f.2 (omega (arith, long)))

-- ---- one more

pub found_more : (xs : List Answer) (i : ℕ) (x : Answer) → slice_get xs i ≡ Some x → found_bytes (take (suc i) xs) ≡ found_bytes (take i xs) ++ bytes_or_none x.found
found_more [] i x at = absurd (true≢false (sym (ap is_some at)))
found_more (y ∷ ys) zero x at = append-nil (bytes_or_none y.found) ∙ ap (λ (z : Answer). bytes_or_none z.found) (some_is y x at)
found_more (y ∷ ys) (suc i) x at = ap (λ z. bytes_or_none y.found ++ z) (found_more ys i x at) ∙ sym (append_assoc (bytes_or_none y.found) (found_bytes (take i ys)) (bytes_or_none x.found))

pub lines_more : (xs : List Answer) (i : ℕ) (x : Answer) → slice_get xs i ≡ Some x → miss_lines (take (suc i) xs) ≡ miss_lines (take i xs) ++ miss_line x.key x.found
lines_more [] i x at = absurd (true≢false (sym (ap is_some at)))
lines_more (y ∷ ys) zero x at = append-nil (miss_line y.key y.found) ∙ ap (λ (z : Answer). miss_line z.key z.found) (some_is y x at)
lines_more (y ∷ ys) (suc i) x at = ap (λ z. miss_line y.key y.found ++ z) (lines_more ys i x at) ∙ sym (append_assoc (miss_line y.key y.found) (miss_lines (take i ys)) (miss_line x.key x.found))

pub count_more : (xs : List Answer) (i : ℕ) (x : Answer) → slice_get xs i ≡ Some x → count_found (take (suc i) xs) ≡ count_found (take i xs) + count_if x.found 1 0
count_more [] i x at = absurd (true≢false (sym (ap is_some at)))
count_more (y ∷ ys) zero x at = let e = ap (λ (z : Answer). count_if z.found 1 0) (some_is y x at) in omega (arith, e)
count_more (y ∷ ys) (suc i) x at = let e = count_more ys i x at in omega (arith, e)

pub miss_more : (xs : List Answer) (i : ℕ) (x : Answer) → slice_get xs i ≡ Some x → count_missed (take (suc i) xs) ≡ count_missed (take i xs) + count_if x.found 0 1
miss_more [] i x at = absurd (true≢false (sym (ap is_some at)))
miss_more (y ∷ ys) zero x at = let e = ap (λ (z : Answer). count_if z.found 0 1) (some_is y x at) in omega (arith, e)
miss_more (y ∷ ys) (suc i) x at = let e = miss_more ys i x at in omega (arith, e)

-- the first answers, and the others
pub found_rest : (ys : List Answer) (n : ℕ) → found_bytes ys ≡ found_bytes (take n ys) ++ found_bytes (drop n ys)
found_rest ys zero = refl
found_rest [] (suc n) = refl
found_rest (y ∷ ys) (suc n) = ap (λ z. bytes_or_none y.found ++ z) (found_rest ys n) ∙ sym (append_assoc (bytes_or_none y.found) (found_bytes (take n ys)) (found_bytes (drop n ys)))

pub lines_rest : (ys : List Answer) (n : ℕ) → miss_lines ys ≡ miss_lines (take n ys) ++ miss_lines (drop n ys)
lines_rest ys zero = refl
lines_rest [] (suc n) = refl
lines_rest (y ∷ ys) (suc n) = ap (λ z. miss_line y.key y.found ++ z) (lines_rest ys n) ∙ sym (append_assoc (miss_line y.key y.found) (miss_lines (take n ys)) (miss_lines (drop n ys)))

module _ (xs : List Answer) (i : ℕ) (x : Answer) (at : slice_get xs i ≡ Some x) (a b b' c d d' : Option (List ℕ)) (f m : ℕ) (so_far : IsAnswered xs i a b c d f m) where
  pub more_found : IsOne x.found x.key true b b' d d' → IsAnswered xs (suc i) a b' c d' (f + 1) m
  more_found one = record {
    output = subst (Takes a b') (sym (found_more xs i x at)) (takes_both a b b' (found_bytes (take i xs)) (bytes_or_none x.found) so_far.output one.output);
    report = subst (Takes c d') (sym (lines_more xs i x at)) (takes_both c d d' (miss_lines (take i xs)) (miss_line x.key x.found) so_far.report one.report);
    found_is = let e = count_more xs i x at in let k = counts x.found one.found_is in let s = so_far.found_is in omega (arith, e, k, s);
    missed_is = let e = miss_more xs i x at in let k = counts_missed x.found one.found_is in let s = so_far.missed_is in omega (arith, e, k, s);
  }
    where
      counts : (o : Option (List ℕ)) → true ≡ is_some o → count_if o 1 0 ≡ 1
      counts None e = absurd (true≢false e)
      counts (Some z) e = refl

      counts_missed : (o : Option (List ℕ)) → true ≡ is_some o → count_if o 0 1 ≡ 0
      counts_missed None e = absurd (true≢false e)
      counts_missed (Some z) e = refl

  pub more_missed : IsOne x.found x.key false b b' d d' → IsAnswered xs (suc i) a b' c d' f (m + 1)
  more_missed one = record {
    output = subst (Takes a b') (sym (found_more xs i x at)) (takes_both a b b' (found_bytes (take i xs)) (bytes_or_none x.found) so_far.output one.output);
    report = subst (Takes c d') (sym (lines_more xs i x at)) (takes_both c d d' (miss_lines (take i xs)) (miss_line x.key x.found) so_far.report one.report);
    found_is = let e = count_more xs i x at in let k = counts x.found one.found_is in let s = so_far.found_is in omega (arith, e, k, s);
    missed_is = let e = miss_more xs i x at in let k = counts_missed x.found one.found_is in let s = so_far.missed_is in omega (arith, e, k, s);
  }
    where
      counts : (o : Option (List ℕ)) → false ≡ is_some o → count_if o 1 0 ≡ 0
      counts None e = refl
      counts (Some z) e = absurd (true≢false (sym e))

      counts_missed : (o : Option (List ℕ)) → false ≡ is_some o → count_if o 0 1 ≡ 1
      counts_missed None e = refl
      counts_missed (Some z) e = absurd (true≢false (sym e))

  pub part_answered : IsOneInPart x.found x.key b b' d d' → IsAnsweredInPart xs a b' c d'
  part_answered one = record {
    output = front_more a b' (found_bytes (take (suc i) xs)) (found_bytes (drop (suc i) xs)) (found_bytes xs) (found_rest xs (suc i))
        (subst (TakesFront a b') (sym (found_more xs i x at)) (takes_then_front a b b' (found_bytes (take i xs)) (bytes_or_none x.found) so_far.output one.output));
    report = front_more c d' (miss_lines (take (suc i) xs)) (miss_lines (drop (suc i) xs)) (miss_lines xs) (lines_rest xs (suc i))
        (subst (TakesFront c d') (sym (lines_more xs i x at)) (takes_then_front c d d' (miss_lines (take i xs)) (miss_line x.key x.found) so_far.report one.report));
  }

-- a key with this number
pub there_is : {A : Type 0} (xs : List A) (i : ℕ) → i < length xs → (x : A) × (slice_get xs i ≡ Some x)
there_is [] i lt = absurd (omega (arith, lt))
there_is (x ∷ xs) zero lt = (x, refl)
there_is (x ∷ xs) (suc i) lt = there_is xs i (omega (arith, lt))

module _ (xs : List Answer) (i : ℕ) (x : Answer) (at : slice_get xs i ≡ Some x) (a b b' c d d' : Option (List ℕ)) (f : ℕ) (few : f ≤ i) (so_far : IsAnswered xs i a b c d f (i - f)) where
  pub more_one : (is_found : Bool) → IsOne x.found x.key is_found b b' d d' → IsAnswered xs (i + 1) a b' c d' (f + one_if is_found) (i + 1 - (f + one_if is_found))
  more_one true one =
      let same : i + 1 - (f + 1) ≡ i - f = omega arith in
      let next : suc i ≡ i + 1 = omega arith in
      rw (same, ← next) (more_found xs i x at a b b' c d d' f (i - f) so_far one)
  more_one false one =
      let same : i + 1 - (f + 0) ≡ i - f + 1 = omega (arith, few) in
      let next : suc i ≡ i + 1 = omega arith in
      let zero_more : f + 0 ≡ f = omega arith in
      rw (same, zero_more, ← next) (more_missed xs i x at a b b' c d d' f (i - f) so_far one)

pub place_there : (ps : List Place) (i : ℕ) (p : Place) → i < length ps → p ≡ get_or ps i p → slice_get (map seen_place ps) i ≡ Some (seen_place p)
place_there [] i p lt is = absurd (omega (arith, lt))
place_there (x ∷ xs) zero p lt is = ap (λ z. Some (seen_place z)) (sym is)
place_there (x ∷ xs) (suc i) p lt is = place_there xs i p (omega (arith, lt)) is

pub as_long : (ps : List Place) → length (map seen_place ps) ≡ length ps
as_long [] = refl
as_long (x ∷ xs) = ap suc (as_long xs)

pub one_few : (b : Bool) → one_if b ≤ 1
one_few true = omega arith
one_few false = omega arith

pub as_whole : (xs : List Answer) (i count : ℕ) (a b c d : Option (List ℕ)) (f : ℕ) → i ≡ length xs → i ≡ count → IsAnswered xs i a b c d f (i - f) → IsAnswered xs (length xs) a b c d f (count - f)
as_whole xs i count a b c d f long is so_far = subst (λ n. IsAnswered xs n a b c d f (count - f)) long (subst (λ n. IsAnswered xs i a b c d f (n - f)) is so_far)
