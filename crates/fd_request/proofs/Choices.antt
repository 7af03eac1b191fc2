-- One keyword of a key.
use Rattle.std.proofs.Common.{◌≡◌, ℕ, zero, suc, ◌+◌, ◌*◌, ◌/◌, ◌%◌, ◌<◌, ◌≤◌, Bool, true, false, cond, not, List, [], ◌∷◌, ◌++◌, length, get_or, take, drop, Some, None, refl, ap, ◌∙◌, sym, arith, append_assoc}
use Rattle.std.specs.Prelude.{slice_get, ◌||◌}
use Rattle.std.specs.List.{list_all}
use Rattle.std.specs.Str.{bytes_eq}
use Rattle.fd_spelling.specs.Names.{is_value}
use Rattle.std.specs.Cmp.Lexicographic.{bytes_decides}
use Rattle.std.proofs.Math.Nat.{mul-div_cancel_left, mod-lt, div-lt_iff_lt-mul}
use Rattle.std.proofs.lemmas.Bool.{and_parts, not-true}
use Rattle.std.proofs.lemmas.List.{at_drop_more, at_drop_all, take_more, append-nil, map_push}
use Rattle.fd_key.specs.Pairs.{Pair, text_of, with_pair}
use Rattle.fd_key.proofs.PairLaws.{with_new_pair}
use Rattle.fd_request.specs.declared.keyword.Keyword as code_keyword
use Rattle.fd_request.specs.Expansion.{Keyword, expand}
use Rattle.fd_request.specs.Grammar.{has_name}
use Rattle.fd_request.specs.Keywords.{seen_keyword, seen_keywords, differ_after}
use Rattle.fd_request.proofs.Products.{length-expand, get-key}
use Rattle.fd_request.proofs.Lengths.{have_values, some_key}

abbrev pub left : List code_keyword.Keyword → ℕ → List (List Pair)
left ks i = expand (seen_keywords (drop i ks))

left_more : (ks : List code_keyword.Keyword) (i : ℕ) (k : code_keyword.Keyword) → i < length ks → k ≡ get_or ks i k → left ks i ≡ expand (seen_keyword k ∷ seen_keywords (drop (i + 1) ks))
left_more ks i k lt is =
    at_drop_more (λ (us : List code_keyword.Keyword). expand (seen_keywords us)) ks i k lt
    ∙ ap (λ (x : code_keyword.Keyword). expand (seen_keyword x ∷ seen_keywords (drop (i + 1) ks))) (sym is)

some_left : (ks : List code_keyword.Keyword) (i : ℕ) → 0 < length (left ks i)
some_left ks i = some_key (seen_keywords (drop i ks)) (have_values (drop i ks))

quotient : (n a b : ℕ) → n ≡ a * b → 0 < a → n / a ≡ b
quotient n a b e some = ap (λ m. m / a) e ∙ mul-div_cancel_left b some

-- the keys of the keywords behind one
pub next_block : (ks : List code_keyword.Keyword) (i : ℕ) (k : code_keyword.Keyword) (block count : ℕ) → i < length ks → k ≡ get_or ks i k → block ≡ length (left ks i) → count ≡ length (seen_keyword k).values
    → block / count ≡ length (left ks (i + 1))
next_block ks i k block count lt is b c =
    let all : block ≡ count * length (left ks (i + 1)) = b ∙ ap length (left_more ks i k lt is) ∙ length-expand (seen_keyword k) (seen_keywords (drop (i + 1) ks)) ∙ ap (λ n. n * length (left ks (i + 1))) (sym c) in
    quotient block count (length (left ks (i + 1))) all (let some = k.values_are.some in omega arith)

pub some_block : (ks : List code_keyword.Keyword) (i block : ℕ) → block ≡ length (left ks i) → 0 < block
some_block ks i block e = omega (arith, some_left ks i)

-- the place of a value
pub value_place : (ks : List code_keyword.Keyword) (i : ℕ) (k : code_keyword.Keyword) (block next rest : ℕ) → i < length ks → k ≡ get_or ks i k → block ≡ length (left ks i) → next ≡ length (left ks (i + 1)) → rest < block
    → rest / next < length (seen_keyword k).values
value_place ks i k block next rest lt is b n within =
    let all : block ≡ length (seen_keyword k).values * next = b ∙ ap length (left_more ks i k lt is) ∙ length-expand (seen_keyword k) (seen_keywords (drop (i + 1) ks)) ∙ ap (λ m. length (seen_keyword k).values * m) (sym n) in
    below rest next (length (seen_keyword k).values) (omega arith)
  where
    positive : (rest next n : ℕ) → rest < n * next → 0 < next
    positive rest zero n lt = absurd (omega arith)
    positive rest (suc next) n lt = omega arith

    below : (rest next n : ℕ) → rest < n * next → rest / next < n
    below rest next n lt = (div-lt_iff_lt-mul (positive rest next n lt)).1 lt

-- a choice behind this keyword is one of all
pub front_more : (ks : List code_keyword.Keyword) (i : ℕ) (k : code_keyword.Keyword) (next rest number : ℕ) (v : List ℕ) (all : List (List Pair)) (key c : List Pair) → i < length ks → k ≡ get_or ks i k → next ≡ length (left ks (i + 1))
    → slice_get (seen_keyword k).values (rest / next) ≡ Some v
    → ((d : List Pair) → slice_get (left ks i) rest ≡ Some d → slice_get all number ≡ Some (key ++ d))
    → slice_get (left ks (i + 1)) (rest % next) ≡ Some c → slice_get all number ≡ Some ((key ++ ((seen_keyword k).name, v) ∷ []) ++ c)
front_more ks i k next rest number v all key c lt is n at front behind =
    let one : slice_get (expand (seen_keyword k ∷ seen_keywords (drop (i + 1) ks))) rest ≡ Some (((seen_keyword k).name, v) ∷ c) =
    get-key (seen_keyword k) (seen_keywords (drop (i + 1) ks)) rest v c
    (ap (λ m. slice_get (seen_keyword k).values (rest / m)) (sym n) ∙ at) (ap (λ m. slice_get (left ks (i + 1)) (rest % m)) (sym n) ∙ behind) in
    front (((seen_keyword k).name, v) ∷ c) (ap (λ (keys : List (List Pair)). slice_get keys rest) (left_more ks i k lt is) ∙ one)
    ∙ ap (λ (key : List Pair). Some key) (sym (append_assoc key (((seen_keyword k).name, v) ∷ []) c))

pub rest_less : (rest next : ℕ) → 0 < next → rest % next < next
rest_less rest next some = mod-lt rest some

-- nothing is left
pub front_all : (ks : List code_keyword.Keyword) (i rest number : ℕ) (all : List (List Pair)) (key : List Pair) → length ks ≤ i → rest < length (left ks i)
    → ((d : List Pair) → slice_get (left ks i) rest ≡ Some d → slice_get all number ≡ Some (key ++ d)) → slice_get all number ≡ Some key
unfolding expand
front_all ks i rest number all key le within front =
    let none : left ks i ≡ [] ∷ [] = at_drop_all (λ (us : List code_keyword.Keyword). expand (seen_keywords us)) ks i le in
    let first : rest ≡ 0 = omega (arith, ap length none) in
    front [] (ap (λ (keys : List (List Pair)). slice_get keys rest) none ∙ ap (slice_get ([] ∷ [])) first) ∙ ap (λ (key : List Pair). Some key) (append-nil key)

-- ---- names

abbrev pub Absent : List code_keyword.Keyword → ℕ → List Pair → Type 0
Absent ks i key = (name : List ℕ) → has_name (seen_keywords (take i ks)) name ≡ false → text_of key name ≡ None

other_order : (a b : List ℕ) → bytes_eq a b ≡ false → bytes_eq b a ≡ false
other_order a b h = go (bytes_eq b a) refl
  where
    go : (c : Bool) → bytes_eq b a ≡ c → c ≡ false
    go true e = let same : b ≡ a = (bytes_decides b a).0 e in let bad : bytes_eq a b ≡ true = (bytes_decides a b).1 (sym same) in absurd (let clash : true ≡ false = sym bad ∙ h in cc)
    go false e = refl

has_push : (ks : List Keyword) (k : Keyword) (name : List ℕ) → has_name (ks ++ k ∷ []) name ≡ false → (has_name ks name ≡ false) × (bytes_eq k.name name ≡ false)
has_push [] k name h = (refl, first (bytes_eq k.name name) h)
  where
    first : (b : Bool) → b || false ≡ false → b ≡ false
    first true e = e
    first false e = refl
has_push (j ∷ ks) k name h = go (bytes_eq j.name name) h (has_push ks k name)
  where
    go : (b : Bool) → b || has_name (ks ++ k ∷ []) name ≡ false → (has_name (ks ++ k ∷ []) name ≡ false → (has_name ks name ≡ false) × (bytes_eq k.name name ≡ false)) → (b || has_name ks name ≡ false) × (bytes_eq k.name name ≡ false)
    go true e ih = absurd (cc)
    go false e ih = ih e

text_push : (key : List Pair) (p : Pair) (name : List ℕ) → text_of key name ≡ None → bytes_eq name p.0 ≡ false → text_of (key ++ p ∷ []) name ≡ None
text_push [] p name h e = ap (λ b. cond b (Some p.1) None) e
text_push (q ∷ key) p name h e = go (bytes_eq name q.0) h (text_push key p name)
  where
    go : (b : Bool) → cond b (Some q.1) (text_of key name) ≡ None → (text_of key name ≡ None → bytes_eq name p.0 ≡ false → text_of (key ++ p ∷ []) name ≡ None) → cond b (Some q.1) (text_of (key ++ p ∷ []) name) ≡ None
    go true x ih = absurd (cc)
    go false x ih = ih x e

taken_more : (ks : List code_keyword.Keyword) (i : ℕ) (k : code_keyword.Keyword) → i < length ks → k ≡ get_or ks i k → seen_keywords (take (i + 1) ks) ≡ seen_keywords (take i ks) ++ seen_keyword k ∷ []
taken_more ks i k lt is = ap seen_keywords (take_more ks i k lt ∙ ap (λ (x : code_keyword.Keyword). take i ks ++ x ∷ []) (sym is)) ∙ map_push seen_keyword (take i ks) k

-- the names that are left are new, and differ
abbrev pub Differ : List code_keyword.Keyword → ℕ → Type 0
Differ ks i = differ_after (seen_keywords (take i ks)) (seen_keywords (drop i ks)) ≡ true

next_differ : (ks : List code_keyword.Keyword) (i : ℕ) (k : code_keyword.Keyword) → i < length ks → k ≡ get_or ks i k → Differ ks i
    → (not (has_name (seen_keywords (take i ks)) (seen_keyword k).name) ≡ true) × (differ_after (seen_keywords (take i ks) ++ seen_keyword k ∷ []) (seen_keywords (drop (i + 1) ks)) ≡ true)
next_differ ks i k lt is h =
    let open_ = at_drop_more (λ (us : List code_keyword.Keyword). differ_after (seen_keywords (take i ks)) (seen_keywords us)) ks i k lt
    ∙ ap (λ (x : code_keyword.Keyword). differ_after (seen_keywords (take i ks)) (seen_keyword x ∷ seen_keywords (drop (i + 1) ks))) (sym is) in
    and_parts (not (has_name (seen_keywords (take i ks)) (seen_keyword k).name)) (differ_after (seen_keywords (take i ks) ++ seen_keyword k ∷ []) (seen_keywords (drop (i + 1) ks))) (sym open_ ∙ h)

pub differ_more : (ks : List code_keyword.Keyword) (i : ℕ) (k : code_keyword.Keyword) → i < length ks → k ≡ get_or ks i k → Differ ks i → Differ ks (i + 1)
differ_more ks i k lt is h = ap (λ (us : List Keyword). differ_after us (seen_keywords (drop (i + 1) ks))) (taken_more ks i k lt is) ∙ (next_differ ks i k lt is h).1

pub name_absent : (ks : List code_keyword.Keyword) (i : ℕ) (k : code_keyword.Keyword) (key : List Pair) → i < length ks → k ≡ get_or ks i k → Differ ks i → Absent ks i key → text_of key (seen_keyword k).name ≡ None
name_absent ks i k key lt is h absent = absent (seen_keyword k).name (not-true (has_name (seen_keywords (take i ks)) (seen_keyword k).name) (next_differ ks i k lt is h).0)

-- the pair is put behind the others
pub pair_behind : (ks : List code_keyword.Keyword) (i : ℕ) (k : code_keyword.Keyword) (key : List Pair) (text : List ℕ) → i < length ks → k ≡ get_or ks i k → Differ ks i → Absent ks i key
    → with_pair key (seen_keyword k).name text ≡ key ++ ((seen_keyword k).name, text) ∷ []
pair_behind ks i k key text lt is h absent =
    with_new_pair key (seen_keyword k).name text (name_absent ks i k key lt is h absent)

pub absent_more : (ks : List code_keyword.Keyword) (i : ℕ) (k : code_keyword.Keyword) (key : List Pair) (text : List ℕ) → i < length ks → k ≡ get_or ks i k → Absent ks i key → Absent ks (i + 1) (key ++ ((seen_keyword k).name, text) ∷ [])
absent_more ks i k key text lt is absent name h =
    let both = has_push (seen_keywords (take i ks)) (seen_keyword k) name (ap (λ (us : List Keyword). has_name us name) (sym (taken_more ks i k lt is)) ∙ h) in
    text_push key ((seen_keyword k).name, text) name (absent name both.0) (other_order (seen_keyword k).name name both.1)

pub value_in_list : (vs : List (List ℕ)) (i : ℕ) (v : List ℕ) → list_all is_value vs ≡ true → slice_get vs i ≡ Some v → is_value v ≡ true
value_in_list [] i v h e = absurd (let none : None ≡ Some v = e in cc)
value_in_list (w ∷ vs) zero v h e = let some : Some w ≡ Some v = e in let same : w ≡ v = cc in ap is_value (sym same) ∙ (and_parts (is_value w) (list_all is_value vs) h).0
value_in_list (w ∷ vs) (suc i) v h e = value_in_list vs i v (and_parts (is_value w) (list_all is_value vs) h).1 e
