-- The number of keys, and how long the longest key is.
use Rattle.std.proofs.Common.{◌≡◌, ℕ, zero, suc, ◌+◌, ◌-◌, ◌*◌, ◌<◌, ◌≤◌, Bool, true, cond, ltb, leb, max, List, [], ◌∷◌, ◌++◌, length, get_or, drop, map, Option, Some, None, refl, ap, ◌∙◌, sym, arith}
use Rattle.std.specs.Prelude.{◌&&◌}
use Rattle.std.specs.List.{list_all}
use Rattle.std.proofs.Math.Nat.{mul_assoc}
use Rattle.std.proofs.lemmas.Bool.{cond-true, cond-false, lt-ltb, le-ltb, and_parts, leb-true}
use Rattle.fd_spelling.specs.Names.{is_name, is_value, is_letter, is_name_byte}
use Rattle.fd_spelling.proofs.ValueLaws.{value_few}
use Rattle.std.proofs.lemmas.List.{at_drop_more, at_drop_all}
use Rattle.fd_key.specs.Pairs.{Pair, rest_text, key_text}
use Rattle.fd_key.proofs.PairLaws.{length-rest_text, length-key_text}
use Rattle.fd_request.specs.declared.keyword.Keyword as code_keyword
use Rattle.fd_request.specs.Expansion.{Keyword, each_before, expand}
use Rattle.fd_request.specs.Limits.{longest_text, longest_key, too_many}
use Rattle.fd_request.specs.Keywords.{seen_keyword, seen_keywords}
use Rattle.fd_request.proofs.Products.{length-expand}

-- ---- the longest text

longest_joined : (xs ys : List (List ℕ)) → longest_text (xs ++ ys) ≡ max (longest_text xs) (longest_text ys)
unfolding longest_text
longest_joined [] ys = omega arith
longest_joined (x ∷ xs) ys = omega (arith, longest_joined xs ys)

abbrev before : List ℕ → List ℕ → List Pair → List Pair
before name v key = (name, v) ∷ key

map_joined : (text : List Pair → List ℕ) (xs ys : List (List Pair)) → map text (xs ++ ys) ≡ map text xs ++ map text ys
map_joined text [] ys = refl
map_joined text (x ∷ xs) ys = ap (λ (ts : List (List ℕ)). text x ∷ ts) (map_joined text xs ys)

-- the keys with one value
one_value : (text : List Pair → List ℕ) (name v : List ℕ) (k : ℕ) → ((w : List ℕ) (c : List Pair) → length (text ((name, w) ∷ c)) ≡ k + length w + length (rest_text c))
    → (others : List (List Pair)) → 0 < length others → longest_text (map text (map (before name v) others)) ≡ k + length v + longest_text (map rest_text others)
unfolding longest_text
one_value text name v k h [] some = absurd (omega arith)
one_value text name v k h (c ∷ []) some = omega (arith, h v c)
one_value text name v k h (c ∷ d ∷ cs) some = omega (arith, h v c, one_value text name v k h (d ∷ cs) (omega arith))

each_longest : (text : List Pair → List ℕ) (name : List ℕ) (k : ℕ) → ((w : List ℕ) (c : List Pair) → length (text ((name, w) ∷ c)) ≡ k + length w + length (rest_text c))
    → (vs : List (List ℕ)) (others : List (List Pair)) → 0 < length vs → 0 < length others → longest_text (map text (each_before name vs others)) ≡ k + longest_text vs + longest_text (map rest_text others)
unfolding longest_text each_before
each_longest text name k h [] others some more = absurd (omega arith)
each_longest text name k h (v ∷ []) others some more =
    ap longest_text (map_joined text (map (before name v) others) []) ∙ longest_joined (map text (map (before name v) others)) [] ∙ omega (arith, one_value text name v k h others more)
each_longest text name k h (v ∷ w ∷ vs) others some more =
    ap longest_text (map_joined text (map (before name v) others) (each_before name (w ∷ vs) others)) ∙ longest_joined (map text (map (before name v) others)) (map text (each_before name (w ∷ vs) others))
    ∙ omega (arith, one_value text name v k h others more, each_longest text name k h (w ∷ vs) others (omega arith) more)

-- each keyword has a value
abbrev pub HaveValues : List Keyword → Type 0
HaveValues [] = Unit {0}
HaveValues (k ∷ ks) = (0 < length k.values) × HaveValues ks

pub some_key : (ks : List Keyword) → HaveValues ks → 0 < length (expand ks)
unfolding expand
some_key [] h = omega arith
some_key (k ∷ ks) h = positive (length k.values) (length (expand ks)) (length (expand (k ∷ ks))) (length-expand k ks) h.0 (some_key ks h.1)
  where
    positive : (a b p : ℕ) → p ≡ a * b → 0 < a → 0 < b → 0 < p
    positive zero b p e x y = absurd (omega arith)
    positive (suc a) b p e x y = let m : suc a * b ≡ a * b + b = omega arith in omega arith

-- the names and the longest values, with `=` and a comma for each
unfoldable pub total : List Keyword → ℕ
total [] = 0
total (k ∷ ks) = length k.name + longest_text k.values + 2 + total ks

rest_longest : (ks : List Keyword) → HaveValues ks → longest_text (map rest_text (expand ks)) ≡ total ks
unfolding expand total longest_text
rest_longest [] h = refl
rest_longest (k ∷ ks) h =
    each_longest rest_text k.name (length k.name + 2) (λ w c. length-rest_text (k.name, w) c ∙ omega arith) k.values (expand ks) h.0 (some_key ks h.1) ∙ omega (arith, rest_longest ks h.1)

pub key_longest : (ks : List Keyword) → HaveValues ks → longest_key (expand ks) ≡ total ks - 1
unfolding expand total longest_text
key_longest [] h = refl
key_longest (k ∷ ks) h =
    each_longest key_text k.name (length k.name + 1) (λ w c. length-key_text (k.name, w) c ∙ omega arith) k.values (expand ks) h.0 (some_key ks h.1) ∙ omega (arith, rest_longest ks h.1)

-- ---- one keyword more

pub total_more : (ks : List code_keyword.Keyword) (i : ℕ) (k : code_keyword.Keyword) → i < length ks → k ≡ get_or ks i k
    → total (seen_keywords (drop i ks)) ≡ length (seen_keyword k).name + longest_text (seen_keyword k).values + 2 + total (seen_keywords (drop (i + 1) ks))
unfolding total
total_more ks i k lt is =
    at_drop_more (λ (us : List code_keyword.Keyword). total (seen_keywords us)) ks i k lt
    ∙ ap (λ (x : code_keyword.Keyword). length (seen_keyword x).name + longest_text (seen_keyword x).values + 2 + total (seen_keywords (drop (i + 1) ks))) (sym is)

pub total_none : (ks : List code_keyword.Keyword) (i : ℕ) → length ks ≤ i → total (seen_keywords (drop i ks)) ≡ 0
unfolding total
total_none ks i le = at_drop_all (λ (us : List code_keyword.Keyword). total (seen_keywords us)) ks i le

pub have_values : (ks : List code_keyword.Keyword) → HaveValues (seen_keywords ks)
have_values [] = tt
have_values (k ∷ ks) = (k.values_are.some, have_values ks)

abbrev product_or : Bool → ℕ → Option ℕ → Option ℕ
product_or many product others = cond many (Some product) others

many_more : (product : ℕ) (ks : List code_keyword.Keyword) (i : ℕ) (k : code_keyword.Keyword) → i < length ks → k ≡ get_or ks i k
    → too_many product (seen_keywords (drop i ks)) ≡ product_or (ltb 262144 (product * length (seen_keyword k).values)) (product * length (seen_keyword k).values) (too_many (product * length (seen_keyword k).values) (seen_keywords (drop (i + 1) ks)))
unfolding too_many
many_more product ks i k lt is =
    at_drop_more (λ (us : List code_keyword.Keyword). too_many product (seen_keywords us)) ks i k lt
    ∙ ap (λ (x : code_keyword.Keyword). product_or (ltb 262144 (product * length (seen_keyword x).values)) (product * length (seen_keyword x).values) (too_many (product * length (seen_keyword x).values) (seen_keywords (drop (i + 1) ks)))) (sym is)

pub many_is : (product next : ℕ) (ks : List code_keyword.Keyword) (i : ℕ) (k : code_keyword.Keyword) → i < length ks → k ≡ get_or ks i k → next ≡ product * length (seen_keyword k).values → 262144 < next
    → too_many product (seen_keywords (drop i ks)) ≡ Some next
many_is product next ks i k lt is e many =
    many_more product ks i k lt is ∙ ap (λ n. product_or (ltb 262144 n) n (too_many n (seen_keywords (drop (i + 1) ks)))) (sym e)
    ∙ cond-true (ltb 262144 next) (Some next) (too_many next (seen_keywords (drop (i + 1) ks))) (lt-ltb 262144 next many)

pub few_is : (product next : ℕ) (ks : List code_keyword.Keyword) (i : ℕ) (k : code_keyword.Keyword) → i < length ks → k ≡ get_or ks i k → next ≡ product * length (seen_keyword k).values → next ≤ 262144
    → too_many product (seen_keywords (drop i ks)) ≡ too_many next (seen_keywords (drop (i + 1) ks))
few_is product next ks i k lt is e few =
    many_more product ks i k lt is ∙ ap (λ n. product_or (ltb 262144 n) n (too_many n (seen_keywords (drop (i + 1) ks)))) (sym e)
    ∙ cond-false (ltb 262144 next) (Some next) (too_many next (seen_keywords (drop (i + 1) ks))) (le-ltb 262144 next few)

pub none_many : (product : ℕ) (ks : List code_keyword.Keyword) (i : ℕ) → length ks ≤ i → too_many product (seen_keywords (drop i ks)) ≡ None
unfolding too_many
none_many product ks i le = at_drop_all (λ (us : List code_keyword.Keyword). too_many product (seen_keywords us)) ks i le

pub keys_more : (product next : ℕ) (ks : List code_keyword.Keyword) (i : ℕ) (k : code_keyword.Keyword) → i < length ks → k ≡ get_or ks i k → next ≡ product * length (seen_keyword k).values
    → product * length (expand (seen_keywords (drop i ks))) ≡ next * length (expand (seen_keywords (drop (i + 1) ks)))
keys_more product next ks i k lt is e =
    ap (λ n. product * n) (at_drop_more (λ (us : List code_keyword.Keyword). length (expand (seen_keywords us))) ks i k lt ∙ ap (λ (x : code_keyword.Keyword). length (expand (seen_keyword x ∷ seen_keywords (drop (i + 1) ks)))) (sym is)
    ∙ length-expand (seen_keyword k) (seen_keywords (drop (i + 1) ks)))
    ∙ sym (mul_assoc product (length (seen_keyword k).values) (length (expand (seen_keywords (drop (i + 1) ks))))) ∙ ap (λ n. n * length (expand (seen_keywords (drop (i + 1) ks)))) (sym e)

pub no_keys_more : (product : ℕ) (ks : List code_keyword.Keyword) (i : ℕ) → length ks ≤ i → product * length (expand (seen_keywords (drop i ks))) ≡ product
unfolding expand
no_keys_more product ks i le = ap (λ n. product * n) (at_drop_all (λ (us : List code_keyword.Keyword). length (expand (seen_keywords us))) ks i le) ∙ omega arith

-- values are short
pub longest_few : (vs : List (List ℕ)) → list_all is_value vs ≡ true → longest_text vs ≤ 255
unfolding longest_text
longest_few [] h = omega arith
longest_few (v ∷ vs) h = let parts = and_parts (is_value v) (list_all is_value vs) h in omega (arith, value_few v parts.0, longest_few vs parts.1)

pub name_few : (name : List ℕ) → is_name name ≡ true → length name ≤ 16
name_few [] h = omega arith
name_few (b ∷ bs) h =
    let parts = and_parts (is_letter b && leb (length bs) 15) (list_all is_name_byte bs) h in
    let first = and_parts (is_letter b) (leb (length bs) 15) parts.0 in
    omega (arith, leb-true (length bs) 15 first.1)
