-- The laws of the expansion.
use Rattle.std.proofs.Common.{◌≡◌, ℕ, zero, suc, ◌+◌, ◌*◌, ◌/◌, ◌%◌, List, [], ◌∷◌, ◌++◌, length, map, Some, sym, ap, ◌∙◌, arith, length-append}
use Rattle.std.specs.Prelude.{slice_get}
use Rattle.std.proofs.lemmas.Nat.{div-add-mod'}
use Rattle.std.proofs.lemmas.List.{length-map}
use Rattle.fd_key.specs.Pairs.{Pair}
use Rattle.fd_request.specs.Expansion.{Keyword, each_before, expand}

abbrev before : List ℕ → List ℕ → List Pair → List Pair
before name v key = (name, v) ∷ key

length-each : (name : List ℕ) (vs : List (List ℕ)) (others : List (List Pair)) → length (each_before name vs others) ≡ length vs * length others
unfolding each_before
length-each name [] others = omega arith
length-each name (v ∷ vs) others = omega (arith, length-append (map (before name v) others) (each_before name vs others), length-map others (before name v), length-each name vs others)

pub length-expand : (k : Keyword) (ks : List Keyword) → length (expand (k ∷ ks)) ≡ length k.values * length (expand ks)
unfolding expand
length-expand k ks = length-each k.name k.values (expand ks)

get_front : (xs ys : List (List Pair)) (j : ℕ) (c : List Pair) → slice_get xs j ≡ Some c → slice_get (xs ++ ys) j ≡ Some c
get_front [] ys j c e = absurd cc
get_front (x ∷ xs) ys zero c e = e
get_front (x ∷ xs) ys (suc j) c e = get_front xs ys j c e

get_after : (xs ys : List (List Pair)) (k : ℕ) → slice_get (xs ++ ys) (length xs + k) ≡ slice_get ys k
get_after [] ys k = ap (slice_get ys) (omega arith)
get_after (x ∷ xs) ys k = ap (slice_get (x ∷ xs ++ ys)) (let e : suc (length xs) + k ≡ suc (length xs + k) = omega arith in e) ∙ get_after xs ys k

get_map : (name w : List ℕ) (xs : List (List Pair)) (j : ℕ) (c : List Pair) → slice_get xs j ≡ Some c → slice_get (map (before name w) xs) j ≡ Some ((name, w) ∷ c)
get_map name w [] j c e = absurd cc
get_map name w (x ∷ xs) zero c e = let same : x ≡ c = cc in ap (λ (t : List Pair). Some (before name w t)) same
get_map name w (x ∷ xs) (suc j) c e = get_map name w xs j c e

get-each : (name : List ℕ) (vs : List (List ℕ)) (others : List (List Pair)) (i j : ℕ) (v : List ℕ) (c : List Pair) → slice_get vs i ≡ Some v → slice_get others j ≡ Some c → slice_get (each_before name vs others) (i * length others + j) ≡ Some ((name, v) ∷ c)
unfolding each_before
get-each name [] others i j v c vi cj = absurd cc
get-each name (w ∷ vs) others zero j v c vi cj =
    let same : w ≡ v = cc in
    let place : 0 * length others + j ≡ j = omega arith in
    ap (slice_get (map (before name w) others ++ each_before name vs others)) place ∙ get_front (map (before name w) others) (each_before name vs others) j ((name, w) ∷ c) (get_map name w others j c cj) ∙ ap (λ (x : List ℕ). Some (before name x c)) same
get-each name (w ∷ vs) others (suc i) j v c vi cj =
    let place : suc i * length others + j ≡ length (map (before name w) others) + (i * length others + j) = omega (arith, length-map others (before name w)) in
    ap (slice_get (map (before name w) others ++ each_before name vs others)) place ∙ get_after (map (before name w) others) (each_before name vs others) (i * length others + j) ∙ get-each name vs others i j v c vi cj

pub get-key : (k : Keyword) (ks : List Keyword) (i : ℕ) (v : List ℕ) (c : List Pair) → slice_get k.values (i / length (expand ks)) ≡ Some v → slice_get (expand ks) (i % length (expand ks)) ≡ Some c → slice_get (expand (k ∷ ks)) i ≡ Some ((k.name, v) ∷ c)
unfolding expand
get-key k ks i v c vi cj =
    let n = length (expand ks) in
    ap (slice_get (each_before k.name k.values (expand ks))) (sym (div-add-mod' i n)) ∙ get-each k.name k.values (expand ks) (i / n) (i % n) v c vi cj
