-- What stays of a cube, and how long its text is, where the values of one name change.
use Rattle.std.proofs.Common.{◌≡◌, ◌<◌, ◌+◌, ◌∙◌, ℕ, zero, suc, Bool, true, false, not, List, [], ◌∷◌, ◌++◌, length, refl, sym, ap, subst, length-append, arith}
use Rattle.std.specs.Prelude.{◌&&◌, ◌||◌}
use Rattle.std.specs.List.{All, AllByRecursion}
use Rattle.std.specs.List.Sorted.{IsPermutation}
use Rattle.std.specs.Str.{bytes_eq}
use Rattle.std.proofs.lemmas.List.Elements.{All-append}
use Rattle.std.proofs.lemmas.List.Sorted.{All-permutation, length_permutation}
use Rattle.fd_key.specs.Pairs.{Pair, key_text, rest_text, pair_text}
use Rattle.fd_request.specs.Expansion.{Keyword}
use Rattle.fd_request.specs.Grammar.{has_name}
use Rattle.fd_request.specs.Keywords.{differ_after}
use Rattle.fd_cubes.specs.Cubes.{IsPlain, alone, more_values, values_text, keywords_text, cube_text}
use Rattle.fd_cubes.specs.Axes.{IsFilled, with_values, values_at, SameBut, width}

-- ---- names

pub named_more : (b c : List Keyword) (k : Keyword) (n : List ℕ) → has_name b n ≡ has_name c n → has_name (b ++ k ∷ []) n ≡ has_name (c ++ k ∷ []) n
named_more b c k n e = pushed b ∙ ap (λ t. t || (bytes_eq k.name n || false)) e ∙ sym (pushed c)
  where
    pushed : (l : List Keyword) → has_name (l ++ k ∷ []) n ≡ (has_name l n || (bytes_eq k.name n || false))
    pushed [] = refl
    pushed (x ∷ l) = ap (λ t. bytes_eq x.name n || t) (pushed l) ∙ go (bytes_eq x.name n)
      where
        go : (t : Bool) → (t || (has_name l n || (bytes_eq k.name n || false))) ≡ ((t || has_name l n) || (bytes_eq k.name n || false))
        go true = refl
        go false = refl

-- only the names of the keywords before count
differ_alike : (b c ks : List Keyword) → ((n : List ℕ) → has_name b n ≡ has_name c n) → differ_after b ks ≡ differ_after c ks
differ_alike b c [] e = refl
differ_alike b c (k ∷ ks) e = ap (λ t. not t && differ_after (b ++ k ∷ []) ks) (e k.name) ∙ ap (λ t. not (has_name c k.name) && t) (differ_alike (b ++ k ∷ []) (c ++ k ∷ []) ks (λ n. named_more b c k n (e n)))

same_end : (b : List Keyword) (k : Keyword) (vs : List (List ℕ)) (n : List ℕ) → has_name (b ++ record { name = k.name; values = vs } ∷ []) n ≡ has_name (b ++ k ∷ []) n
same_end [] k vs n = refl
same_end (x ∷ b) k vs n = ap (λ t. bytes_eq x.name n || t) (same_end b k vs n)

pub names_stay : (b : List Keyword) (p : ℕ) (vs : List (List ℕ)) (ks : List Keyword) → differ_after b (with_values p vs ks) ≡ differ_after b ks
names_stay b p vs [] = refl
names_stay b zero vs (k ∷ ks) = ap (λ t. not (has_name b k.name) && t) (differ_alike (b ++ record { name = k.name; values = vs } ∷ []) (b ++ k ∷ []) ks (same_end b k vs))
names_stay b (suc p) vs (k ∷ ks) = ap (λ t. not (has_name b k.name) && t) (names_stay (b ++ k ∷ []) p vs ks)

-- ---- values

abbrev pub Filled : List Keyword → Type 0
Filled ks = AllByRecursion IsFilled ks

first_name : (k l : Keyword) (ks ls : List Keyword) → SameBut zero (k ∷ ks) (l ∷ ls) → k.name ≡ l.name
first_name k l ks ls e =
    let heads : record { name = k.name; values = [] } ≡ record { name = l.name; values = [] } = cc in
    ap (λ (x : Keyword). x.name) heads

others_same : (p : ℕ) (k l : Keyword) (ks ls : List Keyword) → SameBut (suc p) (k ∷ ks) (l ∷ ls) → SameBut p ks ls
others_same p k l ks ls e = cc

none_left : (p : ℕ) (k : Keyword) (ks : List Keyword) (P : Type 0) → SameBut p (k ∷ ks) [] → P
none_left zero k ks P e = absurd (cc)
none_left (suc p) k ks P e = absurd (cc)

pub filled_joined : (p : ℕ) (ks ls : List Keyword) → SameBut p ks ls → Filled ks → Filled ls → Filled (with_values p (values_at p ks ++ values_at p ls) ks)
filled_joined p [] ls e hk hl = tt
filled_joined p (k ∷ ks) [] e hk hl = none_left p k ks _ e
filled_joined zero (k ∷ ks) (l ∷ ls) e hk hl =
    let other : All (IsPlain k.name) l.values = subst (λ (n : List ℕ). All (IsPlain n) l.values) (sym (first_name k l ks ls e)) hl.0.plain in
    (record { some = omega (arith, length-append k.values l.values, hk.0.some); plain = All-append (IsPlain k.name) k.values l.values hk.0.plain other }, hk.1)
filled_joined (suc p) (k ∷ ks) (l ∷ ls) e hk hl = (hk.0, filled_joined p ks ls (others_same p k l ks ls e) hk.1 hl.1)

pub filled_reordered : (p : ℕ) (vs : List (List ℕ)) (ks : List Keyword) → IsPermutation (values_at p ks) vs → Filled ks → Filled (with_values p vs ks)
filled_reordered p vs [] h hk = tt
filled_reordered zero vs (k ∷ ks) h hk = (record { some = omega (arith, length_permutation k.values vs h, hk.0.some); plain = All-permutation (IsPlain k.name) k.values vs h hk.0.plain }, hk.1)
filled_reordered (suc p) vs (k ∷ ks) h hk = (hk.0, filled_reordered p vs ks h hk.1)

pub some_at : (p : ℕ) (ks : List Keyword) → p < length ks → Filled ks → 0 < length (values_at p ks)
some_at p [] lt hk = absurd (omega arith)
some_at zero (k ∷ ks) lt hk = hk.0.some
some_at (suc p) (k ∷ ks) lt hk = some_at p ks (omega arith) hk.1

-- ---- sizes

pub width_joined : (us vs : List (List ℕ)) → width (us ++ vs) ≡ width us + width vs
width_joined [] vs = omega arith
width_joined (u ∷ us) vs = omega (arith, width_joined us vs)

more_length : (vs : List (List ℕ)) → length (more_values vs) ≡ width vs
more_length [] = refl
more_length (v ∷ vs) = omega (arith, length-append v (more_values vs), more_length vs)

values_length : (vs : List (List ℕ)) → 0 < length vs → length (values_text vs) + 1 ≡ width vs
values_length [] some = absurd (omega arith)
values_length (v ∷ vs) some = omega (arith, length-append v (more_values vs), more_length vs)

pub keyword_length : (k : Keyword) (ks : List Keyword) → 0 < length k.values → length (keywords_text (k ∷ ks)) ≡ 1 + length k.name + width k.values + length (keywords_text ks)
keyword_length k ks some =
    omega (arith, length-append k.name (61 ∷ (values_text k.values ++ keywords_text ks)), length-append (values_text k.values) (keywords_text ks), values_length k.values some)

pub text_changed : (p : ℕ) (vs : List (List ℕ)) (ks : List Keyword) → p < length ks → 0 < length (values_at p ks) → 0 < length vs
    → length (keywords_text (with_values p vs ks)) + width (values_at p ks) ≡ length (keywords_text ks) + width vs
text_changed p vs [] lt some more = absurd (omega arith)
text_changed zero vs (k ∷ ks) lt some more = omega (arith, keyword_length k ks some, keyword_length (record { name = k.name; values = vs }) ks more)
text_changed (suc p) vs (k ∷ ks) lt some more =
    let rest = text_changed p vs ks (omega arith) some more in
    let before = go (with_values p vs ks) in
    let after = go ks in
    omega (arith, rest, before, after)
  where
    go : (ls : List Keyword) → length (keywords_text (k ∷ ls)) ≡ 2 + length k.name + length (values_text k.values) + length (keywords_text ls)
    go ls = omega (arith, length-append k.name (61 ∷ (values_text k.values ++ keywords_text ls)), length-append (values_text k.values) (keywords_text ls))

pub size_joined : (p : ℕ) (vs : List (List ℕ)) (ks : List Keyword) → p < length ks → 0 < length (values_at p ks) → length (cube_text (with_values p (values_at p ks ++ vs) ks)) ≡ length (cube_text ks) + width vs
size_joined p vs ks lt some =
    let all = values_at p ks ++ vs in
    let changed = text_changed p all ks lt some (omega (arith, length-append (values_at p ks) vs, some)) in
    omega (arith, changed, width_joined (values_at p ks) vs)

pub size_alone : (p : Pair) (ps : List Pair) → length (cube_text (alone (p ∷ ps))) ≡ length (key_text (p ∷ ps)) + 9
size_alone p ps = omega (arith, rest (p ∷ ps), length-append (pair_text p) (rest_text ps))
  where
    rest : (qs : List Pair) → length (keywords_text (alone qs)) ≡ length (rest_text qs)
    rest [] = refl
    rest (q ∷ qs) = omega (arith, keyword_length (record { name = q.0; values = q.1 ∷ [] }) (alone qs) (omega arith), length-append (pair_text q) (rest_text qs), length-append q.0 (61 ∷ q.1), rest qs)
