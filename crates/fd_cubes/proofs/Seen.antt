-- The code's names with values, one at a time.
use Rattle.std.proofs.Common.{◌≡◌, ◌≢◌, ◌<◌, ◌≤◌, ◌+◌, ◌-◌, ◌∙◌, ℕ, zero, suc, Bool, true, false, cond, eqb, List, [], ◌∷◌, ◌++◌, length, get_or, set, take, drop, refl, sym, ap, append_assoc, arith}
use Rattle.std.specs.Prelude.{string_bytes, String, min, ◌^◌, slice_get, Some}
use Rattle.std.specs.declared.alloc.Global.{Global}
use Rattle.std.proofs.lemmas.List.{map_more, length-map, length-take, at_drop_more, at_drop_all, get_or-map}
use Rattle.std.proofs.lemmas.Bool.{eq-eqb, ne_eqb, cond-true}
use Rattle.std.proofs.lemmas.Bool.Decides.{nat_tests}
use Rattle.fd_spelling.specs.Texts.{texts}
use Rattle.fd_key.specs.Pairs.{Pair}
use Rattle.fd_request.specs.Expansion.{Keyword}
use Rattle.fd_cubes.specs.declared.axis.Axis as code_axis
use Rattle.fd_cubes.specs.Cubes.{alone}
use Rattle.fd_cubes.specs.Axes.{with_values, values_at, values_code, code, width, SameBut, seen_axis, seen_axes}

-- the keyword at its place, without values if it is this place
abbrev pub blank_at : ℕ → ℕ → Keyword → Keyword
blank_at p i k = cond (eqb p i) (record { name = k.name; values = [] }) k

pub with_pushed : (p : ℕ) (ks : List Keyword) (k : Keyword) → with_values p [] (ks ++ k ∷ []) ≡ with_values p [] ks ++ blank_at p (length ks) k ∷ []
with_pushed zero [] k = refl
with_pushed (suc p) [] k = ap (λ b. cond b (record { name = k.name; values = [] }) k ∷ []) (sym (ne_eqb (suc p) 0 (λ e. omega (arith, e))))
with_pushed zero (l ∷ ls) k = ap (λ b. (record { name = l.name; values = [] } ∷ ls) ++ cond b (record { name = k.name; values = [] }) k ∷ []) (sym (ne_eqb 0 (suc (length ls)) (λ e. omega (arith, e))))
with_pushed (suc p) (l ∷ ls) k =
    ap (λ (x : List Keyword). l ∷ x) (with_pushed p ls k) ∙ ap (λ b. l ∷ (with_values p [] ls ++ cond b (record { name = k.name; values = [] }) k ∷ [])) (same_test p (length ls))
  where
    same_test : (m n : ℕ) → eqb m n ≡ eqb (suc m) (suc n)
    same_test m n = grind (arith, nat_tests)

seen_more : (p i : ℕ) (xs : List code_axis.Axis) (a : code_axis.Axis) → i < length xs → a ≡ get_or xs i a
    → with_values p [] (seen_axes (take (i + 1) xs)) ≡ with_values p [] (seen_axes (take i xs)) ++ blank_at p i (seen_axis a) ∷ []
seen_more p i xs a lt is =
    let n : length (seen_axes (take i xs)) ≡ i = omega (arith, length-map (take i xs) seen_axis, length-take i xs, lt) in
    ap (with_values p []) (map_more seen_axis xs i a lt) ∙ with_pushed p (seen_axes (take i xs)) (seen_axis (get_or xs i a))
    ∙ ap (λ m. with_values p [] (seen_axes (take i xs)) ++ blank_at p m (seen_axis (get_or xs i a)) ∷ []) n
    ∙ ap (λ (x : code_axis.Axis). with_values p [] (seen_axes (take i xs)) ++ blank_at p i (seen_axis x) ∷ []) (sym is)

-- one more of each
pub same_more : (p i : ℕ) (one other : List code_axis.Axis) (a b : code_axis.Axis) → i < length one → i < length other → a ≡ get_or one i a → b ≡ get_or other i b
    → SameBut p (seen_axes (take i one)) (seen_axes (take i other)) → blank_at p i (seen_axis a) ≡ blank_at p i (seen_axis b) → SameBut p (seen_axes (take (i + 1) one)) (seen_axes (take (i + 1) other))
same_more p i one other a b lt less ia ib so_far here =
    seen_more p i one a lt ia ∙ ap (λ (ks : List Keyword). ks ++ blank_at p i (seen_axis a) ∷ []) so_far ∙ ap (λ k. with_values p [] (seen_axes (take i other)) ++ k ∷ []) here ∙ sym (seen_more p i other b less ib)

pub blank_here : (p i : ℕ) (k l : Keyword) → i ≡ p → k.name ≡ l.name → blank_at p i k ≡ blank_at p i l
blank_here p i k l e n =
    cond-true (eqb p i) (record { name = k.name; values = [] }) k (eq-eqb p i (sym e)) ∙ ap (λ (m : List ℕ). record { name = m; values = [] }) n ∙ sym (cond-true (eqb p i) (record { name = l.name; values = [] }) l (eq-eqb p i (sym e)))

pub blank_there : (p i : ℕ) (k l : Keyword) → k.name ≡ l.name → k.values ≡ l.values → blank_at p i k ≡ blank_at p i l
blank_there p i k l n v = ap (λ (m : List ℕ). cond (eqb p i) (record { name = m; values = [] }) (record { name = m; values = k.values })) n ∙ ap (λ (vs : List (List ℕ)). cond (eqb p i) (record { name = l.name; values = [] }) (record { name = l.name; values = vs })) v

-- ---- where two are the same but at a place

name_stays : (p i : ℕ) (ks : List Keyword) (d : Keyword) → (get_or (with_values p [] ks) i d).name ≡ (get_or ks i d).name
name_stays p i [] d = refl
name_stays zero zero (k ∷ ks) d = refl
name_stays zero (suc i) (k ∷ ks) d = refl
name_stays (suc p) zero (k ∷ ks) d = refl
name_stays (suc p) (suc i) (k ∷ ks) d = name_stays p i ks d

other_stays : (p i : ℕ) (ks : List Keyword) (d : Keyword) → i ≢ p → get_or (with_values p [] ks) i d ≡ get_or ks i d
other_stays p i [] d n = refl
other_stays zero zero (k ∷ ks) d n = absurd (n refl)
other_stays zero (suc i) (k ∷ ks) d n = refl
other_stays (suc p) zero (k ∷ ks) d n = refl
other_stays (suc p) (suc i) (k ∷ ks) d n = other_stays p i ks d (λ e. n (ap suc e))

seen_at : (xs : List code_axis.Axis) (i : ℕ) (a : code_axis.Axis) (d : Keyword) → i < length xs → a ≡ get_or xs i a → get_or (seen_axes xs) i d ≡ seen_axis a
seen_at xs i a d lt is = get_or-map seen_axis xs i a d lt ∙ ap seen_axis (sym is)

pub same_name : (p i : ℕ) (xs ys : List code_axis.Axis) (a b : code_axis.Axis) → SameBut p (seen_axes xs) (seen_axes ys) → i < length xs → i < length ys → a ≡ get_or xs i a → b ≡ get_or ys i b → string_bytes a.name ≡ string_bytes b.name
same_name p i xs ys a b same lt less ia ib =
    let d = seen_axis a in
    sym (ap (λ (k : Keyword). k.name) (seen_at xs i a d lt ia)) ∙ sym (name_stays p i (seen_axes xs) d) ∙ ap (λ (l : List Keyword). (get_or l i d).name) same
    ∙ name_stays p i (seen_axes ys) d ∙ ap (λ (k : Keyword). k.name) (seen_at ys i b d less ib)

pub same_there : (p i : ℕ) (xs ys : List code_axis.Axis) (a b : code_axis.Axis) → SameBut p (seen_axes xs) (seen_axes ys) → i ≢ p → i < length xs → i < length ys → a ≡ get_or xs i a → b ≡ get_or ys i b → texts a.values.items ≡ texts b.values.items
same_there p i xs ys a b same other lt less ia ib =
    let d = seen_axis a in
    sym (ap (λ (k : Keyword). k.values) (seen_at xs i a d lt ia)) ∙ sym (ap (λ (k : Keyword). k.values) (other_stays p i (seen_axes xs) d other)) ∙ ap (λ (l : List Keyword). (get_or l i d).values) same
    ∙ ap (λ (k : Keyword). k.values) (other_stays p i (seen_axes ys) d other) ∙ ap (λ (k : Keyword). k.values) (seen_at ys i b d less ib)

long_with : (p : ℕ) (ks : List Keyword) → length (with_values p [] ks) ≡ length ks
long_with p [] = refl
long_with zero (k ∷ ks) = refl
long_with (suc p) (k ∷ ks) = ap suc (long_with p ks)

pub same_length : (p : ℕ) (xs ys : List code_axis.Axis) → SameBut p (seen_axes xs) (seen_axes ys) → length xs ≡ length ys
same_length p xs ys same =
    let e : length (seen_axes xs) ≡ length (seen_axes ys) = sym (long_with p (seen_axes xs)) ∙ ap (λ (l : List Keyword). length l) same ∙ long_with p (seen_axes ys) in
    omega (arith, e, length-map xs seen_axis, length-map ys seen_axis)

pub texts_at : (i : ℕ) (vs ws : List (String Global)) (v w : String Global) → texts vs ≡ texts ws → i < length vs → i < length ws → v ≡ get_or vs i v → w ≡ get_or ws i w → string_bytes v ≡ string_bytes w
texts_at i vs ws v w e lt less iv iw =
    let d = string_bytes v in
    ap string_bytes iv ∙ sym (get_or-map string_bytes vs i v d lt) ∙ ap (λ (l : List (List ℕ)). get_or l i d) e ∙ get_or-map string_bytes ws i w d less ∙ ap string_bytes (sym iw)

-- the code's values at a place
pub at_place : (p : ℕ) (xs : List code_axis.Axis) (a : code_axis.Axis) → p < length xs → a ≡ get_or xs p a → texts a.values.items ≡ values_at p (seen_axes xs)
at_place p [] a lt is = absurd (omega arith)
at_place zero (x ∷ xs) a lt is = ap (λ (y : code_axis.Axis). texts y.values.items) is
at_place (suc p) (x ∷ xs) a lt is = at_place p xs a (omega arith) is

pub past_places : (p : ℕ) (xs : List code_axis.Axis) → length xs ≤ p → [] ≡ values_at p (seen_axes xs)
past_places p [] le = refl
past_places zero (x ∷ xs) le = absurd (omega arith)
past_places (suc p) (x ∷ xs) le = past_places p xs (omega arith)

pub at_place_or : (p : ℕ) (xs : List code_axis.Axis) (a : code_axis.Axis) → p < length xs → texts (get_or xs p a).values.items ≡ values_at p (seen_axes xs)
at_place_or p [] a lt = absurd (omega arith)
at_place_or zero (x ∷ xs) a lt = refl
at_place_or (suc p) (x ∷ xs) a lt = at_place_or p xs a (omega arith)

-- other values in their place
pub set_place : (p : ℕ) (xs : List code_axis.Axis) (a b : code_axis.Axis) (vs : List (List ℕ)) → p < length xs → b ≡ get_or xs p b → a.name ≡ b.name → texts a.values.items ≡ vs → seen_axes (set xs p a) ≡ with_values p vs (seen_axes xs)
set_place p [] a b vs lt is name e = absurd (omega arith)
set_place zero (x ∷ xs) a b vs lt is name e =
    let named : string_bytes a.name ≡ string_bytes x.name = ap string_bytes name ∙ ap (λ (y : code_axis.Axis). string_bytes y.name) is in
    ap (λ (n : List ℕ). record { name = n; values = texts a.values.items } ∷ seen_axes xs) named ∙ ap (λ (ws : List (List ℕ)). record { name = string_bytes x.name; values = ws } ∷ seen_axes xs) e
set_place (suc p) (x ∷ xs) a b vs lt is name e = ap (λ (ks : List Keyword). seen_axis x ∷ ks) (set_place p xs a b vs (omega arith) is name e)

pub size_is : (s m : ℕ) (vs ws : List (List ℕ)) → m ≡ min (width vs) (2 ^ 64 - 1) → vs ≡ ws → s + width ws ≤ 65536 → s + m ≡ s + width ws
size_is s m vs ws e same room = let w : width vs ≡ width ws = ap width same in omega (arith, e, w, room)

-- ---- the names of a key

take_get : {X : Type 0} (xs : List X) (i : ℕ) (x : X) → slice_get xs i ≡ Some x → take (i + 1) xs ≡ take i xs ++ x ∷ []
take_get [] i x e = absurd (cc)
take_get (y ∷ ys) zero x e = let same : y ≡ x = cc in ap (λ z. z ∷ []) same
take_get {X} (y ∷ ys) (suc i) x e = ap (λ n. take n (y ∷ ys)) (let s : suc i + 1 ≡ suc (i + 1) = omega arith in s) ∙ ap (λ (l : List X). y ∷ l) (take_get ys i x e)

alone_joined : (xs ys : List Pair) → alone (xs ++ ys) ≡ alone xs ++ alone ys
alone_joined [] ys = refl
alone_joined (x ∷ xs) ys = ap (λ (l : List Keyword). record { name = x.0; values = x.1 ∷ [] } ∷ l) (alone_joined xs ys)

axes_joined : (xs ys : List code_axis.Axis) → seen_axes (xs ++ ys) ≡ seen_axes xs ++ seen_axes ys
axes_joined [] ys = refl
axes_joined (x ∷ xs) ys = ap (λ (l : List Keyword). seen_axis x ∷ l) (axes_joined xs ys)

pub alone_more : (key : List Pair) (i : ℕ) (axes new : List code_axis.Axis) (a : code_axis.Axis) (n v : List ℕ) → seen_axes axes ≡ alone (take i key) → new ≡ axes ++ a ∷ [] → seen_axis a ≡ record { name = n; values = v ∷ [] } → slice_get key i ≡ Some (n, v)
    → seen_axes new ≡ alone (take (i + 1) key)
alone_more key i axes new a n v so_far e is get =
    ap seen_axes e ∙ axes_joined axes (a ∷ []) ∙ ap (λ (l : List Keyword). l ++ seen_axis a ∷ []) so_far ∙ ap (λ k. alone (take i key) ++ k ∷ []) is
    ∙ sym (alone_joined (take i key) ((n, v) ∷ [])) ∙ ap alone (sym (take_get key i (n, v) get))

-- ---- widths

pub width_end : (total i : ℕ) (vs : List (String Global)) → length vs ≤ i → total ≤ 2 ^ 64 - 1 → min (total + width (texts (drop i vs))) (2 ^ 64 - 1) ≡ min (width (texts vs)) (2 ^ 64 - 1) → total ≡ min (width (texts vs)) (2 ^ 64 - 1)
width_end total i vs le small e =
    let none : width (texts (drop i vs)) ≡ 0 = at_drop_all (λ (us : List (String Global)). width (texts us)) vs i le in
    omega (arith, e, none)

pub width_more : (total i : ℕ) (vs : List (String Global)) (v : String Global) → i < length vs → v ≡ get_or vs i v → width (texts (drop i vs)) ≡ length (string_bytes v) + 1 + width (texts (drop (i + 1) vs))
width_more total i vs v lt is =
    at_drop_more (λ (us : List (String Global)). width (texts us)) vs i v lt ∙ ap (λ (x : String Global). length (string_bytes x) + 1 + width (texts (drop (i + 1) vs))) (sym is)

pub texts_more : (i : ℕ) (vs ws : List (String Global)) (v w : String Global) → i < length vs → i < length ws → v ≡ get_or vs i v → w ≡ get_or ws i w → string_bytes v ≡ string_bytes w → texts (take i vs) ≡ texts (take i ws) → texts (take (i + 1) vs) ≡ texts (take (i + 1) ws)
texts_more i vs ws v w lt less iv iw e so_far =
    map_more string_bytes vs i v lt ∙ ap (λ (l : List (List ℕ)). l ++ string_bytes (get_or vs i v) ∷ []) so_far ∙ ap (λ (t : List ℕ). texts (take i ws) ++ t ∷ []) (ap string_bytes (sym iv) ∙ e ∙ ap string_bytes iw) ∙ sym (map_more string_bytes ws i w less)

-- whatever stands for what is not there
pub same_item : {X : Type 0} (xs : List X) (i : ℕ) (a b : X) → i < length xs → a ≡ get_or xs i a → get_or xs i b ≡ a
same_item [] i a b lt is = absurd (omega arith)
same_item (x ∷ xs) zero a b lt is = sym is
same_item (x ∷ xs) (suc i) a b lt is = same_item xs i a b (omega arith) is

-- ---- texts of keywords

code_joined : (ks ls : List Keyword) → code (ks ++ ls) ≡ code ks ++ code ls
code_joined [] ls = refl
code_joined (k ∷ ks) ls =
    ap (λ (t : List ℕ). k.name ++ 61 ∷ (values_code k.values ++ 44 ∷ t)) (code_joined ks ls) ∙ sym (shape k.name (values_code k.values) (code ks) (code ls))
  where
    shape : (a b c d : List ℕ) → (a ++ 61 ∷ (b ++ 44 ∷ c)) ++ d ≡ a ++ 61 ∷ (b ++ 44 ∷ (c ++ d))
    shape a b c d = append_assoc a (61 ∷ (b ++ 44 ∷ c)) d ∙ ap (λ (t : List ℕ). a ++ 61 ∷ t) (append_assoc b (44 ∷ c) d)

pub any_default : {X : Type 0} (xs : List X) (i : ℕ) (a b : X) → i < length xs → get_or xs i a ≡ get_or xs i b
any_default [] i a b lt = absurd (omega arith)
any_default (x ∷ xs) zero a b lt = refl
any_default (x ∷ xs) (suc i) a b lt = any_default xs i a b (omega arith)

pub code_more : (p i : ℕ) (xs : List code_axis.Axis) (a b : code_axis.Axis) (old new name : List ℕ) (values : List (List ℕ)) → i < length xs → old ≡ code (with_values p [] (seen_axes (take i xs)))
    → new ≡ old ++ code (record { name = name; values = values } ∷ []) → name ≡ string_bytes (get_or xs i b).name → values ≡ cond (eqb p i) [] (texts (get_or xs i a).values.items) → new ≡ code (with_values p [] (seen_axes (take (i + 1) xs)))
code_more p i xs a b old new name values lt so_far e named valued =
    let y : code_axis.Axis = get_or xs i a in
    let here : name ≡ string_bytes y.name = named ∙ ap (λ (x : code_axis.Axis). string_bytes x.name) (any_default xs i b a lt) in
    let k : record { name = name; values = values } ≡ blank_at p i (seen_axis y) =
    ap (λ (n : List ℕ). record { name = n; values = values }) here ∙ ap (λ (vs : List (List ℕ)). record { name = string_bytes y.name; values = vs }) valued ∙ go (eqb p i) y in
    e ∙ ap (λ (t : List ℕ). t ++ code (record { name = name; values = values } ∷ [])) so_far ∙ ap (λ (k : Keyword). code (with_values p [] (seen_axes (take i xs))) ++ code (k ∷ [])) k
    ∙ sym (code_joined (with_values p [] (seen_axes (take i xs))) (blank_at p i (seen_axis y) ∷ [])) ∙ ap code (sym (seen_more p i xs y lt (any_default xs i a y lt)))
  where
    go : (t : Bool) (y : code_axis.Axis) → record { name = string_bytes y.name; values = cond t [] (texts y.values.items) } ≡ cond t (record { name = string_bytes y.name; values = [] }) (seen_axis y)
    go true y = refl
    go false y = refl
