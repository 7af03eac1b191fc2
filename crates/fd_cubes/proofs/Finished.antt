-- Cubes as they are handed out.
use Rattle.std.proofs.Common.{◌≡◌, ◌<◌, ◌≤◌, ◌+◌, ◌-◌, ◌*◌, ◌∙◌, ℕ, zero, suc, List, [], ◌∷◌, ◌++◌, length, get_or, drop, refl, sym, ap, subst, append_assoc, length-append, arith}
use Rattle.std.specs.Prelude.{string_bytes}
use Rattle.std.specs.List.{All, AllByRecursion}
use Rattle.std.specs.List.Sorted.{IsPermutation}
use Rattle.std.proofs.lemmas.List.{append-nil, length-map, at_drop_more, at_drop_all}
use Rattle.std.proofs.lemmas.Nat.{mul-le}
use Rattle.std.proofs.Math.Nat.{mul_comm}
use Rattle.std.proofs.lemmas.List.Elements.{recursion_from_All, All-from_recursion, All-weaker, All-nil, All-cons}
use Rattle.std.proofs.lemmas.List.Sorted.{IsPermutation-trans, IsPermutation-append_right, IsPermutation-append_comm, All-permutation, length_permutation}
use Rattle.fd_request.proofs.Products.{length-expand}
use Rattle.fd_key.specs.Pairs.{Pair, key_text}
use Rattle.fd_spelling.specs.Texts.{texts}
use Rattle.fd_request.specs.Expansion.{Keyword, expand}
use Rattle.fd_cubes.specs.declared.axis.Axis as code_axis
use Rattle.fd_cubes.specs.declared.grid.Grid as code_grid
use Rattle.fd_cubes.specs.Cubes.{AreApart, AreKeys, IsAxis, IsCube, keys_of}
use Rattle.fd_cubes.specs.Axes.{AreSorted, IsFilled, seen_axis, seen_axes}
use Rattle.fd_cubes.specs.Grids.{seen_grid, seen_grids, IsGrid}
use Rattle.fd_cubes.proofs.Distinct.{apart-permutation, apart_front, apart_behind, get_front, get_behind}
use Rattle.fd_cubes.proofs.Permuted.{same_order}
use Rattle.fd_cubes.proofs.Rising.{rising}
use Rattle.fd_cubes.proofs.Sizes.{Filled}
use Rattle.fd_cubes.proofs.Ordered.{Rising, Sorted, axes_apart}

abbrev Apart : List Keyword → Type 0
Apart ks = AllByRecursion (λ k. AreApart k.values) ks

rising_all : (ks : List Keyword) → Sorted ks → Apart ks → Rising ks
rising_all [] s apart = tt
rising_all (k ∷ ks) s apart = (rising k.values s.0 apart.0, rising_all ks s.1 apart.1)

axes_all : (ls : List Keyword) → Filled ls → Rising ls → AllByRecursion IsAxis ls
axes_all [] f r = tt
axes_all (l ∷ ls) f r = (record { some = f.0.some; plain = f.0.plain; rising = r.0 }, axes_all ls f.1 r.1)

pub finished : (g : code_grid.Grid) → IsGrid g → AreKeys (expand (seen_grid g)) → IsCube (seen_grid g)
finished g good keys =
    let ks = seen_grid g in
    let f = recursion_from_All IsFilled ks good.filled in
    let up = rising_all ks (recursion_from_All (λ (k : Keyword). AreSorted k.values) ks good.sorted) (axes_apart ks f keys.apart) in
    record {
      once = good.once;
      axes = All-from_recursion IsAxis ks (axes_all ks f up);
      size = omega (arith, good.short, good.sized);
      few = keys.few;
      short = keys.short;
    }

-- ---- numbers of keys

pub count_start : (i : ℕ) (xs : List code_axis.Axis) → length xs ≤ i → 1 ≡ length (expand (seen_axes (drop i xs)))
unfolding expand
count_start i xs le = sym (at_drop_all (λ (us : List code_axis.Axis). length (expand (seen_axes us))) xs i le)

pub count_more : (i : ℕ) (xs : List code_axis.Axis) (a : code_axis.Axis) → i < length xs → length (expand (seen_axes (drop i xs))) ≡ length (get_or xs i a).values.items * length (expand (seen_axes (drop (i + 1) xs)))
count_more i xs a lt =
    at_drop_more (λ (us : List code_axis.Axis). length (expand (seen_axes us))) xs i a lt
    ∙ length-expand (seen_axis (get_or xs i a)) (seen_axes (drop (i + 1) xs))
    ∙ ap (λ n. n * length (expand (seen_axes (drop (i + 1) xs)))) (length-map (get_or xs i a).values.items string_bytes)

keys_some : (ks : List Keyword) → Filled ks → 1 ≤ length (expand ks)
unfolding expand
keys_some [] f = omega arith
keys_some (k ∷ ks) f =
    let both : 1 * 1 ≤ length k.values * length (expand ks) = mul-le 1 1 (length k.values) (length (expand ks)) (omega (arith, f.0.some)) (keys_some ks f.1) in
    subst (λ n. 1 ≤ n) (sym (length-expand k ks)) both

pub count_within : (i : ℕ) (xs : List code_axis.Axis) → Filled (seen_axes xs) → length (expand (seen_axes (drop i xs))) ≤ length (expand (seen_axes xs))
count_within zero xs f = omega arith
count_within (suc i) [] f = omega arith
count_within (suc i) (x ∷ xs) f =
    let rest = count_within i xs f.1 in
    let m = length (texts x.values.items) in
    let n = length (expand (seen_axes xs)) in
    let more : 1 * n ≤ m * n = mul-le 1 n m n (omega (arith, f.0.some)) (omega arith) in
    let whole : length (expand (seen_axes (x ∷ xs))) ≡ m * n = length-expand (seen_axis x) (seen_axes xs) in
    omega (arith, rest, more, whole)

-- ---- many

pub keys_moved : (xs ys : List (List Pair)) → IsPermutation xs ys → AreKeys xs → AreKeys ys
keys_moved xs ys h keys = record {
  few = omega (arith, length_permutation xs ys h, keys.few);
  short = All-permutation (λ key. length (key_text key) ≤ 255) xs ys h keys.short;
  apart = apart-permutation xs ys h keys.apart;
}

keys_front : (xs ys : List (List Pair)) → AreKeys (xs ++ ys) → AreKeys xs
keys_front xs ys keys = record {
  few = omega (arith, length-append xs ys, keys.few);
  short = λ k d lt. subst (λ (key : List Pair). length (key_text key) ≤ 255) (get_front xs ys k d lt) (keys.short k d (omega (arith, length-append xs ys, lt)));
  apart = apart_front xs ys keys.apart;
}

keys_behind : (xs ys : List (List Pair)) → AreKeys (xs ++ ys) → AreKeys ys
keys_behind xs ys keys = record {
  few = omega (arith, length-append xs ys, keys.few);
  short = λ k d lt. subst (λ (key : List Pair). length (key_text key) ≤ 255) (get_behind xs ys k d) (keys.short (length xs + k) d (omega (arith, length-append xs ys, lt)));
  apart = apart_behind xs ys keys.apart;
}

-- the keys of each of the cubes
pub each_keys : (gs : List code_grid.Grid) → AreKeys (keys_of (seen_grids gs)) → All (λ g. AreKeys (expand (seen_grid g))) gs
each_keys [] keys = All-nil (λ (g : code_grid.Grid). AreKeys (expand (seen_grid g)))
each_keys (g ∷ gs) keys =
    All-cons (λ (x : code_grid.Grid). AreKeys (expand (seen_grid x))) g gs (keys_front (expand (seen_grid g)) (keys_of (seen_grids gs)) keys) (each_keys gs (keys_behind (expand (seen_grid g)) (keys_of (seen_grids gs)) keys))

pub each_cube : (gs : List code_grid.Grid) → All IsGrid gs → AreKeys (keys_of (seen_grids gs)) → All (λ g. IsCube (seen_grid g)) gs
each_cube gs each keys k d lt = finished (get_or gs k d) (each k d lt) (each_keys gs keys k d lt)

pub cubes_start : (gs : List code_grid.Grid) (done : List (List Keyword)) → done ≡ [] → IsPermutation (seen_grids gs) (done ++ seen_grids gs)
cubes_start gs done none = same_order _ _ (ap (λ (l : List (List Keyword)). l ++ seen_grids gs) (sym none))

seen_joined : (gs hs : List code_grid.Grid) → seen_grids (gs ++ hs) ≡ seen_grids gs ++ seen_grids hs
seen_joined [] hs = refl
seen_joined (g ∷ gs) hs = ap (λ (l : List (List Keyword)). seen_grid g ∷ l) (seen_joined gs hs)

-- the last of the cubes goes to those that are done
pub cubes_more : (gs left rest : List code_grid.Grid) (done new : List (List Keyword)) (g : code_grid.Grid) (c : List Keyword) → left ≡ rest ++ g ∷ [] → new ≡ done ++ c ∷ [] → c ≡ seen_grid g → IsPermutation (seen_grids gs) (done ++ seen_grids left)
    → IsPermutation (seen_grids gs) (new ++ seen_grids rest)
cubes_more gs left rest done new g c e n is h =
    let l = seen_grids rest in
    let parts : seen_grids left ≡ l ++ c ∷ [] = ap seen_grids e ∙ seen_joined rest (g ∷ []) ∙ ap (λ (x : List Keyword). l ++ x ∷ []) (sym is) in
    IsPermutation-trans _ _ _ h
    (IsPermutation-trans _ _ _ (same_order _ _ (ap (λ (m : List (List Keyword)). done ++ m) parts))
    (IsPermutation-trans _ _ _ (IsPermutation-append_right done (l ++ c ∷ []) (c ∷ l) (IsPermutation-append_comm l (c ∷ [])))
    (same_order _ _ (sym (append_assoc done (c ∷ []) l) ∙ ap (λ (m : List (List Keyword)). m ++ l) (sym n)))))

pub cubes_end : (gs left : List code_grid.Grid) (done : List (List Keyword)) → length left ≡ 0 → IsPermutation (seen_grids gs) (done ++ seen_grids left) → IsPermutation (seen_grids gs) done
cubes_end gs [] done none h = IsPermutation-trans _ _ _ h (same_order _ _ (append-nil done))
cubes_end gs (x ∷ left) done none h = absurd (omega (arith, none))

pub count_step : (left : ℕ) (xs : List code_axis.Axis) (a : code_axis.Axis) (count len : ℕ) → 0 < left → left ≤ length xs → count ≡ length (expand (seen_axes (drop left xs))) → len ≡ length (get_or xs (left - 1) a).values.items
    → count * len ≡ length (expand (seen_axes (drop (left - 1) xs)))
count_step left xs a count len some within e n =
    let next : left - 1 + 1 ≡ left = omega arith in
    let m = length (get_or xs (left - 1) a).values.items in
    ap (λ x. x * len) e ∙ ap (λ x. length (expand (seen_axes (drop left xs))) * x) n ∙ mul_comm (length (expand (seen_axes (drop left xs)))) m
    ∙ ap (λ k. m * length (expand (seen_axes (drop k xs)))) (sym next) ∙ sym (count_more (left - 1) xs a (omega arith))

pub step_within : (left : ℕ) (xs : List code_axis.Axis) → All IsFilled (seen_axes xs) → length (expand (seen_axes xs)) ≤ 262144 → length (expand (seen_axes (drop (left - 1) xs))) ≤ 262144
step_within left xs f few = omega (arith, count_within (left - 1) xs (recursion_from_All IsFilled (seen_axes xs) f), few)

pub filled_is : (ks : List Keyword) → IsCube ks → All IsFilled ks
filled_is ks is = All-weaker IsAxis IsFilled (λ k a. record { some = a.some; plain = a.plain }) ks is.axes
