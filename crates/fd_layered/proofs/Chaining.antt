-- Keys with their places, and places behind one another.
use Rattle.std.proofs.Common.{◌≡◌, ◌∙◌, ◌+◌, ℕ, zero, suc, Bool, true, false, List, [], ◌∷◌, ◌++◌, length, map, take, drop, All, Option, Some, None, refl, sym, ap, subst, append_assoc, append-nil, arith, cond}
use Rattle.std.specs.Prelude.{◌==◌, Result, Ok, Err, slice_get}
use Rattle.std.specs.Str.{bytes_eq}
use Rattle.std.proofs.lemmas.Bool.{and_parts}
use Rattle.std.proofs.lemmas.Slice.Eq.{bytes_eq-Decides}
use Rattle.std.proofs.lemmas.List.Elements.{All-nil, All-cons, All-head, All-tail}
use Rattle.fd_key.specs.Pairs.{Pair}
use Rattle.fd_schema.specs.Rules.{Rule, Texts, file_key, place_from}
use Rattle.fd_layers.specs.Based.{based, has_names, is_same_home, under, where_same}
use Rattle.fd_stored.specs.Causes.{Cause}
use Rattle.fd_outcome.specs.Layered.{Laid, all_laid, all_places, laid_at, laid_before, laid_key, places_under, under_before, under_from}
use Rattle.fd_layered.specs.Chains.{AreChains, IsChain, laid_by}

-- ---- lists

pub take_front : {A : Type 0} (n : ℕ) (xs ys : List A) → length xs ≡ n → take n (xs ++ ys) ≡ xs
take_front zero [] ys long = refl
take_front zero (x ∷ xs) ys long = absurd (omega (arith, long))
take_front (suc n) [] ys long = absurd (omega (arith, long))
take_front (suc n) (x ∷ xs) ys long = ap (λ l. x ∷ l) (take_front n xs ys (omega (arith, long)))

pub drop_front : {A : Type 0} (n : ℕ) (xs ys : List A) → length xs ≡ n → drop n (xs ++ ys) ≡ ys
drop_front zero [] ys long = refl
drop_front zero (x ∷ xs) ys long = absurd (omega (arith, long))
drop_front (suc n) [] ys long = absurd (omega (arith, long))
drop_front (suc n) (x ∷ xs) ys long = drop_front n xs ys (omega (arith, long))

ok_is : {A E : Type 0} (x y : A) → (let r : Result A E = Ok x in r ≡ Ok y) → x ≡ y
ok_is x y e = cc

some_is : {A : Type 0} (x y : A) → (let o : Option A = Some x in o ≡ Some y) → x ≡ y
some_is x y e = cc

-- ---- one key

-- a place under a layer has the key's own key in the files
based_same : (rules : List Rule) (key layer : List Pair) (own p : Texts) → place_from 0 rules key ≡ Some own → based rules key layer ≡ Some p → file_key p ≡ file_key own
based_same rules key layer own p is e = go (has_names key layer) e
  where
    home : (other : Texts) (b : Bool) → is_same_home own other ≡ b → cond b (Some other) None ≡ Some p → file_key p ≡ file_key own
    home other true same q =
        let parts = and_parts (own.rule == other.rule) (bytes_eq (file_key own) (file_key other)) same in
        sym ((bytes_eq-Decides (file_key own) (file_key other)).0 parts.1 ∙ ap file_key (some_is other p q))
    home other false same q = absurd (cc q)

    there : (o : Option Texts) → where_same (Some own) o ≡ Some p → file_key p ≡ file_key own
    there None q = absurd (cc q)
    there (Some other) q = home other (is_same_home own other) refl q

    go : (b : Bool) → cond b (where_same (place_from 0 rules key) (place_from 0 rules (under layer key))) None ≡ Some p → file_key p ≡ file_key own
    go true q = there (place_from 0 rules (under layer key)) (ap (λ o. where_same o (place_from 0 rules (under layer key))) (sym is) ∙ q)
    go false q = absurd (cc q)

-- there is one under each layer, each with the same key in the files
under_chain : (rules : List Rule) (key : List Pair) (own : Texts) → place_from 0 rules key ≡ Some own → (n : ℕ) (layers : List (List Pair)) (ps : List Texts) → under_from n rules key layers ≡ Ok ps
    → (length ps ≡ length layers) × All (λ p. file_key p ≡ file_key own) ps
under_chain rules key own is n [] ps e =
    let same = ok_is [] ps e in (ap length (sym same), subst (All (λ p. file_key p ≡ file_key own)) same (All-nil (λ p. file_key p ≡ file_key own)))
under_chain rules key own is n (layer ∷ layers) ps e = go (based rules key layer) (under_from (n + 1) rules key layers) refl refl e (λ qs f. under_chain rules key own is (n + 1) layers qs f)
  where
    go : (o : Option Texts) (r : Result (List Texts) ℕ) → based rules key layer ≡ o → under_from (n + 1) rules key layers ≡ r → under_before n o r ≡ Ok ps
        → ((qs : List Texts) → under_from (n + 1) rules key layers ≡ Ok qs → (length qs ≡ length layers) × All (λ p. file_key p ≡ file_key own) qs)
        → (length ps ≡ length (layer ∷ layers)) × All (λ p. file_key p ≡ file_key own) ps
    go None r f g q later = absurd (cc q)
    go (Some p) (Err m) f g q later = absurd (cc q)
    go (Some p) (Ok qs) f g q later =
        let same = ok_is (p ∷ qs) ps q in
        let rest = later qs g in
        (ap length (sym same) ∙ ap suc rest.0, subst (All (λ p. file_key p ≡ file_key own)) same (All-cons (λ p. file_key p ≡ file_key own) p qs (based_same rules key layer own p is f) rest.1))

pub chain_of : (rules : List Rule) (layers : List (List Pair)) (key : List Pair) (a : Laid) → laid_key rules layers key (place_from 0 rules key) ≡ Ok a → IsChain (length layers) a × (a.key ≡ key)
chain_of rules layers key a e = go (place_from 0 rules key) refl e
  where
    one : (own : Texts) (r : Result (List Texts) ℕ) → place_from 0 rules key ≡ Some own → under_from 1 rules key layers ≡ r → laid_at key own r ≡ Ok a → IsChain (length layers) a × (a.key ≡ key)
    one own (Err n) is f q = absurd (cc q)
    one own (Ok ps) is f q =
        let same = ok_is (record { key = key; place = own; under = ps }) a q in
        let chain = under_chain rules key own is 1 layers ps f in
        subst (λ x. IsChain (length layers) x × (x.key ≡ key)) same (record { long = chain.0; same = chain.1 }, refl)

    go : (o : Option Texts) → place_from 0 rules key ≡ o → laid_key rules layers key o ≡ Ok a → IsChain (length layers) a × (a.key ≡ key)
    go None is q = absurd (cc q)
    go (Some own) is q = one own (under_from 1 rules key layers) is refl q

-- ---- all keys

-- the first keys have these places
abbrev pub HaveLaid : List Rule → List (List Pair) → List (List Pair) → List Laid → Type 0
HaveLaid rules layers ks [] = Unit {0}
HaveLaid rules layers [] (a ∷ cs) = ⊥
HaveLaid rules layers (k ∷ ks) (a ∷ cs) = (laid_key rules layers k (place_from 0 rules k) ≡ Ok a) × HaveLaid rules layers ks cs

module _ (rules : List Rule) (layers : List (List Pair)) where
  pub laid_more : (ks : List (List Pair)) (cs : List Laid) (k : List Pair) (a : Laid) → HaveLaid rules layers ks cs → slice_get ks (length cs) ≡ Some k → laid_key rules layers k (place_from 0 rules k) ≡ Ok a → HaveLaid rules layers ks (cs ++ a ∷ [])
  laid_more [] [] k a so_far at is = absurd (cc at)
  laid_more (l ∷ ks) [] k a so_far at is = let e : l ≡ k = some_is l k at in (ap (λ x. laid_key rules layers x (place_from 0 rules x)) e ∙ is, tt)
  laid_more [] (b ∷ cs) k a so_far at is = absurd so_far
  laid_more (l ∷ ks) (b ∷ cs) k a so_far at is = (so_far.0, laid_more ks cs k a so_far.1 at is)

  pub laid_whole : (ks : List (List Pair)) (cs : List Laid) → HaveLaid rules layers ks cs → length cs ≡ length ks → all_laid rules layers ks ≡ Ok cs
  laid_whole [] [] so_far long = refl
  laid_whole [] (b ∷ cs) so_far long = absurd so_far
  laid_whole (l ∷ ks) [] so_far long = absurd (omega (arith, long))
  laid_whole (l ∷ ks) (b ∷ cs) so_far long =
      ap (λ r. laid_before r (all_laid rules layers ks)) so_far.0 ∙ ap (laid_before (Ok b)) (laid_whole ks cs so_far.1 (omega (arith, long)))

  pub laid_stop : (ks : List (List Pair)) (cs : List Laid) (k : List Pair) (cause : Cause) → HaveLaid rules layers ks cs → slice_get ks (length cs) ≡ Some k → laid_key rules layers k (place_from 0 rules k) ≡ Err cause → all_laid rules layers ks ≡ Err cause
  laid_stop [] [] k cause so_far at is = absurd (cc at)
  laid_stop (l ∷ ks) [] k cause so_far at is = let e : l ≡ k = some_is l k at in ap (λ r. laid_before r (all_laid rules layers ks)) (ap (λ x. laid_key rules layers x (place_from 0 rules x)) e ∙ is)
  laid_stop [] (b ∷ cs) k cause so_far at is = absurd so_far
  laid_stop (l ∷ ks) (b ∷ cs) k cause so_far at is =
      ap (λ r. laid_before r (all_laid rules layers ks)) so_far.0 ∙ ap (laid_before (Ok b)) (laid_stop ks cs k cause so_far.1 at is)

  laid_keys : (ks : List (List Pair)) (cs : List Laid) → HaveLaid rules layers ks cs → length cs ≡ length ks → map (λ a. a.key) cs ≡ ks
  laid_keys [] [] so_far long = refl
  laid_keys [] (b ∷ cs) so_far long = absurd so_far
  laid_keys (l ∷ ks) [] so_far long = absurd (omega (arith, long))
  laid_keys (l ∷ ks) (b ∷ cs) so_far long =
      ap (λ x. x ∷ map (λ a. a.key) cs) (chain_of rules layers l b so_far.0).1 ∙ ap (λ xs. l ∷ xs) (laid_keys ks cs so_far.1 (omega (arith, long)))

  laid_chains : (ks : List (List Pair)) (cs : List Laid) → HaveLaid rules layers ks cs → All (IsChain (length layers)) cs
  laid_chains ks [] so_far = All-nil (IsChain (length layers))
  laid_chains [] (b ∷ cs) so_far = absurd so_far
  laid_chains (l ∷ ks) (b ∷ cs) so_far = All-cons (IsChain (length layers)) b cs (chain_of rules layers l b so_far.0).0 (laid_chains ks cs so_far.1)

pub places_more : (cs : List Laid) (a : Laid) → all_places (cs ++ a ∷ []) ≡ all_places cs ++ places_under a
places_more [] a = append-nil (places_under a)
places_more (b ∷ cs) a = ap (λ l. places_under b ++ l) (places_more cs a) ∙ sym (append_assoc (places_under b) (all_places cs) (places_under a))

chains_back : (n : ℕ) (cs : List Laid) → All (IsChain n) cs → laid_by n (map (λ a. a.key) cs) (all_places cs) ≡ cs
chains_back n [] all = refl
chains_back n (a ∷ cs) all =
    let here = All-head (IsChain n) a cs all in
    let front = take_front n a.under (all_places cs) here.long in
    let back = drop_front n a.under (all_places cs) here.long in
    ap (λ u. (record { key = a.key; place = a.place; under = u }) ∷ laid_by n (map (λ b. b.key) cs) (drop n (a.under ++ all_places cs))) front
    ∙ ap (λ ps. a ∷ laid_by n (map (λ b. b.key) cs) ps) back
    ∙ ap (λ l. a ∷ l) (chains_back n cs (All-tail (IsChain n) a cs all))

module _ (rules : List Rule) (layers ks : List (List Pair)) (cs : List Laid) (ps : List Texts) (laid : HaveLaid rules layers ks cs) (long : length cs ≡ length ks) (is : ps ≡ all_places cs) where
  pub laid_back : laid_by (length layers) ks ps ≡ cs
  laid_back =
      ap (λ l. laid_by (length layers) l ps) (sym (laid_keys rules layers ks cs laid long)) ∙ ap (laid_by (length layers) (map (λ a. a.key) cs)) is ∙ chains_back (length layers) cs (laid_chains rules layers ks cs laid)

  pub chains_are : AreChains (length layers) ks ps
  chains_are = record {
    places = ap all_places laid_back ∙ sym is;
    keys = ap (map (λ a. a.key)) laid_back ∙ laid_keys rules layers ks cs laid long;
    each = subst (All (IsChain (length layers))) (sym laid_back) (laid_chains rules layers ks cs laid);
  }

  pub laid_so : all_laid rules layers ks ≡ Ok (laid_by (length layers) ks ps)
  laid_so = laid_whole rules layers ks cs laid long ∙ ap (λ x. Ok x) (sym laid_back)
