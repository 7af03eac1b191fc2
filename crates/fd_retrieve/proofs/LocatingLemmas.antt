-- The keys of a request, located dataset by dataset.
use Rattle.std.proofs.Common.{◌≡◌, ◌≢◌, ◌∙◌, ◌<◌, ◌≤◌, ◌+◌, ◌-◌, ◌⊎◌, ◌||◌, inl, inr, ℕ, zero, suc, true, false, cond, List, [], ◌∷◌, ◌++◌, length, map, drop, take, get_or, get_or-drop, get_or-take, All, Option, Some, None, refl, sym, ap, subst, arith, slice_get, if◌then◌else◌}
use Rattle.std.specs.Prelude.{IfSome, String, Vec, option_map, string_bytes}
use Rattle.std.specs.BTreeMap.{BTreeMap, Updates, get_by_text, is_at}
use Rattle.std.specs.Map.{lookup}
use Rattle.std.specs.Cmp.Lexicographic.{slice_cmp}
use Rattle.std.specs.Ordering.{nat_cmp}
use Rattle.std.specs.String.{string_cmp}
use Rattle.std.proofs.lemmas.Map.Text.{btree_map_updates_text}
use Rattle.std.specs.Str.{bytes_eq}
use Rattle.std.specs.declared.alloc.Global.{Global}
use Rattle.std.specs.List.{AllZip}
use Rattle.std.proofs.Math.ListN.{set, get_or-append}
use Rattle.std.proofs.Math.Seq.{get_or-append_seam}
use Rattle.std.proofs.lemmas.List.{get_or-set_other, get_or-set_same}
use Rattle.std.proofs.Math.ListN.{length-set}
use Rattle.std.proofs.Common.{length-append, length-drop, length-take}
use Rattle.std.proofs.lemmas.List.Elements.{All-head, All-tail}
use Rattle.std.proofs.lemmas.Option.{slice_get-get_or, slice_get-map}
use Rattle.std.proofs.lemmas.Slice.Eq.{bytes_eq-Decides}
use Rattle.fd_disk.proofs.NameLemmas.{is_or_not}
use Rattle.fd_entries.specs.declared.batch.Pair.{Pair}
use Rattle.fd_entries.specs.Batches.{newest}
use Rattle.fd_dataset.specs.Listed.{listing}
use Rattle.fd_segment.specs.Held.{Standing}
use Rattle.fd_key.specs.Pairs as keys
use Rattle.fd_schema.specs.declared.place.Place.{Place}
use Rattle.fd_schema.specs.Reading.{seen_place}
use Rattle.fd_schema.specs.Rules.{Texts, file_key}
use Rattle.fd_retriever.specs.Answers.{Tells}
use Rattle.fd_retriever.specs.declared.spot.Spot.{Spot}
use Rattle.fd_finding.specs.Spots.{IsAnswer, IsWithin, place_key}
use Rattle.fd_outcome.specs.Asking.{Answer, answers}
use Rattle.fd_stored.specs.Distinct.{is_among}
use Rattle.fd_ahead.specs.declared.located.Located.{Located}
use Rattle.fd_answering.specs.Finding.{asked_of_all}
use Rattle.fd_answering.specs.Located.{AreAt, IsAt}
use Rattle.fd_retrieve.specs.Located.{AreDealt, AreGroups, AreLocated, AreLocatedBy, AreNumbersOf, ArePlacesOf, AreWithin, IsFilled, IsGroup, IsIn, IsLocated, IsLocatedBy, IsNumberOf, IsRow, keys_in, located_in}
use Rattle.fd_retrieve.specs.Open.{IsFirstNamed, Open, names_of, table_in, table_of}
use Rattle.fd_answering.proofs.AnsweringLemmas.{as_long, as_many, numbered, there_is}
use Rattle.fd_retrieve.proofs.DatasetLemmas.{at_get, closed_table, get_within, split, tells_of}
use Rattle.fd_retrieve.proofs.Staying.{some_is}

-- ---- lists

zip_at : {A B : Type 0} (R : A → B → Type 0) (xs : List A) (ys : List B) (i : ℕ) (x : A) (y : B) → AllZip R xs ys → slice_get xs i ≡ Some x → slice_get ys i ≡ Some y → R x y
zip_at R [] ys i x y h a b = absurd (cc a)
zip_at R (u ∷ us) [] i x y h a b = absurd h
zip_at R (u ∷ us) (v ∷ vs) zero x y h a b = subst (λ w. R w y) (some_is u x a) (subst (R u) (some_is v y b) h.0)
zip_at R (u ∷ us) (v ∷ vs) (suc i) x y h a b = zip_at R us vs i x y h.1 a b

got : {A : Type 0} (P : A → Type 0) (xs : List A) (i : ℕ) (x : A) → All P xs → slice_get xs i ≡ Some x → P x
got P [] i x all at = absurd (cc at)
got P (y ∷ ys) zero x all at = subst P (some_is y x at) (All-head P y ys all)
got P (y ∷ ys) (suc i) x all at = got P ys i x (All-tail P y ys all) at

stays : {A : Type 0} (xs ys : List A) (i : ℕ) (x : A) → slice_get xs i ≡ Some x → slice_get (xs ++ ys) i ≡ Some x
stays [] ys i x h = absurd (cc h)
stays (y ∷ xs) ys zero x h = h
stays (y ∷ xs) ys (suc i) x h = stays xs ys i x h

last : {A : Type 0} (xs : List A) (x : A) → slice_get (xs ++ x ∷ []) (length xs) ≡ Some x
last [] x = refl
last (y ∷ xs) x = last xs x

same_or_not : (m n : ℕ) → (m ≡ n) ⊎ (m ≢ n)
same_or_not zero zero = inl refl
same_or_not zero (suc n) = inr (λ e. omega (arith, e))
same_or_not (suc m) zero = inr (λ e. omega (arith, e))
same_or_not (suc m) (suc n) = elim (same_or_not m n) [ inl e ↦ inl (ap suc e) | inr ne ↦ inr (λ e. ne (omega (arith, e))) ]

before_or_at : (k i : ℕ) → k < i + 1 → (k < i) ⊎ (k ≡ i)
before_or_at k i lt = grind (arith, lt)

pub default : {A : Type 0} (xs : List A) (k : ℕ) (x y : A) → k < length xs → get_or xs k x ≡ get_or xs k y
default [] k x y lt = absurd (omega (arith, lt))
default (z ∷ zs) zero x y lt = refl
default (z ∷ zs) (suc k) x y lt = default zs k x y (omega (arith, lt))

-- ---- one key

-- what a search of the dataset with this number found of a place's key
record IsSpotOf (os : List Open) (n : ℕ) (place : Texts) (spot : Option Spot) : Type 0 where
  dataset : Open
  at : slice_get os n ≡ Some dataset
  answer : (t : List (List Pair)) → Tells (map listing dataset.shown) t → IsAnswer dataset.shown t (file_key place) spot
  within : IfSome spot (IsWithin dataset.shown)

tells_at : (os : List Open) (n : ℕ) (place : Texts) (s : Option Spot) (first : IsFirstNamed os place.dataset n) (spot : IsSpotOf os n place s) (t : List (List Pair)) → table_in os place.dataset ≡ Some t → Tells (map listing spot.dataset.shown) t
tells_at os n place s first spot t told =
    let same : first.0 ≡ spot.dataset = some_is first.0 spot.dataset (sym first.1 ∙ spot.at) in
    subst (λ (o : Open). Tells (map listing o.shown) t) same (tells_of os place.dataset first.0 t first.3 told)

located_here : (os : List Open) (n : ℕ) (place : Texts) (s : Option Spot) → IsFirstNamed os place.dataset n → IsSpotOf os n place s → IsLocated os place (located_in n s) × IfSome (located_in n s) (IsIn os)
located_here os n place None first spot = (λ t told. spot.answer t (tells_at os n place None first spot t told), tt)
located_here os n place (Some s) first spot = (
  record { dataset = spot.dataset; at = spot.at; newest_at = λ t told. spot.answer t (tells_at os n place (Some s) first spot t told) },
  record { dataset = spot.dataset; at = spot.at; within = spot.within },
)

abbrev Own : List Open → ℕ → Texts → Option Located → Type 0
Own os n place after = (s : Option Spot) × (after ≡ located_in n s) × IsSpotOf os n place s

one_more : (os : List Open) (n : ℕ) (place : Texts) (m : Option ℕ) (before after : Option Located) → IsNumberOf os place.dataset m → IsLocatedBy os n place m before → ((m ≡ Some n → ⊥) → after ≡ before) → (m ≡ Some n → Own os n place after)
    → IsLocatedBy os (n + 1) place m after
one_more os n place None before after number by other own = other (λ e. absurd (cc e)) ∙ by
one_more os n place (Some m) before after number by other own = elim (same_or_not m n) [
  | inl same ↦
      let o = own (ap (λ (k : ℕ). Some k) same) in
      let here = located_here os n place o.0 (subst (IsFirstNamed os place.dataset) same number) o.2 in
      (λ lt. (subst (IsLocated os place) (sym o.1) here.0, subst (λ (l : Option Located). IfSome l (IsIn os)) (sym o.1) here.1), λ le. absurd (omega (arith, same, le)))
  | inr apart ↦
      let is = other (λ e. apart (some_is m n e)) in
      (λ lt. let was = by.0 (ordered m n lt apart) in (subst (IsLocated os place) (sym is) was.0, subst (λ (l : Option Located). IfSome l (IsIn os)) (sym is) was.1), λ le. is ∙ by.1 (omega (arith, le)))
]
  where
    ordered : (m n : ℕ) → m < n + 1 → m ≢ n → m < n
    ordered m n lt apart = elim (before_or_at m n lt) [ inl less ↦ less | inr same ↦ absurd (apart same) ]

-- ---- all keys

-- one dataset more was searched
pub located_more : (os : List Open) (ps : List Place) (ns : List (Option ℕ)) (n : ℕ) (o : Open) (group : List Place) (keys : List ℕ) (found : List (Option Spot)) (before after : List (Option Located)) → AreNumbersOf os ps ns → slice_get os n ≡ Some o → IsGroup ns (length ps) n keys
    → ArePlacesOf ps keys (length keys) group → ((t : List (List Pair)) → Tells (map listing o.shown) t → AllZip (IsAnswer o.shown t) (map place_key group) found) → All (λ s. IfSome s (IsWithin o.shown)) found
    → IsFilled n keys found (length keys) before after → AreLocatedBy os ps ns n before → AreLocatedBy os ps ns (n + 1) after
located_more os ps ns n o group keys found before after numbers at sorted placed answer within fills by = record {
  long = fills.long ∙ by.long;
  each = λ k p d e lt.
      one_more os n (seen_place (get_or ps k p)) (get_or ns k d) (get_or before k e) (get_or after k e) (numbers.each k p d lt) (by.each k p d e lt)
      (λ differs. fills.others k e (let l = by.long in omega (arith, l, lt)) (λ j there. differs (sorted.own j k d there))) (own k p d e lt);
}
  where
    own : (k : ℕ) (p : Place) (d : Option ℕ) (e : Option Located) → k < length ps → get_or ns k d ≡ Some n → Own os n (seen_place (get_or ps k p)) (get_or after k e)
    own k p d e lt is =
        let there = sorted.there k d lt is in
        let f = fills.own there.0 k e (get_within keys there.0 k there.1) there.1 in
        let q = placed.each f.0 k p (get_within keys f.0 k f.2) f.2 in
        let key : slice_get (map place_key group) f.0 ≡ Some (place_key q.0) = slice_get-map place_key group f.0 ∙ ap (option_map place_key) q.1 in (
          f.1,
          f.4,
          record {
            dataset = o;
            at = at;
            answer = λ t told. subst (λ (x : Texts). IsAnswer o.shown t (file_key x) f.1) q.2 (zip_at (IsAnswer o.shown t) (map place_key group) found f.0 (place_key q.0) f.1 (answer t told) key f.3);
            within = got (λ s. IfSome s (IsWithin o.shown)) found f.0 f.1 within f.3;
          },
        )

-- before the first dataset is searched
pub located_first : (os : List Open) (ps : List Place) (ns : List (Option ℕ)) (located : List (Option Located)) → length located ≡ length ps → ((k : ℕ) (e : Option Located) → k < length ps → get_or located k e ≡ None) → AreLocatedBy os ps ns 0 located
located_first os ps ns located long none = record { long = long; each = λ k p d e lt. go (seen_place (get_or ps k p)) (get_or ns k d) (get_or located k e) (none k e lt) }
  where
    go : (place : Texts) (m : Option ℕ) (l : Option Located) → l ≡ None → IsLocatedBy os 0 place m l
    go place None l is = is
    go place (Some m) l is = (λ lt. absurd (omega (arith, lt)), λ le. is)

-- all datasets were searched
pub located_all : (os : List Open) (ps : List Place) (ns : List (Option ℕ)) (count : ℕ) (located : List (Option Located)) → length os ≤ count → AreNumbersOf os ps ns → AreLocatedBy os ps ns count located → AreLocated os ps located
located_all os ps ns count located all numbers by = record {
  long = by.long;
  each = λ k p e lt. (go (seen_place (get_or ps k p)) (get_or ns k None) (get_or located k e) (numbers.each k p None lt) (by.each k p None e lt)).0;
  within = λ k e lt. let p = (there_is ps k lt).0 in (go (seen_place (get_or ps k p)) (get_or ns k None) (get_or located k e) (numbers.each k p None lt) (by.each k p None e lt)).1;
}
  where
    go : (place : Texts) (m : Option ℕ) (l : Option Located) → IsNumberOf os place.dataset m → IsLocatedBy os count place m l → IsLocated os place l × IfSome l (IsIn os)
    go place None l out is = (
      subst (IsLocated os place) (sym is) (λ t told. let none : t ≡ [] = some_is t [] (sym told ∙ closed_table os place.dataset out) in subst (λ (x : List (List Pair)). newest x (file_key place) ≡ None) (sym none) refl),
      subst (λ (x : Option Located). IfSome x (IsIn os)) (sym is) tt,
    )
    go place (Some m) l first by = by.0 (let lt = get_within os m first.0 first.1 in omega (arith, lt, all))

-- ---- loops

-- what is noted at a text once the datasets from one on were noted
abbrev pub IsNumberFrom : List Open → ℕ → List ℕ → Option ℕ → Type 0
IsNumberFrom os left name None = is_among (names_of (drop left os)) name ≡ false
IsNumberFrom os left name (Some n) = (o : Open) × (slice_get os n ≡ Some o) × (o.name ≡ name) × (table_in (drop left os) name ≡ table_of o)

-- what a note at a text changes
pub noted_at : (old new : BTreeMap (String Global) ℕ) (name : List ℕ) (text : String Global) (number : ℕ) → string_bytes text ≡ name → Updates string_cmp old new text (Some number) → (t : List ℕ) → get_by_text new t ≡ cond (bytes_eq name t) (Some number) (get_by_text old t)
noted_at old new name text number is updates t = btree_map_updates_text (string_bytes text) old new (Some number) updates t ∙ ap (λ (n : List ℕ). cond (bytes_eq n t) (Some number) (get_by_text old t)) is

-- before the last dataset is noted
pub noted_none : (os : List Open) (left : ℕ) (noted : BTreeMap (String Global) ℕ) → length os ≤ left → noted.entries ≡ [] → (t : List ℕ) → IsNumberFrom os left t (get_by_text noted t)
noted_none os left noted all empty t = subst (IsNumberFrom os left t) (sym (ap (lookup (is_at (λ (k : String Global). slice_cmp nat_cmp t (string_bytes k)))) empty)) (ap (λ (l : List Open). is_among (names_of l) t) (nothing os left all))
  where
    nothing : (xs : List Open) (k : ℕ) → length xs ≤ k → drop k xs ≡ []
    nothing [] zero le = refl
    nothing [] (suc k) le = refl
    nothing (x ∷ xs) zero le = absurd (omega (arith, le))
    nothing (x ∷ xs) (suc k) le = nothing xs k (omega (arith, le))

-- one dataset more was noted
module _ (os : List Open) (left : ℕ) (o : Open) (t : List ℕ) (lt : left < length os) (is : o ≡ get_or os left o) where
  behind : bytes_eq t o.name ≡ false → (a : Option ℕ) → IsNumberFrom os (left + 1) t a → IsNumberFrom os left t a
  behind differs None from = ap (λ (l : List Open). is_among (names_of l) t) (split os left o lt is) ∙ ap (λ b. b || is_among (names_of (drop (left + 1) os)) t) differs ∙ from
  behind differs (Some n) from = (from.0, from.1, from.2, ap (λ (l : List Open). table_in l t) (split os left o lt is) ∙ ap (λ b. if b then table_of o else table_in (drop (left + 1) os) t) differs ∙ from.3)

  here_noted : bytes_eq t o.name ≡ true → IsNumberFrom os left t (Some left)
  here_noted same = (o, at_get os left o lt is, sym ((bytes_eq-Decides t o.name).0 same), ap (λ (l : List Open). table_in l t) (split os left o lt is) ∙ ap (λ b. if b then table_of o else table_in (drop (left + 1) os) t) same)

  pub noted_more : (name : List ℕ) (a b : Option ℕ) → name ≡ o.name → b ≡ cond (bytes_eq name t) (Some left) a → IsNumberFrom os (left + 1) t a → IsNumberFrom os left t b
  noted_more name a b named notes from = elim (is_or_not (bytes_eq name t)) [
    | inl same ↦ subst (IsNumberFrom os left t) (sym (notes ∙ ap (λ c. cond c (Some left) a) same)) (here_noted ((bytes_eq-Decides t o.name).1 (sym ((bytes_eq-Decides name t).0 same) ∙ named)))
    | inr other ↦ subst (IsNumberFrom os left t) (sym (notes ∙ ap (λ c. cond c (Some left) a) other)) (behind (apart other) a from)
  ]
    where
      apart : bytes_eq name t ≡ false → bytes_eq t o.name ≡ false
      apart other = elim (is_or_not (bytes_eq t o.name)) [
        | inl same ↦ absurd (cc (sym ((bytes_eq-Decides name t).1 (named ∙ sym ((bytes_eq-Decides t o.name).0 same))) ∙ other))
        | inr differs ↦ differs
      ]

-- all datasets were noted
pub noted_all : (os : List Open) (left : ℕ) (t : List ℕ) (a : Option ℕ) → left ≡ 0 → IsNumberFrom os left t a → IsNumberOf os t a
noted_all os left t None all from = ap (λ (k : ℕ). is_among (names_of (drop k os)) t) (sym all) ∙ from
noted_all os left t (Some n) all from = (from.0, from.1, from.2, ap (λ (k : ℕ). table_in (drop k os) t) (sym all) ∙ from.3)

-- a number is that of a dataset
pub numbers_within : (os : List Open) (ps : List Place) (ns : List (Option ℕ)) → AreNumbersOf os ps ns → (k : ℕ) (d : Option ℕ) → k < length ns → IfSome (get_or ns k d) (λ n. n < length os)
numbers_within os ps ns numbers k d lt =
    let less : k < length ps = let l = numbers.long in omega (arith, l, lt) in
    let p = (there_is ps k less).0 in
    go (seen_place (get_or ps k p)).dataset (get_or ns k d) (numbers.each k p d less)
  where
    go : (name : List ℕ) (m : Option ℕ) → IsNumberOf os name m → IfSome m (λ n. n < length os)
    go name None is = tt
    go name (Some n) is = get_within os n is.0 is.1

-- one number more
pub number_more : (os : List Open) (ps : List Place) (ns more : List (Option ℕ)) (i : ℕ) (p : Place) (n : Option ℕ) → length ns ≡ i → i < length ps → p ≡ get_or ps i p → more ≡ ns ++ n ∷ [] → IsNumberOf os (seen_place p).dataset n
    → ((k : ℕ) (p : Place) (d : Option ℕ) → k < i → IsNumberOf os (seen_place (get_or ps k p)).dataset (get_or ns k d)) → (k : ℕ) (p : Place) (d : Option ℕ) → k < i + 1 → IsNumberOf os (seen_place (get_or ps k p)).dataset (get_or more k d)
number_more os ps ns more i p n long lt is pushed own so_far k q d le = subst (λ (l : List (Option ℕ)). IsNumberOf os (seen_place (get_or ps k q)).dataset (get_or l k d)) (sym pushed) (elim (before_or_at k i le) [
  | inl less ↦ subst (IsNumberOf os (seen_place (get_or ps k q)).dataset) (sym (get_or-append ns (n ∷ []) d k (omega (arith, less, long)))) (so_far k q d less)
  | inr same ↦
      let at : get_or (ns ++ n ∷ []) k d ≡ n = ap (λ (j : ℕ). get_or (ns ++ n ∷ []) j d) (same ∙ sym long) ∙ get_or-append_seam ns n [] d in
      let place : p ≡ get_or ps k q = is ∙ (ap (λ (j : ℕ). get_or ps j p) (sym same) ∙ default ps k p q (omega (arith, same, lt))) in
      subst (IsNumberOf os (seen_place (get_or ps k q)).dataset) (sym at) (subst (λ (x : Place). IsNumberOf os (seen_place x).dataset n) place own)
])

-- one key more that isn't located
pub none_more : (ls more : List (Option Located)) (i : ℕ) → length ls ≡ i → more ≡ ls ++ None ∷ [] → ((k : ℕ) (e : Option Located) → k < i → get_or ls k e ≡ None) → (k : ℕ) (e : Option Located) → k < i + 1 → get_or more k e ≡ None
none_more ls more i long pushed so_far k e le = ap (λ (l : List (Option Located)). get_or l k e) pushed ∙ elim (before_or_at k i le) [
  | inl less ↦ get_or-append ls (None ∷ []) e k (omega (arith, less, long)) ∙ so_far k e less
  | inr same ↦ ap (λ (j : ℕ). get_or (ls ++ None ∷ []) j e) (same ∙ sym long) ∙ get_or-append_seam ls None [] e
]

-- one group more without keys
pub empty_more : (gs more : List (Vec ℕ Global)) (g : Vec ℕ Global) → more ≡ gs ++ g ∷ [] → g.items ≡ [] → ((n : ℕ) → keys_in gs n ≡ []) → (n : ℕ) → keys_in more n ≡ []
empty_more gs more g pushed none so_far n = ap (λ (l : List (Vec ℕ Global)). keys_in l n) pushed ∙ go gs so_far n
  where
    go : (xs : List (Vec ℕ Global)) → ((n : ℕ) → keys_in xs n ≡ []) → (n : ℕ) → keys_in (xs ++ g ∷ []) n ≡ []
    go [] h zero = none
    go [] h (suc n) = refl
    go (x ∷ xs) h zero = h zero
    go (x ∷ xs) h (suc n) = go xs (λ m. h (suc m)) n

-- one key more in its group
put_here : (gs : List (Vec ℕ Global)) (at : ℕ) (g new : Vec ℕ Global) (key : ℕ) → at < length gs → g ≡ get_or gs at g → new.items ≡ g.items ++ key ∷ [] → keys_in (set gs at new) at ≡ keys_in gs at ++ key ∷ []
put_here [] at g new key lt is items = absurd (omega (arith, lt))
put_here (x ∷ gs) zero g new key lt is items = items ∙ ap (λ (v : Vec ℕ Global). v.items ++ key ∷ []) is
put_here (x ∷ gs) (suc at) g new key lt is items = put_here gs at g new key (omega (arith, lt)) is items

-- the other groups
put_apart : (gs : List (Vec ℕ Global)) (at n : ℕ) (new : Vec ℕ Global) → at ≢ n → keys_in (set gs at new) n ≡ keys_in gs n
put_apart [] at n new apart = refl
put_apart (x ∷ gs) zero zero new apart = absurd (apart refl)
put_apart (x ∷ gs) zero (suc n) new apart = refl
put_apart (x ∷ gs) (suc at) zero new apart = refl
put_apart (x ∷ gs) (suc at) (suc n) new apart = put_apart gs at n new (λ e. apart (ap suc e))

-- a key is put into the group with a number, and the others are as before
pub put_own : (gs : List (Vec ℕ Global)) (of : Option ℕ) (at n : ℕ) (g new : Vec ℕ Global) (key : ℕ) → of ≡ Some at → of ≡ Some n → at < length gs → g ≡ get_or gs at g → new.items ≡ g.items ++ key ∷ [] → keys_in (set gs at new) n ≡ keys_in gs n ++ key ∷ []
put_own gs of at n g new key is same lt read items = subst (λ (m : ℕ). keys_in (set gs at new) m ≡ keys_in gs m ++ key ∷ []) (some_is at n (sym is ∙ same)) (put_here gs at g new key lt read items)

pub put_others : (gs : List (Vec ℕ Global)) (of : Option ℕ) (at n : ℕ) (new : Vec ℕ Global) → of ≡ Some at → (of ≡ Some n → ⊥) → keys_in (set gs at new) n ≡ keys_in gs n
put_others gs of at n new is differs = put_apart gs at n new (λ same. differs (is ∙ ap (λ (k : ℕ). Some k) same))

-- before the first key is put into its group
pub groups_none : (ns : List (Option ℕ)) (gs : List (Vec ℕ Global)) → ((n : ℕ) → keys_in gs n ≡ []) → AreGroups ns 0 gs
groups_none ns gs none n = record {
  there = λ k d lt same. absurd (omega (arith, lt));
  within = λ j k at. absurd (cc (sym (ap (λ (l : List ℕ). slice_get l j) (none n)) ∙ at));
  own = λ j k d at. absurd (cc (sym (ap (λ (l : List ℕ). slice_get l j) (none n)) ∙ at));
}

came : (xs : List ℕ) (x j y : ℕ) → slice_get (xs ++ x ∷ []) j ≡ Some y → (slice_get xs j ≡ Some y) ⊎ (y ≡ x)
came [] x zero y at = inr (sym (some_is x y at))
came [] x (suc j) y at = absurd (cc at)
came (z ∷ xs) x zero y at = inl at
came (z ∷ xs) x (suc j) y at = came xs x j y at

some_or_not : (m : Option ℕ) (n : ℕ) → (m ≡ Some n) ⊎ (m ≡ Some n → ⊥)
some_or_not None n = inr (λ e. absurd (cc e))
some_or_not (Some m) n = elim (same_or_not m n) [ inl e ↦ inl (ap (λ (k : ℕ). Some k) e) | inr ne ↦ inr (λ e. ne (some_is m n e)) ]

-- one key more was put into its group, if it has one
module _ (ns : List (Option ℕ)) (i : ℕ) (m : Option ℕ) (lt : i < length ns) where
  added : (n : ℕ) (keys : List ℕ) → get_or ns i m ≡ Some n → IsGroup ns i n keys → IsGroup ns (i + 1) n (keys ++ i ∷ [])
  added n keys is group = record {
    there = λ k d le same. elim (before_or_at k i le) [
      | inl less ↦ let old = group.there k d less same in (old.0, stays keys (i ∷ []) old.0 k old.1)
      | inr here ↦ (length keys, last keys i ∙ ap (λ (q : ℕ). Some q) (sym here))
    ];
    within = λ j k at. elim (came keys i j k at) [ inl old ↦ let l = group.within j k old in omega (arith, l) | inr new ↦ omega (arith, new) ];
    own = λ j k d at. elim (came keys i j k at) [ inl old ↦ group.own j k d old | inr new ↦ ap (λ (q : ℕ). get_or ns q d) new ∙ (default ns i d m lt ∙ is) ];
  }

  left_out : (n : ℕ) (keys : List ℕ) → (get_or ns i m ≡ Some n → ⊥) → IsGroup ns i n keys → IsGroup ns (i + 1) n keys
  left_out n keys apart group = record {
    there = λ k d le same. elim (before_or_at k i le) [
      | inl less ↦ group.there k d less same
      | inr here ↦ absurd (apart (default ns i m d lt ∙ (ap (λ (q : ℕ). get_or ns q d) (sym here) ∙ same)))
    ];
    within = λ j k at. let l = group.within j k at in omega (arith, l);
    own = group.own;
  }

  pub groups_more : (gs after : List (Vec ℕ Global)) → ((n : ℕ) → get_or ns i m ≡ Some n → keys_in after n ≡ keys_in gs n ++ i ∷ []) → ((n : ℕ) → (get_or ns i m ≡ Some n → ⊥) → keys_in after n ≡ keys_in gs n) → AreGroups ns i gs → AreGroups ns (i + 1) after
  groups_more gs after own others so_far n = elim (some_or_not (get_or ns i m) n) [
    | inl same ↦ subst (IsGroup ns (i + 1) n) (sym (own n same)) (added n (keys_in gs n) same (so_far n))
    | inr apart ↦ subst (IsGroup ns (i + 1) n) (sym (others n apart)) (left_out n (keys_in gs n) apart (so_far n))
  ]

-- the keys of the group with a number
pub keys_at : (gs : List (Vec ℕ Global)) (n : ℕ) (g : Vec ℕ Global) → n < length gs → g ≡ get_or gs n g → keys_in gs n ≡ g.items
keys_at [] n g lt is = absurd (omega (arith, lt))
keys_at (x ∷ gs) zero g lt is = ap (λ (v : Vec ℕ Global). v.items) (sym is)
keys_at (x ∷ gs) (suc n) g lt is = keys_at gs n g (omega (arith, lt)) is

-- all keys were dealt
pub dealt_all : (os : List Open) (ps : List Place) (ns seen : List (Option ℕ)) (gs : List (Vec ℕ Global)) → AreNumbersOf os ps ns → seen ≡ ns → length gs ≡ length os → AreGroups seen (length seen) gs → AreDealt os ps ns gs
dealt_all os ps ns seen gs numbers same long groups = record {
  numbers = numbers;
  groups = subst (λ (count : ℕ). AreGroups ns count gs) numbers.long (subst (λ (l : List (Option ℕ)). AreGroups l (length l) gs) same groups);
  long = long;
}

-- the keys that were lent are the group with the number
pub group_at : (os : List Open) (ps : List Place) (ns : List (Option ℕ)) (gs lent : List (Vec ℕ Global)) (n : ℕ) (keys : List ℕ) → AreDealt os ps ns gs → lent ≡ gs → keys ≡ keys_in lent n → IsGroup ns (length ps) n keys
group_at os ps ns gs lent n keys dealt is at = subst (IsGroup ns (length ps) n) (sym (at ∙ ap (λ (l : List (Vec ℕ Global)). keys_in l n) is)) (dealt.groups n)

-- one place more of a group
pub places_more : (ps : List Place) (keys : List ℕ) (j k : ℕ) (p q : Place) (group after : List Place) → slice_get keys j ≡ Some k → k < length ps → p ≡ get_or ps k p → seen_place q ≡ seen_place p → after ≡ group ++ q ∷ [] → ArePlacesOf ps keys j group → ArePlacesOf ps keys (j + 1) after
places_more ps keys j k p q group after key lt is alike pushed so_far = record {
  long = ap length pushed ∙ (let l = so_far.long in omega (arith, l, length-append group (q ∷ [])));
  each = λ i m r le at. elim (before_or_at i j le) [
    | inl less ↦ let old = so_far.each i m r less at in (old.0, subst (λ (l : List Place). slice_get l i ≡ Some old.0) (sym pushed) (stays group (q ∷ []) i old.0 old.1), old.2)
    | inr here ↦
        let same : k ≡ m = some_is k m (sym key ∙ (ap (slice_get keys) (sym here) ∙ at)) in
        let place : p ≡ get_or ps m r = is ∙ (default ps k p r lt ∙ ap (λ (n : ℕ). get_or ps n r) same) in
        (q, subst (λ (n : ℕ). slice_get after n ≡ Some q) (so_far.long ∙ sym here) (subst (λ (l : List Place). slice_get l (length group) ≡ Some q) (sym pushed) (last group q)), alike ∙ ap seen_place place)
  ];
}

-- a row of keys that are among so many ends among them
pub row_fits : (count first : ℕ) (keys : List ℕ) → 0 < length keys → AreWithin count keys → IsRow first keys (length keys) → first + length keys ≤ count
row_fits count first keys some within row =
    let n = length keys - 1 in
    let lt : n < length keys = omega (arith, some) in
    let at = slice_get-get_or keys n 0 lt in
    let last : get_or keys n 0 < count = within n (get_or keys n 0) at in
    let is : get_or keys n 0 ≡ first + n = row n (get_or keys n 0) lt at in
    omega (arith, some, last, is)

-- the places from a row's first key on, as many as it has keys, are those of its keys
pub row_places : (ps : List Place) (first : ℕ) (keys : List ℕ) (row : List Place) → first + length keys ≤ length ps → IsRow first keys (length keys) → row ≡ take (first + length keys - first) (drop first ps) → ArePlacesOf ps keys (length keys) row
row_places ps first keys row fits is_row part = record {
  long = long;
  each = λ j k p lt at. (
    get_or ps k p,
    slice_get-get_or row j p (omega (arith, long, lt)) ∙ ap (λ q. Some q) (ap (λ (l : List Place). get_or l j p) cut ∙ (get_or-take (length keys) (drop first ps) j p lt ∙ (get_or-drop first ps j p ∙ ap (λ n. get_or ps n p) (sym (is_row j k lt at))))),
    refl,
  );
}
  where
    cut : row ≡ take (length keys) (drop first ps)
    cut = part ∙ ap (λ n. take n (drop first ps)) (omega arith)

    long : length row ≡ length keys
    long = ap length cut ∙ omega (arith, length-take (length keys) (drop first ps), length-drop first ps, fits)

-- where one key more was found is noted
module _ (n : ℕ) (keys : List ℕ) (found : List (Option Spot)) (j k : ℕ) (s : Option Spot) (first before after : List (Option Located)) (new : Option Located) (key : slice_get keys j ≡ Some k) (spot : slice_get found j ≡ Some s) (own : new ≡ located_in n s) (lt : k < length before) (is : after ≡ set before k new) where
  here : (m : ℕ) (e : Option Located) → m ≡ k → get_or after m e ≡ new
  here m e same = ap (λ (l : List (Option Located)). get_or l m e) is ∙ (ap (λ (i : ℕ). get_or (set before k new) i e) same ∙ get_or-set_same before k new e lt)

  there : (m : ℕ) (e : Option Located) → m ≢ k → get_or after m e ≡ get_or before m e
  there m e apart = ap (λ (l : List (Option Located)). get_or l m e) is ∙ get_or-set_other before k m new e apart

  pub filled_more : IsFilled n keys found j first before → IsFilled n keys found (j + 1) first after
  filled_more fills = record {
    long = ap length is ∙ (length-set before k new ∙ fills.long);
    own = λ i m e le at. elim (same_or_not m k) [
      | inl same ↦ (j, s, key ∙ ap (λ (q : ℕ). Some q) (sym same), spot, here m e same ∙ own)
      | inr apart ↦ elim (before_or_at i j le) [
        | inl less ↦ let o = fills.own i m e less at in (o.0, o.1, o.2, o.3, there m e apart ∙ o.4)
        | inr now ↦ absurd (apart (some_is m k (sym at ∙ (ap (slice_get keys) now ∙ key))))
      ]
    ];
    others = λ m e le none. there m e (λ same. none j (key ∙ ap (λ (q : ℕ). Some q) (sym same))) ∙ fills.others m e le none;
  }

-- ---- what is located of a key

-- the place of the key with this number, and where it is located
pub place_at : (now os : List Open) (ps : List Place) (located : List (Option Located)) (i : ℕ) → now ≡ os → AreLocated os ps located → i < length ps → (place : Texts) × (slice_get (map seen_place ps) i ≡ Some place) × ((d : Option Located) → IsLocated now place (get_or located i d))
place_at now os ps located i same there lt =
    let p = there_is ps i lt in (
      seen_place p.0,
      slice_get-map seen_place ps i ∙ ap (option_map seen_place) p.1,
      λ d. subst (λ (x : List Open). IsLocated x (seen_place p.0) (get_or located i d)) (sym same) (subst (λ (x : Place). IsLocated os (seen_place x) (get_or located i d)) (at ps i p.0 p.1) (there.each i p.0 d lt)),
    )
  where
    at : (xs : List Place) (i : ℕ) (x : Place) → slice_get xs i ≡ Some x → get_or xs i x ≡ x
    at [] i x is = refl
    at (y ∷ ys) zero x is = some_is y x is
    at (y ∷ ys) (suc i) x is = at ys i x is

-- what is located of a key are the newest bytes of its dataset
pub bytes_at : (os : List Open) (place : Texts) (located : Option Located) (t : List (List Pair)) → IsLocated os place located → table_in os place.dataset ≡ Some t → IsAt os (newest t (file_key place)) located
bytes_at os place None t there told = there t told
bytes_at os place (Some l) t there told =
    let n = there.newest_at t told in
    record { dataset = there.dataset; at = there.at; segment = n.segment; numbered = n.numbered; fields = n.fields; told = n.told; is = n.bytes }

-- the answers of keys that are located
pub answers_at : (os : List Open) (ks : List (List keys.Pair)) (ps : List Place) (located : List (Option Located)) (xs : List Answer) → length ps ≡ length ks → AreLocated os ps located → answers (table_in os) (asked_of_all ks (map seen_place ps)) ≡ Some xs → AreAt os ks xs located
answers_at os ks ps located xs many there e = record {
  long = as_many (table_in os) ks (map seen_place ps) xs e (as_long ps ∙ many);
  each = λ k key at.
      let p = place_at os os ps located k refl there (let lt = get_within ks k key at in omega (arith, lt, many)) in
      let n = numbered (table_in os) ks (map seen_place ps) xs e k key p.0 at p.1 in
      (newest n.table (file_key p.0), n.there, λ d. bytes_at os p.0 (get_or located k d) n.table (p.2 d) n.told);
}

-- the same of what was lent
pub lent_at : (os lent : List Open) (ks : List (List keys.Pair)) (ps same : List Place) (located : List (Option Located)) (o : Option (List Answer)) → lent ≡ os → same ≡ ps → length ps ≡ length ks → AreLocated lent same located → o ≡ answers (table_in os) (asked_of_all ks (map seen_place ps)) → (xs : List Answer) → o ≡ Some xs → AreAt os ks xs located
lent_at os lent ks ps same located o is alike many there e xs told =
    answers_at os ks ps located xs many (subst (λ (q : List Place). AreLocated os q located) alike (subst (λ (l : List Open). AreLocated l same located) is there)) (sym e ∙ told)

-- what a search found, of the dataset whose segments they are, for the places that were asked for
pub found_answers : (o : Open) (ss : List Standing) (group asked : List Place) (found : List (Option Spot)) → ss ≡ o.shown → asked ≡ group → ((t : List (List Pair)) → Tells (map listing ss) t → AllZip (IsAnswer ss t) (map place_key asked) found)
    → (t : List (List Pair)) → Tells (map listing o.shown) t → AllZip (IsAnswer o.shown t) (map place_key group) found
found_answers o ss group asked found shown same answer t told =
    subst (λ x. AllZip (IsAnswer x t) (map place_key group) found) shown (subst (λ ps. AllZip (IsAnswer ss t) (map place_key ps) found) same (answer t (subst (λ x. Tells (map listing x) t) (sym shown) told)))
