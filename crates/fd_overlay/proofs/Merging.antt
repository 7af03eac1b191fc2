-- Keys found layer by layer.
use Rattle.std.proofs.Common.{◌≡◌, ◌<◌, ◌≤◌, ◌+◌, ◌∙◌, ◌⊎◌, inl, inr, ℕ, zero, suc, List, [], ◌∷◌, ◌++◌, map, length, drop, get_or, slice_get, All, Contains, Option, Some, None, refl, sym, ap, subst, arith, append_assoc, append-nil}
use Rattle.std.specs.Prelude.{IfSome, IsSome, option_map}
use Rattle.std.specs.Borrow.{Bor}
use Rattle.std.specs.List.{AllZip}
use Rattle.std.proofs.Math.Seq.{drop-cons}
use Rattle.std.proofs.lemmas.List.{drop_all}
use Rattle.std.proofs.lemmas.Option.{same_Some, slice_get-map, slice_get_read}
use Rattle.std.proofs.lemmas.List.Elements.{All-head, All-tail, Contains-append_right}
use Rattle.fd_entries.specs.declared.batch.Pair.{Pair}
use Rattle.fd_entries.specs.Batches.{or_older}
use Rattle.fd_segment.specs.declared.fault.Damage.{Damage}
use Rattle.fd_segment.specs.Held.{Standing}
use Rattle.fd_dataset.specs.Listed.{listing}
use Rattle.fd_schema.specs.declared.place.Place.{Place}
use Rattle.fd_schema.specs.Reading.{seen_place}
use Rattle.fd_schema.specs.Rules.{Texts, file_key}
use mathlib.Core.List.{map-append}
use Rattle.fd_retriever.specs.Answers.{SomeUntold, Tells}
use Rattle.fd_retriever.specs.declared.spot.Spot.{Spot}
use Rattle.fd_finding.specs.Spots.{AllSayOf, AllTold, IsAnswer, IsNewestAt, IsWithin, StandsForOne, StandsForSome, place_key}
use Rattle.fd_finding.proofs.Jobs.{all_right, zip_as}
use Rattle.fd_finding.proofs.Only.{the_only}
use Rattle.fd_overlay.specs.declared.spot.LayerSpot.{LayerSpot}
use Rattle.fd_overlay.specs.declared.spot.FindFault.{FindFault}
use Rattle.fd_overlay.specs.declared.spot.FindFault.TheVariants as faults
use Rattle.fd_overlay.specs.Layers.{AllTell, EachLayer, EachNearer}
use Rattle.fd_overlay.specs.Spots.{AreTheOnlyOnes, InNearest, IsLaidAnswer, IsLaidAt, IsNearest, IsUntoldNumber, IsWithinLayer, LayersSayOf, OnDamaged, StandsInNumber, shown}
use Rattle.fd_overlay.specs.Searching.{FoundIn, SearchedTo, SearchesMore, in_layer, merged, unfound}
use Rattle.fd_overlay.proofs.Nearest.{Lacks, all_lack, all_nearer, at_layer, none_nearer, one_nearer}

-- ---- which keys are looked for

unfound_one : {A : Type 0} (k : A) (ks : List A) (o : Option LayerSpot) (os : List (Option LayerSpot)) → unfound (k ∷ ks) (o ∷ os) ≡ unfound (k ∷ []) (o ∷ []) ++ unfound ks os
unfound_one k ks None os = refl
unfound_one k ks (Some p) os = refl

pushed_keys : (p : Place) (o : Option LayerSpot) (before after : List Place) → (o ≡ None → (q : Place) × (after ≡ before ++ q ∷ []) × (seen_place q ≡ seen_place p)) → (IsSome o → after ≡ before)
    → map place_key after ≡ map place_key before ++ unfound (place_key p ∷ []) (o ∷ [])
pushed_keys p None before after wanted left =
    let w = wanted refl in
    ap (map place_key) w.1 ∙ (map-append place_key before (w.0 ∷ []) ∙ ap (λ (t : Texts). map place_key before ++ file_key t ∷ []) w.2)
pushed_keys p (Some s) before after wanted left = ap (map place_key) (left refl) ∙ sym (append-nil (map place_key before))

-- one more place was looked at
unfound_more : (ps : List Place) (os : List (Option LayerSpot)) (i : ℕ) (p : Place) (o : Option LayerSpot) (before after : List Place) (all : List (List ℕ)) → i < length ps → i < length os → p ≡ get_or ps i p → o ≡ get_or os i o
    → (o ≡ None → (q : Place) × (after ≡ before ++ q ∷ []) × (seen_place q ≡ seen_place p)) → (IsSome o → after ≡ before)
    → map place_key before ++ unfound (map place_key (drop i ps)) (drop i os) ≡ all → map place_key after ++ unfound (map place_key (drop (i + 1) ps)) (drop (i + 1) os) ≡ all
unfound_more ps os i p o before after all lt among is_p is_o wanted left so_far =
    let next : suc i ≡ i + 1 = omega arith in
    let rest = unfound (map place_key (drop (i + 1) ps)) (drop (i + 1) os) in
    let places : drop i ps ≡ p ∷ drop (i + 1) ps = drop-cons ps i p lt ∙ (ap (λ x. x ∷ drop (suc i) ps) (sym is_p) ∙ ap (λ n. p ∷ drop n ps) next) in
    let spots : drop i os ≡ o ∷ drop (i + 1) os = drop-cons os i o among ∙ (ap (λ x. x ∷ drop (suc i) os) (sym is_o) ∙ ap (λ n. o ∷ drop n os) next) in
    ap (λ (xs : List (List ℕ)). xs ++ rest) (pushed_keys p o before after wanted left)
    ∙ (append_assoc (map place_key before) (unfound (place_key p ∷ []) (o ∷ [])) rest
    ∙ (ap (λ (xs : List (List ℕ)). map place_key before ++ xs) (sym (unfound_one (place_key p) (map place_key (drop (i + 1) ps)) o (drop (i + 1) os)))
    ∙ (sym (ap (λ (xs : List Place). map place_key before ++ unfound (map place_key xs) (drop i os)) places ∙ ap (λ (ys : List (Option LayerSpot)). map place_key before ++ unfound (map place_key (p ∷ drop (i + 1) ps)) ys) spots) ∙ so_far)))

default : {A : Type 0} (xs : List A) (k : ℕ) (x y : A) → k < length xs → get_or xs k x ≡ get_or xs k y
default [] k x y lt = absurd (omega (arith, lt))
default (z ∷ zs) zero x y lt = refl
default (z ∷ zs) (suc k) x y lt = default zs k x y (omega (arith, lt))

-- the same, where its spot is read out of the list
pub unfound_at : (ps : List Place) (os : List (Option LayerSpot)) (i : ℕ) (p : Place) (d : Option LayerSpot) (before after : List Place) (all : List (List ℕ)) → i < length ps → i < length os → p ≡ get_or ps i p
    → (get_or os i d ≡ None → (q : Place) × (after ≡ before ++ q ∷ []) × (seen_place q ≡ seen_place p)) → (IsSome (get_or os i d) → after ≡ before)
    → map place_key before ++ unfound (map place_key (drop i ps)) (drop i os) ≡ all → map place_key after ++ unfound (map place_key (drop (i + 1) ps)) (drop (i + 1) os) ≡ all
unfound_at ps os i p d before after all lt among is_p wanted left so_far = unfound_more ps os i p (get_or os i d) before after all lt among is_p (default os i d (get_or os i d) among) wanted left so_far

-- a key that is looked for is one of the keys
in_all : {A : Type 0} (keys : List A) (os : List (Option LayerSpot)) (key : A) → Contains (unfound keys os) key → Contains keys key
in_all [] os key has = has
in_all (k ∷ ks) [] key has = absurd (let lt = has.1 in omega (arith, lt))
in_all (k ∷ ks) (Some p ∷ os) key has = Contains-append_right (k ∷ []) ks key (in_all ks os key has)
in_all (k ∷ ks) (None ∷ os) key (zero, lt, is) = (zero, omega arith, is)
in_all (k ∷ ks) (None ∷ os) key (suc i, lt, is) = Contains-append_right (k ∷ []) ks key (in_all ks os key (i, omega (arith, lt), is))

-- ---- what is known of each key

-- nothing, before the first layer is searched
pub searched_none : (layers : List (List Standing)) (keys : List (List ℕ)) (os : List (Option LayerSpot)) → length os ≡ length keys → ((i : ℕ) (d : Option LayerSpot) → i < length os → get_or os i d ≡ None) → AllZip (SearchedTo layers 0) keys os
searched_none layers [] [] long none = tt
searched_none layers [] (o ∷ os) long none = absurd (omega (arith, long))
searched_none layers (k ∷ ks) [] long none = absurd (omega (arith, long))
searched_none layers (k ∷ ks) (o ∷ os) long none = (
  subst (SearchedTo layers 0 k) (sym (none 0 None (omega arith))) (none_nearer layers (λ ss. FoundIn ss k None)),
  searched_none layers ks os (omega (arith, long)) (λ i d lt. none (suc i) d (omega (arith, lt))),
)

one_more : (layers : List (List Standing)) (n : ℕ) (ss : List Standing) (key : List ℕ) (f : Option Spot) → slice_get layers n ≡ Some ss → FoundIn ss key f → EachNearer layers n (λ tt. FoundIn tt key None) → SearchedTo layers (n + 1) key (in_layer n f)
one_more layers n ss key None at found nearer = one_nearer layers n ss (λ tt. FoundIn tt key None) at found nearer
one_more layers n ss key (Some s) at found nearer = record { layer = ss; at = at; here = found; nearer = nearer }

-- one layer more was searched
pub searched_more : (layers : List (List Standing)) (n : ℕ) (ss : List Standing) → slice_get layers n ≡ Some ss → (keys : List (List ℕ)) (os : List (Option LayerSpot)) (fs : List (Option Spot)) → AllZip (SearchedTo layers n) keys os → AllZip (FoundIn ss) (unfound keys os) fs
    → AllZip (SearchedTo layers (n + 1)) keys (merged n os fs)
searched_more layers n ss at [] [] fs so_far found = tt
searched_more layers n ss at [] (o ∷ os) fs so_far found = absurd so_far
searched_more layers n ss at (k ∷ ks) [] fs so_far found = absurd so_far
searched_more layers n ss at (k ∷ ks) (Some p ∷ os) fs so_far found = (so_far.0, searched_more layers n ss at ks os fs so_far.1 found)
searched_more layers n ss at (k ∷ ks) (None ∷ os) [] so_far found = absurd found
searched_more layers n ss at (k ∷ ks) (None ∷ os) (f ∷ fs) so_far found = (one_more layers n ss k f at found.0 so_far.0, searched_more layers n ss at ks os fs so_far.1 found.1)

-- all layers were searched
pub searched_all : (layers : List (List Standing)) (n : ℕ) (key : List ℕ) (o : Option LayerSpot) → length layers ≤ n → SearchedTo layers n key o → InNearest FoundIn layers key o
searched_all layers n key (Some p) all s = s
searched_all layers n key None all s = all_nearer layers n (λ ss. FoundIn ss key None) all s

-- ---- what that says

-- a search of one layer found this
pub found_zip : (ss : List Standing) (keys : List (List ℕ)) (os : List (Option Spot)) → AllZip (AllSayOf ss) keys os → ((t : List (List Pair)) → Tells (map listing ss) t → AllZip (IsAnswer ss t) keys os) → All (λ o. IfSome o (IsWithin ss)) os → AllZip (FoundIn ss) keys os
found_zip ss [] [] says answer within = tt
found_zip ss [] (o ∷ os) says answer within = absurd says
found_zip ss (k ∷ ks) [] says answer within = absurd says
found_zip ss (k ∷ ks) (o ∷ os) says answer within = (
  record { says = says.0; answer = λ t tells. (answer t tells).0; within = All-head (λ o. IfSome o (IsWithin ss)) o os within },
  found_zip ss ks os says.1 (λ t tells. (answer t tells).1) (All-tail (λ o. IfSome o (IsWithin ss)) o os within),
)

lacks_found : (ss : List Standing) (key : List ℕ) → FoundIn ss key None → Lacks key ss
lacks_found ss key f t tells = f.answer t tells

laid_at : (layers : List (List Standing)) (ts : List (List (List Pair))) (key : List ℕ) (p : LayerSpot) → AllTell layers ts → IsNearest FoundIn layers key p → IsLaidAt layers ts key p
laid_at layers ts key p tell near =
    let a = at_layer layers ts p.layer near.layer key tell near.at (λ j ss lt at. lacks_found ss key (near.nearer j ss lt at)) in
    let newest_at : IsNewestAt near.layer a.table key p.spot = near.here.answer a.table a.tells in
    record {
      layer = near.layer;
      at = near.at;
      segment = newest_at.segment;
      numbered = newest_at.numbered;
      fields = newest_at.fields;
      told = newest_at.told;
      bytes = a.newest_is ∙ ap (λ (o : Option (List ℕ)). or_older o a.older) newest_at.bytes;
    }

laid_answer : (layers : List (List Standing)) (ts : List (List (List Pair))) → AllTell layers ts → (key : List ℕ) (o : Option LayerSpot) → InNearest FoundIn layers key o → IsLaidAnswer layers ts key o
laid_answer layers ts tell key (Some p) near = laid_at layers ts key p tell near
laid_answer layers ts tell key None each = all_lack layers ts key tell (λ j ss at. lacks_found ss key (each j ss at))

layers_say : (layers : List (List Standing)) (key : List ℕ) (o : Option LayerSpot) → InNearest FoundIn layers key o → LayersSayOf layers key o
layers_say layers key (Some p) near = record { layer = near.layer; at = near.at; here = near.here.says; nearer = λ j ss lt at. (near.nearer j ss lt at).says }
layers_say layers key None each = λ j ss at. (each j ss at).says

within_layer : (layers : List (List Standing)) (key : List ℕ) (o : Option LayerSpot) → InNearest FoundIn layers key o → IfSome o (IsWithinLayer layers)
within_layer layers key (Some p) near = record { layer = near.layer; at = near.at; within = near.here.within }
within_layer layers key None each = tt

-- ---- of all keys

abbrev pub AllIn : List (List Standing) → List (List ℕ) → List (Option LayerSpot) → Type 0
AllIn layers keys os = AllZip (InNearest FoundIn layers) keys os

pub all_in : (layers : List (List Standing)) (n : ℕ) (keys : List (List ℕ)) (os : List (Option LayerSpot)) → length layers ≤ n → AllZip (SearchedTo layers n) keys os → AllIn layers keys os
all_in layers n keys os all so_far = zip_as (SearchedTo layers n) (InNearest FoundIn layers) keys os (λ key o s. searched_all layers n key o all s) so_far

pub all_answer : (layers : List (List Standing)) (keys : List (List ℕ)) (os : List (Option LayerSpot)) → AllIn layers keys os → (ts : List (List (List Pair))) → AllTell layers ts → AllZip (IsLaidAnswer layers ts) keys os
all_answer layers keys os in' ts tell = zip_as (InNearest FoundIn layers) (IsLaidAnswer layers ts) keys os (laid_answer layers ts tell) in'

pub all_say : (layers : List (List Standing)) (keys : List (List ℕ)) (os : List (Option LayerSpot)) → AllIn layers keys os → AllZip (LayersSayOf layers) keys os
all_say layers keys os in' = zip_as (InNearest FoundIn layers) (LayersSayOf layers) keys os (layers_say layers) in'

pub all_within : (layers : List (List Standing)) (keys : List (List ℕ)) (os : List (Option LayerSpot)) → AllIn layers keys os → All (λ o. IfSome o (IsWithinLayer layers)) os
all_within layers keys os in' = all_right (InNearest FoundIn layers) (λ o. IfSome o (IsWithinLayer layers)) keys os (within_layer layers) in'

-- ---- that they are the only ones

one_in_layer : (ss : List Standing) (key : List ℕ) (o r : Option Spot) → AllTold ss → AllSayOf ss key o → AllSayOf ss key r → o ≡ r
one_in_layer ss key o r told f g = ap (λ (xs : List (Option Spot)). get_or xs 0 None) (the_only ss (key ∷ []) (o ∷ []) (f, tt) told (r ∷ []) (g, tt))

three_ways : (m n : ℕ) → (m < n) ⊎ ((m ≡ n) ⊎ (n < m))
three_ways m n = grind arith

none_nearer_than : (layers : List (List Standing)) (key : List ℕ) (p q : LayerSpot) → EachLayer layers AllTold → IsNearest AllSayOf layers key p → IsNearest AllSayOf layers key q → p.layer < q.layer → ⊥
none_nearer_than layers key p q told f g lt =
    let e : Some p.spot ≡ None = one_in_layer f.layer key (Some p.spot) None (told p.layer f.layer f.at) f.here (g.nearer p.layer f.layer lt f.at) in
    cc e

one_spot : (layers : List (List Standing)) (key : List ℕ) (p q : LayerSpot) → EachLayer layers AllTold → IsNearest AllSayOf layers key p → IsNearest AllSayOf layers key q → p ≡ q
one_spot layers key p q told f g = go (three_ways p.layer q.layer)
  where
    go : (p.layer < q.layer) ⊎ ((p.layer ≡ q.layer) ⊎ (q.layer < p.layer)) → p ≡ q
    go (inl lt) = absurd (none_nearer_than layers key p q told f g lt)
    go (inr (inr lt)) = absurd (none_nearer_than layers key q p told g f lt)
    go (inr (inl same)) =
        let own : f.layer ≡ g.layer = same_Some f.layer g.layer (sym f.at ∙ (ap (slice_get layers) same ∙ g.at)) in
        let here = subst (λ (ss : List Standing). AllSayOf ss key (Some p.spot)) own f.here in
        let spot : p.spot ≡ q.spot = same_Some p.spot q.spot (one_in_layer g.layer key (Some p.spot) (Some q.spot) (told q.layer g.layer g.at) here g.here) in
        λ i. record { layer = same i; spot = spot i }

one_answer : (layers : List (List Standing)) (key : List ℕ) (o r : Option LayerSpot) → EachLayer layers AllTold → LayersSayOf layers key o → LayersSayOf layers key r → o ≡ r
one_answer layers key None None told f g = refl
one_answer layers key None (Some q) told f g =
    let e : Some q.spot ≡ None = one_in_layer g.layer key (Some q.spot) None (told q.layer g.layer g.at) g.here (f q.layer g.layer g.at) in
    absurd (cc e)
one_answer layers key (Some p) None told f g =
    let e : Some p.spot ≡ None = one_in_layer f.layer key (Some p.spot) None (told p.layer f.layer f.at) f.here (g p.layer f.layer f.at) in
    absurd (cc e)
one_answer layers key (Some p) (Some q) told f g = ap (λ (s : LayerSpot). Some s) (one_spot layers key p q told f g)

pub the_only_ones : (layers : List (List Standing)) (keys : List (List ℕ)) (os : List (Option LayerSpot)) → AllZip (LayersSayOf layers) keys os → AreTheOnlyOnes layers keys os
the_only_ones layers keys os says told others said = go keys os others says said
  where
    go : (ks : List (List ℕ)) (xs ys : List (Option LayerSpot)) → AllZip (LayersSayOf layers) ks xs → AllZip (LayersSayOf layers) ks ys → xs ≡ ys
    go [] [] [] h k = refl
    go [] [] (y ∷ ys) h k = absurd k
    go [] (x ∷ xs) ys h k = absurd h
    go (key ∷ ks) [] ys h k = absurd h
    go (key ∷ ks) (x ∷ xs) [] h k = absurd k
    go (key ∷ ks) (x ∷ xs) (y ∷ ys) h k = λ i. one_answer layers key x y told h.0 k.0 i ∷ go ks xs ys h.1 k.1 i

-- ---- what refuses

stands_for_all : (ss : List Standing) (some all : List (List ℕ)) (d : Damage) → ((key : List ℕ) → Contains some key → Contains all key) → StandsForSome ss some d → StandsForSome ss all d
stands_for_all ss some all d more damage = (damage.0, damage.1, damage.2, go damage.3)
  where
    go : StandsForOne damage.1.files some d → StandsForOne damage.1.files all d
    go (inl bad) = inl bad
    go (inr beyond) = inr (beyond.0, more beyond.0 beyond.1, beyond.2)

module _ {F : Type 0} where
  -- of the keys that were looked for, so of all
  pub damaged_for_all : (e : FindFault F) (ss : List Standing) (n : ℕ) (keys some : List (List ℕ)) (os : List (Option LayerSpot)) → some ≡ unfound keys os → OnDamaged e (λ m d. (m ≡ n) × StandsForSome ss some d) → OnDamaged e (λ m d. (m ≡ n) × StandsForSome ss keys d)
  damaged_for_all (faults.Fault f) ss n keys some os is h = tt
  damaged_for_all (faults.Damaged m d) ss n keys some os is h = (h.0, stands_for_all ss some keys d (λ key has. in_all keys os key (subst (λ (xs : List (List ℕ)). Contains xs key) is has)) h.1)
  damaged_for_all faults.NoMemory ss n keys some os is h = tt

  pub damaged_number : (e : FindFault F) (layers : List (List Standing)) (n : ℕ) (ss : List Standing) (keys : List (List ℕ)) → slice_get layers n ≡ Some ss → OnDamaged e (λ m d. (m ≡ n) × StandsForSome ss keys d) → OnDamaged e (StandsInNumber layers keys)
  damaged_number (faults.Fault f) layers n ss keys at h = tt
  damaged_number (faults.Damaged m d) layers n ss keys at h = record { layer = ss; at = ap (slice_get layers) h.0 ∙ at; damage = h.1 }
  damaged_number faults.NoMemory layers n ss keys at h = tt

  pub untold_number : (e : FindFault F) (layers : List (List Standing)) (n : ℕ) (ss : List Standing) (keys : List (List ℕ)) → slice_get layers n ≡ Some ss → OnDamaged e (λ m d. (m ≡ n) × StandsForSome ss keys d) → OnDamaged e (λ _ _. SomeUntold (map listing ss)) → OnDamaged e (λ m _. IsUntoldNumber layers m)
  untold_number (faults.Fault f) layers n ss keys at h untold = tt
  untold_number (faults.Damaged m d) layers n ss keys at h untold = record { layer = ss; at = ap (slice_get layers) h.0 ∙ at; untold = untold }
  untold_number faults.NoMemory layers n ss keys at h untold = tt

-- ---- one key more is merged

pub merged_more : (n : ℕ) (os : List (Option LayerSpot)) (i : ℕ) (one new : Option LayerSpot) (rest left found : List (Option Spot)) (out after all : List (Option LayerSpot)) → i < length os → one ≡ get_or os i one → after ≡ out ++ new ∷ []
    → ((others : List (Option LayerSpot)) → merged n (one ∷ others) rest ≡ new ∷ merged n others left) → out ++ merged n (drop i os) rest ≡ all → after ++ merged n (drop (i + 1) os) left ≡ all
merged_more n os i one new rest left found out after all lt is pushed merges so_far =
    let next : suc i ≡ i + 1 = omega arith in
    let spots : drop i os ≡ one ∷ drop (i + 1) os = drop-cons os i one lt ∙ (ap (λ o. o ∷ drop (suc i) os) (sym is) ∙ ap (λ n. one ∷ drop n os) next) in
    ap (λ (xs : List (Option LayerSpot)). xs ++ merged n (drop (i + 1) os) left) pushed
    ∙ (append_assoc out (new ∷ []) (merged n (drop (i + 1) os) left)
    ∙ (ap (λ (xs : List (Option LayerSpot)). out ++ xs) (sym (merges (drop (i + 1) os)))
    ∙ (ap (λ (xs : List (Option LayerSpot)). out ++ merged n xs rest) (sym spots) ∙ so_far)))

-- nothing is left to merge
pub merged_end : (n : ℕ) (os : List (Option LayerSpot)) (i : ℕ) (rest : List (Option Spot)) (out all : List (Option LayerSpot)) → length os ≤ i → out ++ merged n (drop i os) rest ≡ all → out ≡ all
merged_end n os i rest out all past so_far = sym (append-nil out) ∙ (ap (λ (xs : List (Option LayerSpot)). out ++ merged n xs rest) (sym (drop_all i os past)) ∙ so_far)

-- nor to look for
pub unfound_end : (ps : List Place) (os : List (Option LayerSpot)) (i : ℕ) (out all : List (List ℕ)) → length ps ≤ i → out ++ unfound (map place_key (drop i ps)) (drop i os) ≡ all → out ≡ all
unfound_end ps os i out all past so_far = sym (append-nil out) ∙ (ap (λ (xs : List Place). out ++ unfound (map place_key xs) (drop i os)) (sym (drop_all i ps past)) ∙ so_far)

-- the layer with a number, where layers are lent
pub shown_at : (layers : List (Bor (List Standing))) (i : ℕ) (l : Bor (List Standing)) → i < length layers → l ≡ get_or layers i l → slice_get (shown layers) i ≡ Some l.now
shown_at layers i l lt is = slice_get-map (λ (x : Bor (List Standing)). x.now) layers i ∙ ap (option_map (λ (x : Bor (List Standing)). x.now)) (slice_get_read layers (length layers) i l refl lt is)

-- the same, by what a search of the layer makes of the spots
pub searched_after : (layers : List (List Standing)) (n : ℕ) (ss : List Standing) → slice_get layers n ≡ Some ss → (keys : List (List ℕ)) (before lent after : List (Option LayerSpot)) → lent ≡ before → AllZip (SearchedTo layers n) keys before → SearchesMore ss n keys lent after
    → AllZip (SearchedTo layers (n + 1)) keys after
searched_after layers n ss at keys before lent after same so_far more =
    subst (λ (os : List (Option LayerSpot)). AllZip (SearchedTo layers (n + 1)) keys os) (sym more.merged_is)
    (searched_more layers n ss at keys lent more.found (subst (λ (os : List (Option LayerSpot)). AllZip (SearchedTo layers n) keys os) (sym same) so_far) more.each)
