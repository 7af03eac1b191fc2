-- Each key in the nearest of its datasets that has it.
use Rattle.std.proofs.Common.{◌≡◌, ◌∙◌, ◌<◌, ◌≤◌, ◌+◌, ◌-◌, ℕ, zero, suc, true, false, List, [], ◌∷◌, ◌++◌, length, map, take, drop, get_or, All, Option, Some, None, IfSome, refl, sym, ap, subst, append_assoc, append-nil, arith}
use Rattle.std.specs.Prelude.{is_some, min, slice_get, option_map}
use Rattle.std.specs.List.{AllZip}
use Rattle.std.proofs.lemmas.List.Elements.{All-nil, All-cons, All-head, All-tail}
use Rattle.fd_entries.specs.declared.batch.Pair as batches
use Rattle.fd_entries.specs.Batches.{newest, or_older}
use Rattle.fd_key.specs.Pairs.{Pair}
use Rattle.fd_schema.specs.declared.place.Place.{Place}
use Rattle.fd_schema.specs.Reading.{seen_place}
use Rattle.fd_schema.specs.Rules.{Texts, file_key}
use Rattle.fd_layers.specs.Tables.{laid}
use Rattle.fd_layers.proofs.Laid.{nearest_first}
use Rattle.fd_ahead.specs.declared.located.Located.{Located}
use Rattle.fd_ahead.specs.Places.{AreIn, IsIn}
use Rattle.fd_outcome.specs.Asking.{Answer, Tables, all_answers}
use Rattle.fd_outcome.specs.Layered.{Laid, all_places, laid_answers, places_under, table_before, tables_at}
use Rattle.fd_answering.specs.Located.{AreAt, IsAt}
use Rattle.fd_retrieve.specs.Located.{IsLocated}
use Rattle.fd_retrieve.specs.Open.{Open, table_in}
use Rattle.fd_retrieve.proofs.LocatingLemmas.{bytes_at}
use Rattle.fd_retrieve.proofs.Noticing.{zip_of}
use Rattle.fd_layered.specs.Chains.{AreChains, IsChain, first_some, firsts, laid_by}
use Rattle.fd_layered.specs.Finding.{AreNearest}

some_is : {A : Type 0} (x y : A) → (let o : Option A = Some x in o ≡ Some y) → x ≡ y
some_is x y e = cc

-- ---- lists

pub zip_parts : {A B : Type 0} (R : A → B → Type 0) (xs ys : List A) (zs : List B) → AllZip R (xs ++ ys) zs → AllZip R xs (take (length xs) zs) × AllZip R ys (drop (length xs) zs)
zip_parts R [] ys zs h = (tt, h)
zip_parts R (x ∷ xs) ys [] h = absurd h
zip_parts R (x ∷ xs) ys (z ∷ zs) h = let later = zip_parts R xs ys zs h.1 in ((h.0, later.0), later.1)

all_of : (P : Option Located → Type 0) (ls : List (Option Located)) → ((k : ℕ) (d : Option Located) → k < length ls → P (get_or ls k d)) → All P ls
all_of P [] each = All-nil P
all_of P (l ∷ ls) each = All-cons P l ls (each 0 l (omega arith)) (all_of P ls (λ k d lt. each (suc k) d (omega (arith, lt))))

each_of : (P : Option Located → Type 0) (ls : List (Option Located)) → All P ls → (k : ℕ) (d : Option Located) → k < length ls → P (get_or ls k d)
each_of P [] all k d lt = absurd (omega (arith, lt))
each_of P (l ∷ ls) all zero d lt = All-head P l ls all
each_of P (l ∷ ls) all (suc k) d lt = each_of P ls (All-tail P l ls all) k d (omega (arith, lt))

all_front : {A : Type 0} (P : A → Type 0) (n : ℕ) (xs : List A) → All P xs → All P (take n xs)
all_front P zero xs all = All-nil P
all_front P (suc n) [] all = All-nil P
all_front P (suc n) (x ∷ xs) all = All-cons P x (take n xs) (All-head P x xs all) (all_front P n xs (All-tail P x xs all))

all_back : {A : Type 0} (P : A → Type 0) (n : ℕ) (xs : List A) → All P xs → All P (drop n xs)
all_back P zero xs all = all
all_back P (suc n) [] all = All-nil P
all_back P (suc n) (x ∷ xs) all = all_back P n xs (All-tail P x xs all)

-- ---- the first of each

pub first_past : {A : Type 0} (os : List (Option A)) (i : ℕ) (o : Option A) → i < length os → o ≡ get_or os i o → is_some o ≡ false → first_some (drop i os) ≡ first_some (drop (i + 1) os)
first_past [] i o lt is none = absurd (omega (arith, lt))
first_past (x ∷ os) zero None lt is none = ap (λ y. first_some (y ∷ os)) (sym is)
first_past (x ∷ os) zero (Some y) lt is none = absurd (cc none)
first_past (x ∷ os) (suc i) o lt is none = let up : suc (i + 1) ≡ suc i + 1 = omega arith in first_past os i o (omega (arith, lt)) is none ∙ ap (λ k. first_some (drop k (x ∷ os))) up

pub first_here : {A : Type 0} (os : List (Option A)) (i : ℕ) (o : Option A) → i < length os → o ≡ get_or os i o → is_some o ≡ true → first_some (drop i os) ≡ o
first_here [] i o lt is there = absurd (omega (arith, lt))
first_here (x ∷ os) zero None lt is there = absurd (cc there)
first_here (x ∷ os) zero (Some y) lt is there = ap (λ z. first_some (z ∷ os)) (sym is)
first_here (x ∷ os) (suc i) o lt is there = first_here os i o (omega (arith, lt)) is there

pub first_none : {A : Type 0} (os : List (Option A)) (i : ℕ) → length os ≤ i → first_some (drop i os) ≡ None
first_none [] zero le = refl
first_none [] (suc i) le = refl
first_none (x ∷ os) zero le = absurd (omega (arith, le))
first_none (x ∷ os) (suc i) le = first_none os i (omega (arith, le))

-- as many as there are, at most so many
take_cut : {A : Type 0} (m n : ℕ) (xs : List A) → m ≤ n → (m < n → length xs ≤ m) → take m xs ≡ take n xs
take_cut zero zero xs le all = refl
take_cut (suc m) zero xs le all = absurd (omega (arith, le))
take_cut zero (suc n) [] le all = refl
take_cut (suc m) (suc n) [] le all = refl
take_cut zero (suc n) (x ∷ xs) le all = absurd (let l = all (omega arith) in omega (arith, l))
take_cut (suc m) (suc n) (x ∷ xs) le all = ap (λ l. x ∷ l) (take_cut m n xs (omega (arith, le)) (λ lt. let l = all (omega (arith, lt)) in omega (arith, l)))

drop_cut : {A : Type 0} (m n : ℕ) (xs : List A) → m ≤ n → (m < n → length xs ≤ m) → drop m xs ≡ drop n xs
drop_cut zero zero xs le all = refl
drop_cut (suc m) zero xs le all = absurd (omega (arith, le))
drop_cut zero (suc n) [] le all = refl
drop_cut (suc m) (suc n) [] le all = refl
drop_cut zero (suc n) (x ∷ xs) le all = absurd (let l = all (omega arith) in omega (arith, l))
drop_cut (suc m) (suc n) (x ∷ xs) le all = drop_cut m n xs (omega (arith, le)) (λ lt. let l = all (omega (arith, lt)) in omega (arith, l))

module _ {A : Type 0} (n i count cut : ℕ) (start rest chain others all after : List (Option A)) (one : Option A) (lt : i < count) (short : cut ≡ min n (length rest)) (front : chain ≡ take cut rest) (back : others ≡ drop cut rest) (first : one ≡ first_some chain) (pushed : after ≡ all ++ one ∷ []) where
  pub firsts_more : firsts n count start ≡ all ++ firsts n (count - i) rest → firsts n count start ≡ after ++ firsts n (count - (i + 1)) others
  firsts_more so_far =
      let le : cut ≤ n = omega (arith, short) in
      let whole : cut < n → length rest ≤ cut = λ l. omega (arith, short, l) in
      let same_chain : chain ≡ take n rest = front ∙ take_cut cut n rest le whole in
      let same_others : others ≡ drop n rest = back ∙ drop_cut cut n rest le whole in
      let next : count - i ≡ suc (count - (i + 1)) = omega (arith, lt) in
      so_far
      ∙ ap (λ m. all ++ firsts n m rest) next
      ∙ ap (λ l. all ++ first_some l ∷ firsts n (count - (i + 1)) (drop n rest)) (sym same_chain)
      ∙ ap (λ l. all ++ first_some chain ∷ firsts n (count - (i + 1)) l) (sym same_others)
      ∙ ap (λ o. all ++ o ∷ firsts n (count - (i + 1)) others) (sym first)
      ∙ sym (append_assoc all (one ∷ []) (firsts n (count - (i + 1)) others))
      ∙ ap (λ l. l ++ firsts n (count - (i + 1)) others) (sym pushed)

pub firsts_all : {A : Type 0} (n i count : ℕ) (start rest all : List (Option A)) → count ≤ i → firsts n count start ≡ all ++ firsts n (count - i) rest → all ≡ firsts n count start
firsts_all n i count start rest all le so_far =
    let none : count - i ≡ 0 = omega (arith, le) in
    sym (so_far ∙ ap (λ m. all ++ firsts n m rest) none ∙ append-nil all)

firsts_long : {A : Type 0} (n m : ℕ) (os : List (Option A)) → length (firsts n m os) ≡ m
firsts_long n zero os = refl
firsts_long n (suc m) os = ap suc (firsts_long n m (drop n os))

first_in : (P : Located → Type 0) (os : List (Option Located)) → All (λ o. IfSome o P) os → IfSome (first_some os) P
first_in P [] all = tt
first_in P (Some x ∷ os) all = All-head (λ o. IfSome o P) (Some x) os all
first_in P (None ∷ os) all = first_in P os (All-tail (λ o. IfSome o P) None os all)

firsts_in : (P : Located → Type 0) (n m : ℕ) (os : List (Option Located)) → All (λ o. IfSome o P) os → All (λ o. IfSome o P) (firsts n m os)
firsts_in P n zero os all = All-nil (λ o. IfSome o P)
firsts_in P n (suc m) os all = All-cons (λ o. IfSome o P) (first_some (take n os)) (firsts n m (drop n os)) (first_in P (take n os) (all_front (λ o. IfSome o P) n os all)) (firsts_in P n m (drop n os) (all_back (λ o. IfSome o P) n os all))

-- ---- one key

module _ (os : List Open) (fk : List ℕ) where
  pub chain_at : (ps : List Texts) (ls : List (Option Located)) (ts : List (List (List batches.Pair))) → All (λ p. file_key p ≡ fk) ps → AllZip (IsLocated os) ps ls → tables_at (table_in os) ps ≡ Some ts → IsAt os (newest (laid ts) fk) (first_some ls)
  chain_at [] [] ts same there told = subst (λ (x : List (List (List batches.Pair))). newest (laid x) fk ≡ None) (some_is [] ts told) refl
  chain_at [] (l ∷ ls) ts same there told = absurd there
  chain_at (p ∷ ps) [] ts same there told = absurd there
  chain_at (p ∷ ps) (l ∷ ls) ts same there told = go (table_in os p.dataset) (tables_at (table_in os) ps) refl refl told (λ us f. chain_at ps ls us (All-tail (λ q. file_key q ≡ fk) p ps same) there.1 f)
    where
      here : (o : Option Located) (t : List (List batches.Pair)) (us : List (List (List batches.Pair))) → IsAt os (newest t fk) o → IsAt os (newest (laid us) fk) (first_some ls) → IsAt os (or_older (newest t fk) (newest (laid us) fk)) (first_some (o ∷ ls))
      here (Some x) t us at later = record { dataset = at.dataset; at = at.at; segment = at.segment; numbered = at.numbered; fields = at.fields; told = at.told; is = ap (λ b. or_older b (newest (laid us) fk)) at.is }
      here None t us at later = subst (λ b. IsAt os (or_older b (newest (laid us) fk)) (first_some ls)) (sym at) later

      go : (a : Option (List (List batches.Pair))) (b : Option (List (List (List batches.Pair)))) → table_in os p.dataset ≡ a → tables_at (table_in os) ps ≡ b → table_before a b ≡ Some ts
          → ((us : List (List (List batches.Pair))) → tables_at (table_in os) ps ≡ Some us → IsAt os (newest (laid us) fk) (first_some ls)) → IsAt os (newest (laid ts) fk) (first_some (l ∷ ls))
      go None b f g q later = absurd (cc q)
      go (Some t) None f g q later = absurd (cc q)
      go (Some t) (Some us) f g q later =
          let own = All-head (λ x. file_key x ≡ fk) p ps same in
          let at = subst (λ k. IsAt os (newest t k) l) own (bytes_at os p l t there.0 f) in
          subst (λ (x : List (List (List batches.Pair))). IsAt os (newest (laid x) fk) (first_some (l ∷ ls))) (some_is (t ∷ us) ts q)
          (subst (λ b. IsAt os b (first_some (l ∷ ls))) (sym (nearest_first t us fk)) (here l t us at (later us g)))

-- ---- all keys

record First (tables : Tables) (a : Laid) (rest : Option (List Answer)) (xs : List Answer) : Type 0 where
  ts : List (List (List batches.Pair))
  told : tables_at tables (places_under a) ≡ Some ts
  others : List Answer
  are_others : rest ≡ Some others
  is : xs ≡ record { key = a.key; found = newest (laid ts) (file_key a.place) } ∷ others

first_told : (tables : Tables) (a : Laid) (rest : Option (List Answer)) (o : Option (List (List (List batches.Pair)))) (xs : List Answer) → tables_at tables (places_under a) ≡ o
    → all_answers (option_map (λ ts. record { key = a.key; found = newest (laid ts) (file_key a.place) }) o) rest ≡ Some xs → First tables a rest xs
first_told tables a rest None xs is e = absurd (cc e)
first_told tables a None (Some ts) xs is e = absurd (cc e)
first_told tables a (Some ys) (Some ts) xs is e = record { ts = ts; told = is; others = ys; are_others = refl; is = sym (some_is (record { key = a.key; found = newest (laid ts) (file_key a.place) } ∷ ys) xs e) }

as_many : (tables : Tables) (cs : List Laid) (xs : List Answer) → laid_answers tables cs ≡ Some xs → length xs ≡ length cs
as_many tables [] xs e = sym (ap length (some_is [] xs e))
as_many tables (a ∷ cs) xs e =
    let f = first_told tables a (laid_answers tables cs) (tables_at tables (places_under a)) xs refl e in
    ap length f.is ∙ ap suc (as_many tables cs f.others f.are_others)

abbrev At : List Open → List Answer → List (Option Located) → ℕ → List Pair → Type 0
At os xs ls k key = (found : Option (List ℕ)) × (slice_get xs k ≡ Some (record { key = key; found = found })) × ((d : Option Located) → IsAt os found (get_or ls k d))

module _ (os : List Open) (n : ℕ) where
  each_at : (cs : List Laid) (ls : List (Option Located)) (xs : List Answer) → All (IsChain n) cs → AllZip (IsLocated os) (all_places cs) ls → laid_answers (table_in os) cs ≡ Some xs
      → (k : ℕ) (key : List Pair) → slice_get (map (λ a. a.key) cs) k ≡ Some key → At os xs (firsts (n + 1) (length cs) ls) k key
  each_at [] ls xs chains there e k key at = absurd (cc at)
  each_at (a ∷ cs) ls xs chains there e k key at = go k at (λ m here. each_at cs (drop (n + 1) ls) f.others (All-tail (IsChain n) a cs chains) parts.1 f.are_others m key here)
    where
      chain : IsChain n a
      chain = All-head (IsChain n) a cs chains

      wide : length (places_under a) ≡ n + 1
      wide = let l = chain.long in omega (arith, l)

      parts : AllZip (IsLocated os) (places_under a) (take (n + 1) ls) × AllZip (IsLocated os) (all_places cs) (drop (n + 1) ls)
      parts = subst (λ w. AllZip (IsLocated os) (places_under a) (take w ls) × AllZip (IsLocated os) (all_places cs) (drop w ls)) wide (zip_parts (IsLocated os) (places_under a) (all_places cs) ls there)

      f : First (table_in os) a (laid_answers (table_in os) cs) xs
      f = first_told (table_in os) a (laid_answers (table_in os) cs) (tables_at (table_in os) (places_under a)) xs refl e

      go : (k : ℕ) → slice_get (map (λ b. b.key) (a ∷ cs)) k ≡ Some key → ((m : ℕ) → slice_get (map (λ b. b.key) cs) m ≡ Some key → At os f.others (firsts (n + 1) (length cs) (drop (n + 1) ls)) m key)
          → At os xs (firsts (n + 1) (length (a ∷ cs)) ls) k key
      go zero at more = (
        newest (laid f.ts) (file_key a.place),
        ap (λ l. slice_get l 0) f.is ∙ ap (λ x. Some (record { key = x; found = newest (laid f.ts) (file_key a.place) })) (some_is a.key key at),
        λ d. chain_at os (file_key a.place) (places_under a) (take (n + 1) ls) f.ts (All-cons (λ p. file_key p ≡ file_key a.place) a.place a.under refl chain.same) parts.0 f.told,
      )
      go (suc k) at more =
          let later = more k at in
          (later.0, ap (λ l. slice_get l (suc k)) f.is ∙ later.1, later.2)

-- what stands where the keys are located are the answers
pub nearest_at : (os : List Open) (n : ℕ) (ks : List (List Pair)) (ps : List Place) (count : ℕ) (near : List (Option Located)) (xs : List Answer) → count ≡ length ks → AreChains n ks (map seen_place ps) → AreNearest os ps (n + 1) count near
    → laid_answers (table_in os) (laid_by n ks (map seen_place ps)) ≡ Some xs → AreAt os ks xs near
nearest_at os n ks ps count near xs counted chains nearest e = record {
  long = as_many (table_in os) cs xs e ∙ many;
  each = λ k key at.
      let one = each_at os n cs nearest.located xs chains.each there e k key (ap (λ l. slice_get l k) chains.keys ∙ at) in
      (one.0, one.1, λ d. subst (λ l. IsAt os one.0 (get_or l k d)) (ap (λ m. firsts (n + 1) m nearest.located) (many ∙ sym counted) ∙ sym nearest.is) (one.2 d));
}
  where
    cs : List Laid
    cs = laid_by n ks (map seen_place ps)

    keys_long : (bs : List Laid) → length (map (λ b. b.key) bs) ≡ length bs
    keys_long [] = refl
    keys_long (b ∷ bs) = ap suc (keys_long bs)

    many : length cs ≡ length ks
    many = sym (keys_long cs) ∙ ap length chains.keys

    there : AllZip (IsLocated os) (all_places cs) nearest.located
    there = subst (λ l. AllZip (IsLocated os) l nearest.located) (sym chains.places) (zip_of os ps nearest.located nearest.each.long nearest.each.each)

pub nearest_long : (os : List Open) (ps : List Place) (width count : ℕ) (near : List (Option Located)) → AreNearest os ps width count near → length near ≡ count
nearest_long os ps width count near nearest = ap length nearest.is ∙ firsts_long width count nearest.located

pub nearest_in : (os : List Open) (ps : List Place) (width count : ℕ) (near : List (Option Located)) → AreNearest os ps width count near → AreIn os near
nearest_in os ps width count near nearest =
    subst (AreIn os) (sym nearest.is)
    (each_of (λ o. IfSome o (IsIn os)) (firsts width count nearest.located) (firsts_in (IsIn os) width count nearest.located
    (all_of (λ o. IfSome o (IsIn os)) nearest.located (λ k d lt. nearest.each.within k d (let l = nearest.each.long in omega (arith, l, lt))))))
