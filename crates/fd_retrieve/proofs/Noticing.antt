-- What stands where the keys of a request are located, also where some of its datasets aren't sound.
use Rattle.std.proofs.Common.{◌≡◌, ◌∙◌, ◌<◌, ◌-◌, ◌||◌, ℕ, zero, suc, Bool, true, false, List, [], ◌∷◌, ◌++◌, length, map, take, drop, get_or, All, Option, Some, None, IfSome, refl, sym, ap, subst, arith}
use Rattle.std.specs.Prelude.{IsSome, is_some, slice_get, Ok}
use Rattle.std.specs.List.{AllZip}
use Rattle.std.specs.Str.{bytes_eq}
use Rattle.std.proofs.lemmas.List.{length-map}
use Rattle.std.proofs.lemmas.Slice.Eq.{bytes_eq-Decides}
use Rattle.fd_disk.specs.declared.file.File.{File}
use Rattle.fd_disk.specs.declared.folders.FileName.{FileName}
use Rattle.fd_disk.specs.Folders.{Holdings, folder_at}
use Rattle.fd_entries.specs.declared.batch.Pair as batches
use Rattle.fd_entries.specs.declared.table.Entry.{Entry}
use Rattle.fd_entries.specs.Batches.{newest}
use Rattle.fd_entries.specs.Table.{listed}
use Rattle.fd_key.specs.Pairs.{Pair}
use Rattle.fd_schema.specs.declared.place.Place.{Place}
use Rattle.fd_schema.specs.Reading.{seen_place}
use Rattle.fd_schema.specs.Rules.{Texts, file_key}
use Rattle.fd_segment.specs.Held.{Files, Standing}
use Rattle.fd_recovery.specs.Damages.{damages, damages_at, damages_of, digest_damages, field_file, index_file, lengths_at}
use Rattle.fd_recovery.specs.Recovered.{IsUndamaged, files_of}
use Rattle.fd_ahead.specs.declared.located.Located.{Located}
use Rattle.fd_ahead.specs.Places.{AreIn, IsIn}
use Rattle.fd_outcome.specs.Asking.{Answer, Tables}
use Rattle.fd_stored.specs.Distinct.{is_among}
use Rattle.fd_outcome.specs.Noticing.{IsAnswer}
use Rattle.fd_answering.specs.Finding.{asked_of_all}
use Rattle.fd_answering.specs.Located.{AreAt, IsAt, StandsAt}
use Rattle.fd_retrieve.specs.Located.{IsLocated}
use Rattle.fd_retrieve.specs.Open.{IsOpenIn, Open, names_of, table_in}
use Rattle.fd_retrieve.specs.Tables.{datasets_in}
use Rattle.fd_answering.proofs.AnsweringLemmas.{there_is}
use Rattle.fd_retrieve.proofs.DatasetLemmas.{all_at, among_named}
use Rattle.fd_retrieve.proofs.LocatingLemmas.{bytes_at}

some_is : {A : Type 0} (x y : A) → (let o : Option A = Some x in o ≡ Some y) → x ≡ y
some_is x y e = cc

-- ---- the field files of a dataset that isn't damaged

no_front : {A : Type 0} (xs ys : List A) → xs ++ ys ≡ [] → xs ≡ []
no_front [] ys e = refl
no_front (x ∷ xs) ys e = absurd (cc e)

no_back : {A : Type 0} (xs ys : List A) → xs ++ ys ≡ [] → ys ≡ []
no_back [] ys e = e
no_back (x ∷ xs) ys e = absurd (cc e)

module _ (files : FileName → Option (List ℕ)) where
  field_there : (e : Entry) → damages_at files e ≡ [] → IsSome (files (field_file e))
  field_there e none =
      go (files (field_file e)) (no_front (damages_of (field_file e) e.fields_len (files (field_file e))) (damages_of (index_file e) e.index_len (files (index_file e))) (no_front (lengths_at files e) (digest_damages e (files (index_file e))) none))
    where
      go : (o : Option (List ℕ)) → damages_of (field_file e) e.fields_len o ≡ [] → IsSome o
      go None none = absurd (cc none)
      go (Some bytes) none = refl

  fields_there : (es : List Entry) (ss : List Standing) → damages files es ≡ [] → map (λ s. s.files) ss ≡ map (files_of files) es → (i : ℕ) (s : Standing) → slice_get ss i ≡ Some s → IsSome s.files.fields
  fields_there es [] none same i s at = absurd (cc at)
  fields_there [] (x ∷ ss) none same i s at = absurd (cc same)
  fields_there (e ∷ es) (x ∷ ss) none same zero s at =
      let here : x.files ≡ files_of files e = cc same in
      ap (λ (f : Files). is_some f.fields) (ap (λ (y : Standing). y.files) (sym (some_is x s at)) ∙ here) ∙ field_there e (no_front (damages_at files e) (damages files es) none)
  fields_there (e ∷ es) (x ∷ ss) none same (suc i) s at = fields_there es ss (no_back (damages_at files e) (damages files es) none) (cc same) i s at

-- the field file of each segment that is open is there
abbrev pub AreFielded : List Open → Type 0
AreFielded os = (k i : ℕ) (o : Open) (s : Standing) → slice_get os k ≡ Some o → slice_get o.shown i ≡ Some s → IsSome s.files.fields

pub fielded : (h : Holdings) (os : List Open) → All (IsOpenIn h) os → ((n : List ℕ) → is_among (names_of os) n ≡ true → IsUndamaged n (folder_at h n)) → AreFielded os
fielded h os each sound k i o s at there =
    let l = (all_at (IsOpenIn h) os k o each at).listed in
    let v = folder_at h o.name in
    let none = subst (λ (t : Option File). IfSome t (λ f. (es : List Entry) × (listed o.name f.reads ≡ Ok es) × (damages v.files es ≡ []))) l.table_is (sound o.name (among_named os k o at)) in
    let same : none.0 ≡ l.entries = cc (none.1, l.lists) in
    fields_there v.files l.entries o.shown (subst (λ es. damages v.files es ≡ []) same none.2) l.files i s there

-- ---- what stands where a key is located

stands_there : (os : List Open) (l : Located) → AreFielded os → IsIn os l → (bytes : Option (List ℕ)) × StandsAt os bytes l
stands_there os l fields is = go s.0 s.1 s.0.files.fields refl (fields l.number (l.spot.number - 1) is.dataset s.0 is.at s.1)
  where
    s : (x : Standing) × (slice_get is.dataset.shown (l.spot.number - 1) ≡ Some x)
    s = let w = is.within in there_is is.dataset.shown (l.spot.number - 1) (omega (arith, w.from, w.to))

    go : (x : Standing) → slice_get is.dataset.shown (l.spot.number - 1) ≡ Some x → (f : Option (List ℕ)) → x.files.fields ≡ f → IsSome f → (bytes : Option (List ℕ)) × StandsAt os bytes l
    go x at None told there = absurd (cc there)
    go x at (Some f) told there =
        (Some (take l.spot.len (drop l.spot.at f)), record { dataset = is.dataset; at = is.at; segment = x; numbered = (is.within.from, at); fields = f; told = told; is = refl })

at_some : (os : List Open) (o : Option Located) → AreFielded os → IfSome o (IsIn os) → (bytes : Option (List ℕ)) × IsAt os bytes o
at_some os None fields is = (None, refl)
at_some os (Some l) fields is = stands_there os l fields is

-- nothing else stands there
pub at_same : (os : List Open) (a b : Option (List ℕ)) (o : Option Located) → IsAt os a o → IsAt os b o → a ≡ b
at_same os a b None p q = p ∙ sym q
at_same os a b (Some l) p q =
    let dataset : p.dataset ≡ q.dataset = some_is p.dataset q.dataset (sym p.at ∙ q.at) in
    let segment : p.segment ≡ q.segment = some_is p.segment q.segment (sym p.numbered.1 ∙ ap (λ (x : Open). slice_get x.shown (l.spot.number - 1)) dataset ∙ q.numbered.1) in
    let fields : p.fields ≡ q.fields = some_is p.fields q.fields (sym p.told ∙ ap (λ (s : Standing). s.files.fields) segment ∙ q.told) in
    p.is ∙ ap (λ (f : List ℕ). Some (take l.spot.len (drop l.spot.at f))) fields ∙ sym q.is

-- the answers of keys, in their order: what stands where they are located
pub record AreStanding (os : List Open) (ks : List (List Pair)) (ls : List (Option Located)) (xs : List Answer) : Type 0 where
  pub keys : map (λ x. x.key) xs ≡ ks
  pub each : AllZip (λ x l. IsAt os x.found l) xs ls

pub stand_all : (os : List Open) → AreFielded os → (ks : List (List Pair)) (ls : List (Option Located)) → length ls ≡ length ks → AreIn os ls → (xs : List Answer) × AreStanding os ks ls xs
stand_all os fields [] [] long within = ([], record { keys = refl; each = tt })
stand_all os fields [] (l ∷ ls) long within = absurd (omega (arith, long))
stand_all os fields (k ∷ ks) [] long within = absurd (omega (arith, long))
stand_all os fields (k ∷ ks) (l ∷ ls) long within =
    let here = at_some os l fields (within 0 l (omega arith)) in
    let later = stand_all os fields ks ls (omega (arith, long)) (λ n d lt. within (suc n) d (omega (arith, lt))) in
    (record { key = k; found = here.0 } ∷ later.0, record { keys = ap (λ r. k ∷ r) later.1.keys; each = (here.1, later.1.each) })

pub standing_at : (os : List Open) (ks : List (List Pair)) (ls : List (Option Located)) (xs : List Answer) → AreStanding os ks ls xs → AreAt os ks xs ls
standing_at os ks ls xs s = record {
  long = sym (length-map xs (λ x. x.key)) ∙ ap length s.keys;
  each = λ k key at. go xs ls s.each k key (ap (λ l. slice_get l k) s.keys ∙ at);
}
  where
    go : (ys : List Answer) (ms : List (Option Located)) → AllZip (λ x l. IsAt os x.found l) ys ms → (k : ℕ) (key : List Pair) → slice_get (map (λ x. x.key) ys) k ≡ Some key
        → (found : Option (List ℕ)) × (slice_get ys k ≡ Some (record { key = key; found = found })) × ((d : Option Located) → IsAt os found (get_or ms k d))
    go [] ms each k key at = absurd (cc at)
    go (y ∷ ys) [] each k key at = absurd each
    go (y ∷ ys) (m ∷ ms) each zero key at = (y.found, ap (λ q. Some (record { key = q; found = y.found })) (some_is y.key key at), λ d. each.0)
    go (y ∷ ys) (m ∷ ms) each (suc k) key at = go ys ms each.1 k key at

-- ---- each key's answer

-- what is located, place by place
pub zip_of : (os : List Open) (ps : List Place) (ls : List (Option Located)) → length ls ≡ length ps → ((k : ℕ) (p : Place) (d : Option Located) → k < length ps → IsLocated os (seen_place (get_or ps k p)) (get_or ls k d)) → AllZip (IsLocated os) (map seen_place ps) ls
zip_of os [] [] long each = tt
zip_of os [] (l ∷ ls) long each = absurd (omega (arith, long))
zip_of os (p ∷ ps) [] long each = absurd (omega (arith, long))
zip_of os (p ∷ ps) (l ∷ ls) long each = (each 0 p l (omega arith), zip_of os ps ls (omega (arith, long)) (λ k q d lt. each (suc k) q d (omega (arith, lt))))

-- what stands where a key is located is the newest of its dataset, where this tells its table
found_told : (os : List Open) (place : Texts) (l : Option Located) (found : Option (List ℕ)) → IsLocated os place l → IsAt os found l → IfSome (table_in os place.dataset) (λ t. found ≡ newest t (file_key place))
found_told os place l found there at = go (table_in os place.dataset) refl
  where
    go : (o : Option (List (List batches.Pair))) → table_in os place.dataset ≡ o → IfSome o (λ t. found ≡ newest t (file_key place))
    go None e = tt
    go (Some t) e = at_same os found (newest t (file_key place)) l at (bytes_at os place l t there e)

each_from : (os : List Open) (tables : Tables) (ks : List (List Pair)) (ps : List Place) (ls : List (Option Located)) (xs : List Answer) → length ps ≡ length ks → AllZip (IsLocated os) (map seen_place ps) ls → map (λ x. x.key) xs ≡ ks → AllZip (λ x l. IsAt os x.found l) xs ls
    → ((d : List ℕ) → is_among (datasets_in ps) d ≡ true → table_in os d ≡ tables d) → AllZip (IsAnswer tables) (asked_of_all ks (map seen_place ps)) xs
each_from os tables [] ps ls [] long there keys each same = tt
each_from os tables [] ps ls (x ∷ xs) long there keys each same = absurd (cc keys)
each_from os tables (k ∷ ks) ps ls [] long there keys each same = absurd (cc keys)
each_from os tables (k ∷ ks) [] ls (x ∷ xs) long there keys each same = absurd (omega (arith, long))
each_from os tables (k ∷ ks) (p ∷ ps) [] (x ∷ xs) long there keys each same = absurd there
each_from os tables (k ∷ ks) (p ∷ ps) (l ∷ ls) (x ∷ xs) long there keys each same =
    let d = (seen_place p).dataset in
    let here : table_in os d ≡ tables d = same d (ap (λ b. b || is_among (datasets_in ps) d) ((bytes_eq-Decides d d).1 refl)) in
    let key : x.key ≡ k = cc keys in
    let rest : map (λ x. x.key) xs ≡ ks = cc keys in (
      record { key = key; found = subst (λ o. IfSome o (λ t. x.found ≡ newest t (file_key (seen_place p)))) here (found_told os (seen_place p) l x.found there.0 each.0) },
      each_from os tables ks ps ls xs (omega (arith, long)) there.1 rest each.1 (λ n is. same n (or_true (bytes_eq n d) (is_among (datasets_in ps) n) is)),
    )
  where
    or_true : (a b : Bool) → b ≡ true → (a || b) ≡ true
    or_true true b q = refl
    or_true false b q = q

pub each_answered : (os : List Open) (tables : Tables) (ks : List (List Pair)) (ps : List Place) (ls : List (Option Located)) (xs : List Answer) → length ps ≡ length ks → AllZip (IsLocated os) (map seen_place ps) ls → AreStanding os ks ls xs
    → ((d : List ℕ) → is_among (datasets_in ps) d ≡ true → table_in os d ≡ tables d) → AllZip (IsAnswer tables) (asked_of_all ks (map seen_place ps)) xs
each_answered os tables ks ps ls xs long there s same = each_from os tables ks ps ls xs long there s.keys s.each same
