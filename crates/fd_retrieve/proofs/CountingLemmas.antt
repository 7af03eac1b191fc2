-- Keys that are counted, one after the other.
use Rattle.std.proofs.Common.{◌≡◌, ◌∙◌, ◌≤◌, ◌+◌, ℕ, zero, suc, Bool, true, false, true≢false, List, [], ◌∷◌, length, take, map, Option, Some, None, refl, sym, ap, subst, arith, string_bytes}
use Rattle.std.specs.Prelude.{◌||◌, IfSome, is_some, option_map, slice_get}
use Rattle.std.specs.Str.{bytes_eq}
use Rattle.std.proofs.lemmas.Slice.Eq.{bytes_eq-Decides}
use Rattle.fd_disk.specs.Folders.{Holdings, WhereTold, folder_at}
use Rattle.fd_entries.specs.declared.batch.Pair.{Pair}
use Rattle.fd_entries.specs.Batches.{newest}
use Rattle.fd_schema.specs.Rules.{Texts, file_key}
use Rattle.fd_retriever.specs.Answers.{IsAnswer}
use Rattle.fd_retriever.specs.declared.fault.Got.TheVariants as gots
use Rattle.fd_schema.specs.Reading.{seen_place}
use Rattle.fd_schema.specs.declared.place.Place.{Place}
use Rattle.fd_outcome.specs.Asking.{Tables, bytes_or_none, count_if}
use Rattle.fd_stored.specs.Distinct.{is_among}
use Rattle.fd_stored.specs.Store.{Stays, table_at}
use Rattle.fd_outcome.specs.Trying.{tally_of}
use Rattle.fd_retrieve.specs.declared.counting.Counted.{Counted}
use Rattle.fd_telling.specs.declared.stop.Stop.{Stop}
use Rattle.fd_telling.specs.declared.stop.Stop.TheVariants as stops
use Rattle.fd_retrieve.specs.Counting.{IsBrokenAmong, IsLength, IsOfKeys, IsLostIn, IsTally, all_found, finds, with_length}
use Rattle.fd_retrieve.specs.Open.{IsOpenIn, Open, table_in}
use Rattle.fd_retrieve.specs.Ready.{AreOpen, IsBrokenOf}
use Rattle.fd_telling.specs.Stops.{NotRefused, OfDataset}
use Rattle.fd_retrieve.specs.Tables.{AreTables, datasets_in}
use Rattle.fd_retrieve.proofs.DatasetLemmas.{all_at, among_named, damage_stands}
use Rattle.fd_retrieve.proofs.PrepareLemmas.{opens_in}
use Rattle.fd_retrieve.proofs.ReadyLemmas.{named_among, table_is}

abbrev Found : Type 0
Found = Option (List ℕ)

some_is : {A : Type 0} (x y : A) → (let o : Option A = Some x in o ≡ Some y) → x ≡ y
some_is x y e = cc

-- ---- what is found with a number

record First (tables : Tables) (p : Texts) (rest : Option (List Found)) (xs : List Found) : Type 0 where
  table : List (List Pair)
  others : List Found
  told : tables p.dataset ≡ Some table
  are_others : rest ≡ Some others
  is : xs ≡ newest table (file_key p) ∷ others

first_told : (tables : Tables) (p : Texts) (rest : Option (List Found)) (o : Option (List (List Pair))) (xs : List Found) → tables p.dataset ≡ o → all_found (option_map (λ t. newest t (file_key p)) o) rest ≡ Some xs → First tables p rest xs
first_told tables p rest None xs is e = absurd (true≢false (sym (ap is_some e)))
first_told tables p None (Some t) xs is e = absurd (true≢false (sym (ap is_some e)))
first_told tables p (Some ys) (Some t) xs is e = record { table = t; others = ys; told = is; are_others = refl; is = sym (some_is (newest t (file_key p) ∷ ys) xs e) }

pub record FoundAt (tables : Tables) (place : Texts) (xs : List Found) (i : ℕ) : Type 0 where
  pub table : List (List Pair)
  pub told : tables place.dataset ≡ Some table
  pub there : slice_get xs i ≡ Some (newest table (file_key place))

pub found_at : (tables : Tables) (ps : List Texts) (xs : List Found) → finds tables ps ≡ Some xs → (i : ℕ) (place : Texts) → slice_get ps i ≡ Some place → FoundAt tables place xs i
found_at tables [] xs e i place at = absurd (true≢false (sym (ap is_some at)))
found_at tables (p ∷ ps) xs e zero place at =
    let f = first_told tables p (finds tables ps) (tables p.dataset) xs refl e in
    subst (λ q. FoundAt tables q xs 0) (some_is p place at) (record { table = f.table; told = f.told; there = ap (λ zs. slice_get zs 0) f.is })
found_at tables (p ∷ ps) xs e (suc i) place at =
    let f = first_told tables p (finds tables ps) (tables p.dataset) xs refl e in
    let later = found_at tables ps f.others f.are_others i place at in
    record { table = later.table; told = later.told; there = ap (λ zs. slice_get zs (suc i)) f.is ∙ later.there }

pub as_many_found : (tables : Tables) (ps : List Texts) (xs : List Found) → finds tables ps ≡ Some xs → length xs ≡ length ps
as_many_found tables [] xs e = sym (ap length (some_is [] xs e))
as_many_found tables (p ∷ ps) xs e =
    let f = first_told tables p (finds tables ps) (tables p.dataset) xs refl e in
    ap length f.is ∙ ap suc (as_many_found tables ps f.others f.are_others)

pub same_finds : (t u : Tables) (ps : List Place) → ((d : List ℕ) → is_among (datasets_in ps) d ≡ true → t d ≡ u d) → finds t (map seen_place ps) ≡ finds u (map seen_place ps)
same_finds t u [] same = refl
same_finds t u (p ∷ ps) same =
    let here : t (seen_place p).dataset ≡ u (seen_place p).dataset = same (seen_place p).dataset (ap (λ b. b || is_among (datasets_in ps) (seen_place p).dataset) ((bytes_eq-Decides (seen_place p).dataset (seen_place p).dataset).1 refl)) in
    let later = same_finds t u ps (λ d is. same d (or_true (bytes_eq d (seen_place p).dataset) (is_among (datasets_in ps) d) is)) in
    ap (λ o. all_found (option_map (λ (x : List (List Pair)). newest x (file_key (seen_place p))) o) (finds t (map seen_place ps))) here
    ∙ ap (all_found (option_map (λ (x : List (List Pair)). newest x (file_key (seen_place p))) (u (seen_place p).dataset))) later
  where
    or_true : (a b : Bool) → b ≡ true → (a || b) ≡ true
    or_true true b e = refl
    or_true false b e = e

-- ---- one more

found_more : (xs : List Found) (i : ℕ) (x : Found) → slice_get xs i ≡ Some x → (tally_of (take (suc i) xs)).found ≡ (tally_of (take i xs)).found + count_if x 1 0
found_more [] i x at = absurd (true≢false (sym (ap is_some at)))
found_more (y ∷ ys) zero x at = let e = ap (λ (z : Found). count_if z 1 0) (some_is y x at) in omega (arith, e)
found_more (y ∷ ys) (suc i) x at = let e = found_more ys i x at in omega (arith, e)

bytes_more : (xs : List Found) (i : ℕ) (x : Found) → slice_get xs i ≡ Some x → (tally_of (take (suc i) xs)).bytes ≡ (tally_of (take i xs)).bytes + length (bytes_or_none x)
bytes_more [] i x at = absurd (true≢false (sym (ap is_some at)))
bytes_more (y ∷ ys) zero x at = let e = ap (λ (z : Found). length (bytes_or_none z)) (some_is y x at) in omega (arith, e)
bytes_more (y ∷ ys) (suc i) x at = let e = bytes_more ys i x at in omega (arith, e)

missed_more : (xs : List Found) (i : ℕ) (x : Found) → slice_get xs i ≡ Some x → (tally_of (take (suc i) xs)).missed ≡ (tally_of (take i xs)).missed + count_if x 0 1
missed_more [] i x at = absurd (true≢false (sym (ap is_some at)))
missed_more (y ∷ ys) zero x at = let e = ap (λ (z : Found). count_if z 0 1) (some_is y x at) in omega (arith, e)
missed_more (y ∷ ys) (suc i) x at = let e = missed_more ys i x at in omega (arith, e)

pub found_length : (bytes : Found) (n : ℕ) (a b : Option (List ℕ)) → IsAnswer bytes a b (gots.Found n) → IsLength bytes (Some n)
found_length None n a b h = absurd h
found_length (Some x) n a b h = ap (λ k. Some k) h.0

pub missed_length : (bytes : Found) (a b : Option (List ℕ)) → IsAnswer bytes a b gots.Miss → IsLength bytes None
missed_length None a b h = refl
missed_length (Some x) a b h = absurd h

one_counted : (r : Counted) (x : Found) (len : Option ℕ) → IsLength x len
    → ((with_length r len).found ≡ r.found + count_if x 1 0) × ((with_length r len).bytes ≡ r.bytes + length (bytes_or_none x)) × ((with_length r len).missed ≡ r.missed + count_if x 0 1)
one_counted r None len is = rw is (omega arith, omega arith, omega arith)
one_counted r (Some b) len is = rw is (omega arith, omega arith, omega arith)

pub counted_more : (xs : List Found) (i : ℕ) (x : Found) (r q : Counted) (len : Option ℕ) → slice_get xs i ≡ Some x → IsLength x len → q ≡ with_length r len → IsTally r (tally_of (take i xs)) → IsTally q (tally_of (take (i + 1) xs))
counted_more xs i x r q len at is more so_far =
    let one = one_counted r x len is in
    let f = found_more xs i x at in
    let b = bytes_more xs i x at in
    let m = missed_more xs i x at in
    let next : suc i ≡ i + 1 = omega arith in
    subst (λ n. IsTally q (tally_of (take n xs))) next (subst (λ c. IsTally c (tally_of (take (suc i) xs))) (sym more) (record {
      found = let s = so_far.found in let o = one.0 in omega (arith, f, s, o);
      bytes = let s = so_far.bytes in let o = one.1 in omega (arith, b, s, o);
      missed = let s = so_far.missed in let o = one.2 in omega (arith, m, s, o);
    }))

pub counted_whole : (xs : List Found) (i : ℕ) (r : Counted) → length xs ≤ i → IsTally r (tally_of (take i xs)) → IsTally r (tally_of xs)
counted_whole xs i r le so_far = subst (λ l. IsTally r (tally_of l)) (whole xs i le) so_far
  where
    whole : (ys : List Found) (n : ℕ) → length ys ≤ n → take n ys ≡ ys
    whole [] zero h = refl
    whole [] (suc n) h = refl
    whole (y ∷ ys) zero h = absurd (omega (arith, h))
    whole (y ∷ ys) (suc n) h = ap (λ zs. y ∷ zs) (whole ys n (omega (arith, h)))

-- ---- of a store

module _ (h : Holdings) (ps : List Place) (names : List (List ℕ)) (os : List Open) (tables : AreTables h (datasets_in ps) names) (opens : AreOpen h names os) where
  finds_same : finds (table_in os) (map seen_place ps) ≡ finds (table_at h) (map seen_place ps)
  finds_same = same_finds (table_in os) (table_at h) ps (λ d among. table_is h (datasets_in ps) names os d tables opens among)

  broken_in : {F : Type 0} (stop : Stop F) → IsLostIn os stop → IsBrokenAmong stop h (datasets_in ps)
  broken_in (stops.Disk f) b = tt
  broken_in stops.Input b = absurd b
  broken_in stops.Missing b = absurd b
  broken_in (stops.Schema line kind) b = absurd b
  broken_in (stops.Request at kind) b = absurd b
  broken_in (stops.NoRule text) b = absurd b
  broken_in (stops.NoLayer layer text) b = absurd b
  broken_in stops.TooMany b = absurd b
  broken_in (stops.Broken dataset broken) (n, o, key, d, there, named, file, bad) =
      let open_ = all_at (IsOpenIn h) os n o opens.each there in
      rw (named, file) (named_among h (datasets_in ps) names o.name tables (opens.from o.name (among_named os n o there)), damage_stands (folder_at h o.name) o key d open_.listed bad)
  broken_in stops.NoMemory b = tt

pub not_refused : {F : Type 0} (stop : Stop F) (h : Holdings) (ds : List (List ℕ)) → NotRefused stop → IsBrokenAmong stop h ds
not_refused (stops.Disk f) h ds ok = tt
not_refused stops.Input h ds ok = absurd ok
not_refused stops.Missing h ds ok = absurd ok
not_refused (stops.Schema line kind) h ds ok = absurd ok
not_refused (stops.Request at kind) h ds ok = absurd ok
not_refused (stops.NoRule text) h ds ok = absurd ok
not_refused (stops.NoLayer layer text) h ds ok = absurd ok
not_refused stops.TooMany h ds ok = tt
not_refused (stops.Broken dataset broken) h ds ok = absurd ok
not_refused stops.NoMemory h ds ok = tt

pub refused_told : {F : Type 0} (stop : Stop F) (has : Option Holdings) (ds : List (List ℕ)) → NotRefused stop → IfSome has (λ h. IsBrokenAmong stop h ds)
refused_told stop None ds ok = tt
refused_told stop (Some h) ds ok = not_refused stop h ds ok

pub unopened_told : {F : Type 0} (stop : Stop F) (has : Option Holdings) (ps : List Place) (names : List (List ℕ)) → IfSome has (λ h. AreTables h (datasets_in ps) names) → IfSome has (λ h. IsBrokenOf stop h names) → IfSome has (λ h. IsBrokenAmong stop h (datasets_in ps))
unopened_told stop None ps names tables b = tt
unopened_told stop (Some h) ps names tables b = elim stop as (λ s. IsBrokenOf s h names → IsBrokenAmong s h (datasets_in ps)) [
  | stops.Disk f ↦ λ x. tt
  | stops.Input ↦ λ x. absurd x
  | stops.Missing ↦ λ x. absurd x
  | stops.Schema line kind ↦ λ x. absurd x
  | stops.Request at kind ↦ λ x. absurd x
  | stops.NoRule text ↦ λ x. absurd x
  | stops.NoLayer layer text ↦ λ x. absurd x
  | stops.TooMany ↦ λ x. absurd x
  | stops.Broken dataset broken ↦ λ x. (named_among h (datasets_in ps) names (string_bytes dataset) tables x.0, x.1)
  | stops.NoMemory ↦ λ x. tt
] b

pub lost_told : {F : Type 0} (stop : Stop F) (has mid : Option Holdings) (ps : List Place) (names : List (List ℕ)) (os : List Open) → WhereTold has mid Stays → IfSome has (λ h. AreTables h (datasets_in ps) names) → IfSome mid (λ h. AreOpen h names os) → IsLostIn os stop → IfSome has (λ h. IsBrokenAmong stop h (datasets_in ps))
lost_told stop None mid ps names os stays tables opens b = tt
lost_told stop (Some h) None ps names os stays tables opens b = absurd stays
lost_told stop (Some h) (Some i) ps names os stays tables opens b = broken_in h ps names os tables (opens_in h i names os stays opens) stop b

pub counted_told : (r : Counted) (has mid : Option Holdings) (ps : List Place) (names : List (List ℕ)) (os : List Open) → WhereTold has mid Stays → IfSome has (λ h. AreTables h (datasets_in ps) names) → IfSome mid (λ h. AreOpen h names os)
    → ((xs : List Found) → finds (table_in os) (map seen_place ps) ≡ Some xs → IsTally r (tally_of xs)) → IfSome has (λ h. (xs : List Found) → finds (table_at h) (map seen_place ps) ≡ Some xs → IsTally r (tally_of xs))
counted_told r None mid ps names os stays tables opens all = tt
counted_told r (Some h) None ps names os stays tables opens all = absurd stays
counted_told r (Some h) (Some i) ps names os stays tables opens all = λ xs e. all xs (finds_same h ps names os tables (opens_in h i names os stays opens) ∙ e)

-- ---- what may be told

pub refused_keys : {F : Type 0} (stop : Stop F) → NotRefused stop → IsOfKeys stop
refused_keys (stops.Disk f) ok = tt
refused_keys stops.Input ok = absurd ok
refused_keys stops.Missing ok = absurd ok
refused_keys (stops.Schema line kind) ok = absurd ok
refused_keys (stops.Request at kind) ok = absurd ok
refused_keys (stops.NoRule text) ok = absurd ok
refused_keys (stops.NoLayer layer text) ok = absurd ok
refused_keys stops.TooMany ok = tt
refused_keys (stops.Broken dataset broken) ok = absurd ok
refused_keys stops.NoMemory ok = tt

pub dataset_keys : {F : Type 0} (stop : Stop F) → OfDataset stop → IsOfKeys stop
dataset_keys (stops.Disk f) ok = tt
dataset_keys stops.Input ok = absurd ok
dataset_keys stops.Missing ok = absurd ok
dataset_keys (stops.Schema line kind) ok = absurd ok
dataset_keys (stops.Request at kind) ok = absurd ok
dataset_keys (stops.NoRule text) ok = absurd ok
dataset_keys (stops.NoLayer layer text) ok = absurd ok
dataset_keys stops.TooMany ok = absurd ok
dataset_keys (stops.Broken dataset broken) ok = tt
dataset_keys stops.NoMemory ok = tt

pub lost_keys : {F : Type 0} (os : List Open) (stop : Stop F) → IsLostIn os stop → IsOfKeys stop
lost_keys os (stops.Disk f) ok = tt
lost_keys os stops.Input ok = absurd ok
lost_keys os stops.Missing ok = absurd ok
lost_keys os (stops.Schema line kind) ok = absurd ok
lost_keys os (stops.Request at kind) ok = absurd ok
lost_keys os (stops.NoRule text) ok = absurd ok
lost_keys os (stops.NoLayer layer text) ok = absurd ok
lost_keys os stops.TooMany ok = absurd ok
lost_keys os (stops.Broken dataset broken) ok = tt
lost_keys os stops.NoMemory ok = tt
