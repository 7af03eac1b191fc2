-- From what the store's calls say to the exits of `trial`.
use Rattle.std.proofs.Common.{◌≡◌, ◌∙◌, ◌≤◌, ℕ, true, List, [], ◌∷◌, ◌++◌, Option, Some, None, refl, sym, ap, arith, subst, length, map}
use Rattle.std.specs.Prelude.{IfSome, Contains, codes}
use Rattle.std.specs.Fmt.{decimal}
use Rattle.fd_disk.specs.Folders.{Contents, Holdings, WhereTold, folder_at}
use Rattle.fd_listing.specs.Lines.{line}
use Rattle.fd_entries.specs.declared.batch.Pair.{Pair}
use Rattle.fd_schema.specs.declared.place.Place.{Place}
use Rattle.fd_schema.specs.Reading.{seen_place}
use Rattle.fd_schema.specs.Rules.{Rule, Texts}
use Rattle.fd_stored.specs.Archiving.{Stored, datasets_in, pairs_for, taken}
use Rattle.fd_stored.specs.Distinct.{count_distinct, is_among}
use Rattle.fd_outcome.specs.Outcome.{are_told, generated_messages}
use Rattle.fd_stored.specs.Causes.{Broken}
use Rattle.fd_stored.specs.Store.{AddsAll, Grows, GrowsBy, Stands, Stays, StaysFolder, StayFolders, table_at}
use Rattle.fd_outcome.specs.Trying.{Tally, tally_of, trial_answers, trial_given, trial_line}
use Rattle.fd_retrieve.specs.Counting.{IsTally, finds}
use Rattle.fd_retrieve.specs.declared.counting.Counted.{Counted}
use Rattle.fd_retrieve.specs.Tables as tables
use Rattle.fd_retrieve.proofs.Staying.{same_at, stands_before}
use Rattle.fd_trial.specs.Asking.{Begins, IsTried}
use Rattle.fd_trial.specs.Placed.{ArePlaced}
use Rattle.fd_trial.proofs.Finding.{among_stored, finds_stored}
use Rattle.fd_trial.proofs.Keeping.{AreStored, few_stored, places_stored, stored_datasets}
use Rattle.fd_trial.proofs.TrialExits.{Since, folders_stay}

-- ---- through a store between two

pub through : {A B D : Type 0} (a : Option A) (b : Option B) (d : Option D) (P : A → B → Type 0) (Q : B → D → Type 0) (R : A → D → Type 0) → ((x : A) (y : B) (z : D) → P x y → Q y z → R x z) → WhereTold a b P → WhereTold b d Q → WhereTold a d R
through None None None P Q R f p q = tt
through None None (Some z) P Q R f p q = absurd q
through None (Some y) d P Q R f p q = absurd p
through (Some x) None d P Q R f p q = absurd p
through (Some x) (Some y) None P Q R f p q = absurd q
through (Some x) (Some y) (Some z) P Q R f p q = f x y z p q

pub where_told : {A B : Type 0} (a : Option A) (b : Option B) (P Q : A → B → Type 0) → ((x : A) (y : B) → P x y → Q x y) → WhereTold a b P → WhereTold a b Q
where_told None None P Q f p = tt
where_told None (Some y) P Q f p = absurd p
where_told (Some x) None P Q f p = absurd p
where_told (Some x) (Some y) P Q f p = f x y p

-- what stays behind what was stored
grows_stays : (workers : ℕ) (pairs : List ℕ → List Pair) (m j i : Holdings) → GrowsBy workers pairs m j → Stays j i → GrowsBy workers pairs m i
grows_stays workers pairs m j i g s = record {
  schema = s.schema ∙ g.schema;
  each = λ name t e. subst (AddsAll workers (pairs name) t) (sym (same_at j i s name)) (g.each name t e);
}

module _ (count workers : ℕ) (rules : List Rule) where
  abbrev stored : List Stored
  stored = (taken rules trial_given (generated_messages count)).stored

  abbrev GrownBy : Holdings → Holdings → Type 0
  GrownBy = GrowsBy workers (pairs_for stored)

  since_tried : (h i : Holdings) → IsTried workers rules count h i → Since rules GrownBy h i
  since_tried h i x = record { middle = x.middle; planted = x.planted; ruled = x.ruled; since = x.grows }

  pub begun : (start now : Option Holdings) → Begins workers rules count start now → WhereTold start now (Since rules GrownBy)
  begun start now b = where_told start now _ _ since_tried b.tried

  stayed : (h j i : Holdings) → IsTried workers rules count h j → Stays j i → Since rules GrownBy h i
  stayed h j i x s = record { middle = x.middle; planted = x.planted; ruled = x.ruled; since = grows_stays workers (pairs_for stored) x.middle j i x.grows s }

  pub asked : (start mid now : Option Holdings) → Begins workers rules count start mid → WhereTold mid now Stays → WhereTold start now (Since rules GrownBy)
  asked start mid now b s = through start mid now _ _ _ stayed b.tried s

  grown_by : (m j : Holdings) → GrownBy m j → Grows workers (pairs_for stored) m j
  grown_by m j g = record { schema = g.schema; each = λ name t is. (g.each name t is).adds }

  less : (h i : Holdings) → Since rules GrownBy h i → Since rules (Grows workers (pairs_for stored)) h i
  less h i x = record { middle = x.middle; planted = x.planted; ruled = x.ruled; since = grown_by x.middle i x.since }

  pub grown : (start now : Option Holdings) → WhereTold start now (Since rules GrownBy) → WhereTold start now (Since rules (Grows workers (pairs_for stored)))
  grown start now w = where_told start now _ _ less w

  -- ---- the counts

  told_same : (h m : Holdings) → StayFolders h m → (ds : List (List ℕ)) → are_told m ds ≡ are_told h ds
  told_same h m s [] = refl
  told_same h m s (d ∷ ds) =
      let here : table_at m d ≡ table_at h d = same_at h (record m { schema = h.schema }) (record { schema = refl; folders = s }) d in
      rw (here, told_same h m s ds) refl

  module _ (ps : List Texts) (few : count ≤ 100000) (placed : ArePlaced rules trial_given 0 ps) (long : length ps ≡ count) (none : (taken rules trial_given (generated_messages count)).refusal ≡ None) where
    pub are : AreStored ps stored
    are = places_stored rules trial_given count ps few placed long none

    finds_in : (h j : Holdings) → IsTried workers rules count h j → are_told h (datasets_in stored) ≡ true → finds (table_at j) ps ≡ Some (trial_answers stored)
    finds_in h j x told = finds_stored workers x.middle j ps stored are x.grows (told_same h x.middle (folders_stay h x.middle x.planted) (datasets_in stored) ∙ told)

    counts_line : (r : Counted) (t : Tally) → IsTally r t → line (codes "trial " ++ decimal count ++ codes " found " ++ decimal r.found ++ codes " bytes " ++ decimal r.bytes ++ codes " missed " ++ decimal r.missed) ≡ trial_line count t
    counts_line r t is = rw (is.found, is.bytes, is.missed) refl

    pub says : (start mid now : Option Holdings) (r : Counted) → Begins workers rules count start mid → IfSome mid (λ h. (xs : List (Option (List ℕ))) → finds (table_at h) ps ≡ Some xs → IsTally r (tally_of xs))
        → (h i : Holdings) → start ≡ Some h → now ≡ Some i → are_told h (datasets_in stored) ≡ true
        → line (codes "trial " ++ decimal count ++ codes " found " ++ decimal r.found ++ codes " bytes " ++ decimal r.bytes ++ codes " missed " ++ decimal r.missed) ≡ trial_line count (tally_of (trial_answers stored))
    says start mid now r b counted h i e f told = go mid (subst (λ s. WhereTold s mid (IsTried workers rules count)) e b.tried) counted
      where
        go : (o : Option Holdings) → WhereTold (Some h) o (IsTried workers rules count) → IfSome o (λ h. (xs : List (Option (List ℕ))) → finds (table_at h) ps ≡ Some xs → IsTally r (tally_of xs))
            → line (codes "trial " ++ decimal count ++ codes " found " ++ decimal r.found ++ codes " bytes " ++ decimal r.bytes ++ codes " missed " ++ decimal r.missed) ≡ trial_line count (tally_of (trial_answers stored))
        go None w all = absurd w
        go (Some j) w all = counts_line r (tally_of (trial_answers stored)) (all (trial_answers stored) (finds_in h j w told))

    -- ---- a dataset is damaged when the keys are asked for

    datasets_are : (places : List Place) → map (λ (p : Texts). p.dataset) (map seen_place places) ≡ tables.datasets_in places
    datasets_are [] = refl
    datasets_are (p ∷ qs) = ap (λ ds. (seen_place p).dataset ∷ ds) (datasets_are qs)

    -- they are few enough to be opened
    pub few_asked : (places : List Place) → ps ≡ map seen_place places → count_distinct (tables.datasets_in places) ≤ 2048
    few_asked places same =
        let sorted = stored_datasets ps stored are in
        let datasets : tables.datasets_in places ≡ datasets_in stored = sym (datasets_are places) ∙ (ap (λ (qs : List Texts). map (λ (p : Texts). p.dataset) qs) (sym same) ∙ sorted) in
        let many = ap count_distinct datasets in
        let most = few_stored rules trial_given count few none in
        omega (arith, many, most)

    stands_after : (name : List ℕ) (v w : Contents) (b : Broken) → StaysFolder name v w → Stands name v b → Stands name w b
    stands_after name v w b s x = stands_before name w v b (record { table = sym s.table; files = λ n. sym (s.files n) }) x

    abbrev pub IsLater : List ℕ → Broken → Holdings → Holdings → Type 0
    IsLater name b m j = GrownBy m j × (Stands name (folder_at j name) b × Contains (datasets_in stored) name)

    pub broken_told : (places : List Place) → ps ≡ map seen_place places → (name : List ℕ) (b : Broken) (start mid now : Option Holdings) → Begins workers rules count start mid → WhereTold mid now Stays
        → IfSome mid (λ h. (is_among (tables.datasets_in places) name ≡ true) × Stands name (folder_at h name) b) → WhereTold start now (Since rules (IsLater name b))
    broken_told places same name b None None None begins stays x = tt
    broken_told places same name b None None (Some i) begins stays x = absurd stays
    broken_told places same name b None (Some j) now begins stays x = absurd begins.tried
    broken_told places same name b (Some h) None now begins stays x = absurd begins.tried
    broken_told places same name b (Some h) (Some j) None begins stays x = absurd stays
    broken_told places same name b (Some h) (Some j) (Some i) begins stays x =
        let t = begins.tried in
        let among : is_among (map (λ (p : Texts). p.dataset) ps) name ≡ true = ap (λ (qs : List Texts). is_among (map (λ (p : Texts). p.dataset) qs) name) same ∙ ap (λ ds. is_among ds name) (datasets_are places) ∙ x.0 in
        record {
          middle = t.middle;
          planted = t.planted;
          ruled = t.ruled;
          since = (grows_stays workers (pairs_for stored) t.middle j i t.grows stays, (stands_after name (folder_at j name) (folder_at i name) b (stays.folders name) x.1, among_stored ps stored name are among));
        }
