-- The keys of datasets, one after the other, of a store whose folders are only looked into.
use Rattle.std.proofs.Common.{◌≡◌, ◌∙◌, ◌<◌, ℕ, false, true≢false, List, [], ◌∷◌, ◌++◌, length, Option, Some, None, IfSome, refl, sym, ap, subst, inl, inr}
use Rattle.std.specs.Prelude.{is_some, nat_lt, option_map, IfOk, Result, Ok, Err}
use Rattle.std.specs.List.{AllZip}
use Rattle.std.proofs.lemmas.Bool.{cond-true, lt-ltb}
use Rattle.fd_disk.specs.Folders.{Holdings, WhereTold, folder_at}
use Rattle.fd_disk.specs.declared.file.File.{File}
use Rattle.fd_entries.specs.declared.batch.Pair.{Pair}
use Rattle.fd_recovery.specs.Recovered.{held_by}
use Rattle.fd_request.specs.Expansion.{Keyword}
use Rattle.fd_segment.specs.Held.{Standing}
use Rattle.fd_inventory.specs.Found.{Keeps}
use Rattle.fd_inventory.specs.Recorded.{ByRecords}
use Rattle.fd_inventory.proofs.Recording.{made_table, of_told, told_recorded}
use Rattle.fd_stored.specs.Causes.{Cause, NoRequest, TooManyKeys}
use Rattle.fd_outcome.specs.Cubing.{first_ranged, keys_refusal}
use Rattle.fd_outcome.specs.Matching.{Keys, matching, with_dataset, with_tables}
use Rattle.fd_stored.specs.Store.{IsLookedThrough, Stays, has_table, table_at}
use Rattle.fd_retrieve.specs.Open.{IsOpenIn, Open}
use Rattle.fd_retrieve.proofs.Staying.{same_at}
use Rattle.fd_contents.specs.Cubing.{AreMatching}
use Rattle.fd_contents.specs.Gathering.{FindsAll, FindsIn, IsTableIn}
use Rattle.fd_contents.proofs.Looked.{recorded_before, recorded_none, stays_looked}
use Rattle.fd_contents.proofs.Opened.{open_recorded, tells_all}

-- what holds of an answer
pub if_ok : {A E : Type 0} {P Q : A → Type 0} → ((x : A) → P x → Q x) → (r : Result A E) → IfOk r P → IfOk r Q
if_ok f (Ok x) p = f x p
if_ok f (Err e) p = tt

-- one pair more
zip_push : {A B : Type 0} (R : A → B → Type 0) (xs : List A) (ys : List B) (x : A) (y : B) → AllZip R xs ys → R x y → AllZip R (xs ++ x ∷ []) (ys ++ y ∷ [])
zip_push R [] [] x y z r = (r, tt)
zip_push R [] (b ∷ bs) x y z r = absurd z
zip_push R (a ∷ rest) [] x y z r = absurd z
zip_push R (a ∷ rest) (b ∷ bs) x y z r = (z.0, zip_push R rest bs x y z.1 r)

-- ---- the tables of a dataset

no_table : (h : Holdings) (name : List ℕ) → false ≡ has_table h name → table_at h name ≡ Some []
no_table h name none = go (folder_at h name).table refl none
  where
    go : (o : Option File) → (folder_at h name).table ≡ o → false ≡ is_some o → table_at h name ≡ Some []
    go None e n = ap (λ o. held_by name (folder_at h name).files o) e
    go (Some f) e n = absurd (true≢false (sym n))

-- it has none
none_in : (h : Holdings) (name : List ℕ) → false ≡ has_table h name → IsTableIn h name []
none_in h name none = record {
  sound = subst (λ (q : Option (List (List Pair))). IfSome q (λ u. [] ≡ u)) (sym (no_table h name none)) refl;
  recorded = recorded_none h name none;
}

-- it has had the table all along
table_before : (h i : Holdings) (name : List ℕ) (t : List (List Pair)) → IsLookedThrough h i → Stays h i → IsTableIn i name t → IsTableIn h name t
table_before h i name t looks stays is = record {
  sound = subst (λ (q : Option (List (List Pair))). IfSome q (λ u. t ≡ u)) (same_at h i stays name) is.sound;
  recorded = recorded_before name t (folder_at h name) (folder_at i name) (looks.folders name) is.recorded;
}

module _ (keywords : List Keyword) where
  -- ---- one dataset

  -- a dataset without a table
  no_keys : (name : List ℕ) (all : Keys) → with_dataset keywords name [] all ≡ all
  unfolding with_dataset
  no_keys name all = refl

  pub none_finds : (has : Option Holdings) (name : List ℕ) (found : Keys) → IfSome has (λ h. false ≡ has_table h name) → IfSome has (λ h. FindsIn keywords h name found found)
  none_finds None name found none = tt
  none_finds (Some h) name found none = record {
    table = [];
    is = none_in h name none;
    keeps = λ all keeps. subst (Keeps found) (sym (no_keys name all)) keeps;
  }

  -- Behind the keys that were found, those of a table were kept.
  abbrev pub KeepsOf : List ℕ → Keys → Keys → List (List Pair) → Type 0
  KeepsOf name found new t = (all : Keys) → Keeps found all → Keeps new (with_dataset keywords name t all)

  -- a dataset that was opened
  finds_shown : (h : Holdings) (o : Open) → IsOpenIn h o → (found new : Keys) → ByRecords o.shown (λ t. KeepsOf o.name found new t) → FindsIn keywords h o.name found new
  finds_shown h o open_ found new by = go (table_at h o.name) refl
    where
      go : (q : Option (List (List Pair))) → table_at h o.name ≡ q → FindsIn keywords h o.name found new
      go None e =
          let made = made_table o.shown (λ t. KeepsOf o.name found new t) by in
          record {
            table = made.table;
            is = record { sound = subst (λ (q : Option (List (List Pair))). IfSome q (λ u. made.table ≡ u)) (sym e) tt; recorded = open_recorded h o open_ made.table made.recorded };
            keeps = made.holds;
          }
      go (Some t) e =
          let tells = tells_all o.shown t (open_.held ∙ e) in
          record {
            table = t;
            is = record { sound = subst (λ (q : Option (List (List Pair))). IfSome q (λ u. t ≡ u)) (sym e) refl; recorded = open_recorded h o open_ t (told_recorded o.shown (λ t. KeepsOf o.name found new t) by t tells) };
            keeps = of_told o.shown (λ t. KeepsOf o.name found new t) by t tells;
          }

  pub open_finds : (o : Open) (shown : List Standing) (name : List ℕ) (found new : Keys) → shown ≡ o.shown → name ≡ o.name → ByRecords shown (λ t. KeepsOf name found new t) → (h : Holdings) → IsOpenIn h o → FindsIn keywords h o.name found new
  open_finds o shown name found new shown_is name_is by h open_ =
      finds_shown h o open_ found new (subst (λ (n : List ℕ). ByRecords o.shown (λ t. KeepsOf n found new t)) name_is (subst (λ (ss : List Standing). ByRecords ss (λ t. KeepsOf name found new t)) shown_is by))

  pub finds_at_open : (has : Option Holdings) (o : Open) (name : List ℕ) (found new : Keys) → o.name ≡ name → IfSome has (λ h. IsOpenIn h o) → ((h : Holdings) → IsOpenIn h o → FindsIn keywords h o.name found new) → IfSome has (λ h. FindsIn keywords h name found new)
  finds_at_open None o name found new is open_ finds = tt
  finds_at_open (Some h) o name found new is open_ finds = subst (λ (n : List ℕ). FindsIn keywords h n found new) is (finds h open_)

  -- ---- one dataset more

  -- what is found by now
  abbrev pub Gathered : Option Holdings → List (List ℕ) → Keys → Type 0
  Gathered has names found = IfSome has (λ h. FindsAll keywords h names found)

  pub none_gathered : (has : Option Holdings) (found : Keys) → found ≡ [] → Gathered has [] found
  none_gathered None found none = tt
  none_gathered (Some h) found none = record { tables = []; each = tt; keeps = inl none }

  tables_more : (R : List ℕ → List (List Pair) → Type 0) (names : List (List ℕ)) (ts : List (List (List Pair))) (name : List ℕ) (t : List (List Pair)) (ks : Keys) → AllZip R names ts
      → with_tables keywords (names ++ name ∷ []) (ts ++ t ∷ []) ks ≡ with_dataset keywords name t (with_tables keywords names ts ks)
  tables_more R [] [] name t ks each = refl
  tables_more R [] (u ∷ us) name t ks each = absurd each
  tables_more R (m ∷ ms) [] name t ks each = absurd each
  tables_more R (m ∷ ms) (u ∷ us) name t ks each = tables_more R ms us name t (with_dataset keywords m u ks) each.1

  more : (h i : Holdings) (before : List (List ℕ)) (name : List ℕ) (found new : Keys) → IsLookedThrough h i → Stays h i → FindsAll keywords h before found → FindsIn keywords i name found new → FindsAll keywords h (before ++ name ∷ []) new
  more h i before name found new looks stays so_far one = record {
    tables = so_far.tables ++ one.table ∷ [];
    each = zip_push (IsTableIn h) before so_far.tables name one.table so_far.each (table_before h i name one.table looks stays one.is);
    keeps = subst (Keeps new) (sym (tables_more (IsTableIn h) before so_far.tables name one.table [] so_far.each)) (one.keeps (matching keywords before so_far.tables) so_far.keeps);
  }

  pub one_gathered : (old mid : Option Holdings) (before : List (List ℕ)) (name : List ℕ) (found new : Keys) → WhereTold old mid IsLookedThrough → Gathered old before found → IfSome mid (λ h. FindsIn keywords h name found new) → Gathered old (before ++ name ∷ []) new
  one_gathered None mid before name found new looks so_far one = tt
  one_gathered (Some h) None before name found new looks so_far one = absurd looks
  one_gathered (Some h) (Some i) before name found new looks so_far one = more h i before name found new looks (stays_looked (Some h) (Some i) looks) so_far one

-- ---- which keys are told

pub refusal_many : (ks : Keys) → 262144 < length ks → keys_refusal ks ≡ Some TooManyKeys
refusal_many ks many = cond-true (nat_lt 262144 (length ks)) (Some TooManyKeys) (option_map NoRequest (first_ranged ks)) (lt-ltb 262144 (length ks) many)

refusal_same : (kept all : Keys) → Keeps kept all → keys_refusal all ≡ keys_refusal kept
refusal_same kept all (inl same) = ap keys_refusal (sym same)
refusal_same kept all (inr many) = refusal_many all many.1 ∙ sym (refusal_many kept many.0)

module _ (keywords : List Keyword) (h : Holdings) (names : List (List ℕ)) where
  -- keys that match, with what refuses those that were kept
  pub record Chosen (r : Option Cause) : Type 0 where
    pub keys : Keys
    pub are : AreMatching keywords h names keys
    pub refusal : keys_refusal keys ≡ r

  pub chosen : (kept : Keys) (r : Option Cause) → FindsAll keywords h names kept → keys_refusal kept ≡ r → Chosen r
  chosen kept r finds is = record {
    keys = matching keywords names finds.tables;
    are = record { tables = finds.tables; each = finds.each; are = refl };
    refusal = refusal_same kept (matching keywords names finds.tables) finds.keeps ∙ is;
  }

  -- where nothing refuses them, all were kept
  pub all_kept : (kept : Keys) → FindsAll keywords h names kept → keys_refusal kept ≡ None → AreMatching keywords h names kept
  all_kept kept finds none = record { tables = finds.tables; each = finds.each; are = go finds.keeps }
    where
      go : Keeps kept (matching keywords names finds.tables) → kept ≡ matching keywords names finds.tables
      go (inl same) = same
      go (inr many) = absurd (true≢false (ap is_some (sym (refusal_many kept many.0) ∙ none)))
