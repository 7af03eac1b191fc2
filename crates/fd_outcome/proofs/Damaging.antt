-- A dataset in which something is broken holds nothing that is told.
use Rattle.std.proofs.Common.{◌≡◌, ◌∙◌, ◌<◌, ◌≤◌, ◌+◌, ℕ, zero, suc, Bool, true, false, List, [], ◌∷◌, ◌++◌, length, map, Option, Some, None, refl, sym, ap, inl, inr, arith, cond}
use Rattle.std.specs.Prelude.{◌⊎◌, Contains, Result, Ok, Err, nat_lt, nat_le, ◌&&◌, take}
use Rattle.std.proofs.lemmas.List.Elements.{Contains-append_cases}
use Rattle.std.proofs.lemmas.Bool.Decides.{nat_tests}
use Rattle.std.specs.Str.{bytes_eq}
use Rattle.fd_disk.specs.declared.folders.FileName.{FileName}
use Rattle.fd_disk.specs.Folders.{Contents}
use Rattle.fd_entries.specs.declared.batch.Pair.{Pair}
use Rattle.fd_entries.specs.declared.table.Entry.{Entry}
use Rattle.fd_index.specs.Records.{Record, place_of}
use Rattle.fd_pages.specs.Parts.{IsBadPage}
use Rattle.fd_pages.proofs.Halving.{no_index}
use Rattle.fd_segment.specs.Held.{batch_by_records, batch_of, batch_told, batch_in, behind, digests_stand, digests_within, pairs_within, records_in, end_by}
use Rattle.fd_segment.specs.declared.fault.Damage.{Damage}
use Rattle.fd_segment.specs.declared.fault.Damage.TheVariants.{Absent, Length, Index, Beyond, IndexDigest, FieldDigest}
use Rattle.fd_segment.specs.Causes.{IsBadIndex, IsFindDamage, IsKeyDamage}
use Rattle.fd_segment.proofs.Looking.{key_damage_none}
use Rattle.sha2.specs.Sha256.{sha256}
use Rattle.std.proofs.lemmas.Slice.Eq.{bytes_eq-Decides}
use Rattle.fd_recovery.specs.Damages.{damages, damages_at, damages_of, digest_damages, field_file, index_file, unlike}
use Rattle.fd_recovery.specs.Recovered.{held, all_of, files_of}
use Rattle.fd_stored.specs.Causes.{Broken, BadTable, BadFile}
use Rattle.fd_stored.specs.Store.{Stands}

cons_cases : {X : Type 0} (x z : X) (xs : List X) → Contains (x ∷ xs) z → (x ≡ z) ⊎ Contains xs z
cons_cases x z xs (zero, lt, e) = inl e
cons_cases x z xs (suc k, lt, e) = inr (k, omega arith, e)

none_there : {X : Type 0} (z : X) → Contains [] z → ⊥
none_there z (k, lt, e) = omega (arith, lt)

-- ---- a batch that isn't told

both_false : (a b : Bool) (x : Option (List Pair)) → b ≡ false → cond (a && b) x None ≡ None
both_false true b x e = rw e refl
both_false false b x e = refl

none_of : (o : Option (List Pair)) → ((b : List Pair) → o ≡ Some b → ⊥) → o ≡ None
none_of None never = refl
none_of (Some b) never = absurd (never b refl)

turned_false : (a b : List ℕ) → bytes_eq a b ≡ false → bytes_eq b a ≡ false
turned_false a b other = (elim (bytes_eq b a) as (λ t. bytes_eq b a ≡ t → bytes_eq b a ≡ false) [
  | true ↦ λ same. let back : bytes_eq a b ≡ true = (bytes_eq-Decides a b).1 (sym ((bytes_eq-Decides b a).0 same)) in absurd (cc (back, other))
  | false ↦ λ is. is
]) refl

first_false : (a b : Bool) (x : Option (List Pair)) → a ≡ false → cond (a && b) x None ≡ None
first_false a b x e = rw e refl

either_none : (c : Bool) (x : Option (List Pair)) → x ≡ None → cond c x None ≡ None
either_none true x e = e
either_none false x e = refl

module _ (e : Entry) where
  -- whatever the digests
  by_none : (i f : List ℕ) → batch_by_records e i f ≡ None → batch_in e i f ≡ None
  by_none i f none = either_none (digests_stand e.digest (take e.index_len i) (take e.fields_len f) (records_in e i)) (batch_by_records e i f) none

  short_by : (i f : List ℕ) (d : Damage) → Contains (damages_of (field_file e) e.fields_len (Some f) ++ damages_of (index_file e) e.index_len (Some i)) d → batch_by_records e i f ≡ None
  short_by i f d c = (elim (nat_lt (length f) e.fields_len) as (λ b. nat_lt (length f) e.fields_len ≡ b → batch_by_records e i f ≡ None) [
    | true ↦ λ lt. let no : nat_le e.fields_len (length f) ≡ false = grind (arith, nat_tests) in both_false (nat_le e.index_len (length i)) (nat_le e.fields_len (length f)) _ no
    | false ↦ λ ge. (elim (nat_lt (length i) e.index_len) as (λ b. nat_lt (length i) e.index_len ≡ b → batch_by_records e i f ≡ None) [
      | true ↦ λ lt. let no : nat_le e.index_len (length i) ≡ false = grind (arith, nat_tests) in first_false (nat_le e.index_len (length i)) (nat_le e.fields_len (length f)) _ no
      | false ↦ λ ge2. absurd (none_there d (rw (ge, ge2) at c))
    ]) refl
  ]) refl

  -- the digest isn't that of the index
  unlike_is : (o : Option (List ℕ)) (index fields : List ℕ) (r : Result (List Record) ℕ) (d : Damage) → Contains (unlike (index_file e) o (sha256 index)) d → digests_stand o index fields r ≡ false
  unlike_is None index fields r d c = absurd (none_there d c)
  unlike_is (Some want) index fields r d c = (elim (bytes_eq want (sha256 index)) as (λ b. bytes_eq want (sha256 index) ≡ b → digests_stand (Some want) index fields r ≡ false) [
    | true ↦ λ same. absurd (none_there d (rw same at c))
    | false ↦ λ other. let turned : bytes_eq (sha256 index) want ≡ false = turned_false want (sha256 index) other in ap (λ (b : Bool). b && digests_within fields r) turned
  ]) refl

  digest_in : (i f : List ℕ) (d : Damage) → Contains (digest_damages e (Some i)) d → batch_in e i f ≡ None
  digest_in i f d c =
      let no : digests_stand e.digest (take e.index_len i) (take e.fields_len f) (records_in e i) ≡ false = unlike_is e.digest (take e.index_len i) (take e.fields_len f) (records_in e i) d c in
      ap (λ (b : Bool). cond b (batch_by_records e i f) None) no

  short_told : (i f : Option (List ℕ)) (d : Damage) → Contains ((damages_of (field_file e) e.fields_len f ++ damages_of (index_file e) e.index_len i) ++ digest_damages e i) d → batch_told e i f ≡ None
  short_told None f d c = refl
  short_told (Some i) None d c = refl
  short_told (Some i) (Some f) d c = elim (Contains-append_cases (damages_of (field_file e) e.fields_len (Some f) ++ damages_of (index_file e) e.index_len (Some i)) (digest_damages e (Some i)) d c) as (λ _. batch_in e i f ≡ None) [
    | inl short ↦ by_none i f (short_by i f d short)
    | inr digest ↦ digest_in i f d digest
  ]

  bad_in : (i f : List ℕ) (at : ℕ) → records_in e i ≡ Err at → batch_in e i f ≡ None
  bad_in i f at h = by_none i f (either_none (nat_le e.index_len (length i) && nat_le e.fields_len (length f)) _ (ap (pairs_within (behind e) e.fields_len (take e.fields_len f)) h))

  bad_told : (i f : Option (List ℕ)) (d : Damage) → IsBadIndex e i d → batch_told e i f ≡ None
  bad_told None f d h = refl
  bad_told (Some i) None d h = refl
  bad_told (Some i) (Some f) (Absent file) h = absurd h
  bad_told (Some i) (Some f) (Length file want got) h = absurd h
  bad_told (Some i) (Some f) (Index file at) h = bad_in i f at h.1
  bad_told (Some i) (Some f) (Beyond file end len) h = absurd h
  bad_told (Some i) (Some f) (IndexDigest file want got) h = absurd h
  bad_told (Some i) (Some f) (FieldDigest file at want got) h = absurd h

abbrev first_of : Option (ℕ × ℕ) → ℕ
first_of None = 0
first_of (Some p) = p.0

abbrev second_of : Option (ℕ × ℕ) → ℕ
second_of None = 0
second_of (Some p) = p.1

end_false : (more n at len : ℕ) (key : List ℕ) (rs : List Record) → place_of key rs ≡ Some (at, len) → n < at + len + more → end_by more n rs ≡ false
end_false more n at len key [] h lt = absurd cc
end_false more n at len key (r ∷ rs) h lt = (elim (bytes_eq key r.key) as (λ b. bytes_eq key r.key ≡ b → end_by more n (r ∷ rs) ≡ false) [
  | true ↦ λ same.
      let is : (let p : Option (ℕ × ℕ) = Some (r.at, r.len) in p ≡ Some (at, len)) = rw same at h in
      let a : r.at ≡ at = ap first_of is in
      let l : r.len ≡ len = ap second_of is in
      let no : nat_le (r.at + r.len + more) n ≡ false = grind (arith, nat_tests) in
      rw no refl
  | false ↦ λ apart. let later : end_by more n rs ≡ false = end_false more n at len key rs (rw apart at h) lt in either (nat_le (r.at + r.len + more) n) (end_by more n rs) later
]) refl
  where
    either : (a b : Bool) → b ≡ false → (a && b) ≡ false
    either true b h = h
    either false b h = refl

module _ (e : Entry) where
  within_none : (fields : List ℕ) (r : Result (List Record) ℕ) (key : List ℕ) (at len : ℕ) → ((rs : List Record) → r ≡ Ok rs → (let p : Option (ℕ × ℕ) = Some (at, len) in p ≡ place_of key rs)) → e.fields_len < at + len + behind e → pairs_within (behind e) e.fields_len fields r ≡ None
  within_none fields (Err x) key at len place lt = refl
  within_none fields (Ok rs) key at len place lt = let no : end_by (behind e) e.fields_len rs ≡ false = end_false (behind e) e.fields_len at len key rs (sym (place rs refl)) lt in rw no refl

  never_read : (fields : List ℕ) (r : Result (List Record) ℕ) → ((rs : List Record) → r ≡ Ok rs → ⊥) → pairs_within (behind e) e.fields_len fields r ≡ None
  never_read fields (Ok rs) never = absurd (never rs refl)
  never_read fields (Err x) never = refl

  -- where a page by itself isn't in the format, the index isn't
  page_in_none : (i f : List ℕ) (at : ℕ) → IsBadPage (Some i) e.index_len at → batch_by_records e i f ≡ None
  page_in_none i f at (m, under, bad) = (elim (nat_le e.index_len (length i)) as (λ b. nat_le e.index_len (length i) ≡ b → batch_by_records e i f ≡ None) [
    | true ↦ λ le.
        let whole : e.index_len ≤ length i = grind (arith, nat_tests) in
        either_none (nat_le e.index_len (length i) && nat_le e.fields_len (length f)) _ (never_read (take e.fields_len f) (records_in e i) (no_index (Some i) e.index_len m at under whole bad))
    | false ↦ λ short. first_false (nat_le e.index_len (length i)) (nat_le e.fields_len (length f)) _ short
  ]) refl

  find_told : (i f : Option (List ℕ)) (key : List ℕ) (d : Damage) → IsFindDamage e i key d → batch_told e i f ≡ None
  find_told None f key d h = refl
  find_told (Some i) None key d h = refl
  find_told (Some i) (Some f) key (Absent file) h = absurd h
  find_told (Some i) (Some f) key (Length file want got) h = absurd h
  find_told (Some i) (Some f) key (Index file at) h = by_none e i f (page_in_none i f at h.1)
  find_told (Some i) (Some f) key (Beyond file end len) h =
      let ends = h.3 in
      let is : len ≡ e.fields_len = h.1 in
      let past : len < end = h.2 in
      let sum : end ≡ ends.at + ends.len + behind e = ends.ends in
      by_none e i f (either_none (nat_le e.index_len (length i) && nat_le e.fields_len (length f)) _ (within_none (take e.fields_len f) (records_in e i) key ends.at ends.len ends.place (omega (arith, is, past, sum))))
  find_told (Some i) (Some f) key (IndexDigest file want got) h = absurd h
  find_told (Some i) (Some f) key (FieldDigest file at want got) h = absurd h

-- ---- a table with such a batch

module _ (files : FileName → Option (List ℕ)) where
  abbrev batch_at : Entry → Option (List Pair)
  batch_at e = batch_of (files_of files e)

  none_first : (rest : List (Option (List Pair))) (b : Option (List Pair)) → b ≡ None → all_of (b ∷ rest) ≡ None
  none_first rest None e = refl
  none_first rest (Some b) e = absurd cc

  none_later : (rest : List (Option (List Pair))) (b : Option (List Pair)) → all_of rest ≡ None → all_of (b ∷ rest) ≡ None
  none_later rest None e = refl
  none_later rest (Some b) e = rw e refl

  none_among : (es : List Entry) (e : Entry) → Contains es e → batch_at e ≡ None → all_of (map batch_at es) ≡ None
  none_among [] e c none = absurd (none_there e c)
  none_among (x ∷ xs) e c none = elim (cons_cases x e xs c) as (λ _. all_of (map batch_at (x ∷ xs)) ≡ None) [
    | inl same ↦ none_first (map batch_at xs) (batch_at x) (ap batch_at same ∙ none)
    | inr later ↦ none_later (map batch_at xs) (batch_at x) (none_among xs e later none)
  ]

  none_of_damages : (es : List Entry) (d : Damage) → Contains (damages files es) d → all_of (map batch_at es) ≡ None
  unfolding batch_of
  none_of_damages [] d c = absurd (none_there d c)
  none_of_damages (x ∷ xs) d c = elim (Contains-append_cases (damages_at files x) (damages files xs) d c) as (λ _. all_of (map batch_at (x ∷ xs)) ≡ None) [
    | inl here ↦ none_first (map batch_at xs) (batch_at x) (short_told x (files (index_file x)) (files (field_file x)) d here)
    | inr later ↦ none_later (map batch_at xs) (batch_at x) (none_of_damages xs d later)
  ]

  of_entry : (e : Entry) (d : Damage) → (IsBadIndex e (files (index_file e)) d ⊎ ((key : List ℕ) × (IsFindDamage e (files (index_file e)) key d ⊎ IsKeyDamage (files_of files e) key d))) → batch_at e ≡ None
  unfolding batch_of
  of_entry e d (inl bad) = bad_told e (files (index_file e)) (files (field_file e)) d bad
  of_entry e d (inr (key, inl met)) = find_told e (files (index_file e)) (files (field_file e)) key d met
  of_entry e d (inr (key, inr met)) = none_of (batch_at e) (key_damage_none (files_of files e) key d met)

-- Where something is broken, no table is told.
pub damaged_held : (name : List ℕ) (v : Contents) (broken : Broken) → Stands name v broken → held name v ≡ None
damaged_held name v (BadTable fault) (f, is, bad) = rw (is, bad) refl
damaged_held name v (BadFile d) (f, es, is, listed_is, inl among) = rw (is, listed_is) (none_of_damages v.files es d among)
damaged_held name v (BadFile d) (f, es, is, listed_is, inr (e, there, bad)) = rw (is, listed_is) (none_among v.files es e there (of_entry v.files e d bad))
