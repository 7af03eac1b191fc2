-- What is held of what a purge leaves.
use Rattle.std.proofs.Common.{◌≡◌, ◌⊎◌, inl, inr, ◌||◌, ◌&&◌, ◌==◌, not, ℕ, Bool, true, false, if◌then◌else◌, List, [], ◌∷◌, map, Option, Some, None, Result, Ok, Err, IfSome, option_map, nat_le, length, take, drop, refl, sym, ◌∙◌, ap, subst}
use Rattle.std.proofs.lemmas.Bool.Decides.{Decides-eqb}
use Rattle.std.proofs.lemmas.Simd.{map-map}
use Rattle.fd_disk.specs.declared.file.File.{File}
use Rattle.fd_disk.specs.declared.folders.FileName.{FileName}
use Rattle.fd_disk.specs.declared.folders.FileKind.{FileKind}
use Rattle.fd_disk.specs.declared.folders.FileKind.TheVariants as kinds
use Rattle.fd_disk.specs.Folders.{Contents, Left}
use Rattle.fd_disk.specs.Images.{firm_file}
use Rattle.fd_disk.specs.Names.{name_of}
use Rattle.fd_entries.specs.declared.batch.Pair.{Pair}
use Rattle.fd_entries.specs.declared.table.Entry.{Entry}
use Rattle.fd_entries.specs.Table.{listed}
use Rattle.fd_entries.proofs.Inverse.{is_or_not}
use Rattle.fd_index.specs.Records.{Record, keys}
use Rattle.fd_segment.specs.Held.{batch_of, batch_by_records, batch_told, behind, digests_stand, end_by, pairs_of, pairs_within, records_in}
use Rattle.fd_recovery.specs.Damages.{field_file, index_file}
use Rattle.fd_recovery.specs.Recovered.{all_of, batches_listed, files_of, held, held_by}
use Rattle.fd_purge.specs.Kept.{kept, keys_of, masks, masked, unmasked}
use Rattle.fd_purge.specs.Purging.{AreThinned, IsThinned, IsWhole, PurgeKeeps, PurgedHolds, TableLists, WipeKeeps, are_named, held_left, is_gone, keys_at, keys_from, keys_read, masks_of, names, without}

abbrev pub Filing : Type 0
Filing = FileName → Option (List ℕ)

-- ---- all is left

whole_held : (dataset : List ℕ) (files now : Filing) (table : Option File) (left : Option (List ℕ)) → ((n : FileName) → now n ≡ files n) → left ≡ option_map (λ f. f.reads) table
    → held_by dataset now (option_map firm_file left) ≡ held_by dataset files table
whole_held dataset files now None left same is = ap (λ o. held_by dataset now (option_map firm_file o)) is
whole_held dataset files now (Some f) left same is =
    ap (λ o. held_by dataset now (option_map firm_file o)) is ∙ ap (λ fs. batches_listed fs (listed dataset f.reads)) (λ j n. same n j)

pub all_held : (dataset : List ℕ) (v : Contents) (left : Left) → IsWhole v left → held_left dataset left ≡ held dataset v
all_held dataset v left whole = whole_held dataset v.files left.files v.table left.table whole.files whole.table

-- ---- the keys of an entry are those of its batch

pairs_keys : (fields : List ℕ) (rs : List Record) → keys rs ≡ keys_of (pairs_of fields rs)
pairs_keys fields rs = sym (map-map (λ (p : Pair). p.key) (λ (r : Record). record { key = r.key; bytes = take r.len (drop r.at fields) }) rs)

within_keys : (more n : ℕ) (fields : List ℕ) (r : Result (List Record) ℕ) (b : List Pair) → pairs_within more n fields r ≡ Some b → keys_read r ≡ keys_of b
within_keys more n fields (Err at) b is = absurd (cc is)
within_keys more n fields (Ok rs) b is = elim (is_or_not (end_by more n rs)) [
  | inl ends ↦
      let same : Some (pairs_of fields rs) ≡ Some b = sym (ap (λ (c : Bool). if c then Some (pairs_of fields rs) else None) ends) ∙ is in
      let eq : pairs_of fields rs ≡ b = cc same in
      pairs_keys fields rs ∙ ap keys_of eq
  | inr beyond ↦ absurd (cc (sym (ap (λ (c : Bool). if c then Some (pairs_of fields rs) else None) beyond) ∙ is))
]

records_keys : (e : Entry) (index fields : List ℕ) (b : List Pair) → batch_by_records e index fields ≡ Some b → keys_from e (Some index) ≡ keys_of b
records_keys e index fields b is = long (nat_le e.index_len (length index) && nat_le e.fields_len (length fields)) is
  where
    long : (c : Bool) → (if c then pairs_within (behind e) e.fields_len (take e.fields_len fields) (records_in e index) else None) ≡ Some b → keys_from e (Some index) ≡ keys_of b
    long true h = within_keys (behind e) e.fields_len (take e.fields_len fields) (records_in e index) b h
    long false h = absurd (cc h)

told_keys : (e : Entry) (index fields : Option (List ℕ)) (b : List Pair) → batch_told e index fields ≡ Some b → keys_from e index ≡ keys_of b
told_keys e None fields b is = absurd (cc is)
told_keys e (Some index) None b is = absurd (cc is)
told_keys e (Some index) (Some fields) b is = stand (digests_stand e.digest (take e.index_len index) (take e.fields_len fields) (records_in e index)) is
  where
    stand : (c : Bool) → (if c then batch_by_records e index fields else None) ≡ Some b → keys_from e (Some index) ≡ keys_of b
    stand true h = records_keys e index fields b h
    stand false h = absurd (cc h)

batch_keys : (files : Filing) (e : Entry) (b : List Pair) → batch_of (files_of files e) ≡ Some b → keys_at files e ≡ keys_of b
unfolding batch_of
batch_keys files e b is = told_keys e (files (index_file e)) (files (field_file e)) b is

-- ---- lists of batches

pub record Split (o : Option (List Pair)) (os : List (Option (List Pair))) (t : List (List Pair)) : Type 0 where
  pub first : List Pair
  pub rest : List (List Pair)
  pub is : t ≡ first ∷ rest
  pub head : o ≡ Some first
  pub tail : all_of os ≡ Some rest

split : (o : Option (List Pair)) (os : List (Option (List Pair))) (t : List (List Pair)) → all_of (o ∷ os) ≡ Some t → Split o os t
split None os t is = absurd (cc is)
split (Some b) os t is = go (all_of os) refl is
  where
    go : (r : Option (List (List Pair))) → all_of os ≡ r → option_map (λ more. b ∷ more) r ≡ Some t → Split (Some b) os t
    go None e h = absurd (cc h)
    go (Some more) e h = let same : b ∷ more ≡ t = cc h in record { first = b; rest = more; is = sym same; head = refl; tail = e }

entry_keys : (files : Filing) (es : List Entry) (t : List (List Pair)) → all_of (map (λ e. batch_of (files_of files e)) es) ≡ Some t → map (keys_at files) es ≡ map keys_of t
entry_keys files [] t is = let same : [] ≡ t = cc is in ap (map keys_of) same
entry_keys files (e ∷ es) t is =
    let s = split (batch_of (files_of files e)) (map (λ x. batch_of (files_of files x)) es) t is in
    (λ j. batch_keys files e s.first s.head j ∷ entry_keys files es s.rest s.tail j) ∙ sym (ap (map keys_of) s.is)

-- the batches of the kept entries
kept_batches : (g : Entry → Option (List Pair)) (ms : List Bool) (es : List Entry) (t : List (List Pair)) → all_of (map g es) ≡ Some t → all_of (map g (unmasked ms es)) ≡ Some (unmasked ms t)
kept_batches g [] es t is = refl
kept_batches g (m ∷ ms) [] t is = let same : [] ≡ t = cc is in ap (λ x. Some (unmasked (m ∷ ms) x)) same
kept_batches g (m ∷ ms) (e ∷ es) t is =
    let s = split (g e) (map g es) t is in
    step m s (kept_batches g ms es s.rest s.tail)
  where
    step : (m : Bool) → (s : Split (g e) (map g es) t) → all_of (map g (unmasked ms es)) ≡ Some (unmasked ms s.rest) → all_of (map g (if m then unmasked ms es else e ∷ unmasked ms es)) ≡ Some (unmasked (m ∷ ms) t)
    step true s more = more ∙ sym (ap (λ x. Some (unmasked (true ∷ ms) x)) s.is)
    step false s more =
        ap (λ o. all_of (o ∷ map g (unmasked ms es))) s.head ∙ ap (option_map (λ x. s.first ∷ x)) more ∙ sym (ap (λ x. Some (unmasked (false ∷ ms) x)) s.is)

-- ---- the files of a kept entry stay

names_both : (e : Entry) (kind : FileKind) → names e (name_of e.writer e.seq kind) ≡ true
names_both e kind = ap (λ (b : Bool). b && (e.seq == e.seq)) ((Decides-eqb e.writer e.writer).1 refl) ∙ (Decides-eqb e.seq e.seq).1 refl

-- each entry of a list is named in it
abbrev pub In : Entry → List Entry → Type 0
In e [] = ⊥
In e (x ∷ es) = (x ≡ e) ⊎ In e es

or_true : (a : Bool) → (a || true) ≡ true
or_true true = refl
or_true false = refl

named_in : (e : Entry) (es : List Entry) (kind : FileKind) → In e es → are_named es (name_of e.writer e.seq kind) ≡ true
named_in e [] kind i = absurd i
named_in e (x ∷ es) kind (inl same) =
    ap (λ (b : Bool). b || are_named es (name_of e.writer e.seq kind)) (subst (λ (y : Entry). names y (name_of e.writer e.seq kind) ≡ true) (sym same) (names_both e kind))
named_in e (x ∷ es) kind (inr i) = ap (λ (b : Bool). names x (name_of e.writer e.seq kind) || b) (named_in e es kind i) ∙ or_true (names x (name_of e.writer e.seq kind))

and_false : (a : Bool) → (a && false) ≡ false
and_false true = refl
and_false false = refl

file_stays : (dropped kept_ones : List Entry) (files now : Filing) (n : FileName) → AreThinned dropped kept_ones files now → are_named kept_ones n ≡ true → now n ≡ files n
file_stays dropped kept_ones files now n thinned named = elim (thinned n) [
  | inl same ↦ same
  | inr gone ↦ absurd (cc (sym (ap (λ (b : Bool). are_named dropped n && not b) named ∙ and_false (are_named dropped n)) ∙ gone.0))
]

entry_stays : (dropped kept_ones : List Entry) (files now : Filing) (e : Entry) → AreThinned dropped kept_ones files now → In e kept_ones → files_of now e ≡ files_of files e
entry_stays dropped kept_ones files now e thinned here =
    let index = file_stays dropped kept_ones files now (index_file e) thinned (named_in e kept_ones kinds.Index here) in
    let fields = file_stays dropped kept_ones files now (field_file e) thinned (named_in e kept_ones kinds.Fields here) in
    λ j. record { entry = e; index = index j; fields = fields j }

entries_stay : (dropped kept_ones : List Entry) (files now : Filing) (es : List Entry) → AreThinned dropped kept_ones files now → ((e : Entry) → In e es → In e kept_ones)
    → map (λ e. batch_of (files_of now e)) es ≡ map (λ e. batch_of (files_of files e)) es
entries_stay dropped kept_ones files now [] thinned inside = refl
entries_stay dropped kept_ones files now (e ∷ es) thinned inside =
    λ j. batch_of (entry_stays dropped kept_ones files now e thinned (inside e (inl refl)) j) ∷ entries_stay dropped kept_ones files now es thinned (λ x i. inside x (inr i)) j

-- the kept entries stand for the kept batches
thinned_batches : (dropped : List Entry) (files now : Filing) (es : List Entry) (t : List (List Pair)) → AreThinned dropped (unmasked (masks_of files es) es) files now
    → all_of (map (λ e. batch_of (files_of files e)) es) ≡ Some t → all_of (map (λ e. batch_of (files_of now e)) (unmasked (masks_of files es) es)) ≡ Some (kept t)
thinned_batches dropped files now es t thinned is =
    ap all_of (entries_stay dropped (unmasked (masks_of files es) es) files now (unmasked (masks_of files es) es) thinned (λ e i. i))
    ∙ kept_batches (λ e. batch_of (files_of files e)) (masks_of files es) es t is
    ∙ ap (λ kss. Some (unmasked (masks kss) t)) (entry_keys files es t is)

thinned_held : (dataset : List ℕ) (files now : Filing) (f : File) (es : List Entry) (left : Option (List ℕ)) → listed dataset f.reads ≡ Ok es → TableLists dataset (unmasked (masks_of files es) es) left
    → AreThinned (masked (masks_of files es) es) (unmasked (masks_of files es) es) files now
    → IfSome (batches_listed files (listed dataset f.reads)) (λ t. held_by dataset now (option_map firm_file left) ≡ Some (kept t))
thinned_held dataset files now f es None lists table thinned = absurd table
thinned_held dataset files now f es (Some bytes) lists table thinned =
    subst (λ r. IfSome (batches_listed files r) (λ t. held_by dataset now (Some (firm_file bytes)) ≡ Some (kept t))) (sym lists) (go (all_of (map (λ e. batch_of (files_of files e)) es)) refl)
  where
    go : (o : Option (List (List Pair))) → all_of (map (λ e. batch_of (files_of files e)) es) ≡ o → IfSome o (λ t. held_by dataset now (Some (firm_file bytes)) ≡ Some (kept t))
    go None is = tt
    go (Some t) is = ap (batches_listed now) table ∙ thinned_batches (masked (masks_of files es) es) files now es t thinned is

pub thinned_keeps : (dataset : List ℕ) (v : Contents) (left : Left) → IsThinned dataset v left → IfSome (held dataset v) (λ t. held_left dataset left ≡ Some (kept t))
thinned_keeps dataset v left thin =
    subst (λ o. IfSome (held_by dataset v.files o) (λ t. held_left dataset left ≡ Some (kept t))) (sym thin.is)
    (thinned_held dataset v.files left.files thin.file thin.entries left.table thin.lists thin.table thin.files)

pub purge_keeps : PurgeKeeps
purge_keeps dataset v left (inl whole) = inl (all_held dataset v left whole)
purge_keeps dataset v left (inr thin) = inr (thinned_keeps dataset v left thin)

pub without_thins : (dropped kept_ones : List Entry) (files now : Filing) → ((n : FileName) → now n ≡ without dropped kept_ones files n) → AreThinned dropped kept_ones files now
without_thins dropped kept_ones files now is n = elim (is_or_not (is_gone dropped kept_ones n)) [
  | inl gone ↦ inr (gone, is n ∙ ap (λ (b : Bool). if b then None else files n) gone)
  | inr here ↦ inl (is n ∙ ap (λ (b : Bool). if b then None else files n) here)
]

pub purged_holds : PurgedHolds
purged_holds dataset v w dropped kept_count p =
    let left : Left = record { table = Some p.after; files = w.files } in
    let thin : IsThinned dataset v left = record {
      file = p.file;
      is = p.is;
      entries = p.entries;
      lists = p.lists;
      table = p.kept_are;
      files = without_thins (masked (masks_of v.files p.entries) p.entries) (unmasked (masks_of v.files p.entries) p.entries) v.files w.files p.files;
    } in
    subst (λ o. IfSome (held dataset v) (λ t. held_by dataset w.files o ≡ Some (kept t))) (sym p.table) (thinned_keeps dataset v left thin)

pub wipe_keeps : WipeKeeps
wipe_keeps dataset v left (inl whole) = inl (all_held dataset v left whole)
wipe_keeps dataset v left (inr wiped) = inr (ap (λ o. held_by dataset left.files (option_map firm_file o)) wiped.table)
