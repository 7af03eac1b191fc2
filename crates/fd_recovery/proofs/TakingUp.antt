-- How the entries of a table are taken up one by one.
use Rattle.std.proofs.Common.{◌≡◌, Bool, ℕ, zero, suc, ◌+◌, ◌<◌, List, [], ◌∷◌, ◌++◌, ◌≤◌, ◌⊎◌, inl, inr, map, length, take, drop, get_or, All, refl, sym, ◌∙◌, ap, subst, arith, take-append-drop, Option, Some, None, Ok, IfSome, IsSome, is_some, true, option_map}
use Rattle.std.proofs.lemmas.List.{drop_more, map-append, take_more}
use Rattle.std.proofs.lemmas.Simd.{map-map}
use Rattle.std.proofs.lemmas.List.Elements.{Contains-get_or, All-append, All-nil, All-cons, All-head, All-tail}
use Rattle.std.proofs.lemmas.Grind.{flat_map-append}
use Rattle.std.specs.Arc.{arc_value}
use Rattle.std.specs.declared.sync.Arc.{Arc}
use Rattle.fd_disk.specs.declared.folders.FileName.{FileName}
use Rattle.fd_disk.specs.declared.shelves.Folder as folders
use Rattle.fd_disk.specs.declared.file.File.{File}
use Rattle.fd_disk.specs.Folders.{Contents, with_table, without_table}
use Rattle.fd_disk.specs.Images.{IsImage, synced}
use Rattle.fd_entries.specs.declared.table.Entry.{Entry}
use Rattle.fd_segment.specs.declared.fault.Damage.{Damage}
use Rattle.fd_entries.specs.Table.{listed}
use Rattle.fd_segment.specs.Held.{Standing, batch_of}
use Rattle.fd_recovery.specs.declared.fault.FileFault.{FileFault}
use Rattle.fd_recovery.specs.declared.fault.FileFault.TheVariants.{Disk, Damaged, NoMemory}
use Rattle.fd_bytes.specs.Causes.{Rose}
use Rattle.fd_recovery.specs.Causes.{OnFileDamaged, OnFileDisk}
use Rattle.fd_recovery.specs.Damages.{IsFirst, damages, damages_at, damages_of, digest_damages, field_file, index_file, lengths_at}
use Rattle.fd_recovery.specs.Looking.{OnlyLooked}
use Rattle.fd_recovery.specs.Recovered.{AreTakenUp, IsNamed, ReadsImage, ReadsIndex, SomeDigest, TableFailed, all_of, batches_listed, files_of, held, held_by}
use Rattle.fd_segment.specs.Shared.{AreOf, entries, entry_of, standings}
use Rattle.fd_disk.proofs.RenewalLemmas.{still_then}

pub looked_then : {D F A B C E G H J : Type 0} (says : folders.Ghosts D F A B C E G H J) (a b c : D) → OnlyLooked says a b → OnlyLooked says b c → OnlyLooked says a c
looked_then says a b c x y = record {
  has = y.has ∙ x.has;
  out = y.out ∙ x.out;
  last_writer = y.last_writer ∙ x.last_writer;
  name = y.name ∙ x.name;
  time = λ out. still_then _ _ _ _ _ _ (x.time out) (y.time out);
  later = omega (arith, x.later, y.later);
}

pub none_taken : (dataset : List ℕ) (has : Option Contents) → AreTakenUp dataset has [] []
none_taken dataset has = record { entries = refl; named = λ k d lt. absurd (omega arith); files = go has }
  where
    go : (has : Option Contents) → IfSome has (λ v. map (λ (s : Standing). s.files) [] ≡ map (files_of v.files) [])
    go (Some v) = refl
    go None = tt

one_named : (dataset : List ℕ) (s : Standing) → IsNamed dataset s → All (IsNamed dataset) (s ∷ [])
one_named dataset s named zero d lt = named
one_named dataset s named (suc k) d lt = absurd (omega arith)

pub one_more_taken : (dataset : List ℕ) (has : Option Contents) (es : List Entry) (segments : List Standing) (e : Entry) (s : Standing) → AreTakenUp dataset has es segments
    → s.files.entry ≡ e → IsNamed dataset s → IfSome has (λ v. s.files ≡ files_of v.files e) → AreTakenUp dataset has (es ++ e ∷ []) (segments ++ s ∷ [])
one_more_taken dataset has es segments e s taken entry named files = record {
  entries = map-append (λ (t : Standing). t.files.entry) segments (s ∷ []) ∙ (λ j. taken.entries j ++ entry j ∷ []);
  named = All-append (IsNamed dataset) segments (s ∷ []) taken.named (one_named dataset s named);
  files = go has taken.files files;
}
  where
    go : (has : Option Contents) → IfSome has (λ v. map (λ (t : Standing). t.files) segments ≡ map (files_of v.files) es) → IfSome has (λ v. s.files ≡ files_of v.files e)
        → IfSome has (λ v. map (λ (t : Standing). t.files) (segments ++ s ∷ []) ≡ map (files_of v.files) (es ++ e ∷ []))
    go None before here = tt
    go (Some v) before here = map-append (λ (t : Standing). t.files) segments (s ∷ []) ∙ (λ j. before j ++ here j ∷ []) ∙ sym (map-append (files_of v.files) es (e ∷ []))

pub none_damaged : (has : Option Contents) → IfSome has (λ v. damages v.files [] ≡ [])
none_damaged (Some v) = refl
none_damaged None = tt

pub one_more_sound : (has : Option Contents) (es : List Entry) (e : Entry) → IfSome has (λ v. damages v.files es ≡ []) → IfSome has (λ v. damages_at v.files e ≡ []) → IfSome has (λ v. damages v.files (es ++ e ∷ []) ≡ [])
one_more_sound None es e before here = tt
one_more_sound (Some v) es e before here = flat_map-append (damages_at v.files) es (e ∷ []) ∙ (λ j. before j ++ (here j ++ []))

-- the first damage is that of the first entry that has one
first_damaged : (has : Option Contents) (es : List Entry) (i : ℕ) (x : Entry) (d : Damage) → i < length es → IfSome has (λ v. damages v.files (take i es) ≡ []) → IfSome has (λ v. IsFirst d (damages_at v.files (get_or es i x)))
    → IfSome has (λ v. IsFirst d (damages v.files es))
first_damaged None es i x d lt before here = tt
first_damaged (Some v) es i x d lt before here =
    let e = get_or es i x in
    let rest = drop (i + 1) es in
    let split : es ≡ take i es ++ e ∷ rest = sym (take-append-drop i es) ∙ ap (λ (l : List Entry). take i es ++ l) (drop_more es i x lt) in
    let all : damages v.files es ≡ damages v.files (take i es) ++ (damages_at v.files e ++ damages v.files rest) = ap (damages v.files) split ∙ flat_map-append (damages_at v.files) (take i es) (e ∷ rest) in
    (here.0 ++ damages v.files rest, all ∙ (λ j. before j ++ (here.1 j ++ damages v.files rest)))

-- a field file that is damaged comes first at its entry
pub field_damaged : {F : Type 0} (fault : FileFault F) (has : Option Contents) (e : Entry) (name : FileName) → name ≡ field_file e → OnFileDamaged fault (λ d. IfSome has (λ v. damages_of name e.fields_len (v.files name) ≡ d ∷ []))
    → OnFileDamaged fault (λ d. IfSome has (λ v. IsFirst d (damages_at v.files e)))
field_damaged (Disk f) has e name is here = tt
field_damaged NoMemory has e name is here = tt
field_damaged (Damaged d) None e name is here = tt
field_damaged (Damaged d) (Some v) e name is here =
    let rest = damages_of (index_file e) e.index_len (v.files (index_file e)) in
    let more = digest_damages e (v.files (index_file e)) in
    (rest ++ more, ap (λ (l : List Damage). (l ++ rest) ++ more) (subst (λ (n : FileName). damages_of n e.fields_len (v.files n) ≡ d ∷ []) is here))

-- a damaged index file comes next
pub index_damaged : {F : Type 0} (fault : FileFault F) (has now : Option Contents) (e : Entry) (fields name : FileName) → fields ≡ field_file e → name ≡ index_file e → now ≡ has
    → IfSome has (λ v. damages_of fields e.fields_len (v.files fields) ≡ []) → OnFileDamaged fault (λ d. IfSome now (λ v. damages_of name e.index_len (v.files name) ≡ d ∷ []))
    → OnFileDamaged fault (λ d. IfSome has (λ v. IsFirst d (damages_at v.files e)))
index_damaged (Disk f) has now e fields name at is same sound here = tt
index_damaged NoMemory has now e fields name at is same sound here = tt
index_damaged (Damaged d) None now e fields name at is same sound here = tt
index_damaged (Damaged d) (Some v) now e fields name at is same sound here =
    let damaged : IfSome (Some v) (λ w. damages_of name e.index_len (w.files name) ≡ d ∷ []) = subst (λ (o : Option Contents). IfSome o (λ w. damages_of name e.index_len (w.files name) ≡ d ∷ [])) same here in
    let first : damages_of (field_file e) e.fields_len (v.files (field_file e)) ≡ [] = subst (λ (n : FileName). damages_of n e.fields_len (v.files n) ≡ []) at sound in
    let second : damages_of (index_file e) e.index_len (v.files (index_file e)) ≡ d ∷ [] = subst (λ (n : FileName). damages_of n e.index_len (v.files n) ≡ d ∷ []) is damaged in
    let more = digest_damages e (v.files (index_file e)) in
    (more, λ j. (first j ++ second j) ++ more)

pub sound_of : (has : Option Contents) (P Q : Contents → Type 0) → IfSome has (λ v. P v × Q v) → IfSome has Q
sound_of None P Q h = tt
sound_of (Some v) P Q h = h.1

-- the cause of a fault at one of the entries
pub cause_of : {F : Type 0} (fault : FileFault F) (a b n : ℕ) (es : List Entry) (i : ℕ) (x : Entry) → a ≤ b → i < length es → OnFileDisk fault (Rose b n ⊎ IsSome (get_or es i x).digest) → OnFileDisk fault (Rose a n ⊎ SomeDigest es)
cause_of (Disk f) a b n es i x le lt (inl rose) = inl (omega (arith, le, rose))
cause_of (Disk f) a b n es i x le lt (inr some) = inr (get_or es i x, Contains-get_or es i x lt, some)
cause_of (Damaged d) a b n es i x le lt cause = tt
cause_of NoMemory a b n es i x le lt cause = tt

-- the two files of an entry are there and long enough, and these are the bytes of the index
pub record AreLong (has : Option Contents) (e : Entry) (index : Option (List ℕ)) : Type 0 where
  pub lengths : IfSome has (λ v. lengths_at v.files e ≡ [])
  pub told : IfSome has (λ v. (index ≡ v.files (index_file e)) × IsSome index)

there_is : (file : FileName) (n : ℕ) (o : Option (List ℕ)) → damages_of file n o ≡ [] → IsSome o
there_is file n None is = absurd (cc is)
there_is file n (Some b) is = refl

pub are_long : (has now : Option Contents) (e : Entry) (fields name : FileName) (index : Option (List ℕ)) → fields ≡ field_file e → name ≡ index_file e → now ≡ has
    → IfSome has (λ v. damages_of fields e.fields_len (v.files fields) ≡ []) → IfSome now (λ v. (index ≡ v.files name) × (damages_of name e.index_len (v.files name) ≡ [])) → AreLong has e index
are_long None now e fields name index at is same sound here = record { lengths = tt; told = tt }
are_long (Some v) now e fields name index at is same sound here =
    let both : IfSome (Some v) (λ w. (index ≡ w.files name) × (damages_of name e.index_len (w.files name) ≡ [])) = subst (λ (o : Option Contents). IfSome o (λ w. (index ≡ w.files name) × (damages_of name e.index_len (w.files name) ≡ []))) same here in
    let first : damages_of (field_file e) e.fields_len (v.files (field_file e)) ≡ [] = subst (λ (n : FileName). damages_of n e.fields_len (v.files n) ≡ []) at sound in
    let second = subst (λ (n : FileName). (index ≡ v.files n) × (damages_of n e.index_len (v.files n) ≡ [])) is both in
    record { lengths = λ j. first j ++ second.1 j; told = (second.0, subst (λ (o : Option (List ℕ)). IsSome o) (sym second.0) (there_is (index_file e) e.index_len (v.files (index_file e)) second.1)) }

-- an index that hasn't the entry's digest comes last
pub digest_damaged : {F : Type 0} (fault : FileFault F) (has : Option Contents) (e : Entry) (index : Option (List ℕ)) → AreLong has e index → OnFileDamaged fault (λ d. IfSome index (λ b. digest_damages e (Some b) ≡ d ∷ []))
    → OnFileDamaged fault (λ d. IfSome has (λ v. IsFirst d (damages_at v.files e)))
digest_damaged (Disk f) has e index long here = tt
digest_damaged NoMemory has e index long here = tt
digest_damaged (Damaged d) None e index long here = tt
digest_damaged (Damaged d) (Some v) e None long here = absurd (cc long.told.1)
digest_damaged (Damaged d) (Some v) e (Some b) long here =
    let is : digest_damages e (v.files (index_file e)) ≡ d ∷ [] = ap (digest_damages e) (sym long.told.0) ∙ here in
    ([], λ j. long.lengths j ++ is j)

pub digest_sound : (has : Option Contents) (e : Entry) (index : Option (List ℕ)) → AreLong has e index → digest_damages e index ≡ [] → IfSome has (λ v. damages_at v.files e ≡ [])
digest_sound None e index long same = tt
digest_sound (Some v) e index long same = let is : digest_damages e (v.files (index_file e)) ≡ [] = ap (digest_damages e) (sym long.told.0) ∙ same in λ j. long.lengths j ++ is j

-- the first damage of an entry that follows sound ones
pub entry_damaged : {F : Type 0} (fault : FileFault F) (has now : Option Contents) (es : List Entry) (i : ℕ) (x : Entry) → now ≡ has → i < length es → IfSome has (λ v. damages v.files (take i es) ≡ [])
    → OnFileDamaged fault (λ d. IfSome now (λ v. IsFirst d (damages_at v.files (get_or es i x)))) → OnFileDamaged fault (λ d. IfSome has (λ v. IsFirst d (damages v.files es)))
entry_damaged (Disk f) has now es i x same lt before here = tt
entry_damaged NoMemory has now es i x same lt before here = tt
entry_damaged (Damaged d) has now es i x same lt before here = first_damaged has es i x d lt before (subst (λ (o : Option Contents). IfSome o (λ v. IsFirst d (damages_at v.files (get_or es i x)))) same here)

-- the next entry is taken up
pub next_taken : {A : Type 0} (dataset name : List ℕ) (has now : Option Contents) (es : List Entry) (i : ℕ) (x : Entry) (old new : List (Arc Standing A)) (shared : Arc Standing A) (s : Standing) → i < length es → name ≡ dataset → now ≡ has
    → AreTakenUp dataset has (take i es) (standings old) → new ≡ old ++ shared ∷ [] → arc_value shared ≡ s
    → s.files.entry ≡ get_or es i x → IsNamed name s → IfSome now (λ v. s.files ≡ files_of v.files (get_or es i x)) → AreTakenUp dataset has (take (i + 1) es) (standings new)
next_taken dataset name has now es i x old new shared s lt names sames taken grown is entry named files =
    let e = get_or es i x in
    let all : standings new ≡ standings old ++ s ∷ [] = ap standings grown ∙ map-append arc_value old (shared ∷ []) ∙ (λ j. standings old ++ is j ∷ []) in
    let more = one_more_taken dataset has (take i es) (standings old) e s taken entry (subst (λ (n : List ℕ). IsNamed n s) names named) (subst (λ (o : Option Contents). IfSome o (λ v. s.files ≡ files_of v.files e)) sames files) in
    subst (λ (l : List Entry). AreTakenUp dataset has l (standings new)) (sym (take_more es i x lt)) (subst (λ (ss : List Standing). AreTakenUp dataset has (take i es ++ e ∷ []) ss) (sym all) more)

pub next_sound : (has now : Option Contents) (es : List Entry) (i : ℕ) (x : Entry) → i < length es → now ≡ has → IfSome has (λ v. damages v.files (take i es) ≡ []) → IfSome now (λ v. damages_at v.files (get_or es i x) ≡ [])
    → IfSome has (λ v. damages v.files (take (i + 1) es) ≡ [])
next_sound has now es i x lt same before here =
    subst (λ (l : List Entry). IfSome has (λ v. damages v.files l ≡ [])) (sym (take_more es i x lt))
    (one_more_sound has (take i es) (get_or es i x) before (subst (λ (o : Option Contents). IfSome o (λ v. damages_at v.files (get_or es i x) ≡ [])) same here))

-- an index file was read: the table that is back lists an entry with a digest
pub reads_index : (dataset : List ℕ) (has mid new : Option Contents) (t : Option File) (es : List Entry) (some : Bool) → mid ≡ option_map without_table has → IfSome has (λ v. t ≡ option_map synced v.table) → some ≡ true → IfSome has (λ v. some ≡ is_some v.table)
    → IfSome has (λ v. IfSome v.table (λ f. listed dataset f.reads ≡ Ok es)) → new ≡ with_table t mid → SomeDigest es → ReadsIndex dataset new
reads_index dataset None mid new t es b away file is_true there lists back has_digest = subst (ReadsIndex dataset) (sym (back ∙ ap (with_table t) away ∙ none t)) tt
  where
    none : (t : Option File) → with_table t None ≡ None
    none None = refl
    none (Some f) = refl
reads_index dataset (Some v) mid new t es b away file is_true there lists back has_digest = go v.table (sym is_true ∙ there) file lists
  where
    go : (o : Option File) → true ≡ is_some o → t ≡ option_map synced o → IfSome o (λ f. listed dataset f.reads ≡ Ok es) → ReadsIndex dataset new
    go None some is lists = absurd (cc some)
    go (Some f) some is lists =
        subst (ReadsIndex dataset) (sym (back ∙ ap (with_table t) away ∙ ap (λ (x : Option File). with_table x (Some (without_table v))) is)) (es, lists, has_digest)

-- a fault while the entries are taken up: the folder failed, or an index file of the table that is back
pub taken_cause : {F T : Type 0} (fault : FileFault F) (f : F) (file : T → Option File) (faults : T → ℕ) (dataset : List ℕ) (has mid new : Option Contents) (t : Option File) (es : List Entry) (some : Bool) (a b n m : ℕ) → fault ≡ Disk f → OnFileDisk fault (Rose b n ⊎ SomeDigest es) → a ≤ b → n ≤ m
    → mid ≡ option_map without_table has → IfSome has (λ v. t ≡ option_map synced v.table) → some ≡ true → IfSome has (λ v. some ≡ is_some v.table)
    → IfSome has (λ v. IfSome v.table (λ f. listed dataset f.reads ≡ Ok es)) → new ≡ with_table t mid → Rose a m ⊎ (TableFailed file faults has new ⊎ ReadsIndex dataset new)
taken_cause {F = F} fault f file faults dataset has mid new t es some a b n m is cause le later away firm is_true there lists back = go (subst (λ (x : FileFault F). OnFileDisk x (Rose b n ⊎ SomeDigest es)) is cause)
  where
    go : Rose b n ⊎ SomeDigest es → Rose a m ⊎ (TableFailed file faults has new ⊎ ReadsIndex dataset new)
    go (inl rose) = inl (omega (arith, rose, le, later))
    go (inr has_digest) = inr (inr (reads_index dataset has mid new t es some away firm is_true there lists back has_digest))

-- the segments that were taken up stand for the batches that the dataset holds
pub held_taken : (dataset : List ℕ) (has now : Option Contents) (es : List Entry) (segments : List Standing) → now ≡ option_map without_table has → (some : Bool) → some ≡ true → IfSome has (λ v. some ≡ is_some v.table)
    → IfSome has (λ v. IfSome v.table (λ f. listed dataset f.reads ≡ Ok es)) → IfSome now (λ v. map (λ s. s.files) segments ≡ map (files_of v.files) es)
    → IfSome has (λ v. all_of (map (λ s. batch_of s.files) segments) ≡ held dataset v)
held_taken dataset None now es segments is b is_true some lists files = tt
held_taken dataset (Some v) now es segments is b is_true some lists files =
    let same : map (λ (s : Standing). s.files) segments ≡ map (files_of v.files) es = subst (λ (o : Option Contents). IfSome o (λ w. map (λ (s : Standing). s.files) segments ≡ map (files_of w.files) es)) is files in
    let batches : map (λ (s : Standing). batch_of s.files) segments ≡ map (λ (e : Entry). batch_of (files_of v.files e)) es =
    sym (map-map batch_of (λ (s : Standing). s.files) segments) ∙ ap (map batch_of) same ∙ map-map batch_of (files_of v.files) es in
    ap all_of batches ∙ go v.table (sym is_true ∙ some) lists
  where
    go : (t : Option File) → true ≡ is_some t → IfSome t (λ f. listed dataset f.reads ≡ Ok es) → all_of (map (λ (e : Entry). batch_of (files_of v.files e)) es) ≡ held_by dataset v.files t
    go None some lists = absurd (cc some)
    go (Some f) some lists = ap (batches_listed v.files) (sym lists)

-- what was taken up, as shared segments
module _ {A : Type 0} where
  listed_each : (xs : List (Arc Standing A)) → map (λ (s : Standing). s.files.entry) (standings xs) ≡ entries xs
  listed_each [] = refl
  listed_each (x ∷ xs) = ap (λ (l : List Entry). entry_of x ∷ l) (listed_each xs)

  named_own : (name : List ℕ) (xs : List (Arc Standing A)) → All (IsNamed name) (standings xs) → AreOf name xs
  named_own name [] all = All-nil _
  named_own name (x ∷ xs) all =
      All-cons (λ (a : Arc Standing A). (arc_value a).dataset ≡ name) x xs ((All-head (IsNamed name) (arc_value x) (standings xs) all).dataset_is) (named_own name xs (All-tail (IsNamed name) (arc_value x) (standings xs) all))

  pub each_taken : (dataset : List ℕ) (has : Option Contents) (es : List Entry) (xs : List (Arc Standing A)) → AreTakenUp dataset has es (standings xs) → entries xs ≡ es
  each_taken dataset has es xs taken = sym (listed_each xs) ∙ taken.entries

  pub own_taken : (dataset name : List ℕ) (has : Option Contents) (es : List Entry) (xs : List (Arc Standing A)) → dataset ≡ name → AreTakenUp dataset has es (standings xs) → AreOf name xs
  own_taken dataset name has es xs is taken = subst (λ (n : List ℕ). AreOf n xs) is (named_own dataset xs taken.named)

-- a table that was handed out reads as one of its images
pub image_given : (has : Option Contents) (table : Option File) → IfSome has (λ v. (table ≡ v.table) × IsSome v.table) → ((f : File) → table ≡ Some f → IsImage f f.reads) → IfSome has (λ v. ReadsImage v.table)
image_given None table given image = tt
image_given (Some v) table given image = go v.table given.0
  where
    go : (o : Option File) → table ≡ o → ReadsImage o
    go None is = tt
    go (Some f) is = image f is
