-- What a purge and a wipe leave, from what their steps leave.
use Rattle.std.proofs.Common.{append_assoc, ◌≡◌, ◌⊎◌, inl, inr, ◌≤◌, ◌++◌, ℕ, suc, Bool, true, false, List, [], ◌∷◌, map, length, Option, Some, None, Ok, IfSome, is_some, option_map, MatchOption, refl, sym, ◌∙◌, ap, subst, arith}
use Rattle.std.proofs.lemmas.List.{length-map}
use Rattle.fd_disk.specs.declared.file.File.{File}
use Rattle.fd_disk.specs.declared.folders.FileName.{FileName}
use Rattle.fd_disk.specs.Folders.{Contents, Left, IsFolderImage, IsTableLeft, founded, with_table, without_table}
use Rattle.fd_disk.specs.Images.{firm_file, synced}
use Rattle.fd_disk.specs.Moments.{MayLeave}
use Rattle.fd_disk.specs.Renewals.{GoesOn, IsLeftBeside, IsLeftWith, IsQuiet, MayLeaveFolder, unfounded}
use Rattle.fd_entries.specs.declared.table.Entry.{Entry}
use Rattle.fd_entries.specs.Table.{AllFit, header, listed, slots_of}
use Rattle.fd_entries.proofs.Slots.{listed_table}
use Rattle.fd_segment.specs.declared.fault.Damage.{Damage}
use Rattle.fd_segment.specs.Held.{Files, IsIndexOf, Standing}
use Rattle.fd_recovery.specs.Damages.{damages, damages_at, damages_of, digest_damages, field_file, index_file}
use Rattle.fd_recovery.specs.Recovered.{files_of, with_firm_table}
use Rattle.fd_purge.specs.Carrying.{IsCarriedOut, IsMidway, IsUnderWay, LeavesMidway, LeavesUnderWay, thinned_by}
use Rattle.fd_purge.specs.Kept.{masked, masks, unmasked}
use Rattle.fd_purge.specs.Purging.{AreThinned, HasWiped, IsLeftByPurge, IsLeftByWipe, IsPurged, IsSafe, IsThinned, IsWhole, IsWiped, TableLists, first_over, keys_at, keys_from, keys_read, masks_of, read_of, without}
use Rattle.fd_purge.specs.Reads.{AreRead, IsRead}
use Rattle.fd_purge.proofs.HeldLemmas.{Filing}

-- ---- bytes of a table

pub bytes_list : (dataset : List ℕ) (es : List Entry) (bytes : List ℕ) → length dataset ≤ 255 → length es ≤ 65535 → AllFit 0 es → bytes ≡ header dataset ++ slots_of es ++ 0 ∷ [] → listed dataset bytes ≡ Ok es
bytes_list dataset es bytes short few fit is = listed_table dataset es bytes (record { gate = 0; tail = []; shut = λ e. absurd (cc e); is = is; short = short; fit = fit; few = few })

-- ---- the keys that are read

damaged_not : (n : FileName) (want : ℕ) (o : Option (List ℕ)) (rest : List Damage) → damages_of n want o ++ rest ≡ [] → (b : List ℕ) × (o ≡ Some b)
damaged_not n want None rest is = absurd (cc is)
damaged_not n want (Some b) rest is = (b, refl)

second_none : (xs ys : List Damage) → xs ++ ys ≡ [] → ys ≡ []
second_none [] ys is = is
second_none (x ∷ xs) ys is = absurd (cc is)

index_here : (files : Filing) (e : Entry) (rest : List Damage) → damages_at files e ++ rest ≡ [] → (b : List ℕ) × (files (index_file e) ≡ Some b)
index_here files e rest is =
    let fields = damages_of (field_file e) e.fields_len (files (field_file e)) in
    let index = damages_of (index_file e) e.index_len (files (index_file e)) in
    let digest = digest_damages e (files (index_file e)) in
    damaged_not (index_file e) e.index_len (files (index_file e)) (digest ++ rest)
    (second_none fields (index ++ (digest ++ rest)) (sym (append_assoc (fields ++ index) digest rest ∙ append_assoc fields index (digest ++ rest)) ∙ is))

read_one : (files : Filing) (e : Entry) (s : Standing) → s.files ≡ files_of files e → (b : List ℕ) × (files (index_file e) ≡ Some b) → IsRead s (keys_at files e)
read_one files e s same here rs is =
    let whole : IsIndexOf e (files (index_file e)) rs = subst (λ (f : Files). IsIndexOf f.entry f.index rs) same is in
    let told : IsIndexOf e (Some here.0) rs = subst (λ o. IsIndexOf e o rs) here.1 whole in
    ap (keys_from e) here.1 ∙ ap keys_read told

pub read_all : (files : Filing) (es : List Entry) (ss : List Standing) → map (λ (s : Standing). s.files) ss ≡ map (files_of files) es → damages files es ≡ [] → AreRead ss (map (keys_at files) es)
read_all files [] [] same sound = tt
read_all files [] (s ∷ ss) same sound = absurd (cc same)
read_all files (e ∷ es) [] same sound = absurd (cc same)
read_all files (e ∷ es) (s ∷ ss) same sound =
    let head : s.files ≡ files_of files e = cc same in
    let tail : map (λ (x : Standing). x.files) ss ≡ map (files_of files) es = cc same in
    (read_one files e s head (index_here files e (damages files es) sound), read_all files es ss tail (second_none (damages_at files e) (damages files es) sound))

-- ---- masks

pub masks_length : (kss : List (List (List ℕ))) → length (masks kss) ≡ length kss
masks_length [] = refl
masks_length (ks ∷ kss) = ap suc (masks_length kss)

none_masked : (ms : List Bool) (es : List Entry) → length ms ≡ length es → masked ms es ≡ [] → unmasked ms es ≡ es
none_masked [] [] len is = refl
none_masked [] (e ∷ es) len is = absurd (omega (arith, len))
none_masked (m ∷ ms) [] len is = refl
none_masked (true ∷ ms) (e ∷ es) len is = absurd (cc is)
none_masked (false ∷ ms) (e ∷ es) len is = ap (λ l. e ∷ l) (none_masked ms es (omega (arith, len)) is)

-- ---- all is left

firm_left : (f : File) (c : Option (List ℕ)) → IsTableLeft (Some (synced f)) c → c ≡ Some f.reads
firm_left f None image = absurd image
firm_left f (Some c) image = ap Some (image.settled refl)

pub whole_firm : (table : Option File) (c : Option (List ℕ)) → IsTableLeft (option_map synced table) c → c ≡ option_map (λ f. f.reads) table
whole_firm None c image = image
whole_firm (Some f) c image = firm_left f c image

-- an image of the dataset with its table firm
pub firm_whole : (v : Contents) (left : Left) → IsFolderImage (with_firm_table v) left → IsWhole v left
firm_whole v left image = record { table = whole_firm v.table left.table image.table; files = image.files }

pub read_firm : (v : Contents) → IsWhole v (read_of (with_firm_table v))
read_firm v = record { table = reads v.table; files = λ n. refl }
  where
    reads : (t : Option File) → option_map (λ f. f.reads) (option_map synced t) ≡ option_map (λ f. f.reads) t
    reads None = refl
    reads (Some f) = refl

pub read_same : (v : Contents) → IsWhole v (read_of v)
read_same v = record { table = refl; files = λ n. refl }

-- ---- the folder once its table is back

pub back_firm : (v : Contents) (file : Option File) → file ≡ option_map synced v.table → is_some v.table ≡ true → with_table file (Some (without_table v)) ≡ Some (with_firm_table v)
back_firm v file is some = ap (λ f. with_table f (Some (without_table v))) is ∙ go v.table some
  where
    go : (t : Option File) → is_some t ≡ true → with_table (option_map synced t) (Some (without_table v)) ≡ Some (record { table = option_map synced t; files = v.files })
    go None h = absurd (cc h)
    go (Some f) h = refl

bytes_left : (bytes : List ℕ) (c : Option (List ℕ)) → IsTableLeft (Some (firm_file bytes)) c → c ≡ Some bytes
bytes_left bytes None image = absurd image
bytes_left bytes (Some c) image = ap Some (image.settled refl)

table_lists : (dataset : List ℕ) (es : List Entry) (bytes : List ℕ) (c : Option (List ℕ)) → c ≡ Some bytes → listed dataset bytes ≡ Ok es → TableLists dataset es c
table_lists dataset es bytes c is lists = subst (TableLists dataset es) (sym is) lists

-- what is known of a dataset whose table was opened, and of what is dropped
pub record Opened (dataset : List ℕ) (v : Contents) (file : Option File) (es dropped kept_ones : List Entry) : Type 0 where
  pub table : File
  pub is : v.table ≡ Some table
  pub lists : listed dataset table.reads ≡ Ok es
  pub firm : file ≡ option_map synced v.table
  pub dropped_are : dropped ≡ masked (masks_of v.files es) es
  pub kept_are : kept_ones ≡ unmasked (masks_of v.files es) es

has_table : {dataset : List ℕ} {v : Contents} {file : Option File} {es dropped kept_ones : List Entry} → Opened dataset v file es dropped kept_ones → is_some v.table ≡ true
has_table o = ap is_some o.is

module _ (dataset : List ℕ) (v : Contents) (file : Option File) (es dropped kept_ones : List Entry) (o : Opened dataset v file es dropped kept_ones) where
  thinned : (bytes : List ℕ) (left : Left) → listed dataset bytes ≡ Ok kept_ones → left.table ≡ Some bytes → AreThinned dropped kept_ones v.files left.files → IsThinned dataset v left
  thinned bytes left lists is files = record {
    file = o.table;
    is = o.is;
    entries = es;
    lists = o.lists;
    table = table_lists dataset _ bytes left.table is (lists ∙ ap Ok o.kept_are);
    files = subst (λ ds. AreThinned ds (unmasked (masks_of v.files es) es) v.files left.files) o.dropped_are (subst (λ ks. AreThinned dropped ks v.files left.files) o.kept_are files);
  }

  -- what is left on the way
  pub way_left : (left : Left) → LeavesUnderWay dataset file dropped kept_ones (Some (without_table v)) left → IsLeftByPurge dataset v left
  way_left left (inl image) = inl (firm_whole v left (subst (λ x. MayLeaveFolder x left) (back_firm v file o.firm (has_table o)) image))
  way_left left (inr (bytes, lists, thin)) = inr (thinned bytes left lists (bytes_left bytes left.table thin.table) thin.files)

  -- what is there on the way
  pub way_read : (w : Contents) → IsUnderWay dataset file dropped kept_ones (Some (without_table v)) (Some w) → IsLeftByPurge dataset v (read_of w)
  way_read w (inl is) =
      let same : Some w ≡ Some (with_firm_table v) = is ∙ back_firm v file o.firm (has_table o) in
      let eq : w ≡ with_firm_table v = cc same in
      inl (subst (λ x. IsWhole v (read_of x)) (sym eq) (read_firm v))
  way_read w (inr (bytes, lists, thin)) = inr (thinned bytes (read_of w) lists (ap (option_map (λ (f : File). f.reads)) thin.table) thin.files)

  -- what is there at the end
  pub way_done : (w : Contents) (d k : ℕ) → d ≡ length dropped → k ≡ length kept_ones → first_over 0 0 (masks_of v.files es) es ≡ None
      → IsCarriedOut dataset file dropped kept_ones (Some (without_table v)) (Some w) → IsPurged dataset v w d k
  way_done w d k d_is k_is within (inl (none, is)) =
      let same : Some w ≡ Some (with_firm_table v) = is ∙ back_firm v file o.firm (has_table o) in
      let eq : w ≡ with_firm_table v = cc same in
      let all : unmasked (masks_of v.files es) es ≡ es = none_masked (masks_of v.files es) es (masks_length (map (keys_at v.files) es) ∙ length-map es (keys_at v.files)) (sym o.dropped_are ∙ none) in
      record {
        file = o.table;
        is = o.is;
        entries = es;
        lists = o.lists;
        after = o.table.reads;
        table = ap (λ (x : Contents). x.table) eq ∙ ap (option_map synced) o.is;
        kept_are = o.lists ∙ ap Ok (sym all);
        files = λ n. ap (λ (x : Contents). x.files n) eq ∙ ap (λ ds. without ds (unmasked (masks_of v.files es) es) v.files n) (sym none ∙ o.dropped_are);
        dropped_is = d_is ∙ ap length o.dropped_are;
        kept_is = k_is ∙ ap length o.kept_are;
        within = within;
      }
  way_done w d k d_is k_is within (inr (some, bytes, lists, is)) =
      let eq : w ≡ thinned_by dropped kept_ones (founded bytes (without_table v)) = cc is in
      record {
        file = o.table;
        is = o.is;
        entries = es;
        lists = o.lists;
        after = bytes;
        table = ap (λ (x : Contents). x.table) eq;
        kept_are = lists ∙ ap Ok o.kept_are;
        files = λ n. ap (λ (x : Contents). x.files n) eq ∙ (λ j. without (o.dropped_are j) (o.kept_are j) v.files n);
        dropped_is = d_is ∙ ap length o.dropped_are;
        kept_is = k_is ∙ ap length o.kept_are;
        within = within;
      }

-- ---- safe at each moment

-- nothing was written
pub safe_quiet : (old new : Option Contents) (before now : ℕ) (past since : ℕ → Left → Type 0) (P : Contents → Left → Type 0) → IsQuiet before now past since old
    → (new ≡ old) ⊎ (new ≡ option_map with_firm_table old) → ((v : Contents) (left : Left) → IsWhole v left → P v left)
    → ((v : Contents) (left : Left) → old ≡ Some v → past before left → IsFolderImage v left) → ((w : Contents) (left : Left) → new ≡ Some w → since now left → IsFolderImage w left)
    → IfSome old (λ v. MatchOption new ⊥ (λ w. IsSafe before now since v w (P v)))
safe_quiet None new before now past since P quiet is whole only_old only_new = tt
safe_quiet (Some v) new before now past since P quiet (inl is) whole only_old only_new =
    subst (λ x. MatchOption x ⊥ (λ w. IsSafe before now since v w (P v))) (sym is) (inl (record {
      later = quiet.later;
      same = refl;
      images = λ left s. elim (quiet.nothing_else before left s) [ inl p ↦ only_old v left refl p | inr image ↦ image ];
    }))
safe_quiet (Some v) new before now past since P quiet (inr is) whole only_old only_new =
    subst (λ x. MatchOption x ⊥ (λ w. IsSafe before now since v w (P v))) (sym is) (inr (record {
      firm = now;
      later = quiet.later;
      upto = omega arith;
      until = λ left s. elim (quiet.nothing_else before left s) [ inl p ↦ inl (only_old v left refl p) | inr image ↦ inl image ];
      from = λ left s. whole v left (firm_whole v left (only_new (with_firm_table v) left is s));
    }))

-- the table was made firm and was out, and then something was written
pub safe_steps : (old out new : Option Contents) (file : Option File) (before firm now : ℕ) (past mid since : ℕ → Left → Type 0) (P : Contents → Left → Type 0) (Q : Left → Type 0)
    → IsQuiet before firm past mid old → GoesOn firm now mid since Q → out ≡ option_map without_table old → IfSome old (λ v. (file ≡ option_map synced v.table) × (is_some v.table ≡ true))
    → ((v : Contents) (left : Left) → IsWhole v left → P v left)
    → ((v : Contents) (left : Left) → old ≡ Some v → past before left → IsFolderImage v left) → ((left : Left) → mid firm left → IsLeftBeside out (MayLeave file) left)
    → ((v : Contents) (left : Left) → old ≡ Some v → Q left → P v left) → IfSome old (λ v. (w : Contents) × (new ≡ Some w))
    → IfSome old (λ v. MatchOption new ⊥ (λ w. IsSafe before now since v w (P v)))
safe_steps None out new file before firm now past mid since P Q quiet goes is known whole only_old beside more some = tt
safe_steps (Some v) out new file before firm now past mid since P Q quiet goes is known whole only_old beside more some =
    subst (λ x. MatchOption x ⊥ (λ w. IsSafe before now since v w (P v))) (sym some.1) (inr (record {
      firm = firm;
      later = quiet.later;
      upto = goes.later;
      until = λ left s. elim (goes.nothing_else before left quiet.later s) [
        | inl m ↦ elim (quiet.nothing_else before left m) [ inl p ↦ inl (only_old v left refl p) | inr image ↦ inl image ]
        | inr new_one ↦ inr new_one.1
      ];
      from = λ left s. elim (goes.nothing_else firm left (omega arith) s) [
        | inl m ↦ whole v left (beside_firm left (beside left m))
        | inr new_one ↦ more v left refl new_one.0
      ];
    }))
  where
    beside_firm : (left : Left) → IsLeftBeside out (MayLeave file) left → IsWhole v left
    beside_firm left h =
        let here : IsLeftBeside (Some (without_table v)) (MayLeave file) left = subst (λ x. IsLeftBeside x (MayLeave file) left) is h in
        record { table = whole_firm v.table left.table (subst (λ f. IsTableLeft f left.table) known.0 (table file left.table here.0)); files = here.1 }
      where
        table : (f : Option File) (c : Option (List ℕ)) → IsLeftWith (MayLeave f) c → IsTableLeft f c
        table (Some f) (Some c) image = image
        table (Some f) None image = absurd image
        table None (Some c) image = absurd image
        table None None image = absurd image

-- ---- wiping

module _ (dataset : List ℕ) (v : Contents) (file : Option File) (es : List Entry) (f : File) (is : v.table ≡ Some f) (lists : listed dataset f.reads ≡ Ok es) (firm : file ≡ option_map synced v.table) where
  wiped : (left : Left) → left.table ≡ None → AreThinned es [] v.files left.files → IsWiped dataset v left
  wiped left none files = record { file = f; is = is; entries = es; lists = lists; table = none; files = files }

  pub wipe_left : (left : Left) → LeavesMidway file (λ x. unfounded x) es [] (Some (without_table v)) left → IsLeftByWipe dataset v left
  wipe_left left (inl image) = inl (firm_whole v left (subst (λ x. MayLeaveFolder x left) (back_firm v file firm (ap is_some is)) image))
  wipe_left left (inr thin) = inr (wiped left thin.table thin.files)

  pub wipe_read : (w : Contents) → IsMidway file (λ x. unfounded x) es [] (Some (without_table v)) (Some w) → IsLeftByWipe dataset v (read_of w)
  wipe_read w (inl same) =
      let one : Some w ≡ Some (with_firm_table v) = same ∙ back_firm v file firm (ap is_some is) in
      let eq : w ≡ with_firm_table v = cc one in
      inl (subst (λ x. IsWhole v (read_of x)) (sym eq) (read_firm v))
  wipe_read w (inr thin) = inr (wiped (read_of w) (ap (option_map (λ (g : File). g.reads)) thin.table) thin.files)

  pub wipe_done : (w : Contents) (n : ℕ) → n ≡ length es → Some w ≡ option_map (λ x. thinned_by es [] (unfounded x)) (Some (without_table v)) → HasWiped dataset v w n
  wipe_done w n count same =
      let eq : w ≡ thinned_by es [] (unfounded (without_table v)) = cc same in
      record { file = f; is = is; entries = es; lists = lists; table = ap (λ (x : Contents). x.table) eq; files = λ m. ap (λ (x : Contents). x.files m) eq; count_is = count }
