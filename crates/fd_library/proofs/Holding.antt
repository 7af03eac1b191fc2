-- A dataset that was opened: its listings, and what it holds.
use Rattle.std.proofs.Common.{◌≡◌, ◌≢◌, ◌⊎◌, ◌≤◌, ℕ, Bool, true, false, List, [], ◌∷◌, ◌++◌, map, length, sym, refl, ap, ◌∙◌, subst, All, Option, Some, None, IfSome, Result, Ok, Err, IfOk, OnErr, slice_get, option_map, unwrap_or, if◌then◌else◌, inl, inr}
use Rattle.std.proofs.lemmas.List.{length-map}
use Rattle.std.proofs.lemmas.List.Elements.{All-nil, All-cons, All-head, All-tail}
use Rattle.std.specs.Arc.{arc_value}
use Rattle.std.specs.declared.sync.Arc.{Arc}
use Rattle.std.specs.Str.{bytes_eq}
use Rattle.std.proofs.lemmas.Slice.Eq.{bytes_eq-Decides}
use Rattle.fd_bytes.specs.Causes.{Rose}
use Rattle.fd_disk.specs.declared.file.File.{File}
use Rattle.fd_disk.specs.declared.folders.FileName.{FileName}
use Rattle.fd_disk.specs.Folders.{Contents, Holdings, SameBut, WhereTold, folder_at, no_contents, with_table, without_table}
use Rattle.fd_disk.proofs.NameLemmas.{is_or_not}
use Rattle.fd_entries.specs.declared.batch.Listing.{Listing}
use Rattle.fd_entries.specs.declared.batch.Pair.{Pair}
use Rattle.fd_entries.specs.declared.table.Entry.{Entry}
use Rattle.fd_entries.specs.Table.{listed}
use Rattle.fd_segment.specs.Held.{Standing, batch_of}
use Rattle.fd_turn.specs.Passes.{BoardId}
use Rattle.fd_turn.specs.Views.{first_view}
use Rattle.fd_dataset.specs.Listed.{entries_of, listing_of, listings}
use Rattle.fd_segment.specs.Shared.{entries, entry_of, standings}
use Rattle.fd_recovery.specs.Recovered.{ReadsIndex, TableFailed, all_of, batches_listed, held, held_by}
use Rattle.fd_recovery.specs.declared.fault.OpenFault.{OpenFault}
use Rattle.fd_recovery.specs.declared.fault.OpenFault.TheVariants as whole
use Rattle.fd_recovery.specs.Causes.{OnDisk}
use Rattle.fd_library.specs.Answers.{FolderFailed, HoldsAs, TableBroke, TableBrokeIn, TooManyAt}
use Rattle.fd_library.specs.Calls.{Leaves, Opens}
use Rattle.fd_library.specs.Open.{OpenDataset, OpenDatasets, Seated}
use Rattle.fd_library.proofs.Named.{at_end}
use Rattle.fd_library.specs.Stores.{KeepsTable, ListsIn, LooksInto, held_by_pass, held_in, held_of, held_with}

module _ {A : Type 0} where
  pub listed_entries : (xs : List (Arc Standing A)) → map (λ (l : Listing). l.entry) (listings xs) ≡ entries xs
  listed_entries [] = refl
  listed_entries (x ∷ xs) = ap (λ (l : List Entry). entry_of x ∷ l) (listed_entries xs)

  pub listed_batches : (xs : List (Arc Standing A)) → map (λ (l : Listing). l.batch) (listings xs) ≡ map (λ (s : Standing). batch_of s.files) (standings xs)
  listed_batches [] = refl
  listed_batches (x ∷ xs) = ap (λ (l : List (Option (List Pair))). batch_of (arc_value x).files ∷ l) (listed_batches xs)

  pub as_many_listed : (xs : List (Arc Standing A)) (es : List Entry) → entries xs ≡ es → length es ≡ length (listings xs)
  as_many_listed xs es is = sym (ap length (listed_entries xs ∙ is)) ∙ length-map (listings xs) (λ (l : Listing). l.entry)

  writers_of : (n : ℕ) (xs : List (Arc Standing A)) → All (λ (e : Entry). e.writer ≤ n) (entries xs) → All (λ (l : Listing). l.entry.writer ≤ n) (listings xs)
  writers_of n [] all = All-nil _
  writers_of n (x ∷ xs) all =
      All-cons (λ (l : Listing). l.entry.writer ≤ n) (listing_of x) (listings xs) (All-head (λ (e : Entry). e.writer ≤ n) (entry_of x) (entries xs) all) (writers_of n xs (All-tail (λ (e : Entry). e.writer ≤ n) (entry_of x) (entries xs) all))

  pub writers_listed : (n : ℕ) (xs : List (Arc Standing A)) (es : List Entry) → entries xs ≡ es → All (λ (e : Entry). e.writer ≤ n) es → All (λ (l : Listing). l.entry.writer ≤ n) (listings xs)
  writers_listed n xs es is all = writers_of n xs (subst (All (λ (e : Entry). e.writer ≤ n)) (sym is) all)

  -- by the files of the folder, without its table, the dataset holds what it held
  pub holds_files : (store : Option Holdings) (has0 has1 : Option Contents) (name : List ℕ) (xs : List (Arc Standing A)) (es : List Entry) (b : BoardId) (tells : Bool) → has0 ≡ option_map (λ s. folder_at s name) store → has1 ≡ option_map without_table has0
      → entries xs ≡ es → IfSome has0 (λ v. batches_listed v.files (Ok es) ≡ held name v)
      → IfSome store (λ s. held_by_pass has1 (Some (record { board = b; view = first_view name tells (listings xs) })) ≡ held_of s name)
  holds_files None has0 has1 name xs es b tells first later is files = tt
  holds_files (Some s) has0 has1 name xs es b tells first later is files =
      let v = folder_at s name in
      let here : has1 ≡ Some (without_table v) = later ∙ ap (option_map without_table) first in
      let same : map (λ (l : Listing). l.entry) (listings xs) ≡ es = listed_entries xs ∙ is in
      let told : batches_listed v.files (Ok es) ≡ held name v = subst (λ (o : Option Contents). IfSome o (λ v. batches_listed v.files (Ok es) ≡ held name v)) first files in
      ap (λ (o : Option Contents). held_by_pass o (Some (record { board = b; view = first_view name tells (listings xs) }))) here ∙ (ap (λ (l : List Entry). batches_listed v.files (Ok l)) same ∙ told)

  -- and so it does by its listings
  pub holds_listings : (store : Option Holdings) (has0 : Option Contents) (name : List ℕ) (xs : List (Arc Standing A)) → has0 ≡ option_map (λ s. folder_at s name) store
      → IfSome has0 (λ v. all_of (map (λ s. batch_of s.files) (standings xs)) ≡ held name v)
      → IfSome store (λ s. all_of (map (λ (l : Listing). l.batch) (listings xs)) ≡ held_of s name)
  holds_listings None has0 name xs first told = tt
  holds_listings (Some s) has0 name xs first told =
      ap all_of (listed_batches xs) ∙ subst (λ (o : Option Contents). IfSome o (λ v. all_of (map (λ (s : Standing). batch_of s.files) (standings xs)) ≡ held name v)) first told

  -- by both it holds what the store held
  pub holds_as : {D : Type 0} (has : D → Option Contents) (h : OpenDataset D) (store : Option Holdings) (has0 : Option Contents) (name : List ℕ) (xs : List (Arc Standing A)) (es : List Entry) (b : BoardId) (tells : Bool) → h.name ≡ name
      → h.pass ≡ Some (record { board = b; view = first_view name tells (listings xs) }) → has0 ≡ option_map (λ s. folder_at s name) store → has h.folder ≡ option_map without_table has0 → entries xs ≡ es
      → IfSome has0 (λ v. batches_listed v.files (Ok es) ≡ held name v) → IfSome has0 (λ v. all_of (map (λ s. batch_of s.files) (standings xs)) ≡ held name v) → IfSome has0 (λ v. ListsIn name es v.table) → IfSome store (λ s. HoldsAs has s h)
  holds_as has h None has0 name xs es b tells text pass first later is files told lists = tt
  holds_as has h (Some s) has0 name xs es b tells text pass first later is files told lists =
      let v = folder_at s name in
      let by_files = holds_files (Some s) has0 (has h.folder) name xs es b tells first later is files in
      let by_listings = holds_listings (Some s) has0 name xs first told in
      record {
        files = ap (held_by_pass (has h.folder)) pass ∙ (by_files ∙ sym (ap (held_of s) text));
        listings = subst (λ (o : Option Seated). IfSome o (λ p. all_of (map (λ (l : Listing). l.batch) p.view.history) ≡ held_of s h.name)) (sym pass) (by_listings ∙ sym (ap (held_of s) text));
        lists = subst (λ (o : Option Seated). IfSome o (λ p. ListsIn h.name (entries_of p.view.history) (folder_at s h.name).table)) (sym pass)
            (subst (λ (n : List ℕ). ListsIn n (entries_of (listings xs)) (folder_at s n).table) (sym text)
            (subst (λ (l : List Entry). ListsIn name l v.table) (sym (listed_entries xs ∙ is)) (subst (λ (o : Option Contents). IfSome o (λ w. ListsIn name es w.table)) first lists)));
        same = subst (λ (o : Option Contents). IfSome o (λ w. w.files ≡ (folder_at s h.name).files)) (sym (later ∙ ap (option_map without_table) first)) (ap (λ (n : List ℕ). (folder_at s n).files) (sym text));
      }

-- a folder that was looked into is back
pub looks_back : (old mid new : Option Holdings) (h1 h2 h3 : Option Contents) (table : Option File) (name : List ℕ) → WhereTold old mid (SameBut name) → WhereTold mid new (SameBut name) → IfSome new (λ t. h3 ≡ Some (folder_at t name))
    → h1 ≡ option_map (λ s. folder_at s name) old → h2 ≡ option_map without_table h1 → h3 ≡ with_table table h2 → IfSome h1 (λ v. KeepsTable name v.table table) → WhereTold old new (LooksInto name)
looks_back None None None h1 h2 h3 table name away back given first out in' keeps = tt
looks_back None None (Some u) h1 h2 h3 table name away back given first out in' keeps = absurd back
looks_back None (Some t) new h1 h2 h3 table name away back given first out in' keeps = absurd away
looks_back (Some s) None new h1 h2 h3 table name away back given first out in' keeps = absurd away
looks_back (Some s) (Some t) None h1 h2 h3 table name away back given first out in' keeps = absurd back
looks_back (Some s) (Some t) (Some u) h1 h2 h3 None name away back given first out in' keeps = absurd (cc (in', given))
looks_back (Some s) (Some t) (Some u) h1 h2 h3 (Some f) name away back given first out in' keeps =
    let v = folder_at s name in
    let there : h2 ≡ Some (without_table v) = out ∙ ap (option_map without_table) first in
    let now : Some (record { table = Some f; files = v.files }) ≡ Some (folder_at u name) = sym (in' ∙ ap (with_table (Some f)) there) ∙ given in
    let is : record { table = Some f; files = v.files } ≡ folder_at u name = cc now in
    let told : KeepsTable name v.table (Some f) = subst (λ (o : Option Contents). IfSome o (λ v. KeepsTable name v.table (Some f))) first keeps in
    record {
      schema = back.schema ∙ away.schema;
      others = λ other differs. back.others other (apart_from other name differs) ∙ away.others other (apart_from other name differs);
      folder = record {
        files = sym (ap (λ (w : Contents). w.files) is);
        table = subst (KeepsTable name v.table) (ap (λ (w : Contents). w.table) is) told;
      };
    }
  where
    apart_from : (n m : List ℕ) → bytes_eq n m ≡ false → n ≢ m
    apart_from n m differs e = absurd (cc (differs, (bytes_eq-Decides n m).1 e))

told_at : {C : Type 0} (has : Option C) (store : Option Holdings) (f : Holdings → C) → has ≡ option_map f store → IfSome store (λ s. has ≡ Some (f s))
told_at has None f is = tt
told_at has (Some s) f is = is

-- a fault of an opening, whose folder failed, or its table, or the file of an index
pub broke_cause : {F T : Type 0} (e : OpenFault F) (file : T → Option File) (broke : T → ℕ) (old new : Option Contents) (name : List ℕ) (P Q : Type 0) → (P → Q) → OnDisk e (P ⊎ (TableFailed file broke old new ⊎ ReadsIndex name new)) → OnDisk e (Q ⊎ TableBroke file broke new name)
broke_cause (whole.Disk f) file broke old new name P Q on (inl rose) = inl (on rose)
broke_cause (whole.Disk f) file broke old new name P Q on (inr (inl failed)) = inr (inl (old, failed))
broke_cause (whole.Disk f) file broke old new name P Q on (inr (inr reads)) = inr (inr reads)
broke_cause (whole.NotATable at want found) file broke old new name P Q on cause = tt
broke_cause (whole.Damaged d) file broke old new name P Q on cause = tt
broke_cause (whole.TooMany count) file broke old new name P Q on cause = tt
broke_cause whole.NoMemory file broke old new name P Q on cause = tt

-- a fault of the folder, or of its table
pub folder_cause : {F D T : Type 0} (e : OpenFault F) (has : D → Option Contents) (faults : D → ℕ) (given back : D) (file : T → Option File) (broke : T → ℕ) (old new : Option Holdings) (name : List ℕ) (P : Type 0)
    → OnDisk e (Rose (faults given) (faults back) ⊎ TableBroke file broke (has back) name) → has given ≡ option_map (λ s. folder_at s name) old → IfSome new (λ t. has back ≡ Some (folder_at t name))
    → OnDisk e (P ⊎ (FolderFailed has faults old new name ⊎ TableBrokeIn file broke new name))
folder_cause (whole.Disk f) has faults given back file broke old new name P (inl rose) first left =
    inr (inl (record { given = given; back = back; is = told_at (has given) old (λ s. folder_at s name) first; left = left; rose = rose }))
folder_cause (whole.Disk f) has faults given back file broke old new name P (inr failed) first left = inr (inr (has back, left, failed))
folder_cause (whole.NotATable at want found) has faults given back file broke old new name P cause first left = tt
folder_cause (whole.Damaged d) has faults given back file broke old new name P cause first left = tt
folder_cause (whole.TooMany count) has faults given back file broke old new name P cause first left = tt
folder_cause whole.NoMemory has faults given back file broke old new name P cause first left = tt

-- what is held with one dataset more, which left the store or came back to it
pub held_push : {D : Type 0} (has : D → Option Contents) (hs : List (OpenDataset D)) (h : OpenDataset D) (s t : Holdings) (n : List ℕ) → (bytes_eq n h.name ≡ true → held_in has h ≡ held_of s n) → (bytes_eq n h.name ≡ false → held_of t n ≡ held_of s n)
    → held_with has (hs ++ h ∷ []) t n ≡ held_with has hs s n
held_push has [] h s t n here others = elim (is_or_not (bytes_eq n h.name)) [
  | inl same ↦ ap (λ (b : Bool). if b then held_in has h else held_of t n) same ∙ here same
  | inr differs ↦ ap (λ (b : Bool). if b then held_in has h else held_of t n) differs ∙ others differs
]
held_push has (g ∷ hs) h s t n here others =
    ap (λ (r : Option (List (List Pair))). if bytes_eq n g.name then held_in has g else r) (held_push has hs h s t n here others)

-- a table that was looked into lists what it listed
keeps_held : (name : List ℕ) (files : FileName → Option (List ℕ)) (old new : Option File) → KeepsTable name old new → held_by name files new ≡ held_by name files old
keeps_held name files None None keeps = refl
keeps_held name files None (Some g) keeps = ap (batches_listed files) keeps.1
keeps_held name files (Some f) None keeps = absurd keeps
keeps_held name files (Some f) (Some g) (inl same) = ap (λ (x : File). batches_listed files (listed name x.reads)) same
keeps_held name files (Some f) (Some g) (inr (same, image)) = ap (λ (x : File). batches_listed files (listed name x.reads)) same

looks_held : (name : List ℕ) (s t : Holdings) → LooksInto name s t → (m : List ℕ) → held_of t m ≡ held_of s m
looks_held name s t looks m = elim (is_or_not (bytes_eq m name)) [
  | inl same ↦
      let e : m ≡ name = (bytes_eq-Decides m name).0 same in
      let v = folder_at s name in
      let w = folder_at t name in
      ap (held_of t) e ∙ (ap (λ (fs : FileName → Option (List ℕ)). held_by name fs w.table) looks.folder.files ∙ (keeps_held name v.files v.table w.table looks.folder.table ∙ sym (ap (held_of s) e)))
  | inr differs ↦ ap (λ (o : Option Contents). held m (unwrap_or o no_contents)) (looks.others m differs)
]

module _ {D : Type 0} (has : D → Option Contents) where
  held_all : (hs : List (OpenDataset D)) (s t : Holdings) (m : List ℕ) → held_of t m ≡ held_of s m → held_with has hs t m ≡ held_with has hs s m
  held_all [] s t m same = same
  held_all (h ∷ hs) s t m same = ap (λ (r : Option (List (List Pair))). if bytes_eq m h.name then held_in has h else r) (held_all hs s t m same)

  -- what is held stays, where nothing was opened
  pub kept_left : (name : List ℕ) (old new : OpenDatasets D) (before after : Option Holdings) → Leaves name old new before after → WhereTold before after (λ s t. (m : List ℕ) → held_with has new.each t m ≡ held_with has old.each s m)
  kept_left name old new None None leaves = tt
  kept_left name old new None (Some t) leaves = absurd leaves.store
  kept_left name old new (Some s) None leaves = absurd leaves.store
  kept_left name old new (Some s) (Some t) leaves =
      λ m. ap (λ (v : OpenDatasets D). held_with has v.each t m) leaves.library ∙ held_all old.each s t m (looks_held name s t leaves.store m)

  -- and where a dataset was opened
  pub kept_opened : (n : ℕ) (name : List ℕ) (old new : OpenDatasets D) (before after : Option Holdings) → Opens has n name old new before after → WhereTold before after (λ s t. (m : List ℕ) → held_with has new.each t m ≡ held_with has old.each s m)
  kept_opened n name old new None None opens = tt
  kept_opened n name old new None (Some t) opens = absurd opens.store
  kept_opened n name old new (Some s) None opens = absurd opens.store
  kept_opened n name old new (Some s) (Some t) opens =
      λ m. ap (λ (hs : List (OpenDataset D)). held_with has hs t m) opens.adds.each
      ∙ held_push has old.each opens.held s t m
      (λ same. opens.holds.files ∙ sym (ap (held_of s) ((bytes_eq-Decides m opens.held.name).0 same)))
      (λ differs. ap (λ (o : Option Contents). held m (unwrap_or o no_contents)) (opens.store.others m (λ e. absurd (cc (differs, (bytes_eq-Decides m opens.held.name).1 (e ∙ sym opens.opened.name_is))))))

  -- and where nothing was asked of the store
  pub kept_same : (old new : OpenDatasets D) (before after : Option Holdings) → new ≡ old → after ≡ before → WhereTold before after (λ s t. (m : List ℕ) → held_with has new.each t m ≡ held_with has old.each s m)
  kept_same old new None None library store = tt
  kept_same old new None (Some t) library store = absurd (cc store)
  kept_same old new (Some s) None library store = absurd (cc store)
  kept_same old new (Some s) (Some t) library store = λ m. ap (λ (v : OpenDatasets D). held_with has v.each t m) library ∙ ap (λ (u : Holdings). held_with has old.each u m) (let is : t ≡ s = cc store in is)

same_table : (name : List ℕ) (table : Option File) → KeepsTable name table table
same_table name None = tt
same_table name (Some f) = inl refl

-- a store into which nothing looked
pub looks_same : (store : Option Holdings) (name : List ℕ) → WhereTold store store (LooksInto name)
looks_same None name = tt
looks_same (Some s) name = record {
  schema = refl;
  others = λ other differs. refl;
  folder = record { files = refl; table = same_table name (folder_at s name).table };
}

module _ {D E : Type 0} (has : D → Option Contents) (name : List ℕ) (old new : OpenDatasets D) (before after : Option Holdings) where
  -- what is held stays, whatever the answer
  pub kept_either : (r : Result (Option ℕ) E) → IfOk r (λ o. IfSome o (λ n. Opens has n name old new before after)) → IfOk r (λ o. o ≡ None → Leaves name old new before after) → OnErr r (Leaves name old new before after)
      → WhereTold before after (λ s t. (m : List ℕ) → held_with has new.each t m ≡ held_with has old.each s m)
  kept_either (Ok None) opens leaves refused = kept_left has name old new before after (leaves refl)
  kept_either (Ok (Some n)) opens leaves refused = kept_opened has n name old new before after opens
  kept_either (Err e) opens leaves refused = kept_left has name old new before after refused

  pub number_either : (r : Result (Option ℕ) E) → IfOk r (λ o. IfSome o (λ n. Opens has n name old new before after)) → IfOk r (λ o. IfSome o (λ n. (h : OpenDataset D) × (slice_get new.each n ≡ Some h) × (h.name ≡ name)))
  number_either (Ok None) opens = tt
  number_either (Ok (Some n)) opens =
      (opens.held, ap (λ (hs : List (OpenDataset D)). slice_get hs n) opens.adds.each ∙ (ap (slice_get (old.each ++ opens.held ∷ [])) opens.number ∙ at_end old.each opens.held), opens.opened.name_is)
  number_either (Err e) opens = tt

pub too_many_either : {F : Type 0} (held : ℕ) (W : Type 0) (r : Result (Option ℕ) (OpenFault F)) → TooManyAt held ⊥ r → TooManyAt held W r
too_many_either held W (Ok None) at = tt
too_many_either held W (Ok (Some n)) at = at
too_many_either held W (Err (whole.Disk f)) at = tt
too_many_either held W (Err (whole.NotATable a w f)) at = at
too_many_either held W (Err (whole.Damaged d)) at = at
too_many_either held W (Err (whole.TooMany count)) at = absurd at.2
too_many_either held W (Err whole.NoMemory) at = tt
