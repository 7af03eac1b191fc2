-- What is found of a session.
use Rattle.std.proofs.Common.{◌≡◌, ◌≢◌, ◌∙◌, inl, inr, ℕ, Bool, true, false, List, [], ◌∷◌, ◌++◌, map, Option, Some, None, IfSome, Result, Ok, Err, refl, sym, ap, ap₂, subst, arith}
use Rattle.std.specs.Prelude.{◌⊎◌, option_map, unwrap_or}
use Rattle.std.specs.Str.{bytes_eq}
use Rattle.std.proofs.lemmas.Slice.Eq.{bytes_eq-Decides}
use Rattle.std.proofs.lemmas.Simd.{map-map}
use mathlib.Core.List.{map-append}
use Rattle.fd_disk.specs.declared.file.File.{File}
use Rattle.fd_disk.specs.declared.folders.FileName.{FileName}
use Rattle.fd_disk.specs.Folders.{Contents, Holdings, SameBut, WhereTold, folder_at, no_contents}
use Rattle.fd_disk.specs.Images.{IsImage, firm_file, synced}
use Rattle.fd_entries.specs.declared.batch.Listing.{Listing}
use Rattle.fd_entries.specs.declared.batch.Pair.{Pair}
use Rattle.fd_entries.specs.declared.table.Entry.{Entry}
use Rattle.fd_entries.specs.declared.table.NotATable.{NotATable}
use Rattle.fd_entries.specs.Table.{listed}
use Rattle.fd_schema.specs.Rules.{Rule}
use Rattle.fd_segment.specs.Held.{batch_of}
use Rattle.fd_recovery.specs.Damages.{damages}
use Rattle.fd_recovery.specs.Recovered.{IsUndamaged, WithTable, all_of, batches_listed, files_of, held, held_by}
use Rattle.fd_library.specs.Stores.{KeepsFolder, KeepsTable, ListsIn}
use Rattle.fd_script.specs.Scripts.{Scripted}
use Rattle.fd_lanes.specs.declared.end.End.{End}
use Rattle.fd_lanes.specs.Acts.{all_acts}
use Rattle.fd_lanes.specs.Legal.{IsDoubt}
use Rattle.fd_play.specs.Plays.{HasOneMore, HoldBatches, KeepsOnly, LeavesOpened, LeavesUnplayed, Played, PlayedOver}
use Rattle.fd_stored.specs.declared.status.Status.{Status}
use Rattle.fd_outcome.specs.Objects.{Object}
use Rattle.fd_stored.specs.Store.{table_at}
use Rattle.fd_archive.specs.Crashing.{AreFirm, IsAfterCrash}
use Rattle.fd_archive.proofs.Crashed.{IsTableAfter}
use Rattle.fd_session.specs.Sessions.{Ends, Idles, IsAccepted, Runs}
use Rattle.fd_stops.specs.Found.{EachLeft, IsFolderAfter}
use Rattle.fd_stops.specs.Playing.{FoundIdle, FoundOfSession, FoundPlayed, HasFlushed, HasOneBehind}
use Rattle.fd_stops.proofs.Folders.{firm_same, folder_after, of_table, untouched_after}

-- ---- what a folder holds after a crash

files_are : (w x : Contents) → IsFolderAfter w x → x.files ≡ w.files
files_are w x after = λ i n. after.image.files n i

-- by the image that was left
held_image : (name : List ℕ) (w x : Contents) (c : List ℕ) → IsFolderAfter w x → x.table ≡ Some (firm_file c) → held name x ≡ batches_listed w.files (listed name c)
held_image name w x c after is = ap₂ (λ (fs : FileName → Option (List ℕ)) (t : Option File). held_by name fs t) (files_are w x after) is

image_left : (f : File) (w x : Contents) → w.table ≡ Some f → IsFolderAfter w x → (c : List ℕ) × IsImage f c × (x.table ≡ Some (firm_file c))
image_left f w x is after = subst (λ (t : Option File). IsTableAfter t x.table) is (of_table w x after)

-- ---- no lane ran

-- a folder that was looked into
looked : (name : List ℕ) (v w x : Contents) → KeepsFolder name v w → IsFolderAfter w x → IsFolderAfter v x ⊎ (held name x ≡ held name v)
looked name v w x keeps after = go v.table w.table refl refl keeps.table
  where
    same : w.table ≡ v.table → IsFolderAfter v x ⊎ (held name x ≡ held name v)
    same is = inl (untouched_after v w x (record { table = is; files = keeps.files }) after)

    settled : (o : Option File) (bytes : List ℕ) → v.table ≡ o → w.table ≡ Some (firm_file bytes) → batches_listed v.files (listed name bytes) ≡ held_by name v.files o → IsFolderAfter v x ⊎ (held name x ≡ held name v)
    settled o bytes was is lists =
        let left = image_left (firm_file bytes) w x is after in
        let c : left.0 ≡ bytes = left.1.settled refl in
        let read : held name x ≡ batches_listed v.files (listed name bytes) = held_image name w x left.0 after left.2 ∙ ap₂ (λ (fs : FileName → Option (List ℕ)) (b : List ℕ). batches_listed fs (listed name b)) keeps.files c in
        inr (read ∙ (lists ∙ sym (ap (held_by name v.files) was)))

    go : (o p : Option File) → v.table ≡ o → w.table ≡ p → KeepsTable name o p → IsFolderAfter v x ⊎ (held name x ≡ held name v)
    go None None was is table = same (is ∙ sym was)
    go None (Some g) was is table = settled None g.reads was (is ∙ ap Some table.0) (ap (batches_listed v.files) table.1)
    go (Some f) None was is table = absurd table
    go (Some f) (Some g) was is (inl e) = same (is ∙ ap Some e ∙ sym was)
    go (Some f) (Some g) was is (inr (e, image)) = settled (Some f) f.reads was (is ∙ ap Some e) refl

-- entries with the files that they had stand for what they stood for
batches_of_files : (old new : FileName → Option (List ℕ)) (es : List Entry) → map (files_of new) es ≡ map (files_of old) es → batches_listed new (Ok es) ≡ batches_listed old (Ok es)
batches_of_files old new es same = ap all_of (sym (map-map batch_of (files_of new) es) ∙ (ap (map batch_of) same ∙ map-map batch_of (files_of old) es))

-- what a dataset lists that isn't damaged
lists_some : (name : List ℕ) (v : Contents) (o : Option File) → v.table ≡ o → IfSome o (λ f. (es : List Entry) × (listed name f.reads ≡ Ok es) × (damages v.files es ≡ [])) → (es : List Entry) × ListsIn name es v.table × (held name v ≡ batches_listed v.files (Ok es))
lists_some name v None is none = ([], subst (ListsIn name []) (sym is) refl, ap (held_by name v.files) is)
lists_some name v (Some f) is none = (none.0, subst (ListsIn name none.0) (sym is) none.1, ap (held_by name v.files) is ∙ ap (batches_listed v.files) none.1)

opened : (name : List ℕ) (v w x : Contents) → LeavesOpened name v w → IsFolderAfter w x → held name x ≡ held name v
opened name v w x left after =
    let lists = lists_some name v v.table refl left.undamaged in
    let only : KeepsOnly name lists.0 v w = left.lists lists.0 lists.1 in
    let image = image_left only.keeps.table w x only.keeps.table_is after in
    held_image name w x image.0 after image.2 ∙ ap (batches_listed w.files) (only.none image.0 image.1) ∙ batches_of_files v.files w.files lists.0 only.keeps.files ∙ sym lists.2

stayed : (i h : Holdings) (name : List ℕ) (x : Contents) → i.folders name ≡ h.folders name → IsFolderAfter (folder_at i name) x → IsFolderAfter (folder_at h name) x
stayed i h name x same after = subst (λ (o : Option Contents). IsFolderAfter (unwrap_or o no_contents) x) same after

idle_folder : (octets : List ℕ) (h i j : Holdings) → IsAfterCrash i j → (a : IsAccepted octets h) → LeavesUnplayed a.script.dataset h i → (name : List ℕ)
    → IsFolderAfter (folder_at h name) (folder_at j name) ⊎ ((a : IsAccepted octets h) × (name ≡ a.script.dataset) × (table_at j name ≡ table_at h name))
idle_folder octets h i j after a left name = go (bytes_eq name a.script.dataset) refl
  where
    of_its : IsFolderAfter (folder_at h a.script.dataset) (folder_at j a.script.dataset) ⊎ (table_at j a.script.dataset ≡ table_at h a.script.dataset)
    of_its = elim left.dataset [
      | inl keeps ↦ looked a.script.dataset (folder_at h a.script.dataset) (folder_at i a.script.dataset) (folder_at j a.script.dataset) keeps (folder_after i j after a.script.dataset)
      | inr was ↦ inr (opened a.script.dataset (folder_at h a.script.dataset) (folder_at i a.script.dataset) (folder_at j a.script.dataset) was (folder_after i j after a.script.dataset))
    ]

    go : (b : Bool) → bytes_eq name a.script.dataset ≡ b → IsFolderAfter (folder_at h name) (folder_at j name) ⊎ ((a : IsAccepted octets h) × (name ≡ a.script.dataset) × (table_at j name ≡ table_at h name))
    go true e =
        let is : name ≡ a.script.dataset = (bytes_eq-Decides name a.script.dataset).0 e in
        elim of_its [
          | inl same ↦ inl (subst (λ (n : List ℕ). IsFolderAfter (folder_at h n) (folder_at j n)) (sym is) same)
          | inr holds ↦ inr (a, is, subst (λ (n : List ℕ). table_at j n ≡ table_at h n) (sym is) holds)
        ]
    go false e =
        let apart : name ≢ a.script.dataset = λ is. let yes = (bytes_eq-Decides name a.script.dataset).1 is in absurd (cc (yes, e)) in
        inl (stayed i h name (folder_at j name) (left.others.others name apart) (folder_after i j after name))

idle : (octets : List ℕ) (h i j : Holdings) → IsAfterCrash i j → (i ≡ h) ⊎ ((a : IsAccepted octets h) × LeavesUnplayed a.script.dataset h i) → FoundIdle octets h j
idle octets h i j after left = record {
  each = each;
  firm = λ firm name. elim (each name) [
    | inl same ↦ ap (held name) (firm_same (folder_at h name) (folder_at j name) (firm name) same)
    | inr holds ↦ holds.2
  ];
}
  where
    each : (name : List ℕ) → IsFolderAfter (folder_at h name) (folder_at j name) ⊎ ((a : IsAccepted octets h) × (name ≡ a.script.dataset) × (table_at j name ≡ table_at h name))
    each name = elim left [
      | inl same ↦ inl (subst (λ (k : Holdings). IsFolderAfter (folder_at k name) (folder_at j name)) same (folder_after i j after name))
      | inr some ↦ idle_folder octets h i j after some.0 some.1 name
    ]

-- ---- the lanes ran

all_push : (xs : List (Option (List Pair))) (u : List (List Pair)) (b : List Pair) → all_of xs ≡ Some u → all_of (xs ++ Some b ∷ []) ≡ Some (u ++ b ∷ [])
all_push [] u b is = let none : [] ≡ u = cc is in ap (λ (bs : List (List Pair)). Some (bs ++ b ∷ [])) none
all_push (None ∷ xs) u b is = absurd (cc is)
all_push (Some x ∷ xs) u b is = go (all_of xs) refl (λ more e. all_push xs more b e) is
  where
    go : (o : Option (List (List Pair))) → all_of xs ≡ o → ((more : List (List Pair)) → all_of xs ≡ Some more → all_of (xs ++ Some b ∷ []) ≡ Some (more ++ b ∷ [])) → option_map (λ more. x ∷ more) o ≡ Some u
        → option_map (λ more. x ∷ more) (all_of (xs ++ Some b ∷ [])) ≡ Some (u ++ b ∷ [])
    go None e later is = absurd (cc is)
    go (Some more) e later is =
        let front : x ∷ more ≡ u = cc is in
        ap (option_map (λ more. x ∷ more)) (later more e) ∙ ap (λ (bs : List (List Pair)). Some (bs ++ b ∷ [])) front

-- one entry more, which stands for this batch
batches_more : (files : FileName → Option (List ℕ)) (es : List Entry) (e : Entry) (u : List (List Pair)) (b : List Pair) → batches_listed files (Ok es) ≡ Some u → batch_of (files_of files e) ≡ Some b → batches_listed files (Ok (es ++ e ∷ [])) ≡ Some (u ++ b ∷ [])
batches_more files es e u b is one =
    ap all_of (map-append (λ (x : Entry). batch_of (files_of files x)) es (e ∷ []) ∙ ap (λ (o : Option (List Pair)). map (λ (x : Entry). batch_of (files_of files x)) es ++ o ∷ []) one) ∙ all_push (map (λ (x : Entry). batch_of (files_of files x)) es) u b is

module _ {F : Type 0} (rules : List Rule) (messages : List (List ℕ)) (script : Scripted) (before : ℕ) (ends : List (List (End F))) (t : List (List Pair)) (i : Holdings) (over : PlayedOver rules messages script before ends t i) where
  abbrev Doubted : Listing → Type 0
  Doubted l = IsDoubt l before (all_acts rules messages over.legal.places script.lanes) ends

  flushed_now : (x : Contents) (c : List ℕ) → held script.dataset x ≡ batches_listed x.files (listed script.dataset c)
      → HoldBatches x.files (listed script.dataset c) (t ++ over.flushed) ⊎ HasOneMore script.dataset x.files c (t ++ over.flushed) Doubted
      → HasFlushed rules messages script before ends t (held script.dataset x)
  flushed_now x c is (inl whole) = record { flushed = over.flushed; legal = over.legal; now = whole.0; after_is = is ∙ whole.1; are = inl whole.2 }
  flushed_now x c is (inr more) = record {
    flushed = over.flushed;
    legal = over.legal;
    now = more.holds.0 ++ more.batch ∷ [];
    after_is = is ∙ ap (batches_listed x.files) more.lists ∙ batches_more x.files more.entries more.more.entry more.holds.0 more.batch more.holds.1 more.kept;
    are = inr (record { front = more.holds.0; batch = more.batch; more = more.more; is = refl; alike = more.holds.2; batch_is = more.batch_is; doubted = more.doubted });
  }

  flushed_left : (j : Holdings) → IsAfterCrash i j → HasFlushed rules messages script before ends t (table_at j script.dataset)
  flushed_left j after = go (folder_at j script.dataset).table refl (over.images (folder_at j script.dataset) (folder_after i j after script.dataset))
    where
      go : (o : Option File) → (folder_at j script.dataset).table ≡ o
          → WithTable o (λ f. HoldBatches (folder_at j script.dataset).files (listed script.dataset f.reads) (t ++ over.flushed) ⊎ HasOneMore script.dataset (folder_at j script.dataset).files f.reads (t ++ over.flushed) Doubted)
          → HasFlushed rules messages script before ends t (table_at j script.dataset)
      go None is none = absurd none
      go (Some f) is holds = flushed_now (folder_at j script.dataset) f.reads (ap (held_by script.dataset (folder_at j script.dataset).files) is) holds

module _ (F : Type 0) (s : Status) (store : Object Holdings) (input output report : Object (List ℕ)) where
  ran : (octets : List ℕ) (h i j : Holdings) → IsAfterCrash i j → Runs F s store input output report octets h i → FoundPlayed F s output report octets h j
  ran octets h i j after runs = record {
    rules = runs.rules;
    are = runs.are;
    script = runs.script;
    messages = runs.messages;
    accepted = runs.accepted;
    before = runs.before;
    ends = runs.ends;
    writes = runs.writes;
    others = others;
    firm = λ firm other apart. ap (held other) (firm_same (folder_at h other) (folder_at j other) (firm other) (others other apart));
    flushed = λ t is. flushed_left runs.rules runs.messages runs.script runs.before runs.ends t i (runs.played.over t is) j after;
  }
    where
      others : (other : List ℕ) → other ≢ runs.script.dataset → IsFolderAfter (folder_at h other) (folder_at j other)
      others other apart = stayed i h other (folder_at j other) (runs.played.others.others other apart) (folder_after i j after other)

  session_found : (octets : List ℕ) (h i j : Holdings) → IsAfterCrash i j → Idles F s store input output report octets h i ⊎ Runs F s store input output report octets h i → FoundOfSession F s output report octets h j
  session_found octets h i j after (inl idles) = record { schema = after.image.schema_is ∙ idles.stays.schema; datasets = inl (idle octets h i j after idles.left) }
  session_found octets h i j after (inr runs) = record { schema = after.image.schema_is ∙ runs.played.others.schema; datasets = inr (ran octets h i j after runs) }

  pub found_of_session : (before : Option (List ℕ)) (a b : Option Holdings) → IfSome before (λ octets. WhereTold a b (λ h i. Idles F s store input output report octets h i ⊎ Runs F s store input output report octets h i))
      → IfSome before (λ octets. WhereTold a b (EachLeft (FoundOfSession F s output report octets)))
  found_of_session None a b ends = tt
  found_of_session (Some octets) None None ends = tt
  found_of_session (Some octets) None (Some i) ends = absurd ends
  found_of_session (Some octets) (Some h) None ends = absurd ends
  found_of_session (Some octets) (Some h) (Some i) ends = λ j after. session_found octets h i j after ends
