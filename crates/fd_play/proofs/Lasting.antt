-- What the store holds once the lanes have run and all was given back.
use Rattle.std.proofs.Common.{◌≡◌, ◌≢◌, ◌<◌, ◌≤◌, ◌+◌, ◌||◌, ◌⊎◌, inl, inr, ℕ, Bool, true, false, List, [], ◌∷◌, ◌++◌, All, map, take, length, Option, Some, None, is_some, Result, Ok, Err, append_assoc, sym, refl, ap, ap₂, ◌∙◌, subst, arith, length-append}
use Rattle.std.specs.Prelude.{IfSome, IsSome, option_map, slice_get}
use Rattle.std.specs.Str.{bytes_eq}
use Rattle.std.proofs.lemmas.List.{length-map}
use Rattle.std.proofs.lemmas.List.Elements.{All-head}
use mathlib.Core.List.{IsPrefix, map-append}
use Rattle.fd_disk.specs.declared.file.File.{File}
use Rattle.fd_disk.specs.declared.folders.FileName.{FileName}
use Rattle.fd_disk.specs.Folders.{Contents, Holdings, IsTableLeft, SameBut, folder_at}
use Rattle.fd_disk.specs.Images.{IsImage}
use Rattle.fd_entries.specs.declared.batch.Listing.{Listing}
use Rattle.fd_entries.specs.declared.batch.Pair.{Pair}
use Rattle.fd_entries.specs.declared.table.Entry.{Entry}
use Rattle.fd_entries.specs.Table.{listed}
use Rattle.fd_schema.specs.Rules.{Rule}
use Rattle.fd_segment.specs.Held.{batch_of}
use Rattle.fd_numbers.specs.Numbers.{Differ, IsIn}
use Rattle.fd_turn.specs.Views.{View, first_view}
use Rattle.fd_turn.specs.Passes.{BoardId}
use Rattle.fd_dataset.specs.Listed.{entries_of}
use Rattle.fd_archiver.specs.Writing.{IsKept, Writing}
use Rattle.fd_recovery.specs.Crashing.{IsFolderAfter}
use Rattle.fd_recovery.specs.Recovered.{IsUndamaged, WithTable, all_of, batches_listed, files_of}
use Rattle.fd_retriever.specs.Answers.{Tells}
use Rattle.fd_library.specs.Answers.{HoldsAs, IsOpened}
use Rattle.fd_library.specs.Open.{OpenDataset, Seated, among}
use Rattle.fd_library.specs.Stores.{GivenBack, IsBack, IsGivenBack, ListsIn, ListsOrDoubted, held_by_pass, held_in, held_of}
use Rattle.fd_script.specs.Scripts.{Scripted}
use Rattle.fd_lanes.specs.declared.end.End.{End}
use Rattle.fd_lanes.specs.Acts.{Act, all_acts}
use Rattle.fd_lanes.specs.Jobs.{IsKeptBy, IsKeptByOne, writers_of}
use Rattle.fd_lanes.specs.Legal.{IsDoubt, IsLegal}
use Rattle.fd_lanes.specs.Tables.{AlikeTables}
use Rattle.fd_play.specs.Plays.{HasOneMore, HoldBatches, KeepsEntries, Played, PlayedOpen, PlayedOver}
use Rattle.fd_play.specs.Staff.{HandsBack}
use Rattle.fd_play.proofs.Crewing.{lent_one, lent_writers, staff_later, staff_told}
use Rattle.fd_play.proofs.Handing.{Backs, all_in, backs, batches_stay, differ_texts, files_stay, is_told}
use Rattle.fd_play.proofs.Telling.{BothTell, EachStands, all_are, all_told, both_more, both_tell, get_behind, prefix_whole, segment_back, take_front, told_long}

ok_same : {A E : Type 0} (r : Result A E) (x y : A) → r ≡ Ok x → r ≡ Ok y → x ≡ y
ok_same (Ok z) x y is it = let one : z ≡ x = cc is in let two : z ≡ y = cc it in sym one ∙ two
ok_same (Err e) x y is it = absurd (cc is)

-- what holds of each image of the table, with the folder's files, holds of what a crash leaves of the folder
left_table : (v w : Contents) (f : File) (P : (FileName → Option (List ℕ)) → List ℕ → Type 0) → v.table ≡ Some f → IsFolderAfter v w → ((c : List ℕ) → IsImage f c → P v.files c) → WithTable w.table (λ g. P w.files g.reads)
left_table v w f P is after each = go w.table (subst (λ (o : Option File). IsTableLeft o (option_map (λ (g : File). g.reads) w.table)) is after.image.table)
  where
    files : v.files ≡ w.files
    files = sym (λ i n. after.image.files n i)

    go : (o : Option File) → IsTableLeft (Some f) (option_map (λ (g : File). g.reads) o) → WithTable o (λ g. P w.files g.reads)
    go None image = absurd image
    go (Some g) image = subst (λ (fs : FileName → Option (List ℕ)). P fs g.reads) files (each g.reads image)

-- a table lists the same entries at any time
pub lists_same : (name : List ℕ) (xs ys : List Entry) (t : Option File) → ListsIn name xs t → ListsIn name ys t → xs ≡ ys
lists_same name xs ys None is it = is ∙ sym it
lists_same name xs ys (Some f) is it = ok_same (listed name f.reads) xs ys is it

-- what an opened dataset lists
pub lists_opened : {D : Type 0} (has : D → Option Contents) (name : List ℕ) (b : BoardId) (s : Holdings) (h : OpenDataset D) (o : IsOpened name b h) → HoldsAs has s h → ListsIn name (entries_of o.history) (folder_at s name).table
lists_opened has name b s h o holds =
    subst (λ (n : List ℕ). ListsIn n (entries_of o.history) (folder_at s n).table) o.name_is
    (subst (λ (p : Option Seated). IfSome p (λ (q : Seated). ListsIn h.name (entries_of q.view.history) (folder_at s h.name).table)) o.pass holds.lists)

-- the files that its folder has
pub files_opened : {D : Type 0} (has : D → Option Contents) (name : List ℕ) (s : Holdings) (h : OpenDataset D) (v : Contents) → h.name ≡ name → has h.folder ≡ Some v → HoldsAs has s h → v.files ≡ (folder_at s name).files
files_opened has name s h v text is holds =
    subst (λ (o : Option Contents). IfSome o (λ (w : Contents). w.files ≡ (folder_at s h.name).files)) is holds.same ∙ ap (λ (n : List ℕ). (folder_at s n).files) text

some_of : {A : Type 0} (o : Option A) → IsSome o → (x : A) × (o ≡ Some x)
some_of None s = absurd (cc s)
some_of (Some x) s = (x, refl)

module _ {H : Type 0} (kept : H → Option (FileName → Option (List ℕ))) where
  -- a listing that one of the archivers keeps stands in the folder
  stands_back : (u : Contents) (ws : List (Writing H)) (old : Option Contents) (l : Listing) → Backs kept ws old u → Differ (writers_of ws) → All (λ (w : Writing H). w.told ≡ true) ws
      → (vs : List (Writing H)) → ((w : Writing H) → IsIn vs w → IsIn ws w) → IsKeptByOne kept vs l → (c : List Pair) × (l.batch ≡ Some c) × (batch_of (files_of u.files l.entry) ≡ Some c)
  stands_back u ws old l bk differ told [] inside k = absurd k
  stands_back u ws old l bk differ told (v ∷ vs) inside (inr k) = stands_back u ws old l bk differ told vs (λ w i. inside w (inr i)) k
  stands_back u ws old l bk differ told (v ∷ vs) inside (inl k) =
      let here = inside v (inl refl) in
      let r = bk.keeps differ v here in
      let c = some_of (batch_of k.segment.files) (k.batch (all_in (λ (w : Writing H). w.told ≡ true) ws v told here)) in (
        c.0,
        ap (λ (m : Listing). m.batch) k.is ∙ c.1,
        ap (λ (m : Listing). batch_of (files_of u.files m.entry)) k.is
            ∙ segment_back u.files r.0 k.segment c.0 (λ n bytes its there. r.2 n bytes (sym k.by ∙ its) there) (subst (λ (o : Option (FileName → Option (List ℕ))). IsKept o k.segment) r.1 k.files) c.1,
      )

-- ---- the dataset

module _ {F D H : Type 0} (has : D → Option Contents) (kept : H → Option (FileName → Option (List ℕ))) (rules : List Rule) (messages : List (List ℕ)) (sc : Scripted) (before : ℕ) (ends : List (List (End F))) (b : BoardId) (h : OpenDataset D) (old new : Option Holdings)
    (po : PlayedOpen {F = F} has kept rules messages sc before ends b h old new) (o : IsOpened sc.dataset b h) where
  first_is : po.first ≡ first_view sc.dataset o.told o.history
  first_is =
      let both : Some (record { board = b; view = po.first }) ≡ Some (record { board = b; view = first_view sc.dataset o.told o.history }) = sym po.was ∙ o.pass in
      let one : record { board = b; view = po.first } ≡ record { board = b; view = first_view sc.dataset o.told o.history } = cc both in
      ap (λ (x : Seated). x.view) one

  first_history : po.first.history ≡ o.history
  first_history = ap (λ (v : View). v.history) first_is

  before_all : before ≡ length o.history
  before_all = let op : po.first.opening ≡ length o.history = ap (λ (v : View). v.opening) first_is in let am : po.first.amount ≡ 0 = ap (λ (v : View). v.amount) first_is in let be = po.ran.begins in omega arith

  module _ (s s1 t : Holdings) (holds : HoldsAs has s h) (same : SameBut sc.dataset s s1) (hb : HandsBack has kept po.last po.archivers s1 t) where
    name_is : hb.after.name ≡ sc.dataset
    name_is = hb.name ∙ (po.name ∙ o.name_is)

    pass_is : hb.after.pass ≡ Some (record { board = b; view = po.pass })
    pass_is = hb.pass ∙ po.pass_is

    given : GivenBack hb.after.name (has hb.after.folder) hb.after.pass (folder_at t hb.after.name)
    given = All-head (λ (d : OpenDataset D). IsGivenBack has d (folder_at t d.name)) hb.after [] hb.given.given

    told : (c : Contents) × (has hb.after.folder ≡ Some c)
    told = is_told hb.after.name (has hb.after.folder) hb.after.pass (folder_at t hb.after.name) given

    abbrev u : Contents
    u = told.0

    back : IsBack sc.dataset u (record { board = b; view = po.pass }) (folder_at t sc.dataset)
    back = subst (λ (n : List ℕ). IsBack n u (record { board = b; view = po.pass }) (folder_at t n)) name_is
        (subst (λ (p : Option Seated). GivenBack hb.after.name (Some u) p (folder_at t hb.after.name)) pass_is (subst (λ (f : Option Contents). GivenBack hb.after.name f hb.after.pass (folder_at t hb.after.name)) told.1 given))

    bk : Backs kept po.archivers (has po.last.folder) u
    bk = backs kept po.archivers (has po.last.folder) (has hb.after.folder) u hb.files told.1

    had_is : has h.folder ≡ Some bk.had
    had_is = sym po.same ∙ bk.is

    later : All (λ (w : Writing H). h.last < w.writer) po.archivers
    later = lent_one (λ n d f. h.last < n) po.archivers po.staff po.owners (staff_later has h po.staff po.begun)

    all_told_true : All (λ (w : Writing H). w.told ≡ true) po.archivers
    all_told_true = lent_one (λ n d f. f ≡ true) po.archivers po.staff po.owners (λ k d lt. staff_told has h po.staff po.begun k d lt ∙ ap is_some had_is)

    differ : Differ (writers_of po.archivers)
    differ = subst Differ (sym (lent_writers po.archivers po.staff po.owners)) po.differ

    -- the files of those that were writers before
    older : (n : FileName) → n.writer ≤ h.last → u.files n ≡ bk.had.files n
    older n small = bk.others n (λ w i e. let big = all_in (λ (v : Writing H). h.last < v.writer) po.archivers w later i in omega (arith, big, e, small))

    seen : IsPrefix o.history po.pass.history
    seen = subst (λ (ls : List Listing). IsPrefix ls po.pass.history) first_history po.ran.keeps.seen

    abbrev firsts : List Entry
    firsts = entries_of o.history

    -- what the table lists behind the entries that it listed before
    abbrev behind : List Entry
    behind = entries_of seen.0 ++ back.seen.0

    lists_behind : firsts ++ behind ≡ back.entries
    lists_behind =
        sym (append_assoc firsts (entries_of seen.0) back.seen.0)
        ∙ (ap (λ (es : List Entry). es ++ back.seen.0) (sym (map-append (λ (l : Listing). l.entry) o.history seen.0) ∙ ap entries_of seen.1) ∙ back.seen.1)

    -- the entries that were listed before are listed, and their files are there, whatever these hold
    keeps_entries : KeepsEntries sc.dataset firsts (folder_at s sc.dataset) (folder_at t sc.dataset)
    keeps_entries = record {
      table = back.table;
      table_is = back.table_is;
      reads = back.reads;
      images = λ c image. go c (back.images c image);
      files = ap (λ (fs : FileName → Option (List ℕ)). map (files_of fs) firsts) back.files_are
          ∙ (files_stay bk.had.files u.files h.last o.history older o.writers ∙ ap (λ (fs : FileName → Option (List ℕ)). map (files_of fs) firsts) (files_opened has sc.dataset s h bk.had o.name_is had_is holds));
    }
      where
        go : (c : List ℕ) → ListsOrDoubted sc.dataset back.entries po.pass.doubts c → (more : List Entry) × (listed sc.dataset c ≡ Ok (firsts ++ more))
        go c (inl lists) = (behind, lists ∙ ap (λ (es : List Entry). Ok es) (sym lists_behind))
        go c (inr d) = (
          behind ++ d.0.entry ∷ [],
          d.2 ∙ ap (λ (es : List Entry). Ok es) (ap (λ (es : List Entry). es ++ d.0.entry ∷ []) (sym lists_behind) ∙ append_assoc firsts behind (d.0.entry ∷ [])),
        )

    module _ (t0 : List (List Pair)) (is : held_of s sc.dataset ≡ Some t0) where
      -- the batches that were there before
      front : BothTell u.files o.history t0
      front = record {
        listings = all_told (map (λ (l : Listing). l.batch) o.history) t0 (subst (λ (p : Option Seated). IfSome p (λ (q : Seated). all_of (map (λ l. l.batch) q.view.history) ≡ held_of s h.name)) o.pass holds.listings ∙ (ap (held_of s) o.name_is ∙ is));
        entries = all_told (map (λ (e : Entry). batch_of (files_of u.files e)) (entries_of o.history)) t0
            (batches_stay bk.had.files u.files h.last o.history older o.writers
            ∙ (sym (ap₂ held_by_pass had_is o.pass) ∙ (holds.files ∙ (ap (held_of s) o.name_is ∙ is))));
      }

      -- and those that are listed now
      more : (added : List (List Pair)) × BothTell u.files seen.0 added
      more = both_tell u.files seen.0 (λ i l at.
          stands_back kept u po.archivers (has po.last.folder) l bk differ all_told_true po.archivers (λ w i. i)
          (po.files (length o.history + i) l (let all = before_all in omega arith) (subst (λ (ls : List Listing). slice_get ls (length o.history + i) ≡ Some l) seen.1 (get_behind o.history seen.0 i ∙ at))))

      abbrev whole : List (List Pair)
      whole = t0 ++ more.0

      both : BothTell u.files po.pass.history whole
      both = subst (λ (ls : List Listing). BothTell u.files ls whole) seen.1 (both_more u.files o.history seen.0 t0 more.0 front more.1)

      long : before ≡ length t0
      long = let all = before_all in let told = told_long o.history t0 front.listings in omega arith

      taken : take before whole ≡ t0
      taken = take_front before t0 more.0 long

      entries_are : back.entries ≡ entries_of po.pass.history
      entries_are = prefix_whole (entries_of po.pass.history) back.entries back.seen (let count = back.count in let all = po.ran.whole in let mapped = length-map po.pass.history (λ (l : Listing). l.entry) in omega arith)

      listed_whole : batches_listed (folder_at t sc.dataset).files (Ok back.entries) ≡ Some whole
      listed_whole = ap₂ (λ (f : FileName → Option (List ℕ)) (es : List Entry). batches_listed f (Ok es)) back.files_are entries_are ∙ (ap all_of both.entries ∙ all_are whole)

      pub played_over : PlayedOver rules messages sc before ends t0 t
      played_over =
          let script : List (List Act) = all_acts rules messages po.places sc.lanes in
          let r = po.ran.legal whole both.listings in
          let alike : AlikeTables whole (t0 ++ r.0) = subst (λ (x : List (List Pair)). AlikeTables whole (x ++ r.0)) taken r.2 in
          record {
            before_is = long;
            flushed = r.0;
            legal = record { places = po.places; are_places = po.are_places; legal = subst (λ (x : List (List Pair)). IsLegal x r.0 script ends) taken r.1 };
            sound = r.3;
            table = back.table;
            table_is = back.table_is;
            reads = back.reads;
            images = λ w after. left_table (folder_at t sc.dataset) w back.table
                (λ fs c. HoldBatches fs (listed sc.dataset c) (t0 ++ r.0) ⊎ HasOneMore sc.dataset fs c (t0 ++ r.0) (λ l. IsDoubt l before (all_acts rules messages po.places sc.lanes) ends)) back.table_is after
                (λ c image. go r.0 alike c (back.images c image));
          }
        where
          go : (flushed : List (List Pair)) → AlikeTables whole (t0 ++ flushed) → (c : List ℕ) → ListsOrDoubted sc.dataset back.entries po.pass.doubts c
              → HoldBatches (folder_at t sc.dataset).files (listed sc.dataset c) (t0 ++ flushed) ⊎ HasOneMore sc.dataset (folder_at t sc.dataset).files c (t0 ++ flushed) (λ l. IsDoubt l before (all_acts rules messages po.places sc.lanes) ends)
          go flushed alike c (inl lists) = inl (whole, ap (batches_listed (folder_at t sc.dataset).files) lists ∙ listed_whole, alike)
          go flushed alike c (inr d) =
              let files = stands_back kept u po.archivers (has po.last.folder) d.0 bk differ all_told_true po.archivers (λ w i. i) (po.doubted d.0 d.1) in
              inr (record {
                entries = back.entries;
                more = d.0;
                lists = d.2;
                holds = (whole, listed_whole, alike);
                doubted = po.ran.doubts d.0 d.1;
                batch = files.0;
                batch_is = files.1;
                kept = subst (λ (fs : FileName → Option (List ℕ)). batch_of (files_of fs d.0.entry) ≡ Some files.0) (sym back.files_are) files.2;
              })

    pub played : IsUndamaged sc.dataset (folder_at s sc.dataset) → Played rules messages sc before ends s t
    played none = record {
      others = record {
        schema = hb.given.schema ∙ same.schema;
        others = λ other out. hb.given.others other (ap (λ (n : List ℕ). bytes_eq other n || false) name_is ∙ ap (λ (x : Bool). x || false) (differ_texts other sc.dataset out)) ∙ same.others other out;
      };
      over = λ t0 is. played_over t0 is;
      undamaged = none;
      entries = λ es lists. subst (λ (xs : List Entry). KeepsEntries sc.dataset xs (folder_at s sc.dataset) (folder_at t sc.dataset))
          (lists_same sc.dataset firsts es (folder_at s sc.dataset).table (lists_opened has sc.dataset b s h o holds) lists) keeps_entries;
    }
