-- What stands in a dataset once all is back, and in all datasets.
use Rattle.std.proofs.Common.{◌≡◌, ◌≢◌, ◌⊎◌, inl, inr, ◌<◌, ◌≤◌, ◌+◌, ◌-◌, ◌/◌, ℕ, zero, suc, List, [], ◌∷◌, ◌++◌, All, length, map, take, slice_get, Option, Some, None, IfSome, is_some, Ok, refl, sym, ap, ap₂, subst, ◌∙◌, arith, append-nil}
use Rattle.std.specs.Prelude.{Contains}
use mathlib.Core.List.{IsPrefix}
use Rattle.std.proofs.lemmas.List.{length-map}
use Rattle.std.proofs.lemmas.List.Elements.{All-head, All-nil, All-tail, All-weaker}
use Rattle.fd_disk.specs.declared.folders.FileName.{FileName}
use Rattle.fd_disk.specs.Folders.{Contents, Holdings}
use Rattle.fd_entries.specs.declared.batch.Listing.{Listing}
use Rattle.fd_entries.specs.declared.batch.Pair.{Pair}
use Rattle.fd_entries.specs.declared.table.Entry.{Entry}
use Rattle.fd_entries.specs.Batches.{newest, of_batch, or_older}
use Rattle.fd_numbers.specs.Numbers.{Differ, IsIn}
use Rattle.fd_segment.specs.Held.{batch_of}
use Rattle.fd_turn.specs.declared.board.Pass.{Pass}
use Rattle.fd_turn.specs.Passes.{BoardId, view}
use Rattle.fd_turn.specs.Views.{View}
use Rattle.fd_dataset.specs.Listed.{entries_of}
use Rattle.fd_recovery.specs.Recovered.{batches_listed, files_of}
use Rattle.fd_archiver.specs.Writing.{Writing}
use Rattle.fd_library.specs.Open.{OpenDataset, Seated, seat_of}
use Rattle.fd_library.specs.Stores.{held_by_pass, held_in}
use Rattle.fd_stored.specs.Archiving.{Stored, pairs_for}
use Rattle.fd_shares.specs.declared.round.Desk.{Desk}
use Rattle.fd_shares.specs.declared.round.Job.{Job}
use Rattle.fd_stored.specs.Store.{Adds, AddsAll}
use Rattle.fd_bulk.specs.Adding.{IsHeldBy, IsOnlyOf}
use Rattle.fd_bulk.specs.Archived.{IsBack, IsSure}
use Rattle.fd_bulk.specs.Columns.{ColumnWorks, amounts, numbers}
use Rattle.fd_bulk.specs.Crewing.{HasBegun, IsLent, desks_at, with_desk, writers_of}
use Rattle.fd_shares.specs.Dealing.{dealt_to}
use Rattle.fd_bulk.specs.Ending.{EndedAs, column, desk_in, parts_in}
use Rattle.fd_shares.specs.Working.{Flushed, Stage}
use Rattle.fd_bulk.proofs.Columns.{column_adds, column_adds_all}
use Rattle.fd_bulk.proofs.Doubts.{all_held, all_only, all_sure, few_in_doubt}
use Rattle.fd_bulk.proofs.Handed.{AllHold, AllOpened, AllSeen, AllTell, FilesTook, StayBut, Took, all_home, doubts_in, prefix_on, seen_on, somes, took, took_files}
use Rattle.fd_bulk.proofs.Lanes.{first_stays}
use Rattle.fd_bulk.proofs.Tables.{all_long}

-- ---- a column, and the list of those that are there

module _ {H X Y E : Type 0} where
  pub desks_column : (n : ℕ) (js : List (Job (Writing H) (Pass X Y) E)) → desks_at n js ≡ somes (column n js)
  desks_column n [] = refl
  desks_column n (j ∷ js) = go (slice_get j.desks.items n) (desks_column n js)
    where
      go : (o : Option (Option (Desk (Writing H) (Pass X Y)))) → desks_at n js ≡ somes (column n js) → with_desk o (desks_at n js) ≡ somes (desk_in o ∷ column n js)
      go None e = e
      go (Some None) e = e
      go (Some (Some d)) e = ap (λ (ds : List (Desk (Writing H) (Pass X Y))). d ∷ ds) e

module _ {H X Y : Type 0} where
  numbers_somes : (ds : List (Option (Desk (Writing H) (Pass X Y)))) → numbers ds ≡ writers_of (somes ds)
  numbers_somes [] = refl
  numbers_somes (None ∷ ds) = numbers_somes ds
  numbers_somes (Some d ∷ ds) = ap (λ (ns : List ℕ). d.archiver.writer ∷ ns) (numbers_somes ds)

  module _ {D : Type 0} (has : D → Option Contents) (h : OpenDataset D) where
    pub all_parts_one : (ds : List (Option (Desk (Writing H) (Pass X Y)))) → All (IsLent has h) (somes ds) → parts_in ds ≡ length (somes ds)
    all_parts_one [] all = refl
    all_parts_one (None ∷ ds) all = all_parts_one ds all
    all_parts_one (Some d ∷ ds) all =
        let one : IsLent has h d = All-head (IsLent has h) d (somes ds) all in
        let p = one.part in
        let e = all_parts_one ds (All-tail (IsLent has h) d (somes ds) all) in omega (arith, p, e)

    all_opened : (ds : List (Option (Desk (Writing H) (Pass X Y)))) → All (IsLent has h) (somes ds) → AllOpened ds h.opening
    all_opened [] all = tt
    all_opened (None ∷ ds) all = all_opened ds all
    all_opened (Some d ∷ ds) all = let one : IsLent has h d = All-head (IsLent has h) d (somes ds) all in (one.opening, all_opened ds (All-tail (IsLent has h) d (somes ds) all))

    all_late : (ds : List (Option (Desk (Writing H) (Pass X Y)))) (x : ℕ) → All (IsLent has h) (somes ds) → IsIn (numbers ds) x → h.last < x + h.given
    all_late [] x all i = absurd i
    all_late (None ∷ ds) x all i = all_late ds x all i
    all_late (Some d ∷ ds) x all (inl e) = let one : IsLent has h d = All-head (IsLent has h) d (somes ds) all in let l = one.later in omega (arith, l, e)
    all_late (Some d ∷ ds) x all (inr i) = all_late ds x (All-tail (IsLent has h) d (somes ds) all) i

-- where the folder tells, it has the files of the listing
abbrev IsThere : Option Contents → Listing → Type 0
IsThere o l = IfSome o (λ v. IsHeldBy v.files l)

take_front : {A : Type 0} (n : ℕ) (xs ys : List A) → n ≡ length xs → IsPrefix xs ys → take n ys ≡ xs
take_front {A = A} n xs ys is p = ap₂ take is (sym p.1) ∙ go xs p.0
  where
    go : (zs more : List A) → take (length zs) (zs ++ more) ≡ zs
    go [] [] = refl
    go [] (m ∷ more) = refl
    go (z ∷ zs) more = ap (λ ws. z ∷ ws) (go zs more)

-- ---- one dataset

pub ended_name : {D H X Y : Type 0} (has : D → Option Contents) (faults : D → ℕ) (kept : H → Option (FileName → Option (List ℕ))) (v : View) (ds : List (Option (Desk (Writing H) (Pass X Y)))) (h g : OpenDataset D) → EndedAs has faults kept v ds h g → g.name ≡ h.name
ended_name has faults kept v ds h g e =
    let t = took has faults kept ds h e.mid v e.mid_view e.handed in ap (λ (k : OpenDataset _). k.name) e.rest ∙ ap (λ (k : OpenDataset _). k.name) t.rest

module _ {D H X Y : Type 0} (has : D → Option Contents) (faults : D → ℕ) (kept : H → Option (FileName → Option (List ℕ))) (start : Option Holdings) (lost : ℕ) (b : BoardId) (h g : OpenDataset D) (p : Pass X Y) (ds : List (Option (Desk (Writing H) (Pass X Y))))
    (begun : HasBegun has start lost b h p (somes ds)) (e : EndedAs has faults kept (view p) ds h g) where
  t : Took ds h e.mid (view p) e.mid_view
  t = took has faults kept ds h e.mid (view p) e.mid_view e.handed

  folder_is : g.folder ≡ e.mid.folder
  folder_is = ap (λ (k : OpenDataset D). k.folder) e.rest

  pass_is : g.pass ≡ Some e.seat
  pass_is = ap (λ (k : OpenDataset D). k.pass) e.rest

  pub name_is : g.name ≡ h.name
  name_is = ap (λ (k : OpenDataset D). k.name) e.rest ∙ ap (λ (k : OpenDataset D). k.name) t.rest

  lent_is : g.lent ≡ 0
  lent_is = let a = ap (λ (k : OpenDataset D). k.lent) e.rest in let c = t.lent in let f = begun.lent in omega (arith, a, c, f)

  seen : IsPrefix (view p).history e.seat.view.history
  seen = prefix_on (view p).history e.mid_view.history e.seat.view.history t.seen e.seen

  count : length e.seat.view.history ≡ h.opening + amounts ds
  count =
      let a = e.count in
      let o : e.seat.view.opening ≡ h.opening = ap (λ (v : View). v.opening) e.view_is ∙ t.opening ∙ begun.opening in
      let m : e.seat.view.amount ≡ (view p).amount + amounts ds = ap (λ (v : View). v.amount) e.view_is ∙ t.amount in
      let n = begun.none in
      omega (arith, a, o, m, n)

  opening_is : e.seat.view.opening ≡ h.opening
  opening_is = ap (λ (v : View). v.opening) e.view_is ∙ t.opening ∙ begun.opening

  -- the pass counts from the batches that were there
  pub openings : (b : List (List Pair)) → held_by_pass (has h.folder) (Some (seat_of p)) ≡ Some b → IfSome g.pass (λ s. length b ≡ s.view.opening)
  openings b held = subst (λ (o : Option Seated). IfSome o (λ s. length b ≡ s.view.opening)) (sym pass_is) (go (has h.folder) held ∙ sym begun.seen ∙ sym opening_is)
    where
      go : (o : Option Contents) → held_by_pass o (Some (seat_of p)) ≡ Some b → length b ≡ length (view p).history
      go None is = absurd (cc is)
      go (Some files) is = all_long (map (λ (x : Entry). batch_of (files_of files.files x)) (entries_of (view p).history)) b is ∙ length-map (entries_of (view p).history) (λ (x : Entry). batch_of (files_of files.files x)) ∙ length-map (view p).history (λ (x : Listing). x.entry)

  doubts_are : (e.seat.view.doubts ≡ doubts_in ds) ⊎ (e.seat.view.doubts ≡ [])
  doubts_are = go e.doubts
    where
      whole : e.mid_view.doubts ≡ doubts_in ds
      whole = t.doubts ∙ ap (λ (ls : List Listing). ls ++ doubts_in ds) begun.sure

      go : (e.seat.view.doubts ≡ e.mid_view.doubts) ⊎ (e.seat.view.doubts ≡ []) → (e.seat.view.doubts ≡ doubts_in ds) ⊎ (e.seat.view.doubts ≡ [])
      go (inl same) = inl (same ∙ whole)
      go (inr none) = inr none

  differ : Differ (numbers ds)
  differ = subst Differ (sym (numbers_somes ds)) begun.differ

  -- a table that one of them saw full is full
  pub still_full : (d : Desk (Writing H) (Pass X Y)) (w : ℕ) → slice_get ds w ≡ Some (Some d) → length (view d.pass).history ≡ 65535 → IfSome g.pass (λ s. length s.view.history ≡ 65535)
  still_full d w at full = subst (λ (o : Option Seated). IfSome o (λ s. length s.view.history ≡ 65535)) (sym pass_is)
      (let long = front_long (view d.pass).history e.mid_view.history (its ds w at t.each) in let more = front_long e.mid_view.history e.seat.view.history e.seen in let few = e.few in omega (arith, long, more, few, full))
    where
      front_long : (xs ys : List Listing) → IsPrefix xs ys → length xs ≤ length ys
      front_long xs ys q = Rattle.fd_shares.proofs.Storing.front_length xs ys q

      its : (es : List (Option (Desk (Writing H) (Pass X Y)))) (i : ℕ) → slice_get es i ≡ Some (Some d) → AllSeen es e.mid_view.history → IsPrefix (view d.pass).history e.mid_view.history
      its [] i at all = absurd (cc at)
      its (None ∷ es) zero at all = absurd (cc at)
      its (Some c ∷ es) zero at all = let same : c ≡ d = cc at in subst (λ (k : Desk (Writing H) (Pass X Y)). IsPrefix (view k.pass).history e.mid_view.history) same all.0
      its (None ∷ es) (suc i) at all = its es i at all
      its (Some c ∷ es) (suc i) at all = its es i at all.1

  module _ (stages : ℕ → Stage) (mine : ℕ → List Pair) (works : ColumnWorks kept stages mine b h.name 0 ds) where
    tells : AllTell kept ds (is_some (has h.folder))
    tells = go 0 ds begun.each works
      where
        go : (w : ℕ) (es : List (Option (Desk (Writing H) (Pass X Y)))) → All (IsLent has h) (somes es) → ColumnWorks kept stages mine b h.name w es → AllTell kept es (is_some (has h.folder))
        go w [] all ws = tt
        go w (None ∷ es) all ws = go (suc w) es all ws.1
        go w (Some d ∷ es) all ws =
            let one : IsLent has h d = All-head (IsLent has h) d (somes es) all in
            ((ws.0.works.tells, one.told), go (suc w) es (All-tail (IsLent has h) d (somes es) all) ws.1)

    files : FilesTook kept ds (has h.folder) (has e.mid.folder)
    files = took_files kept has faults ds h e.mid (view p) e.mid_view e.handed tells differ

    -- all is back
    module _ (workers : ℕ) (long : length ds ≡ workers) (all : List Stored) (deal : List ℕ → ℕ) (front : (w : ℕ) → w < length ds → IsPrefix (mine w) (dealt_to deal w (pairs_for all h.name))) (within : (w : ℕ) (x : Pair) → w < length ds → Contains (mine w) x → Contains (pairs_for all h.name) x) where
      only : All (IsOnlyOf (pairs_for all h.name)) e.seat.view.doubts
      only = go doubts_are
        where
          go : (e.seat.view.doubts ≡ doubts_in ds) ⊎ (e.seat.view.doubts ≡ []) → All (IsOnlyOf (pairs_for all h.name)) e.seat.view.doubts
          go (inl is) = subst (All (IsOnlyOf (pairs_for all h.name))) (sym is) (all_only kept stages mine b h.name (pairs_for all h.name) 0 ds (λ v x ge lt c. within v x (omega (arith, lt)) c) works)
          go (inr none) = subst (All (IsOnlyOf (pairs_for all h.name))) (sym none) (All-nil (IsOnlyOf (pairs_for all h.name)))

      there : All (IsThere (has e.mid.folder)) e.seat.view.doubts
      there = go doubts_are
        where
          told : (o n : Option Contents) → FilesTook kept ds o n → AllTell kept ds (is_some o) → All (IsThere n) (doubts_in ds)
          told None None k tell = λ i d lt. tt
          told None (Some x) k tell = absurd k
          told (Some u) None k tell = absurd k
          told (Some u) (Some x) k tell = all_held kept stages mine b h.name x.files 0 ds tell k.1 works

          go : (e.seat.view.doubts ≡ doubts_in ds) ⊎ (e.seat.view.doubts ≡ []) → All (IsThere (has e.mid.folder)) e.seat.view.doubts
          go (inl is) = subst (All (IsThere (has e.mid.folder))) (sym is) (told (has h.folder) (has e.mid.folder) files tells)
          go (inr none) = subst (All (IsThere (has e.mid.folder))) (sym none) (All-nil (IsThere (has e.mid.folder)))

      few : e.seat.view.doubts ≢ [] → e.seat.view.amount + 1 ≤ workers + length (pairs_for all h.name) / 512
      few some = go doubts_are
        where
          go : (e.seat.view.doubts ≡ doubts_in ds) ⊎ (e.seat.view.doubts ≡ []) → e.seat.view.amount + 1 ≤ workers + length (pairs_for all h.name) / 512
          go (inl is) =
              let le = few_in_doubt kept stages mine b h.name deal (pairs_for all h.name) ds works front (λ none. some (is ∙ none)) in
              let m : e.seat.view.amount ≡ (view p).amount + amounts ds = ap (λ (v : View). v.amount) e.view_is ∙ t.amount in
              let n = begun.none in
              omega (arith, le, m, n, long)
          go (inr none) = absurd (some none)

      pub is_back : IsBack has workers all g
      is_back = record {
        pass = e.seat;
        pass_is = pass_is;
        none_out = lent_is;
        seen = e.count;
        doubts = subst (λ (n : List ℕ). All (IsOnlyOf (pairs_for all n)) e.seat.view.doubts) (sym name_is) only;
        files = subst (λ (f : D). All (IsThere (has f)) e.seat.view.doubts) (sym folder_is) there;
        few = subst (λ (n : List ℕ). e.seat.view.doubts ≢ [] → e.seat.view.amount + 1 ≤ workers + length (pairs_for all n) / 512) (sym name_is) few;
      }

    pub is_sure : ((w : ℕ) → stages w ≡ Flushed) → IsSure has g
    is_sure flushed = subst (λ (o : Option Seated). IfSome o (λ s. s.view.doubts ≡ [])) (sym pass_is) (go doubts_are)
      where
        go : (e.seat.view.doubts ≡ doubts_in ds) ⊎ (e.seat.view.doubts ≡ []) → e.seat.view.doubts ≡ []
        go (inl is) = is ∙ all_sure kept stages mine b h.name 0 ds flushed works
        go (inr none) = none

    module _ (deal : List ℕ → ℕ) (pairs : List Pair) (below : (key : List ℕ) → deal key < length ds) (front : (w : ℕ) → w < length ds → IsPrefix (mine w) (dealt_to deal w pairs)) (before : List (List Pair)) (base : held_by_pass (has h.folder) (Some (seat_of p)) ≡ Some before) where
      held_is : held_in has g ≡ held_by_pass (has e.mid.folder) (Some e.seat)
      held_is = ap₂ (λ (f : D) (s : Option Seated). held_by_pass (has f) s) folder_is pass_is

      -- by what the folder had and has
      folders : (Q : Option (List (List Pair)) → Type 0) → ((u x : Contents) → StayBut (numbers ds) u.files x.files × AllHold kept ds x.files → batches_listed u.files (Ok (entries_of (view p).history)) ≡ Some before → Q (batches_listed x.files (Ok (entries_of e.seat.view.history)))) → Q (held_in has g)
      folders Q f = subst Q (sym held_is) (go (has h.folder) (has e.mid.folder) files base)
        where
          go : (o n : Option Contents) → FilesTook kept ds o n → held_by_pass o (Some (seat_of p)) ≡ Some before → Q (held_by_pass n (Some e.seat))
          go None n k is = absurd (cc is)
          go (Some u) None k is = absurd k
          go (Some u) (Some x) k is = f u x k is

      module _ (u x : Contents) (k : StayBut (numbers ds) u.files x.files × AllHold kept ds x.files) (was : batches_listed u.files (Ok (entries_of (view p).history)) ≡ Some before) where
        home : Rattle.fd_bulk.specs.Columns.AreHome kept h.opening e.seat.view.history x.files ds
        home = all_home kept ds h.opening e.seat.view.history x.files (seen_on ds e.mid_view.history e.seat.view.history e.seen t.each) (all_opened has h ds begun.each) k.1

        first : batches_listed x.files (Ok (entries_of (take h.opening e.seat.view.history))) ≡ Some before
        first =
            ap (λ (ls : List Listing). batches_listed x.files (Ok (entries_of ls))) (take_front h.opening (view p).history e.seat.view.history begun.seen seen)
            ∙ first_stays u.files x.files (h.last + 1 - h.given) (view p).history (λ m lt. k.0 m (λ i. let late = all_late has h ds m.writer begun.each i in absurd (omega (arith, late, lt))))
            (All-weaker (λ (l : Listing). l.entry.writer + h.given ≤ h.last) (λ (l : Listing). l.entry.writer < h.last + 1 - h.given) (λ l le. omega (arith, le)) (view p).history begun.earlier)
            ∙ was

        adds_by : Adds (length ds) pairs before (batches_listed x.files (Ok (entries_of e.seat.view.history)))
        adds_by = column_adds kept stages mine b h.name deal h.opening e.seat.view.history pairs x.files before ds works home differ count below front first

        adds_all_by : ((w : ℕ) → stages w ≡ Flushed) → ((w : ℕ) → w < length ds → mine w ≡ dealt_to deal w pairs) → AddsAll (length ds) pairs before (batches_listed x.files (Ok (entries_of e.seat.view.history)))
        adds_all_by flushed whole = column_adds_all kept stages mine b h.name deal h.opening e.seat.view.history pairs x.files before ds works home differ count below front first flushed whole

      pub grown : Adds (length ds) pairs before (held_in has g)
      grown = folders (Adds (length ds) pairs before) adds_by

      pub grown_all : ((w : ℕ) → stages w ≡ Flushed) → ((w : ℕ) → w < length ds → mine w ≡ dealt_to deal w pairs) → AddsAll (length ds) pairs before (held_in has g)
      grown_all flushed whole = folders (AddsAll (length ds) pairs before) (λ u x k was. adds_all_by u x k was flushed whole)

-- ---- a dataset to which nothing came

pub none_added : (workers : ℕ) (pairs : List Pair) (before : List (List Pair)) (after : Option (List (List Pair))) → after ≡ Some before → Adds workers pairs before after
none_added workers pairs before after is = record { added = []; after_is = is ∙ ap Some (sym (append-nil before)); only = All-nil _; few = omega arith; none = λ e. refl }

pub none_added_all : (workers : ℕ) (pairs : List Pair) (before : List (List Pair)) (after : Option (List (List Pair))) → after ≡ Some before → pairs ≡ [] → AddsAll workers pairs before after
none_added_all workers pairs before after is none = record {
  adds = none_added workers pairs before after is;
  newest_is = λ t at key.
      let same : t ≡ before = (let e : Some t ≡ Some before = sym at ∙ is in cc e) in
      ap (λ (bs : List (List Pair)). newest bs key) same ∙ sym (ap (λ (ps : List Pair). or_older (of_batch ps key) (newest before key)) none);
}
