-- An input that is archived, from the first dataset to the giving back of all.
use Rattle.std.proofs.Common.{◌≡◌, ◌≤◌, ℕ, Bool, true, false, List, [], ◌∷◌, ◌++◌, length, slice_get, Option, Some, None, Result, Ok, Err, refl, sym, ap, subst, ◌∙◌, append-nil, arith, if◌then◌else◌}
use Rattle.std.specs.Prelude.{All, Contains, IfSome, string_bytes}
use Rattle.std.proofs.lemmas.List.{length-map}
use Rattle.std.proofs.lemmas.List.Elements.{Contains-append_left, Contains-append_right}
use Rattle.fd_disk.specs.declared.folders.FileName.{FileName}
use Rattle.fd_disk.specs.Folders.{Contents, Holdings, WhereTold, folder_at}
use Rattle.fd_entries.specs.declared.batch.Pair as batches
use Rattle.fd_key.specs.Pairs.{Pair}
use Rattle.fd_schema.specs.Rules.{Rule}
use Rattle.fd_turn.specs.declared.board.Pass.{Pass}
use Rattle.fd_turn.specs.Passes.{BoardId}
use Rattle.fd_archiver.specs.declared.fault.FlushFault.{FlushFault}
use Rattle.fd_archiver.specs.Writing.{Writing}
use Rattle.fd_library.specs.Open.{AreDistinct, AreSeated, OpenDataset, OpenDatasets, among, names_of}
use Rattle.fd_library.specs.Stores.{held_with}
use Rattle.fd_stored.specs.Causes.{Cause}
use Rattle.fd_stored.specs.Archiving.{Stored, Taken, datasets_in, taken, pairs_for}
use Rattle.fd_bulk.specs.declared.bulk.Bulk.{Bulk}
use Rattle.fd_bulk.specs.declared.bulk.BulkFault.{BulkFault}
use Rattle.fd_bulk.specs.declared.bulk.BulkFault.TheVariants as faults
use Rattle.fd_bulk.specs.declared.reading.Counts.{Counts}
use Rattle.fd_shares.specs.declared.round.Job.{Job}
use Rattle.fd_shares.specs.declared.round.Parcel.{Parcel}
use Rattle.fd_bulk.specs.Archived.{Archived, Grows, GrowsAll, IsBack, IsCause, IsFront, IsNumbered, IsRead, IsSure, OnDisk, OnInput, StoppedArchived, WholeArchived, IsWholeTaken}
use Rattle.fd_bulk.specs.Crewing.{AllBegun, CanEnd, Crewed, Deals, Finished, HasBegun, HasFull, HoldsRest, SeeFull, Stopping, desks_at}
use Rattle.fd_bulk.specs.Halting.{HaveMetNone, OnStore}
use Rattle.fd_bulk.specs.Inputs.{BeginsIn, ComesTo, EndsAfter, InputEnds, is_calm, is_unread}
use Rattle.fd_shares.specs.Sharing.{AllFit, AllWork, AreParcels, its_pairs}
use Rattle.fd_shares.specs.Working.{Filling}
use Rattle.fd_bulk.proofs.Keeping.{keeps_same}
use Rattle.fd_bulk.proofs.Matching.{matched_long}
use Rattle.fd_bulk.proofs.Texts.{one_text}
use Rattle.std.specs.Str.{bytes_eq}
use Rattle.fd_bulk.proofs.Settling.{ends_front, finished_stops}

-- a dataset that has a pair is one of a message
dataset_of : (ss : List Stored) (name : List ℕ) → (pairs_for ss name ≡ [] → ⊥) → Contains (datasets_in ss) name
dataset_of [] name some = absurd (some refl)
dataset_of (s ∷ ss) name some = go (bytes_eq s.dataset name) refl (λ more. dataset_of ss name more) some
  where
    go : (b : Bool) → bytes_eq s.dataset name ≡ b → ((pairs_for ss name ≡ [] → ⊥) → Contains (datasets_in ss) name) → ((if b then s.pair ∷ pairs_for ss name else pairs_for ss name) ≡ [] → ⊥) → Contains (datasets_in (s ∷ ss)) name
    go true is rest more = (0, omega arith, one_text s.dataset name is)
    go false is rest more = Contains-append_right (s.dataset ∷ []) (datasets_in ss) name (rest more)

same_told : (P : Holdings → Holdings → Type 0) → ((s : Holdings) → P s s) → (start : Option Holdings) → WhereTold start start P
same_told P p None = tt
same_told P p (Some s) = p s

-- ---- no dataset is open yet

module _ {D H X Y F : Type 0} (has : D → Option Contents) (kept : H → Option (FileName → Option (List ℕ))) where
  pub deals_none : (start : Option Holdings) (workers : ℕ) (l : OpenDatasets D) (ps : List (Pass X Y)) (js : List (Job (Writing H) (Pass X Y) (FlushFault F))) (parcels : List Parcel) → 1 ≤ workers → workers ≤ 8 → length js ≡ workers → HaveMetNone js → ps ≡ [] → parcels ≡ [] → l.each ≡ [] → l.boards ≡ []
      → Deals has kept start start [] [] [] l ps js parcels
  deals_none start workers l ps js parcels some few count met no_ps no_parcels no_each no_boards = record {
    crewed = record {
      some = omega (arith, some, count);
      few = omega (arith, few, count);
      opened = record {
        few = let e = ap length no_each in omega (arith, e);
        distinct = subst (λ (hs : List (OpenDataset D)). AreDistinct (names_of hs)) (sym no_each) tt;
        seated = subst (λ (bs : List BoardId). AreSeated bs l.each) (sym no_boards) (subst (λ (hs : List (OpenDataset D)). AreSeated [] hs) (sym no_each) tt);
      };
      each = subst (λ (qs : List (Pass X Y)). AllBegun has start 0 js l.boards l.each qs) (sym no_ps) (subst (λ (bs : List BoardId). AllBegun has start 0 js bs l.each []) (sym no_boards) (subst (λ (hs : List (OpenDataset D)). AllBegun has start 0 js [] hs []) (sym no_each) tt));
      works = λ w j at. record {
        running = (met w j at).1;
        works = subst (AllWork {X = X} {Y = Y} kept (λ n. Filling) (its_pairs (length js) (names_of l.each) w []) 0 l.boards (names_of l.each)) (sym (met w j at).0)
            (subst (λ (bs : List BoardId). AllWork {X = X} {Y = Y} kept (λ n. Filling) (its_pairs (length js) (names_of l.each) w []) 0 bs (names_of l.each) []) (sym no_boards)
            (subst (λ (hs : List (OpenDataset D)). AllWork {X = X} {Y = Y} kept (λ n. Filling) (its_pairs (length js) (names_of l.each) w []) 0 [] (names_of hs) []) (sym no_each) tt));
        only = λ n out. refl;
      };
      rest = same_told (HoldsRest (names_of l.each)) (λ s. record { schema = refl; rest = λ n out. refl; keeps = λ n out. keeps_same n (folder_at s n) }) start;
    };
    waits = record {
      parcels_are = subst (AreParcels (length js) (names_of l.each) []) (sym no_parcels) tt;
      fit = subst (AllFit (names_of l.each)) (sym no_parcels) tt;
      met = λ i x at. absurd (let e : slice_get [] i ≡ Some x = subst (λ (xs : List Parcel). slice_get xs i ≡ Some x) no_parcels at in cc e);
    };
    met = record {
      among_is = λ n. ap (λ (hs : List (OpenDataset D)). among n (names_of hs)) (sym no_each);
      count = ap (λ (hs : List (OpenDataset D)). length (names_of hs)) (sym no_each);
    };
    untouched = same_told (λ s t. (n : List ℕ) → among n (names_of l.each) ≡ false → t.folders n ≡ s.folders n) (λ s n out. refl) start;
  }

-- memory ran out before anything was read
pub starved_first : {D : Type 0} (X : Type 0) (has : D → Option Contents) (workers : ℕ) (rules : List Rule) (given : List Pair) (left after : Option (List ℕ)) (start : Option Holdings) (each : List (OpenDataset D)) → each ≡ [] → StoppedArchived has workers rules given left after start start each {X = X} faults.NoMemory
starved_first {D = D} X has workers rules given left after start each none = record {
  all = [];
  grows = same_told (Grows has workers [] each) (λ s. record {
    schema = refl;
    each_is = λ name b is. record {
      added = [];
      after_is = ap (λ (hs : List (OpenDataset D)). held_with has hs s name) none ∙ is ∙ ap (λ (x : List (List batches.Pair)). Some x) (sym (append-nil b));
      only = λ i d lt. absurd (omega (arith, lt));
      few = omega arith;
      none = λ e. refl;
    };
    openings = λ i d lt. absurd (let e = ap length none in omega (arith, lt, e));
    sound = λ name there. absurd (let out : among name (names_of each) ≡ false = ap (λ (hs : List (OpenDataset D)). among name (names_of hs)) none in cc (there, out));
    keeps = λ name out. keeps_same name (folder_at s name);
  }) start;
  back = subst (All (IsBack has workers [])) (sym none) (λ i d lt. absurd (omega (arith, lt)));
  front = go left;
  stop = tt;
}
  where
    go : (o : Option (List ℕ)) → IfSome o (λ octets. Rattle.fd_bulk.specs.Archived.IsFront [] (taken rules given octets))
    go None = tt
    go (Some octets) = ((taken rules given octets).stored, refl)

-- ---- what a refusal says of the counts of faults

module _ {Z : Type 0} (P : Type 0) where
  pub read_of : (fault : BulkFault Z) → (is_calm fault ≡ true → P) → IsRead (Err fault) P
  read_of (faults.Input f) p = tt
  read_of (faults.Message at) p = p refl
  read_of (faults.NoMap number field) p = p refl
  read_of (faults.Cut t) p = p refl
  read_of (faults.Key number why) p = p refl
  read_of (faults.NoRule number text) p = p refl
  read_of faults.Disk p = tt
  read_of (faults.NotATable dataset at want found) p = p refl
  read_of (faults.Damaged dataset damage) p = p refl
  read_of (faults.TableFull count) p = tt
  read_of (faults.TooMany count) p = p refl
  read_of faults.InputLimit p = p refl
  read_of faults.NoMemory p = tt

  pub input_of : (fault : BulkFault Z) → (is_unread fault ≡ true → P) → OnInput (Err fault) P
  input_of (faults.Input f) p = p refl
  input_of (faults.Message at) p = tt
  input_of (faults.NoMap number field) p = tt
  input_of (faults.Cut t) p = tt
  input_of (faults.Key number why) p = tt
  input_of (faults.NoRule number text) p = tt
  input_of faults.Disk p = tt
  input_of (faults.NotATable dataset at want found) p = tt
  input_of (faults.Damaged dataset damage) p = tt
  input_of (faults.TableFull count) p = tt
  input_of (faults.TooMany count) p = tt
  input_of faults.InputLimit p = tt
  input_of faults.NoMemory p = tt

  pub disk_of : (fault : BulkFault Z) → OnStore fault P → OnDisk (Err fault) P
  disk_of (faults.Input f) p = tt
  disk_of (faults.Message at) p = tt
  disk_of (faults.NoMap number field) p = tt
  disk_of (faults.Cut t) p = tt
  disk_of (faults.Key number why) p = tt
  disk_of (faults.NoRule number text) p = tt
  disk_of faults.Disk p = p
  disk_of (faults.NotATable dataset at want found) p = tt
  disk_of (faults.Damaged dataset damage) p = tt
  disk_of (faults.TableFull count) p = tt
  disk_of (faults.TooMany count) p = tt
  disk_of faults.InputLimit p = tt
  disk_of faults.NoMemory p = tt

-- ---- all is given back

module _ {D H X Y F : Type 0} (has : D → Option Contents) (kept : H → Option (FileName → Option (List ℕ))) (rules : List Rule) (given : List Pair) (left after : Option (List ℕ)) (start now : Option Holdings) (l : OpenDatasets D) (ps : List (Pass X Y)) (js : List (Job (Writing H) (Pass X Y) (FlushFault F))) where
  abbrev Ends : {Z : Type 0} → Result Counts (BulkFault Z) → Type 0
  Ends r = InputEnds has kept rules given left after start now l ps js (Finished kept) r

  module _ {Z : Type 0} where
    -- how the workers stand at last
    stops : (r : Result Counts (BulkFault Z)) (m : Ends r) → Crewed has (Stopping kept (length js) m.all) start now m.lost l ps js
    stops (Ok counts) m = finished_stops has kept start now m.lost l ps js m.all m.ends.0
    stops (Err (faults.Input f)) m = finished_stops has kept start now m.lost l ps js m.all m.ends
    stops (Err (faults.Message at)) m = finished_stops has kept start now m.lost l ps js m.all m.ends.0
    stops (Err (faults.NoMap number field)) m = finished_stops has kept start now m.lost l ps js m.all m.ends.0
    stops (Err (faults.Cut t)) m = finished_stops has kept start now m.lost l ps js m.all m.ends.0
    stops (Err (faults.Key number why)) m = finished_stops has kept start now m.lost l ps js m.all m.ends.0
    stops (Err (faults.NoRule number text)) m = finished_stops has kept start now m.lost l ps js m.all m.ends.0
    stops (Err faults.Disk) m = m.ends
    stops (Err (faults.NotATable dataset at want found)) m = m.ends.0
    stops (Err (faults.Damaged dataset damage)) m = m.ends.0
    stops (Err (faults.TableFull count)) m = m.ends.0
    stops (Err (faults.TooMany count)) m = finished_stops has kept start now m.lost l ps js m.all m.ends.0
    stops (Err faults.InputLimit) m = finished_stops has kept start now m.lost l ps js m.all m.ends.0
    stops (Err faults.NoMemory) m = m.ends

    pub can_end : (r : Result Counts (BulkFault Z)) → Ends r → CanEnd has kept l ps js
    can_end r m = record { start = start; now = now; lost = m.lost; all = m.all; crewed = stops r m }

    pub few_open : (r : Result Counts (BulkFault Z)) → Ends r → length l.boards ≤ 2048
    few_open r m =
        let c = stops r m in
        let o = c.opened in
        let long = matched_long (λ k b h q. HasBegun has start m.lost b h q (desks_at k js)) 0 l.boards l.each ps c.each in
        let few = o.few in
        omega (arith, long.0, few)

  -- ---- what stands in the datasets

  module _ (workers : ℕ) (count : length js ≡ workers) (each : List (OpenDataset D))
      (grows : (start now : Option Holdings) (lost : ℕ) (all : List Stored) → Crewed has (Stopping kept (length js) all) start now lost l ps js → WhereTold start now (Grows has (length js) all each) × All (IsBack has (length js) all) each)
      (all_grows : (start now : Option Holdings) (lost : ℕ) (all : List Stored) → Crewed has (Finished kept (length js) all) start now lost l ps js → WhereTold start now (GrowsAll has (length js) all each) × All (λ h. IsBack has (length js) all h × IsSure has h) each)
      (full : (start now : Option Holdings) (lost : ℕ) (all : List Stored) → Crewed has (Stopping kept (length js) all) start now lost l ps js → SeeFull js → HasFull all each) where
    grown : (lost : ℕ) (all : List Stored) → Crewed has (Stopping kept (length js) all) start now lost l ps js → WhereTold start now (Grows has workers all each)
    grown lost all c = subst (λ (n : ℕ). WhereTold start now (Grows has n all each)) count (grows start now lost all c).0

    all_grown : (lost : ℕ) (all : List Stored) → Crewed has (Finished kept (length js) all) start now lost l ps js → WhereTold start now (GrowsAll has workers all each)
    all_grown lost all c = subst (λ (n : ℕ). WhereTold start now (GrowsAll has n all each)) count (all_grows start now lost all c).0

    back : (lost : ℕ) (all : List Stored) → Crewed has (Stopping kept (length js) all) start now lost l ps js → All (IsBack has workers all) each
    back lost all c = subst (λ (n : ℕ). All (IsBack has n all) each) count (grows start now lost all c).1

    all_back : (lost : ℕ) (all : List Stored) → Crewed has (Finished kept (length js) all) start now lost l ps js → All (λ h. IsBack has workers all h × IsSure has h) each
    all_back lost all c = subst (λ (n : ℕ). All (λ h. IsBack has n all h × IsSure has h) each) count (all_grows start now lost all c).1

    pub whole : {Z : Type 0} (counts : Counts) (bulk : Bulk) (m : Ends {Z = Z} (Ok counts)) → bulk.fields ≡ counts.fields → bulk.junk ≡ counts.junk → bulk.datasets ≡ length l.boards → WholeArchived has workers rules given left after start now each bulk
    whole counts bulk m fields junk datasets = record {
      all = m.all;
      grows = all_grown m.lost m.all m.ends.0;
      back = all_back m.lost m.all m.ends.0;
      fields = fields ∙ m.comes.0;
      datasets =
          let c = m.ends.0 in
          let long = matched_long (λ k b h q. HasBegun has start m.lost b h q (desks_at k js)) 0 l.boards l.each ps c.each in
          datasets ∙ long.0 ∙ sym (length-map l.each (λ (h : OpenDataset D). h.name)) ∙ sym m.ends.1.count;
      taken_is = subst (λ (k : ℕ). IfSome left (λ octets. IsWholeTaken m.all k (taken rules given octets))) (sym junk) m.comes.1;
    }

    -- a dataset that has a pair is one of a message
    met_among : (all : List Stored) (name : List ℕ) → (pairs_for all name ≡ [] → ⊥) → IfSome left (λ octets. IsFront all (taken rules given octets)) → IfSome left (λ octets. Contains (datasets_in (taken rules given octets).stored) name)
    met_among all name some front = go left front
      where
        go : (o : Option (List ℕ)) → IfSome o (λ octets. IsFront all (taken rules given octets)) → IfSome o (λ octets. Contains (datasets_in (taken rules given octets).stored) name)
        go None f = tt
        go (Some octets) f =
            let names : datasets_in (taken rules given octets).stored ≡ datasets_in all ++ datasets_in f.0 = ap datasets_in f.1 ∙ Rattle.fd_bulk.proofs.Takings.datasets_both all f.0 in
            subst (λ (ns : List (List ℕ)). Contains ns name) (sym names) (Contains-append_left (datasets_in all) (datasets_in f.0) name (dataset_of all name some))

    module _ {Z : Type 0} where
      -- the next message is refused, or the input
      refused_at : (all : List Stored) (fault : BulkFault Z) → ((t : Taken) → Rattle.fd_bulk.specs.Inputs.EndsTaken fault t → (t.stored ≡ []) × ((c : Cause) × (t.refusal ≡ Some c) × IsCause fault c × IsNumbered fault t.next)) → IfSome left (λ octets. EndsAfter fault all (taken rules given octets))
          → IfSome left (λ octets. ((taken rules given octets).stored ≡ all) × ((c : Cause) × ((taken rules given octets).refusal ≡ Some c) × IsCause fault c))
      refused_at all fault says x = go left x
        where
          go : (o : Option (List ℕ)) → IfSome o (λ octets. EndsAfter fault all (taken rules given octets)) → IfSome o (λ octets. ((taken rules given octets).stored ≡ all) × ((c : Cause) × ((taken rules given octets).refusal ≡ Some c) × IsCause fault c))
          go None x = tt
          go (Some octets) x =
              let e = says x.rest x.ends in (
                ap (λ (t : Taken). t.stored) x.is ∙ ap (λ (zs : List Stored). all ++ zs) e.0 ∙ append-nil all,
                (e.1.0, ap (λ (t : Taken). t.refusal) x.is ∙ e.1.1, e.1.2),
              )

      -- and its number
      numbered_at : (all : List Stored) (fault : BulkFault Z) → ((t : Taken) → Rattle.fd_bulk.specs.Inputs.EndsTaken fault t → (t.stored ≡ []) × ((c : Cause) × (t.refusal ≡ Some c) × IsCause fault c × IsNumbered fault t.next)) → IfSome left (λ octets. EndsAfter fault all (taken rules given octets))
          → IfSome left (λ octets. IsNumbered fault (taken rules given octets).next)
      numbered_at all fault says x = go left x
        where
          go : (o : Option (List ℕ)) → IfSome o (λ octets. EndsAfter fault all (taken rules given octets)) → IfSome o (λ octets. IsNumbered fault (taken rules given octets).next)
          go None x = tt
          go (Some octets) x = let e = says x.rest x.ends in subst (λ (t : Taken). IsNumbered fault t.next) (sym x.is) e.1.3

      -- the dataset is one of a message
      met_in : (all : List Stored) (fault : BulkFault Z) (name : List ℕ) → ((t : Taken) → Rattle.fd_bulk.specs.Inputs.EndsTaken fault t → BeginsIn name t) → IfSome left (λ octets. EndsAfter fault all (taken rules given octets)) → IfSome left (λ octets. Contains (datasets_in (taken rules given octets).stored) name)
      met_in all fault name says x = go left x
        where
          go : (o : Option (List ℕ)) → IfSome o (λ octets. EndsAfter fault all (taken rules given octets)) → IfSome o (λ octets. Contains (datasets_in (taken rules given octets).stored) name)
          go None x = tt
          go (Some octets) x =
              let b = says x.rest x.ends in
              let names : datasets_in (taken rules given octets).stored ≡ datasets_in all ++ datasets_in (b.0 ∷ b.1.0) =
              ap (λ (t : Taken). datasets_in t.stored) x.is ∙ ap (λ (zs : List Stored). datasets_in (all ++ zs)) b.1.1 ∙ Rattle.fd_bulk.proofs.Takings.datasets_both all (b.0 ∷ b.1.0) in
              subst (λ (ns : List (List ℕ)). Contains ns name) (sym names) (Contains-append_right (datasets_in all) (datasets_in (b.0 ∷ b.1.0)) name (0, omega arith, b.1.2))

      pub told : (fault : BulkFault Z) → Ends (Err fault) → Archived has workers rules given left after start now each (Err fault)
      told (faults.Input f) m = record { all = m.all; grows = all_grown m.lost m.all m.ends; back = all_back m.lost m.all m.ends; read = m.comes }
      told (faults.Message at) m = record { all = m.all; grows = all_grown m.lost m.all m.ends.0; back = all_back m.lost m.all m.ends.0; messages = m.ends.1.0; numbered = m.ends.1.1; split = m.ends.1.2; next_is = numbered_at m.all (faults.Message at) (λ t e. e) m.comes; refused = refused_at m.all (faults.Message at) (λ t e. e) m.comes }
      told (faults.NoMap number field) m = record { all = m.all; grows = all_grown m.lost m.all m.ends.0; back = all_back m.lost m.all m.ends.0; messages = m.ends.1.0; numbered = m.ends.1.1; split = m.ends.1.2; next_is = numbered_at m.all (faults.NoMap number field) (λ t e. e) m.comes; refused = refused_at m.all (faults.NoMap number field) (λ t e. e) m.comes }
      told (faults.Cut c) m = record { all = m.all; grows = all_grown m.lost m.all m.ends.0; back = all_back m.lost m.all m.ends.0; messages = m.ends.1.0; numbered = m.ends.1.1; split = m.ends.1.2; next_is = numbered_at m.all (faults.Cut c) (λ t e. e) m.comes; refused = refused_at m.all (faults.Cut c) (λ t e. e) m.comes }
      told (faults.Key number why) m = record { all = m.all; grows = all_grown m.lost m.all m.ends.0; back = all_back m.lost m.all m.ends.0; messages = m.ends.1.0; numbered = m.ends.1.1; split = m.ends.1.2; next_is = numbered_at m.all (faults.Key number why) (λ t e. e) m.comes; refused = refused_at m.all (faults.Key number why) (λ t e. e) m.comes }
      told (faults.NoRule number text) m = record { all = m.all; grows = all_grown m.lost m.all m.ends.0; back = all_back m.lost m.all m.ends.0; messages = m.ends.1.0; numbered = m.ends.1.1; split = m.ends.1.2; next_is = numbered_at m.all (faults.NoRule number text) (λ t e. e) m.comes; refused = refused_at m.all (faults.NoRule number text) (λ t e. e) m.comes }
      told faults.Disk m = record { all = m.all; grows = grown m.lost m.all m.ends; back = back m.lost m.all m.ends; front = ends_front Z rules given left m.all faults.Disk m.comes; stop = tt }
      told (faults.NotATable dataset at want found) m = record {
        all = m.all;
        grows = grown m.lost m.all m.ends.0;
        back = back m.lost m.all m.ends.0;
        front = ends_front Z rules given left m.all (faults.NotATable dataset at want found) m.comes;
        stop = (m.ends.1, met_in m.all (faults.NotATable dataset at want found) (string_bytes dataset) (λ t e. e) m.comes);
      }
      told (faults.Damaged dataset damage) m = record {
        all = m.all;
        grows = grown m.lost m.all m.ends.0;
        back = back m.lost m.all m.ends.0;
        front = ends_front Z rules given left m.all (faults.Damaged dataset damage) m.comes;
        stop = (m.ends.1, met_in m.all (faults.Damaged dataset damage) (string_bytes dataset) (λ t e. e) m.comes);
      }
      told (faults.TableFull n) m =
          let front = ends_front Z rules given left m.all (faults.TableFull n) m.comes in
          let f = full start now m.lost m.all m.ends.0 m.ends.1.1 in
          record { all = m.all; grows = grown m.lost m.all m.ends.0; back = back m.lost m.all m.ends.0; front = front; stop = (m.ends.1.0, (f.0, f.1, f.2, met_among m.all f.0.name f.3 front)) }
      told (faults.TooMany n) m = record { all = m.all; grows = all_grown m.lost m.all m.ends.0; back = all_back m.lost m.all m.ends.0; messages = 0; numbered = tt; split = tt; next_is = numbered_at m.all (faults.TooMany n) (λ t e. e) m.comes; refused = refused_at m.all (faults.TooMany n) (λ t e. e) m.comes }
      told faults.InputLimit m = record { all = m.all; grows = all_grown m.lost m.all m.ends.0; back = all_back m.lost m.all m.ends.0; messages = 0; numbered = tt; split = tt; next_is = numbered_at m.all faults.InputLimit (λ t e. e) m.comes; refused = refused_at m.all faults.InputLimit (λ t e. e) m.comes }
      told faults.NoMemory m = record { all = m.all; grows = grown m.lost m.all m.ends; back = back m.lost m.all m.ends; front = ends_front Z rules given left m.all faults.NoMemory m.comes; stop = tt }
