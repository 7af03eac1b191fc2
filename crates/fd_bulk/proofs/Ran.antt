-- What the workers have after a round, and after all was listed.
use Rattle.std.proofs.Common.{◌≡◌, ◌==◌, ◌&&◌, ◌<◌, ◌≤◌, ◌+◌, ◌^◌, ℕ, zero, suc, Bool, true, false, if◌then◌else◌, List, [], ◌∷◌, ◌++◌, take, drop, length, get_or, slice_get, Option, Some, None, Result, Ok, Err, refl, sym, ap, ap₂, subst, ◌∙◌, arith, append_assoc, append-nil}
use mathlib.Core.List.{IsPrefix}
use Rattle.std.proofs.lemmas.List.{length-map}
use Rattle.fd_disk.specs.declared.folders.FileName.{FileName}
use Rattle.fd_disk.specs.Folders.{Contents, Holdings}
use Rattle.fd_entries.specs.declared.batch.Pair.{Pair}
use Rattle.fd_segment.specs.Filling.{stored}
use Rattle.fd_turn.specs.declared.board.Pass.{Pass}
use Rattle.fd_turn.specs.Passes.{BoardId}
use Rattle.fd_archiver.specs.declared.fault.FlushFault.{FlushFault}
use Rattle.fd_archiver.specs.declared.fault.FlushFault.TheVariants as flushes
use Rattle.fd_archiver.specs.Writing.{Writing}
use Rattle.fd_library.specs.Open.{AreDistinct, OpenDataset, OpenDatasets, among, names_of}
use Rattle.fd_stored.specs.Archiving.{Stored, pairs_for}
use Rattle.std.specs.Str.{bytes_eq}
use Rattle.fd_bulk.specs.declared.bulk.BulkFault.{BulkFault}
use Rattle.fd_shares.specs.declared.round.Halt.{Halt}
use Rattle.fd_shares.specs.declared.round.Job.{Job}
use Rattle.fd_shares.specs.declared.round.Parcel.{Parcel}
use Rattle.fd_bulk.specs.Crewing.{CanFinish, CanRun, Crewed, Finished, FinishedAs, OnFull, RanAs, Running, Stopping, Waits, octets_of}
use Rattle.fd_shares.specs.Dealing.{dealt_to}
use Rattle.fd_sheets.specs.Dealt.{dealt}
use Rattle.fd_bulk.specs.Halting.{Each, Halted, IsLowest, IsQuiet, IsTold}
use Rattle.fd_shares.specs.Sharing.{AllWork, AreParcels, CanListAll, CanShare, IsFullAt, Listed, ListedTo, SameMet, Shared, SharedTo, its_pairs, listed_below, name_at, pair_of, share, stopped_at, with_stage}
use Rattle.fd_shares.specs.Working.{Filling, Flushed, Stopped}
use Rattle.fd_bulk.proofs.Desks.{IsOn, all_begun_on}
use Rattle.fd_bulk.proofs.Joined.{each_back, each_there, work_long}
use Rattle.fd_shares.proofs.Rounds.{among_at, dealt_both, pairs_both, share_both, share_is}
use Rattle.fd_shares.proofs.Shares.{at_place, met_on, same_met}
use Rattle.fd_bulk.proofs.Stored.{round_stored}
use Rattle.fd_bulk.proofs.Texts.{one_text}
use Rattle.fd_bulk.proofs.Turns.{get_place}
use Rattle.fd_shares.proofs.Storing.{stored_both}

-- ---- there is room in number

stored_dealt : (deal : List ℕ → ℕ) (w : ℕ) (ps : List Pair) → stored (dealt_to deal w ps) ≤ stored ps
stored_dealt deal w [] = omega arith
stored_dealt deal w (p ∷ ps) = go (deal p.key == w) (stored_dealt deal w ps)
  where
    go : (b : Bool) → stored (dealt_to deal w ps) ≤ stored ps → stored (if b then p ∷ dealt_to deal w ps else dealt_to deal w ps) ≤ (length p.bytes + 32) + stored ps
    go true le = omega (arith, le)
    go false le = omega (arith, le)

stored_for : (all : List Stored) (name : List ℕ) → stored (pairs_for all name) ≤ octets_of all
stored_for [] name = omega arith
stored_for (s ∷ all) name = go (bytes_eq s.dataset name) (stored_for all name)
  where
    go : (b : Bool) → stored (pairs_for all name) ≤ octets_of all → stored (if b then s.pair ∷ pairs_for all name else pairs_for all name) ≤ (length s.pair.bytes + 32) + octets_of all
    go true le = omega (arith, le)
    go false le = omega (arith, le)

stored_share : (workers : ℕ) (names : List (List ℕ)) (w n : ℕ) (ss : List Stored) (ps : List Parcel) → AreParcels workers names ss ps → stored (share w n ps) ≤ octets_of ss
stored_share workers names w n [] [] are = omega arith
stored_share workers names w n [] (p ∷ ps) are = absurd are
stored_share workers names w n (s ∷ ss) [] are = absurd are
stored_share workers names w n (s ∷ ss) (p ∷ ps) are = go ((p.worker == w) && (p.dataset == n)) (stored_share workers names w n ss ps are.1) (ap (λ (q : Pair). length q.bytes) are.0.pair)
  where
    go : (b : Bool) → stored (share w n ps) ≤ octets_of ss → length (pair_of p).bytes ≡ length s.pair.bytes → stored (if b then pair_of p ∷ share w n ps else share w n ps) ≤ (length s.pair.bytes + 32) + octets_of ss
    go true le same = omega (arith, le, same)
    go false le same = omega (arith, le)

octets_both : (a b : List Stored) → octets_of (a ++ b) ≡ octets_of a + octets_of b
octets_both [] b = omega arith
octets_both (s ∷ a) b = let e = octets_both a b in omega (arith, e)

pub room_for : (workers : ℕ) (names : List (List ℕ)) (w n : ℕ) (all waiting : List Stored) (ps : List Parcel) → AreParcels workers names waiting ps → octets_of (all ++ waiting) < 2 ^ 63 → stored (its_pairs workers names w all n ++ share w n ps) < 2 ^ 63
room_for workers names w n all waiting ps are sum =
    let a = stored_both (its_pairs workers names w all n) (share w n ps) in
    let b = stored_dealt (dealt workers (name_at names n)) w (pairs_for all (name_at names n)) in
    let c = stored_for all (name_at names n) in
    let d = stored_share workers names w n waiting ps are in
    let e = octets_both all waiting in
    omega (arith, a, b, c, d, e, sum)

-- ---- fronts

all_front : {A : Type 0} (xs : List A) → IsPrefix xs xs
all_front xs = ([], append-nil xs)

take_drop : {A : Type 0} (n : ℕ) (xs : List A) → take n xs ++ drop n xs ≡ xs
take_drop zero [] = refl
take_drop zero (x ∷ xs) = refl
take_drop (suc n) [] = refl
take_drop (suc n) (x ∷ xs) = ap (λ ys. x ∷ ys) (take_drop n xs)

-- what is dealt to a worker of these messages and of others
its_both : (workers w : ℕ) (names : List (List ℕ)) (all waiting : List Stored) (ps : List Parcel) (n : ℕ) (m : List ℕ) → AreDistinct names → AreParcels workers names waiting ps → slice_get names n ≡ Some m
    → its_pairs workers names w all n ++ share w n ps ≡ its_pairs workers names w (all ++ waiting) n
its_both workers w names all waiting ps n m distinct are at =
    let name : name_at names n ≡ m = at_place names n m at [] in
    let its : slice_get names n ≡ Some (name_at names n) = at ∙ ap Some (sym name) in
    ap (λ (xs : List Pair). its_pairs workers names w all n ++ xs) (share_is workers names w n (name_at names n) waiting ps distinct its are)
    ∙ sym (dealt_both (dealt workers (name_at names n)) w (pairs_for all (name_at names n)) (pairs_for waiting (name_at names n)))
    ∙ sym (ap (dealt_to (dealt workers (name_at names n)) w) (pairs_both all waiting (name_at names n)))

share_front : (workers w : ℕ) (names : List (List ℕ)) (all waiting : List Stored) (ps : List Parcel) (at n : ℕ) (m : List ℕ) → AreDistinct names → AreParcels workers names waiting ps → slice_get names n ≡ Some m
    → IsPrefix (its_pairs workers names w all n ++ share w n (take at ps)) (its_pairs workers names w (all ++ waiting) n)
share_front workers w names all waiting ps at n m distinct are there = (
  share w n (drop at ps),
  append_assoc (its_pairs workers names w all n) (share w n (take at ps)) (share w n (drop at ps))
      ∙ ap (λ (xs : List Pair). its_pairs workers names w all n ++ xs) (sym (share_both w n (take at ps) (drop at ps)) ∙ ap (share w n) (take_drop at ps))
      ∙ its_both workers w names all waiting ps n m distinct are there,
)

-- no message is of another dataset
none_waits : (workers : ℕ) (names : List (List ℕ)) (ss : List Stored) (ps : List Parcel) (n : List ℕ) → AreParcels workers names ss ps → among n names ≡ false → pairs_for ss n ≡ []
none_waits workers names [] [] n are out = refl
none_waits workers names [] (p ∷ ps) n are out = absurd are
none_waits workers names (s ∷ ss) [] n are out = absurd are
none_waits workers names (s ∷ ss) (p ∷ ps) n are out = go (bytes_eq s.dataset n) refl (none_waits workers names ss ps n are.1 out)
  where
    go : (b : Bool) → bytes_eq s.dataset n ≡ b → pairs_for ss n ≡ [] → (if b then s.pair ∷ pairs_for ss n else pairs_for ss n) ≡ []
    go true is none = absurd (let same = one_text s.dataset n is in let there = among_at names p.dataset s.dataset are.0.named in cc (ap (λ (m : List ℕ). among m names) same, there, out))
    go false is none = none

only_both : (workers : ℕ) (names : List (List ℕ)) (all waiting : List Stored) (ps : List Parcel) → AreParcels workers names waiting ps → ((n : List ℕ) → among n names ≡ false → pairs_for all n ≡ []) → (n : List ℕ) → among n names ≡ false → pairs_for (all ++ waiting) n ≡ []
only_both workers names all waiting ps are only n out = pairs_both all waiting n ∙ ap₂ (λ (a b : List Pair). a ++ b) (only n out) (none_waits workers names waiting ps n are out)

module _ {D H X Y F : Type 0} (has : D → Option Contents) (kept : H → Option (FileName → Option (List ℕ))) where
  quiet_on : (j k : Job (Writing H) (Pass X Y) (FlushFault F)) → IsQuiet j k → IsOn j k
  quiet_on j k q = subst (SameMet j.desks.items) (sym q.desks) (same_met j.desks.items)

  -- ---- one worker

  module _ (workers w : ℕ) (boards : List BoardId) (names : List (List ℕ)) (distinct : AreDistinct names) (all waiting : List Stored) (ps : List Parcel) (are : AreParcels workers names waiting ps) (j k : Job (Writing H) (Pass X Y) (FlushFault F)) (r : Running kept workers all w boards names j) (s : Shared kept boards w ps j k) where
    goes : SharedTo kept boards w ps names (its_pairs workers names w all) k.desks.items k.halt
    goes = s.goes names (its_pairs workers names w all) r.works

    shared_runs : k.halt ≡ None → AllWork kept (λ n. Filling) (its_pairs workers names w (all ++ waiting)) 0 boards names k.desks.items
    shared_runs none = round_stored kept workers w names all waiting ps (λ n. Filling) boards k.desks.items distinct are (subst (SharedTo kept boards w ps names (its_pairs workers names w all) k.desks.items) none goes)

    shared_stops : (m : Job (Writing H) (Pass X Y) (FlushFault F)) → m.desks.items ≡ k.desks.items → Stopping kept workers (all ++ waiting) w boards names m
    shared_stops m same = go k.halt refl
      where
        go : (h : Option (Halt (FlushFault F))) → k.halt ≡ h → Stopping kept workers (all ++ waiting) w boards names m
        go None is = record {
          stages = λ n. Filling;
          pairs = its_pairs workers names w (all ++ waiting);
          works = subst (AllWork kept (λ n. Filling) (its_pairs workers names w (all ++ waiting)) 0 boards names) (sym same) (shared_runs is);
          front = λ n name at. all_front (its_pairs workers names w (all ++ waiting) n);
        }
        go (Some h) is =
            let g = subst (SharedTo kept boards w ps names (its_pairs workers names w all) k.desks.items) is goes in
            record {
              stages = stopped_at g.0.dataset;
              pairs = λ n. its_pairs workers names w all n ++ share w n (take h.at ps);
              works = subst (AllWork kept (stopped_at g.0.dataset) (λ n. its_pairs workers names w all n ++ share w n (take h.at ps)) 0 boards names) (sym same) g.3;
              front = λ n name at. share_front workers w names all waiting ps h.at n name distinct are at;
            }

    shared_full : (h : Halt (FlushFault F)) → k.halt ≡ Some h → (n : ℕ) × IsFullAt h.fault n k.desks.items
    shared_full h is = let g = subst (SharedTo kept boards w ps names (its_pairs workers names w all) k.desks.items) is goes in (g.0.dataset, g.4)

  module _ (workers w : ℕ) (boards : List BoardId) (names : List (List ℕ)) (all : List Stored) (j k : Job (Writing H) (Pass X Y) (FlushFault F)) (r : Running kept workers all w boards names j) (s : Listed kept boards j k) where
    lists : ListedTo kept boards names (its_pairs workers names w all) k.desks.items k.halt
    lists = s.goes names (its_pairs workers names w all) r.works

    listed_ends : k.halt ≡ None → AllWork kept (λ n. Flushed) (its_pairs workers names w all) 0 boards names k.desks.items
    listed_ends none = subst (ListedTo kept boards names (its_pairs workers names w all) k.desks.items) none lists

    listed_stops : (m : Job (Writing H) (Pass X Y) (FlushFault F)) → m.desks.items ≡ k.desks.items → Stopping kept workers all w boards names m
    listed_stops m same = go k.halt refl
      where
        go : (h : Option (Halt (FlushFault F))) → k.halt ≡ h → Stopping kept workers all w boards names m
        go None is = record {
          stages = λ n. Flushed;
          pairs = its_pairs workers names w all;
          works = subst (AllWork kept (λ n. Flushed) (its_pairs workers names w all) 0 boards names) (sym same) (listed_ends is);
          front = λ n name at. all_front (its_pairs workers names w all n);
        }
        go (Some h) is =
            let g = subst (ListedTo kept boards names (its_pairs workers names w all) k.desks.items) is lists in
            record {
              stages = with_stage (listed_below h.at) h.at Stopped;
              pairs = its_pairs workers names w all;
              works = subst (AllWork kept (with_stage (listed_below h.at) h.at Stopped) (its_pairs workers names w all) 0 boards names) (sym same) g.0;
              front = λ n name at. all_front (its_pairs workers names w all n);
            }

    listed_full : (h : Halt (FlushFault F)) → k.halt ≡ Some h → (n : ℕ) × IsFullAt h.fault n k.desks.items
    listed_full h is = let g = subst (ListedTo kept boards names (its_pairs workers names w all) k.desks.items) is lists in (h.at, g.1)

  -- ---- the refusal that is told

  on_full : {Z : Type 0} (fault : FlushFault F) (told : BulkFault Z) (n w : ℕ) (k : Job (Writing H) (Pass X Y) (FlushFault F)) (ms : List (Job (Writing H) (Pass X Y) (FlushFault F))) → IsTold fault told → slice_get ms w ≡ Some k → IsFullAt fault n k.desks.items → OnFull told ms
  on_full (flushes.Disk f) told n w k ms is at full = subst (λ (t : BulkFault _). OnFull t ms) (sym is) tt
  on_full (flushes.TableFull count) told n w k ms is at full = subst (λ (t : BulkFault _). OnFull t ms) (sym is) (full.0, (w, (k, at, (n, full.1))))
  on_full flushes.NoMemory told n w k ms is at full = subst (λ (t : BulkFault _). OnFull t ms) (sym is) tt

  full_of : {Z : Type 0} (told : BulkFault Z) (ks ms : List (Job (Writing H) (Pass X Y) (FlushFault F))) → Each (λ i. IsQuiet) ks ms → ((w : ℕ) (k : Job (Writing H) (Pass X Y) (FlushFault F)) (h : Halt (FlushFault F)) → slice_get ks w ≡ Some k → k.halt ≡ Some h → (n : ℕ) × IsFullAt h.fault n k.desks.items)
      → ((at : ℕ) × IsLowest (length ks) ks at told) → OnFull told ms
  full_of told ks ms q each low =
      let l = low.1 in
      let f = each l.worker l.job (record { at = low.0; fault = l.fault }) l.job_at l.halt in
      let m = each_there IsQuiet ks ms l.worker l.job q l.job_at in
      on_full l.fault told f.0 l.worker m.0 ms l.told_is m.1 (subst (IsFullAt l.fault f.0) (sym m.2.desks) f.1)

  -- ---- all workers

  module _ (start now : Option Holdings) (lost : ℕ) (l : OpenDatasets D) (passes : List (Pass X Y)) (js ks ms : List (Job (Writing H) (Pass X Y) (FlushFault F))) (all : List Stored) (c : Crewed has (Running kept (length js) all) start now lost l passes js) (quiet : Each (λ i. IsQuiet) ks ms) where
    -- the datasets stay, whatever the workers did
    crewed_on : (How : ℕ → List BoardId → List (List ℕ) → Job (Writing H) (Pass X Y) (FlushFault F) → Type 0) → Each (λ i. IsOn) js ks → ((w : ℕ) (k m : Job (Writing H) (Pass X Y) (FlushFault F)) → slice_get ks w ≡ Some k → IsQuiet k m → How w l.boards (names_of l.each) m) → Crewed has How start now lost l passes ms
    crewed_on How on works = record {
      some = (let a = on.long in let b = quiet.long in let s = c.some in omega (arith, a, b, s));
      few = (let a = on.long in let b = quiet.long in let s = c.few in omega (arith, a, b, s));
      opened = c.opened;
      each = all_begun_on has start lost ks ms l.boards l.each passes (record { long = quiet.long; at = λ i j k a b. quiet_on j k (quiet.at i j k a b) }) (all_begun_on has start lost js ks l.boards l.each passes on c.each);
      works = λ w m at. let k = each_back IsQuiet ks ms w m quiet at in works w k.0 m k.1 k.2;
      rest = c.rest;
    }

    long_now : Each (λ i. IsOn) js ks → length ms ≡ length js
    long_now on = quiet.long ∙ on.long

    module _ (waiting : List Stored) (parcels : List Parcel) (waits : Waits (names_of l.each) waiting js parcels) (shared : Each (λ i j k. Shared kept l.boards i parcels j k) js ks) where
      on : Each (λ i. IsOn) js ks
      on = record { long = shared.long; at = λ i j k a b. (shared.at i j k a b).met }

      before : (w : ℕ) (k : Job (Writing H) (Pass X Y) (FlushFault F)) → slice_get ks w ≡ Some k → (j : Job (Writing H) (Pass X Y) (FlushFault F)) × (slice_get js w ≡ Some j) × Shared kept l.boards w parcels j k
      before w k at = let j = each_back IsOn js ks w k on at in (j.0, j.1, shared.at w j.0 k j.1 at)

      pub ran : {Z : Type 0} (r : Result (Unit {0}) (BulkFault Z)) → Halted ks r → RanAs has kept start now lost (all ++ waiting) r l passes ms
      ran (Ok done) none = crewed_on (Running kept (length ms) (all ++ waiting)) on (λ w k m at q.
          let j = before w k at in
          subst (λ (n : ℕ). Running kept n (all ++ waiting) w l.boards (names_of l.each) m) (sym (long_now on)) (record {
            running = q.halt;
            works = subst (AllWork kept (λ n. Filling) (its_pairs (length js) (names_of l.each) w (all ++ waiting)) 0 l.boards (names_of l.each)) (sym q.desks)
                (shared_runs (length js) w l.boards (names_of l.each) c.opened.distinct all waiting parcels waits.parcels_are j.0 k (c.works w j.0 j.1) j.2 (none w k at));
            only = λ n out. only_both (length js) (names_of l.each) all waiting parcels waits.parcels_are (c.works w j.0 j.1).only n out;
          }))
      ran (Err told) low = (
        crewed_on (Stopping kept (length ms) (all ++ waiting)) on (λ w k m at q.
            let j = before w k at in
            subst (λ (n : ℕ). Stopping kept n (all ++ waiting) w l.boards (names_of l.each) m) (sym (long_now on))
            (shared_stops (length js) w l.boards (names_of l.each) c.opened.distinct all waiting parcels waits.parcels_are j.0 k (c.works w j.0 j.1) j.2 m q.desks)),
        full_of told ks ms quiet (λ w k h at is. let j = before w k at in shared_full (length js) w l.boards (names_of l.each) c.opened.distinct all waiting parcels waits.parcels_are j.0 k (c.works w j.0 j.1) j.2 h is) low,
      )

    module _ (listed : Each (λ i j k. Listed kept l.boards j k) js ks) where
      listed_on : Each (λ i. IsOn) js ks
      listed_on = record { long = listed.long; at = λ i j k a b. (listed.at i j k a b).met }

      listed_before : (w : ℕ) (k : Job (Writing H) (Pass X Y) (FlushFault F)) → slice_get ks w ≡ Some k → (j : Job (Writing H) (Pass X Y) (FlushFault F)) × (slice_get js w ≡ Some j) × Listed kept l.boards j k
      listed_before w k at = let j = each_back IsOn js ks w k listed_on at in (j.0, j.1, listed.at w j.0 k j.1 at)

      pub finished : {Z : Type 0} (r : Result (Unit {0}) (BulkFault Z)) → Halted ks r → FinishedAs has kept start now lost all r l passes ms
      finished (Ok done) none = crewed_on (Finished kept (length ms) all) listed_on (λ w k m at q.
          let j = listed_before w k at in
          subst (λ (n : ℕ). Finished kept n all w l.boards (names_of l.each) m) (sym (long_now listed_on)) (record {
            works = subst (AllWork kept (λ n. Flushed) (its_pairs (length js) (names_of l.each) w all) 0 l.boards (names_of l.each)) (sym q.desks) (listed_ends (length js) w l.boards (names_of l.each) all j.0 k (c.works w j.0 j.1) j.2 (none w k at));
            only = (c.works w j.0 j.1).only;
          }))
      finished (Err told) low = (
        crewed_on (Stopping kept (length ms) all) listed_on (λ w k m at q.
            let j = listed_before w k at in
            subst (λ (n : ℕ). Stopping kept n all w l.boards (names_of l.each) m) (sym (long_now listed_on)) (listed_stops (length js) w l.boards (names_of l.each) all j.0 k (c.works w j.0 j.1) j.2 m q.desks)),
        full_of told ks ms quiet (λ w k h at is. let j = listed_before w k at in listed_full (length js) w l.boards (names_of l.each) all j.0 k (c.works w j.0 j.1) j.2 h is) low,
      )

-- ---- what the workers can do

-- what holds at each index
pub each_by : {A : Type 0} (R : ℕ → A → A → Type 0) (xs ys : List A) → length ys ≡ length xs → ((i : ℕ) (e : A) → i < length xs → R i (get_or xs i e) (get_or ys i e)) → Each R xs ys
each_by {A = A} R xs ys long all = record {
  long = long;
  at = λ i x y a b.
      let r = all i x (Rattle.fd_shares.proofs.Shares.inside xs i x a) in
      subst (R i x) (at_place ys i y b x) (subst (λ (z : A). R i z (get_or ys i x)) (at_place xs i x a x) r);
}

module _ {D H X Y F : Type 0} (has : D → Option Contents) (kept : H → Option (FileName → Option (List ℕ))) (l : OpenDatasets D) (passes : List (Pass X Y)) (jobs : List (Job (Writing H) (Pass X Y) (FlushFault F))) where
  pub can_share : (parcels : List Parcel) → CanRun has kept l passes jobs parcels → (i : ℕ) (e : Job (Writing H) (Pass X Y) (FlushFault F)) → i < length jobs → CanShare kept l.boards i parcels (get_or jobs i e)
  can_share parcels r i e lt =
      let at = get_place jobs i e lt in
      let runs = r.crewed.works i (get_or jobs i e) at in
      record {
        running = runs.running;
        names = names_of l.each;
        pairs = its_pairs (length jobs) (names_of l.each) i r.all;
        works = runs.works;
        fit = r.waits.fit;
        met = λ k p p_at mine.
            let had = r.waits.met k p p_at in
            let same : had.0 ≡ get_or jobs i e = (let a = had.1 in let b = ap (slice_get jobs) mine ∙ at in cc (a, b)) in
            (had.2.0, subst (λ (k : Job (Writing H) (Pass X Y) (FlushFault F)). slice_get k.desks.items p.dataset ≡ Some (Some had.2.0)) same had.2.1);
        sum = λ n. room_for (length jobs) (names_of l.each) i n r.all r.waiting parcels r.waits.parcels_are r.sum;
      }

  pub can_list : CanFinish has kept l passes jobs → (i : ℕ) (e : Job (Writing H) (Pass X Y) (FlushFault F)) → i < length jobs → CanListAll kept l.boards (get_or jobs i e)
  can_list r i e lt =
      let runs = r.crewed.works i (get_or jobs i e) (get_place jobs i e lt) in
      record {
        running = runs.running;
        few = (let a = work_long kept (λ n. Filling) (its_pairs (length jobs) (names_of l.each) i r.all) 0 l.boards (names_of l.each) (get_or jobs i e).desks.items runs.works in let b = length-map l.each (λ (h : OpenDataset D). h.name) in let c = r.crewed.opened.few in omega (arith, a, b, c));
        names = names_of l.each;
        pairs = its_pairs (length jobs) (names_of l.each) i r.all;
        works = runs.works;
      }
