-- A dataset that no worker has met.
use Rattle.std.proofs.Common.{◌≡◌, ℕ, zero, suc, ◌+◌, ◌≤◌, List, [], ◌∷◌, ◌++◌, length, slice_get, slice_set, All, Option, Some, None, IfSome, refl, sym, ap, ap₂, subst, ◌∙◌, arith}
use Rattle.std.proofs.lemmas.List.Elements.{All-nil, All-weaker}
use Rattle.std.proofs.lemmas.Option.{slice_get_past, slice_get_within}
use Rattle.fd_disk.specs.declared.folders.FileName.{FileName}
use Rattle.fd_disk.specs.Folders.{Contents, Holdings, folder_at}
use Rattle.fd_entries.specs.declared.batch.Listing.{Listing}
use Rattle.fd_entries.specs.declared.batch.Pair.{Pair}
use Rattle.fd_turn.specs.declared.board.Pass.{Pass}
use Rattle.fd_turn.specs.Passes.{BoardId, IsOf, view}
use Rattle.fd_turn.specs.Views.{View, all_parts, first_view}
use Rattle.fd_archiver.specs.Writing.{Writing}
use Rattle.fd_recovery.specs.Recovered.{IsUndamaged}
use Rattle.fd_library.specs.Answers.{IsOpened}
use Rattle.fd_library.specs.Open.{IsWhole, OpenDataset, Seated, seat_of}
use Rattle.fd_library.specs.Stores.{held_by_pass, held_in, held_of}
use Rattle.fd_stored.specs.Archiving.{Stored, pairs_for}
use Rattle.fd_shares.specs.declared.round.Desk.{Desk}
use Rattle.fd_shares.specs.declared.round.Job.{Job}
use Rattle.fd_shares.specs.declared.round.Parcel.{Parcel}
use Rattle.fd_bulk.specs.Crewing.{HasBegun, IsLent, Running, Waits, desks_at, with_desk}
use Rattle.fd_shares.specs.Dealing.{dealt_to}
use Rattle.fd_sheets.specs.Dealt.{dealt}
use Rattle.fd_bulk.specs.Halting.{Each, HasOneMore, IsSameJob}
use Rattle.fd_shares.specs.Sharing.{AllFit, AllWork, AreParcels, SameMet, its_pairs, name_at}
use Rattle.fd_shares.specs.Working.{Filling, Stage}
use Rattle.fd_bulk.proofs.Desks.{IsOn, each_behind}
use Rattle.fd_shares.proofs.Shares.{at_place, met_there, same_met}
use Rattle.fd_bulk.proofs.Stored.{work_named}
use Rattle.fd_bulk.proofs.Texts.{among_apart}
use Rattle.fd_bulk.proofs.Turns.{has_at}

pub get_front : {A : Type 0} (xs : List A) (y : A) (n : ℕ) (x : A) → slice_get xs n ≡ Some x → slice_get (xs ++ y ∷ []) n ≡ Some x
get_front [] y n x at = absurd (cc at)
get_front (z ∷ xs) y zero x at = at
get_front (z ∷ xs) y (suc n) x at = get_front xs y n x at

pub at_end : {A : Type 0} (xs : List A) (x : A) → slice_get (xs ++ x ∷ []) (length xs) ≡ Some x
at_end [] x = refl
at_end (y ∷ xs) x = at_end xs x

pub set_end : {A : Type 0} (xs : List A) (x y : A) → slice_set (xs ++ x ∷ []) (length xs) y ≡ xs ++ y ∷ []
set_end [] x y = refl
set_end (z ∷ xs) x y = ap (λ zs. z ∷ zs) (set_end xs x y)

-- what became of an element, and what it was
pub each_there : {A : Type 0} (R : A → A → Type 0) (xs ys : List A) (i : ℕ) (x : A) → Each (λ j. R) xs ys → slice_get xs i ≡ Some x → (y : A) × (slice_get ys i ≡ Some y) × R x y
each_there R xs ys i x e at =
    let lt = slice_get_within xs i x at in
    let long = e.long in
    let there = has_at ys i (omega (arith, lt, long)) in (there.0, there.1, e.at i x there.0 at there.1)

pub each_back : {A : Type 0} (R : A → A → Type 0) (xs ys : List A) (i : ℕ) (y : A) → Each (λ j. R) xs ys → slice_get ys i ≡ Some y → (x : A) × (slice_get xs i ≡ Some x) × R x y
each_back R xs ys i y e at =
    let lt = slice_get_within ys i y at in
    let long = e.long in
    let there = has_at xs i (omega (arith, lt, long)) in (there.0, there.1, e.at i there.0 y there.1 at)

-- ---- what the workers have

module _ {H X Y : Type 0} where
  with_more : (ds : List (Option (Desk (Writing H) (Pass X Y)))) (n : ℕ) (rest : List (Desk (Writing H) (Pass X Y))) → with_desk (slice_get (ds ++ None ∷ []) n) rest ≡ with_desk (slice_get ds n) rest
  with_more [] zero rest = refl
  with_more [] (suc n) rest = refl
  with_more (d ∷ ds) zero rest = refl
  with_more (d ∷ ds) (suc n) rest = with_more ds n rest

parcels_more : (workers : ℕ) (names : List (List ℕ)) (name : List ℕ) (ss : List Stored) (ps : List Parcel) → AreParcels workers names ss ps → AreParcels workers (names ++ name ∷ []) ss ps
parcels_more workers names name [] [] a = tt
parcels_more workers names name [] (p ∷ ps) a = absurd a
parcels_more workers names name (s ∷ ss) [] a = absurd a
parcels_more workers names name (s ∷ ss) (p ∷ ps) a = (record { pair = a.0.pair; named = get_front names name p.dataset s.dataset a.0.named; worker = a.0.worker }, parcels_more workers names name ss ps a.1)

fit_more : (names : List (List ℕ)) (name : List ℕ) (ps : List Parcel) → AllFit names ps → AllFit (names ++ name ∷ []) ps
fit_more names name [] a = tt
fit_more names name (p ∷ ps) a = (record { named = get_front names name p.dataset _ a.0.named; key = a.0.key; bytes = a.0.bytes }, fit_more names name ps a.1)

module _ {H X Y : Type 0} (kept : H → Option (FileName → Option (List ℕ))) where
  pub work_long : (s : ℕ → Stage) (p : ℕ → List Pair) (k : ℕ) (bs : List BoardId) (ms : List (List ℕ)) (ds : List (Option (Desk (Writing H) (Pass X Y)))) → AllWork kept s p k bs ms ds → length ds ≡ length ms
  work_long s p k [] [] [] all = refl
  work_long s p k [] [] (x ∷ ds) all = absurd all
  work_long s p k [] (m ∷ ms) ds all = absurd all
  work_long s p k (b ∷ bs) [] ds all = absurd all
  work_long s p k (b ∷ bs) (m ∷ ms) [] all = absurd all
  work_long s p k (b ∷ bs) (m ∷ ms) (x ∷ ds) all = ap suc (work_long s p (suc k) bs ms ds all.1)

  work_push : (s : ℕ → Stage) (p : ℕ → List Pair) (k : ℕ) (bs : List BoardId) (ms : List (List ℕ)) (ds : List (Option (Desk (Writing H) (Pass X Y)))) (b : BoardId) (m : List ℕ) → ((n : ℕ) → n ≡ k + length ms → p n ≡ []) → AllWork kept s p k bs ms ds
      → AllWork kept s p k (bs ++ b ∷ []) (ms ++ m ∷ []) (ds ++ None ∷ [])
  work_push s p k [] [] [] b m none all = (none k (omega arith), tt)
  work_push s p k [] [] (x ∷ ds) b m none all = absurd all
  work_push s p k [] (l ∷ ms) ds b m none all = absurd all
  work_push s p k (c ∷ bs) [] ds b m none all = absurd all
  work_push s p k (c ∷ bs) (l ∷ ms) [] b m none all = absurd all
  work_push s p k (c ∷ bs) (l ∷ ms) (x ∷ ds) b m none all = (all.0, work_push s p (suc k) bs ms ds b m (λ n is. none n (omega (arith, is))) all.1)

module _ {H X Y E : Type 0} where
  same_on : (j k : Job (Writing H) (Pass X Y) E) → IsSameJob j k → IsOn j k
  same_on j k s = subst (SameMet j.desks.items) (sym s.desks) (same_met j.desks.items)

  pub each_same_on : (js ks : List (Job (Writing H) (Pass X Y) E)) → Each (λ i. IsSameJob) js ks → Each (λ i. IsOn) js ks
  each_same_on js ks e = record { long = e.long; at = λ i j k a b. same_on j k (e.at i j k a b) }

  pub desks_more : (n : ℕ) (js ks : List (Job (Writing H) (Pass X Y) E)) → Each (λ i. HasOneMore) js ks → desks_at n ks ≡ desks_at n js
  desks_more n [] [] e = refl
  desks_more n [] (k ∷ ks) e = absurd (let l = e.long in omega (arith, l))
  desks_more n (j ∷ js) [] e = absurd (let l = e.long in omega (arith, l))
  desks_more n (j ∷ js) (k ∷ ks) e =
      let one : HasOneMore j k = e.at 0 j k refl refl in
      ap₂ (λ (ds : List (Option (Desk (Writing H) (Pass X Y)))) (rest : List (Desk (Writing H) (Pass X Y))). with_desk (slice_get ds n) rest) one.desks (desks_more n js ks (each_behind HasOneMore j k js ks e))
      ∙ with_more j.desks.items n (desks_at n js)

  pub desks_none : (n : ℕ) (js : List (Job (Writing H) (Pass X Y) E)) → ((w : ℕ) (j : Job (Writing H) (Pass X Y) E) → slice_get js w ≡ Some j → length j.desks.items ≤ n) → desks_at n js ≡ []
  desks_none n [] short = refl
  desks_none n (j ∷ js) short =
      ap₂ (λ (o : Option (Option (Desk (Writing H) (Pass X Y)))) (rest : List (Desk (Writing H) (Pass X Y))). with_desk o rest) (slice_get_past j.desks.items n (short 0 j refl)) (desks_none n js (λ w k at. short (suc w) k at))

  -- ---- messages that wait

  pub waits_more : (names : List (List ℕ)) (name : List ℕ) (ss : List Stored) (js ks : List (Job (Writing H) (Pass X Y) E)) (ps : List Parcel) → Each (λ i. HasOneMore) js ks → Waits names ss js ps → Waits (names ++ name ∷ []) ss ks ps
  waits_more names name ss js ks ps e w = record {
    parcels_are = subst (λ (n : ℕ). AreParcels n (names ++ name ∷ []) ss ps) (sym e.long) (parcels_more (length js) names name ss ps w.parcels_are);
    fit = fit_more names name ps w.fit;
    met = λ i p at.
        let had = w.met i p at in
        let d = had.2 in
        let k = each_there HasOneMore js ks p.worker had.0 e had.1 in
        (k.0, k.1, (d.0, ap (λ (ds : List (Option (Desk (Writing H) (Pass X Y)))). slice_get ds p.dataset) k.2.desks ∙ get_front had.0.desks.items None p.dataset (Some d.0) d.1));
  }

  pub waits_on : (names : List (List ℕ)) (ss : List Stored) (js ks : List (Job (Writing H) (Pass X Y) E)) (ps : List Parcel) → Each (λ i. IsOn) js ks → Waits names ss js ps → Waits names ss ks ps
  waits_on names ss js ks ps e w = record {
    parcels_are = subst (λ (n : ℕ). AreParcels n names ss ps) (sym e.long) w.parcels_are;
    fit = w.fit;
    met = λ i p at.
        let had = w.met i p at in
        let d = had.2 in
        let k = each_there IsOn js ks p.worker had.0 e had.1 in
        let f = met_there had.0.desks.items k.0.desks.items p.dataset d.0 k.2 d.1 in
        (k.0, k.1, (f.0, f.1));
  }

  -- ---- one worker

  module _ (kept : H → Option (FileName → Option (List ℕ))) where
    pub running_same : (workers : ℕ) (all : List Stored) (w : ℕ) (boards : List BoardId) (names : List (List ℕ)) (j k : Job (Writing H) (Pass X Y) E) → IsSameJob j k → Running kept workers all w boards names j → Running kept workers all w boards names k
    running_same workers all w boards names j k s r = record {
      running = s.halt ∙ r.running;
      works = subst (λ (ds : List (Option (Desk (Writing H) (Pass X Y)))). AllWork kept (λ n. Filling) (its_pairs workers names w all) 0 boards names ds) (sym s.desks) r.works;
      only = r.only;
    }

    pub running_more : (workers : ℕ) (all : List Stored) (w : ℕ) (boards : List BoardId) (names : List (List ℕ)) (board : BoardId) (name : List ℕ) (j k : Job (Writing H) (Pass X Y) E) → pairs_for all name ≡ [] → HasOneMore j k → Running kept workers all w boards names j
        → Running kept workers all w (boards ++ board ∷ []) (names ++ name ∷ []) k
    running_more workers all w boards names board name j k none s r = record {
      running = s.halt ∙ r.running;
      works = subst (λ (ds : List (Option (Desk (Writing H) (Pass X Y)))). AllWork kept (λ n. Filling) its 0 (boards ++ board ∷ []) (names ++ name ∷ []) ds) (sym s.desks)
          (work_push kept (λ n. Filling) its 0 boards names j.desks.items board name
          (λ n is. let here : n ≡ length names = omega (arith, is) in
          let m : name_at (names ++ name ∷ []) n ≡ name = ap (name_at (names ++ name ∷ [])) here ∙ at_place (names ++ name ∷ []) (length names) name (at_end names name) [] in
          ap (λ (x : List ℕ). dealt_to (dealt workers x) w (pairs_for all x)) m ∙ ap (dealt_to (dealt workers name) w) none)
          (work_named kept (λ n. Filling) (its_pairs workers names w all) its 0 boards names j.desks.items
          (λ n i m is at. let here : n ≡ i = omega (arith, is) in
          let old : name_at names n ≡ m = ap (name_at names) here ∙ at_place names i m at [] in
          let new : name_at (names ++ name ∷ []) n ≡ m = ap (name_at (names ++ name ∷ [])) here ∙ at_place (names ++ name ∷ []) i m (get_front names name i m at) [] in
          ap (λ (x : List ℕ). dealt_to (dealt workers x) w (pairs_for all x)) (new ∙ sym old)) r.works));
      only = λ n out. r.only n (among_apart n name names out).0;
    }
      where
        its : ℕ → List Pair
        its = its_pairs workers (names ++ name ∷ []) w all

-- ---- the run

module _ {D H X Y : Type 0} (has : D → Option Contents) where
  pub begun_lost : (start : Option Holdings) (b : BoardId) (h : OpenDataset D) (p : Pass X Y) (ds : List (Desk (Writing H) (Pass X Y))) → HasBegun has start 0 b h p ds → HasBegun has start 1 b h p ds
  begun_lost start b h p ds r = record {
    own = r.own;
    out = r.out;
    free = r.free;
    subject = r.subject;
    seen = r.seen;
    opening = r.opening;
    none = r.none;
    sure = r.sure;
    parts = r.parts;
    lent = r.lent;
    given = (let g = r.given in omega (arith, g));
    earlier = r.earlier;
    each = r.each;
    differ = r.differ;
    holds = r.holds;
    undamaged = r.undamaged;
  }

  -- its pass was handed out
  pub begun_new : (start : Option Holdings) (name : List ℕ) (board : BoardId) (h g : OpenDataset D) (p : Pass X Y) → IsOpened name board h → h.pass ≡ Some (seat_of p) → IsWhole h.name (seat_of p) → g ≡ record h { pass = None } → IsOf board p
      → ((s : Holdings) (t : List (List Pair)) → start ≡ Some s → held_of s h.name ≡ Some t → held_in has h ≡ Some t) → IfSome start (λ s. IsUndamaged h.name (folder_at s h.name)) → HasBegun {H = H} has start 0 board g p []
  begun_new start name board h g p o at whole rest own holds undamaged = record {
    own = own;
    out = ap (λ (d : OpenDataset D). d.pass) rest;
    free = whole.free;
    subject = whole.subject ∙ sym (ap (λ (d : OpenDataset D). d.name) rest);
    seen = opening_is ∙ sym (ap (λ (v : View). length v.history) seen_is);
    opening = ap (λ (v : View). v.opening) seen_is ∙ sym opening_is;
    none = ap (λ (v : View). v.amount) seen_is;
    sure = ap (λ (v : View). v.doubts) seen_is;
    parts = (let a : (view p).parts ≡ all_parts = whole.parts in omega (arith, a, lent_is));
    lent = sym lent_is;
    given = omega (arith, given_is);
    earlier = subst (λ (ls : List Listing). All (λ (l : Listing). l.entry.writer + g.given ≤ g.last) ls) (sym (ap (λ (v : View). v.history) seen_is))
        (All-weaker (λ (l : Listing). l.entry.writer ≤ h.last) (λ (l : Listing). l.entry.writer + g.given ≤ g.last) (λ l le. omega (arith, le, given_is, last_is)) o.history o.writers);
    each = All-nil (IsLent has g);
    differ = tt;
    holds = λ s t is base.
        ap (λ (f : D). held_by_pass (has f) (Some (seat_of p))) (ap (λ (d : OpenDataset D). d.folder) rest) ∙ ap (held_by_pass (has h.folder)) (sym at)
        ∙ holds s t is (ap (held_of s) (sym (ap (λ (d : OpenDataset D). d.name) rest)) ∙ base);
    undamaged = subst (λ (n : List ℕ). IfSome start (λ s. IsUndamaged n (folder_at s n))) (sym (ap (λ (d : OpenDataset D). d.name) rest)) undamaged;
  }
    where
      seat : seat_of p ≡ record { board = board; view = first_view name o.told o.history }
      seat = let both : Some (seat_of p) ≡ Some (record { board = board; view = first_view name o.told o.history }) = sym at ∙ o.pass in cc both

      seen_is : view p ≡ first_view name o.told o.history
      seen_is = ap (λ (s : Seated). s.view) seat

      opening_is : g.opening ≡ length o.history
      opening_is = ap (λ (d : OpenDataset D). d.opening) rest ∙ o.opening

      lent_is : g.lent ≡ 0
      lent_is = ap (λ (d : OpenDataset D). d.lent) rest ∙ o.asked.1

      given_is : g.given ≡ 0
      given_is = ap (λ (d : OpenDataset D). d.given) rest ∙ o.asked.0

      last_is : g.last ≡ h.last
      last_is = ap (λ (d : OpenDataset D). d.last) rest
