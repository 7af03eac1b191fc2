-- The run, where a worker met a dataset, or couldn't.
use Rattle.std.proofs.Common.{◌≡◌, ◌==◌, ◌≤◌, ◌+◌, ℕ, zero, suc, Bool, true, false, List, [], ◌∷◌, length, slice_get, slice_set, Option, Some, None, is_some, refl, sym, ap, subst, ◌∙◌, arith}
use Rattle.std.proofs.lemmas.List.{length-set}
use Rattle.fd_disk.specs.declared.folders.FileName.{FileName}
use Rattle.fd_disk.specs.Folders.{Contents, Holdings, WhereTold}
use Rattle.fd_entries.specs.declared.batch.Pair.{Pair}
use Rattle.fd_segment.specs.declared.draft.Room.{Room}
use Rattle.fd_turn.specs.declared.board.Pass.{Pass}
use Rattle.fd_turn.specs.Passes.{BoardId, IsSame, view}
use Rattle.fd_turn.specs.Views.{View, donor, recipient}
use Rattle.fd_archiver.specs.Writing.{Writing}
use Rattle.fd_library.specs.Calls.{AsksWriter, Changes, IsNewWriter}
use Rattle.fd_library.specs.Open.{AreOpen, OpenDataset, OpenDatasets, names_of}
use Rattle.fd_stored.specs.Archiving.{Stored}
use Rattle.fd_shares.specs.declared.round.Desk.{Desk}
use Rattle.fd_shares.specs.declared.round.Job.{Job}
use Rattle.fd_shares.specs.declared.round.Parcel.{Parcel}
use Rattle.fd_bulk.specs.Crewing.{AllBegun, AreMet, AreUntouched, Closes, Deals, HasBegun, HasDesk, HoldsRest, Running, Waits, desks_at}
use Rattle.fd_shares.specs.Sharing.{AllWork, AreParcels, DeskWorks, its_pairs}
use Rattle.fd_shares.specs.Working.{Filling, Stage, Works}
use Rattle.fd_shares.proofs.Dealing.{equal_is, equal_to}
use Rattle.fd_bulk.proofs.Matching.{matched_at, matched_set}
use Rattle.fd_bulk.proofs.Seating.{begun_refused, begun_seated, desk_kept, desks_insert, desks_same, works_begin}
use Rattle.fd_shares.proofs.Shares.{get_set}
use Rattle.fd_bulk.proofs.Turns.{get_other}

set_same_place : {A : Type 0} (xs : List A) (n : ℕ) (x : A) → slice_get xs n ≡ Some x → slice_set xs n x ≡ xs
set_same_place [] n x at = absurd (cc at)
set_same_place (y ∷ xs) zero x at = let same : y ≡ x = cc at in ap (λ z. z ∷ xs) (sym same)
set_same_place (y ∷ xs) (suc n) x at = ap (λ ys. y ∷ ys) (set_same_place xs n x at)

pub names_set : {D : Type 0} (hs : List (OpenDataset D)) (i : ℕ) (h g : OpenDataset D) → slice_get hs i ≡ Some h → g.name ≡ h.name → names_of (slice_set hs i g) ≡ names_of hs
names_set [] i h g at same = absurd (cc at)
names_set (x ∷ hs) zero h g at same = let e : x ≡ h = cc at in ap (λ (n : List ℕ). n ∷ names_of hs) (same ∙ sym (ap (λ (y : OpenDataset _). y.name) e))
names_set (x ∷ hs) (suc i) h g at same = ap (λ (ns : List (List ℕ)). x.name ∷ ns) (names_set hs i h g at same)

pub name_there : {D : Type 0} (hs : List (OpenDataset D)) (i : ℕ) (h : OpenDataset D) → slice_get hs i ≡ Some h → slice_get (names_of hs) i ≡ Some h.name
name_there [] i h at = absurd (cc at)
name_there (x ∷ hs) zero h at = let e : x ≡ h = cc at in ap (λ (y : OpenDataset _). Some y.name) e
name_there (x ∷ hs) (suc i) h at = name_there hs i h at

-- a worker has an archiver and a pass where it had none
work_meet : {H X Y : Type 0} (kept : H → Option (FileName → Option (List ℕ))) (s : ℕ → Stage) (p : ℕ → List Pair) (k n i : ℕ) (bs : List BoardId) (ms : List (List ℕ)) (ds : List (Option (Desk (Writing H) (Pass X Y)))) (d : Desk (Writing H) (Pass X Y)) → i ≡ k + n → slice_get ds n ≡ Some None
    → ((b : BoardId) (m : List ℕ) → slice_get bs n ≡ Some b → slice_get ms n ≡ Some m → p i ≡ [] → DeskWorks kept (s i) b m (p i) d) → AllWork kept s p k bs ms ds → AllWork kept s p k bs ms (slice_set ds n (Some d))
work_meet kept s p k n i [] [] [] d is none new all = absurd (cc none)
work_meet kept s p k n i [] [] (x ∷ ds) d is none new all = absurd all
work_meet kept s p k n i [] (m ∷ ms) ds d is none new all = absurd all
work_meet kept s p k n i (b ∷ bs) [] ds d is none new all = absurd all
work_meet kept s p k n i (b ∷ bs) (m ∷ ms) [] d is none new all = absurd (cc none)
work_meet kept s p k zero i (b ∷ bs) (m ∷ ms) (Some x ∷ ds) d is none new all = absurd (cc none)
work_meet kept s p k zero i (b ∷ bs) (m ∷ ms) (None ∷ ds) d is none new all =
    let here : i ≡ k = omega (arith, is) in
    (subst (λ (j : ℕ). DeskWorks kept (s j) b m (p j) d) here (new b m refl refl (ap p here ∙ all.0)), all.1)
work_meet kept s p k (suc n) i (b ∷ bs) (m ∷ ms) (x ∷ ds) d is none new all = (all.0, work_meet kept s p (suc k) n i bs ms ds d (omega (arith, is)) none new all.1)

module _ {D H X Y E : Type 0} (has : D → Option Contents) (faults : D → ℕ) (kept : H → Option (FileName → Option (List ℕ))) (start now : Option Holdings) (all waiting : List Stored) (datasets : List (List ℕ)) (n : ℕ) (l m : OpenDatasets D) (ps : List (Pass X Y)) (js : List (Job (Writing H) (Pass X Y) E)) (parcels : List Parcel)
    (d : Deals has kept start now all waiting datasets l ps js parcels) (ch : Changes n l m (AsksWriter has faults)) (sound : AreOpen m) where
  name_is : ch.after.name ≡ ch.before.name
  name_is = ap (λ (h : OpenDataset D). h.name) ch.how.rest

  names_are : names_of m.each ≡ names_of l.each
  names_are = ap names_of ch.is ∙ names_set l.each n ch.before ch.after ch.was name_is

  rest_are : WhereTold start now (HoldsRest (names_of m.each))
  rest_are = subst (λ (ns : List (List ℕ)). WhereTold start now (HoldsRest ns)) (sym names_are) d.crewed.rest

  same_after : (How : OpenDataset D → OpenDataset D → Type 0) (other : Changes n l m How) → (other.before ≡ ch.before) × (other.after ≡ ch.after)
  same_after How other =
      let a = other.was in
      let b = ch.was in
      let first : slice_get m.each n ≡ Some other.after = ap (λ (hs : List (OpenDataset D)). slice_get hs n) other.is ∙ get_set l.each n other.before other.after other.was in
      let second : slice_get m.each n ≡ Some ch.after = ap (λ (hs : List (OpenDataset D)). slice_get hs n) ch.is ∙ get_set l.each n ch.before ch.after ch.was in
      (cc (a, b), cc (first, second))

  -- ---- it couldn't

  pub refused_closes : (P : OpenDataset D → OpenDataset D → Type 0) → Changes n l m (λ h g. (g.lent ≡ h.lent) × P h g) → Closes has kept start now all waiting m ps js parcels
  refused_closes P other = record {
    crewed = record {
      some = d.crewed.some;
      few = d.crewed.few;
      opened = sound;
      each = subst (λ (bs : List BoardId). AllBegun has start 1 js bs m.each ps) (sym ch.boards) (subst (λ (hs : List (OpenDataset D)). AllBegun has start 1 js l.boards hs ps) (sym ch.is) (subst (AllBegun has start 1 js l.boards (slice_set l.each n ch.after)) (set_same_place ps n there.third there.third_at)
          (matched_set (λ i b h p. HasBegun has start 0 b h p (desks_at i js)) (λ i b h p. HasBegun has start 1 b h p (desks_at i js)) 0 n n l.boards l.each ps ch.before ch.after there.third there.third (omega arith) ch.was there.third_at
          (λ i b h p other r. Rattle.fd_bulk.proofs.Joined.begun_lost has start b h p (desks_at i js) r)
          (λ b at r. begun_refused has start b ch.before ch.after ch.how.rest there.third (desks_at n js) lent ch.how.files r) d.crewed.each)));
      works = λ w j at. subst (λ (bs : List BoardId). Running kept (length js) all w bs (names_of m.each) j) (sym ch.boards) (subst (λ (ns : List (List ℕ)). Running kept (length js) all w l.boards ns j) (sym names_are) (d.crewed.works w j at));
      rest = rest_are;
    };
    waits = subst (λ (ns : List (List ℕ)). Waits ns waiting js parcels) (sym names_are) d.waits;
  }
    where
      there : Rattle.fd_bulk.proofs.Matching.MatchedAt (λ i b h p. HasBegun has start 0 b h p (desks_at i js)) n n l.boards ps ch.before
      there = matched_at (λ i b h p. HasBegun has start 0 b h p (desks_at i js)) 0 n n l.boards l.each ps ch.before (omega arith) ch.was d.crewed.each

      lent : ch.after.lent ≡ ch.before.lent
      lent = let s = same_after _ other in ap (λ (g : OpenDataset D). g.lent) (sym s.1) ∙ other.how.0 ∙ ap (λ (h : OpenDataset D). h.lent) s.0

  -- ---- it did

  module _ (room : Room) (keys : room.keys ≡ 2048) (bytes : room.bytes ≡ 131072) (a : Writing H) (nw : Changes n l m (λ h g. IsNewWriter has room h a × (has g.folder ≡ has h.folder) × (g.lent ≡ h.lent + 1))) (tells : is_some (kept a.shelf) ≡ a.told) (w : ℕ) (j k : Job (Writing H) (Pass X Y) E) (at : slice_get js w ≡ Some j) (none : slice_get j.desks.items n ≡ Some None)
      (p q r : Pass X Y) (pass_at : slice_get ps n ≡ Some p) (set : k.desks.items ≡ slice_set j.desks.items n (Some (record { archiver = a; pass = r }))) (halt : k.halt ≡ j.halt) (own : IsSame p q × IsSame p r) (donor_is : view q ≡ donor (view p)) (given_is : view r ≡ recipient (view p)) where
    abbrev P : ℕ → BoardId → OpenDataset D → Pass X Y → Type 0
    P i b h p = HasBegun has start 0 b h p (desks_at i js)

    abbrev Q : ℕ → BoardId → OpenDataset D → Pass X Y → Type 0
    Q i b h p = HasBegun has start 0 b h p (desks_at i (slice_set js w k))

    abbrev desk : Desk (Writing H) (Pass X Y)
    desk = record { archiver = a; pass = r }

    there : Rattle.fd_bulk.proofs.Matching.MatchedAt P n n l.boards ps ch.before
    there = matched_at P 0 n n l.boards l.each ps ch.before (omega arith) ch.was d.crewed.each

    third : there.third ≡ p
    third = let x = there.third_at in cc (x, pass_at)

    begun : HasBegun has start 0 there.first ch.before p (desks_at n js)
    begun = subst (λ (z : Pass X Y). HasBegun has start 0 there.first ch.before z (desks_at n js)) third there.holds

    how : IsNewWriter has room ch.before a × (has ch.after.folder ≡ has ch.before.folder) × (ch.after.lent ≡ ch.before.lent + 1)
    how = let s = same_after _ nw in
        subst (λ (g : OpenDataset D). IsNewWriter has room ch.before a × (has g.folder ≡ has ch.before.folder) × (g.lent ≡ ch.before.lent + 1)) s.1
        (subst (λ (h : OpenDataset D). IsNewWriter has room h a × (has nw.after.folder ≡ has h.folder) × (nw.after.lent ≡ h.lent + 1)) s.0 nw.how)

    here : slice_get k.desks.items n ≡ Some (Some desk)
    here = ap (λ (ds : List (Option (Desk (Writing H) (Pass X Y)))). slice_get ds n) set ∙ get_set j.desks.items n None (Some desk) none

    module _ (enough : 2 ≤ (view p).parts) where
      each_begun : AllBegun has start 0 (slice_set js w k) l.boards (slice_set l.each n ch.after) (slice_set ps n q)
      each_begun = matched_set P Q 0 n n l.boards l.each ps ch.before ch.after p q (omega arith) ch.was pass_at
          (λ i b h z other e. subst (HasBegun has start 0 b h z) (sym (desks_same i w js j k at (ap (λ (ds : List (Option (Desk (Writing H) (Pass X Y)))). slice_get ds i) set ∙ get_other j.desks.items n i (Some desk) other))) e)
          (λ b b_at e. let i = desks_insert n w js j k desk at none here in
          subst (HasBegun has start 0 b ch.after q) (sym i.are) (begun_seated has start b ch.before ch.after ch.how.rest room p q r a i.front i.back how.2 how.1 how.0 own.0 donor_is given_is enough (subst (HasBegun has start 0 b ch.before p) i.were e))) d.crewed.each

      runs : Running kept (length js) all w l.boards (names_of l.each) k
      runs =
          let old = d.crewed.works w j at in
          record {
            running = halt ∙ old.running;
            works = subst (AllWork kept (λ i. Filling) (its_pairs (length js) (names_of l.each) w all) 0 l.boards (names_of l.each)) (sym set)
                (work_meet kept (λ i. Filling) (its_pairs (length js) (names_of l.each) w all) 0 n n l.boards (names_of l.each) j.desks.items desk (omega arith) none
                (λ b x b_at x_at nothing. record {
                  own = own.1 ∙ begun.own ∙ (let f = there.first_at in cc (f, b_at));
                  named = how.0.dataset ∙ (let f = name_there l.each n ch.before ch.was in cc (f, x_at));
                  works = subst (λ (xs : List Pair). Works kept Filling xs a (view r)) (sym nothing)
                      (works_begin kept has room ch.before a (view r) how.0 tells keys bytes (ap (λ (v : View). v.subject) given_is ∙ begun.subject) (ap (λ (v : View). v.opening) given_is ∙ begun.opening) (begun.seen ∙ sym (ap (λ (v : View). length v.history) given_is)) (ap (λ (v : View). v.amount) given_is)
                      (ap (λ (v : View). v.doubts) given_is) (ap (λ (v : View). v.lock) given_is));
                }) old.works);
            only = old.only;
          }

      works_now : (v : ℕ) (i : Job (Writing H) (Pass X Y) E) → slice_get (slice_set js w k) v ≡ Some i → Running kept (length js) all v l.boards (names_of l.each) i
      works_now v i i_at = go (v == w) refl
        where
          go : (b : Bool) → (v == w) ≡ b → Running kept (length js) all v l.boards (names_of l.each) i
          go true is =
              let same : v ≡ w = equal_is v w is in
              let one : k ≡ i = (let x = get_set js w j k at in let y = ap (slice_get (slice_set js w k)) (sym same) ∙ i_at in cc (x, y)) in
              subst (λ (u : ℕ). Running kept (length js) all u l.boards (names_of l.each) i) (sym same) (subst (Running kept (length js) all w l.boards (names_of l.each)) one runs)
          go false is = d.crewed.works v i (sym (get_other js w v k (λ e. absurd (let f = equal_to v w e in cc (is, f)))) ∙ i_at)

      pub seated_deals : Deals has kept start now all waiting datasets m (slice_set ps n q) (slice_set js w k) parcels × HasDesk (slice_set js w k) w n
      seated_deals = (
        record {
          crewed = record {
            some = (let e = length-set js w k in let s = d.crewed.some in omega (arith, e, s));
            few = (let e = length-set js w k in let s = d.crewed.few in omega (arith, e, s));
            opened = sound;
            each = subst (λ (bs : List BoardId). AllBegun has start 0 (slice_set js w k) bs m.each (slice_set ps n q)) (sym ch.boards) (subst (λ (hs : List (OpenDataset D)). AllBegun has start 0 (slice_set js w k) l.boards hs (slice_set ps n q)) (sym ch.is) each_begun);
            works = λ v i i_at. subst (λ (bs : List BoardId). Running kept (length (slice_set js w k)) all v bs (names_of m.each) i) (sym ch.boards) (subst (λ (ns : List (List ℕ)). Running kept (length (slice_set js w k)) all v l.boards ns i) (sym names_are)
                (subst (λ (u : ℕ). Running kept u all v l.boards (names_of l.each) i) (sym (length-set js w k)) (works_now v i i_at)));
            rest = rest_are;
          };
          waits = subst (λ (ns : List (List ℕ)). Waits ns waiting (slice_set js w k) parcels) (sym names_are) (record {
            parcels_are = subst (λ (u : ℕ). AreParcels u (names_of l.each) waiting parcels) (sym (length-set js w k)) d.waits.parcels_are;
            fit = d.waits.fit;
            met = λ i x x_at. desk_kept n w js j k desk at none set x.worker x.dataset (d.waits.met i x x_at);
          });
          met = subst (AreMet datasets) (sym names_are) d.met;
          untouched = subst (AreUntouched start now) (sym names_are) d.untouched;
        },
        (k, get_set js w j k at, (desk, here)),
      )
