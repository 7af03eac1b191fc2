-- A worker that meets a dataset, or can't.
use Rattle.std.proofs.Common.{◌≡◌, ◌==◌, ◌⊎◌, inl, inr, ◌<◌, ◌≤◌, ◌+◌, ◌-◌, ℕ, zero, suc, Bool, true, false, List, [], ◌∷◌, ◌++◌, All, length, slice_get, slice_set, Option, Some, None, IfSome, is_some, Ok, refl, sym, ap, ap₂, subst, ◌∙◌, arith, length-append}
use mathlib.Core.List.{map-append}
use Rattle.std.proofs.lemmas.List.Elements.{All-cons, All-head, All-tail, All-weaker}
use Rattle.fd_disk.specs.declared.folders.FileName.{FileName}
use Rattle.fd_disk.specs.Folders.{Contents, Holdings, folder_at}
use Rattle.fd_entries.specs.declared.batch.Listing.{Listing}
use Rattle.fd_entries.specs.declared.batch.Pair.{Pair}
use Rattle.fd_entries.specs.Table.{greatest_writer}
use Rattle.fd_numbers.specs.Numbers.{Differ, IsIn}
use Rattle.fd_segment.specs.declared.draft.Room.{Room}
use Rattle.fd_turn.specs.declared.board.Pass.{Pass}
use Rattle.fd_turn.specs.Passes.{BoardId, IsSame, view}
use Rattle.fd_turn.specs.Views.{View, donor, recipient}
use Rattle.fd_dataset.specs.Listed.{entries_of}
use Rattle.fd_recovery.specs.Recovered.{IsUndamaged, batches_listed}
use Rattle.fd_archiver.specs.Writing.{Writing}
use Rattle.fd_library.specs.Calls.{IsNewWriter, KeepsOtherFiles}
use Rattle.fd_library.specs.Open.{OpenDataset, Seated, seat_of}
use Rattle.fd_library.specs.Stores.{held_by_pass, held_of}
use Rattle.fd_shares.specs.declared.round.Desk.{Desk}
use Rattle.fd_shares.specs.declared.round.Job.{Job}
use Rattle.fd_bulk.specs.Crewing.{HasBegun, HasDesk, IsLent, desks_at, with_desk, writers_of}
use Rattle.fd_shares.specs.Working.{Filling, Works}
use Rattle.fd_shares.proofs.Dealing.{equal_is, equal_to}
use Rattle.fd_bulk.proofs.Lanes.{first_stays}
use Rattle.fd_shares.proofs.Shares.{get_set}
use Rattle.fd_bulk.proofs.Turns.{get_other}

-- ---- one number more

in_insert : (xs ys : List ℕ) (x z : ℕ) → IsIn (xs ++ x ∷ ys) z → (x ≡ z) ⊎ IsIn (xs ++ ys) z
in_insert [] ys x z i = i
in_insert (y ∷ xs) ys x z (inl e) = inr (inl e)
in_insert (y ∷ xs) ys x z (inr i) = go (in_insert xs ys x z i)
  where
    go : (x ≡ z) ⊎ IsIn (xs ++ ys) z → (x ≡ z) ⊎ IsIn (y ∷ (xs ++ ys)) z
    go (inl e) = inl e
    go (inr j) = inr (inr j)

differ_insert : (xs ys : List ℕ) (x : ℕ) → (IsIn (xs ++ ys) x → ⊥) → Differ (xs ++ ys) → Differ (xs ++ x ∷ ys)
differ_insert [] ys x not d = (not, d)
differ_insert (z ∷ xs) ys x not d = (λ i. go (in_insert xs ys x z i), differ_insert xs ys x (λ i. not (inr i)) d.1)
  where
    go : (x ≡ z) ⊎ IsIn (xs ++ ys) z → ⊥
    go (inl e) = not (inl (sym e))
    go (inr i) = d.0 i

all_insert : {A : Type 0} (P : A → Type 0) (xs ys : List A) (x : A) → P x → All P (xs ++ ys) → All P (xs ++ x ∷ ys)
all_insert P [] ys x one all = All-cons P x ys one all
all_insert P (z ∷ xs) ys x one all = All-cons P z (xs ++ x ∷ ys) (All-head P z (xs ++ ys) all) (all_insert P xs ys x one (All-tail P z (xs ++ ys) all))

held_seen : (o : Option Contents) (s t : Seated) → t.view.history ≡ s.view.history → held_by_pass o (Some t) ≡ held_by_pass o (Some s)
held_seen None s t same = refl
held_seen (Some v) s t same = ap (λ (ls : List Listing). batches_listed v.files (Ok (entries_of ls))) same

module _ {D : Type 0} (h g : OpenDataset D) (rest : g ≡ record h { folder = g.folder; last = h.last + 1; given = h.given + 1; lent = g.lent }) where
  last_is : g.last ≡ h.last + 1
  last_is = ap (λ (d : OpenDataset D). d.last) rest

  given_is : g.given ≡ h.given + 1
  given_is = ap (λ (d : OpenDataset D). d.given) rest

  still_undamaged : (start : Option Holdings) → IfSome start (λ s. IsUndamaged h.name (folder_at s h.name)) → IfSome start (λ s. IsUndamaged g.name (folder_at s g.name))
  still_undamaged start undamaged = subst (λ (n : List ℕ). IfSome start (λ s. IsUndamaged n (folder_at s n))) (sym (ap (λ (d : OpenDataset D). d.name) rest)) undamaged

  earlier_still : (ls : List Listing) → All (λ (l : Listing). l.entry.writer + h.given ≤ h.last) ls → All (λ (l : Listing). l.entry.writer + g.given ≤ g.last) ls
  earlier_still ls all = All-weaker (λ (l : Listing). l.entry.writer + h.given ≤ h.last) (λ (l : Listing). l.entry.writer + g.given ≤ g.last) (λ l le. let c = last_is in let f = given_is in omega (arith, le, c, f)) ls all

module _ {D H X Y : Type 0} (has : D → Option Contents) where
  not_given : (h : OpenDataset D) (ds : List (Desk (Writing H) (Pass X Y))) (x : ℕ) → h.last < x → All (IsLent has h) ds → IsIn (writers_of ds) x → ⊥
  not_given h [] x lt all i = i
  not_given h (d ∷ ds) x lt all (inl e) = let one : IsLent has h d = All-head (IsLent has h) d ds all in let b = one.bounded in absurd (omega (arith, e, b, lt))
  not_given h (d ∷ ds) x lt all (inr i) = not_given h ds x lt (All-tail (IsLent has h) d ds all) i

  -- ---- an archiver was asked for

  module _ (start : Option Holdings) (b : BoardId) (h g : OpenDataset D) (rest : g ≡ record h { folder = g.folder; last = h.last + 1; given = h.given + 1; lent = g.lent }) where
    lent_still : (told : is_some (has g.folder) ≡ is_some (has h.folder)) (ds : List (Desk (Writing H) (Pass X Y))) → All (IsLent has h) ds → All (IsLent has g) ds
    lent_still told ds all = All-weaker (IsLent has h) (IsLent has g) (λ e l. record {
      part = l.part;
      opening = l.opening ∙ sym (ap (λ (d : OpenDataset D). d.opening) rest);
      told = l.told ∙ sym told;
      later = (let a = l.later in let c = last_is h g rest in let f = given_is h g rest in omega (arith, a, c, f));
      bounded = (let a = l.bounded in let c = last_is h g rest in omega (arith, a, c));
    }) ds all

    -- it came, with a part of the pass
    pub begun_seated : (room : Room) (p q r : Pass X Y) (w : Writing H) (front back : List (Desk (Writing H) (Pass X Y))) → g.lent ≡ h.lent + 1 → has g.folder ≡ has h.folder → IsNewWriter has room h w → IsSame p q → view q ≡ donor (view p) → view r ≡ recipient (view p) → 2 ≤ (view p).parts
        → HasBegun has start 0 b h p (front ++ back) → HasBegun has start 0 b g q (front ++ record { archiver = w; pass = r } ∷ back)
    begun_seated room p q r w front back lent same new own kept given enough old = record {
      own = own ∙ old.own;
      out = ap (λ (d : OpenDataset D). d.pass) rest ∙ old.out;
      free = ap (λ (v : View). v.lock) kept ∙ old.free;
      subject = ap (λ (v : View). v.subject) kept ∙ old.subject ∙ sym (ap (λ (d : OpenDataset D). d.name) rest);
      seen = ap (λ (d : OpenDataset D). d.opening) rest ∙ old.seen ∙ sym (ap (λ (v : View). length v.history) kept);
      opening = ap (λ (v : View). v.opening) kept ∙ old.opening ∙ sym (ap (λ (d : OpenDataset D). d.opening) rest);
      none = ap (λ (v : View). v.amount) kept ∙ old.none;
      sure = ap (λ (v : View). v.doubts) kept ∙ old.sure;
      parts = (let a : (view q).parts ≡ (view p).parts - 1 = ap (λ (v : View). v.parts) kept in let c = old.parts in omega (arith, a, c, lent, enough));
      lent = (let a = length-append front (record { archiver = w; pass = r } ∷ back) in let c = length-append front back in let f = old.lent in omega (arith, a, c, f, lent));
      given = (let a = old.given in let c = given_is h g rest in omega (arith, a, c, lent));
      earlier = subst (λ (ls : List Listing). All (λ (l : Listing). l.entry.writer + g.given ≤ g.last) ls) (sym (ap (λ (v : View). v.history) kept)) (earlier_still h g rest (view p).history old.earlier);
      each = all_insert (IsLent has g) front back (record { archiver = w; pass = r }) (record {
        part = ap (λ (v : View). v.parts) given;
        opening = ap (λ (v : View). v.opening) given ∙ old.opening ∙ sym (ap (λ (d : OpenDataset D). d.opening) rest);
        told = new.told ∙ sym (ap is_some same);
        later = (let a = new.writer in let c = last_is h g rest in let f = given_is h g rest in omega (arith, a, c, f));
        bounded = (let a = new.writer in let c = last_is h g rest in omega (arith, a, c));
      }) (lent_still (ap is_some same) (front ++ back) old.each);
      differ = subst Differ (sym (map-append (λ (d : Desk (Writing H) (Pass X Y)). d.archiver.writer) front (record { archiver = w; pass = r } ∷ back)))
          (differ_insert (writers_of front) (writers_of back) w.writer
          (λ i. not_given h (front ++ back) w.writer (let a = new.writer in omega (arith, a)) old.each (subst (λ (ns : List ℕ). IsIn ns w.writer) (sym (map-append (λ (d : Desk (Writing H) (Pass X Y)). d.archiver.writer) front back)) i))
          (subst Differ (map-append (λ (d : Desk (Writing H) (Pass X Y)). d.archiver.writer) front back) old.differ));
      holds = λ s t is base.
          ap (λ (o : Option Contents). held_by_pass o (Some (seat_of q))) same ∙ held_seen (has h.folder) (seat_of p) (seat_of q) (ap (λ (v : View). v.history) kept)
          ∙ old.holds s t is (ap (held_of s) (sym (ap (λ (d : OpenDataset D). d.name) rest)) ∙ base);
      undamaged = still_undamaged h g rest start old.undamaged;
    }

    -- it didn't
    pub begun_refused : (p : Pass X Y) (ds : List (Desk (Writing H) (Pass X Y))) → g.lent ≡ h.lent → KeepsOtherFiles (h.last + 1) (has h.folder) (has g.folder) → HasBegun has start 0 b h p ds → HasBegun has start 1 b g p ds
    begun_refused p ds lent files old = record {
      own = old.own;
      out = ap (λ (d : OpenDataset D). d.pass) rest ∙ old.out;
      free = old.free;
      subject = old.subject ∙ sym (ap (λ (d : OpenDataset D). d.name) rest);
      seen = ap (λ (d : OpenDataset D). d.opening) rest ∙ old.seen;
      opening = old.opening ∙ sym (ap (λ (d : OpenDataset D). d.opening) rest);
      none = old.none;
      sure = old.sure;
      parts = (let a = old.parts in omega (arith, a, lent));
      lent = old.lent ∙ sym lent;
      given = (let a = old.given in let c = given_is h g rest in omega (arith, a, c, lent));
      earlier = earlier_still h g rest (view p).history old.earlier;
      each = lent_still (still_told (has h.folder) (has g.folder) files) ds old.each;
      differ = old.differ;
      holds = λ s t is base. held_still (has h.folder) (has g.folder) files t (old.holds s t is (ap (held_of s) (sym (ap (λ (d : OpenDataset D). d.name) rest)) ∙ base));
      undamaged = still_undamaged h g rest start old.undamaged;
    }
      where
        still_told : (o n : Option Contents) → KeepsOtherFiles (h.last + 1) o n → is_some n ≡ is_some o
        still_told None None k = refl
        still_told None (Some v) k = absurd k
        still_told (Some u) None k = absurd k
        still_told (Some u) (Some v) k = refl

        held_still : (o n : Option Contents) → KeepsOtherFiles (h.last + 1) o n → (t : List (List Pair)) → held_by_pass o (Some (seat_of p)) ≡ Some t → held_by_pass n (Some (seat_of p)) ≡ Some t
        held_still None n k t e = absurd (cc e)
        held_still (Some u) None k t e = absurd k
        held_still (Some u) (Some v) k t e = first_stays u.files v.files (h.last + 1) (view p).history (λ n lt. k n (λ s. absurd (omega (arith, s, lt))))
            (All-weaker (λ (l : Listing). l.entry.writer + h.given ≤ h.last) (λ (l : Listing). l.entry.writer < h.last + 1) (λ l le. omega (arith, le)) (view p).history old.earlier) ∙ e

-- ---- the workers

module _ {H X Y E : Type 0} where
  pub record Inserted (n w : ℕ) (js : List (Job (Writing H) (Pass X Y) E)) (k : Job (Writing H) (Pass X Y) E) (d : Desk (Writing H) (Pass X Y)) : Type 0 where
    pub front : List (Desk (Writing H) (Pass X Y))
    pub back : List (Desk (Writing H) (Pass X Y))
    pub were : desks_at n js ≡ front ++ back
    pub are : desks_at n (slice_set js w k) ≡ front ++ d ∷ back

  pub desks_insert : (n w : ℕ) (js : List (Job (Writing H) (Pass X Y) E)) (j k : Job (Writing H) (Pass X Y) E) (d : Desk (Writing H) (Pass X Y)) → slice_get js w ≡ Some j → slice_get j.desks.items n ≡ Some None → slice_get k.desks.items n ≡ Some (Some d) → Inserted n w js k d
  desks_insert n w [] j k d at none here = absurd (cc at)
  desks_insert n zero (x ∷ js) j k d at none here =
      let one : x ≡ j = cc at in
      record {
        front = [];
        back = desks_at n js;
        were = ap (λ (o : Option (Option (Desk (Writing H) (Pass X Y)))). with_desk o (desks_at n js)) (ap (λ (i : Job (Writing H) (Pass X Y) E). slice_get i.desks.items n) one ∙ none);
        are = ap (λ (o : Option (Option (Desk (Writing H) (Pass X Y)))). with_desk o (desks_at n js)) here;
      }
  desks_insert n (suc w) (x ∷ js) j k d at none here = go (slice_get x.desks.items n) refl (desks_insert n w js j k d at none here)
    where
      go : (o : Option (Option (Desk (Writing H) (Pass X Y)))) → slice_get x.desks.items n ≡ o → Inserted n w js k d → Inserted n (suc w) (x ∷ js) k d
      go None is i = record {
        front = i.front;
        back = i.back;
        were = ap (λ (o : Option (Option (Desk (Writing H) (Pass X Y)))). with_desk o (desks_at n js)) is ∙ i.were;
        are = ap (λ (o : Option (Option (Desk (Writing H) (Pass X Y)))). with_desk o (desks_at n (slice_set js w k))) is ∙ i.are;
      }
      go (Some None) is i = record {
        front = i.front;
        back = i.back;
        were = ap (λ (o : Option (Option (Desk (Writing H) (Pass X Y)))). with_desk o (desks_at n js)) is ∙ i.were;
        are = ap (λ (o : Option (Option (Desk (Writing H) (Pass X Y)))). with_desk o (desks_at n (slice_set js w k))) is ∙ i.are;
      }
      go (Some (Some e)) is i = record {
        front = e ∷ i.front;
        back = i.back;
        were = ap (λ (o : Option (Option (Desk (Writing H) (Pass X Y)))). with_desk o (desks_at n js)) is ∙ ap (λ (ds : List (Desk (Writing H) (Pass X Y))). e ∷ ds) i.were;
        are = ap (λ (o : Option (Option (Desk (Writing H) (Pass X Y)))). with_desk o (desks_at n (slice_set js w k))) is ∙ ap (λ (ds : List (Desk (Writing H) (Pass X Y))). e ∷ ds) i.are;
      }

  pub desks_same : (n w : ℕ) (js : List (Job (Writing H) (Pass X Y) E)) (j k : Job (Writing H) (Pass X Y) E) → slice_get js w ≡ Some j → slice_get k.desks.items n ≡ slice_get j.desks.items n → desks_at n (slice_set js w k) ≡ desks_at n js
  desks_same n w [] j k at same = absurd (cc at)
  desks_same n zero (x ∷ js) j k at same =
      let one : x ≡ j = cc at in
      ap (λ (o : Option (Option (Desk (Writing H) (Pass X Y)))). with_desk o (desks_at n js)) (same ∙ sym (ap (λ (i : Job (Writing H) (Pass X Y) E). slice_get i.desks.items n) one))
  desks_same n (suc w) (x ∷ js) j k at same = ap (with_desk (slice_get x.desks.items n)) (desks_same n w js j k at same)

  -- who had met a dataset still has
  pub desk_kept : (n w : ℕ) (js : List (Job (Writing H) (Pass X Y) E)) (j k : Job (Writing H) (Pass X Y) E) (d : Desk (Writing H) (Pass X Y)) → slice_get js w ≡ Some j → slice_get j.desks.items n ≡ Some None → k.desks.items ≡ slice_set j.desks.items n (Some d) → (v m : ℕ) → HasDesk js v m → HasDesk (slice_set js w k) v m
  desk_kept n w js j k d at none set v m had = go (v == w) refl (m == n) refl
    where
      its : slice_get js v ≡ Some had.0
      its = had.1

      go : (a : Bool) → (v == w) ≡ a → (b : Bool) → (m == n) ≡ b → HasDesk (slice_set js w k) v m
      go false is b t = (had.0, get_other js w v k (λ e. absurd (let f = equal_to v w e in cc (is, f))) ∙ had.1, had.2)
      go true is true t =
          let here : v ≡ w = equal_is v w is in
          let there : m ≡ n = equal_is m n t in
          (k, ap (slice_get (slice_set js w k)) here ∙ get_set js w j k at, (d, ap₂ slice_get set there ∙ get_set j.desks.items n None (Some d) none))
      go true is false t =
          let here : v ≡ w = equal_is v w is in
          let one : had.0 ≡ j = (let a = ap (slice_get js) (sym here) ∙ had.1 in cc (a, at)) in (
            k,
            ap (slice_get (slice_set js w k)) here ∙ get_set js w j k at,
            (
              had.2.0,
              ap (λ (ds : List (Option (Desk (Writing H) (Pass X Y)))). slice_get ds m) set
                  ∙ get_other j.desks.items n m (Some d) (λ e. absurd (let f = equal_to m n e in cc (t, f)))
                  ∙ sym (ap (λ (i : Job (Writing H) (Pass X Y) E). slice_get i.desks.items m) one) ∙ had.2.1,
            ),
          )

-- a worker begins
module _ {H : Type 0} (kept : H → Option (FileName → Option (List ℕ))) where
  pub works_begin : {D : Type 0} (has : D → Option Contents) (room : Room) (h : OpenDataset D) (w : Writing H) (v : View) → IsNewWriter has room h w → is_some (kept w.shelf) ≡ w.told → room.keys ≡ 2048 → room.bytes ≡ 131072 → v.subject ≡ h.name → v.opening ≡ h.opening → h.opening ≡ length v.history → v.amount ≡ 0 → v.doubts ≡ []
      → v.lock ≡ Rattle.fd_turn.specs.declared.view.Lock.TheVariants.Free → Works kept Filling [] w v
  works_begin has room h w v new tells keys bytes subject opening seen none sure free = record {
    receipts = [];
    pending = [];
    rise = (omega (arith, opening, seen));
    sealed = tt;
    amount = none;
    short = omega arith;
    pairs_are = refl;
    is_pending = new.empty;
    room = (new.keys ∙ keys, new.bytes ∙ bytes);
    stands = (new.unlisted, (let a = new.last in omega (arith, a)), omega arith);
    doubts = sure;
    free = free;
    dataset = new.dataset ∙ sym subject;
    bounded = subst (λ (n : ℕ). w.writer ≤ greatest_writer n) (sym opening) new.bounded;
    tells = tells;
  }
