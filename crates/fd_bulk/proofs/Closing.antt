-- All datasets, once all is back.
use Rattle.std.proofs.Common.{◌≡◌, ◌==◌, ◌⊎◌, inl, inr, ◌<◌, ◌≤◌, ◌+◌, ◌||◌, ℕ, zero, suc, Bool, true, false, if◌then◌else◌, List, [], ◌∷◌, ◌++◌, All, length, take, slice_get, Option, Some, None, refl, sym, ap, ap₂, subst, ◌∙◌, arith, length-append, IfSome}
use Rattle.std.specs.Prelude.{Contains, sum}
use Rattle.std.specs.Str.{bytes_eq}
use mathlib.Core.List.{IsPrefix}
use Rattle.std.proofs.Math.Nat.{mod-lt}
use Rattle.std.proofs.lemmas.List.{length-map}
use Rattle.std.proofs.lemmas.List.Elements.{All-cons, All-nil, Contains-append_left, Contains-append_right}
use Rattle.fd_disk.specs.declared.folders.FileName.{FileName}
use Rattle.fd_disk.specs.Folders.{Contents, Holdings, WhereTold, folder_at}
use Rattle.fd_entries.specs.declared.batch.Pair.{Pair}
use Rattle.fd_segment.specs.Held.{Standing}
use Rattle.fd_turn.specs.declared.board.Pass.{Pass}
use Rattle.fd_turn.specs.Passes.{BoardId, view}
use Rattle.fd_turn.specs.Views.{View}
use Rattle.fd_archiver.specs.Writing.{IsPendingIn, Writing}
use Rattle.fd_recovery.specs.Recovered.{IsUndamaged}
use Rattle.fd_library.specs.Calls.{Changes}
use Rattle.fd_library.specs.Open.{AreDistinct, OpenDataset, OpenDatasets, among, names_of}
use Rattle.fd_library.specs.Stores.{held_in, held_of, held_with}
use Rattle.fd_stored.specs.Archiving.{Stored, pairs_for}
use Rattle.fd_shares.specs.declared.round.Desk.{Desk}
use Rattle.fd_shares.specs.declared.round.Job.{Job}
use Rattle.fd_stored.specs.Store.{Adds, AddsAll}
use Rattle.fd_bulk.specs.Archived.{Grows, GrowsAll, IsBack, IsSure}
use Rattle.fd_bulk.specs.Columns.{ColumnWorks}
use Rattle.fd_bulk.specs.Crewing.{Crewed, Finished, HasBegun, HasFull, HoldsRest, SeeFull, Stopping, desks_at}
use Rattle.fd_shares.specs.Dealing.{dealt_to}
use Rattle.fd_sheets.specs.Dealt.{dealt}
use Rattle.fd_bulk.specs.Ending.{CanEndOne, CanHand, EndedAs, Ends, IsEnded, IsShorter, column, desk_in, desk_of, parts_in}
use Rattle.fd_bulk.specs.Halting.{Each}
use Rattle.fd_shares.specs.Sharing.{AllWork, MayWork, its_pairs, name_at}
use Rattle.fd_shares.specs.Working.{Flushed, HasSealed, Stage, Works, pairs_in}
use Rattle.fd_shares.proofs.Dealing.{equal_is, equal_to}
use Rattle.fd_bulk.proofs.Ended.{openings, all_parts_one, desks_column, grown, grown_all, is_back, is_sure, none_added, none_added_all, still_full}
use Rattle.fd_bulk.proofs.Handed.{column_long, prefix_on, prefix_same, somes}
use Rattle.fd_bulk.proofs.Joined.{at_end, each_there, work_long}
use Rattle.fd_bulk.proofs.Matching.{MatchedAt, matched_at, matched_long}
use Rattle.fd_bulk.proofs.Meeting.{name_there, names_set}
use Rattle.fd_shares.proofs.Rounds.{among_at}
use Rattle.fd_shares.proofs.Shares.{at_place, get_set, inside}
use Rattle.fd_bulk.proofs.Tables.{dealt_among}
use Rattle.fd_bulk.proofs.Tellings.{held_outside}
use Rattle.fd_bulk.proofs.Texts.{one_text, true_or_false}
use Rattle.fd_bulk.proofs.Turns.{get_other, has_at}

-- ---- lists

no_front : {A : Type 0} (xs ys : List A) → xs ++ ys ≡ [] → xs ≡ []
no_front [] ys e = refl
no_front (x ∷ xs) ys e = absurd (cc e)

-- what was sealed and waits was stored
sealed_some : {H : Type 0} (kept : H → Option (FileName → Option (List ℕ))) (stage : Stage) (pairs : List Pair) (w : Writing H) (v : View) → Works kept stage pairs w v → HasSealed w → pairs ≡ [] → ⊥
sealed_some kept stage pairs w v works sealed none =
    let pending = subst (λ (o : Option Standing). IsPendingIn w.told o w.draft works.pending) sealed.1 works.is_pending in
    pending.1.some (no_back (pairs_in works.receipts) works.pending (sym works.pairs_are ∙ none))
  where
    no_back : (xs ys : List Pair) → xs ++ ys ≡ [] → ys ≡ []
    no_back [] ys e = e
    no_back (x ∷ xs) ys e = absurd (cc e)

take_whole : {A : Type 0} (xs : List A) (n : ℕ) → n ≡ length xs → take n xs ≡ xs
take_whole {A = A} xs n is = ap (λ (k : ℕ). take k xs) is ∙ go xs
  where
    go : (ys : List A) → take (length ys) ys ≡ ys
    go [] = refl
    go (y ∷ ys) = ap (λ zs. y ∷ zs) (go ys)

take_twice : {A : Type 0} (xs : List A) (n m : ℕ) → n ≤ m → take n (take m xs) ≡ take n xs
take_twice [] n zero le = refl
take_twice [] n (suc m) le = refl
take_twice (x ∷ xs) zero zero le = refl
take_twice (x ∷ xs) zero (suc m) le = refl
take_twice (x ∷ xs) (suc n) zero le = absurd (omega (arith, le))
take_twice (x ∷ xs) (suc n) (suc m) le = ap (λ ys. x ∷ ys) (take_twice xs n m (omega (arith, le)))

get_take : {A : Type 0} (xs : List A) (n m : ℕ) → n < m → slice_get (take m xs) n ≡ slice_get xs n
get_take [] n zero lt = refl
get_take [] n (suc m) lt = refl
get_take (x ∷ xs) n zero lt = absurd (omega (arith, lt))
get_take (x ∷ xs) zero (suc m) lt = refl
get_take (x ∷ xs) (suc n) (suc m) lt = get_take xs n m (omega (arith, lt))

take_long : {A : Type 0} (xs : List A) (n : ℕ) → n ≤ length xs → length (take n xs) ≡ n
take_long [] zero le = refl
take_long [] (suc n) le = absurd (omega (arith, le))
take_long (x ∷ xs) zero le = refl
take_long (x ∷ xs) (suc n) le = let e = take_long xs n (omega (arith, le)) in omega (arith, e)

get_prefix : {A : Type 0} (xs ys : List A) (n : ℕ) (x : A) → IsPrefix xs ys → slice_get xs n ≡ Some x → slice_get ys n ≡ Some x
get_prefix xs ys n x p at = Rattle.fd_shares.proofs.Storing.get_seen xs ys n x p at

all_from : {A : Type 0} (P : A → Type 0) (xs : List A) → ((n : ℕ) (x : A) → slice_get xs n ≡ Some x → P x) → All P xs
all_from P [] each = All-nil P
all_from P (x ∷ xs) each = All-cons P x xs (each 0 x refl) (all_from P xs (λ n y at. each (suc n) y at))

contains_at : {A : Type 0} (xs : List A) (n : ℕ) (x : A) → slice_get xs n ≡ Some x → Contains xs x
contains_at [] n x at = absurd (cc at)
contains_at (y ∷ xs) zero x at = let same : y ≡ x = cc at in subst (Contains (y ∷ xs)) same (0, omega arith, refl)
contains_at (y ∷ xs) (suc n) x at = Contains-append_right (y ∷ []) xs x (contains_at xs n x at)

-- ---- texts of datasets

there_name : {D : Type 0} (hs : List (OpenDataset D)) (n : ℕ) (m : List ℕ) → slice_get (names_of hs) n ≡ Some m → (h : OpenDataset D) × (slice_get hs n ≡ Some h) × (h.name ≡ m)
there_name [] n m at = absurd (cc at)
there_name (h ∷ hs) zero m at = (h, refl, cc at)
there_name (h ∷ hs) (suc n) m at = there_name hs n m at

among_place : (ns : List (List ℕ)) (m : List ℕ) → among m ns ≡ true → (n : ℕ) × (slice_get ns n ≡ Some m)
among_place [] m is = absurd (cc is)
among_place (k ∷ ns) m is = go (bytes_eq m k) refl is (λ e. among_place ns m e)
  where
    go : (b : Bool) → bytes_eq m k ≡ b → (b || among m ns) ≡ true → (among m ns ≡ true → (n : ℕ) × (slice_get ns n ≡ Some m)) → (n : ℕ) × (slice_get (k ∷ ns) n ≡ Some m)
    go true e is rest = (0, ap Some (sym (one_text m k e)))
    go false e is rest = let r = rest is in (suc r.0, r.1)

held_there : {D : Type 0} (has : D → Option Contents) (gs : List (OpenDataset D)) (t : Holdings) (n : ℕ) (g : OpenDataset D) → AreDistinct (names_of gs) → slice_get gs n ≡ Some g → held_with has gs t g.name ≡ held_in has g
held_there has [] t n g d at = absurd (cc at)
held_there has (h ∷ gs) t zero g d at =
    let same : h ≡ g = cc at in
    ap (λ (b : Bool). if b then held_in has h else held_with has gs t g.name) (ap (bytes_eq g.name) (ap (λ (k : OpenDataset _). k.name) same) ∙ Rattle.fd_segment.proofs.Keys.eq_refl g.name) ∙ ap (held_in has) same
held_there has (h ∷ gs) t (suc n) g d at = go (bytes_eq g.name h.name) refl (held_there has gs t n g d.1 at)
  where
    go : (b : Bool) → bytes_eq g.name h.name ≡ b → held_with has gs t g.name ≡ held_in has g → (if b then held_in has h else held_with has gs t g.name) ≡ held_in has g
    go true e rest =
        let same = one_text g.name h.name e in
        let there = among_at (names_of gs) n g.name (name_there gs n g at) in
        absurd (let out = d.0 in let x = ap (λ (k : List ℕ). among k (names_of gs)) same in cc (x, there, out))
    go false e rest = rest

-- ---- what one worker has of one dataset

module _ {H X Y : Type 0} (kept : H → Option (FileName → Option (List ℕ))) where
  work_slot : (s : ℕ → Stage) (p : ℕ → List Pair) (k i n : ℕ) (bs : List BoardId) (ms : List (List ℕ)) (ds : List (Option (Desk (Writing H) (Pass X Y)))) (b : BoardId) (m : List ℕ) → i ≡ k + n → slice_get bs n ≡ Some b → slice_get ms n ≡ Some m → AllWork kept s p k bs ms ds → MayWork kept (s i) b m (p i) (desk_in (slice_get ds n))
  work_slot s p k i n [] [] [] b m is b_at m_at all = absurd (cc b_at)
  work_slot s p k i n [] [] (d ∷ ds) b m is b_at m_at all = absurd all
  work_slot s p k i n [] (y ∷ ms) ds b m is b_at m_at all = absurd all
  work_slot s p k i n (x ∷ bs) [] ds b m is b_at m_at all = absurd all
  work_slot s p k i n (x ∷ bs) (y ∷ ms) [] b m is b_at m_at all = absurd all
  work_slot s p k i zero (x ∷ bs) (y ∷ ms) (d ∷ ds) b m is b_at m_at all =
      let one : x ≡ b = cc b_at in
      let two : y ≡ m = cc m_at in
      let here : k ≡ i = omega (arith, is) in
      subst (λ (j : ℕ). MayWork kept (s j) b m (p j) d) here (subst (λ (z : List ℕ). MayWork kept (s k) b z (p k) d) two (subst (λ (z : BoardId). MayWork kept (s k) z y (p k) d) one all.0))
  work_slot s p k i (suc n) (x ∷ bs) (y ∷ ms) (d ∷ ds) b m is b_at m_at all = work_slot s p (suc k) i n bs ms ds b m (omega (arith, is)) b_at m_at all.1

  may_hand : (s : Stage) (b : BoardId) (m : List ℕ) (ps : List Pair) (x : Option (Desk (Writing H) (Pass X Y))) → MayWork kept s b m ps x → CanHand b m x
  may_hand s b m ps None w = tt
  may_hand s b m ps (Some d) w = (w.own, w.works.free, w.named)

  module _ {E : Type 0} (workers n : ℕ) (all : List Stored) (b : BoardId) (m : List ℕ) where
    pub record Slot (w : ℕ) (j : Job (Writing H) (Pass X Y) E) : Type 0 where
      pub stage : Stage
      pub its : List Pair
      pub may : MayWork kept stage b m its (desk_of n j)
      pub front : IsPrefix its (dealt_to (dealt workers m) w (pairs_for all m))

    slot_stopped : (w : ℕ) (boards : List BoardId) (names : List (List ℕ)) (j : Job (Writing H) (Pass X Y) E) → slice_get boards n ≡ Some b → slice_get names n ≡ Some m → Stopping kept workers all w boards names j → Slot w j
    slot_stopped w boards names j b_at m_at s =
        let name : name_at names n ≡ m = at_place names n m m_at [] in
        record {
          stage = s.stages n;
          its = s.pairs n;
          may = work_slot s.stages s.pairs 0 n n boards names j.desks.items b m (omega arith) b_at m_at s.works;
          front = subst (λ (x : List ℕ). IsPrefix (s.pairs n) (dealt_to (dealt workers x) w (pairs_for all x))) name (s.front n m m_at);
        }

    -- ---- of all workers

    column_works : (stages : ℕ → Stage) (mine : ℕ → List Pair) (k : ℕ) (js : List (Job (Writing H) (Pass X Y) E)) → ((w i : ℕ) (j : Job (Writing H) (Pass X Y) E) → i ≡ k + w → slice_get js w ≡ Some j → MayWork kept (stages i) b m (mine i) (desk_of n j)) → ColumnWorks kept stages mine b m k (column n js)
    column_works stages mine k [] each = tt
    column_works stages mine k (j ∷ js) each = (each 0 k j (omega arith) refl, column_works stages mine (suc k) js (λ w i x is at. each (suc w) i x (omega (arith, is)) at))

    module _ (js : List (Job (Writing H) (Pass X Y) E)) (slots : (w : ℕ) (j : Job (Writing H) (Pass X Y) E) → slice_get js w ≡ Some j → Slot w j) where
      abbrev stage_in : (w : ℕ) (o : Option (Job (Writing H) (Pass X Y) E)) → slice_get js w ≡ o → Stage
      stage_in w None e = Flushed
      stage_in w (Some j) e = (slots w j e).stage

      abbrev its_in : (w : ℕ) (o : Option (Job (Writing H) (Pass X Y) E)) → slice_get js w ≡ o → List Pair
      its_in w None e = []
      its_in w (Some j) e = (slots w j e).its

      abbrev stage_at : ℕ → Stage
      stage_at w = stage_in w (slice_get js w) refl

      abbrev its_at : ℕ → List Pair
      its_at w = its_in w (slice_get js w) refl

      may_in : (w : ℕ) (j : Job (Writing H) (Pass X Y) E) (o : Option (Job (Writing H) (Pass X Y) E)) (e : slice_get js w ≡ o) → o ≡ Some j → MayWork kept (stage_in w o e) b m (its_in w o e) (desk_of n j)
      may_in w j None e is = absurd (cc is)
      may_in w j (Some i) e is = let same : i ≡ j = cc is in subst (λ (k : Job (Writing H) (Pass X Y) E). MayWork kept (slots w i e).stage b m (slots w i e).its (desk_of n k)) same (slots w i e).may

      front_in : (w : ℕ) (j : Job (Writing H) (Pass X Y) E) (o : Option (Job (Writing H) (Pass X Y) E)) (e : slice_get js w ≡ o) → o ≡ Some j → IsPrefix (its_in w o e) (dealt_to (dealt workers m) w (pairs_for all m))
      front_in w j None e is = absurd (cc is)
      front_in w j (Some i) e is = (slots w i e).front

      column_is : ColumnWorks kept stage_at its_at b m 0 (column n js)
      column_is = column_works stage_at its_at 0 js (λ w i j is at.
          let here : w ≡ i = omega (arith, is) in
          subst (λ (v : ℕ). MayWork kept (stage_at v) b m (its_at v) (desk_of n j)) here (may_in w j (slice_get js w) refl at))

      front_at : (w : ℕ) → w < length (column n js) → IsPrefix (its_at w) (dealt_to (dealt workers m) w (pairs_for all m))
      front_at w lt = let long = column_long n js in let j = has_at js w (omega (arith, lt, long)) in front_in w j.0 (slice_get js w) refl j.1

      within_at : (w : ℕ) (x : Pair) → w < length (column n js) → Contains (its_at w) x → Contains (pairs_for all m) x
      within_at w x lt c = let f = front_at w lt in dealt_among (dealt workers m) w (pairs_for all m) x (subst (λ (ps : List Pair). Contains ps x) f.1 (Contains-append_left (its_at w) f.0 x c))

-- ---- the last dataset, and those before it

module _ {D H X Y E : Type 0} (has : D → Option Contents) (faults : D → ℕ) (kept : H → Option (FileName → Option (List ℕ))) (start now : Option Holdings) (lost : ℕ) (all : List Stored) (l : OpenDatasets D) (ps : List (Pass X Y)) (js : List (Job (Writing H) (Pass X Y) E)) (c : Crewed has (Stopping kept (length js) all) start now lost l ps js) where
  abbrev Begun : ℕ → BoardId → OpenDataset D → Pass X Y → Type 0
  Begun n b h p = HasBegun has start lost b h p (desks_at n js)

  begun_at : (n : ℕ) (h : OpenDataset D) → slice_get l.each n ≡ Some h → MatchedAt Begun n n l.boards ps h
  begun_at n h at = matched_at Begun 0 n n l.boards l.each ps h (omega arith) at c.each

  passes_long : length ps ≡ length l.each
  passes_long = (matched_long Begun 0 l.boards l.each ps c.each).1

  desks_long : (w : ℕ) (j : Job (Writing H) (Pass X Y) E) → slice_get js w ≡ Some j → length j.desks.items ≡ length ps
  desks_long w j at =
      let s = c.works w j at in
      let a = work_long kept s.stages s.pairs 0 l.boards (names_of l.each) j.desks.items s.works in
      let b = length-map l.each (λ (h : OpenDataset D). h.name) in
      let d = passes_long in omega (arith, a, b, d)

  pub ends_first : Ends has faults kept l l ps ps js js
  ends_first = record {
    boards = refl;
    names = refl;
    front = prefix_same ps;
    jobs = record { long = refl; at = λ i j k a b. let same : j ≡ k = cc (a, b) in record { desks = ap (λ (x : Job (Writing H) (Pass X Y) E). x.desks.items) (sym same) ∙ sym (take_whole j.desks.items (length ps) (sym (desks_long i j a))) } };
    still = λ n lt. refl;
    ended = λ n h p le h_at p_at. absurd (let lt = inside ps n p p_at in omega (arith, le, lt));
  }

  module _ (m : OpenDatasets D) (qs rs : List (Pass X Y)) (ks : List (Job (Writing H) (Pass X Y) E)) (p : Pass X Y) (e : Ends has faults kept l m ps qs js ks) (popped : qs ≡ rs ++ p ∷ []) where
    pub one_less_long : length qs ≡ length rs + 1
    one_less_long = ap length popped ∙ length-append rs (p ∷ [])

    pass_at : slice_get ps (length rs) ≡ Some p
    pass_at = get_prefix qs ps (length rs) p e.front (ap (λ (xs : List (Pass X Y)). slice_get xs (length rs)) popped ∙ at_end rs p)

    pub rest_few : length rs < 2048
    rest_few = let a = inside ps (length rs) p pass_at in let b = passes_long in let f = c.opened.few in omega (arith, a, b, f)

    here : (h : OpenDataset D) × (slice_get l.each (length rs) ≡ Some h)
    here = has_at l.each (length rs) (let a = inside ps (length rs) p pass_at in let b = passes_long in omega (arith, a, b))

    begun : MatchedAt Begun (length rs) (length rs) l.boards ps here.0
    begun = begun_at (length rs) here.0 here.1

    third : begun.third ≡ p
    third = let a = begun.third_at in let b = pass_at in cc (a, b)

    has_begun : HasBegun has start lost begun.first here.0 p (desks_at (length rs) js)
    has_begun = subst (λ (q : Pass X Y). HasBegun has start lost begun.first here.0 q (desks_at (length rs) js)) third begun.holds

    held_still : slice_get m.each (length rs) ≡ Some here.0
    held_still = e.still (length rs) (let a = one_less_long in omega (arith, a)) ∙ here.1

    desk_still : (w : ℕ) (j k : Job (Writing H) (Pass X Y) E) → IsShorter (length qs) j k → desk_of (length rs) k ≡ desk_of (length rs) j
    desk_still w j k s = ap desk_in (ap (λ (ds : List (Option (Desk (Writing H) (Pass X Y)))). slice_get ds (length rs)) s.desks ∙ get_take j.desks.items (length rs) (length qs) (let a = one_less_long in omega (arith, a)))

    pub column_still : column (length rs) ks ≡ column (length rs) js
    column_still = go js ks e.jobs
      where
        go : (xs ys : List (Job (Writing H) (Pass X Y) E)) → Each (λ i. IsShorter (length qs)) xs ys → column (length rs) ys ≡ column (length rs) xs
        go [] [] a = refl
        go [] (y ∷ ys) a = absurd (let b = a.long in omega (arith, b))
        go (x ∷ xs) [] a = absurd (let b = a.long in omega (arith, b))
        go (x ∷ xs) (y ∷ ys) a =
            ap₂ (λ (d : Option (Desk (Writing H) (Pass X Y))) (ds : List (Option (Desk (Writing H) (Pass X Y)))). d ∷ ds) (desk_still 0 x y (a.at 0 x y refl refl))
            (go xs ys (Rattle.fd_bulk.proofs.Desks.each_behind (IsShorter (length qs)) x y xs ys a))

    hands : (w : ℕ) (k : Job (Writing H) (Pass X Y) E) → slice_get ks w ≡ Some k → (length k.desks.items ≡ length rs + 1) × CanHand begun.first here.0.name (desk_of (length rs) k)
    hands w k at =
        let back = Rattle.fd_bulk.proofs.Joined.each_back (IsShorter (length qs)) js ks w k e.jobs at in
        let j : Job (Writing H) (Pass X Y) E = back.0 in
        let s = c.works w j back.1 in
        let long = desks_long w j back.1 in
        let a = inside ps (length rs) p pass_at in
        let b = one_less_long in (
          ap length back.2.desks ∙ take_long j.desks.items (length qs) (omega (arith, long, a, b)) ∙ b,
          subst (CanHand begun.first here.0.name) (sym (desk_still w j k back.2))
              (may_hand kept (s.stages (length rs)) begun.first here.0.name (s.pairs (length rs)) (desk_of (length rs) j)
              (work_slot kept s.stages s.pairs 0 (length rs) (length rs) l.boards (names_of l.each) j.desks.items begun.first here.0.name (omega arith) begun.first_at (name_there l.each (length rs) here.0 here.1) s.works)),
        )

    pub can_end : CanEndOne (length rs) m p ks
    can_end = record {
      give = record {
        board = begun.first;
        held = here.0;
        board_at = ap (λ (bs : List BoardId). slice_get bs (length rs)) e.boards ∙ begun.first_at;
        held_at = held_still;
        own = has_begun.own;
        free = has_begun.free;
        each = hands;
      };
      out = has_begun.out;
      subject = has_begun.subject;
      parts =
          let a = has_begun.parts in
          let d : length (somes (column (length rs) js)) ≡ here.0.lent = ap length (sym (desks_column (length rs) js)) ∙ has_begun.lent in
          let f : parts_in (column (length rs) ks) ≡ length (somes (column (length rs) js)) = ap parts_in column_still ∙ all_parts_one has here.0 (column (length rs) js) (subst (All (Rattle.fd_bulk.specs.Crewing.IsLent has here.0)) (desks_column (length rs) js) has_begun.each) in
          omega (arith, a, d, f);
    }

    module _ (m₂ : OpenDatasets D) (ks₂ : List (Job (Writing H) (Pass X Y) E)) (ch : Changes (length rs) m m₂ (EndedAs has faults kept (view p) (column (length rs) ks))) (shorter : Each (λ i. IsShorter (length rs)) ks ks₂) where
      before_is : ch.before ≡ here.0
      before_is = let a = ch.was in let b = held_still in cc (a, b)

      how : EndedAs has faults kept (view p) (column (length rs) js) here.0 ch.after
      how = subst (λ (h : OpenDataset D). EndedAs has faults kept (view p) (column (length rs) js) h ch.after) before_is (subst (λ (ds : List (Option (Desk (Writing H) (Pass X Y)))). EndedAs has faults kept (view p) ds ch.before ch.after) column_still ch.how)

      name_same : ch.after.name ≡ ch.before.name
      name_same = Rattle.fd_bulk.proofs.Ended.ended_name has faults kept (view p) (column (length rs) js) ch.before ch.after (subst (λ (ds : List (Option (Desk (Writing H) (Pass X Y)))). EndedAs has faults kept (view p) ds ch.before ch.after) column_still ch.how)

      after_at : slice_get m₂.each (length rs) ≡ Some ch.after
      after_at = ap (λ (hs : List (OpenDataset D)). slice_get hs (length rs)) ch.is ∙ get_set m.each (length rs) ch.before ch.after ch.was

      other_at : (i : ℕ) → (i ≡ length rs → ⊥) → slice_get m₂.each i ≡ slice_get m.each i
      other_at i other = ap (λ (hs : List (OpenDataset D)). slice_get hs i) ch.is ∙ get_other m.each (length rs) i ch.after other

      pub ends_next : Ends has faults kept l m₂ ps rs js ks₂
      ends_next = record {
        boards = ch.boards ∙ e.boards;
        names = ap names_of ch.is ∙ names_set m.each (length rs) ch.before ch.after ch.was name_same ∙ e.names;
        front = prefix_on rs qs ps (p ∷ [], sym popped) e.front;
        jobs = record {
          long = shorter.long ∙ e.jobs.long;
          at = λ i j k a b.
              let there = Rattle.fd_bulk.proofs.Joined.each_back (IsShorter (length rs)) ks ks₂ i k shorter b in
              let first = e.jobs.at i j there.0 a there.1 in
              record { desks = there.2.desks ∙ ap (take (length rs)) first.desks ∙ take_twice j.desks.items (length rs) (length qs) (let x = one_less_long in omega (arith, x)) };
        };
        still = λ i lt. other_at i (λ is. absurd (omega (arith, lt, is))) ∙ e.still i (let x = one_less_long in omega (arith, x, lt));
        ended = λ i h q le h_at q_at. go i h q le h_at q_at (i == length rs) refl;
      }
        where
          go : (i : ℕ) (h : OpenDataset D) (q : Pass X Y) → length rs ≤ i → slice_get l.each i ≡ Some h → slice_get ps i ≡ Some q → (b : Bool) → (i == length rs) ≡ b → IsEnded has faults kept i (view q) (column i js) h m₂
          go i h q le h_at q_at true is =
              let same : i ≡ length rs = equal_is i (length rs) is in
              let one : here.0 ≡ h = (let a = here.1 in let b = ap (slice_get l.each) (sym same) ∙ h_at in cc (a, b)) in
              let two : p ≡ q = (let a = pass_at in let b = ap (slice_get ps) (sym same) ∙ q_at in cc (a, b)) in
              subst (λ (k : ℕ). IsEnded has faults kept k (view q) (column k js) h m₂) (sym same)
              (record { after = ch.after; after_at = after_at; how = subst (λ (k : OpenDataset D). EndedAs has faults kept (view q) (column (length rs) js) k ch.after) one (subst (λ (z : Pass X Y). EndedAs has faults kept (view z) (column (length rs) js) here.0 ch.after) two how) })
          go i h q le h_at q_at false is =
              let other : i ≡ length rs → ⊥ = λ f. absurd (let t = equal_to i (length rs) f in cc (is, t)) in
              let old = e.ended i h q (let x = one_less_long in grind (arith, x, le, other)) h_at q_at in
              record { after = old.after; after_at = other_at i other ∙ old.after_at; how = old.how }

  -- ---- all is back

  module _ (m : OpenDatasets D) (ks : List (Job (Writing H) (Pass X Y) E)) (e : Ends has faults kept l m ps [] js ks) where
    -- one dataset of those that are open
    pub record Back (n : ℕ) (g : OpenDataset D) : Type 0 where
      pub before : OpenDataset D
      pub before_at : slice_get l.each n ≡ Some before
      pub board : BoardId
      pub board_at : slice_get l.boards n ≡ Some board
      pub pass : Pass X Y
      pub begun : HasBegun has start lost board before pass (somes (column n js))
      pub ended : EndedAs has faults kept (view pass) (column n js) before g
      pub same_name : g.name ≡ before.name

    back_at : (n : ℕ) (g : OpenDataset D) → slice_get m.each n ≡ Some g → Back n g
    back_at n g at =
        let long : length m.each ≡ length l.each = sym (length-map m.each (λ (h : OpenDataset D). h.name)) ∙ ap length e.names ∙ length-map l.each (λ (h : OpenDataset D). h.name) in
        let lt = inside m.each n g at in
        let h = has_at l.each n (omega (arith, lt, long)) in
        let r = begun_at n h.0 h.1 in
        let d = e.ended n h.0 r.third (omega arith) h.1 r.third_at in
        let same : d.after ≡ g = (let a = d.after_at in cc (a, at)) in
        let ended = subst (λ (k : OpenDataset D). EndedAs has faults kept (view r.third) (column n js) h.0 k) same d.how in
        record {
          before = h.0;
          before_at = h.1;
          board = r.first;
          board_at = r.first_at;
          pass = r.third;
          begun = subst (HasBegun has start lost r.first h.0 r.third) (desks_column n js) r.holds;
          ended = ended;
          same_name = Rattle.fd_bulk.proofs.Ended.ended_name has faults kept (view r.third) (column n js) h.0 g ended;
        }

    below_workers : (name key : List ℕ) (n : ℕ) → dealt (length js) name key < length (column n js)
    below_workers name key n =
        let some = c.some in
        let lt : dealt (length js) name key < length js = mod-lt (sum name + sum key) (omega (arith, some)) in
        let long = column_long n js in omega (arith, lt, long)

    module _ (n : ℕ) (g : OpenDataset D) (at : slice_get m.each n ≡ Some g) where
      k : Back n g
      k = back_at n g at

      slots : (w : ℕ) (j : Job (Writing H) (Pass X Y) E) → slice_get js w ≡ Some j → Slot kept (length js) n all k.board k.before.name w j
      slots w j j_at = slot_stopped kept (length js) n all k.board k.before.name w l.boards (names_of l.each) j k.board_at (name_there l.each n k.before k.before_at) (c.works w j j_at)

      one_back : IsBack has (length js) all g
      one_back = is_back has faults kept start lost k.board k.before g k.pass (column n js) k.begun k.ended (stage_at kept (length js) n all k.board k.before.name js slots) (its_at kept (length js) n all k.board k.before.name js slots)
          (column_is kept (length js) n all k.board k.before.name js slots) (length js) (column_long n js) all (dealt (length js) k.before.name) (front_at kept (length js) n all k.board k.before.name js slots) (within_at kept (length js) n all k.board k.before.name js slots)

      -- a worker with a segment that waits has stored a message of it
      one_some : (w : ℕ) (j : Job (Writing H) (Pass X Y) E) → slice_get js w ≡ Some j → (d : Desk (Writing H) (Pass X Y)) → slice_get j.desks.items n ≡ Some (Some d) → HasSealed d.archiver → pairs_for all g.name ≡ [] → ⊥
      one_some w j j_at d d_at sealed none =
          let s = slots w j j_at in
          let here : desk_of n j ≡ Some d = ap desk_in d_at in
          let works = subst (MayWork kept s.stage k.board k.before.name s.its) here s.may in
          let front = s.front in
          let all_none : pairs_for all k.before.name ≡ [] = ap (pairs_for all) (sym k.same_name) ∙ none in
          let dealt_none : dealt_to (dealt (length js) k.before.name) w (pairs_for all k.before.name) ≡ [] = ap (dealt_to (dealt (length js) k.before.name) w) all_none in
          sealed_some kept s.stage s.its d.archiver (view d.pass) works.works sealed (no_front s.its front.0 (front.1 ∙ dealt_none))

      -- what was listed when it was opened is what the store held
      one_opening : (s : Holdings) (b : List (List Pair)) → start ≡ Some s → held_of s g.name ≡ Some b → IfSome g.pass (λ p. length b ≡ p.view.opening)
      one_opening s b is base = openings has faults kept start lost k.board k.before g k.pass (column n js) k.begun k.ended b (k.begun.holds s b is (ap (held_of s) (sym k.same_name) ∙ base))

      one_grown : (s : Holdings) (b : List (List Pair)) → start ≡ Some s → held_of s g.name ≡ Some b → Adds (length js) (pairs_for all g.name) b (held_in has g)
      one_grown s b is base =
          let name = k.same_name in
          subst (λ (w : ℕ). Adds w (pairs_for all g.name) b (held_in has g)) (column_long n js)
          (subst (λ (x : List ℕ). Adds (length (column n js)) (pairs_for all x) b (held_in has g)) (sym name)
          (grown has faults kept start lost k.board k.before g k.pass (column n js) k.begun k.ended (stage_at kept (length js) n all k.board k.before.name js slots) (its_at kept (length js) n all k.board k.before.name js slots)
          (column_is kept (length js) n all k.board k.before.name js slots) (dealt (length js) k.before.name) (pairs_for all k.before.name) (λ key. below_workers k.before.name key n) (front_at kept (length js) n all k.board k.before.name js slots) b
          (k.begun.holds s b is (ap (held_of s) (sym name) ∙ base))))

    names_now : (x : List ℕ) → among x (names_of m.each) ≡ among x (names_of l.each)
    names_now x = ap (among x) e.names

    distinct_now : AreDistinct (names_of m.each)
    distinct_now = subst AreDistinct (sym e.names) c.opened.distinct

    -- an open dataset of this text
    pub record Opened (x : List ℕ) : Type 0 where
      pub number : ℕ
      pub now_is : OpenDataset D
      pub at : slice_get m.each number ≡ Some now_is
      pub named : now_is.name ≡ x

    opened_as : (x : List ℕ) → among x (names_of l.each) ≡ true → Opened x
    opened_as x is =
        let p = among_place (names_of m.each) x (names_now x ∙ is) in
        let h = there_name m.each p.0 x p.1 in
        record { number = p.0; now_is = h.0; at = h.1; named = h.2 }

    held_now : (t : Holdings) (x : List ℕ) (o : Opened x) → held_with has m.each t x ≡ held_in has o.now_is
    held_now t x o = ap (held_with has m.each t) (sym o.named) ∙ held_there has m.each t o.number o.now_is distinct_now o.at

    rest_now : (s t : Holdings) (x : List ℕ) → HoldsRest (names_of l.each) s t → among x (names_of l.each) ≡ false → held_with has m.each t x ≡ held_of s x
    rest_now s t x r out = held_outside has m.each t x (names_now x ∙ out) ∙ r.rest x out

    -- a dataset that is open wasn't damaged
    sound_first : (s : Holdings) → start ≡ Some s → (x : List ℕ) → among x (names_of m.each) ≡ true → IsUndamaged x (folder_at s x)
    sound_first s is x there =
        let o = opened_as x (sym (names_now x) ∙ there) in
        let b = back_at o.number o.now_is o.at in
        subst (λ (n : List ℕ). IsUndamaged n (folder_at s n)) (sym b.same_name ∙ o.named) (subst (λ (h : Option Holdings). IfSome h (λ u. IsUndamaged b.before.name (folder_at u b.before.name))) is b.begun.undamaged)

    grows_told : (s t : Holdings) → start ≡ Some s → HoldsRest (names_of l.each) s t → Grows has (length js) all m.each s t
    grows_told s t is r = record {
      schema = r.schema;
      each_is = λ x b base. go x b base (true_or_false (among x (names_of l.each)));
      openings = all_from (λ (g : OpenDataset D). (b : List (List Pair)) → held_of s g.name ≡ Some b → IfSome g.pass (λ p. length b ≡ p.view.opening)) m.each (λ n g at b base. one_opening n g at s b is base);
      sound = λ x there. sound_first s is x there;
      keeps = λ x out. r.keeps x (sym (names_now x) ∙ out);
    }
      where
        go : (x : List ℕ) (b : List (List Pair)) → held_of s x ≡ Some b → (among x (names_of l.each) ≡ true) ⊎ (among x (names_of l.each) ≡ false) → Adds (length js) (pairs_for all x) b (held_with has m.each t x)
        go x b base (inl there) =
            let o = opened_as x there in
            subst (Adds (length js) (pairs_for all x) b) (sym (held_now t x o))
            (subst (λ (y : List ℕ). Adds (length js) (pairs_for all y) b (held_in has o.now_is)) o.named (one_grown o.number o.now_is o.at s b is (ap (held_of s) o.named ∙ base)))
        go x b base (inr out) = none_added (length js) (pairs_for all x) b (held_with has m.each t x) (rest_now s t x r out ∙ base)

    pub grows : WhereTold start now (Grows has (length js) all m.each) × All (IsBack has (length js) all) m.each
    grows = (told start now refl c.rest, all_from (IsBack has (length js) all) m.each (λ n g at. one_back n g at))
      where
        told : (a b : Option Holdings) → start ≡ a → WhereTold a b (HoldsRest (names_of l.each)) → WhereTold a b (Grows has (length js) all m.each)
        told None None is r = tt
        told None (Some t) is r = absurd r
        told (Some s) None is r = absurd r
        told (Some s) (Some t) is r = grows_told s t is r

    -- a table that a worker saw full is one of these
    column_at : (n w : ℕ) (j : Job (Writing H) (Pass X Y) E) → slice_get js w ≡ Some j → slice_get (column n js) w ≡ Some (desk_of n j)
    column_at n w j at = go js w at
      where
        go : (xs : List (Job (Writing H) (Pass X Y) E)) (i : ℕ) → slice_get xs i ≡ Some j → slice_get (column n xs) i ≡ Some (desk_of n j)
        go [] i at = absurd (cc at)
        go (x ∷ xs) zero at = let same : x ≡ j = cc at in ap (λ (y : Job (Writing H) (Pass X Y) E). Some (desk_of n y)) same
        go (x ∷ xs) (suc i) at = go xs i at

    pub full : (w : ℕ) (j : Job (Writing H) (Pass X Y) E) → slice_get js w ≡ Some j → (n : ℕ) (d : Desk (Writing H) (Pass X Y)) → slice_get j.desks.items n ≡ Some (Some d) → length (view d.pass).history ≡ 65535 → HasSealed d.archiver → HasFull all m.each
    full w j at n d d_at many sealed =
        let lt = inside j.desks.items n (Some d) d_at in
        let a = desks_long w j at in
        let b = passes_long in
        let long : length m.each ≡ length l.each = sym (length-map m.each (λ (h : OpenDataset D). h.name)) ∙ ap length e.names ∙ length-map l.each (λ (h : OpenDataset D). h.name) in
        let g = has_at m.each n (omega (arith, lt, a, b, long)) in
        let r = back_at n g.0 g.1 in
        (g.0, contains_at m.each n g.0 g.1, still_full has faults kept start lost r.board r.before g.0 r.pass (column n js) r.begun r.ended d w (column_at n w j at ∙ ap (λ (o : Option (Option (Desk (Writing H) (Pass X Y)))). Some (desk_in o)) d_at) many, one_some n g.0 g.1 w j at d d_at sealed)

    -- ---- and all is listed

    module _ (only : (x : List ℕ) → among x (names_of l.each) ≡ false → pairs_for all x ≡ []) (lists : (w : ℕ) (j : Job (Writing H) (Pass X Y) E) → slice_get js w ≡ Some j → AllWork kept (λ n. Flushed) (its_pairs (length js) (names_of l.each) w all) 0 l.boards (names_of l.each) j.desks.items) where
      module _ (n : ℕ) (g : OpenDataset D) (at : slice_get m.each n ≡ Some g) where
        kk : Back n g
        kk = back_at n g at

        abbrev its : ℕ → List Pair
        its w = dealt_to (dealt (length js) kk.before.name) w (pairs_for all kk.before.name)

        its_are : (w : ℕ) → its_pairs (length js) (names_of l.each) w all n ≡ its w
        its_are w =
            let name : name_at (names_of l.each) n ≡ kk.before.name = at_place (names_of l.each) n kk.before.name (name_there l.each n kk.before kk.before_at) [] in
            ap (λ (x : List ℕ). dealt_to (dealt (length js) x) w (pairs_for all x)) name

        whole : ColumnWorks kept (λ w. Flushed) its kk.board kk.before.name 0 (column n js)
        whole = column_works kept (length js) n all kk.board kk.before.name (λ w. Flushed) its 0 js (λ w i j is j_at.
            let here : w ≡ i = omega (arith, is) in
            subst (λ (v : ℕ). MayWork kept Flushed kk.board kk.before.name (its v) (desk_of n j)) here
            (subst (λ (x : List Pair). MayWork kept Flushed kk.board kk.before.name x (desk_of n j)) (its_are w)
            (work_slot kept (λ v. Flushed) (its_pairs (length js) (names_of l.each) w all) 0 n n l.boards (names_of l.each) j.desks.items kk.board kk.before.name (omega arith) kk.board_at (name_there l.each n kk.before kk.before_at) (lists w j j_at))))

        fronts : (w : ℕ) → w < length (column n js) → IsPrefix (its w) (dealt_to (dealt (length js) kk.before.name) w (pairs_for all kk.before.name))
        fronts w lt = prefix_same (dealt_to (dealt (length js) kk.before.name) w (pairs_for all kk.before.name))

        same_its : (w : ℕ) → w < length (column n js) → its w ≡ dealt_to (dealt (length js) kk.before.name) w (pairs_for all kk.before.name)
        same_its w lt = refl

        one_sure : IsSure has g
        one_sure = is_sure has faults kept start lost kk.board kk.before g kk.pass (column n js) kk.begun kk.ended (λ w. Flushed) its whole (λ w. refl)

        one_whole : (s : Holdings) (b : List (List Pair)) → start ≡ Some s → held_of s g.name ≡ Some b → AddsAll (length js) (pairs_for all g.name) b (held_in has g)
        one_whole s b is base =
            let name = kk.same_name in
            subst (λ (w : ℕ). AddsAll w (pairs_for all g.name) b (held_in has g)) (column_long n js)
            (subst (λ (x : List ℕ). AddsAll (length (column n js)) (pairs_for all x) b (held_in has g)) (sym name)
            (grown_all has faults kept start lost kk.board kk.before g kk.pass (column n js) kk.begun kk.ended (λ w. Flushed) its whole (dealt (length js) kk.before.name) (pairs_for all kk.before.name) (λ key. below_workers kk.before.name key n) fronts b
            (kk.begun.holds s b is (ap (held_of s) (sym name) ∙ base)) (λ w. refl) same_its))

      whole_told : (s t : Holdings) → start ≡ Some s → HoldsRest (names_of l.each) s t → GrowsAll has (length js) all m.each s t
      whole_told s t is r = record { schema = r.schema; each_is = λ x b base. go x b base (true_or_false (among x (names_of l.each))); only = λ x out. only x (sym (names_now x) ∙ out); sound = λ x there. sound_first s is x there; keeps = λ x out. r.keeps x (sym (names_now x) ∙ out) }
        where
          go : (x : List ℕ) (b : List (List Pair)) → held_of s x ≡ Some b → (among x (names_of l.each) ≡ true) ⊎ (among x (names_of l.each) ≡ false) → AddsAll (length js) (pairs_for all x) b (held_with has m.each t x)
          go x b base (inl there) =
              let o = opened_as x there in
              subst (AddsAll (length js) (pairs_for all x) b) (sym (held_now t x o))
              (subst (λ (y : List ℕ). AddsAll (length js) (pairs_for all y) b (held_in has o.now_is)) o.named (one_whole o.number o.now_is o.at s b is (ap (held_of s) o.named ∙ base)))
          go x b base (inr out) = none_added_all (length js) (pairs_for all x) b (held_with has m.each t x) (rest_now s t x r out ∙ base) (only x out)

      pub grows_all : WhereTold start now (GrowsAll has (length js) all m.each) × All (λ g. IsBack has (length js) all g × IsSure has g) m.each
      grows_all = (told start now refl c.rest, all_from (λ g. IsBack has (length js) all g × IsSure has g) m.each (λ n g at. (one_back n g at, one_sure n g at)))
        where
          told : (a b : Option Holdings) → start ≡ a → WhereTold a b (HoldsRest (names_of l.each)) → WhereTold a b (GrowsAll has (length js) all m.each)
          told None None is r = tt
          told None (Some t) is r = absurd r
          told (Some s) None is r = absurd r
          told (Some s) (Some t) is r = whole_told s t is r

-- ---- workers that listed all

module _ {D H X Y E : Type 0} (has : D → Option Contents) (faults : D → ℕ) (kept : H → Option (FileName → Option (List ℕ))) (start now : Option Holdings) (lost : ℕ) (all : List Stored) (l m : OpenDatasets D) (ps : List (Pass X Y)) (js ks : List (Job (Writing H) (Pass X Y) E)) (c : Crewed has (Finished kept (length js) all) start now lost l ps js) where
  stops : Crewed has (Stopping kept (length js) all) start now lost l ps js
  stops = record {
    some = c.some;
    few = c.few;
    opened = c.opened;
    each = c.each;
    works = λ w j at. record { stages = λ n. Flushed; pairs = its_pairs (length js) (names_of l.each) w all; works = (c.works w j at).works; front = λ n x x_at. prefix_same (its_pairs (length js) (names_of l.each) w all n) };
    rest = c.rest;
  }

  pub finished_grows : Ends has faults kept l m ps [] js ks → WhereTold start now (GrowsAll has (length js) all m.each) × All (λ g. IsBack has (length js) all g × IsSure has g) m.each
  finished_grows e =
      let first = has_at js 0 (let s = c.some in omega (arith, s)) in
      grows_all has faults kept start now lost all l ps js stops m ks e (c.works 0 first.0 first.1).only (λ w j at. (c.works w j at).works)
