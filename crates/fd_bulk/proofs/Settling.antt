-- What stands once the last round is stored, and once all is listed.
use Rattle.std.proofs.Common.{◌≡◌, ◌⊎◌, inl, inr, ◌≤◌, ℕ, ◌==◌, true, false, List, [], ◌∷◌, ◌++◌, length, Option, Some, None, Result, Ok, Err, refl, sym, ap, subst, ◌∙◌, append-nil, arith}
use Rattle.std.specs.Prelude.{IfSome}
use Rattle.std.proofs.lemmas.Bool.{eqb-true}
use Rattle.fd_bytes.specs.Causes.{Rose}
use Rattle.fd_disk.specs.declared.folders.FileName.{FileName}
use Rattle.fd_disk.specs.Folders.{Contents, Holdings}
use Rattle.fd_key.specs.Pairs.{Pair}
use Rattle.fd_schema.specs.Rules.{Rule}
use Rattle.fd_turn.specs.declared.board.Pass.{Pass}
use Rattle.fd_turn.specs.Passes.{BoardId}
use Rattle.fd_archiver.specs.declared.fault.FlushFault.{FlushFault}
use Rattle.fd_archiver.specs.Writing.{Writing}
use Rattle.fd_library.specs.Open.{OpenDatasets, names_of}
use Rattle.fd_stored.specs.Archiving.{Stored, Taken, taken}
use Rattle.fd_bulk.specs.declared.bulk.BulkFault.{BulkFault}
use Rattle.fd_bulk.specs.declared.bulk.BulkFault.TheVariants as faults
use Rattle.fd_bulk.specs.declared.reading.Counts.{Counts}
use Rattle.fd_shares.specs.declared.round.Job.{Job}
use Rattle.fd_shares.specs.declared.round.Parcel.{Parcel}
use Rattle.fd_bulk.specs.Archived.{IsFront, IsWholeTaken}
use Rattle.fd_bulk.specs.Crewing.{CanFinish, CanRun, Closes, Crewed, Deals, Finished, FinishedAs, OnFull, RanAs, Running, Stopping, Waits}
use Rattle.fd_bulk.specs.Inputs.{ComesTo, EndsAfter, EndsTaken, Halts, InputDealt, InputEnds, StandsAt, is_calm, is_listed, is_unread}
use Rattle.fd_shares.specs.Sharing.{AreParcels, its_pairs}
use Rattle.fd_shares.specs.Working.{Filling}

pub no_parcels : (ps : List Parcel) → (length ps == 0) ≡ true → ps ≡ []
no_parcels [] e = refl
no_parcels (p ∷ ps) e = let n = eqb-true _ _ e in absurd (omega arith)

none_waiting : (workers : ℕ) (names : List (List ℕ)) (waiting : List Stored) (ps : List Parcel) → ps ≡ [] → AreParcels workers names waiting ps → waiting ≡ []
none_waiting workers names [] ps none are = refl
none_waiting workers names (s ∷ ss) ps none are = absurd (subst (AreParcels workers names (s ∷ ss)) none are)

-- ---- what comes of the octets

pub ends_front : (Z : Type 0) (rules : List Rule) (given : List Pair) (left : Option (List ℕ)) (all : List Stored) (fault : BulkFault Z) → IfSome left (λ octets. EndsAfter fault all (taken rules given octets)) → IfSome left (λ octets. IsFront all (taken rules given octets))
ends_front Z rules given left all fault c = go left c
  where
    go : (o : Option (List ℕ)) → IfSome o (λ octets. EndsAfter fault all (taken rules given octets)) → IfSome o (λ octets. IsFront all (taken rules given octets))
    go None c = tt
    go (Some octets) c = (c.rest.stored, ap (λ (t : Taken). t.stored) c.is)

module _ {Z : Type 0} (rules : List Rule) (given : List Pair) (left after : Option (List ℕ)) (all : List Stored) where
  -- they come first of all
  pub front : (r : Result Counts (BulkFault Z)) → ComesTo rules given left after all r → IfSome left (λ octets. IsFront all (taken rules given octets))
  front (Ok counts) c = go left c.1
    where
      go : (o : Option (List ℕ)) → IfSome o (λ octets. IsWholeTaken all counts.junk (taken rules given octets)) → IfSome o (λ octets. IsFront all (taken rules given octets))
      go None c = tt
      go (Some octets) c = ([], c.stored ∙ sym (append-nil all))
  front (Err (faults.Input f)) c = go left c
    where
      go : (o : Option (List ℕ)) → IfSome o (λ octets. Rattle.fd_bulk.specs.Archived.HasRead rules given octets after all) → IfSome o (λ octets. IsFront all (taken rules given octets))
      go None c = tt
      go (Some octets) c = c.front
  front (Err (faults.Message at)) c = ends_front Z rules given left all (faults.Message at) c
  front (Err (faults.NoMap number field)) c = ends_front Z rules given left all (faults.NoMap number field) c
  front (Err (faults.Cut t)) c = ends_front Z rules given left all (faults.Cut t) c
  front (Err (faults.Key number why)) c = ends_front Z rules given left all (faults.Key number why) c
  front (Err (faults.NoRule number text)) c = ends_front Z rules given left all (faults.NoRule number text) c
  front (Err faults.Disk) c = ends_front Z rules given left all faults.Disk c
  front (Err (faults.NotATable dataset at want found)) c = ends_front Z rules given left all (faults.NotATable dataset at want found) c
  front (Err (faults.Damaged dataset damage)) c = ends_front Z rules given left all (faults.Damaged dataset damage) c
  front (Err (faults.TableFull count)) c = ends_front Z rules given left all (faults.TableFull count) c
  front (Err (faults.TooMany count)) c = ends_front Z rules given left all (faults.TooMany count) c
  front (Err faults.InputLimit) c = ends_front Z rules given left all faults.InputLimit c
  front (Err faults.NoMemory) c = ends_front Z rules given left all faults.NoMemory c

  -- a worker stopped: the others of them aren't looked at
  behind_front : (fault : BulkFault Z) → ((t : Taken) → EndsTaken fault t) → IfSome left (λ octets. IsFront all (taken rules given octets)) → IfSome left (λ octets. EndsAfter fault all (taken rules given octets))
  behind_front fault ends f = go left f
    where
      go : (o : Option (List ℕ)) → IfSome o (λ octets. IsFront all (taken rules given octets)) → IfSome o (λ octets. EndsAfter fault all (taken rules given octets))
      go None f = tt
      go (Some octets) f =
          let t : Taken = taken rules given octets in
          let rest : Taken = record { stored = f.0; refusal = t.refusal; junk = t.junk; next = t.next } in
          record { rest = rest; is = ap (λ (zs : List Stored). record { stored = zs; refusal = t.refusal; junk = t.junk; next = t.next }) f.1; ends = ends rest }

module _ {D H X Y F : Type 0} (has : D → Option Contents) (kept : H → Option (FileName → Option (List ℕ))) where
  -- ---- a worker that runs, or has listed all, might as well have stopped

  pub running_stops : (start now : Option Holdings) (lost : ℕ) (l : OpenDatasets D) (ps : List (Pass X Y)) (js : List (Job (Writing H) (Pass X Y) (FlushFault F))) (all : List Stored) → Crewed has (Running kept (length js) all) start now lost l ps js → Crewed has (Stopping kept (length js) all) start now lost l ps js
  running_stops start now lost l ps js all c = record {
    some = c.some;
    few = c.few;
    opened = c.opened;
    each = c.each;
    works = λ w j at. record {
      stages = λ n. Filling;
      pairs = its_pairs (length js) (names_of l.each) w all;
      works = (c.works w j at).works;
      front = λ n m is. ([], append-nil (its_pairs (length js) (names_of l.each) w all n));
    };
    rest = c.rest;
  }

  pub finished_stops : (start now : Option Holdings) (lost : ℕ) (l : OpenDatasets D) (ps : List (Pass X Y)) (js : List (Job (Writing H) (Pass X Y) (FlushFault F))) (all : List Stored) → Crewed has (Finished kept (length js) all) start now lost l ps js → Crewed has (Stopping kept (length js) all) start now lost l ps js
  finished_stops start now lost l ps js all c = record {
    some = c.some;
    few = c.few;
    opened = c.opened;
    each = c.each;
    works = λ w j at. record {
      stages = λ n. Rattle.fd_shares.specs.Working.Flushed;
      pairs = its_pairs (length js) (names_of l.each) w all;
      works = (c.works w j at).works;
      front = λ n m is. ([], append-nil (its_pairs (length js) (names_of l.each) w all n));
    };
    rest = c.rest;
  }

  -- ---- a worker stopped

  module _ {Z : Type 0} (rules : List Rule) (given : List Pair) (left after : Option (List ℕ)) (start now : Option Holdings) (l : OpenDatasets D) (ps : List (Pass X Y)) (js : List (Job (Writing H) (Pass X Y) (FlushFault F))) (How : ℕ → List Stored → ℕ → List BoardId → List (List ℕ) → Job (Writing H) (Pass X Y) (FlushFault F) → Type 0) (all : List Stored) (lost : ℕ) where
    pub stopped_so : (fault : BulkFault Z) → Crewed has (Stopping kept (length js) all) start now lost l ps js → OnFull fault js → IfSome left (λ octets. IsFront all (taken rules given octets)) → InputEnds has kept rules given left after start now l ps js How (Err fault)
    stopped_so (faults.Input x) c full f = absurd full
    stopped_so (faults.Message at) c full f = absurd full
    stopped_so (faults.NoMap number field) c full f = absurd full
    stopped_so (faults.Cut t) c full f = absurd full
    stopped_so (faults.Key number why) c full f = absurd full
    stopped_so (faults.NoRule number text) c full f = absurd full
    stopped_so faults.Disk c full f = record { all = all; lost = lost; ends = c; comes = behind_front rules given left after all faults.Disk (λ t. tt) f }
    stopped_so (faults.NotATable dataset at want found) c full f = absurd full
    stopped_so (faults.Damaged dataset damage) c full f = absurd full
    stopped_so (faults.TableFull count) c full f = record { all = all; lost = lost; ends = (c, full); comes = behind_front rules given left after all (faults.TableFull count) (λ t. tt) f }
    stopped_so (faults.TooMany count) c full f = absurd full
    stopped_so faults.InputLimit c full f = absurd full
    stopped_so faults.NoMemory c full f = record { all = all; lost = lost; ends = c; comes = behind_front rules given left after all faults.NoMemory (λ t. tt) f }

  -- ---- the last round

  module _ {Z : Type 0} (rules : List Rule) (given : List Pair) (left after : Option (List ℕ)) (start now : Option Holdings) (l : OpenDatasets D) (ps : List (Pass X Y)) (js : List (Job (Writing H) (Pass X Y) (FlushFault F))) (parcels : List Parcel) (found : Result Counts (BulkFault Z)) (m : InputDealt has kept rules given left after start now l ps js parcels found) where
    abbrev so_far : List Stored
    so_far = m.all ++ m.waiting

    -- what runs, or a halt
    pub record Runs : Type 0 where
      pub lost : ℕ
      pub crewed : Crewed has (Running kept (length js) m.all) start now lost l ps js
      pub waits : Waits (names_of l.each) m.waiting js parcels

    by_deals : {datasets : List (List ℕ)} → Deals has kept start now m.all m.waiting datasets l ps js parcels → Runs
    by_deals d = record { lost = 0; crewed = d.crewed; waits = d.waits }

    by_closes : Closes has kept start now m.all m.waiting l ps js parcels → Runs
    by_closes c = record { lost = 1; crewed = c.crewed; waits = c.waits }

    runs : (r : Result Counts (BulkFault Z)) → StandsAt has kept start now m.all m.waiting l ps js parcels r → Runs ⊎ (parcels ≡ [])
    runs (Ok counts) s = inl (by_deals s)
    runs (Err (faults.Input f)) s = inl (by_deals s)
    runs (Err (faults.Message at)) s = inl (by_closes s.0)
    runs (Err (faults.NoMap number field)) s = inl (by_closes s.0)
    runs (Err (faults.Cut t)) s = inl (by_closes s.0)
    runs (Err (faults.Key number why)) s = inl (by_closes s.0)
    runs (Err (faults.NoRule number text)) s = inl (by_closes s.0)
    runs (Err faults.Disk) s = elim s [ inl c ↦ inl (by_closes c) | inr h ↦ inr h.0.none ]
    runs (Err (faults.NotATable dataset at want found)) s = inl (by_closes s.0)
    runs (Err (faults.Damaged dataset damage)) s = inl (by_closes s.0)
    runs (Err (faults.TableFull count)) s = inr s.0.none
    runs (Err (faults.TooMany count)) s = inl (by_closes s.0)
    runs (Err faults.InputLimit) s = inl (by_closes s.0)
    runs (Err faults.NoMemory) s = elim s [ inl c ↦ inl (by_closes c) | inr h ↦ inr h.0.none ]

    run_from : Runs ⊎ (parcels ≡ []) → (length parcels == 0) ≡ false → Runs
    run_from (inl r) some = r
    run_from (inr none) some = absurd (cc (sym (ap (λ (xs : List Parcel). length xs == 0) none) ∙ some))

    pub can_run : (length parcels == 0) ≡ false → CanRun has kept l ps js parcels
    can_run some =
        let r = run_from (runs found m.stands) some in
        record { start = start; now = now; lost = r.lost; all = m.all; waiting = m.waiting; crewed = r.crewed; waits = r.waits; sum = m.sum }

    module _ (qs : List (Pass X Y)) (ks : List (Job (Writing H) (Pass X Y) (FlushFault F)))
        (ran : (lost : ℕ) → Crewed has (Running kept (length js) m.all) start now lost l ps js → Waits (names_of l.each) m.waiting js parcels → Crewed has (Running kept (length ks) so_far) start now lost l qs ks)
        (halted : (fault : BulkFault Z) (h : Halts has kept start now so_far l ps js parcels) → OnFull fault js → Crewed has (Stopping kept (length ks) so_far) start now h.lost l qs ks × OnFull fault ks) where
      abbrev Ends : Result Counts (BulkFault Z) → Type 0
      Ends r = InputEnds has kept rules given left after start now l qs ks (Running kept) r

      closed : Closes has kept start now m.all m.waiting l ps js parcels → Crewed has (Running kept (length ks) so_far) start now 1 l qs ks
      closed c = ran 1 c.crewed c.waits

      stopped : Closes has kept start now m.all m.waiting l ps js parcels → Crewed has (Stopping kept (length ks) so_far) start now 1 l qs ks
      stopped c = running_stops start now 1 l qs ks so_far (closed c)

      ending : (fault : BulkFault Z) → Closes has kept start now m.all m.waiting l ps js parcels ⊎ (Halts has kept start now so_far l ps js parcels × OnFull fault js) → (lost : ℕ) × Crewed has (Stopping kept (length ks) so_far) start now lost l qs ks
      ending fault (inl c) = (1, stopped c)
      ending fault (inr h) = (h.0.lost, (halted fault h.0 h.1).0)

      pub round : (r : Result Counts (BulkFault Z)) → StandsAt has kept start now m.all m.waiting l ps js parcels r → ComesTo rules given left after so_far r → Ends r
      round (Ok counts) s c = record { all = so_far; lost = 0; ends = (ran 0 s.crewed s.waits, s.met); comes = c }
      round (Err (faults.Input f)) s c = record { all = so_far; lost = 0; ends = ran 0 s.crewed s.waits; comes = c }
      round (Err (faults.Message at)) s c = record { all = so_far; lost = 1; ends = (closed s.0, s.2); comes = c }
      round (Err (faults.NoMap number field)) s c = record { all = so_far; lost = 1; ends = (closed s.0, s.2); comes = c }
      round (Err (faults.Cut t)) s c = record { all = so_far; lost = 1; ends = (closed s.0, s.2); comes = c }
      round (Err (faults.Key number why)) s c = record { all = so_far; lost = 1; ends = (closed s.0, s.2); comes = c }
      round (Err (faults.NoRule number text)) s c = record { all = so_far; lost = 1; ends = (closed s.0, s.2); comes = c }
      round (Err faults.Disk) s c = let e = ending faults.Disk s in record { all = so_far; lost = e.0; ends = e.1; comes = c }
      round (Err (faults.NotATable dataset at want found)) s c = record { all = so_far; lost = 1; ends = (stopped s.0, s.1); comes = c }
      round (Err (faults.Damaged dataset damage)) s c = record { all = so_far; lost = 1; ends = (stopped s.0, s.1); comes = c }
      round (Err (faults.TableFull count)) s c = let e = halted (faults.TableFull count) s.0 s.1 in record { all = so_far; lost = s.0.lost; ends = e; comes = c }
      round (Err (faults.TooMany count)) s c = record { all = so_far; lost = 1; ends = (closed s.0, s.2); comes = c }
      round (Err faults.InputLimit) s c = record { all = so_far; lost = 1; ends = (closed s.0, s.2); comes = c }
      round (Err faults.NoMemory) s c = let e = ending faults.NoMemory s in record { all = so_far; lost = e.0; ends = e.1; comes = c }

    -- no message waits
    pub stored_empty : parcels ≡ [] → InputEnds has kept rules given left after start now l ps js (Running kept) found
    stored_empty none = round ps js
        (λ lost c w. subst (λ (xs : List Stored). Crewed has (Running kept (length js) xs) start now lost l ps js) (sym (ap (λ (ys : List Stored). m.all ++ ys) (none_waiting (length js) (names_of l.each) m.waiting parcels none w.parcels_are) ∙ append-nil m.all)) c)
        (λ fault h f. (h.crewed, f)) found m.stands m.comes

    -- the last round was stored
    pub stored_round : (qs : List (Pass X Y)) (ks : List (Job (Writing H) (Pass X Y) (FlushFault F))) → (length parcels == 0) ≡ false
        → ((lost : ℕ) → Crewed has (Running kept (length js) m.all) start now lost l ps js → Waits (names_of l.each) m.waiting js parcels → Crewed has (Running kept (length ks) so_far) start now lost l qs ks)
        → InputEnds has kept rules given left after start now l qs ks (Running kept) found
    stored_round qs ks some ran = round qs ks ran (λ fault h f. absurd (cc (sym (ap (λ (xs : List Parcel). length xs == 0) h.none) ∙ some))) found m.stands m.comes

    -- a worker stopped in it
    pub stopped_round : (qs : List (Pass X Y)) (ks : List (Job (Writing H) (Pass X Y) (FlushFault F))) (fault : BulkFault Z) → (length parcels == 0) ≡ false
        → ((lost : ℕ) → Crewed has (Running kept (length js) m.all) start now lost l ps js → Waits (names_of l.each) m.waiting js parcels → RanAs has kept {Z = Z} start now lost so_far (Err fault) l qs ks)
        → InputEnds has kept rules given left after start now l qs ks (Running kept) (Err fault)
    stopped_round qs ks fault some ran =
        let r = run_from (runs found m.stands) some in
        let s = ran r.lost r.crewed r.waits in
        stopped_so rules given left after start now l qs ks (Running kept) so_far r.lost fault s.0 s.1 (front rules given left after so_far found m.comes)

    pub full_round : (qs : List (Pass X Y)) (ks : List (Job (Writing H) (Pass X Y) (FlushFault F))) (fault : BulkFault Z) → (length parcels == 0) ≡ false
        → ((lost : ℕ) → Crewed has (Running kept (length js) m.all) start now lost l ps js → Waits (names_of l.each) m.waiting js parcels → RanAs has kept {Z = Z} start now lost so_far (Err fault) l qs ks) → OnFull fault ks
    full_round qs ks fault some ran = let r = run_from (runs found m.stands) some in (ran r.lost r.crewed r.waits).1

  -- ---- what is pending is listed

  module _ {Z : Type 0} (rules : List Rule) (given : List Pair) (left after : Option (List ℕ)) (start now : Option Holdings) (l : OpenDatasets D) (ps : List (Pass X Y)) (js : List (Job (Writing H) (Pass X Y) (FlushFault F))) where
    -- or isn't to be
    pub unlisted : (r : Result Counts (BulkFault Z)) → is_listed r ≡ false → InputEnds has kept rules given left after start now l ps js (Running kept) r → InputEnds has kept rules given left after start now l ps js (Finished kept) r
    unlisted (Ok counts) e m = absurd (cc e)
    unlisted (Err (faults.Input f)) e m = absurd (cc e)
    unlisted (Err (faults.Message at)) e m = absurd (cc e)
    unlisted (Err (faults.NoMap number field)) e m = absurd (cc e)
    unlisted (Err (faults.Cut t)) e m = absurd (cc e)
    unlisted (Err (faults.Key number why)) e m = absurd (cc e)
    unlisted (Err (faults.NoRule number text)) e m = absurd (cc e)
    unlisted (Err faults.Disk) e m = record { all = m.all; lost = m.lost; ends = m.ends; comes = m.comes }
    unlisted (Err (faults.NotATable dataset at want found)) e m = record { all = m.all; lost = m.lost; ends = m.ends; comes = m.comes }
    unlisted (Err (faults.Damaged dataset damage)) e m = record { all = m.all; lost = m.lost; ends = m.ends; comes = m.comes }
    unlisted (Err (faults.TableFull count)) e m = record { all = m.all; lost = m.lost; ends = m.ends; comes = m.comes }
    unlisted (Err (faults.TooMany count)) e m = absurd (cc e)
    unlisted (Err faults.InputLimit) e m = absurd (cc e)
    unlisted (Err faults.NoMemory) e m = record { all = m.all; lost = m.lost; ends = m.ends; comes = m.comes }

    runs_on : (r : Result Counts (BulkFault Z)) → is_listed r ≡ true → (m : InputEnds has kept rules given left after start now l ps js (Running kept) r) → Crewed has (Running kept (length js) m.all) start now m.lost l ps js
    runs_on (Ok counts) e m = m.ends.0
    runs_on (Err (faults.Input f)) e m = m.ends
    runs_on (Err (faults.Message at)) e m = m.ends.0
    runs_on (Err (faults.NoMap number field)) e m = m.ends.0
    runs_on (Err (faults.Cut t)) e m = m.ends.0
    runs_on (Err (faults.Key number why)) e m = m.ends.0
    runs_on (Err (faults.NoRule number text)) e m = m.ends.0
    runs_on (Err faults.Disk) e m = absurd (cc e)
    runs_on (Err (faults.NotATable dataset at want found)) e m = absurd (cc e)
    runs_on (Err (faults.Damaged dataset damage)) e m = absurd (cc e)
    runs_on (Err (faults.TableFull count)) e m = absurd (cc e)
    runs_on (Err (faults.TooMany count)) e m = m.ends.0
    runs_on (Err faults.InputLimit) e m = m.ends.0
    runs_on (Err faults.NoMemory) e m = absurd (cc e)

    pub can_finish : (r : Result Counts (BulkFault Z)) → is_listed r ≡ true → InputEnds has kept rules given left after start now l ps js (Running kept) r → CanFinish has kept l ps js
    can_finish r e m = record { start = start; now = now; lost = m.lost; all = m.all; crewed = runs_on r e m }

    module _ (qs : List (Pass X Y)) (ks : List (Job (Writing H) (Pass X Y) (FlushFault F))) where
      pub listed : (r : Result Counts (BulkFault Z)) → is_listed r ≡ true → (m : InputEnds has kept rules given left after start now l ps js (Running kept) r)
          → (Crewed has (Running kept (length js) m.all) start now m.lost l ps js → Crewed has (Finished kept (length ks) m.all) start now m.lost l qs ks)
          → InputEnds has kept rules given left after start now l qs ks (Finished kept) r
      listed (Ok counts) e m lists = record { all = m.all; lost = m.lost; ends = (lists m.ends.0, m.ends.1); comes = m.comes }
      listed (Err (faults.Input f)) e m lists = record { all = m.all; lost = m.lost; ends = lists m.ends; comes = m.comes }
      listed (Err (faults.Message at)) e m lists = record { all = m.all; lost = m.lost; ends = (lists m.ends.0, m.ends.1); comes = m.comes }
      listed (Err (faults.NoMap number field)) e m lists = record { all = m.all; lost = m.lost; ends = (lists m.ends.0, m.ends.1); comes = m.comes }
      listed (Err (faults.Cut t)) e m lists = record { all = m.all; lost = m.lost; ends = (lists m.ends.0, m.ends.1); comes = m.comes }
      listed (Err (faults.Key number why)) e m lists = record { all = m.all; lost = m.lost; ends = (lists m.ends.0, m.ends.1); comes = m.comes }
      listed (Err (faults.NoRule number text)) e m lists = record { all = m.all; lost = m.lost; ends = (lists m.ends.0, m.ends.1); comes = m.comes }
      listed (Err faults.Disk) e m lists = absurd (cc e)
      listed (Err (faults.NotATable dataset at want found)) e m lists = absurd (cc e)
      listed (Err (faults.Damaged dataset damage)) e m lists = absurd (cc e)
      listed (Err (faults.TableFull count)) e m lists = absurd (cc e)
      listed (Err (faults.TooMany count)) e m lists = record { all = m.all; lost = m.lost; ends = (lists m.ends.0, m.ends.1); comes = m.comes }
      listed (Err faults.InputLimit) e m lists = record { all = m.all; lost = m.lost; ends = (lists m.ends.0, m.ends.1); comes = m.comes }
      listed (Err faults.NoMemory) e m lists = absurd (cc e)

      -- a worker stopped
      pub stopped_listing : (r : Result Counts (BulkFault Z)) (fault : BulkFault Z) → is_listed r ≡ true → (m : InputEnds has kept rules given left after start now l ps js (Running kept) r)
          → (Crewed has (Running kept (length js) m.all) start now m.lost l ps js → FinishedAs has kept {Z = Z} start now m.lost m.all (Err fault) l qs ks)
          → InputEnds has kept rules given left after start now l qs ks (Finished kept) (Err fault)
      stopped_listing r fault e m lists =
          let s = lists (runs_on r e m) in
          stopped_so rules given left after start now l qs ks (Finished kept) m.all m.lost fault s.0 s.1 (front rules given left after m.all r m.comes)

      pub full_listing : (r : Result Counts (BulkFault Z)) (fault : BulkFault Z) → is_listed r ≡ true → (m : InputEnds has kept rules given left after start now l ps js (Running kept) r)
          → (Crewed has (Running kept (length js) m.all) start now m.lost l ps js → FinishedAs has kept {Z = Z} start now m.lost m.all (Err fault) l qs ks) → OnFull fault ks
      full_listing r fault e m lists = (lists (runs_on r e m)).1

-- a worker's refusal says nothing of a read
pub not_calm : {H X Y F Z : Type 0} (js : List (Job (Writing H) (Pass X Y) (FlushFault F))) (fault : BulkFault Z) → OnFull fault js → is_calm fault ≡ false
not_calm js (faults.Input f) full = absurd full
not_calm js (faults.Message at) full = absurd full
not_calm js (faults.NoMap number field) full = absurd full
not_calm js (faults.Cut t) full = absurd full
not_calm js (faults.Key number why) full = absurd full
not_calm js (faults.NoRule number text) full = absurd full
not_calm js faults.Disk full = refl
not_calm js (faults.NotATable dataset at want found) full = absurd full
not_calm js (faults.Damaged dataset damage) full = absurd full
not_calm js (faults.TableFull count) full = refl
not_calm js (faults.TooMany count) full = absurd full
not_calm js faults.InputLimit full = absurd full
not_calm js faults.NoMemory full = refl

pub not_unread_full : {H X Y F Z : Type 0} (js : List (Job (Writing H) (Pass X Y) (FlushFault F))) (fault : BulkFault Z) → OnFull fault js → is_unread fault ≡ false
not_unread_full js (faults.Input f) full = absurd full
not_unread_full js (faults.Message at) full = absurd full
not_unread_full js (faults.NoMap number field) full = absurd full
not_unread_full js (faults.Cut t) full = absurd full
not_unread_full js (faults.Key number why) full = absurd full
not_unread_full js (faults.NoRule number text) full = absurd full
not_unread_full js faults.Disk full = refl
not_unread_full js (faults.NotATable dataset at want found) full = absurd full
not_unread_full js (faults.Damaged dataset damage) full = absurd full
not_unread_full js (faults.TableFull count) full = refl
not_unread_full js (faults.TooMany count) full = absurd full
not_unread_full js faults.InputLimit full = absurd full
not_unread_full js faults.NoMemory full = refl

-- ---- counts of faults

pub rose_later : (first second last : ℕ) → first ≤ second → Rose second last → Rose first last
rose_later first second last le rose = λ small. let lt = rose small in omega (arith, le, lt)
