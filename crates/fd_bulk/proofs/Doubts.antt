-- What the workers have in doubt of one dataset.
use Rattle.std.proofs.Common.{◌≡◌, ◌≢◌, inl, inr, ◌<◌, ◌≤◌, ◌+◌, ◌*◌, ◌/◌, ℕ, zero, suc, true, List, [], ◌∷◌, ◌++◌, All, length, slice_get, Option, Some, None, is_some, refl, sym, ap, ap₂, subst, ◌∙◌, arith, length-append}
use Rattle.std.specs.Prelude.{Contains}
use mathlib.Core.List.{IsPrefix}
use Rattle.std.proofs.lemmas.List.Elements.{All-append, All-cons, All-nil, Contains-append_right}
use Rattle.fd_disk.specs.declared.folders.FileName.{FileName}
use Rattle.fd_entries.specs.declared.batch.Listing.{Listing}
use Rattle.fd_entries.specs.declared.batch.Pair.{Pair}
use Rattle.fd_segment.specs.Held.{Standing, batch_of}
use Rattle.fd_turn.specs.declared.board.Pass.{Pass}
use Rattle.fd_turn.specs.Passes.{BoardId, view}
use Rattle.fd_turn.specs.Views.{View}
use Rattle.fd_dataset.specs.Listed.{listing}
use Rattle.fd_archiver.specs.Writing.{IsKept, IsPendingIn, IsSealedFrom, Writing}
use Rattle.fd_shares.specs.declared.round.Desk.{Desk}
use Rattle.fd_bulk.specs.Adding.{IsHeldBy, IsOnlyOf}
use Rattle.fd_bulk.specs.Columns.{ColumnWorks, amounts}
use Rattle.fd_shares.specs.Dealing.{dealt_to}
use Rattle.fd_bulk.specs.Ending.{desk_in}
use Rattle.fd_shares.specs.Sharing.{MayWork}
use Rattle.fd_shares.specs.Working.{Emptied, Filling, Flushed, InDoubt, IsAtStage, IsDoubted, Stage, Stopped, Works, pairs_in}
use Rattle.fd_bulk.proofs.Columns.{stage_few}
use Rattle.fd_shares.proofs.Dealing.{few_of, some_pairs, total, total_bound, total_first}
use Rattle.fd_bulk.proofs.Handed.{AllHold, AllTell, Holds, doubts_in}
use Rattle.fd_bulk.proofs.Tables.{in_batch}

-- ---- of one worker

module _ {H : Type 0} (kept : H → Option (FileName → Option (List ℕ))) (stage : Stage) (its : List Pair) (w : Writing H) (v : View) (c : Works kept stage its w v) where
  sealed : (d : IsDoubted kept w (length c.receipts) (length (pairs_in c.receipts)) v.doubts) → IsSealedFrom w.told c.pending d.segment
  sealed d = (subst (λ (o : Option Standing). IsPendingIn w.told o w.draft c.pending) d.waits c.is_pending).1

  -- what holds of the segment that waits holds of each doubt
  of_doubts : (P : Listing → Type 0) → ((d : IsDoubted kept w (length c.receipts) (length (pairs_in c.receipts)) v.doubts) → P (listing d.segment)) → All P v.doubts
  of_doubts P f = go stage c.doubts
    where
      none : v.doubts ≡ [] → All P v.doubts
      none e = subst (All P) (sym e) (All-nil P)

      go : (st : Stage) → InDoubt kept st w (length c.receipts) (length (pairs_in c.receipts)) v.doubts → All P v.doubts
      go Filling d = none d
      go Emptied d = none d
      go Flushed d = none d
      go Stopped (inl e) = none e
      go Stopped (inr d) = subst (All P) (sym d.doubts_are) (All-cons P (listing d.segment) [] (f d) (All-nil P))

  -- it is of the worker's pairs
  doubt_only : (pairs : List Pair) → ((x : Pair) → Contains its x → Contains pairs x) → All (IsOnlyOf pairs) v.doubts
  doubt_only pairs within = of_doubts (IsOnlyOf pairs) (λ d. record {
    some = λ none. (sealed d).some (no_pairs c.pending (λ x there. let lt = (subst (λ (ps : List Pair). Contains ps x) none (among x there)).1 in omega (arith, lt)));
    only = λ batch batch_is key bytes there. among (record { key = key; bytes = bytes }) (in_batch c.pending key bytes ((sealed d).alike batch batch_is key ∙ there));
  })
    where
      among : (x : Pair) → Contains c.pending x → Contains pairs x
      among x there = within x (subst (λ (ps : List Pair). Contains ps x) (sym c.pairs_are) (Contains-append_right (pairs_in c.receipts) c.pending x there))

      no_pairs : (ps : List Pair) → ((x : Pair) → Contains ps x → ⊥) → ps ≡ []
      no_pairs [] not = refl
      no_pairs (x ∷ ps) not = absurd (not x (0, omega arith, refl))

  -- the folder that took the shelf's files has those of it
  doubt_held : (files : FileName → Option (List ℕ)) → w.told ≡ true → Holds kept w files → All (IsHeldBy files) v.doubts
  doubt_held files told holds = of_doubts (IsHeldBy files) (λ d. go d.segment (batch_of d.segment.files) refl ((sealed d).batch told) d.writer d.files)
    where
      go : (s : Standing) (o : Option (List Pair)) → batch_of s.files ≡ o → is_some o ≡ true → s.files.entry.writer ≡ w.writer → IsKept (kept w.shelf) s → IsHeldBy files (listing s)
      go s None e some owner there = absurd (cc some)
      go s (Some b) e some owner there = (b, e, holds.waits s b owner there e)

  -- it is counted with what the worker listed: each of these but one has 512 pairs
  doubt_few : 512 * (v.amount + length v.doubts) ≤ length its + 512
  doubt_few = go stage c.stands c.doubts
    where
      size : length its ≡ length (pairs_in c.receipts) + length c.pending
      size = ap length c.pairs_are ∙ length-append (pairs_in c.receipts) c.pending

      none : 512 * length c.receipts ≤ length (pairs_in c.receipts) + 512 → v.doubts ≡ [] → 512 * (v.amount + length v.doubts) ≤ length its + 512
      none le e = let l = ap length e in let a = c.amount in let s = size in omega (arith, le, l, a, s)

      few : (st : Stage) → IsAtStage st w (length c.receipts) (length (pairs_in c.receipts)) c.pending → 512 * length c.receipts ≤ length (pairs_in c.receipts) + 512
      few st at = stage_few st w (length c.receipts) (length (pairs_in c.receipts)) c.pending at

      go : (st : Stage) → IsAtStage st w (length c.receipts) (length (pairs_in c.receipts)) c.pending → InDoubt kept st w (length c.receipts) (length (pairs_in c.receipts)) v.doubts → 512 * (v.amount + length v.doubts) ≤ length its + 512
      go Filling at d = none (few Filling at) d
      go Emptied at d = none (few Emptied at) d
      go Flushed at d = none (few Flushed at) d
      go Stopped at (inl e) = none (few Stopped at) e
      go Stopped at (inr d) = let l = ap length d.doubts_are in let a = c.amount in let s = size in let f = d.full in omega (arith, l, a, s, f)

-- ---- of all workers

some_long : (ls : List Listing) → ls ≢ [] → 1 ≤ length ls
some_long [] not = absurd (not refl)
some_long (l ∷ ls) not = omega arith

module _ {H X Y : Type 0} where
  -- how many entries a worker's pass counts, with what it has in doubt
  abbrev weight : Option (Desk (Writing H) (Pass X Y)) → ℕ
  weight None = 0
  weight (Some d) = (view d.pass).amount + length (view d.pass).doubts

  abbrev weight_at : List (Option (Desk (Writing H) (Pass X Y))) → ℕ → ℕ
  weight_at ds w = weight (desk_in (slice_get ds w))

  total_weight : (ds : List (Option (Desk (Writing H) (Pass X Y)))) → total (weight_at ds) (length ds) ≡ amounts ds + length (doubts_in ds)
  total_weight [] = refl
  total_weight (None ∷ ds) =
      let e : total (weight_at (None ∷ ds)) (suc (length ds)) ≡ 0 + total (weight_at ds) (length ds) = total_first (weight_at (None ∷ ds)) (length ds) in
      let r = total_weight ds in
      e ∙ omega (arith, r)
  total_weight (Some d ∷ ds) =
      let e : total (weight_at (Some d ∷ ds)) (suc (length ds)) ≡ weight (Some d) + total (weight_at ds) (length ds) = total_first (weight_at (Some d ∷ ds)) (length ds) in
      let r = total_weight ds in
      let both = length-append (view d.pass).doubts (doubts_in ds) in
      e ∙ omega (arith, r, both)

module _ {H X Y : Type 0} (kept : H → Option (FileName → Option (List ℕ))) (stages : ℕ → Stage) (mine : ℕ → List Pair) (b : BoardId) (name : List ℕ) where
  pub all_only : (pairs : List Pair) (w : ℕ) (ds : List (Option (Desk (Writing H) (Pass X Y)))) → ((v : ℕ) (x : Pair) → w ≤ v → v < w + length ds → Contains (mine v) x → Contains pairs x) → ColumnWorks kept stages mine b name w ds → All (IsOnlyOf pairs) (doubts_in ds)
  all_only pairs w [] within works = All-nil (IsOnlyOf pairs)
  all_only pairs w (None ∷ ds) within works = all_only pairs (suc w) ds (λ v x ge lt. within v x (omega (arith, ge)) (omega (arith, lt))) works.1
  all_only pairs w (Some d ∷ ds) within works =
      All-append (IsOnlyOf pairs) (view d.pass).doubts (doubts_in ds) (doubt_only kept (stages w) (mine w) d.archiver (view d.pass) works.0.works pairs (λ x c. within w x (omega arith) (omega arith) c))
      (all_only pairs (suc w) ds (λ v x ge lt. within v x (omega (arith, ge)) (omega (arith, lt))) works.1)

  pub all_held : (files : FileName → Option (List ℕ)) (w : ℕ) (ds : List (Option (Desk (Writing H) (Pass X Y)))) → AllTell kept ds true → AllHold kept ds files → ColumnWorks kept stages mine b name w ds → All (IsHeldBy files) (doubts_in ds)
  all_held files w [] tell hold works = All-nil (IsHeldBy files)
  all_held files w (None ∷ ds) tell hold works = all_held files (suc w) ds tell hold works.1
  all_held files w (Some d ∷ ds) tell hold works =
      All-append (IsHeldBy files) (view d.pass).doubts (doubts_in ds) (doubt_held kept (stages w) (mine w) d.archiver (view d.pass) works.0.works files tell.0.1 hold.0) (all_held files (suc w) ds tell.1 hold.1 works.1)

  pub all_sure : (w : ℕ) (ds : List (Option (Desk (Writing H) (Pass X Y)))) → ((v : ℕ) → stages v ≡ Flushed) → ColumnWorks kept stages mine b name w ds → doubts_in ds ≡ []
  all_sure w [] flushed works = refl
  all_sure w (None ∷ ds) flushed works = all_sure (suc w) ds flushed works.1
  all_sure w (Some d ∷ ds) flushed works =
      let c = works.0.works in
      let none : (view d.pass).doubts ≡ [] = subst (λ (st : Stage). InDoubt kept st d.archiver (length c.receipts) (length (pairs_in c.receipts)) (view d.pass).doubts) (flushed w) c.doubts in
      ap₂ (λ (x y : List Listing). x ++ y) none (all_sure (suc w) ds flushed works.1)

  weight_few : (w : ℕ) (x : Option (Desk (Writing H) (Pass X Y))) → MayWork kept (stages w) b name (mine w) x → 512 * weight x ≤ length (mine w) + 512
  weight_few w None works = omega arith
  weight_few w (Some d) works = doubt_few kept (stages w) (mine w) d.archiver (view d.pass) works.works

  column_few : (k w i : ℕ) (ds : List (Option (Desk (Writing H) (Pass X Y)))) → ColumnWorks kept stages mine b name k ds → i ≡ k + w → w < length ds → 512 * weight_at ds w ≤ length (mine i) + 512
  column_few k w i [] works is lt = absurd (omega (arith, lt))
  column_few k zero i (x ∷ ds) works is lt = let here : k ≡ i = omega (arith, is) in subst (λ (j : ℕ). 512 * weight x ≤ length (mine j) + 512) here (weight_few k x works.0)
  column_few k (suc w) i (x ∷ ds) works is lt = column_few (suc k) w i ds works.1 (omega (arith, is)) (omega (arith, lt))

  -- where something is in doubt, one batch more is still few
  pub few_in_doubt : (deal : List ℕ → ℕ) (pairs : List Pair) (ds : List (Option (Desk (Writing H) (Pass X Y)))) → ColumnWorks kept stages mine b name 0 ds → ((w : ℕ) → w < length ds → IsPrefix (mine w) (dealt_to deal w pairs)) → doubts_in ds ≢ []
      → amounts ds + 1 ≤ length ds + length pairs / 512
  few_in_doubt deal pairs ds works front some =
      let bound = total_bound (weight_at ds) (λ w. length (dealt_to deal w pairs)) (length ds) (λ w lt.
      let one = column_few 0 w w ds works (omega arith) lt in
      let f = front w lt in
      let long : length (dealt_to deal w pairs) ≡ length (mine w) + length f.0 = ap length (sym f.1) ∙ length-append (mine w) f.0 in
      omega (arith, one, long)) in
      let all = total_weight ds in
      let dealt = some_pairs deal (length ds) pairs in
      let one = some_long (doubts_in ds) some in
      few_of (amounts ds + 1) (length ds) (length pairs) (omega (arith, bound, all, dealt, one))
