-- A dataset once all workers gave back what they had of it.
use Rattle.std.proofs.Common.{◌≡◌, ◌⊎◌, inl, inr, ◌<◌, ◌≤◌, ◌+◌, ◌*◌, ◌==◌, ℕ, zero, suc, Bool, true, false, if◌then◌else◌, List, [], ◌∷◌, ◌++◌, drop, length, take, Option, Some, None, Ok, refl, sym, ap, ap₂, subst, ◌∙◌, arith, length-append, append_assoc}
use mathlib.Core.List.{IsPrefix}
use Rattle.fd_disk.specs.declared.folders.FileName.{FileName}
use Rattle.fd_entries.specs.declared.batch.Listing.{Listing}
use Rattle.fd_entries.specs.declared.batch.Pair.{Pair}
use Rattle.fd_numbers.specs.Numbers.{Differ}
use Rattle.fd_turn.specs.declared.board.Pass.{Pass}
use Rattle.fd_turn.specs.Passes.{BoardId, view}
use Rattle.fd_dataset.specs.Listed.{entries_of}
use Rattle.fd_recovery.specs.Recovered.{batches_listed}
use Rattle.fd_archiver.specs.Writing.{Writing}
use Rattle.fd_shares.specs.declared.round.Desk.{Desk}
use Rattle.fd_stored.specs.Store.{Adds, AddsAll}
use Rattle.fd_bulk.specs.Columns.{AreHome, ColumnWorks, amounts, numbers}
use Rattle.fd_shares.specs.Dealing.{dealt_to}
use Rattle.fd_bulk.specs.Gathering.{AreLanes, Lane, receipts_of, writers_in}
use Rattle.fd_shares.specs.Merging.{joined, lane_at}
use Rattle.fd_bulk.specs.Tables.{AreListed, Every, IsHeld, listing_of, writer_of}
use Rattle.fd_shares.specs.Working.{IsAtStage, Sealing, Stage, pairs_in}
use Rattle.fd_shares.specs.Working.{Emptied, Filling, Flushed, Stopped}
use Rattle.fd_shares.proofs.Dealing.{equal_is}
use Rattle.fd_bulk.proofs.Lanes.{works_lane}
use Rattle.fd_bulk.proofs.Tables.{are_tables}

-- each batch of a worker but one has 512 pairs, wherever it stands
pub stage_few : {H : Type 0} (stage : Stage) (w : Writing H) (count size : ℕ) (pending : List Pair) → IsAtStage stage w count size pending → 512 * count ≤ size + 512
stage_few Filling w count size pending s = let le = s.2 in omega (arith, le)
stage_few Emptied w count size pending s = let le = s.2 in omega (arith, le)
stage_few Flushed w count size pending s = s.0
stage_few Stopped w count size pending s = s

-- no pair is dealt to a worker that there isn't
none_dealt : (deal : List ℕ → ℕ) (w : ℕ) (ps : List Pair) → ((key : List ℕ) → deal key ≡ w → ⊥) → dealt_to deal w ps ≡ []
none_dealt deal w [] not = refl
none_dealt deal w (p ∷ ps) not = go (deal p.key == w) refl (none_dealt deal w ps not)
  where
    go : (b : Bool) → (deal p.key == w) ≡ b → dealt_to deal w ps ≡ [] → (if b then p ∷ dealt_to deal w ps else dealt_to deal w ps) ≡ []
    go true is rest = absurd (not p.key (equal_is (deal p.key) w is))
    go false is rest = rest

-- what one worker listed
pub record LaneOf (stages : ℕ → Stage) (files : FileName → Option (List ℕ)) (v : ℕ) (receipts : List (ℕ × Sealing)) (its : List Pair) : Type 0 where
  pub pending : List Pair
  pub are : its ≡ pairs_in receipts ++ pending
  pub few : 512 * length receipts ≤ length (pairs_in receipts) + 512
  pub held : Every (IsHeld files) receipts
  pub all_listed : stages v ≡ Flushed → pending ≡ []

module _ {H X Y : Type 0} (kept : H → Option (FileName → Option (List ℕ))) (stages : ℕ → Stage) (mine : ℕ → List Pair) (b : BoardId) (name : List ℕ) where
  -- what each worker listed
  abbrev lanes : (w : ℕ) (ds : List (Option (Desk (Writing H) (Pass X Y)))) → ColumnWorks kept stages mine b name w ds → List (Lane Sealing)
  lanes w [] all = []
  lanes w (None ∷ ds) all = record { writer = None; receipts = [] } ∷ lanes (suc w) ds all.1
  lanes w (Some d ∷ ds) all = record { writer = Some d.archiver.writer; receipts = all.0.works.receipts } ∷ lanes (suc w) ds all.1

  lanes_long : (w : ℕ) (ds : List (Option (Desk (Writing H) (Pass X Y)))) (all : ColumnWorks kept stages mine b name w ds) → length (lanes w ds all) ≡ length ds
  lanes_long w [] all = refl
  lanes_long w (None ∷ ds) all = ap suc (lanes_long (suc w) ds all.1)
  lanes_long w (Some d ∷ ds) all = ap suc (lanes_long (suc w) ds all.1)

  lanes_writers : (w : ℕ) (ds : List (Option (Desk (Writing H) (Pass X Y)))) (all : ColumnWorks kept stages mine b name w ds) → writers_in (lanes w ds all) ≡ numbers ds
  lanes_writers w [] all = refl
  lanes_writers w (None ∷ ds) all = lanes_writers (suc w) ds all.1
  lanes_writers w (Some d ∷ ds) all = ap (λ (ns : List ℕ). d.archiver.writer ∷ ns) (lanes_writers (suc w) ds all.1)

  lanes_amount : (w : ℕ) (ds : List (Option (Desk (Writing H) (Pass X Y)))) (all : ColumnWorks kept stages mine b name w ds) → length (joined (receipts_of (lanes w ds all))) ≡ amounts ds
  lanes_amount w [] all = refl
  lanes_amount w (None ∷ ds) all = lanes_amount (suc w) ds all.1
  lanes_amount w (Some d ∷ ds) all =
      length-append all.0.works.receipts (joined (receipts_of (lanes (suc w) ds all.1))) ∙ ap₂ (λ (m n : ℕ). m + n) (sym all.0.works.amount) (lanes_amount (suc w) ds all.1)

  module _ (opening : ℕ) (history : List Listing) (files : FileName → Option (List ℕ)) where
    lanes_are : opening ≤ length history → (w : ℕ) (ds : List (Option (Desk (Writing H) (Pass X Y)))) (all : ColumnWorks kept stages mine b name w ds) → AreHome kept opening history files ds → AreLanes listing_of writer_of opening history (lanes w ds all)
    lanes_are le w [] all home = tt
    lanes_are le w (None ∷ ds) all home = ((le, tt, refl), lanes_are le (suc w) ds all.1 home)
    lanes_are le w (Some d ∷ ds) all home = (works_lane kept (stages w) (mine w) d.archiver (view d.pass) history opening all.0.works home.0.seen home.0.opening_is, lanes_are le (suc w) ds all.1 home.1)

    lane_of : (w v i : ℕ) (ds : List (Option (Desk (Writing H) (Pass X Y)))) (all : ColumnWorks kept stages mine b name w ds) → i ≡ w + v → v < length ds → AreHome kept opening history files ds → LaneOf stages files i (lane_at v (receipts_of (lanes w ds all))) (mine i)
    lane_of w v i [] all is lt home = absurd (omega (arith, lt))
    lane_of w zero i (None ∷ ds) all is lt home =
        let here : i ≡ w = omega (arith, is) in
        record { pending = []; are = ap mine here ∙ all.0; few = omega arith; held = tt; all_listed = λ f. refl }
    lane_of w zero i (Some d ∷ ds) all is lt home =
        let here : i ≡ w = omega (arith, is) in
        let c = all.0.works in
        record {
          pending = c.pending;
          are = ap mine here ∙ c.pairs_are;
          few = stage_few (stages w) d.archiver (length c.receipts) (length (pairs_in c.receipts)) c.pending c.stands;
          held = home.0.held (view d.pass).history c.receipts c.sealed;
          all_listed = λ f. (subst (λ (s : Stage). IsAtStage s d.archiver (length c.receipts) (length (pairs_in c.receipts)) c.pending) (ap stages (sym here) ∙ f) c.stands).1;
        }
    lane_of w (suc v) i (None ∷ ds) all is lt home = lane_of (suc w) v i ds all.1 (omega (arith, is)) (omega (arith, lt)) home
    lane_of w (suc v) i (Some d ∷ ds) all is lt home = lane_of (suc w) v i ds all.1 (omega (arith, is)) (omega (arith, lt)) home.1

  lane_past : (w v : ℕ) (ds : List (Option (Desk (Writing H) (Pass X Y)))) (all : ColumnWorks kept stages mine b name w ds) → length ds ≤ v → lane_at v (receipts_of (lanes w ds all)) ≡ []
  lane_past w v [] all le = refl
  lane_past w zero (x ∷ ds) all le = absurd (omega (arith, le))
  lane_past w (suc v) (None ∷ ds) all le = lane_past (suc w) v ds all.1 (omega (arith, le))
  lane_past w (suc v) (Some d ∷ ds) all le = lane_past (suc w) v ds all.1 (omega (arith, le))

less_or : (v n : ℕ) → (v < n) ⊎ (n ≤ v)
less_or v n = grind arith

drop_front : {A : Type 0} (xs ys : List A) → drop (length xs) (xs ++ ys) ≡ ys
drop_front [] ys = refl
drop_front (x ∷ xs) ys = drop_front xs ys

module _ {H X Y : Type 0} (kept : H → Option (FileName → Option (List ℕ))) (stages : ℕ → Stage) (mine : ℕ → List Pair) (b : BoardId) (name : List ℕ) (deal : List ℕ → ℕ) (opening : ℕ) (history : List Listing) (pairs : List Pair) (files : FileName → Option (List ℕ)) (before : List (List Pair)) (ds : List (Option (Desk (Writing H) (Pass X Y))))
    (all : ColumnWorks kept stages mine b name 0 ds) (home : AreHome kept opening history files ds) (differ : Differ (numbers ds)) (count : length history ≡ opening + amounts ds) (below : (key : List ℕ) → deal key < length ds) (front : (w : ℕ) → w < length ds → IsPrefix (mine w) (dealt_to deal w pairs))
    (first : batches_listed files (Ok (entries_of (take opening history))) ≡ Some before) where
  abbrev these : List (Lane Sealing)
  these = lanes kept stages mine b name 0 ds all

  abbrev its : ℕ → List (ℕ × Sealing)
  its w = lane_at w (receipts_of these)

  abbrev rest : ℕ → List Pair
  rest w = drop (length (pairs_in (its w))) (dealt_to deal w pairs)

  one : (w : ℕ) → w < length ds → LaneOf stages files w (its w) (mine w)
  one w lt = lane_of kept stages mine b name opening history files 0 w w ds all (omega arith) lt home

  past : (w : ℕ) → length ds ≤ w → its w ≡ []
  past w le = lane_past kept stages mine b name 0 w ds all le

  beyond : (w : ℕ) → length ds ≤ w → dealt_to deal w pairs ≡ []
  beyond w le = none_dealt deal w pairs (λ key e. let lt = below key in absurd (omega (arith, le, e, lt)))

  dealt_more : (w : ℕ) → (more : List Pair) × (dealt_to deal w pairs ≡ pairs_in (its w) ++ more)
  dealt_more w = go (less_or w (length ds))
    where
      go : (w < length ds) ⊎ (length ds ≤ w) → (more : List Pair) × (dealt_to deal w pairs ≡ pairs_in (its w) ++ more)
      go (inl lt) =
          let o = one w lt in
          let f = front w lt in
          (o.pending ++ f.0, sym f.1 ∙ ap (λ (ps : List Pair). ps ++ f.0) o.are ∙ append_assoc (pairs_in (its w)) o.pending f.0)
      go (inr le) = ([], beyond w le ∙ sym (ap (λ (rs : List (ℕ × Sealing)). pairs_in rs ++ []) (past w le)))

  dealt_is : (w : ℕ) → dealt_to deal w pairs ≡ pairs_in (its w) ++ rest w
  dealt_is w =
      let m = dealt_more w in
      m.1 ∙ ap (λ (ps : List Pair). pairs_in (its w) ++ ps) (sym (ap (drop (length (pairs_in (its w)))) m.1 ∙ drop_front (pairs_in (its w)) m.0))

  are_listed : AreListed deal these opening history pairs rest files before
  are_listed = record {
    lanes_are = lanes_are kept stages mine b name opening history files (omega (arith, count)) 0 ds all home;
    differ = subst Differ (sym (lanes_writers kept stages mine b name 0 ds all)) differ;
    count = count ∙ ap (λ (n : ℕ). opening + n) (sym (lanes_amount kept stages mine b name 0 ds all));
    below = λ key. let lt = below key in let e = lanes_long kept stages mine b name 0 ds all in omega (arith, lt, e);
    dealt = dealt_is;
    few = λ w. few_at w (less_or w (length ds));
    first = first;
    held = λ w. held_at w (less_or w (length ds));
  }
    where
      few_at : (w : ℕ) → (w < length ds) ⊎ (length ds ≤ w) → 512 * length (its w) ≤ length (pairs_in (its w)) + 512
      few_at w (inl lt) = (one w lt).few
      few_at w (inr le) = subst (λ (rs : List (ℕ × Sealing)). 512 * length rs ≤ length (pairs_in rs) + 512) (sym (past w le)) (omega arith)

      held_at : (w : ℕ) → (w < length ds) ⊎ (length ds ≤ w) → Every (IsHeld files) (its w)
      held_at w (inl lt) = (one w lt).held
      held_at w (inr le) = subst (Every (IsHeld files)) (sym (past w le)) tt

  long : length these ≡ length ds
  long = lanes_long kept stages mine b name 0 ds all

  -- few batches came behind those that were there, of these pairs alone
  pub column_adds : Adds (length ds) pairs before (batches_listed files (Ok (entries_of history)))
  column_adds = subst (λ (n : ℕ). Adds n pairs before (batches_listed files (Ok (entries_of history)))) long (are_tables deal these opening history pairs rest files before are_listed).0

  -- and all of them are listed
  pub column_adds_all : ((w : ℕ) → stages w ≡ Flushed) → ((w : ℕ) → w < length ds → mine w ≡ dealt_to deal w pairs) → AddsAll (length ds) pairs before (batches_listed files (Ok (entries_of history)))
  column_adds_all flushed whole = subst (λ (n : ℕ). AddsAll n pairs before (batches_listed files (Ok (entries_of history)))) long ((are_tables deal these opening history pairs rest files before are_listed).1 (λ w. none_left w (less_or w (length ds))))
    where
      none_left : (w : ℕ) → (w < length ds) ⊎ (length ds ≤ w) → rest w ≡ []
      none_left w (inl lt) =
          let o = one w lt in
          let same : dealt_to deal w pairs ≡ pairs_in (its w) ++ [] = sym (whole w lt) ∙ o.are ∙ ap (λ (ps : List Pair). pairs_in (its w) ++ ps) (o.all_listed (flushed w)) in
          ap (drop (length (pairs_in (its w)))) same ∙ drop_front (pairs_in (its w)) []
      none_left w (inr le) = ap₂ (λ (rs : List (ℕ × Sealing)) (ps : List Pair). drop (length (pairs_in rs)) ps) (past w le) (beyond w le)
