-- A worker's share, message by message.
use Rattle.std.proofs.Common.{◌≡◌, ◌&&◌, ℕ, zero, suc, ◌+◌, ◌≤◌, Bool, if◌then◌else◌, List, [], ◌∷◌, ◌++◌, slice_get, slice_set, Option, Some, refl, sym, ap, ap₂, subst, ◌∙◌, arith, append-nil}
use Rattle.fd_disk.specs.declared.folders.FileName.{FileName}
use Rattle.fd_entries.specs.declared.batch.Pair.{Pair}
use Rattle.fd_turn.specs.declared.board.Pass.{Pass}
use Rattle.fd_turn.specs.Passes.{BoardId, IsOf, view}
use Rattle.fd_archiver.specs.Writing.{Writing}
use Rattle.fd_shares.specs.declared.round.Desk.{Desk}
use Rattle.fd_shares.specs.declared.round.Parcel.{Parcel}
use Rattle.fd_turn.specs.Views.{View}
use Rattle.fd_archiver.specs.declared.fault.FlushFault.{FlushFault}
use Rattle.fd_archiver.specs.declared.fault.FlushFault.TheVariants as flushes
use Rattle.fd_shares.specs.Working.{Filling, Refused, Stage, Stopped, Works}
use Rattle.fd_shares.specs.Sharing.{AllWork, DeskWorks, MayWork, pair_of, share, stopped_at}
use Rattle.fd_shares.proofs.Dealing.{equal_not, equal_to}

module _ {H X Y : Type 0} (kept : H → Option (FileName → Option (List ℕ))) where
  -- what a worker has in the dataset at one place
  pub record WorkAt (stages : ℕ → Stage) (pairs : ℕ → List Pair) (n j : ℕ) (bs : List BoardId) (ms : List (List ℕ)) (d : Desk (Writing H) (Pass X Y)) : Type 0 where
    pub board : BoardId
    pub name : List ℕ
    pub board_at : slice_get bs j ≡ Some board
    pub name_at : slice_get ms j ≡ Some name
    pub works : DeskWorks kept (stages n) board name (pairs n) d

  pub work_at : (stages : ℕ → Stage) (pairs : ℕ → List Pair) (k j n : ℕ) (bs : List BoardId) (ms : List (List ℕ)) (ds : List (Option (Desk (Writing H) (Pass X Y)))) (d : Desk (Writing H) (Pass X Y)) → n ≡ k + j → AllWork kept stages pairs k bs ms ds → slice_get ds j ≡ Some (Some d) → WorkAt stages pairs n j bs ms d
  work_at stages pairs k j n [] [] [] d is all at = absurd (cc at)
  work_at stages pairs k j n [] [] (x ∷ ds) d is all at = absurd all
  work_at stages pairs k j n [] (m ∷ ms) ds d is all at = absurd all
  work_at stages pairs k j n (b ∷ bs) [] ds d is all at = absurd all
  work_at stages pairs k j n (b ∷ bs) (m ∷ ms) [] d is all at = absurd (cc at)
  work_at stages pairs k zero n (b ∷ bs) (m ∷ ms) (x ∷ ds) d is all at =
      let same : x ≡ Some d = cc at in
      let here : n ≡ k = omega (arith, is) in
      record {
        board = b;
        name = m;
        board_at = refl;
        name_at = refl;
        works = subst (λ (i : ℕ). DeskWorks kept (stages i) b m (pairs i) d) (sym here) (subst (MayWork kept (stages k) b m (pairs k)) same all.0);
      }
  work_at stages pairs k (suc j) n (b ∷ bs) (m ∷ ms) (x ∷ ds) d is all at =
      let w = work_at stages pairs (suc k) j n bs ms ds d (omega (arith, is)) all.1 at in
      record { board = w.board; name = w.name; board_at = w.board_at; name_at = w.name_at; works = w.works }

  -- the same elsewhere
  pub work_same : (s t : ℕ → Stage) (p q : ℕ → List Pair) (k : ℕ) (bs : List BoardId) (ms : List (List ℕ)) (ds : List (Option (Desk (Writing H) (Pass X Y)))) → ((n : ℕ) → k ≤ n → (t n ≡ s n) × (q n ≡ p n)) → AllWork kept s p k bs ms ds → AllWork kept t q k bs ms ds
  work_same s t p q k [] [] [] same all = tt
  work_same s t p q k [] [] (x ∷ ds) same all = absurd all
  work_same s t p q k [] (m ∷ ms) ds same all = absurd all
  work_same s t p q k (b ∷ bs) [] ds same all = absurd all
  work_same s t p q k (b ∷ bs) (m ∷ ms) [] same all = absurd all
  work_same s t p q k (b ∷ bs) (m ∷ ms) (x ∷ ds) same all = (
    (let e = same k (omega arith) in subst (λ (st : Stage). MayWork kept st b m (q k) x) (sym e.0) (subst (λ (ps : List Pair). MayWork kept (s k) b m ps x) (sym e.1) all.0)),
    work_same s t p q (suc k) bs ms ds (λ n le. same n (omega arith)) all.1,
  )

  -- one of them goes on
  pub work_set : (s t : ℕ → Stage) (p q : ℕ → List Pair) (k j n : ℕ) (bs : List BoardId) (ms : List (List ℕ)) (ds : List (Option (Desk (Writing H) (Pass X Y)))) (d e : Desk (Writing H) (Pass X Y)) → n ≡ k + j → ((i : ℕ) → (i ≡ n → ⊥) → (t i ≡ s i) × (q i ≡ p i))
      → AllWork kept s p k bs ms ds → slice_get ds j ≡ Some (Some d) → ((board : BoardId) (name : List ℕ) → slice_get bs j ≡ Some board → slice_get ms j ≡ Some name → DeskWorks kept (t n) board name (q n) e) → AllWork kept t q k bs ms (slice_set ds j (Some e))
  work_set s t p q k j n [] [] [] d e is same all at new = absurd (cc at)
  work_set s t p q k j n [] [] (x ∷ ds) d e is same all at new = absurd all
  work_set s t p q k j n [] (m ∷ ms) ds d e is same all at new = absurd all
  work_set s t p q k j n (b ∷ bs) [] ds d e is same all at new = absurd all
  work_set s t p q k j n (b ∷ bs) (m ∷ ms) [] d e is same all at new = absurd (cc at)
  work_set s t p q k zero n (b ∷ bs) (m ∷ ms) (x ∷ ds) d e is same all at new =
      let here : n ≡ k = omega (arith, is) in (
        subst (λ (i : ℕ). DeskWorks kept (t i) b m (q i) e) here (new b m refl refl),
        work_same s t p q (suc k) bs ms ds (λ i le. same i (λ f. omega (arith, le, f, here))) all.1,
      )
  work_set s t p q k (suc j) n (b ∷ bs) (m ∷ ms) (x ∷ ds) d e is same all at new = (
    (let f = same k (λ g. omega (arith, g, is)) in subst (λ (st : Stage). MayWork kept st b m (q k) x) (sym f.0) (subst (λ (ps : List Pair). MayWork kept (s k) b m ps x) (sym f.1) all.0)),
    work_set s t p q (suc k) j n bs ms ds d e (omega (arith, is)) same all.1 at new,
  )

-- a message of the worker, in its dataset and in another
pub share_here : (p : Parcel) → share p.worker p.dataset (p ∷ []) ≡ pair_of p ∷ []
share_here p = ap₂ (λ (a b : Bool). if a && b then pair_of p ∷ [] else []) (equal_to p.worker p.worker refl) (equal_to p.dataset p.dataset refl)

pub share_elsewhere : (p : Parcel) (n : ℕ) → (n ≡ p.dataset → ⊥) → share p.worker n (p ∷ []) ≡ []
share_elsewhere p n other = ap₂ (λ (a b : Bool). if a && b then pair_of p ∷ [] else []) (equal_to p.worker p.worker refl) (equal_not p.dataset n (λ e. other (sym e)))

-- ---- a message that is stored, and one that isn't

module _ {H X Y : Type 0} (kept : H → Option (FileName → Option (List ℕ))) (boards : List BoardId) where
  -- what the worker has goes on by the message of one dataset
  pub stored_at : (p : Parcel) (names : List (List ℕ)) (pairs : ℕ → List Pair) (ds : List (Option (Desk (Writing H) (Pass X Y)))) (d e : Desk (Writing H) (Pass X Y)) → AllWork kept (λ n. Filling) pairs 0 boards names ds → slice_get ds p.dataset ≡ Some (Some d)
      → Rattle.fd_turn.specs.Passes.IsSame d.pass e.pass → e.archiver.dataset ≡ d.archiver.dataset → ((ps : List Pair) → Works kept Filling ps d.archiver (view d.pass) → Works kept Filling (ps ++ pair_of p ∷ []) e.archiver (view e.pass))
      → AllWork kept (λ n. Filling) (λ n. pairs n ++ share p.worker n (p ∷ [])) 0 boards names (slice_set ds p.dataset (Some e))
  stored_at p names pairs ds d e all at same dataset goes =
      let w = work_at kept (λ n. Filling) pairs 0 p.dataset p.dataset boards names ds d (omega arith) all at in
      work_set kept (λ n. Filling) (λ n. Filling) pairs (λ n. pairs n ++ share p.worker n (p ∷ [])) 0 p.dataset p.dataset boards names ds d e (omega arith)
      (λ i other. (refl, ap (λ (ps : List Pair). pairs i ++ ps) (share_elsewhere p i other) ∙ append-nil (pairs i))) all at
      (λ board name board_at name_at. record {
        own = same ∙ (let b : w.board ≡ board = cc (w.board_at, board_at) in w.works.own ∙ b);
        named = dataset ∙ w.works.named ∙ (let m : w.name ≡ name = cc (w.name_at, name_at) in m);
        works = subst (λ (ps : List Pair). Works kept Filling (pairs p.dataset ++ ps) e.archiver (view e.pass)) (sym (share_here p)) (goes (pairs p.dataset) w.works.works);
      })

  pub stopped_in : (p : Parcel) (names : List (List ℕ)) (pairs : ℕ → List Pair) (ds : List (Option (Desk (Writing H) (Pass X Y)))) (d e : Desk (Writing H) (Pass X Y)) → AllWork kept (λ n. Filling) pairs 0 boards names ds → slice_get ds p.dataset ≡ Some (Some d)
      → Rattle.fd_turn.specs.Passes.IsSame d.pass e.pass → e.archiver.dataset ≡ d.archiver.dataset → ((ps : List Pair) → Works kept Filling ps d.archiver (view d.pass) → Works kept Stopped ps e.archiver (view e.pass))
      → AllWork kept (stopped_at p.dataset) pairs 0 boards names (slice_set ds p.dataset (Some e))
  stopped_in p names pairs ds d e all at same dataset goes =
      let w = work_at kept (λ n. Filling) pairs 0 p.dataset p.dataset boards names ds d (omega arith) all at in
      work_set kept (λ n. Filling) (stopped_at p.dataset) pairs pairs 0 p.dataset p.dataset boards names ds d e (omega arith)
      (λ i other. (ap (λ (b : Bool). if b then Stopped else Filling) (equal_not p.dataset i (λ f. other (sym f))), refl)) all at
      (λ board name board_at name_at. record {
        own = same ∙ (let b : w.board ≡ board = cc (w.board_at, board_at) in w.works.own ∙ b);
        named = dataset ∙ w.works.named ∙ (let m : w.name ≡ name = cc (w.name_at, name_at) in m);
        works = subst (λ (st : Stage). Works kept st (pairs p.dataset) e.archiver (view e.pass)) (sym (ap (λ (b : Bool). if b then Stopped else Filling) (equal_to p.dataset p.dataset refl))) (goes (pairs p.dataset) w.works.works);
      })

-- what a refusal leaves is a worker that stopped
pub refused_stops : {F H : Type 0} (kept : H → Option (FileName → Option (List ℕ))) (fault : FlushFault F) (ps : List Pair) (x : Writing H) (v : View) → Refused kept fault ps x v → Works kept Stopped ps x v
refused_stops kept (flushes.Disk f) ps x v r = r
refused_stops kept (flushes.TableFull count) ps x v r = r.0
refused_stops kept flushes.NoMemory ps x v r = r
