-- What a worker has once it listed what was pending in a dataset.
use Rattle.std.proofs.Common.{◌≡◌, ◌==◌, ◌<◌, ◌≤◌, ◌+◌, ℕ, zero, suc, Bool, true, false, if◌then◌else◌, List, [], ◌∷◌, length, slice_get, slice_set, Option, Some, None, Result, Ok, Err, refl, sym, ap, subst, ◌∙◌, arith}
use Rattle.std.specs.Prelude.{nat_lt}
use Rattle.std.proofs.lemmas.Bool.Decides.{nat_tests}
use Rattle.fd_disk.specs.declared.folders.FileName.{FileName}
use Rattle.fd_entries.specs.declared.batch.Pair.{Pair}
use Rattle.fd_turn.specs.declared.board.Pass.{Pass}
use Rattle.fd_turn.specs.Passes.{BoardId, IsSame, view}
use Rattle.fd_archiver.specs.declared.fault.FlushFault.{FlushFault}
use Rattle.fd_archiver.specs.Writing.{Writing}
use Rattle.fd_shares.specs.declared.round.Desk.{Desk}
use Rattle.fd_shares.specs.Working.{Filling, Flushed, ListedAll, Stage, Stopped, Works}
use Rattle.fd_shares.specs.Sharing.{AllWork, ListedAt, MayWork, listed_below, with_stage}
use Rattle.fd_shares.proofs.Dealing.{equal_not, equal_to}
use Rattle.fd_shares.proofs.Sharing.{refused_stops, work_at, work_same, work_set}
use Rattle.fd_shares.proofs.Shares.{full_at, get_set}

with_here : (stages : ℕ → Stage) (n : ℕ) (stage : Stage) → with_stage stages n stage n ≡ stage
with_here stages n stage = ap (λ (b : Bool). if b then stage else stages n) (equal_to n n refl)

with_elsewhere : (stages : ℕ → Stage) (n i : ℕ) (stage : Stage) → (i ≡ n → ⊥) → with_stage stages n stage i ≡ stages i
with_elsewhere stages n i stage other = ap (λ (b : Bool). if b then stage else stages i) (equal_not n i (λ e. other (sym e)))

module _ {H X Y : Type 0} (kept : H → Option (FileName → Option (List ℕ))) where
  -- where it hasn't met a dataset, its stage there is any
  pub work_none : (s t : ℕ → Stage) (p : ℕ → List Pair) (k j n : ℕ) (bs : List BoardId) (ms : List (List ℕ)) (ds : List (Option (Desk (Writing H) (Pass X Y)))) → n ≡ k + j → ((i : ℕ) → (i ≡ n → ⊥) → t i ≡ s i) → AllWork kept s p k bs ms ds → slice_get ds j ≡ Some None → AllWork kept t p k bs ms ds
  work_none s t p k j n [] [] [] is same all at = absurd (cc at)
  work_none s t p k j n [] [] (x ∷ ds) is same all at = absurd all
  work_none s t p k j n [] (m ∷ ms) ds is same all at = absurd all
  work_none s t p k j n (b ∷ bs) [] ds is same all at = absurd all
  work_none s t p k j n (b ∷ bs) (m ∷ ms) [] is same all at = absurd (cc at)
  work_none s t p k zero n (b ∷ bs) (m ∷ ms) (Some d ∷ ds) is same all at = absurd (cc at)
  work_none s t p k zero n (b ∷ bs) (m ∷ ms) (None ∷ ds) is same all at = (all.0, work_same kept s t p p (suc k) bs ms ds (λ i le. (same i (λ e. omega (arith, le, e, is)), refl)) all.1)
  work_none s t p k (suc j) n (b ∷ bs) (m ∷ ms) (x ∷ ds) is same all at = (
    subst (λ (st : Stage). MayWork kept st b m (p k) x) (sym (same k (λ e. omega (arith, e, is)))) all.0,
    work_none s t p (suc k) j n bs ms ds (omega (arith, is)) same all.1 at,
  )

  module _ (boards : List BoardId) where
    pub listed_none : (n : ℕ) (names : List (List ℕ)) (stages : ℕ → Stage) (pairs : ℕ → List Pair) (ds : List (Option (Desk (Writing H) (Pass X Y)))) → AllWork kept stages pairs 0 boards names ds → slice_get ds n ≡ Some None → AllWork kept (with_stage stages n Flushed) pairs 0 boards names ds
    listed_none n names stages pairs ds all at = work_none stages (with_stage stages n Flushed) pairs 0 n n boards names ds (omega arith) (λ i other. with_elsewhere stages n i Flushed other) all at

    set_stage : (stage : Stage) (n : ℕ) (names : List (List ℕ)) (stages : ℕ → Stage) (pairs : ℕ → List Pair) (ds : List (Option (Desk (Writing H) (Pass X Y)))) (d e : Desk (Writing H) (Pass X Y)) → AllWork kept stages pairs 0 boards names ds → stages n ≡ Filling → slice_get ds n ≡ Some (Some d)
        → IsSame d.pass e.pass → e.archiver.dataset ≡ d.archiver.dataset → (Works kept Filling (pairs n) d.archiver (view d.pass) → Works kept stage (pairs n) e.archiver (view e.pass)) → AllWork kept (with_stage stages n stage) pairs 0 boards names (slice_set ds n (Some e))
    set_stage stage n names stages pairs ds d e all filling at same dataset goes =
        let w = work_at kept stages pairs 0 n n boards names ds d (omega arith) all at in
        work_set kept stages (with_stage stages n stage) pairs pairs 0 n n boards names ds d e (omega arith) (λ i other. (with_elsewhere stages n i stage other, refl)) all at
        (λ board name board_at name_at. record {
          own = same ∙ w.works.own ∙ (let b : w.board ≡ board = cc (w.board_at, board_at) in b);
          named = dataset ∙ w.works.named ∙ (let m : w.name ≡ name = cc (w.name_at, name_at) in m);
          works = subst (λ (st : Stage). Works kept st (pairs n) e.archiver (view e.pass)) (sym (with_here stages n stage)) (goes (subst (λ (st : Stage). Works kept st (pairs n) d.archiver (view d.pass)) filling w.works.works));
        })

    pub listed_or : {F : Type 0} (r : Result (Unit {0}) (FlushFault F)) (n : ℕ) (names : List (List ℕ)) (stages : ℕ → Stage) (pairs : ℕ → List Pair) (ds : List (Option (Desk (Writing H) (Pass X Y)))) (d e : Desk (Writing H) (Pass X Y)) → AllWork kept stages pairs 0 boards names ds → stages n ≡ Filling → slice_get ds n ≡ Some (Some d)
        → IsSame d.pass e.pass → e.archiver.dataset ≡ d.archiver.dataset → ((ps : List Pair) → Works kept Filling ps d.archiver (view d.pass) → ListedAll kept r ps d.archiver e.archiver (view e.pass)) → ListedAt kept boards r n names stages pairs (slice_set ds n (Some e))
    listed_or (Ok done) n names stages pairs ds d e all filling at same dataset goes = set_stage Flushed n names stages pairs ds d e all filling at same dataset (λ works. (goes (pairs n) works).0)
    listed_or (Err fault) n names stages pairs ds d e all filling at same dataset goes =
        let w = work_at kept stages pairs 0 n n boards names ds d (omega arith) all at in (
          set_stage Stopped n names stages pairs ds d e all filling at same dataset (λ works. refused_stops kept fault (pairs n) e.archiver (view e.pass) (goes (pairs n) works)),
          full_at kept boards fault (pairs n) n (slice_set ds n (Some e)) e (get_set ds n (Some d) (Some e) at) (goes (pairs n) (subst (λ (st : Stage). Works kept st (pairs n) d.archiver (view d.pass)) filling w.works.works)),
        )

-- ---- one dataset after the other

none_below : (n : ℕ) → listed_below 0 n ≡ Filling
none_below n = ap (λ (b : Bool). if b then Flushed else Filling) (not_less n)
  where
    not_less : (n : ℕ) → nat_lt n 0 ≡ false
    not_less n = grind (arith, nat_tests)

pub next_fills : (n : ℕ) → listed_below n n ≡ Filling
next_fills n = ap (λ (b : Bool). if b then Flushed else Filling) (not_less n)
  where
    not_less : (n : ℕ) → nat_lt n n ≡ false
    not_less n = grind (arith, nat_tests)

below_more : (n i : ℕ) → listed_below (n + 1) i ≡ with_stage (listed_below n) n Flushed i
below_more n i = go (n == i) refl
  where
    here : (n i : ℕ) → (n == i) ≡ true → nat_lt i (n + 1) ≡ true
    here n i e = grind (arith, nat_tests)

    same : (n i : ℕ) → (n == i) ≡ false → nat_lt i (n + 1) ≡ nat_lt i n
    same n i e = grind (arith, nat_tests)

    go : (b : Bool) → (n == i) ≡ b → listed_below (n + 1) i ≡ with_stage (listed_below n) n Flushed i
    go true e = ap (λ (b : Bool). if b then Flushed else Filling) (here n i e) ∙ sym (ap (λ (b : Bool). if b then Flushed else listed_below n i) e)
    go false e = ap (λ (b : Bool). if b then Flushed else Filling) (same n i e) ∙ sym (ap (λ (b : Bool). if b then Flushed else listed_below n i) e)

all_below : (n i : ℕ) → i < n → Flushed ≡ listed_below n i
all_below n i lt = sym (ap (λ (b : Bool). if b then Flushed else Filling) (less n i lt))
  where
    less : (n i : ℕ) → i < n → nat_lt i n ≡ true
    less n i lt = grind (arith, nat_tests)

module _ {H X Y : Type 0} (kept : H → Option (FileName → Option (List ℕ))) where
  work_staged : (s t : ℕ → Stage) (p : ℕ → List Pair) (k : ℕ) (bs : List BoardId) (ms : List (List ℕ)) (ds : List (Option (Desk (Writing H) (Pass X Y)))) → ((n : ℕ) → n < k + length ds → t n ≡ s n) → AllWork kept s p k bs ms ds → AllWork kept t p k bs ms ds
  work_staged s t p k [] [] [] same all = tt
  work_staged s t p k [] [] (x ∷ ds) same all = absurd all
  work_staged s t p k [] (m ∷ ms) ds same all = absurd all
  work_staged s t p k (b ∷ bs) [] ds same all = absurd all
  work_staged s t p k (b ∷ bs) (m ∷ ms) [] same all = absurd all
  work_staged s t p k (b ∷ bs) (m ∷ ms) (x ∷ ds) same all = (
    subst (λ (st : Stage). MayWork kept st b m (p k) x) (sym (same k (omega arith))) all.0,
    work_staged s t p (suc k) bs ms ds (λ n lt. same n (omega (arith, lt))) all.1,
  )

  pub listing_begins : (p : ℕ → List Pair) (bs : List BoardId) (ms : List (List ℕ)) (ds : List (Option (Desk (Writing H) (Pass X Y)))) → AllWork kept (λ n. Filling) p 0 bs ms ds → AllWork kept (listed_below 0) p 0 bs ms ds
  listing_begins p bs ms ds all = work_staged (λ n. Filling) (listed_below 0) p 0 bs ms ds (λ n lt. none_below n) all

  pub listing_turns : (n : ℕ) (p : ℕ → List Pair) (bs : List BoardId) (ms : List (List ℕ)) (ds : List (Option (Desk (Writing H) (Pass X Y)))) → AllWork kept (with_stage (listed_below n) n Flushed) p 0 bs ms ds → AllWork kept (listed_below (n + 1)) p 0 bs ms ds
  listing_turns n p bs ms ds all = work_staged (with_stage (listed_below n) n Flushed) (listed_below (n + 1)) p 0 bs ms ds (λ i lt. below_more n i) all

  pub listing_ends : (n : ℕ) (p : ℕ → List Pair) (bs : List BoardId) (ms : List (List ℕ)) (ds : List (Option (Desk (Writing H) (Pass X Y)))) → length ds ≤ n → AllWork kept (listed_below n) p 0 bs ms ds → AllWork kept (λ i. Flushed) p 0 bs ms ds
  listing_ends n p bs ms ds le all = work_staged (listed_below n) (λ i. Flushed) p 0 bs ms ds (λ i lt. all_below n i (omega (arith, lt, le))) all
