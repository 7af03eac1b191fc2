-- A worker's share of a round, up to one of its messages.
use Rattle.std.proofs.Common.{◌≡◌, ◌==◌, ◌&&◌, ◌<◌, ◌≤◌, ◌+◌, ◌^◌, ℕ, zero, suc, Bool, if◌then◌else◌, List, [], ◌∷◌, ◌++◌, take, drop, length, get_or, slice_get, slice_set, Option, Some, None, Result, Ok, Err, refl, sym, ap, ap₂, subst, ◌∙◌, arith}
use Rattle.fd_disk.specs.declared.folders.FileName.{FileName}
use Rattle.fd_entries.specs.declared.batch.Pair.{Pair}
use Rattle.fd_segment.specs.Filling.{stored}
use Rattle.fd_turn.specs.declared.board.Pass.{Pass}
use Rattle.fd_turn.specs.Passes.{BoardId, IsSame, view}
use Rattle.fd_archiver.specs.declared.fault.FlushFault.{FlushFault}
use Rattle.fd_archiver.specs.declared.fault.FlushFault.TheVariants as flushes
use Rattle.fd_archiver.specs.Writing.{Writing}
use Rattle.fd_shares.specs.declared.round.Desk.{Desk}
use Rattle.fd_shares.specs.declared.round.Parcel.{Parcel}
use Rattle.fd_shares.specs.Working.{Filling, Refused, Stage, Stored, Works}
use Rattle.fd_shares.specs.Sharing.{AllFit, AllWork, IsFit, IsFullAt, SameDesk, SameMet, StaysDesk, StoredAt, pair_of, share}
use Rattle.fd_shares.proofs.Dealing.{equal_not, equal_to}
use Rattle.fd_shares.proofs.Rounds.{share_both}
use Rattle.fd_shares.proofs.Sharing.{refused_stops, stopped_in, stored_at, work_at, work_same}
use Rattle.fd_shares.proofs.Storing.{stored_both}

split_here : {X : Type 0} (xs : List X) (i : ℕ) (x : X) → i < length xs → x ≡ get_or xs i x → xs ≡ take i xs ++ (x ∷ drop (suc i) xs)
split_here [] i x lt is = absurd (omega arith)
split_here (y ∷ xs) zero x lt is = ap (λ z. z ∷ xs) (sym is)
split_here (y ∷ xs) (suc i) x lt is = ap (λ zs. y ∷ zs) (split_here xs i x (omega arith) is)

take_more : {X : Type 0} (xs : List X) (i : ℕ) (x : X) → i < length xs → x ≡ get_or xs i x → take (suc i) xs ≡ take i xs ++ x ∷ []
take_more [] i x lt is = absurd (omega arith)
take_more (y ∷ xs) zero x lt is = ap (λ z. z ∷ []) (sym is)
take_more (y ∷ xs) (suc i) x lt is = ap (λ zs. y ∷ zs) (take_more xs i x (omega arith) is)

pub take_all : {X : Type 0} (xs : List X) (i : ℕ) → length xs ≤ i → take i xs ≡ xs
take_all [] zero le = refl
take_all [] (suc i) le = refl
take_all (x ∷ xs) zero le = absurd (omega arith)
take_all (x ∷ xs) (suc i) le = ap (λ zs. x ∷ zs) (take_all xs i (omega arith))

pub get_there : {X : Type 0} (xs : List X) (i : ℕ) (x : X) → i < length xs → x ≡ get_or xs i x → slice_get xs i ≡ Some x
get_there [] i x lt is = absurd (omega arith)
get_there (y ∷ xs) zero x lt is = ap Some (sym is)
get_there (y ∷ xs) (suc i) x lt is = get_there xs i x (omega arith) is

-- one message more
pub share_more : (w n : ℕ) (ps : List Parcel) (i : ℕ) (p : Parcel) → i < length ps → p ≡ get_or ps i p → share w n (take (i + 1) ps) ≡ share w n (take i ps) ++ share w n (p ∷ [])
share_more w n ps i p lt is =
    let up : i + 1 ≡ suc i = omega arith in
    ap (λ (k : ℕ). share w n (take k ps)) up ∙ ap (share w n) (take_more ps i p lt is) ∙ share_both w n (take i ps) (p ∷ [])

-- a message of another worker is none
pub share_other : (w n : ℕ) (p : Parcel) → (p.worker ≡ w → ⊥) → share w n (p ∷ []) ≡ []
share_other w n p other = ap (λ (a : Bool). if a && (p.dataset == n) then pair_of p ∷ [] else []) (equal_not p.worker w other)

share_first : (w : ℕ) (p : Parcel) (rest : List Parcel) → p.worker ≡ w → share w p.dataset (p ∷ rest) ≡ pair_of p ∷ share w p.dataset rest
share_first w p rest is = ap₂ (λ (a b : Bool). if a && b then pair_of p ∷ share w p.dataset rest else share w p.dataset rest) (equal_to p.worker w is) (equal_to p.dataset p.dataset refl)

-- there is room in number for the message
pub share_room : (w : ℕ) (ps : List Parcel) (i : ℕ) (p : Parcel) (before : List Pair) → i < length ps → p ≡ get_or ps i p → p.worker ≡ w → stored (before ++ share w p.dataset ps) < 2 ^ 63 → stored (before ++ share w p.dataset (take i ps)) + (length p.bytes + 32) < 2 ^ 63
share_room w ps i p before lt is mine sum =
    let whole : share w p.dataset ps ≡ share w p.dataset (take i ps) ++ (pair_of p ∷ share w p.dataset (drop (suc i) ps)) =
    ap (share w p.dataset) (split_here ps i p lt is) ∙ share_both w p.dataset (take i ps) (p ∷ drop (suc i) ps) ∙ ap (λ (xs : List Pair). share w p.dataset (take i ps) ++ xs) (share_first w p (drop (suc i) ps) mine) in
    let a = stored_both before (share w p.dataset ps) in
    let b = ap stored whole ∙ stored_both (share w p.dataset (take i ps)) (pair_of p ∷ share w p.dataset (drop (suc i) ps)) in
    let c = stored_both before (share w p.dataset (take i ps)) in
    omega (arith, a, b, c, sum)

pub fit_at : (names : List (List ℕ)) (ps : List Parcel) (i : ℕ) (p : Parcel) → AllFit names ps → i < length ps → p ≡ get_or ps i p → IsFit names p
fit_at names [] i p all lt is = absurd (omega arith)
fit_at names (q ∷ ps) zero p all lt is = subst (IsFit names) (sym is) all.0
fit_at names (q ∷ ps) (suc i) p all lt is = fit_at names ps i p all.1 (omega arith) is

module _ {H X Y : Type 0} where
  stays_same : (d : Desk (Writing H) (Pass X Y)) → StaysDesk d d
  stays_same d = record { writer = refl; told = refl; parts = refl; opening = refl }

  pub same_met : (ds : List (Option (Desk (Writing H) (Pass X Y)))) → SameMet ds ds
  same_met [] = tt
  same_met (None ∷ ds) = (tt, same_met ds)
  same_met (Some d ∷ ds) = (stays_same d, same_met ds)

  desk_on : (x y z : Option (Desk (Writing H) (Pass X Y))) → SameDesk x y → SameDesk y z → SameDesk x z
  desk_on None None z a b = b
  desk_on None (Some e) z a b = absurd a
  desk_on (Some d) None z a b = absurd a
  desk_on (Some d) (Some e) None a b = absurd b
  desk_on (Some d) (Some e) (Some f) a b = record { writer = b.writer ∙ a.writer; told = b.told ∙ a.told; parts = b.parts ∙ a.parts; opening = b.opening ∙ a.opening }

  pub met_on : (ds es fs : List (Option (Desk (Writing H) (Pass X Y)))) → SameMet ds es → SameMet es fs → SameMet ds fs
  met_on [] [] fs a b = b
  met_on [] (e ∷ es) fs a b = absurd a
  met_on (d ∷ ds) [] fs a b = absurd a
  met_on (d ∷ ds) (e ∷ es) [] a b = absurd b
  met_on (d ∷ ds) (e ∷ es) (f ∷ fs) a b = (desk_on d e f a.0 b.0, met_on ds es fs a.1 b.1)

  -- what it had in one dataset went on
  pub met_there : (ds es : List (Option (Desk (Writing H) (Pass X Y)))) (n : ℕ) (d : Desk (Writing H) (Pass X Y)) → SameMet ds es → slice_get ds n ≡ Some (Some d) → (e : Desk (Writing H) (Pass X Y)) × (slice_get es n ≡ Some (Some e)) × StaysDesk d e
  met_there [] es n d a at = absurd (cc at)
  met_there (x ∷ ds) [] n d a at = absurd a
  met_there (None ∷ ds) (y ∷ es) zero d a at = absurd (cc at)
  met_there (Some c ∷ ds) (None ∷ es) zero d a at = absurd a.0
  met_there (Some c ∷ ds) (Some e ∷ es) zero d a at = let one : c ≡ d = cc at in (e, refl, subst (λ (k : Desk (Writing H) (Pass X Y)). StaysDesk k e) one a.0)
  met_there (x ∷ ds) (y ∷ es) (suc n) d a at = met_there ds es n d a.1 at

  -- the same pairs, told otherwise
  pub work_told : (kept : H → Option (FileName → Option (List ℕ))) (s : ℕ → Stage) (p q : ℕ → List Pair) (bs : List BoardId) (ms : List (List ℕ)) (ds : List (Option (Desk (Writing H) (Pass X Y)))) → ((n : ℕ) → q n ≡ p n) → AllWork kept s p 0 bs ms ds → AllWork kept s q 0 bs ms ds
  work_told kept s p q bs ms ds same all = work_same kept s s p q 0 bs ms ds (λ n le. (refl, same n)) all

pub at_place : {X : Type 0} (xs : List X) (n : ℕ) (x : X) → slice_get xs n ≡ Some x → (d : X) → get_or xs n d ≡ x
at_place [] n x at d = absurd (cc at)
at_place (y ∷ xs) zero x at d = cc at
at_place (y ∷ xs) (suc n) x at d = at_place xs n x at d

pub inside : {X : Type 0} (xs : List X) (n : ℕ) (x : X) → slice_get xs n ≡ Some x → n < length xs
inside [] n x at = absurd (cc at)
inside (y ∷ xs) zero x at = omega arith
inside (y ∷ xs) (suc n) x at = let lt = inside xs n x at in omega arith

pub set_same : {X : Type 0} (xs : List X) (n : ℕ) (x : X) → slice_get xs n ≡ Some x → slice_set xs n x ≡ xs
set_same [] n x at = absurd (cc at)
set_same (y ∷ xs) zero x at = let same : y ≡ x = cc at in ap (λ z. z ∷ xs) (sym same)
set_same (y ∷ xs) (suc n) x at = ap (λ ys. y ∷ ys) (set_same xs n x at)

pub get_set : {X : Type 0} (xs : List X) (n : ℕ) (x y : X) → slice_get xs n ≡ Some x → slice_get (slice_set xs n y) n ≡ Some y
get_set [] n x y at = absurd (cc at)
get_set (z ∷ xs) zero x y at = refl
get_set (z ∷ xs) (suc n) x y at = get_set xs n x y at

module _ {H X Y : Type 0} where
  -- what the worker has at one place went on
  pub met_set : (ds : List (Option (Desk (Writing H) (Pass X Y)))) (n : ℕ) (d e : Desk (Writing H) (Pass X Y)) → slice_get ds n ≡ Some (Some d) → StaysDesk d e → SameMet ds (slice_set ds n (Some e))
  met_set [] n d e at same = absurd (cc at)
  met_set (None ∷ ds) zero d e at same = absurd (cc at)
  met_set (Some c ∷ ds) zero d e at same = let one : c ≡ d = cc at in (subst (λ (k : Desk (Writing H) (Pass X Y)). StaysDesk k e) (sym one) same, same_met ds)
  met_set (None ∷ ds) (suc n) d e at same = (tt, met_set ds n d e at same)
  met_set (Some c ∷ ds) (suc n) d e at same = (stays_same c, met_set ds n d e at same)

  module _ (kept : H → Option (FileName → Option (List ℕ))) (boards : List BoardId) where
    pub full_at : {F : Type 0} (fault : FlushFault F) (ps : List Pair) (n : ℕ) (ds : List (Option (Desk (Writing H) (Pass X Y)))) (e : Desk (Writing H) (Pass X Y)) → slice_get ds n ≡ Some (Some e) → Refused kept fault ps e.archiver (view e.pass) → IsFullAt fault n ds
    full_at (flushes.Disk f) ps n ds e at r = tt
    full_at (flushes.TableFull count) ps n ds e at r = (r.1, (e, at, r.2, r.3))
    full_at flushes.NoMemory ps n ds e at r = tt

    -- what a worker has once it stored a message, or didn't
    pub stored_or : {F : Type 0} (r : Result (Unit {0}) (FlushFault F)) (p : Parcel) (names : List (List ℕ)) (pairs : ℕ → List Pair) (ds : List (Option (Desk (Writing H) (Pass X Y)))) (d e : Desk (Writing H) (Pass X Y)) → AllWork kept (λ n. Filling) pairs 0 boards names ds → slice_get ds p.dataset ≡ Some (Some d)
        → IsSame d.pass e.pass → e.archiver.dataset ≡ d.archiver.dataset → ((ps : List Pair) → Works kept Filling ps d.archiver (view d.pass) → Stored kept r ps (pair_of p) e.archiver (view e.pass))
        → StoredAt kept boards r p names pairs (slice_set ds p.dataset (Some e))
    stored_or (Ok done) p names pairs ds d e all at same dataset goes = stored_at kept boards p names pairs ds d e all at same dataset goes
    stored_or (Err fault) p names pairs ds d e all at same dataset goes =
        let w = work_at kept (λ n. Filling) pairs 0 p.dataset p.dataset boards names ds d (omega arith) all at in (
          stopped_in kept boards p names pairs ds d e all at same dataset (λ ps works. refused_stops kept fault ps e.archiver (view e.pass) (goes ps works)),
          full_at fault (pairs p.dataset) p.dataset (slice_set ds p.dataset (Some e)) e (get_set ds p.dataset (Some d) (Some e) at) (goes (pairs p.dataset) w.works.works),
        )
