-- What the shares of all workers make of the messages of a round.
use Rattle.std.proofs.Common.{◌≡◌, ◌==◌, ◌&&◌, ◌||◌, ℕ, zero, suc, Bool, true, false, if◌then◌else◌, List, [], ◌∷◌, ◌++◌, slice_get, Some, refl, sym, ap, ap₂, ◌∙◌}
use Rattle.std.specs.Str.{bytes_eq}
use Rattle.fd_entries.specs.declared.batch.Pair.{Pair}
use Rattle.fd_library.specs.Open.{AreDistinct, among}
use Rattle.fd_stored.specs.Archiving.{Stored, pairs_for}
use Rattle.fd_segment.proofs.Keys.{eq_is, eq_refl}
use Rattle.fd_sheets.specs.Dealt.{dealt}
use Rattle.fd_shares.specs.Dealing.{dealt_to}
use Rattle.fd_shares.specs.Sharing.{AreParcels, IsParcelOf, pair_of, share}
use Rattle.fd_shares.specs.declared.round.Parcel.{Parcel}
use Rattle.fd_shares.proofs.Dealing.{equal_not, equal_to}

pub pairs_both : (a b : List Stored) (name : List ℕ) → pairs_for (a ++ b) name ≡ pairs_for a name ++ pairs_for b name
pairs_both [] b name = refl
pairs_both (s ∷ a) b name = go (bytes_eq s.dataset name) (pairs_both a b name)
  where
    go : (e : Bool) → pairs_for (a ++ b) name ≡ pairs_for a name ++ pairs_for b name
        → (if e then s.pair ∷ pairs_for (a ++ b) name else pairs_for (a ++ b) name) ≡ (if e then s.pair ∷ pairs_for a name else pairs_for a name) ++ pairs_for b name
    go true rest = ap (λ (ps : List Pair). s.pair ∷ ps) rest
    go false rest = rest

pub dealt_both : (deal : List ℕ → ℕ) (w : ℕ) (a b : List Pair) → dealt_to deal w (a ++ b) ≡ dealt_to deal w a ++ dealt_to deal w b
dealt_both deal w [] b = refl
dealt_both deal w (p ∷ a) b = go (deal p.key == w) (dealt_both deal w a b)
  where
    go : (e : Bool) → dealt_to deal w (a ++ b) ≡ dealt_to deal w a ++ dealt_to deal w b
        → (if e then p ∷ dealt_to deal w (a ++ b) else dealt_to deal w (a ++ b)) ≡ (if e then p ∷ dealt_to deal w a else dealt_to deal w a) ++ dealt_to deal w b
    go true rest = ap (λ (ps : List Pair). p ∷ ps) rest
    go false rest = rest

pub share_both : (w n : ℕ) (a b : List Parcel) → share w n (a ++ b) ≡ share w n a ++ share w n b
share_both w n [] b = refl
share_both w n (p ∷ a) b = go ((p.worker == w) && (p.dataset == n)) (share_both w n a b)
  where
    go : (e : Bool) → share w n (a ++ b) ≡ share w n a ++ share w n b
        → (if e then pair_of p ∷ share w n (a ++ b) else share w n (a ++ b)) ≡ (if e then pair_of p ∷ share w n a else share w n a) ++ share w n b
    go true rest = ap (λ (ps : List Pair). pair_of p ∷ ps) rest
    go false rest = rest

-- a text that stands at a place is one of the texts
pub among_at : (names : List (List ℕ)) (i : ℕ) (m : List ℕ) → slice_get names i ≡ Some m → among m names ≡ true
among_at [] i m at = absurd (cc at)
among_at (n ∷ names) zero m at = let same : n ≡ m = cc at in ap₂ (λ (a b : Bool). a || b) (ap (bytes_eq m) same ∙ eq_refl m) refl
among_at (n ∷ names) (suc i) m at = or_right (bytes_eq m n) (among m names) (among_at names i m at)
  where
    or_right : (a b : Bool) → b ≡ true → (a || b) ≡ true
    or_right true b e = refl
    or_right false b e = e

-- texts that differ stand at one place each
pub one_place : (names : List (List ℕ)) (i j : ℕ) (m : List ℕ) → AreDistinct names → slice_get names i ≡ Some m → slice_get names j ≡ Some m → i ≡ j
one_place [] i j m d at there = absurd (cc at)
one_place (n ∷ names) zero zero m d at there = refl
one_place (n ∷ names) zero (suc j) m d at there = let same : n ≡ m = cc at in absurd (let e = among_at names j n (there ∙ ap Some (sym same)) in cc (e, d.0))
one_place (n ∷ names) (suc i) zero m d at there = let same : n ≡ m = cc there in absurd (let e = among_at names i n (at ∙ ap Some (sym same)) in cc (e, d.0))
one_place (n ∷ names) (suc i) (suc j) m d at there = ap suc (one_place names i j m d.1 at there)

-- The share of a worker in a dataset has the pairs of that dataset that are dealt to it.
pub share_is : (workers : ℕ) (names : List (List ℕ)) (w n : ℕ) (name : List ℕ) (ss : List Stored) (ps : List Parcel) → AreDistinct names → slice_get names n ≡ Some name → AreParcels workers names ss ps → share w n ps ≡ dealt_to (dealt workers name) w (pairs_for ss name)
share_is workers names w n name [] [] d at are = refl
share_is workers names w n name [] (p ∷ ps) d at are = absurd are
share_is workers names w n name (s ∷ ss) [] d at are = absurd are
share_is workers names w n name (s ∷ ss) (p ∷ ps) d at are = go (share_is workers names w n name ss ps d at are.1) (bytes_eq s.dataset name) refl (p.worker == w) refl
  where
    one : IsParcelOf workers names s p
    one = are.0

    there : bytes_eq s.dataset name ≡ true → p.dataset ≡ n
    there e = one_place names p.dataset n name d (one.named ∙ ap Some (eq_is s.dataset name e)) at

    same_worker : bytes_eq s.dataset name ≡ true → dealt workers name s.pair.key ≡ p.worker
    same_worker e = ap (λ (m : List ℕ). dealt workers m s.pair.key) (sym (eq_is s.dataset name e)) ∙ sym one.worker

    elsewhere : bytes_eq s.dataset name ≡ false → (p.dataset == n) ≡ false
    elsewhere e = equal_not p.dataset n (λ is. let f : Some s.dataset ≡ Some name = sym one.named ∙ ap (slice_get names) is ∙ at in let g : s.dataset ≡ name = cc f in absurd (cc (e, ap (λ (m : List ℕ). bytes_eq m name) g ∙ eq_refl name)))

    left : (a b : Bool) → (p.worker == w) ≡ a → (p.dataset == n) ≡ b → share w n (p ∷ ps) ≡ (if a && b then pair_of p ∷ share w n ps else share w n ps)
    left a b e f = ap₂ (λ (x y : Bool). if x && y then pair_of p ∷ share w n ps else share w n ps) e f

    right : (a b : Bool) → bytes_eq s.dataset name ≡ a → (a ≡ true → (dealt workers name s.pair.key == w) ≡ b) → dealt_to (dealt workers name) w (pairs_for (s ∷ ss) name)
        ≡ (if a && b then s.pair ∷ dealt_to (dealt workers name) w (pairs_for ss name) else dealt_to (dealt workers name) w (pairs_for ss name))
    right true b e f =
        ap (λ (x : Bool). dealt_to (dealt workers name) w (if x then s.pair ∷ pairs_for ss name else pairs_for ss name)) e
        ∙ ap (λ (x : Bool). if x then s.pair ∷ dealt_to (dealt workers name) w (pairs_for ss name) else dealt_to (dealt workers name) w (pairs_for ss name)) (f refl)
    right false b e f = ap (λ (x : Bool). dealt_to (dealt workers name) w (if x then s.pair ∷ pairs_for ss name else pairs_for ss name)) e

    worker_test : (b : Bool) → (p.worker == w) ≡ b → bytes_eq s.dataset name ≡ true → (dealt workers name s.pair.key == w) ≡ b
    worker_test b e is = ap (λ (x : ℕ). x == w) (same_worker is) ∙ e

    go : share w n ps ≡ dealt_to (dealt workers name) w (pairs_for ss name) → (a : Bool) → bytes_eq s.dataset name ≡ a → (b : Bool) → (p.worker == w) ≡ b → share w n (p ∷ ps) ≡ dealt_to (dealt workers name) w (pairs_for (s ∷ ss) name)
    go rest true e true f = left true true f (equal_to p.dataset n (there e)) ∙ ap₂ (λ (x : Pair) (xs : List Pair). x ∷ xs) one.pair rest ∙ sym (right true true e (λ _. worker_test true f e))
    go rest true e false f = left false true f (equal_to p.dataset n (there e)) ∙ rest ∙ sym (right true false e (λ _. worker_test false f e))
    go rest false e true f = left true false f (elsewhere e) ∙ rest ∙ sym (right false true e (λ g. absurd (cc g)))
    go rest false e false f = left false false f (elsewhere e) ∙ rest ∙ sym (right false false e (λ g. absurd (cc g)))
