-- One step more of a lane.
use Rattle.std.proofs.Common.{◌≡◌, ◌<◌, ◌≤◌, ◌+◌, ◌-◌, ◌⊎◌, inl, inr, ℕ, zero, suc, List, [], ◌∷◌, ◌++◌, map, take, drop, get_or, length, sym, refl, ap, ◌∙◌, subst, arith, length-append, Bool, true, false, Option, Some, None}
use Rattle.std.proofs.Math.Seq.{take-suc}
use Rattle.std.specs.Prelude.{IsSome}
use mathlib.Core.List.{IsPrefix}
use Rattle.fd_entries.specs.declared.batch.Pair.{Pair}
use Rattle.fd_entries.specs.declared.batch.Listing.{Listing}
use Rattle.fd_entries.specs.Table.{greatest_writer}
use Rattle.fd_segment.specs.Held.{Standing}
use Rattle.fd_dataset.specs.Listed.{listing}
use Rattle.fd_turn.specs.Views.{View}
use Rattle.fd_archiver.specs.Writing.{IsPending, IsPendingIn, Writing}
use Rattle.fd_numbers.specs.Numbers.{IsIn}
use Rattle.fd_lanes.specs.Tables.{StandsFor}
use Rattle.fd_lanes.specs.Acts.{Act}
use Rattle.fd_lanes.specs.declared.end.End.{End}
use Rattle.fd_lanes.specs.Walks.{Stand, after, beginning, receipt, receipts, walked, Walks}
use Rattle.fd_lanes.specs.Legal.{IsListedIn, IsFullIn, IsAnsweredIn, IsDamagedIn, WalksIn}
use Rattle.fd_lanes.specs.Fits.{Fits, InDoubt, Keeps, Moves}
use Rattle.fd_lanes.proofs.Histories.{prefix_length, prefix_trans, listed_longer, full_longer, answered_longer, damaged_longer}
use Rattle.fd_lanes.proofs.Walking.{walks_snoc, walked_snoc, receipts_snoc, walks_map}

pub take_one : {X : Type 0} (xs : List X) (i : ℕ) (x : X) → i < length xs → x ≡ get_or xs i x → take (i + 1) xs ≡ take i xs ++ x ∷ []
take_one xs i x lt is =
    let up : i + 1 ≡ suc i = omega arith in
    ap (λ (n : ℕ). take n xs) up ∙ (take-suc xs i x lt ∙ ap (λ y. take i xs ++ y ∷ []) (sym is))

pub take_past : {X : Type 0} (xs : List X) (n : ℕ) → length xs ≤ n → take n xs ≡ xs
take_past [] zero h = refl
take_past [] (suc n) h = refl
take_past (x ∷ xs) zero h = absurd (omega arith)
take_past (x ∷ xs) (suc n) h = ap (λ ys. x ∷ ys) (take_past xs n (omega arith))

pub keeps_on : (u v w : View) → Keeps u v → Keeps v w → Keeps u w
keeps_on u v w a b = record { seen = prefix_trans u.history v.history w.history a.seen b.seen; parts = b.parts ∙ a.parts; opening = b.opening ∙ a.opening; subject = b.subject ∙ a.subject; free = b.free }

-- a greater table may have a greater writer
pub writer_fits : (u v : View) (writer : ℕ) → IsPrefix u.history v.history → writer ≤ greatest_writer (length u.history) → writer ≤ greatest_writer (length v.history)
writer_fits u v writer seen small = let le = prefix_length u.history v.history seen in omega arith

module _ (F H : Type 0) where
  -- one step more
  pub one_more : (writer : ℕ) (x y : Writing H) (u v w : View) (s : Stand) (acts acts' : List Act) (es es' : List (End F)) (a : Act) (e : End F)
      → x.writer ≡ writer → acts' ≡ acts ++ a ∷ [] → es' ≡ es ++ e ∷ []
      → IsPrefix v.history w.history → WalksIn v.history writer s acts es → v.amount ≡ u.amount + length (receipts s acts es)
      → Moves x y v w (walked s acts es) a e
      → WalksIn w.history writer s acts' es' × Fits y w (walked s acts' es') × (w.amount ≡ u.amount + length (receipts s acts' es')) × (walked s acts' es' ≡ after (walked s acts es) a e)
  one_more writer x y u v w s acts acts' es es' a e same is_acts is_es p walks amount m =
      let walks' = walks_map F (IsListedIn v.history writer) (IsFullIn v.history writer) (IsAnsweredIn v.history writer) (IsDamagedIn v.history writer) (IsListedIn w.history writer) (IsFullIn w.history writer) (IsAnsweredIn w.history writer) (IsDamagedIn w.history writer)
      (full_longer v.history w.history writer p) (answered_longer v.history w.history writer p) (damaged_longer v.history w.history writer p) s acts es (listed_longer v.history w.history writer p) walks in
      let long = receipts_snoc F (IsListedIn w.history writer) (IsFullIn w.history writer) (IsAnsweredIn w.history writer) (IsDamagedIn w.history writer) s acts es a e walks' in
      let more = m.amount in
      let ends = subst (λ (n : ℕ). Walks (IsListedIn w.history n) (IsFullIn w.history n) (IsAnsweredIn w.history n) (IsDamagedIn w.history n) (walked s acts es) (a ∷ []) (e ∷ [])) same (m.ends, tt) in
      let after_is = walked_snoc F (IsListedIn w.history writer) (IsFullIn w.history writer) (IsAnsweredIn w.history writer) (IsDamagedIn w.history writer) s acts es a e walks' in
      let all : WalksIn w.history writer s (acts ++ a ∷ []) (es ++ e ∷ []) × Fits y w (walked s (acts ++ a ∷ []) (es ++ e ∷ [])) × (w.amount ≡ u.amount + length (receipts s (acts ++ a ∷ []) (es ++ e ∷ []))) × (walked s (acts ++ a ∷ []) (es ++ e ∷ []) ≡ after (walked s acts es) a e) = (
        walks_snoc F (IsListedIn w.history writer) (IsFullIn w.history writer) (IsAnsweredIn w.history writer) (IsDamagedIn w.history writer) s acts es a e walks' ends.0,
        subst (Fits y w) (sym after_is) m.fits,
        omega arith,
        after_is,
      ) in
      subst (λ (z : List Act × List (End F)). WalksIn w.history writer s z.0 z.1 × Fits y w (walked s z.0 z.1) × (w.amount ≡ u.amount + length (receipts s z.0 z.1)) × (walked s z.0 z.1 ≡ after (walked s acts es) a e)) (λ i. (sym is_acts i, sym is_es i)) all

-- what a lane has in doubt is what it has pending
pub doubt_stands : (H : Type 0) (w : Writing H) (doubts : List Listing) (s : Stand) (l : Listing) → InDoubt w doubts s → IsPending w s.pending → IsIn doubts l → (s.faulted ≡ true) × StandsFor l s.pending
doubt_stands H w doubts s l (inl none) pending i = absurd (subst (λ (ls : List Listing). IsIn ls l) none i)
doubt_stands H w doubts s l (inr d) pending i = (d.3, go (subst (λ (ls : List Listing). IsIn ls l) d.2 i))
  where
    from : IsPendingIn w.told (Some d.0) w.draft s.pending
    from = subst (λ (u : Option Standing). IsPendingIn w.told u w.draft s.pending) d.1 pending

    go : IsIn (listing d.0 ∷ []) l → StandsFor l s.pending
    go (inl e) = subst (λ (k : Listing). StandsFor k s.pending) e from.1.alike
    go (inr e) = absurd e

-- how a lane begins
pub begun : (H : Type 0) (n : ℕ) (x : Writing H) (v : View) → IsPending x [] → v.doubts ≡ [] → Fits x v (beginning (length v.history))
begun H n x v nothing sure = record {
  pending = nothing;
  last = omega arith;
  refused = λ some. absurd (go x.unlisted refl nothing some);
  doubts = inl sure;
  waits = tt;
}
  where
    go : (u : Option Standing) → x.unlisted ≡ u → IsPendingIn x.told u x.draft [] → IsSome x.unlisted → ⊥
    go None is p some = let none = ap IsSome is in cc (is, some)
    go (Some z) is p some = absurd (p.1.some refl)
