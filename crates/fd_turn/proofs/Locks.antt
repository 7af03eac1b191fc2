-- Taking and leaving the lock keep the rule.
use Rattle.std.proofs.Common.{◌≡◌, ℕ, ◌+◌, ◌<◌, ◌≤◌, eqb, List, [], ◌∷◌, get_or, set, sym, refl, ap, ◌∙◌, subst, inl, inr, ⊎_elim, arith, Option, Some, Contains, true, false}
use mathlib.Core.Option as maybe
use mathlib.Core.List.{IsPrefix}
use lib.ListN.{get_elem?}
use prog.Atomic.{either}
use Rattle.atomic_table.specs.Table.{State, Me, Act, step, keeps, takes, gives, stepped, Valid, carried_after, put_back, Allows, rest}
use Rattle.atomic_table.proofs.Lists.{exchanged}
use Rattle.fd_entries.specs.declared.batch.Listing.{Listing}
use Rattle.fd_turn.specs.declared.view.SeatView.{SeatView}
use Rattle.fd_turn.specs.declared.view.Subject.{Subject}
use Rattle.fd_turn.specs.declared.view.Turn.{Turn}
use Rattle.fd_turn.specs.declared.view.Turn.TheVariants.{Away, Holder}
use Rattle.fd_turn.specs.declared.view.Lock.{Lock}
use Rattle.fd_turn.specs.declared.view.Lock.TheVariants.{Free, Owner}
use Rattle.fd_turn.specs.declared.rule.Slot.{Slot}
use Rattle.fd_turn.specs.declared.rule.Slot.TheVariants.{Locked}
use Rattle.fd_turn.specs.Views.{Settles}
use Rattle.fd_turn.specs.Seats.{owner_seat, released_seat}
use Rattle.fd_turn.specs.Rule.{in_turn, in_lock, holder_count, owner_count, IsDoubted, IsCovered, KnowsTurn, KnowsLock, Knows, IsKept}
use Rattle.fd_turn.specs.Steps.{Accounts, took_lock, left_lock}
use Rattle.fd_turn.proofs.Totals.{total_set, total_same, total_one}
use Rattle.fd_turn.proofs.Prefixes.{prefix_self}
use Rattle.fd_turn.proofs.Doubts.{Covers, covers_set, contains_only, at_inside}
use Rattle.fd_turn.proofs.Seats.{still_knows, seats_set, seats_stay, others_free, owners_most, value_stays}
use Rattle.fd_turn.proofs.Accounting.{all_accounts}
use Rattle.fd_turn.proofs.Turns.{stays, owner_sees}
use Rattle.fd_turn.proofs.Settling.{settled, found_is}
use Rattle.fd_turn.proofs.Same.{same_doubt}
use Rattle.atomic_table.proofs.Lists.{set_here}

-- the state of a slot, or y
abbrev pub slot_state : {X Y : Type 0} → Y → Slot X Y → Y
slot_state y (Locked z) = z
slot_state y _ = y

abbrev locked_of : {X Y : Type 0} → Y → List (ℕ × Slot X Y) → Y
locked_of y [] = y
locked_of y (x ∷ xs) = slot_state y x.1

locked_is : (X Y : Type 0) (y y' : Y) (c : List (ℕ × Slot X Y)) → c ≡ (1, Locked y) ∷ rest c → c ≡ (1, Locked y') ∷ rest c → y ≡ y'
locked_is X Y y y' c a b = ap (locked_of y) (sym a ∙ b)

-- the lock is no part of what a pass without the lock knows of its turn
turn_of : (whole : List Listing) (lock lock' : Lock) (t : Turn) → lock ≡ Free → KnowsTurn whole lock t → KnowsTurn whole lock' t
turn_of whole lock lock' Away free k = tt
turn_of whole lock lock' (Holder kept false) free k = k
turn_of whole lock lock' (Holder kept true) free k = let none : in_lock lock ≡ 0 = ap in_lock free in let one = k.0 in absurd (omega arith)

knows_free : (whole : List Listing) (opening : ℕ) (subject : Subject) (views views' : List SeatView) (u : SeatView) → u.lock ≡ Free → Knows whole opening subject views u → Knows whole opening subject views' u
knows_free whole opening subject views views' u free k = record {
  seen = k.seen;
  heard = k.heard;
  opened = k.opened;
  about = k.about;
  turn = k.turn;
  lock = subst (KnowsLock whole views' u.history) (sym free) tt;
  spent = k.spent;
}

covers_left : (views : List SeatView) (id : ℕ) (v w : SeatView) (d left : Option Listing) → v.lock ≡ Owner d → get_elem? views id ≡ maybe.some v → get_elem? (set views id w) id ≡ maybe.some w
    → Settles v.lock v.doubts left w.doubts → IsCovered views d → IsCovered (set views id w) left
covers_left views id v w d left owns at here settle cover l is = by (same_doubt d (Some l)) where
  by : Dec (d ≡ Some l) → IsDoubted (set views id w) l
  by (yes same) = covers_set views id v w at (λ k c. subst (λ (xs : List Listing). Contains xs k) (sym (settle.found l is (owns ∙ ap Owner same))) c) l (cover l same)
  by (no not) = (id, w, here, subst (λ (xs : List Listing). Contains xs l) (sym (settle.new l is (λ e. not (found_is d (Some l) v.lock owns e)))) (contains_only l))

same_subject : (a b : Subject) → a.text ≡ b.text → a.told ≡ b.told → a ≡ b
same_subject a b text told = λ i. record { text = text i; told = told i }

module _ (X Y : Type 0) (vlist : X → List Listing) (vsubject : X → List ℕ) (wlist : Y → List Listing) (wdoubt : Y → Option Listing) (wsubject : Y → Subject) where
  abbrev St : Type 0
  St = State (Slot X Y) SeatView

  abbrev Seated : Type 0
  Seated = Me (Slot X Y) SeatView

  abbrev Rule : St → Type 0
  Rule = IsKept vlist vsubject wlist wdoubt wsubject

  pub takes_lock : (slots id : ℕ) (m : Seated) → m.0.lock ≡ Free → 0 < m.0.parts → Allows Rule slots id m 2 (λ n. either (eqb n 0) 1 n) (took_lock wlist wdoubt wsubject (step slots 2 0 1 maybe.none) m)
  takes_lock slots id m free some_parts s r wide at small =
      let n : ℕ = get_or s.words 2 0 in
      let v : SeatView = m.0 in
      let k = r.seats id v at in
      let word : n ≡ owner_count s.views = ap (λ ws. get_or ws 2 0) r.words in
      let F : ℕ → Type 0 = λ z. (w : SeatView) × (a : Act (Slot X Y)) × Valid s.homes m.1 a × Rule (stepped s 2 z id m.1 w a) × took_lock wlist wdoubt wsubject (step slots 2 0 1 maybe.none) m n (w, carried_after m.1 a) in
      exchanged n 0 1 F
      (λ is. ⊎_elim
      (λ (t : (owner_count s.views ≡ 0) × (y : Y) × (r.state ≡ maybe.some (Locked y)) × (wlist y ≡ r.whole) × IsCovered s.views (wdoubt y)).
      let y : Y = t.1 in
      let w : SeatView = owner_seat v (wlist y) (wdoubt y) in
      let vs : List SeatView = set s.views id w in
      let more : Covers s.views vs = covers_set s.views id v w at (λ l c. c) in
      let k' = still_knows r.whole r.opening r.subject s.views vs v more k in
      let sum : owner_count vs + in_lock v.lock ≡ owner_count s.views + 1 = total_set (λ (z : SeatView). in_lock z.lock) s.views id v w at in
      let mine : in_lock v.lock ≡ 0 = ap in_lock free in
      let zero = t.0 in
      let one : owner_count vs ≡ 1 = omega arith in
      let hold : holder_count vs ≡ holder_count s.views = total_same (λ (z : SeatView). in_turn z.turn) s.views id v w at refl in (
        w,
        takes 1 (Locked y),
        ap (λ hs. get_elem? hs 1) r.homes ∙ ap maybe.some t.2,
        record {
          whole = r.whole;
          opening = r.opening;
          subject = r.subject;
          posts = r.posts;
          value = r.value;
          state = maybe.none;
          words = ap (λ ws. set ws 2 1) r.words ∙ (λ i. sym hold i ∷ r.posts ∷ sym one i ∷ []);
          homes = ap (λ hs. set hs 1 maybe.none) r.homes;
          value_is = value_stays vlist r.whole (holder_count s.views) (holder_count vs) r.value hold r.value_is;
          state_is = inr (one, refl);
          value_about = r.value_about;
          state_about = λ z e. absurd (maybe.some-ne-none (Locked z) (sym e));
          counted = r.counted;
          amounts = total_same (λ (z : SeatView). z.amount) s.views id v w at refl ∙ r.amounts;
          parts = total_same (λ (z : SeatView). z.parts) s.views id v w at refl ∙ r.parts;
          seats = seats_set r.whole r.opening r.subject s.views id w more record {
            seen = subst (λ (xs : List Listing). IsPrefix xs r.whole) (sym t.3) (prefix_self r.whole);
            heard = k'.heard;
            opened = k'.opened;
            about = k'.about;
            turn = turn_of r.whole v.lock w.lock v.turn free k'.turn;
            lock = (t.3, λ l d. more l (t.4 l d));
            spent = λ z. absurd (omega arith);
          } r.seats;
        },
        ((λ _. (y, refl, subst (IsPrefix v.history) (sym t.3) k.seen, subst (λ (xs : List Listing). Accounts v xs (wdoubt y)) (sym t.3) (all_accounts X Y vlist vsubject wlist wdoubt wsubject s r id v (wdoubt y) at some_parts t.4), ap (λ (a : Subject). a.text) (r.state_about y t.2 ∙ sym (k.about some_parts)), ap (λ (a : Subject). a.told) (r.state_about y t.2 ∙ sym (k.about some_parts)))), λ ne. absurd (ne is)),
      ))
      (λ (t : (owner_count s.views ≡ 1) × (r.state ≡ maybe.none)). absurd (omega (arith, t.0)))
      r.state_is)
      (λ ne. (m.0, keeps, tt, stays X Y vlist vsubject wlist wdoubt wsubject s r 2 id m.0 at, ((λ e. absurd (ne e)), λ _. refl)))

  pub leaves_lock : (slots id : ℕ) (m : Seated) (y : Y) (d : Option Listing) → m.0.lock ≡ Owner d → m.0.turn ≡ Away → 0 < m.0.parts → m.1 ≡ (1, Locked y) ∷ rest m.1 → wlist y ≡ m.0.history → (wsubject y).text ≡ m.0.subject.text → (wsubject y).told ≡ m.0.subject.told
      → Allows Rule slots id m 2 (λ _. 0) (λ _. left_lock wdoubt (step slots 2 0 0 maybe.none) m 0)
  leaves_lock slots id m y d owns away some_parts carries list about told s r wide at small =
      let v : SeatView = m.0 in
      let k = r.seats id v at in
      let mine = owner_sees r.whole s.views v.history d v.lock owns k.lock in
      let settle = settled v.lock v.doubts (wdoubt y) d owns in
      let w : SeatView = released_seat v settle.0 in
      let vs : List SeatView = set s.views id w in
      let own : in_lock v.lock ≡ 1 = ap in_lock owns in
      let sum : owner_count vs + in_lock v.lock ≡ owner_count s.views + 0 = total_set (λ (z : SeatView). in_lock z.lock) s.views id v w at in
      let least : in_lock v.lock ≤ owner_count s.views = total_one (λ (z : SeatView). in_lock z.lock) s.views id v at in
      let most : owner_count s.views ≤ 1 = owners_most wlist wdoubt r.whole s.views (owner_count s.views) r.state r.state_is in
      let none : owner_count vs ≡ 0 = omega arith in
      let hold : holder_count vs ≡ holder_count s.views = total_same (λ (z : SeatView). in_turn z.turn) s.views id v w at refl in
      let here : get_elem? vs id ≡ maybe.some w = set_here s.views id w (at_inside s.views id v at) in (
        w,
        gives,
        tt,
        record {
          whole = r.whole;
          opening = r.opening;
          subject = r.subject;
          posts = r.posts;
          value = r.value;
          state = maybe.some (Locked y);
          words = ap (λ ws. set ws 2 0) r.words ∙ (λ i. sym hold i ∷ r.posts ∷ sym none i ∷ []);
          homes = ap (put_back s.homes) carries ∙ ap (λ hs. set hs 1 (maybe.some (Locked y))) r.homes;
          value_is = value_stays vlist r.whole (holder_count s.views) (holder_count vs) r.value hold r.value_is;
          state_is = inl (none, y, refl, list ∙ mine.0, covers_left s.views id v w d (wdoubt y) owns at here settle.1 mine.1);
          value_about = r.value_about;
          state_about = λ z e. ap (λ (b : Slot X Y). wsubject (slot_state y b)) (sym (maybe.some-injective (Locked y) (Locked z) e)) ∙ (same_subject (wsubject y) v.subject about told ∙ k.about some_parts);
          counted = r.counted;
          amounts = total_same (λ (z : SeatView). z.amount) s.views id v w at refl ∙ r.amounts;
          parts = total_same (λ (z : SeatView). z.parts) s.views id v w at refl ∙ r.parts;
          seats = seats_stay (Knows r.whole r.opening r.subject vs) s.views id w record {
            seen = k.seen;
            heard = k.heard;
            opened = k.opened;
            about = k.about;
            turn = subst (KnowsTurn r.whole Free) (sym away) tt;
            lock = tt;
            spent = λ z. absurd (omega arith);
          } (λ j u n e. knows_free r.whole r.opening r.subject s.views vs u (others_free s.views id j v u n at e own most) (r.seats j u e));
        },
        λ y' carries'. let same_y : y ≡ y' = locked_is X Y y y' m.1 carries carries' in
            (settle.0, refl, subst (λ (z : Y). Settles v.lock v.doubts (wdoubt z) settle.0) same_y settle.1),
      )
