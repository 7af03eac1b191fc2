-- Publishing keeps the rule: the whole history gets one listing more.
use Rattle.std.proofs.Common.{◌≡◌, ℕ, ◌+◌, ◌%◌, ◌^◌, ◌<◌, ◌≤◌, List, [], ◌∷◌, ◌++◌, length, get_or, set, sym, refl, ap, ◌∙◌, subst, inr, ⊎_elim, arith, Option, true, false, length-append}
use mathlib.Core.Option as maybe
use mathlib.Core.List.{IsPrefix}
use Rattle.atomic_table.specs.Table.{State, Me, step, keeps, Allows, rest}
use Rattle.fd_entries.specs.declared.batch.Listing.{Listing}
use Rattle.fd_turn.specs.declared.view.SeatView.{SeatView}
use Rattle.fd_turn.specs.declared.view.Subject.{Subject}
use Rattle.fd_turn.specs.declared.view.Turn.TheVariants.{Holder}
use Rattle.fd_turn.specs.declared.view.Lock.{Lock}
use Rattle.fd_turn.specs.declared.view.Lock.TheVariants.{Owner}
use Rattle.fd_turn.specs.declared.rule.Slot.{Slot}
use Rattle.fd_turn.specs.declared.rule.Slot.TheVariants.{Value, Locked}
use Rattle.fd_turn.specs.Seats.{with_turn, with_post}
use Rattle.fd_turn.specs.Rule.{in_turn, in_lock, holder_count, owner_count, total, IsCovered, KnowsTurn, KnowsLock, Knows, ValueIs, StateIs, IsKept}
use Rattle.fd_turn.specs.Steps.{published}
use Rattle.fd_turn.proofs.Totals.{total_set, total_same, total_one}
use Rattle.fd_turn.proofs.Prefixes.{prefix_self, prefix_more}
use Rattle.fd_turn.proofs.Doubts.{Covers, covers_set, covered_by}
use Rattle.fd_turn.proofs.Seats.{knows_more, seats_stay, others_away, others_free, holders_most, owners_most}
use Rattle.fd_turn.proofs.Turns.{slot_value, kept_is, owner_sees}

abbrev value_of : {X Y : Type 0} → X → List (ℕ × Slot X Y) → X
value_of x [] = x
value_of x (s ∷ ss) = slot_value x s.1

value_is : (X Y : Type 0) (x x' : X) (c : List (ℕ × Slot X Y)) → c ≡ (0, Value x) ∷ rest c → c ≡ (0, Value x') ∷ rest c → x ≡ x'
value_is X Y x x' c a b = ap (value_of x) (sym a ∙ b)

-- where someone has the turn, the value is out, whatever the whole history is
value_out : (X Y : Type 0) (vlist : X → List Listing) (whole : List Listing) (n : ℕ) (slot : maybe.Option (Slot X Y)) → 1 ≤ n → ValueIs vlist whole n slot → (n ≡ 1) × (slot ≡ maybe.none)
value_out X Y vlist whole n slot one h = ⊎_elim (λ (t : (n ≡ 0) × (x : X) × (slot ≡ maybe.some (Value x)) × (vlist x ≡ whole)). let z = t.0 in absurd (omega arith)) (λ (t : (n ≡ 1) × (slot ≡ maybe.none)). t) h

state_out : (X Y : Type 0) (wlist : Y → List Listing) (wdoubt : Y → Option Listing) (whole : List Listing) (views : List SeatView) (n : ℕ) (slot : maybe.Option (Slot X Y)) → 1 ≤ n → StateIs wlist wdoubt whole views n slot → (n ≡ 1) × (slot ≡ maybe.none)
state_out X Y wlist wdoubt whole views n slot one h = ⊎_elim (λ (t : (n ≡ 0) × (y : Y) × (slot ≡ maybe.some (Locked y)) × (wlist y ≡ whole) × IsCovered views (wdoubt y)). let z = t.0 in absurd (omega arith)) (λ (t : (n ≡ 1) × (slot ≡ maybe.none)). t) h

counted_up : (opening posts len : ℕ) → opening + posts ≡ len → len < 2 ^ 32 → (posts + 1) % 2 ^ 64 ≡ posts + 1
counted_up opening posts len sum small = omega arith

owner_more : (whole : List Listing) (views : List SeatView) (d : Option Listing) (t : Lock) → t ≡ Owner d → IsCovered views d → KnowsLock whole views whole t
owner_more whole views d t is cover = subst (KnowsLock whole views whole) (sym is) (refl, cover)

module _ (X Y : Type 0) (vlist : X → List Listing) (vsubject : X → List ℕ) (wlist : Y → List Listing) (wdoubt : Y → Option Listing) (wsubject : Y → Subject) where
  abbrev St : Type 0
  St = State (Slot X Y) SeatView

  abbrev Seated : Type 0
  Seated = Me (Slot X Y) SeatView

  abbrev Rule : St → Type 0
  Rule = IsKept vlist vsubject wlist wdoubt wsubject

  pub publishes : (slots id : ℕ) (m : Seated) (x : X) (kept : List Listing) (d : Option Listing) (e : Listing) → m.0.turn ≡ Holder kept false → m.0.lock ≡ Owner d → 0 < m.0.parts → m.1 ≡ (0, Value x) ∷ rest m.1
      → length m.0.history < 2 ^ 32 → vlist x ≡ m.0.history ++ e ∷ [] → Allows Rule slots id m 1 (λ n. (n + 1) % 2 ^ 64) (published vlist (step slots 1 1 0 maybe.none) m)
  publishes slots id m x kept d e holds owns some_parts carries room next s r wide at small =
      let v : SeatView = m.0 in
      let k = r.seats id v at in
      let n : ℕ = get_or s.words 1 0 in
      let word : n ≡ r.posts = ap (λ ws. get_or ws 1 0) r.words in
      let kept_whole : kept ≡ r.whole = subst (KnowsTurn r.whole v.lock) holds k.turn in
      let owner = owner_sees r.whole s.views v.history d v.lock owns k.lock in
      let whole : List Listing = r.whole ++ e ∷ [] in
      let is : vlist x ≡ whole = next ∙ ap (λ xs. xs ++ e ∷ []) owner.0 in
      let w : SeatView = with_turn (with_post v (vlist x)) (Holder kept true) in
      let vs : List SeatView = set s.views id w in
      let more : Covers s.views vs = covers_set s.views id v w at (λ l c. c) in
      let short : length r.whole < 2 ^ 32 = subst (λ (xs : List Listing). length xs < 2 ^ 32) owner.0 room in
      let up : (n + 1) % 2 ^ 64 ≡ r.posts + 1 = ap (λ (z : ℕ). (z + 1) % 2 ^ 64) word ∙ counted_up r.opening r.posts (length r.whole) r.counted short in
      let has : in_turn v.turn ≡ 1 = ap in_turn holds in
      let own : in_lock v.lock ≡ 1 = ap in_lock owns in
      let least : in_turn v.turn ≤ holder_count s.views = total_one (λ (z : SeatView). in_turn z.turn) s.views id v at in
      let least' : in_lock v.lock ≤ owner_count s.views = total_one (λ (z : SeatView). in_lock z.lock) s.views id v at in
      let hold : holder_count vs ≡ holder_count s.views = total_same (λ (z : SeatView). in_turn z.turn) s.views id v w at (sym has) in
      let held : owner_count vs ≡ owner_count s.views = total_same (λ (z : SeatView). in_lock z.lock) s.views id v w at refl in
      let out = value_out X Y vlist r.whole (holder_count s.views) r.value (omega arith) r.value_is in
      let out' = state_out X Y wlist wdoubt r.whole s.views (owner_count s.views) r.state (omega arith) r.state_is in
      let sum : total (λ (z : SeatView). z.amount) vs + v.amount ≡ total (λ (z : SeatView). z.amount) s.views + (v.amount + 1) = total_set (λ (z : SeatView). z.amount) s.views id v w at in
      let amount = r.amounts in
      let count = r.counted in
      let one = length-append r.whole (e ∷ []) in (
        w,
        keeps,
        tt,
        record {
          whole = whole;
          opening = r.opening;
          subject = r.subject;
          posts = r.posts + 1;
          value = r.value;
          state = r.state;
          words = ap (λ ws. set ws 1 ((n + 1) % 2 ^ 64)) r.words ∙ (λ i. sym hold i ∷ up i ∷ sym held i ∷ []);
          homes = r.homes;
          value_is = inr (hold ∙ out.0, out.1);
          state_is = inr (held ∙ out'.0, out'.1);
          value_about = r.value_about;
          state_about = r.state_about;
          counted = omega arith;
          amounts = omega arith;
          parts = total_same (λ (z : SeatView). z.parts) s.views id v w at refl ∙ r.parts;
          seats = seats_stay (Knows whole r.opening r.subject vs) s.views id w record {
            seen = subst (λ (xs : List Listing). IsPrefix xs whole) (sym is) (prefix_self whole);
            heard = prefix_more v.told r.whole (e ∷ []) k.heard;
            opened = k.opened;
            about = k.about;
            turn = (own, (e, ap (λ xs. xs ++ e ∷ []) (sym kept_whole)));
            lock = subst (λ (xs : List Listing). KnowsLock whole vs xs v.lock) (sym is) (owner_more whole vs d v.lock owns (covered_by s.views vs d more owner.1));
            spent = λ z. absurd (omega arith);
          } (λ j u not h. knows_more r.whole (e ∷ []) r.opening r.subject s.views vs u
              (others_away s.views id j v u not at h has (holders_most vlist r.whole (holder_count s.views) r.value r.value_is))
              (others_free s.views id j v u not at h own (owners_most wlist wdoubt r.whole s.views (owner_count s.views) r.state r.state_is)) (r.seats j u h));
        },
        λ x' kept' carries' holds'. let same : x ≡ x' = value_is X Y x x' m.1 carries carries' in let same' : kept ≡ kept' = kept_is v.turn kept kept' holds holds' in
            λ i. (with_turn (with_post v (vlist (same i))) (Holder (same' i) true), m.1),
      )
