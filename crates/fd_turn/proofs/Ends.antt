-- A board at its start and at its end.
use Rattle.std.proofs.Common.{◌≡◌, ℕ, zero, suc, ◌<◌, ◌≢◌, List, [], ◌∷◌, length, sym, refl, ap, ◌∙◌, subst, inl, ⊎_elim, arith, Option, None}
use mathlib.Core.Option as maybe
use mathlib.Core.List.{IsPrefix}
use lib.ListN.{get_elem?}
use Rattle.atomic_table.specs.Table.{State, opening, Final, Seen}
use Rattle.fd_entries.specs.declared.batch.Listing.{Listing}
use Rattle.fd_turn.specs.declared.view.SeatView.{SeatView}
use Rattle.fd_turn.specs.declared.view.Subject.{Subject}
use Rattle.fd_turn.specs.declared.view.Turn.TheVariants.{Away}
use Rattle.fd_turn.specs.declared.view.Lock.TheVariants.{Free}
use Rattle.fd_turn.specs.declared.rule.Slot.{Slot}
use Rattle.fd_turn.specs.declared.rule.Slot.TheVariants.{Value, Locked}
use Rattle.fd_turn.specs.Views.{all_parts}
use Rattle.fd_turn.specs.Seats.{first_seat}
use Rattle.fd_turn.specs.Rule.{in_turn, in_lock, holder_count, owner_count, IsCovered, IsSpent, Knows, IsKept}
use Rattle.fd_turn.specs.Steps.{Accounts}
use Rattle.fd_turn.proofs.Totals.{total_alone}
use Rattle.fd_turn.proofs.Prefixes.{prefix_self}
use Rattle.fd_turn.proofs.Accounting.{all_accounts, others_spent}
use Rattle.fd_turn.proofs.Turns.{slot_value}
use Rattle.fd_turn.proofs.Locks.{slot_state}

module _ (X Y : Type 0) (vlist : X → List Listing) (vsubject : X → List ℕ) (wlist : Y → List Listing) (wdoubt : Y → Option Listing) (wsubject : Y → Subject) where
  abbrev St : Type 0
  St = State (Slot X Y) SeatView

  abbrev Rule : St → Type 0
  Rule = IsKept vlist vsubject wlist wdoubt wsubject

  only_first : (v : SeatView) (j : ℕ) (u : SeatView) → get_elem? (v ∷ []) j ≡ maybe.some u → v ≡ u
  only_first v zero u e = maybe.some-injective v u e
  only_first v (suc j) u e = absurd (maybe.some-ne-none u (sym e))

  pub starts : (x : X) (y : Y) → vlist x ≡ wlist y → vsubject x ≡ (wsubject y).text → wdoubt y ≡ None → Rule (opening (0 ∷ 0 ∷ 0 ∷ []) (Value x ∷ Locked y ∷ []) (first_seat (wsubject y) (wlist y)))
  starts x y same about sure = record {
    whole = wlist y;
    opening = length (wlist y);
    subject = wsubject y;
    posts = 0;
    value = maybe.some (Value x);
    state = maybe.some (Locked y);
    words = refl;
    homes = refl;
    value_is = inl (refl, x, refl, same);
    state_is = inl (refl, y, refl, refl, λ l is. absurd (cc (sure, is)));
    value_about = λ z e. ap (λ (b : Slot X Y). vsubject (slot_value x b)) (sym (maybe.some-injective (Value x) (Value z) e)) ∙ about;
    state_about = λ z e. ap (λ (b : Slot X Y). wsubject (slot_state y b)) (sym (maybe.some-injective (Locked y) (Locked z) e));
    counted = omega arith;
    amounts = refl;
    parts = refl;
    seats = λ j u e. subst (Knows (wlist y) (length (wlist y)) (wsubject y) (first_seat (wsubject y) (wlist y) ∷ [])) (only_first (first_seat (wsubject y) (wlist y)) j u e) record {
      seen = prefix_self (wlist y);
      heard = (wlist y, refl);
      opened = λ z. refl;
      about = λ z. refl;
      turn = tt;
      lock = tt;
      spent = λ z. absurd (omega arith);
    };
  }

  pub starts_as : (x : X) (y : Y) (slots : List (Slot X Y)) (key : Y) → slots ≡ Value x ∷ Locked y ∷ [] → key ≡ y → vlist x ≡ wlist y → vsubject x ≡ (wsubject y).text → wdoubt y ≡ None → Rule (opening (0 ∷ 0 ∷ 0 ∷ []) slots (first_seat (wsubject key) (wlist key)))
  starts_as x y slots key is told same about sure = subst (λ (z : List (Slot X Y) × Y). Rule (opening (0 ∷ 0 ∷ 0 ∷ []) z.0 (first_seat (wsubject z.1) (wlist z.1)))) (λ i. (sym is i, sym told i)) (starts x y same about sure)

  -- what the last pass gets
  pub record Ended (v : SeatView) (slots : List (Slot X Y)) : Type 0 where
    pub value : X
    pub state : Y
    pub value_at : get_elem? slots 0 ≡ maybe.some (Value value)
    pub state_at : get_elem? slots 1 ≡ maybe.some (Locked state)
    pub same : vlist value ≡ wlist state
    pub value_about : vsubject value ≡ v.subject.text
    pub state_about : wsubject state ≡ v.subject
    pub seen : IsPrefix v.history (vlist value)
    pub accounts : Accounts v (vlist value) (wdoubt state)

  pub ends : (id : ℕ) (v : SeatView) (words : List ℕ) (slots : List (Slot X Y)) → v.turn ≡ Away → v.lock ≡ Free → v.parts ≡ all_parts → Final (Seen Rule id v) words slots → Ended v slots
  ends id v words slots away free all (s, (r, at), _, _, home) =
      let k = r.seats id v at in
      let some_parts : 0 < v.parts = omega (arith, all) in
      let spent : (j : ℕ) (u : SeatView) → j ≢ id → get_elem? s.views j ≡ maybe.some u → IsSpent u =
      λ j u n e. (r.seats j u e).spent (others_spent X Y vlist vsubject wlist wdoubt wsubject s r id j v u n at e all) in
      let no_turn : holder_count s.views ≡ 0 = total_alone (λ (z : SeatView). in_turn z.turn) s.views id v at (λ j u n e. ap in_turn (spent j u n e).away) ∙ ap in_turn away in
      let no_lock : owner_count s.views ≡ 0 = total_alone (λ (z : SeatView). in_lock z.lock) s.views id v at (λ j u n e. ap in_lock (spent j u n e).free) ∙ ap in_lock free in
      ⊎_elim
      (λ (t : (holder_count s.views ≡ 0) × (x : X) × (r.value ≡ maybe.some (Value x)) × (vlist x ≡ r.whole)). ⊎_elim
      (λ (q : (owner_count s.views ≡ 0) × (y : Y) × (r.state ≡ maybe.some (Locked y)) × (wlist y ≡ r.whole) × IsCovered s.views (wdoubt y)). record {
        value = t.1;
        state = q.1;
        value_at = home 0 (Value t.1) (ap (λ hs. get_elem? hs 0) r.homes ∙ ap maybe.some t.2);
        state_at = home 1 (Locked q.1) (ap (λ hs. get_elem? hs 1) r.homes ∙ ap maybe.some q.2);
        same = t.3 ∙ sym q.3;
        value_about = r.value_about t.1 t.2 ∙ sym (ap (λ (a : Subject). a.text) (k.about some_parts));
        state_about = r.state_about q.1 q.2 ∙ sym (k.about some_parts);
        seen = subst (IsPrefix v.history) (sym t.3) k.seen;
        accounts = subst (λ (xs : List Listing). Accounts v xs (wdoubt q.1)) (sym t.3) (all_accounts X Y vlist vsubject wlist wdoubt wsubject s r id v (wdoubt q.1) at some_parts q.4);
      })
      (λ (q : (owner_count s.views ≡ 1) × (r.state ≡ maybe.none)). let one = q.0 in absurd (omega arith))
      r.state_is)
      (λ (t : (holder_count s.views ≡ 1) × (r.value ≡ maybe.none)). let one = t.0 in absurd (omega arith))
      r.value_is

  abbrev pub EndsAs : SeatView → Slot X Y → Slot X Y → Type 0
  EndsAs v a b = (x : X) × (y : Y) × (a ≡ Value x) × (b ≡ Locked y) × (vlist x ≡ wlist y) × IsPrefix v.history (vlist x) × Accounts v (vlist x) (wdoubt y) × (vsubject x ≡ v.subject.text) × ((wsubject y).text ≡ v.subject.text) × ((wsubject y).told ≡ v.subject.told)

  pub ended_as : (v : SeatView) (slots : List (Slot X Y)) (a b : Slot X Y) → Ended v slots → get_elem? slots 0 ≡ maybe.some a → get_elem? slots 1 ≡ maybe.some b → EndsAs v a b
  ended_as v slots a b e p q = (e.value, e.state, maybe.some-injective a (Value e.value) (sym p ∙ e.value_at), maybe.some-injective b (Locked e.state) (sym q ∙ e.state_at), e.same, e.seen, e.accounts, e.value_about, ap (λ (a : Subject). a.text) e.state_about, ap (λ (a : Subject). a.told) e.state_about)
