-- What is true of each pass stays true where another pass steps.
use Rattle.std.proofs.Common.{◌≡◌, ℕ, ◌≤◌, ◌≢◌, List, ◌++◌, set, sym, refl, ◌∙◌, subst, inl, inr, ⊎_elim, arith, Option}
use mathlib.Core.Option as maybe
use lib.ListN.{get_elem?}
use Rattle.atomic_table.proofs.Lists.{at_set}
use Rattle.fd_entries.specs.declared.batch.Listing.{Listing}
use Rattle.fd_turn.specs.declared.view.SeatView.{SeatView}
use Rattle.fd_turn.specs.declared.view.Subject.{Subject}
use Rattle.fd_turn.specs.declared.view.Turn.{Turn}
use Rattle.fd_turn.specs.declared.view.Turn.TheVariants.{Away, Holder}
use Rattle.fd_turn.specs.declared.view.Lock.{Lock}
use Rattle.fd_turn.specs.declared.view.Lock.TheVariants.{Free, Owner}
use Rattle.fd_turn.specs.declared.rule.Slot.{Slot}
use Rattle.fd_turn.specs.declared.rule.Slot.TheVariants.{Value, Locked}
use Rattle.fd_turn.specs.Rule.{in_turn, in_lock, holder_count, owner_count, IsCovered, KnowsTurn, KnowsLock, Knows, ValueIs, StateIs}
use Rattle.fd_turn.proofs.Totals.{total_two}
use Rattle.fd_turn.proofs.Prefixes.{prefix_more}
use Rattle.fd_turn.proofs.Doubts.{Covers, covered_by}

pub away_of : (t : Turn) → in_turn t ≡ 0 → t ≡ Away
away_of Away z = refl
away_of (Holder kept posted) z = absurd (omega arith)

pub free_of : (t : Lock) → in_lock t ≡ 0 → t ≡ Free
free_of Free z = refl
free_of (Owner found) z = absurd (omega arith)

pub lock_covered : (whole : List Listing) (views views' : List SeatView) (h : List Listing) → Covers views views' → (t : Lock) → KnowsLock whole views h t → KnowsLock whole views' h t
lock_covered whole views views' h more Free k = tt
lock_covered whole views views' h more (Owner found) k = (k.0, covered_by views views' found more k.1)

pub still_knows : (whole : List Listing) (opening : ℕ) (subject : Subject) (views views' : List SeatView) (u : SeatView) → Covers views views' → Knows whole opening subject views u → Knows whole opening subject views' u
still_knows whole opening subject views views' u more k = record {
  seen = k.seen;
  heard = k.heard;
  opened = k.opened;
  about = k.about;
  turn = k.turn;
  lock = lock_covered whole views views' u.history more u.lock k.lock;
  spent = k.spent;
}

-- a pass that is neither holder nor owner, where the whole history grows
pub knows_more : (whole more : List Listing) (opening : ℕ) (subject : Subject) (views views' : List SeatView) (u : SeatView) → u.turn ≡ Away → u.lock ≡ Free → Knows whole opening subject views u → Knows (whole ++ more) opening subject views' u
knows_more whole more opening subject views views' u away free k = record {
  seen = prefix_more u.history whole more k.seen;
  heard = prefix_more u.told whole more k.heard;
  opened = k.opened;
  about = k.about;
  turn = subst (KnowsTurn (whole ++ more) u.lock) (sym away) tt;
  lock = subst (KnowsLock (whole ++ more) views' u.history) (sym free) tt;
  spent = k.spent;
}

pub seats_stay : (P : SeatView → Type 0) (views : List SeatView) (id : ℕ) (w : SeatView) → P w → ((j : ℕ) (u : SeatView) → j ≢ id → get_elem? views j ≡ maybe.some u → P u)
    → (j : ℕ) (u : SeatView) → get_elem? (set views id w) j ≡ maybe.some u → P u
seats_stay P views id w mine others j u e = ⊎_elim (λ (t : (j ≡ id) × (w ≡ u)). subst P t.1 mine) (λ (t : (j ≢ id) × (get_elem? views j ≡ maybe.some u)). others j u t.0 t.1) (at_set views id j w u e)

-- one pass gets a new view, and the whole history stays
pub seats_set : (whole : List Listing) (opening : ℕ) (subject : Subject) (views : List SeatView) (id : ℕ) (w : SeatView) → Covers views (set views id w) → Knows whole opening subject (set views id w) w
    → ((j : ℕ) (u : SeatView) → get_elem? views j ≡ maybe.some u → Knows whole opening subject views u)
    → (j : ℕ) (u : SeatView) → get_elem? (set views id w) j ≡ maybe.some u → Knows whole opening subject (set views id w) u
seats_set whole opening subject views id w more mine all = seats_stay (Knows whole opening subject (set views id w)) views id w mine (λ j u n e. still_knows whole opening subject views (set views id w) u more (all j u e))

module _ {X Y : Type 0} where
  pub holders_most : (list : X → List Listing) (whole : List Listing) (n : ℕ) (slot : maybe.Option (Slot X Y)) → ValueIs list whole n slot → n ≤ 1
  holders_most list whole n slot h = ⊎_elim (λ (t : (n ≡ 0) × (x : X) × (slot ≡ maybe.some (Value x)) × (list x ≡ whole)). let z = t.0 in omega arith) (λ (t : (n ≡ 1) × (slot ≡ maybe.none)). let z = t.0 in omega arith) h

  pub owners_most : (list : Y → List Listing) (doubt : Y → Option Listing) (whole : List Listing) (views : List SeatView) (n : ℕ) (slot : maybe.Option (Slot X Y)) → StateIs list doubt whole views n slot → n ≤ 1
  owners_most list doubt whole views n slot h = ⊎_elim (λ (t : (n ≡ 0) × (y : Y) × (slot ≡ maybe.some (Locked y)) × (list y ≡ whole) × IsCovered views (doubt y)). let z = t.0 in omega arith) (λ (t : (n ≡ 1) × (slot ≡ maybe.none)). let z = t.0 in omega arith) h

  pub value_stays : (list : X → List Listing) (whole : List Listing) (n n' : ℕ) (slot : maybe.Option (Slot X Y)) → n' ≡ n → ValueIs list whole n slot → ValueIs list whole n' slot
  value_stays list whole n n' slot same h = subst (λ (k : ℕ). ValueIs list whole k slot) (sym same) h

  pub state_stays : (list : Y → List Listing) (doubt : Y → Option Listing) (whole : List Listing) (views views' : List SeatView) (n n' : ℕ) (slot : maybe.Option (Slot X Y)) → n' ≡ n → Covers views views'
      → StateIs list doubt whole views n slot → StateIs list doubt whole views' n' slot
  state_stays list doubt whole views views' n n' slot same more h = ⊎_elim
      (λ (t : (n ≡ 0) × (y : Y) × (slot ≡ maybe.some (Locked y)) × (list y ≡ whole) × IsCovered views (doubt y)). inl (same ∙ t.0, t.1, t.2, t.3, covered_by views views' (doubt t.1) more t.4))
      (λ (t : (n ≡ 1) × (slot ≡ maybe.none)). inr (same ∙ t.0, t.1)) h

-- where one pass has the turn, no other has it
pub others_away : (views : List SeatView) (id j : ℕ) (v u : SeatView) → j ≢ id → get_elem? views id ≡ maybe.some v → get_elem? views j ≡ maybe.some u → in_turn v.turn ≡ 1 → holder_count views ≤ 1 → u.turn ≡ Away
others_away views id j v u n at other one most = let two = total_two (λ (z : SeatView). in_turn z.turn) views id j v u n at other in away_of u.turn (omega arith)

pub others_free : (views : List SeatView) (id j : ℕ) (v u : SeatView) → j ≢ id → get_elem? views id ≡ maybe.some v → get_elem? views j ≡ maybe.some u → in_lock v.lock ≡ 1 → owner_count views ≤ 1 → u.lock ≡ Free
others_free views id j v u n at other one most = let two = total_two (λ (z : SeatView). in_lock z.lock) views id j v u n at other in free_of u.lock (omega arith)
