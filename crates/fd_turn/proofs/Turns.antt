-- Taking and leaving the turn, and reading, keep the rule.
use Rattle.std.proofs.Common.{◌≡◌, ℕ, ◌+◌, ◌<◌, ◌≤◌, eqb, Bool, List, [], ◌∷◌, length, get_or, set, sym, refl, ap, ◌∙◌, subst, inl, inr, ⊎_elim, arith, Option, false}
use mathlib.Core.Option as maybe
use mathlib.Core.List.{IsPrefix}
use lib.ListN.{get_elem?}
use lib.Seq.{set-get_or}
use prog.Atomic.{either}
use Rattle.atomic_table.specs.Table.{State, Me, Act, step, keeps, takes, gives, stepped, Valid, carried_after, put_back, Allows, rest}
use Rattle.atomic_table.proofs.Lists.{set_again, exchanged}
use Rattle.fd_entries.specs.declared.batch.Listing.{Listing}
use Rattle.fd_turn.specs.declared.view.SeatView.{SeatView}
use Rattle.fd_turn.specs.declared.view.Subject.{Subject}
use Rattle.fd_turn.specs.declared.view.Turn.{Turn}
use Rattle.fd_turn.specs.declared.view.Turn.TheVariants.{Away, Holder}
use Rattle.fd_turn.specs.declared.view.Lock.{Lock}
use Rattle.fd_turn.specs.declared.view.Lock.TheVariants.{Free, Owner}
use Rattle.fd_turn.specs.declared.rule.Slot.{Slot}
use Rattle.fd_turn.specs.declared.rule.Slot.TheVariants.{Value}
use Rattle.fd_turn.specs.Seats.{with_turn, with_history}
use Rattle.fd_turn.specs.Rule.{in_turn, in_lock, holder_count, owner_count, IsCovered, KnowsTurn, KnowsLock, Knows, ValueIs, IsKept}
use Rattle.fd_turn.specs.Steps.{took_turn, read, left_turn}
use Rattle.fd_turn.proofs.Totals.{total_set, total_same, total_one}
use Rattle.fd_turn.proofs.Prefixes.{prefix_self}
use Rattle.fd_turn.proofs.Doubts.{Covers, covers_set}
use Rattle.fd_turn.proofs.Accounting.{all_amounts}
use Rattle.fd_turn.proofs.Seats.{still_knows, seats_set, holders_most, value_stays, state_stays}

-- the value of a slot, or x
abbrev pub slot_value : {X Y : Type 0} → X → Slot X Y → X
slot_value x (Value z) = z
slot_value x _ = x

abbrev kept_of : List Listing → Turn → List Listing
kept_of xs Away = xs
kept_of xs (Holder kept posted) = kept

pub kept_is : (t : Turn) (kept other : List Listing) → t ≡ Holder kept false → t ≡ Holder other false → kept ≡ other
kept_is t kept other a b = ap (kept_of kept) (sym a ∙ b)

pub owner_sees : (whole : List Listing) (views : List SeatView) (h : List Listing) (d : Option Listing) (t : Lock) → t ≡ Owner d → KnowsLock whole views h t → (h ≡ whole) × IsCovered views d
owner_sees whole views h d t is k = subst (KnowsLock whole views h) is k

module _ (X : Type 0) (vlist : X → List Listing) where
  -- what a holder that has not published puts back
  pub reader_right : (v : SeatView) (x : X) (kept : List Listing) → v.turn ≡ Holder kept false → vlist x ≡ kept → (whole : List Listing) (opening : ℕ) (subject : Subject) (views : List SeatView) → Knows whole opening subject views v → vlist x ≡ whole
  reader_right v x kept holds is whole opening subject views k = is ∙ subst (KnowsTurn whole v.lock) holds k.turn

  -- what an owner puts back
  pub owner_right : (v : SeatView) (x : X) (d : Option Listing) → v.lock ≡ Owner d → vlist x ≡ v.history → (whole : List Listing) (opening : ℕ) (subject : Subject) (views : List SeatView) → Knows whole opening subject views v → vlist x ≡ whole
  owner_right v x d owns is whole opening subject views k = is ∙ (owner_sees whole views v.history d v.lock owns k.lock).0

module _ (X Y : Type 0) (vlist : X → List Listing) (vsubject : X → List ℕ) (wlist : Y → List Listing) (wdoubt : Y → Option Listing) (wsubject : Y → Subject) where
  abbrev St : Type 0
  St = State (Slot X Y) SeatView

  abbrev Seated : Type 0
  Seated = Me (Slot X Y) SeatView

  abbrev Rule : St → Type 0
  Rule = IsKept vlist vsubject wlist wdoubt wsubject

  -- what the rule knows of a pass
  knows : (s : St) (r : Rule s) (id : ℕ) (v : SeatView) → get_elem? s.views id ≡ maybe.some v → Knows r.whole r.opening r.subject s.views v
  knows s r id v at = r.seats id v at

  pub stays : (s : St) → Rule s → (word id : ℕ) (v : SeatView) → get_elem? s.views id ≡ maybe.some v → Rule record { words = set s.words word (get_or s.words word 0); homes = s.homes; views = set s.views id v }
  stays s r word id v at = subst (λ (z : List ℕ × List SeatView). Rule record { words = z.0; homes = s.homes; views = z.1 }) (λ i. (sym (set-get_or s.words word 0) i, sym (set_again s.views id v at) i)) r

  -- a new view with another turn, as the rule allows
  turned : (s : St) (r : Rule s) (id : ℕ) (v : SeatView) (t : Turn) → get_elem? s.views id ≡ maybe.some v → KnowsTurn r.whole v.lock t → (v.parts ≡ 0 → t ≡ Away)
      → Knows r.whole r.opening r.subject (set s.views id (with_turn v t)) (with_turn v t)
  turned s r id v t at now none = let k = r.seats id v at in let w : SeatView = with_turn v t in
      let more : Covers s.views (set s.views id w) = covers_set s.views id v w at (λ l c. c) in
      let k' = still_knows r.whole r.opening r.subject s.views (set s.views id w) v more k in record {
        seen = k'.seen;
        heard = k'.heard;
        opened = k'.opened;
        about = k'.about;
        turn = now;
        lock = k'.lock;
        spent = λ z. let i = k.spent z in record { history = i.history; told = i.told; amount = i.amount; doubts = i.doubts; away = none z; free = i.free };
      }

  turned_rule : (s : St) (r : Rule s) (id n : ℕ) (v : SeatView) (t : Turn) (hs : List (maybe.Option (Slot X Y))) (value : maybe.Option (Slot X Y)) → get_elem? s.views id ≡ maybe.some v → KnowsTurn r.whole v.lock t → (v.parts ≡ 0 → t ≡ Away)
      → holder_count (set s.views id (with_turn v t)) ≡ n → hs ≡ value ∷ r.state ∷ [] → ValueIs vlist r.whole n value → ((x : X) → value ≡ maybe.some (Value x) → vsubject x ≡ r.subject.text) → Rule record { words = set s.words 0 n; homes = hs; views = set s.views id (with_turn v t) }
  turned_rule s r id n v t hs value at now none count homes is about =
      let w : SeatView = with_turn v t in let vs : List SeatView = set s.views id w in
      let more : Covers s.views vs = covers_set s.views id v w at (λ l c. c) in
      let same : owner_count vs ≡ owner_count s.views = total_same (λ (z : SeatView). in_lock z.lock) s.views id v w at refl in record {
        whole = r.whole;
        opening = r.opening;
        subject = r.subject;
        posts = r.posts;
        value = value;
        state = r.state;
        words = ap (λ ws. set ws 0 n) r.words ∙ (λ i. sym count i ∷ r.posts ∷ sym same i ∷ []);
        homes = homes;
        value_is = value_stays vlist r.whole n (holder_count vs) value count is;
        state_is = state_stays wlist wdoubt r.whole s.views vs (owner_count s.views) (owner_count vs) r.state same more r.state_is;
        value_about = about;
        state_about = r.state_about;
        counted = r.counted;
        amounts = total_same (λ (z : SeatView). z.amount) s.views id v w at refl ∙ r.amounts;
        parts = total_same (λ (z : SeatView). z.parts) s.views id v w at refl ∙ r.parts;
        seats = seats_set r.whole r.opening r.subject s.views id w more (turned s r id v t at now none) r.seats;
      }

  no_parts : (s : St) (r : Rule s) (id : ℕ) (v : SeatView) → get_elem? s.views id ≡ maybe.some v → 0 < v.parts → (t : Turn) → v.parts ≡ 0 → t ≡ Away
  no_parts s r id v at some_parts t z = absurd (omega arith)

  pub takes_turn : (slots id : ℕ) (m : Seated) → m.0.turn ≡ Away → 0 < m.0.parts → Allows Rule slots id m 0 (λ n. either (eqb n 0) 1 n) (took_turn vlist vsubject (step slots 0 0 1 maybe.none) m)
  takes_turn slots id m away some_parts s r wide at small =
      let n : ℕ = get_or s.words 0 0 in
      let word : n ≡ holder_count s.views = ap (λ ws. get_or ws 0 0) r.words in
      let F : ℕ → Type 0 = λ k. (w : SeatView) × (a : Act (Slot X Y)) × Valid s.homes m.1 a × Rule (stepped s 0 k id m.1 w a) × took_turn vlist vsubject (step slots 0 0 1 maybe.none) m n (w, carried_after m.1 a) in
      exchanged n 0 1 F
      (λ is. ⊎_elim
      (λ (t : (holder_count s.views ≡ 0) × (x : X) × (r.value ≡ maybe.some (Value x)) × (vlist x ≡ r.whole)).
      let now : Turn = Holder (vlist t.1) false in
      let w : SeatView = with_turn m.0 now in
      let sum : holder_count (set s.views id w) + in_turn m.0.turn ≡ holder_count s.views + 1 = total_set (λ (z : SeatView). in_turn z.turn) s.views id m.0 w at in
      let mine : in_turn m.0.turn ≡ 0 = ap in_turn away in
      let zero = t.0 in
      let one : holder_count (set s.views id w) ≡ 1 = omega arith in (
        w,
        takes 0 (Value t.1),
        ap (λ hs. get_elem? hs 0) r.homes ∙ ap maybe.some t.2,
        turned_rule s r id 1 m.0 now (set s.homes 0 maybe.none) maybe.none at t.3 (no_parts s r id m.0 at some_parts now) one (ap (λ hs. set hs 0 maybe.none) r.homes) (inr (refl, refl)) (λ z e. absurd (maybe.some-ne-none (Value z) (sym e))),
        ((λ _. (t.1, refl, λ d owns. t.3 ∙ sym (owner_sees r.whole s.views m.0.history d m.0.lock owns (r.seats id m.0 at).lock).0, r.value_about t.1 t.2 ∙ sym (ap (λ (a : Subject). a.text) ((r.seats id m.0 at).about some_parts)))), λ ne. absurd (ne is)),
      ))
      (λ (t : (holder_count s.views ≡ 1) × (r.value ≡ maybe.none)). absurd (omega (arith, t.0)))
      r.value_is)
      (λ ne. (m.0, keeps, tt, stays s r 0 id m.0 at, ((λ e. absurd (ne e)), λ _. refl)))

  pub leaves_turn : (slots id : ℕ) (m : Seated) (x : X) (kept : List Listing) (posted : Bool) → m.0.turn ≡ Holder kept posted → 0 < m.0.parts → m.1 ≡ (0, Value x) ∷ rest m.1
      → ((whole : List Listing) (opening : ℕ) (subject : Subject) (views : List SeatView) → Knows whole opening subject views m.0 → vlist x ≡ whole) → vsubject x ≡ m.0.subject.text → Allows Rule slots id m 0 (λ _. 0) (λ _. left_turn (step slots 0 0 0 maybe.none) m 0)
  leaves_turn slots id m x kept posted holds some_parts carries right about s r wide at small =
      let w : SeatView = with_turn m.0 Away in
      let sum : holder_count (set s.views id w) + in_turn m.0.turn ≡ holder_count s.views + 0 = total_set (λ (z : SeatView). in_turn z.turn) s.views id m.0 w at in
      let mine : in_turn m.0.turn ≡ 1 = ap in_turn holds in
      let least : in_turn m.0.turn ≤ holder_count s.views = total_one (λ (z : SeatView). in_turn z.turn) s.views id m.0 at in
      let most : holder_count s.views ≤ 1 = holders_most vlist r.whole (holder_count s.views) r.value r.value_is in
      let none : holder_count (set s.views id w) ≡ 0 = omega arith in (
        w,
        gives,
        tt,
        turned_rule s r id 0 m.0 Away (put_back s.homes m.1) (maybe.some (Value x)) at tt (λ _. refl) none
            (ap (put_back s.homes) carries ∙ ap (λ hs. set hs 0 (maybe.some (Value x))) r.homes) (inl (refl, x, refl, right r.whole r.opening r.subject s.views (r.seats id m.0 at)))
            (λ z e. ap (λ (b : Slot X Y). vsubject (slot_value x b)) (sym (maybe.some-injective (Value x) (Value z) e)) ∙ (about ∙ ap (λ (a : Subject). a.text) ((r.seats id m.0 at).about some_parts))),
        refl,
      )

  same_lock : (whole : List Listing) (views : List SeatView) (h h' : List Listing) → h' ≡ whole → (t : Lock) → KnowsLock whole views h t → KnowsLock whole views h' t
  same_lock whole views h h' is Free k = tt
  same_lock whole views h h' is (Owner found) k = (is, k.1)

  pub reads : (slots id : ℕ) (m : Seated) (kept : List Listing) → m.0.turn ≡ Holder kept false → 0 < m.0.parts → Allows Rule slots id m 1 (λ n. n) (read (step slots 1 0 0 maybe.none) m)
  reads slots id m kept holds some_parts s r wide at small =
      let v : SeatView = m.0 in let w : SeatView = with_history v kept in let vs : List SeatView = set s.views id w in
      let k = r.seats id v at in
      let is : kept ≡ r.whole = subst (KnowsTurn r.whole v.lock) holds k.turn in
      let more : Covers s.views vs = covers_set s.views id v w at (λ l c. c) in
      let k' = still_knows r.whole r.opening r.subject s.views vs v more k in
      let hold : holder_count vs ≡ holder_count s.views = total_same (λ (z : SeatView). in_turn z.turn) s.views id v w at refl in
      let own : owner_count vs ≡ owner_count s.views = total_same (λ (z : SeatView). in_lock z.lock) s.views id v w at refl in (
        w,
        keeps,
        tt,
        subst (λ (ws : List ℕ). Rule record { words = ws; homes = s.homes; views = vs }) (sym (set-get_or s.words 1 0)) record {
          whole = r.whole;
          opening = r.opening;
          subject = r.subject;
          posts = r.posts;
          value = r.value;
          state = r.state;
          words = r.words ∙ (λ i. sym hold i ∷ r.posts ∷ sym own i ∷ []);
          homes = r.homes;
          value_is = value_stays vlist r.whole (holder_count s.views) (holder_count vs) r.value hold r.value_is;
          state_is = state_stays wlist wdoubt r.whole s.views vs (owner_count s.views) (owner_count vs) r.state own more r.state_is;
          value_about = r.value_about;
          state_about = r.state_about;
          counted = r.counted;
          amounts = total_same (λ (z : SeatView). z.amount) s.views id v w at refl ∙ r.amounts;
          parts = total_same (λ (z : SeatView). z.parts) s.views id v w at refl ∙ r.parts;
          seats = seats_set r.whole r.opening r.subject s.views id w more record {
            seen = subst (λ (z : List Listing). IsPrefix z r.whole) (sym is) (prefix_self r.whole);
            heard = k'.heard;
            opened = k'.opened;
            about = k'.about;
            turn = k'.turn;
            lock = same_lock r.whole vs v.history kept is v.lock k'.lock;
            spent = λ z. absurd (omega arith);
          } r.seats;
        },
        λ other same. let e : kept ≡ other = kept_is v.turn kept other holds same in (
          λ i. (with_history v (e i), m.1),
          subst (IsPrefix v.history) (sym is ∙ e) k.seen,
          λ all. ap (λ (n : ℕ). n + v.amount) (k.opened some_parts) ∙ (ap (λ (n : ℕ). r.opening + n) (all_amounts X Y vlist vsubject wlist wdoubt wsubject s r id v at all) ∙ (r.counted ∙ ap length (sym is ∙ e))),
        ),
      )
