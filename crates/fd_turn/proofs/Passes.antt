-- Cutting a pass in two and putting two together keep the rule.
use Rattle.std.proofs.Common.{◌≡◌, ℕ, ◌<◌, ◌≤◌, ◌≢◌, Bool, List, [], ◌∷◌, ◌++◌, length, set, sym, refl, ap, ◌∙◌, subst, ⊎_elim, arith, Option, Contains, true, false, cond, nat_lt}
use mathlib.Core.Option as maybe
use mathlib.Core.List.{IsPrefix}
use mathlib.Core.Logic.{dite}
use native.Mathlib.Decide.{ℕ_discrete}
use lib.ListN.{get_elem?}
use Rattle.std.proofs.lemmas.Bool.Decides.{nat_tests}
use lib.Seq.{set-get_or}
use Rattle.atomic_table.specs.Table.{State, Me, step, keeps, Allows, Splits, Joins}
use Rattle.atomic_table.proofs.Lists.{at_snoc, set_here, set_else}
use Rattle.fd_entries.specs.declared.batch.Listing.{Listing}
use Rattle.fd_turn.specs.declared.view.SeatView.{SeatView}
use Rattle.fd_turn.specs.declared.view.Subject.{Subject}
use Rattle.fd_turn.specs.declared.view.Turn.TheVariants.{Away}
use Rattle.fd_turn.specs.declared.view.Lock.TheVariants.{Free}
use Rattle.fd_turn.specs.declared.rule.Slot.{Slot}
use Rattle.fd_turn.specs.Views.{longer}
use Rattle.fd_turn.specs.Seats.{donor_seat, recipient_seat, shorter, merged_seat, spent_seat}
use Rattle.fd_turn.specs.Rule.{in_turn, in_lock, holder_count, owner_count, KnowsTurn, KnowsLock, Knows, IsKept}
use Rattle.fd_turn.specs.Steps.{compared}
use Rattle.fd_turn.proofs.Totals.{total_set, total_same, total_snoc}
use Rattle.fd_turn.proofs.Prefixes.{prefix_self, prefix_shorter}
use Rattle.fd_turn.proofs.Doubts.{Covers, covers_set, covers_more, contains_left, contains_right, at_inside}
use Rattle.fd_turn.proofs.Seats.{still_knows, seats_set, seats_stay, value_stays, state_stays}

pick : {A : Type 0} (P : A → Type 0) (b : Bool) (x y : A) → P x → P y → P (cond b x y)
pick P true x y p q = p
pick P false x y p q = q

picked_le : (m n : ℕ) (b : Bool) → nat_lt m n ≡ b → cond b m n ≤ cond b n m
picked_le m n true is = let l : m < n = grind (arith, nat_tests) in omega arith
picked_le m n false is = grind (arith, nat_tests)

length_cond : {A : Type 0} (b : Bool) (xs ys : List A) → length (cond b xs ys) ≡ cond b (length xs) (length ys)
length_cond true xs ys = refl
length_cond false xs ys = refl

pub shorter_le : (xs ys : List Listing) → length (shorter xs ys) ≤ length (longer xs ys)
shorter_le xs ys =
    let b : Bool = nat_lt (length xs) (length ys) in
    let le = picked_le (length xs) (length ys) b refl in
    let p = length_cond b xs ys in
    let q = length_cond b ys xs in
    subst (λ (z : ℕ × ℕ). z.0 ≤ z.1) (λ i. (sym p i, sym q i)) le

begins : (b : Bool) (xs ys : List Listing) → IsPrefix (cond b xs ys) (cond b ys xs) → IsPrefix xs (cond b ys xs) × IsPrefix ys (cond b ys xs)
begins true xs ys p = (p, prefix_self ys)
begins false xs ys p = (prefix_self xs, p)

-- two histories of one board begin the longer one, where the shorter does
pub both_begin : (xs ys : List Listing) → IsPrefix (shorter xs ys) (longer xs ys) → IsPrefix xs (longer xs ys) × IsPrefix ys (longer xs ys)
both_begin xs ys p = begins (nat_lt (length xs) (length ys)) xs ys p

module _ (X Y : Type 0) (vlist : X → List Listing) (vsubject : X → List ℕ) (wlist : Y → List Listing) (wdoubt : Y → Option Listing) (wsubject : Y → Subject) where
  abbrev St : Type 0
  St = State (Slot X Y) SeatView

  abbrev Rule : St → Type 0
  Rule = IsKept vlist vsubject wlist wdoubt wsubject

  pub splits : (id : ℕ) (v : SeatView) → 1 < v.parts → Splits Rule id v (donor_seat v) (recipient_seat v)
  splits id v enough s r at =
      let l : SeatView = donor_seat v in let w : SeatView = recipient_seat v in
      let some_vs : List SeatView = set s.views id l in let vs : List SeatView = some_vs ++ w ∷ [] in
      let k = r.seats id v at in
      let first : Covers s.views some_vs = covers_set s.views id v l at (λ x c. c) in
      let next : Covers some_vs vs = covers_more some_vs (w ∷ []) in
      let more : Covers s.views vs = λ x d. next x (first x d) in
      let k' = still_knows r.whole r.opening r.subject s.views vs v more k in
      let hold : holder_count vs ≡ holder_count s.views =
      (let p = total_snoc (λ (z : SeatView). in_turn z.turn) some_vs w in let q = total_same (λ (z : SeatView). in_turn z.turn) s.views id v l at refl in omega arith) in
      let own : owner_count vs ≡ owner_count s.views =
      (let p = total_snoc (λ (z : SeatView). in_lock z.lock) some_vs w in let q = total_same (λ (z : SeatView). in_lock z.lock) s.views id v l at refl in omega arith) in
      let amount = r.amounts in
      let sum = total_set (λ (z : SeatView). z.parts) s.views id v l at in
      let sum' = total_snoc (λ (z : SeatView). z.parts) some_vs w in
      let all = r.parts in
      let left : Knows r.whole r.opening r.subject vs l = record {
        seen = k'.seen;
        heard = k'.heard;
        opened = λ z. k'.opened (omega arith);
        about = λ z. k'.about (omega arith);
        turn = k'.turn;
        lock = k'.lock;
        spent = λ z. absurd (omega arith);
      } in
      let right : Knows r.whole r.opening r.subject vs w = record {
        seen = k.seen;
        heard = (r.whole, refl);
        opened = λ z. k.opened (omega arith);
        about = λ z. k.about (omega arith);
        turn = tt;
        lock = tt;
        spent = λ z. absurd (omega arith);
      } in
      record {
        whole = r.whole;
        opening = r.opening;
        subject = r.subject;
        posts = r.posts;
        value = r.value;
        state = r.state;
        words = r.words ∙ (λ i. sym hold i ∷ r.posts ∷ sym own i ∷ []);
        homes = r.homes;
        value_is = value_stays vlist r.whole (holder_count s.views) (holder_count vs) r.value hold r.value_is;
        state_is = state_stays wlist wdoubt r.whole s.views vs (owner_count s.views) (owner_count vs) r.state own more r.state_is;
        value_about = r.value_about;
        state_about = r.state_about;
        counted = r.counted;
        amounts = (let p = total_snoc (λ (z : SeatView). z.amount) some_vs w in let q = total_same (λ (z : SeatView). z.amount) s.views id v l at refl in omega arith);
        parts = omega arith;
        seats = λ j u e. ⊎_elim
            (seats_stay (Knows r.whole r.opening r.subject vs) s.views id l left (λ i z n h. still_knows r.whole r.opening r.subject s.views vs z more (r.seats i z h)) j u)
            (λ (t : w ≡ u). subst (Knows r.whole r.opening r.subject vs) t right)
            (at_snoc some_vs w u j e);
      }

  -- every doubt of either pass is one of the joined pass
  covers_join : (views : List SeatView) (id other : ℕ) (v w b : SeatView) → get_elem? views id ≡ maybe.some v → other ≢ id → get_elem? views other ≡ maybe.some w
      → ((l : Listing) → Contains v.doubts l → Contains b.doubts l) → ((l : Listing) → Contains w.doubts l → Contains b.doubts l) → Covers views (set (set views id b) other spent_seat)
  covers_join views id other v w b at apart there one two l d =
      let mid : List SeatView = set views id b in
      let here : get_elem? (set mid other spent_seat) id ≡ maybe.some b = set_else mid other id spent_seat (λ e. apart (sym e)) ∙ set_here views id b (at_inside views id v at) in
      dite (ℕ_discrete d.0 id)
      (λ is. let same : d.1 ≡ v = maybe.some-injective d.1 v (sym d.2 ∙ (ap (get_elem? views) is ∙ at)) in (id, b, here, one l (subst (λ (u : SeatView). Contains u.doubts l) same d.3)))
      (λ n. dite (ℕ_discrete d.0 other)
      (λ is. let same : d.1 ≡ w = maybe.some-injective d.1 w (sym d.2 ∙ (ap (get_elem? views) is ∙ there)) in (id, b, here, two l (subst (λ (u : SeatView). Contains u.doubts l) same d.3)))
      (λ n'. (d.0, d.1, set_else mid other d.0 spent_seat n' ∙ (set_else views id d.0 b n ∙ d.2), d.3)))

  pub joins : (id : ℕ) (v : SeatView) (other : ℕ) (w : SeatView) → v.turn ≡ Away → v.lock ≡ Free → w.turn ≡ Away → w.lock ≡ Free → 0 < v.parts → Joins Rule id v other w (merged_seat v w) spent_seat
  joins id v other w away free away' free' some_parts s r at apart late =
      let b : SeatView = merged_seat v w in
      let mid : List SeatView = set s.views id b in
      let vs : List SeatView = set mid other spent_seat in
      let there : get_elem? s.views other ≡ maybe.some w = sym (set_else s.views id other b apart) ∙ late in
      let k = r.seats id v at in
      let k' = r.seats other w there in
      let more : Covers s.views vs = covers_join s.views id other v w b at apart there (λ l c. contains_left v.doubts w.doubts l c) (λ l c. contains_right v.doubts w.doubts l c) in
      let none : in_turn w.turn ≡ 0 = ap in_turn away' in
      let none' : in_lock w.lock ≡ 0 = ap in_lock free' in
      let hold : holder_count vs ≡ holder_count s.views =
      (let p = total_set (λ (z : SeatView). in_turn z.turn) s.views id v b at in let q = total_set (λ (z : SeatView). in_turn z.turn) mid other w spent_seat late in omega arith) in
      let own : owner_count vs ≡ owner_count s.views =
      (let p = total_set (λ (z : SeatView). in_lock z.lock) s.views id v b at in let q = total_set (λ (z : SeatView). in_lock z.lock) mid other w spent_seat late in omega arith) in
      let amount = r.amounts in
      let all = r.parts in
      let joint : Knows r.whole r.opening r.subject vs b = record {
        seen = pick (λ (xs : List Listing). IsPrefix xs r.whole) (nat_lt (length v.history) (length w.history)) w.history v.history k'.seen k.seen;
        heard = pick (λ (xs : List Listing). IsPrefix xs r.whole) (nat_lt (length v.history) (length w.history)) v.history w.history k.seen k'.seen;
        opened = λ z. k.opened some_parts;
        about = λ z. k.about some_parts;
        turn = subst (KnowsTurn r.whole v.lock) (sym away) tt;
        lock = subst (KnowsLock r.whole vs b.history) (sym free) tt;
        spent = λ z. absurd (omega arith);
      } in
      let gone : Knows r.whole r.opening r.subject vs spent_seat = record {
        seen = (r.whole, refl);
        heard = (r.whole, refl);
        opened = λ z. absurd (omega arith);
        about = λ z. absurd (omega arith);
        turn = tt;
        lock = tt;
        spent = λ z. record { history = refl; told = refl; amount = refl; doubts = refl; away = refl; free = refl };
      } in
      record {
        whole = r.whole;
        opening = r.opening;
        subject = r.subject;
        posts = r.posts;
        value = r.value;
        state = r.state;
        words = r.words ∙ (λ i. sym hold i ∷ r.posts ∷ sym own i ∷ []);
        homes = r.homes;
        value_is = value_stays vlist r.whole (holder_count s.views) (holder_count vs) r.value hold r.value_is;
        state_is = state_stays wlist wdoubt r.whole s.views vs (owner_count s.views) (owner_count vs) r.state own more r.state_is;
        value_about = r.value_about;
        state_about = r.state_about;
        counted = r.counted;
        amounts = (let p = total_set (λ (z : SeatView). z.amount) s.views id v b at in let q = total_set (λ (z : SeatView). z.amount) mid other w spent_seat late in omega arith);
        parts = (let p = total_set (λ (z : SeatView). z.parts) s.views id v b at in let q = total_set (λ (z : SeatView). z.parts) mid other w spent_seat late in omega arith);
        seats = seats_stay (Knows r.whole r.opening r.subject vs) mid other spent_seat gone
            (λ j u _ e. seats_stay (Knows r.whole r.opening r.subject vs) s.views id b joint (λ i z _ h. still_knows r.whole r.opening r.subject s.views vs z more (r.seats i z h)) j u e);
      }

  pub compares : (slots id : ℕ) (m : Me (Slot X Y) SeatView) → Allows Rule slots id m 0 (λ n. n) (compared (step slots 0 0 0 maybe.none) m)
  compares slots id m s r wide at small =
      let v : SeatView = m.0 in let w : SeatView = record v { told = [] } in let vs : List SeatView = set s.views id w in
      let k = r.seats id v at in
      let more : Covers s.views vs = covers_set s.views id v w at (λ l c. c) in
      let k' = still_knows r.whole r.opening r.subject s.views vs v more k in
      let hold : holder_count vs ≡ holder_count s.views = total_same (λ (z : SeatView). in_turn z.turn) s.views id v w at refl in
      let own : owner_count vs ≡ owner_count s.views = total_same (λ (z : SeatView). in_lock z.lock) s.views id v w at refl in (
        w,
        keeps,
        tt,
        subst (λ (ws : List ℕ). Rule record { words = ws; homes = s.homes; views = vs }) (sym (set-get_or s.words 0 0)) record {
          whole = r.whole;
          opening = r.opening;
          subject = r.subject;
          posts = r.posts;
          value = r.value;
          state = r.state;
          words = r.words ∙ (λ i. sym hold i ∷ r.posts ∷ sym own i ∷ []);
          homes = r.homes;
          value_is = value_stays vlist r.whole (holder_count s.views) (holder_count vs) r.value hold r.value_is;
          state_is = state_stays wlist wdoubt r.whole s.views vs (owner_count s.views) (owner_count vs) r.state own more r.state_is;
          value_about = r.value_about;
          state_about = r.state_about;
          counted = r.counted;
          amounts = total_same (λ (z : SeatView). z.amount) s.views id v w at refl ∙ r.amounts;
          parts = total_same (λ (z : SeatView). z.parts) s.views id v w at refl ∙ r.parts;
          seats = seats_set r.whole r.opening r.subject s.views id w more record {
            seen = k'.seen;
            heard = (r.whole, refl);
            opened = k'.opened;
            about = k'.about;
            turn = k'.turn;
            lock = k'.lock;
            spent = λ z. let i = k'.spent z in record { history = i.history; told = refl; amount = i.amount; doubts = i.doubts; away = i.away; free = i.free };
          } r.seats;
        },
        (refl, λ le. prefix_shorter v.told v.history r.whole k.heard k.seen le),
      )
