-- What several workers listed in one history, in its order.
use Rattle.std.proofs.Common.{◌≡◌, ◌==◌, ◌≤◌, ◌<◌, ◌+◌, ◌-◌, ℕ, zero, suc, Bool, true, false, if◌then◌else◌, List, [], ◌∷◌, ◌++◌, map, take, drop, length, slice_get, Option, Some, None, ◌⊎◌, inl, inr, refl, sym, ap, ap₂, subst, ◌∙◌, arith, append_assoc, length-append}
use Rattle.fd_numbers.specs.Numbers.{Differ, IsIn}
use Rattle.fd_entries.specs.declared.batch.Pair.{Pair}
use Rattle.fd_shares.specs.Dealing.{Marked, batches_by, dealt_to}
use Rattle.fd_shares.specs.Merging.{AllRise, joined, lane_at, numbers_from, numbers_in, those}
use Rattle.fd_bulk.specs.Gathering.{AreLanes, AreOwned, AreShown, Gathered, IsOwned, IsShown, Lane, receipts_of, writers_in, writers_with}
use Rattle.fd_shares.proofs.Dealing.{equal_not, equal_to}
use Rattle.fd_bulk.proofs.Merging.{are_merged, differ_both, in_either, rise_differ}
use mathlib.Core.List.{map-append}

get_past : {L : Type 0} (xs : List L) (y : L) (ys : List L) (i : ℕ) → i ≡ length xs → slice_get (xs ++ y ∷ ys) i ≡ Some y
get_past [] y ys i is = ap (slice_get (y ∷ ys)) is
get_past (x ∷ xs) y ys zero is = absurd (omega (arith, is))
get_past (x ∷ xs) y ys (suc i) is = get_past xs y ys i (omega (arith, is))

take_drop : {L : Type 0} (n : ℕ) (xs : List L) → take n xs ++ drop n xs ≡ xs
take_drop zero xs = refl
take_drop (suc n) [] = refl
take_drop (suc n) (x ∷ xs) = ap (λ (ys : List _). x ∷ ys) (take_drop n xs)

take_length : {L : Type 0} (n : ℕ) (xs : List L) → n ≤ length xs → length (take n xs) ≡ n
take_length zero xs le = refl
take_length (suc n) [] le = absurd (omega arith)
take_length (suc n) (x ∷ xs) le = ap suc (take_length n xs (omega arith))

differ_behind : (o : Option ℕ) (ws : List ℕ) → Differ (writers_with o ws) → Differ ws
differ_behind None ws d = d
differ_behind (Some w) ws d = d.1

apart_here : (o : Option ℕ) (ws : List ℕ) (x : ℕ) → Differ (writers_with o ws) → o ≡ Some x → IsIn ws x → ⊥
apart_here None ws x d e i = absurd (cc e)
apart_here (Some w) ws x d e i = d.0 (subst (IsIn ws) (let is : w ≡ x = cc e in sym is) i)

module _ {A L : Type 0} (shown : A → L) (owner : L → ℕ) where
  -- ---- the numbers differ

  owned_in : (history : List L) (w : ℕ) (rs : List (ℕ × A)) (z : ℕ) → AreShown shown owner history rs → AreOwned shown owner w rs → IsIn (numbers_in rs) z → (l : L) × (slice_get history (z - 1) ≡ Some l) × (owner l ≡ w)
  owned_in history w [] z shows owned i = absurd i
  owned_in history w (r ∷ rs) z shows owned (inl e) = (shown r.1, subst (λ (n : ℕ). slice_get history (n - 1) ≡ Some (shown r.1)) e shows.0, owned.0)
  owned_in history w (r ∷ rs) z shows owned (inr i) = owned_in history w rs z shows.1 owned.1 i

  -- a number of a lane is of its writer
  lane_in : (history : List L) (o : Option ℕ) (rs : List (ℕ × A)) (ws : List ℕ) (z : ℕ) → AreShown shown owner history rs → IsOwned shown owner o rs → IsIn (numbers_in rs) z → (l : L) × (slice_get history (z - 1) ≡ Some l) × (o ≡ Some (owner l))
  lane_in history None rs ws z shows owned i = absurd (subst (λ (xs : List (ℕ × A)). IsIn (numbers_in xs) z) owned i)
  lane_in history (Some w) rs ws z shows owned i = let p = owned_in history w rs z shows owned i in (p.0, p.1, ap Some (sym p.2))

  numbers_join : (xs ys : List (ℕ × A)) → numbers_in (xs ++ ys) ≡ numbers_in xs ++ numbers_in ys
  numbers_join xs ys = map-append (λ (r : ℕ × A). r.0) xs ys

  all_in : (opening : ℕ) (history : List L) (ls : List (Lane A)) (z : ℕ) → AreLanes shown owner opening history ls → IsIn (numbers_in (joined (receipts_of ls))) z → (l : L) × (slice_get history (z - 1) ≡ Some l) × IsIn (writers_in ls) (owner l)
  all_in opening history [] z fit i = absurd i
  all_in opening history (l ∷ ls) z fit i = go (λ j. all_in opening history ls z fit.1 j) (in_either (numbers_in l.receipts) (numbers_in (joined (receipts_of ls))) z (subst (λ (ns : List ℕ). IsIn ns z) (numbers_join l.receipts (joined (receipts_of ls))) i))
    where
      behind : (o : Option ℕ) (x : ℕ) → IsIn (writers_in ls) x → IsIn (writers_with o (writers_in ls)) x
      behind None x j = j
      behind (Some w) x j = inr j

      here : (o : Option ℕ) (x : ℕ) → o ≡ Some x → IsIn (writers_with o (writers_in ls)) x
      here None x e = absurd (cc e)
      here (Some w) x e = inl (cc e)

      go : (IsIn (numbers_in (joined (receipts_of ls))) z → (l : L) × (slice_get history (z - 1) ≡ Some l) × IsIn (writers_in ls) (owner l)) → IsIn (numbers_in l.receipts) z ⊎ IsIn (numbers_in (joined (receipts_of ls))) z
          → (m : L) × (slice_get history (z - 1) ≡ Some m) × IsIn (writers_in (l ∷ ls)) (owner m)
      go rest (inl j) = let p = lane_in history l.writer l.receipts (writers_in ls) z fit.0.1 fit.0.2 j in (p.0, p.1, here l.writer (owner p.0) p.2)
      go rest (inr j) = let p = rest j in (p.0, p.1, behind l.writer (owner p.0) p.2)

  lanes_differ : (opening : ℕ) (history : List L) (ls : List (Lane A)) → AreLanes shown owner opening history ls → Differ (writers_in ls) → Differ (numbers_in (joined (receipts_of ls)))
  lanes_differ opening history [] fit d = tt
  lanes_differ opening history (l ∷ ls) fit d =
      subst Differ (sym (numbers_join l.receipts (joined (receipts_of ls))))
      (differ_both (numbers_in l.receipts) (numbers_in (joined (receipts_of ls))) (rise_differ opening (length history) l.receipts fit.0.0) (lanes_differ opening history ls fit.1 (differ_behind l.writer (writers_in ls) d))
      (λ z i j.
      let p = lane_in history l.writer l.receipts (writers_in ls) z fit.0.1 fit.0.2 i in
      let q = all_in opening history ls z fit.1 j in
      let one : p.0 ≡ q.0 = cc (p.1, q.1) in
      apart_here l.writer (writers_in ls) (owner q.0) d (subst (λ (m : L). l.writer ≡ Some (owner m)) one p.2) q.2))

  lanes_rise : (opening : ℕ) (history : List L) (ls : List (Lane A)) → AreLanes shown owner opening history ls → AllRise opening (length history) (receipts_of ls)
  lanes_rise opening history [] fit = tt
  lanes_rise opening history (l ∷ ls) fit = (fit.0.0, lanes_rise opening history ls fit.1)

  lanes_shown : (opening : ℕ) (history : List L) (ls : List (Lane A)) (w : ℕ) → AreLanes shown owner opening history ls → AreShown shown owner history (lane_at w (receipts_of ls))
  lanes_shown opening history [] w fit = tt
  lanes_shown opening history (l ∷ ls) zero fit = fit.0.1
  lanes_shown opening history (l ∷ ls) (suc w) fit = lanes_shown opening history ls w fit.1

  -- ---- the history

  abbrev AllShown : List L → List (ℕ × (ℕ × A)) → Type 0
  AllShown history [] = Unit {0}
  AllShown history (t ∷ ts) = IsShown shown owner history t.1 × AllShown history ts

  shown_of : (history : List L) (ts : List (ℕ × (ℕ × A))) → ((w : ℕ) → AreShown shown owner history (those w ts)) → AllShown history ts
  shown_of history [] each = tt
  shown_of history (t ∷ ts) each = (
    (subst (λ (b : Bool). AreShown shown owner history (if b then t.1 ∷ those t.0 ts else those t.0 ts)) (equal_to t.0 t.0 refl) (each t.0)).0,
    shown_of history ts (λ w. behind w (t.0 == w) refl),
  )
    where
      behind : (w : ℕ) (b : Bool) → (t.0 == w) ≡ b → AreShown shown owner history (those w ts)
      behind w true e = (subst (λ (b : Bool). AreShown shown owner history (if b then t.1 ∷ those w ts else those w ts)) e (each w)).1
      behind w false e = subst (λ (b : Bool). AreShown shown owner history (if b then t.1 ∷ those w ts else those w ts)) e (each w)

  abbrev what : ℕ × (ℕ × A) → L
  what t = shown t.1.1

  back_is : (history front back : List L) (opening : ℕ) (ts : List (ℕ × (ℕ × A))) → history ≡ front ++ back → length front ≡ opening → map (λ (t : ℕ × (ℕ × A)). t.1.0) ts ≡ numbers_from opening (length back) → AllShown history ts → back ≡ map what ts
  back_is history front [] opening [] is long numbers shows = refl
  back_is history front [] opening (t ∷ ts) is long numbers shows = absurd (cc numbers)
  back_is history front (b ∷ back) opening [] is long numbers shows = absurd (cc numbers)
  back_is history front (b ∷ back) opening (t ∷ ts) is long numbers shows =
      let number : t.1.0 ≡ suc opening = cc numbers in
      let rest : map (λ (t : ℕ × (ℕ × A)). t.1.0) ts ≡ numbers_from (suc opening) (length back) = cc numbers in
      let here : slice_get history (t.1.0 - 1) ≡ Some b = subst (λ (hs : List L). slice_get hs (t.1.0 - 1) ≡ Some b) (sym is) (get_past front b back (t.1.0 - 1) (omega (arith, number, long))) in
      let one : b ≡ shown t.1.1 = cc (here, shows.0) in
      ap₂ (λ (x : L) (xs : List L). x ∷ xs) one
      (back_is history (front ++ b ∷ []) back (suc opening) ts (is ∙ sym (append_assoc front (b ∷ []) back)) (length-append front (b ∷ []) ∙ omega (arith, long)) rest shows.1)

  pub gathered : (opening : ℕ) (history : List L) (lanes : List (Lane A)) → AreLanes shown owner opening history lanes → Differ (writers_in lanes) → length history ≡ opening + length (joined (receipts_of lanes)) → Gathered shown owner opening history lanes
  gathered opening history lanes fit differ count =
      let n = length (joined (receipts_of lanes)) in
      let m = are_merged opening n (receipts_of lanes) (subst (λ (k : ℕ). AllRise opening k (receipts_of lanes)) count (lanes_rise opening history lanes fit)) (lanes_differ opening history lanes fit differ) refl in
      let front = take_length opening history (omega (arith, count)) in
      let whole = take_drop opening history in
      let long : length (drop opening history) ≡ n = (let a = length-append (take opening history) (drop opening history) in let b = ap length whole in omega arith) in
      let shows = shown_of history m.each (λ w. subst (AreShown shown owner history) (sym (m.by w)) (lanes_shown opening history lanes w fit)) in
      record {
        each = m.each;
        history_is = sym whole ∙ ap (λ (ls : List L). take opening history ++ ls) (back_is history (take opening history) (drop opening history) opening m.each (sym whole) front (m.numbers ∙ ap (numbers_from opening) (sym long)) shows);
        by = m.by;
      }

-- ---- the pairs of the batches

module _ {A : Type 0} (pairs_of : A → List Pair) where
  abbrev pub marked_of : List (ℕ × (ℕ × A)) → List Marked
  marked_of ts = map (λ (t : ℕ × (ℕ × A)). record { worker = t.0; batch = pairs_of t.1.1 }) ts

  abbrev pub batches_in : List (ℕ × A) → List (List Pair)
  batches_in rs = map (λ (r : ℕ × A). pairs_of r.1) rs

  pub by_worker : (w : ℕ) (ts : List (ℕ × (ℕ × A))) → batches_by w (marked_of ts) ≡ batches_in (those w ts)
  by_worker w [] = refl
  by_worker w (t ∷ ts) = go (by_worker w ts) (t.0 == w) refl
    where
      go : batches_by w (marked_of ts) ≡ batches_in (those w ts) → (b : Bool) → (t.0 == w) ≡ b → batches_by w (marked_of (t ∷ ts)) ≡ batches_in (those w (t ∷ ts))
      go rest true e =
          ap (λ (b : Bool). if b then pairs_of t.1.1 ∷ batches_by w (marked_of ts) else batches_by w (marked_of ts)) e ∙ ap (λ (bs : List (List Pair)). pairs_of t.1.1 ∷ bs) rest
          ∙ sym (ap (λ (b : Bool). batches_in (if b then t.1 ∷ those w ts else those w ts)) e)
      go rest false e =
          ap (λ (b : Bool). if b then pairs_of t.1.1 ∷ batches_by w (marked_of ts) else batches_by w (marked_of ts)) e ∙ rest
          ∙ sym (ap (λ (b : Bool). batches_in (if b then t.1 ∷ those w ts else those w ts)) e)

  -- each worker is one of so many
  pub below : (n : ℕ) (ts : List (ℕ × (ℕ × A))) → ((w : ℕ) → n ≤ w → those w ts ≡ []) → Rattle.std.specs.Prelude.All (λ (m : Marked). m.worker < n) (marked_of ts)
  below n [] none = Rattle.std.proofs.lemmas.List.Elements.All-nil (λ (m : Marked). m.worker < n)
  below n (t ∷ ts) none = Rattle.std.proofs.lemmas.List.Elements.All-cons (λ (m : Marked). m.worker < n) (record { worker = t.0; batch = pairs_of t.1.1 }) (marked_of ts) (here (less_or t.0 n)) (below n ts (λ w le. behind w le (t.0 == w) refl))
    where
      less_or : (a b : ℕ) → (a < b) ⊎ (b ≤ a)
      less_or a b = grind arith

      here : (t.0 < n) ⊎ (n ≤ t.0) → t.0 < n
      here (inl lt) = lt
      here (inr le) = absurd (let e = sym (ap (λ (b : Bool). if b then t.1 ∷ those t.0 ts else those t.0 ts) (equal_to t.0 t.0 refl)) ∙ none t.0 le in cc e)

      behind : (w : ℕ) → n ≤ w → (b : Bool) → (t.0 == w) ≡ b → those w ts ≡ []
      behind w le true e = absurd (let f = sym (ap (λ (b : Bool). if b then t.1 ∷ those w ts else those w ts) e) ∙ none w le in cc f)
      behind w le false e = sym (ap (λ (b : Bool). if b then t.1 ∷ those w ts else those w ts) e) ∙ none w le

-- no pair is dealt to a worker that there isn't
pub none_dealt : (deal : List ℕ → ℕ) (n w : ℕ) (ps : List Pair) → ((key : List ℕ) → deal key < n) → n ≤ w → dealt_to deal w ps ≡ []
none_dealt deal n w [] below le = refl
none_dealt deal n w (p ∷ ps) below le =
    let lt = below p.key in
    ap (λ (b : Bool). if b then p ∷ dealt_to deal w ps else dealt_to deal w ps) (equal_not (deal p.key) w (λ e. absurd (omega arith))) ∙ none_dealt deal n w ps below le

pub lane_beyond : {A : Type 0} (ls : List (List (ℕ × A))) (w : ℕ) → length ls ≤ w → lane_at w ls ≡ []
lane_beyond [] w le = refl
lane_beyond (l ∷ ls) zero le = absurd (omega arith)
lane_beyond (l ∷ ls) (suc w) le = lane_beyond ls w (omega arith)
