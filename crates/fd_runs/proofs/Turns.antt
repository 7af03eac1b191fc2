-- The lanes take turns until all are at their end.
use Rattle.std.proofs.Common.{◌≡◌, ◌⊎◌, inl, inr, ℕ, zero, suc, ◌+◌, ◌<◌, ◌≤◌, Bool, true, nat_lt, List, [], ◌∷◌, ◌++◌, take, length, refl, sym, ◌∙◌, ap, subst, arith, append_assoc, None}
use mathlib.Core.Logic.{dite}
use native.Mathlib.Decide.{ℕ_discrete}
use Rattle.std.proofs.lemmas.Bool.Decides.{nat_tests}
use Rattle.fd_entries.specs.declared.batch.Pair.{Pair}
use Rattle.fd_machine.specs.declared.machine.Writer.{Writer}
use Rattle.fd_machine.specs.World.{World}
use Rattle.fd_machine.specs.Machine.{writer_of}
use Rattle.fd_numbers.specs.Numbers.{Differ, IsIn}
use Rattle.fd_lanes.specs.Acts.{Act}
use Rattle.fd_lanes.specs.declared.end.End.{End}
use Rattle.fd_lanes.specs.Walks.{Stand}
use Rattle.fd_lanes.proofs.Answering.{take_all}
use Rattle.fd_lanes.proofs.Walking.{in_either, in_left, in_right}
use Rattle.fd_runs.specs.Runs.{AllDone, Going, Takes, after_turns, gone_from, gone_on, in_turns, next_at, on_at, ran, turn}
use Rattle.fd_runs.proofs.Steps.{Goes, ran_more, takes_more}
use Rattle.fd_runs.proofs.Lanes.{Free, IsAhead, IsLate, IsPlain, LaneOk, Lists, MayTurn, count_of, done_all, lane_goes, late_gone, later, lists_next, lists_nums, lists_ready, nums, plain_nums, plain_or_ahead, plain_ready}

-- one number fewer
pub record Removes (m : ℕ) (xs ys : List ℕ) : Type 0 where
  pub before : List ℕ
  pub behind : List ℕ
  pub was : xs ≡ before ++ m ∷ behind
  pub is : ys ≡ before ++ behind

removes_behind : (m : ℕ) (xs ys zs : List ℕ) → Removes m xs ys → Removes m (zs ++ xs) (zs ++ ys)
removes_behind m xs ys zs r = record {
  before = zs ++ r.before;
  behind = r.behind;
  was = ap (λ (l : List ℕ). zs ++ l) r.was ∙ sym (append_assoc zs r.before (m ∷ r.behind));
  is = ap (λ (l : List ℕ). zs ++ l) r.is ∙ sym (append_assoc zs r.before r.behind);
}

in_more : (m z : ℕ) (xs ys : List ℕ) → IsIn (xs ++ ys) z → IsIn (xs ++ m ∷ ys) z
in_more m z xs ys i = go (in_either xs ys z i)
  where
    go : IsIn xs z ⊎ IsIn ys z → IsIn (xs ++ m ∷ ys) z
    go (inl j) = in_left xs (m ∷ ys) z j
    go (inr j) = in_right xs (m ∷ ys) z (inr j)

in_less : (m z : ℕ) (xs ys : List ℕ) → IsIn (xs ++ m ∷ ys) z → (m ≡ z) ⊎ IsIn (xs ++ ys) z
in_less m z xs ys i = go (in_either xs (m ∷ ys) z i)
  where
    go : IsIn xs z ⊎ IsIn (m ∷ ys) z → (m ≡ z) ⊎ IsIn (xs ++ ys) z
    go (inl j) = inr (in_left xs ys z j)
    go (inr (inl e)) = inl e
    go (inr (inr j)) = inr (in_right xs ys z j)

differ_less : (m : ℕ) (xs ys : List ℕ) → Differ (xs ++ m ∷ ys) → Differ (xs ++ ys) × (IsIn (xs ++ ys) m → ⊥)
differ_less m [] ys d = (d.1, d.0)
differ_less m (x ∷ xs) ys d =
    let r = differ_less m xs ys d.1 in
    (((λ i. d.0 (in_more m x xs ys i)), r.0), go r.1)
  where
    go : (IsIn (xs ++ ys) m → ⊥) → IsIn (x ∷ xs ++ ys) m → ⊥
    go rest (inl e) = d.0 (subst (IsIn (xs ++ m ∷ ys)) (sym e) (in_right xs (m ∷ ys) m (inl refl)))
    go rest (inr i) = rest i

module _ (F : Type 0) (whole : List (List Pair)) where
  abbrev pub all_nums : List (Going F) → List ℕ
  all_nums [] = []
  all_nums (l ∷ ls) = nums F whole l.stand l.acts l.ends ++ all_nums ls

  -- The numbers of the flushes that are left: each from the next one to the last, once.
  pub record AreLeft (n : ℕ) (zs : List ℕ) : Type 0 where
    pub once : Differ zs
    pub new : (z : ℕ) → IsIn zs z → n < z
    pub all : (z : ℕ) → n < z → z ≤ length whole → IsIn zs z

  left_less : (n : ℕ) (xs ys : List ℕ) → Removes (n + 1) xs ys → AreLeft n xs → AreLeft (n + 1) ys
  left_less n xs ys r l =
      let d = differ_less (n + 1) r.before r.behind (subst Differ r.was l.once) in
      record {
        once = subst Differ (sym r.is) d.0;
        new = λ z i.
            let j : IsIn (r.before ++ r.behind) z = subst (λ (zs : List ℕ). IsIn zs z) r.is i in
            let low : n < z = l.new z (subst (λ (zs : List ℕ). IsIn zs z) (sym r.was) (in_more (n + 1) z r.before r.behind j)) in
            dite (ℕ_discrete (n + 1) z) (λ e. absurd (d.1 (subst (IsIn (r.before ++ r.behind)) (sym e) j))) (λ not. omega (arith, not, low));
        all = λ z low high. go z low (in_less (n + 1) z r.before r.behind (subst (λ (zs : List ℕ). IsIn zs z) r.was (l.all z (omega (arith, low)) high)));
      }
    where
      go : (z : ℕ) → n + 1 < z → (n + 1 ≡ z) ⊎ IsIn (r.before ++ r.behind) z → IsIn ys z
      go z low (inl e) = absurd (omega (arith, low, e))
      go z low (inr i) = subst (λ (zs : List ℕ). IsIn zs z) (sym r.is) i

  -- each lane stands well, the first with writer w
  abbrev pub AllOk : World → ℕ → ℕ → List (Going F) → Type 0
  AllOk s n w [] = Unit {0}
  AllOk s n w (l ∷ ls) = LaneOk F whole s n w l.stand l.sealed l.acts l.ends × AllOk s n (w + 1) ls

  abbrev pub AllLate : ℕ → List (Going F) → Type 0
  AllLate n [] = Unit {0}
  AllLate n (l ∷ ls) = IsLate F whole n l.acts l.ends × AllLate n ls

  abbrev AllAhead : ℕ → List (Going F) → Type 0
  AllAhead n [] = Unit {0}
  AllAhead n (l ∷ ls) = IsAhead F whole n l.acts l.ends × AllAhead n ls

  -- a fact of the lane at a place
  abbrev OnLane : (List Act → List (End F) → Type 0) → ℕ → List (Going F) → Type 0
  OnLane P i [] = ⊥
  OnLane P zero (l ∷ ls) = P l.acts l.ends
  OnLane P (suc i) (l ∷ ls) = OnLane P i ls

  find_plain : (s : World) (n w : ℕ) (ls : List (Going F)) → AllOk s n w ls → AllLate n ls → ((i : ℕ) × OnLane (IsPlain F whole n) i ls) ⊎ AllAhead n ls
  find_plain s n w [] ok late = inr tt
  find_plain s n w (l ∷ ls) ok late = go (plain_or_ahead F whole n l.stand l.acts l.ends ok.0.going late.0) (find_plain s n (w + 1) ls ok.1 late.1)
    where
      go : IsPlain F whole n l.acts l.ends ⊎ IsAhead F whole n l.acts l.ends → ((i : ℕ) × OnLane (IsPlain F whole n) i ls) ⊎ AllAhead n ls → ((i : ℕ) × OnLane (IsPlain F whole n) i (l ∷ ls)) ⊎ AllAhead n (l ∷ ls)
      go (inl p) rest = inl (0, p)
      go (inr a) (inl p) = inl (suc p.0, p.1)
      go (inr a) (inr b) = inr (a, b)

  find_listing : (s : World) (n w : ℕ) (ls : List (Going F)) → AllOk s n w ls → AllAhead n ls → ((z : ℕ) → IsIn (all_nums ls) z → n < z) → IsIn (all_nums ls) (n + 1) → (i : ℕ) × OnLane (Lists F whole (n + 1)) i ls
  find_listing s n w [] ok ahead new i = absurd i
  find_listing s n w (l ∷ ls) ok ahead new i =
      go
      (λ k. find_listing s n (w + 1) ls ok.1 ahead.1 (λ z m. new z (in_right (nums F whole l.stand l.acts l.ends) (all_nums ls) z m)) k)
      (in_either (nums F whole l.stand l.acts l.ends) (all_nums ls) (n + 1) i)
    where
      go : (IsIn (all_nums ls) (n + 1) → (i : ℕ) × OnLane (Lists F whole (n + 1)) i ls) → IsIn (nums F whole l.stand l.acts l.ends) (n + 1) ⊎ IsIn (all_nums ls) (n + 1) → (i : ℕ) × OnLane (Lists F whole (n + 1)) i (l ∷ ls)
      go rest (inl k) = (0, lists_next F whole n l.stand l.acts l.ends ahead.0 ok.0.going (λ z m. new z (in_left (nums F whole l.stand l.acts l.ends) (all_nums ls) z m)) k)
      go rest (inr k) = let p = rest k in (suc p.0, p.1)

  all_done : (s : World) (w : ℕ) (ls : List (Going F)) → AllOk s (length whole) w ls → AllAhead (length whole) ls → ((z : ℕ) → IsIn (all_nums ls) z → length whole < z) → AllDone ls
  all_done s w [] ok ahead new = tt
  all_done s w (l ∷ ls) ok ahead new =
      let d = done_all F whole l.stand l.acts l.ends ahead.0 ok.0.going (λ z k. new z (in_left (nums F whole l.stand l.acts l.ends) (all_nums ls) z k)) in
      (d.0, d.1, all_done s (w + 1) ls ok.1 ahead.1 (λ z k. new z (in_right (nums F whole l.stand l.acts l.ends) (all_nums ls) z k)))

  all_later : (s : World) (n w : ℕ) (ls : List (Going F)) → AllOk s n w ls → AllAhead n ls → ((z : ℕ) → IsIn (all_nums ls) z → n < z) → AllLate (n + 1) ls
  all_later s n w [] ok ahead new = tt
  all_later s n w (l ∷ ls) ok ahead new = (
    later F whole n l.stand l.acts l.ends ahead.0 ok.0.going (λ z k. new z (in_left (nums F whole l.stand l.acts l.ends) (all_nums ls) z k)),
    all_later s n (w + 1) ls ok.1 ahead.1 (λ z k. new z (in_right (nums F whole l.stand l.acts l.ends) (all_nums ls) z k)),
  )

  late_on : (n i : ℕ) (ls : List (Going F)) → AllLate n ls → AllLate n (on_at i ls)
  late_on n i [] late = late
  late_on n zero (l ∷ ls) late = (late_gone F whole n l.stand l.sealed l.acts l.ends late.0, late.1)
  late_on n (suc i) (l ∷ ls) late = (late.0, late_on n i ls late.1)

  plain_left : (s : World) (n w i : ℕ) (ls : List (Going F)) → AllOk s n w ls → OnLane (IsPlain F whole n) i ls → all_nums (on_at i ls) ≡ all_nums ls
  plain_left s n w i [] ok p = absurd p
  plain_left s n w zero (l ∷ ls) ok p = ap (λ (zs : List ℕ). zs ++ all_nums ls) (plain_nums F whole n l.stand l.sealed l.acts l.ends p ok.0.going)
  plain_left s n w (suc i) (l ∷ ls) ok p = ap (λ (zs : List ℕ). nums F whole l.stand l.acts l.ends ++ zs) (plain_left s n (w + 1) i ls ok.1 p)

  listed_left : (m i : ℕ) (ls : List (Going F)) → OnLane (Lists F whole m) i ls → Removes m (all_nums ls) (all_nums (on_at i ls))
  listed_left m i [] p = absurd p
  listed_left m zero (l ∷ ls) p = record {
    before = [];
    behind = nums F whole (gone_on l).stand (gone_on l).acts (gone_on l).ends ++ all_nums ls;
    was = ap (λ (zs : List ℕ). zs ++ all_nums ls) (lists_nums F whole m l.stand l.sealed l.acts l.ends p);
    is = refl;
  }
  listed_left m (suc i) (l ∷ ls) p = removes_behind m (all_nums ls) (all_nums (on_at i ls)) (nums F whole l.stand l.acts l.ends) (listed_left m i ls p)

  -- how many steps are left
  abbrev pub size : List (Going F) → ℕ
  size [] = 0
  size (l ∷ ls) = length l.acts + size ls

  shorter : (n i : ℕ) (ls : List (Going F)) → OnLane (MayTurn F whole n) i ls → size (on_at i ls) + 1 ≡ size ls
  shorter n i [] p = absurd p
  shorter n zero (l ∷ ls) p = let h = go l.stand l.sealed l.acts l.ends p in omega (arith, h)
    where
      go : (t : Stand) (k : Bool) (acts : List Act) (es : List (End F)) → MayTurn F whole n acts es → length (gone_from t k acts es).acts + 1 ≡ length acts
      go t k [] es h = absurd h
      go t k (a ∷ acts) [] h = absurd h
      go t k (a ∷ acts) (e ∷ es) h = omega arith
  shorter n (suc i) (l ∷ ls) p = let h = shorter n i ls p in omega (arith, h)

  -- the lane at a place takes its turn
  pub record Advances (s : World) (n m i w r : ℕ) (room : Bool) (ls : List (Going F)) : Type 0 where
    pub writer : ℕ
    pub low : w ≤ writer
    pub record_is : Writer
    pub goes : Goes s writer (next_at i w r room ls) record_is None (take m whole)
    pub ok : AllOk (ran (next_at i w r room ls) s) m w (on_at i ls)

  lane_kept : (s s' : World) (n m w : ℕ) (l : Going F) → writer_of s' w ≡ writer_of s w → n ≤ m → LaneOk F whole s n w l.stand l.sealed l.acts l.ends → LaneOk F whole s' m w l.stand l.sealed l.acts l.ends
  lane_kept s s' n m w l same le ok = record {
    low = ok.low;
    high = ok.high;
    seq = ok.seq;
    numbered = (let q = ok.numbered in omega (arith, q, le));
    here = same ∙ ok.here;
    count = ok.count;
    small = ok.small;
    left = ok.left;
    fit = ok.fit;
    going = ok.going;
    told = ok.told;
  }

  all_kept : (s s' : World) (n m w : ℕ) (ls : List (Going F)) → ((v : ℕ) → w ≤ v → writer_of s' v ≡ writer_of s v) → n ≤ m → AllOk s n w ls → AllOk s' m w ls
  all_kept s s' n m w [] same le ok = tt
  all_kept s s' n m w (l ∷ ls) same le ok = (lane_kept s s' n m w l (same w (omega arith)) le ok.0, all_kept s s' n m (w + 1) ls (λ v low. same v (omega (arith, low))) le ok.1)

  advance : length whole ≤ 65535 → (s : World) (n m i w r : ℕ) (room : Bool) (ls : List (Going F)) → (room ≡ true → n < 65535) → Free whole s n → n ≤ m → OnLane (λ acts es. MayTurn F whole n acts es × (count_of F whole n acts es ≡ m)) i ls → AllOk s n w ls → Advances s n m i w r room ls
  advance few s n m i w r room [] has f le may ok = absurd may
  advance few s n m zero w r room (l ∷ ls) has f le may ok =
      let g = lane_goes F whole few s n w r room l.stand l.sealed l.acts l.ends has f may.0 ok.0 in
      let xs = next_at zero w r room (l ∷ ls) in
      record {
        writer = w;
        low = omega arith;
        record_is = g.writer;
        goes = subst (λ (c : ℕ). Goes s w xs g.writer None (take c whole)) may.1 g.goes;
        ok = (
          subst (λ (c : ℕ). LaneOk F whole (ran xs s) c w (gone_on l).stand (gone_on l).sealed (gone_on l).acts (gone_on l).ends) may.1 g.ok,
          all_kept s (ran xs s) n m (w + 1) ls (λ v low. g.goes.others v (λ e. absurd (omega (arith, low, e)))) le ok.1,
        );
      }
  advance few s n m (suc i) w r room (l ∷ ls) has f le may ok =
      let a = advance few s n m i (w + 1) (r + 1) room ls has f le may ok.1 in
      let low = a.low in
      record {
        writer = a.writer;
        low = omega (arith, low);
        record_is = a.record_is;
        goes = a.goes;
        ok = (lane_kept s (ran (next_at i (w + 1) (r + 1) room ls) s) n m w l (a.goes.others w (λ e. absurd (omega (arith, low, e)))) le ok.0, a.ok);
      }

  on_lane_map : (P Q : List Act → List (End F) → Type 0) (i : ℕ) (ls : List (Going F)) → ((acts : List Act) (es : List (End F)) → P acts es → Q acts es) → OnLane P i ls → OnLane Q i ls
  on_lane_map P Q i [] f p = p
  on_lane_map P Q zero (l ∷ ls) f p = f l.acts l.ends p
  on_lane_map P Q (suc i) (l ∷ ls) f p = on_lane_map P Q i ls f p

  -- all lanes come to their end, in some order of turns
  pub record Comes (s : World) (ls : List (Going F)) : Type 0 where
    pub order : List ℕ
    pub all : AllDone (after_turns order ls)
    pub takes : Takes s (in_turns order s ls)
    pub history : (ran (in_turns order s ls) s).history ≡ whole

  take_long : (n : ℕ) (ys : List (List Pair)) → n ≤ length ys → length (take n ys) ≡ n
  take_long zero ys le = refl
  take_long (suc n) [] le = absurd (omega arith)
  take_long (suc n) (y ∷ ys) le = ap suc (take_long n ys (omega arith))

  -- there is room in a table that isn't full
  room_of : (s : World) (n : ℕ) → Free whole s n → nat_lt (length s.history) 65535 ≡ true → n < 65535
  room_of s n f is =
      let long : length s.history ≡ n = ap length f.history ∙ take_long n whole f.within in
      let lt : length s.history < 65535 = grind (arith, nat_tests, is) in
      omega (arith, long, lt)

  -- a turn, and what comes behind it
  take_turn : (s : World) (n m i : ℕ) (ls : List (Going F)) → Advances s n m i 2 0 (nat_lt (length s.history) 65535) ls → Comes (ran (turn i s ls) s) (on_at i ls) → Comes s ls
  take_turn s n m i ls a c =
      let xs = turn i s ls in
      let ys = in_turns c.order (ran xs s) (on_at i ls) in
      record {
        order = i ∷ c.order;
        all = c.all;
        takes = takes_more xs ys s a.goes.takes c.takes;
        history = ap (λ (t : World). t.history) (ran_more xs ys s) ∙ c.history;
      }

  free_after : (s : World) (n m i : ℕ) (ls : List (Going F)) → m ≤ length whole → Advances s n m i 2 0 (nat_lt (length s.history) 65535) ls → Free whole (ran (turn i s ls) s) m
  free_after s n m i ls le a = let t = a.goes.at in record { reached = t.reached; up = t.up; sure = t.sure; owner = t.owner; history = t.history; within = le }

  -- what is done from where the lanes stand, given that it can be gone on with from where they stand after one turn
  abbrev Rest : World → List (Going F) → Type 0
  Rest s ls = (t : World) (m : ℕ) (ms : List (Going F)) → size ms + 1 ≡ size ls → Free whole t m → AllOk t m 2 ms → AllLate m ms → AreLeft m (all_nums ms) → Comes t ms

  module _ (few : length whole ≤ 65535) (s : World) (n : ℕ) (ls : List (Going F)) (f : Free whole s n) (ok : AllOk s n 2 ls) (late : AllLate n ls) (left : AreLeft n (all_nums ls)) (rest : Rest s ls) where
    by_plain : (i : ℕ) → OnLane (IsPlain F whole n) i ls → Comes s ls
    by_plain i p =
        let may = on_lane_map (IsPlain F whole n) (λ acts es. MayTurn F whole n acts es × (count_of F whole n acts es ≡ n)) i ls (plain_ready F whole n) p in
        let h = shorter n i ls (on_lane_map (IsPlain F whole n) (MayTurn F whole n) i ls (λ acts es q. (plain_ready F whole n acts es q).0) p) in
        let a = advance few s n n i 2 0 (nat_lt (length s.history) 65535) ls (room_of s n f) f (omega arith) may ok in
        take_turn s n n i ls a (rest (ran (turn i s ls) s) n (on_at i ls) h (free_after s n n i ls f.within a) a.ok (late_on n i ls late) (subst (AreLeft n) (sym (plain_left s n 2 i ls ok p)) left))

    by_listing : AllAhead n ls → n < length whole → (i : ℕ) → OnLane (Lists F whole (n + 1)) i ls → Comes s ls
    by_listing ahead less i p =
        let may = on_lane_map (Lists F whole (n + 1)) (λ acts es. MayTurn F whole n acts es × (count_of F whole n acts es ≡ n + 1)) i ls (lists_ready F whole n) p in
        let h = shorter n i ls (on_lane_map (Lists F whole (n + 1)) (MayTurn F whole n) i ls (λ acts es q. (lists_ready F whole n acts es q).0) p) in
        let a = advance few s n (n + 1) i 2 0 (nat_lt (length s.history) 65535) ls (room_of s n f) f (omega arith) may ok in
        take_turn s n (n + 1) i ls a (rest (ran (turn i s ls) s) (n + 1) (on_at i ls) h (free_after s n (n + 1) i ls (omega (arith, less)) a) a.ok
        (late_on (n + 1) i ls (all_later s n 2 ls ok ahead left.new)) (left_less n (all_nums ls) (all_nums (on_at i ls)) (listed_left (n + 1) i ls p) left))

    at_end : AllAhead n ls → n ≡ length whole → Comes s ls
    at_end ahead e = record {
      order = [];
      all = all_done s 2 ls (subst (λ (c : ℕ). AllOk s c 2 ls) e ok) (subst (λ (c : ℕ). AllAhead c ls) e ahead) (λ z k. subst (λ (c : ℕ). c < z) e (left.new z k));
      takes = tt;
      history = f.history ∙ take_all whole n e;
    }

    by_ahead : AllAhead n ls → Dec (n ≡ length whole) → Comes s ls
    by_ahead ahead (yes e) = at_end ahead e
    by_ahead ahead (no not) =
        let le = f.within in
        let less : n < length whole = omega (arith, not, le) in
        let p = find_listing s n 2 ls ok ahead left.new (left.all (n + 1) (omega arith) (omega (arith, less))) in
        by_listing ahead less p.0 p.1

    one_more : ((i : ℕ) × OnLane (IsPlain F whole n) i ls) ⊎ AllAhead n ls → Comes s ls
    one_more (inl p) = by_plain p.0 p.1
    one_more (inr ahead) = by_ahead ahead (ℕ_discrete n (length whole))

  -- all lanes come to their end, by the number of steps that are left
  pub come : length whole ≤ 65535 → (fuel : ℕ) (s : World) (n : ℕ) (ls : List (Going F)) → size ls ≤ fuel → Free whole s n → AllOk s n 2 ls → AllLate n ls → AreLeft n (all_nums ls) → Comes s ls
  come few zero s n ls small f ok late left = one_more few s n ls f ok late left (λ t m ms short g oks lates lefts. absurd (omega (arith, short, small))) (find_plain s n 2 ls ok late)
  come few (suc fuel) s n ls small f ok late left = one_more few s n ls f ok late left (λ t m ms short g oks lates lefts. come few fuel t m ms (omega (arith, short, small)) g oks lates lefts) (find_plain s n 2 ls ok late)
