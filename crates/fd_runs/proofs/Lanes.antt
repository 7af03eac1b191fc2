-- A lane before and behind its turn.
use Rattle.std.proofs.Common.{◌≡◌, ◌≢◌, ◌⊎◌, inl, inr, ◌||◌, ℕ, ◌+◌, ◌-◌, ◌<◌, ◌≤◌, Bool, true, false, List, [], ◌∷◌, ◌++◌, map, take, length, refl, sym, ap, arith, Some, None}
use mathlib.Core.Logic.{dite}
use native.Mathlib.Decide.{ℕ_discrete}
use Rattle.fd_entries.specs.declared.batch.Pair.{Pair}
use Rattle.fd_machine.specs.declared.machine.Writer.{Writer}
use Rattle.fd_machine.specs.World.{World}
use Rattle.fd_machine.specs.Machine.{writer_of}
use Rattle.fd_machine.specs.Took.{IsReached}
use Rattle.fd_numbers.specs.Numbers.{IsIn}
use Rattle.fd_lanes.specs.Acts.{Act, Put, Flush, Get}
use Rattle.fd_lanes.specs.declared.end.End.{End}
use Rattle.fd_lanes.specs.declared.end.End.TheVariants.{PutOk, PutUnlisted, Fault, Listed, Nothing, TableFull, NoMemory, Damaged, Got}
use Rattle.fd_lanes.specs.Walks as walks
use Rattle.fd_lanes.specs.Walks.{Stand, EndsWell, Walks, receipt, receipts, still_waits}
use Rattle.fd_lanes.specs.Legal.{HasAt, AnswersAt}
use Rattle.fd_lanes.proofs.Receipts.{last_up, receipts_say, number_in}
use Rattle.fd_runs.specs.Runs.{ActFits, ActsFit, gone_from, next_of, ran, sealed_after, waits_next}
use Rattle.fd_runs.proofs.Steps.{At, Goes, made}
use Rattle.fd_runs.proofs.Blocks.{IsSmall, IsReady, IsToldSealed, count_after, inside, phase_of, small_more, turn_goes}

-- the machine is up and free, and lists so many of these
pub record Free (whole : List (List Pair)) (s : World) (n : ℕ) : Type 0 where
  pub reached : IsReached s
  pub up : s.down ≡ false
  pub sure : s.doubt ≡ None
  pub owner : s.owner ≡ None
  pub history : s.history ≡ take n whole
  pub within : n ≤ length whole

small_wider : (b : List Pair) (c : ℕ) → IsSmall b c → IsSmall b (c + 1)
small_wider b c s = record { few = omega (arith, s.few); bytes = omega (arith, s.bytes); rows_are = omega (arith, s.rows_are) }

small_none : (c : ℕ) → IsSmall [] c
small_none c = record { few = omega arith; bytes = omega arith; rows_are = omega arith }

module _ (F : Type 0) (whole : List (List Pair)) where
  abbrev pub Goings : Stand → List Act → List (End F) → Type 0
  Goings = Walks (HasAt whole) (length whole ≡ 65535) (AnswersAt whole) (Unit {0})

  abbrev pub Ends : Stand → Act → End F → Type 0
  Ends = EndsWell (HasAt whole) (length whole ≡ 65535) (AnswersAt whole) (Unit {0})

  small_after : (t : Stand) (c : ℕ) (a : Act) (e : End F) → ActFits a → IsSmall t.pending c → IsSmall (walks.after t a e).pending (c + 1)
  small_after t c (Put p) PutOk fit s = small_more t.pending p c fit.0 fit.1 s
  small_after t c (Put p) PutUnlisted fit s = small_wider t.pending c s
  small_after t c (Put p) (Fault f) fit s = small_wider t.pending c s
  small_after t c (Put p) (Listed n) fit s = small_wider t.pending c s
  small_after t c (Put p) Nothing fit s = small_wider t.pending c s
  small_after t c (Put p) TableFull fit s = small_wider t.pending c s
  small_after t c (Put p) NoMemory fit s = small_wider t.pending c s
  small_after t c (Put p) (Damaged d) fit s = small_wider t.pending c s
  small_after t c (Put p) (Got n found) fit s = small_wider t.pending c s
  small_after t c Flush (Listed n) fit s = small_none (c + 1)
  small_after t c Flush PutOk fit s = small_wider t.pending c s
  small_after t c Flush PutUnlisted fit s = small_wider t.pending c s
  small_after t c Flush (Fault f) fit s = small_wider t.pending c s
  small_after t c Flush Nothing fit s = small_wider t.pending c s
  small_after t c Flush TableFull fit s = small_wider t.pending c s
  small_after t c Flush NoMemory fit s = small_wider t.pending c s
  small_after t c Flush (Damaged d) fit s = small_wider t.pending c s
  small_after t c Flush (Got n found) fit s = small_wider t.pending c s
  small_after t c (Get asked) PutOk fit s = small_wider t.pending c s
  small_after t c (Get asked) PutUnlisted fit s = small_wider t.pending c s
  small_after t c (Get asked) (Fault f) fit s = small_wider t.pending c s
  small_after t c (Get asked) (Listed n) fit s = small_wider t.pending c s
  small_after t c (Get asked) Nothing fit s = small_wider t.pending c s
  small_after t c (Get asked) TableFull fit s = small_wider t.pending c s
  small_after t c (Get asked) NoMemory fit s = small_wider t.pending c s
  small_after t c (Get asked) (Damaged d) fit s = small_wider t.pending c s
  small_after t c (Get asked) (Got n found) fit s = small_wider t.pending c s

  -- a put that was taken or failed was one of a batch that isn't sealed
  not_sealed : (t : Stand) (k : Bool) (X : Type 0) → (k ≡ true → (t.waits ≡ Some true) ⊎ (false ≡ true)) → t.waits ≢ Some true → k ≡ true → X
  not_sealed t k X told ends is = absurd (go (told is))
    where
      go : (t.waits ≡ Some true) ⊎ (false ≡ true) → ⊥
      go (inl w) = ends w
      go (inr w) = cc w

  -- behind a refused flush
  told_refused : (t : Stand) (k waits : Bool) → (k ≡ true → (t.waits ≡ Some true) ⊎ (false ≡ true)) → (k || waits) ≡ true → (still_waits t.waits ≡ Some true) ⊎ (waits ≡ true)
  told_refused t true waits told is = go (told refl)
    where
      go : (t.waits ≡ Some true) ⊎ (false ≡ true) → (still_waits t.waits ≡ Some true) ⊎ (waits ≡ true)
      go (inl w) = inl (ap still_waits w)
      go (inr w) = absurd (cc w)
  told_refused t false waits told is = inr is

  told_after : (t : Stand) (k : Bool) (a : Act) (acts : List Act) (e : End F) (es : List (End F)) → Ends t a e → IsToldSealed F whole k t (a ∷ acts) (e ∷ es) → IsToldSealed F whole (sealed_after k (waits_next acts es) a e) (walks.after t a e) acts es
  told_after t k (Put p) acts PutOk es ends told = λ is. not_sealed t k _ told ends is
  told_after t k (Put p) acts PutUnlisted es ends told = λ is. inl refl
  told_after t k (Put p) acts (Fault f) es ends told = λ is. not_sealed t k _ told ends is
  told_after t k (Put p) acts (Listed n) es ends told = absurd ends
  told_after t k (Put p) acts Nothing es ends told = absurd ends
  told_after t k (Put p) acts TableFull es ends told = absurd ends
  told_after t k (Put p) acts NoMemory es ends told = absurd ends
  told_after t k (Put p) acts (Damaged d) es ends told = absurd ends
  told_after t k (Put p) acts (Got n found) es ends told = absurd ends
  told_after t k Flush acts (Listed n) es ends told = λ is. absurd (cc is)
  told_after t k Flush acts Nothing es ends told = λ is. nothing (told is)
    where
      nothing : (t.waits ≡ Some true) ⊎ (false ≡ true) → (t.waits ≡ Some true) ⊎ (waits_next acts es ≡ true)
      nothing (inl w) = inl w
      nothing (inr w) = absurd (cc w)
  told_after t k Flush acts TableFull es ends told = λ is. inl refl
  told_after t k Flush acts (Fault f) es ends told = told_refused t k (waits_next acts es) told
  told_after t k Flush acts NoMemory es ends told = told_refused t k (waits_next acts es) told
  told_after t k Flush acts PutOk es ends told = absurd ends
  told_after t k Flush acts PutUnlisted es ends told = absurd ends
  told_after t k Flush acts (Damaged d) es ends told = absurd ends
  told_after t k Flush acts (Got n found) es ends told = absurd ends
  told_after t k (Get asked) acts (Got n found) es ends told = told
  told_after t k (Get asked) acts (Fault f) es ends told = told
  told_after t k (Get asked) acts NoMemory es ends told = told
  told_after t k (Get asked) acts (Damaged d) es ends told = told
  told_after t k (Get asked) acts PutOk es ends told = absurd ends
  told_after t k (Get asked) acts PutUnlisted es ends told = absurd ends
  told_after t k (Get asked) acts (Listed n) es ends told = absurd ends
  told_after t k (Get asked) acts Nothing es ends told = absurd ends
  told_after t k (Get asked) acts TableFull es ends told = absurd ends

  -- a lane of writer w, where so many batches are listed
  pub record LaneOk (s : World) (n w : ℕ) (t : Stand) (k : Bool) (acts : List Act) (es : List (End F)) : Type 0 where
    pub low : 1 ≤ w
    pub high : w ≤ 65536
    pub seq : ℕ
    pub numbered : seq ≤ n + 1
    pub here : writer_of s w ≡ made w t.pending (phase_of k) seq
    pub count : ℕ
    pub small : IsSmall t.pending count
    pub left : count + length acts ≤ 4096
    pub fit : ActsFit acts
    pub going : Goings t acts es
    pub told : IsToldSealed F whole k t acts es

  -- how many are listed behind the lane's next step, and whether it may be taken now
  abbrev pub count_of : ℕ → List Act → List (End F) → ℕ
  count_of n [] es = n
  count_of n (a ∷ acts) [] = n
  count_of n (a ∷ acts) (e ∷ es) = count_after F whole n a e

  abbrev pub MayTurn : ℕ → List Act → List (End F) → Type 0
  MayTurn n [] es = ⊥
  MayTurn n (a ∷ acts) [] = ⊥
  MayTurn n (a ∷ acts) (e ∷ es) = IsReady F whole n a e

  count_up : (q n : ℕ) (a : Act) (e : End F) → q ≤ n + 1 → count_after F whole q a e ≤ count_after F whole n a e + 1
  count_up q n (Put p) e le = le
  count_up q n Flush (Listed m) le = omega (arith, le)
  count_up q n Flush PutOk le = le
  count_up q n Flush PutUnlisted le = le
  count_up q n Flush (Fault f) le = le
  count_up q n Flush Nothing le = le
  count_up q n Flush TableFull le = le
  count_up q n Flush NoMemory le = le
  count_up q n Flush (Damaged d) le = le
  count_up q n Flush (Got m found) le = le
  count_up q n (Get asked) e le = le

  -- the steps of the turn, and the lane behind it
  pub record LaneGoes (s : World) (n w r : ℕ) (room : Bool) (t : Stand) (k : Bool) (acts : List Act) (es : List (End F)) : Type 0 where
    pub writer : Writer
    pub goes : Goes s w (next_of w r room k acts es) writer None (take (count_of n acts es) whole)
    pub ok : LaneOk (ran (next_of w r room k acts es) s) (count_of n acts es) w (gone_from t k acts es).stand (gone_from t k acts es).sealed (gone_from t k acts es).acts (gone_from t k acts es).ends

  pub lane_goes : length whole ≤ 65535 → (s : World) (n w r : ℕ) (room : Bool) (t : Stand) (k : Bool) (acts : List Act) (es : List (End F)) → (room ≡ true → n < 65535) → Free whole s n → MayTurn n acts es → LaneOk s n w t k acts es → LaneGoes s n w r room t k acts es
  lane_goes few s n w r room t k [] es has f may ok = absurd may
  lane_goes few s n w r room t k (a ∷ acts) [] has f may ok = absurd may
  lane_goes few s n w r room t k (a ∷ acts) (e ∷ es) has f may ok =
      let l = ok.left in
      let at : At s w (made w t.pending (phase_of k) ok.seq) None (take n whole) = record { reached = f.reached; up = f.up; sure = f.sure; owner = f.owner; history = f.history; here = ok.here } in
      let g = turn_goes F whole few s w r n t ok.seq ok.count ok.low ok.high ok.numbered f.within ok.small (omega (arith, l)) room k a acts e es has ok.fit.0 ok.told may ok.going.0 at in
      record {
        writer = made w (walks.after t a e).pending (phase_of (sealed_after k (waits_next acts es) a e)) (count_after F whole ok.seq a e);
        goes = g;
        ok = record {
          low = ok.low;
          high = ok.high;
          seq = count_after F whole ok.seq a e;
          numbered = count_up ok.seq n a e ok.numbered;
          here = g.at.here;
          count = ok.count + 1;
          small = small_after t ok.count a e ok.fit.0 ok.small;
          left = omega (arith, l);
          fit = ok.fit.1;
          going = ok.going.1;
          told = told_after t k a acts e es ok.going.0 ok.told;
        };
      }

  -- the numbers of a lane's flushes that are left
  abbrev pub nums : Stand → List Act → List (End F) → List ℕ
  nums t acts es = map (λ r. r.0) (receipts t acts es)

  pub nums_after : (t : Stand) (acts : List Act) (es : List (End F)) (z : ℕ) → Goings t acts es → IsIn (nums t acts es) z → t.last < z
  nums_after t acts es z g i = let p = number_in (receipts t acts es) z i in let h = receipts_say F (HasAt whole) (length whole ≡ 65535) (AnswersAt whole) (Unit {0}) t acts es (z, p.0) g p.1 in h.0

  -- each get that is left saw at least so many entries
  abbrev pub NotBefore : ℕ → Act → End F → Type 0
  NotBefore n (Get asked) (Got m found) = n ≤ m
  NotBefore n a e = Unit {0}

  abbrev pub IsLate : ℕ → List Act → List (End F) → Type 0
  IsLate n [] es = Unit {0}
  IsLate n (a ∷ acts) [] = Unit {0}
  IsLate n (a ∷ acts) (e ∷ es) = NotBefore n a e × IsLate n acts es

  not_before_less : (m n : ℕ) (a : Act) (e : End F) → n ≤ m → NotBefore m a e → NotBefore n a e
  not_before_less m n (Put p) e le b = tt
  not_before_less m n Flush e le b = tt
  not_before_less m n (Get asked) (Got k found) le b = omega (arith, le, b)
  not_before_less m n (Get asked) PutOk le b = tt
  not_before_less m n (Get asked) PutUnlisted le b = tt
  not_before_less m n (Get asked) (Fault f) le b = tt
  not_before_less m n (Get asked) (Listed k) le b = tt
  not_before_less m n (Get asked) Nothing le b = tt
  not_before_less m n (Get asked) TableFull le b = tt
  not_before_less m n (Get asked) NoMemory le b = tt
  not_before_less m n (Get asked) (Damaged d) le b = tt

  late_less : (m n : ℕ) (acts : List Act) (es : List (End F)) → n ≤ m → IsLate m acts es → IsLate n acts es
  late_less m n [] es le l = tt
  late_less m n (a ∷ acts) [] le l = tt
  late_less m n (a ∷ acts) (e ∷ es) le l = (not_before_less m n a e le l.0, late_less m n acts es le l.1)

  not_before_last : (t : Stand) (a : Act) (e : End F) → Ends t a e → NotBefore t.last a e
  not_before_last t (Put p) e h = tt
  not_before_last t Flush e h = tt
  not_before_last t (Get asked) (Got k found) h = h.0
  not_before_last t (Get asked) PutOk h = tt
  not_before_last t (Get asked) PutUnlisted h = tt
  not_before_last t (Get asked) (Fault f) h = tt
  not_before_last t (Get asked) (Listed k) h = tt
  not_before_last t (Get asked) Nothing h = tt
  not_before_last t (Get asked) TableFull h = tt
  not_before_last t (Get asked) NoMemory h = tt
  not_before_last t (Get asked) (Damaged d) h = tt

  -- no lane sees fewer entries than it saw
  pub late_walk : (t : Stand) (acts : List Act) (es : List (End F)) → Goings t acts es → IsLate t.last acts es
  late_walk t [] es g = tt
  late_walk t (a ∷ acts) [] g = tt
  late_walk t (a ∷ acts) (e ∷ es) g = (
    not_before_last t a e g.0,
    late_less (walks.after t a e).last t.last acts es (last_up F (HasAt whole) (length whole ≡ 65535) (AnswersAt whole) (Unit {0}) t a e g.0) (late_walk (walks.after t a e) acts es g.1),
  )

  -- the lane's next step lists nothing and may be taken, or the lane waits for more batches to be listed or is at its end
  abbrev pub IsPlainEnd : ℕ → Act → End F → Type 0
  IsPlainEnd n Flush (Listed m) = ⊥
  IsPlainEnd n (Get asked) (Got m found) = m ≡ n
  IsPlainEnd n a e = Unit {0}

  abbrev pub IsPlain : ℕ → List Act → List (End F) → Type 0
  IsPlain n [] es = ⊥
  IsPlain n (a ∷ acts) [] = ⊥
  IsPlain n (a ∷ acts) (e ∷ es) = IsPlainEnd n a e

  abbrev pub IsAheadEnd : ℕ → Act → End F → Type 0
  IsAheadEnd n Flush (Listed m) = Unit {0}
  IsAheadEnd n (Get asked) (Got m found) = n < m
  IsAheadEnd n a e = ⊥

  abbrev pub IsAhead : ℕ → List Act → List (End F) → Type 0
  IsAhead n [] [] = Unit {0}
  IsAhead n [] (e ∷ es) = ⊥
  IsAhead n (a ∷ acts) [] = ⊥
  IsAhead n (a ∷ acts) (e ∷ es) = IsAheadEnd n a e

  plain_end : (n : ℕ) (t : Stand) (a : Act) (e : End F) → NotBefore n a e → IsPlainEnd n a e ⊎ IsAheadEnd n a e
  plain_end n t (Put p) e b = inl tt
  plain_end n t Flush (Listed m) b = inr tt
  plain_end n t Flush PutOk b = inl tt
  plain_end n t Flush PutUnlisted b = inl tt
  plain_end n t Flush (Fault f) b = inl tt
  plain_end n t Flush Nothing b = inl tt
  plain_end n t Flush TableFull b = inl tt
  plain_end n t Flush NoMemory b = inl tt
  plain_end n t Flush (Damaged d) b = inl tt
  plain_end n t Flush (Got m found) b = inl tt
  plain_end n t (Get asked) (Got m found) b = dite (ℕ_discrete m n) (λ is. inl is) (λ not. inr (omega (arith, not, b)))
  plain_end n t (Get asked) PutOk b = inl tt
  plain_end n t (Get asked) PutUnlisted b = inl tt
  plain_end n t (Get asked) (Fault f) b = inl tt
  plain_end n t (Get asked) (Listed m) b = inl tt
  plain_end n t (Get asked) Nothing b = inl tt
  plain_end n t (Get asked) TableFull b = inl tt
  plain_end n t (Get asked) NoMemory b = inl tt
  plain_end n t (Get asked) (Damaged d) b = inl tt

  pub plain_or_ahead : (n : ℕ) (t : Stand) (acts : List Act) (es : List (End F)) → Goings t acts es → IsLate n acts es → IsPlain n acts es ⊎ IsAhead n acts es
  plain_or_ahead n t [] [] g l = inr tt
  plain_or_ahead n t [] (e ∷ es) g l = absurd g
  plain_or_ahead n t (a ∷ acts) [] g l = absurd g
  plain_or_ahead n t (a ∷ acts) (e ∷ es) g l = plain_end n t a e l.0

  plain_ready_end : (n : ℕ) (a : Act) (e : End F) → IsPlainEnd n a e → IsReady F whole n a e × (count_after F whole n a e ≡ n)
  plain_ready_end n (Put p) e h = (tt, refl)
  plain_ready_end n Flush (Listed m) h = absurd h
  plain_ready_end n Flush PutOk h = (tt, refl)
  plain_ready_end n Flush PutUnlisted h = (tt, refl)
  plain_ready_end n Flush (Fault f) h = (tt, refl)
  plain_ready_end n Flush Nothing h = (tt, refl)
  plain_ready_end n Flush TableFull h = (tt, refl)
  plain_ready_end n Flush NoMemory h = (tt, refl)
  plain_ready_end n Flush (Damaged d) h = (tt, refl)
  plain_ready_end n Flush (Got m found) h = (tt, refl)
  plain_ready_end n (Get asked) (Got m found) h = (h, refl)
  plain_ready_end n (Get asked) PutOk h = (tt, refl)
  plain_ready_end n (Get asked) PutUnlisted h = (tt, refl)
  plain_ready_end n (Get asked) (Fault f) h = (tt, refl)
  plain_ready_end n (Get asked) (Listed m) h = (tt, refl)
  plain_ready_end n (Get asked) Nothing h = (tt, refl)
  plain_ready_end n (Get asked) TableFull h = (tt, refl)
  plain_ready_end n (Get asked) NoMemory h = (tt, refl)
  plain_ready_end n (Get asked) (Damaged d) h = (tt, refl)

  pub plain_ready : (n : ℕ) (acts : List Act) (es : List (End F)) → IsPlain n acts es → MayTurn n acts es × (count_of n acts es ≡ n)
  plain_ready n [] es h = absurd h
  plain_ready n (a ∷ acts) [] h = absurd h
  plain_ready n (a ∷ acts) (e ∷ es) h = plain_ready_end n a e h

  no_receipt : (n : ℕ) (t : Stand) (a : Act) (e : End F) → IsPlainEnd n a e → Ends t a e → receipt t e ≡ []
  no_receipt n t (Put p) (Listed m) h w = absurd w
  no_receipt n t Flush (Listed m) h w = absurd h
  no_receipt n t (Get asked) (Listed m) h w = absurd w
  no_receipt n t a PutOk h w = refl
  no_receipt n t a PutUnlisted h w = refl
  no_receipt n t a (Fault f) h w = refl
  no_receipt n t a Nothing h w = refl
  no_receipt n t a TableFull h w = refl
  no_receipt n t a NoMemory h w = refl
  no_receipt n t a (Damaged d) h w = refl
  no_receipt n t a (Got m found) h w = refl

  -- a plain step leaves the numbers that are left
  pub plain_nums : (n : ℕ) (t : Stand) (k : Bool) (acts : List Act) (es : List (End F)) → IsPlain n acts es → Goings t acts es → nums (gone_from t k acts es).stand (gone_from t k acts es).acts (gone_from t k acts es).ends ≡ nums t acts es
  plain_nums n t k [] es h g = absurd h
  plain_nums n t k (a ∷ acts) [] h g = absurd h
  plain_nums n t k (a ∷ acts) (e ∷ es) h g = sym (ap (λ (rs : List (ℕ × List Pair)). map (λ r. r.0) (rs ++ receipts (walks.after t a e) acts es)) (no_receipt n t a e h g.0))

  -- the lane's next step lists under this number
  abbrev pub ListsEnd : ℕ → Act → End F → Type 0
  ListsEnd m Flush (Listed i) = i ≡ m
  ListsEnd m a e = ⊥

  abbrev pub Lists : ℕ → List Act → List (End F) → Type 0
  Lists m [] es = ⊥
  Lists m (a ∷ acts) [] = ⊥
  Lists m (a ∷ acts) (e ∷ es) = ListsEnd m a e

  pub lists_ready : (n : ℕ) (acts : List Act) (es : List (End F)) → Lists (n + 1) acts es → MayTurn n acts es × (count_of n acts es ≡ n + 1)
  lists_ready n [] es h = absurd h
  lists_ready n (a ∷ acts) [] h = absurd h
  lists_ready n (Flush ∷ acts) (Listed i ∷ es) h = (h, refl)
  lists_ready n (Flush ∷ acts) (PutOk ∷ es) h = absurd h
  lists_ready n (Flush ∷ acts) (PutUnlisted ∷ es) h = absurd h
  lists_ready n (Flush ∷ acts) (Fault f ∷ es) h = absurd h
  lists_ready n (Flush ∷ acts) (Nothing ∷ es) h = absurd h
  lists_ready n (Flush ∷ acts) (TableFull ∷ es) h = absurd h
  lists_ready n (Flush ∷ acts) (NoMemory ∷ es) h = absurd h
  lists_ready n (Flush ∷ acts) (Damaged d ∷ es) h = absurd h
  lists_ready n (Flush ∷ acts) (Got m found ∷ es) h = absurd h
  lists_ready n (Put p ∷ acts) (e ∷ es) h = absurd h
  lists_ready n (Get asked ∷ acts) (e ∷ es) h = absurd h

  pub lists_nums : (m : ℕ) (t : Stand) (k : Bool) (acts : List Act) (es : List (End F)) → Lists m acts es → nums t acts es ≡ m ∷ nums (gone_from t k acts es).stand (gone_from t k acts es).acts (gone_from t k acts es).ends
  lists_nums m t k [] es h = absurd h
  lists_nums m t k (a ∷ acts) [] h = absurd h
  lists_nums m t k (Flush ∷ acts) (Listed i ∷ es) h = ap (λ (j : ℕ). j ∷ nums (walks.after {F = F} t Flush (Listed i)) acts es) h
  lists_nums m t k (Flush ∷ acts) (PutOk ∷ es) h = absurd h
  lists_nums m t k (Flush ∷ acts) (PutUnlisted ∷ es) h = absurd h
  lists_nums m t k (Flush ∷ acts) (Fault f ∷ es) h = absurd h
  lists_nums m t k (Flush ∷ acts) (Nothing ∷ es) h = absurd h
  lists_nums m t k (Flush ∷ acts) (TableFull ∷ es) h = absurd h
  lists_nums m t k (Flush ∷ acts) (NoMemory ∷ es) h = absurd h
  lists_nums m t k (Flush ∷ acts) (Damaged d ∷ es) h = absurd h
  lists_nums m t k (Flush ∷ acts) (Got j found ∷ es) h = absurd h
  lists_nums m t k (Put p ∷ acts) (e ∷ es) h = absurd h
  lists_nums m t k (Get asked ∷ acts) (e ∷ es) h = absurd h

  -- a lane that waits, and in which the next number is left, lists it next
  lists_end : (n : ℕ) (t : Stand) (a : Act) (e : End F) (acts : List Act) (es : List (End F)) → IsAheadEnd n a e → Goings t (a ∷ acts) (e ∷ es) → ((z : ℕ) → IsIn (nums t (a ∷ acts) (e ∷ es)) z → n < z) → IsIn (nums t (a ∷ acts) (e ∷ es)) (n + 1) → ListsEnd (n + 1) a e
  lists_end n t Flush (Listed m) acts es h g new (inl is) = is
  lists_end n t Flush (Listed m) acts es h g new (inr i) =
      let lt : m < n + 1 = nums_after (walks.after {F = F} t Flush (Listed m)) acts es (n + 1) g.1 i in
      let low : n < m = new m (inl refl) in
      absurd (omega (arith, lt, low))
  lists_end n t (Get asked) (Got m found) acts es h g new i =
      let lt : m < n + 1 = nums_after (walks.after {F = F} t (Get asked) (Got m found)) acts es (n + 1) g.1 i in
      absurd (omega (arith, lt, h))
  lists_end n t (Put p) e acts es h g new i = absurd h
  lists_end n t Flush PutOk acts es h g new i = absurd h
  lists_end n t Flush PutUnlisted acts es h g new i = absurd h
  lists_end n t Flush (Fault f) acts es h g new i = absurd h
  lists_end n t Flush Nothing acts es h g new i = absurd h
  lists_end n t Flush TableFull acts es h g new i = absurd h
  lists_end n t Flush NoMemory acts es h g new i = absurd h
  lists_end n t Flush (Damaged d) acts es h g new i = absurd h
  lists_end n t Flush (Got m found) acts es h g new i = absurd h
  lists_end n t (Get asked) PutOk acts es h g new i = absurd h
  lists_end n t (Get asked) PutUnlisted acts es h g new i = absurd h
  lists_end n t (Get asked) (Fault f) acts es h g new i = absurd h
  lists_end n t (Get asked) (Listed m) acts es h g new i = absurd h
  lists_end n t (Get asked) Nothing acts es h g new i = absurd h
  lists_end n t (Get asked) TableFull acts es h g new i = absurd h
  lists_end n t (Get asked) NoMemory acts es h g new i = absurd h
  lists_end n t (Get asked) (Damaged d) acts es h g new i = absurd h

  pub lists_next : (n : ℕ) (t : Stand) (acts : List Act) (es : List (End F)) → IsAhead n acts es → Goings t acts es → ((z : ℕ) → IsIn (nums t acts es) z → n < z) → IsIn (nums t acts es) (n + 1) → Lists (n + 1) acts es
  lists_next n t [] es h g new i = absurd i
  lists_next n t (a ∷ acts) [] h g new i = absurd i
  lists_next n t (a ∷ acts) (e ∷ es) h g new i = lists_end n t a e acts es h g new i

  -- where all are listed, a lane that waits is at its end
  done_end : (t : Stand) (a : Act) (e : End F) (acts : List Act) (es : List (End F)) → IsAheadEnd (length whole) a e → Ends t a e → ((z : ℕ) → IsIn (nums t (a ∷ acts) (e ∷ es)) z → length whole < z) → ⊥
  done_end t Flush (Listed m) acts es h ends new =
      let low : length whole < m = new m (inl refl) in
      let lt = inside F whole whole (m - 1) t.pending ends.2 in
      absurd (omega (arith, lt, low))
  done_end t (Get asked) (Got m found) acts es h ends new = absurd (omega (arith, h, ends.1.0))
  done_end t (Put p) e acts es h ends new = h
  done_end t Flush PutOk acts es h ends new = h
  done_end t Flush PutUnlisted acts es h ends new = h
  done_end t Flush (Fault f) acts es h ends new = h
  done_end t Flush Nothing acts es h ends new = h
  done_end t Flush TableFull acts es h ends new = h
  done_end t Flush NoMemory acts es h ends new = h
  done_end t Flush (Damaged d) acts es h ends new = h
  done_end t Flush (Got m found) acts es h ends new = h
  done_end t (Get asked) PutOk acts es h ends new = h
  done_end t (Get asked) PutUnlisted acts es h ends new = h
  done_end t (Get asked) (Fault f) acts es h ends new = h
  done_end t (Get asked) (Listed m) acts es h ends new = h
  done_end t (Get asked) Nothing acts es h ends new = h
  done_end t (Get asked) TableFull acts es h ends new = h
  done_end t (Get asked) NoMemory acts es h ends new = h
  done_end t (Get asked) (Damaged d) acts es h ends new = h

  pub done_all : (t : Stand) (acts : List Act) (es : List (End F)) → IsAhead (length whole) acts es → Goings t acts es → ((z : ℕ) → IsIn (nums t acts es) z → length whole < z) → (acts ≡ []) × (es ≡ [])
  done_all t [] [] h g new = (refl, refl)
  done_all t [] (e ∷ es) h g new = absurd h
  done_all t (a ∷ acts) [] h g new = absurd h
  done_all t (a ∷ acts) (e ∷ es) h g new = absurd (done_end t a e acts es h g.0 new)

  -- what a lane that waits has left saw one entry more
  later_end : (n : ℕ) (t : Stand) (a : Act) (e : End F) (acts : List Act) (es : List (End F)) → IsAheadEnd n a e → Goings t (a ∷ acts) (e ∷ es) → ((z : ℕ) → IsIn (nums t (a ∷ acts) (e ∷ es)) z → n < z) → IsLate (n + 1) (a ∷ acts) (e ∷ es)
  later_end n t Flush (Listed m) acts es h g new =
      let low : n < m = new m (inl refl) in
      (tt, late_less m (n + 1) acts es (omega (arith, low)) (late_walk (walks.after {F = F} t Flush (Listed m)) acts es g.1))
  later_end n t (Get asked) (Got m found) acts es h g new = (omega (arith, h), late_less m (n + 1) acts es (omega (arith, h)) (late_walk (walks.after {F = F} t (Get asked) (Got m found)) acts es g.1))
  later_end n t (Put p) e acts es h g new = absurd h
  later_end n t Flush PutOk acts es h g new = absurd h
  later_end n t Flush PutUnlisted acts es h g new = absurd h
  later_end n t Flush (Fault f) acts es h g new = absurd h
  later_end n t Flush Nothing acts es h g new = absurd h
  later_end n t Flush TableFull acts es h g new = absurd h
  later_end n t Flush NoMemory acts es h g new = absurd h
  later_end n t Flush (Damaged d) acts es h g new = absurd h
  later_end n t Flush (Got m found) acts es h g new = absurd h
  later_end n t (Get asked) PutOk acts es h g new = absurd h
  later_end n t (Get asked) PutUnlisted acts es h g new = absurd h
  later_end n t (Get asked) (Fault f) acts es h g new = absurd h
  later_end n t (Get asked) (Listed m) acts es h g new = absurd h
  later_end n t (Get asked) Nothing acts es h g new = absurd h
  later_end n t (Get asked) TableFull acts es h g new = absurd h
  later_end n t (Get asked) NoMemory acts es h g new = absurd h
  later_end n t (Get asked) (Damaged d) acts es h g new = absurd h

  pub later : (n : ℕ) (t : Stand) (acts : List Act) (es : List (End F)) → IsAhead n acts es → Goings t acts es → ((z : ℕ) → IsIn (nums t acts es) z → n < z) → IsLate (n + 1) acts es
  later n t [] es h g new = tt
  later n t (a ∷ acts) [] h g new = tt
  later n t (a ∷ acts) (e ∷ es) h g new = later_end n t a e acts es h g new

  -- the lane behind its turn saw as many
  pub late_gone : (n : ℕ) (t : Stand) (k : Bool) (acts : List Act) (es : List (End F)) → IsLate n acts es → IsLate n (gone_from t k acts es).acts (gone_from t k acts es).ends
  late_gone n t k [] es l = l
  late_gone n t k (a ∷ acts) [] l = l
  late_gone n t k (a ∷ acts) (e ∷ es) l = l.1
