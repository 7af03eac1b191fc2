-- What the steps of a lane's one step make of the machine: one lemma for each way in which it may end.
use Rattle.std.proofs.Common.{◌≡◌, ◌≢◌, ◌⊎◌, inl, inr, ◌&&◌, ◌||◌, ℕ, zero, suc, ◌+◌, ◌-◌, ◌*◌, ◌^◌, ◌<◌, ◌≤◌, Bool, true, false, not, nat_le, nat_lt, List, [], ◌∷◌, ◌++◌, map, take, length, refl, sym, ◌∙◌, ap, subst, arith, Option, Some, None, is_some, unwrap_or, if◌then◌else◌}
use Rattle.std.specs.Prelude.{slice_get, ◌==◌}
use Rattle.std.proofs.lemmas.Bool.Decides.{nat_tests}
use Rattle.fd_entries.specs.declared.batch.Pair.{Pair}
use Rattle.fd_entries.specs.Batches.{distinct, has_key, is_empty, newest, rows, total, with_pair}
use Rattle.fd_entries.proofs.BatchSums.{distinct_push, rows_length_push, total_push}
use Rattle.fd_machine.specs.declared.machine.Phase.{Phase}
use Rattle.fd_machine.specs.declared.machine.Phase.TheVariants as phases
use Rattle.fd_machine.specs.declared.machine.Seen.{Seen}
use Rattle.fd_machine.specs.declared.machine.Step.TheVariants as steps
use Rattle.fd_machine.specs.declared.machine.Writer.{Writer}
use Rattle.fd_machine.specs.World.{World}
use Rattle.fd_machine.specs.Laws.{FetchesNewest}
use Rattle.fd_machine.specs.Machine.{after, can_put, effect, length_of, possible, put_seen, seen_by, writer_of}
use Rattle.fd_machine.specs.Took.{IsReached, answered, took_of}
use Rattle.fd_machine.proofs.EveryRun as runs
use Rattle.fd_machine.proofs.Reached.{done}
use Rattle.fd_lanes.specs.Acts.{Act, Put, Flush, Get}
use Rattle.fd_lanes.specs.declared.end.End.{End}
use Rattle.fd_lanes.specs.declared.end.End.TheVariants.{PutOk, PutUnlisted, Fault, Listed, Nothing, TableFull, NoMemory, Damaged, Got}
use Rattle.fd_lanes.specs.Walks as walks
use Rattle.fd_lanes.specs.Walks.{Stand, EndsWell, answer_bytes}
use Rattle.fd_lanes.specs.Legal.{HasAt, AnswersAt}
use Rattle.fd_lanes.proofs.Answering.{take_all, take_more}
use Rattle.fd_runs.specs.Runs.{ActFits, Takes, fetches, flush_failed, flush_starved, listing, listing_failed, ran, sealed_after, sealing, steps_of, taken, unless_sealed, waits_next}
use Rattle.fd_runs.proofs.Steps.{At, Goes, made, next, on, one, still, put_one, sync_data, write_index, sync_index, take_table, body, sync_body, gate, sync_gate, post, release, fail_put, fail_index, fail_body}

-- the phase of a batch that is sealed or isn't
abbrev pub phase_of : Bool → Phase
phase_of true = phases.Sealed
phase_of false = phases.Filling

pub full_of : (b : List Pair) → b ≢ [] → is_empty b ≡ false
full_of [] some = absurd (some refl)
full_of (p ∷ ps) some = refl

module _ (w : ℕ) (b : List Pair) (q : ℕ) (h : List (List Pair)) where
  pub sealing_goes : (s : World) → is_empty b ≡ false → q < 2 ^ 32 - 1 → At s w (made w b phases.Filling q) None h → Goes s w (sealing w) (made w b phases.Sealed q) None h
  sealing_goes s full less a =
      next s w _ _ _ _ _ _ _ _ (sync_data s w b q None h full less a)
      (λ a1. next _ w _ _ _ _ _ _ _ _ (write_index _ w b q None h a1) (λ a2. sync_index _ w b q None h a2))

  pub listing_goes : (s : World) → length h < 65535 → At s w (made w b phases.Sealed q) None h → Goes s w (listing w) (made w [] phases.Filling (q + 1)) None (h ++ b ∷ [])
  listing_goes s room a =
      next s w _ _ _ _ _ _ _ _ (take_table s w b q None h room a)
      (λ a1. next _ w _ _ _ _ _ _ _ _ (body _ w b q (Some w) h a1)
      (λ a2. next _ w _ _ _ _ _ _ _ _ (sync_body _ w b q (Some w) h a2)
      (λ a3. next _ w _ _ _ _ _ _ _ _ (gate _ w b q (Some w) h a3)
      (λ a4. next _ w _ _ _ _ _ _ _ _ (sync_gate _ w b q (Some w) h a4)
      (λ a5. next _ w _ _ _ _ _ _ _ _ (post _ w b q (Some w) h a5)
      (λ a6. release _ w b q (Some w) (h ++ b ∷ []) a6))))))

  pub unless_goes : (k : Bool) (s : World) → is_empty b ≡ false → q < 2 ^ 32 - 1 → At s w (made w b (phase_of k) q) None h → Goes s w (unless_sealed k w) (made w b phases.Sealed q) None h
  unless_goes true s full less a = still s w _ _ _ a
  unless_goes false s full less a = sealing_goes s full less a

  pub listed_goes : (k : Bool) (s : World) → is_empty b ≡ false → q < 2 ^ 32 - 1 → length h < 65535 → At s w (made w b (phase_of k) q) None h → Goes s w (unless_sealed k w ++ listing w) (made w [] phases.Filling (q + 1)) None (h ++ b ∷ [])
  listed_goes k s full less room a = on s w (unless_sealed k w) (listing w) _ _ _ _ _ _ (unless_goes k s full less a) (λ a1. listing_goes _ room a1)

  listing_failed_goes : (room : Bool) (s : World) → (room ≡ true → length h < 65535) → At s w (made w b phases.Sealed q) None h → Goes s w (listing_failed room w) (made w b phases.Sealed q) None h
  listing_failed_goes true s has a = next s w _ _ _ _ _ _ _ _ (take_table s w b q None h (has refl) a) (λ a1. fail_body _ w b q (Some w) h a1)
  listing_failed_goes false s has a = still s w _ _ _ a

  pub failed_goes : (room k waits : Bool) (s : World) → (room ≡ true → length h < 65535) → is_empty b ≡ false → q < 2 ^ 32 - 1 → At s w (made w b (phase_of k) q) None h → Goes s w (flush_failed room k waits w) (made w b (phase_of (k || waits)) q) None h
  failed_goes room true waits s has full less a = listing_failed_goes room s has a
  failed_goes room false true s has full less a = on s w (sealing w) (listing_failed room w) _ _ _ _ _ _ (sealing_goes s full less a) (λ a1. listing_failed_goes room _ has a1)
  failed_goes room false false s has full less a = next s w _ _ _ _ _ _ _ _ (sync_data s w b q None h full less a) (λ a1. fail_index _ w b q None h a1)

  pub starved_goes : (k waits : Bool) (s : World) → is_empty b ≡ false → q < 2 ^ 32 - 1 → At s w (made w b (phase_of k) q) None h → Goes s w (flush_starved k waits w) (made w b (phase_of (k || waits)) q) None h
  starved_goes true true s full less a = still s w _ _ _ a
  starved_goes true false s full less a = still s w _ _ _ a
  starved_goes false true s full less a = sealing_goes s full less a
  starved_goes false false s full less a = still s w _ _ _ a

-- what a reader saw when it looked
seen_there : (xs : List Seen) (r n : ℕ) → seen_by (put_seen xs r n) r ≡ Some n
seen_there [] r n = let t : (r == r) ≡ true = grind (arith, nat_tests) in ap (λ (b : Bool). if b then Some n else None) t
seen_there (x ∷ xs) r n = go (x.reader == r) refl (seen_there xs r n)
  where
    go : (b : Bool) → (x.reader == r) ≡ b → seen_by (put_seen xs r n) r ≡ Some n → seen_by (if b then record { reader = r; length = n } ∷ xs else x ∷ put_seen xs r n) r ≡ Some n
    go true is ih = let t : (r == r) ≡ true = grind (arith, nat_tests) in ap (λ (b : Bool). if b then Some n else seen_by xs r) t
    go false is ih = ap (λ (b : Bool). if b then Some x.length else seen_by (put_seen xs r n) r) is ∙ ih

fetched_newest : (u : World) → IsReached u → FetchesNewest u
fetched_newest u r = subst FetchesNewest r.is (runs.fetches r.steps)

module _ (w : ℕ) (x : Writer) (r : ℕ) (h : List (List Pair)) where
  -- each fetch of a reader that has seen all answers the newest bytes of its key
  fetch_all : (u : World) (asked : List (List ℕ)) (os : List (Option (List ℕ))) → At u w x None h → seen_by u.readers r ≡ Some (length h) → os ≡ map (newest h) asked → Takes u (fetches r asked os) × (ran (fetches r asked os) u ≡ u)
  fetch_all u [] os a seen is = (tt, refl)
  fetch_all u (k ∷ ks) [] a seen is = absurd (cc is)
  fetch_all u (k ∷ ks) (o ∷ os) a seen is =
      let first : o ≡ newest h k = cc is in
      let rest : os ≡ map (newest h) ks = cc is in
      let may : possible u (steps.Fetch r k) ≡ true = (λ i. not (a.up i) && is_some (seen i)) in
      let same : after u (steps.Fetch r k) ≡ u = done u (steps.Fetch r k) may in
      let all : take (length_of u r) u.history ≡ take (length h) h = λ i. take (unwrap_or (seen i) 0) (a.history i) in
      let front : take (length_of u r) u.history ≡ h = all ∙ take_all h (length h) refl in
      let told : took_of u (steps.Fetch r k) ≡ answered o = fetched_newest u a.reached r k may ∙ ap (λ (t : List (List Pair)). answered (newest t k)) front ∙ ap answered (sym first) in
      let ih = fetch_all u ks os a seen rest in
      ((told, subst (λ (t : World). Takes t (fetches r ks os)) (sym same) ih.0), ap (ran (fetches r ks os)) same ∙ ih.1)

  pub get_goes : (s : World) (asked : List (List ℕ)) (os : List (Option (List ℕ))) → At s w x None h → os ≡ map (newest h) asked → Goes s w (taken (steps.Look r) ∷ fetches r asked os) x None h
  get_goes s asked os a is =
      let may : possible s (steps.Look r) ≡ true = (λ i. not (a.up i) && true) in
      let looked : after s (steps.Look r) ≡ effect s (steps.Look r) = done s (steps.Look r) may in
      let g : Goes s w (taken (steps.Look r) ∷ []) x None h = one s (effect s (steps.Look r)) w (steps.Look r) x None h a.reached may refl refl a.up a.sure a.owner a.history a.here (λ v d. refl) in
      let seen : seen_by (after s (steps.Look r)).readers r ≡ Some (length h) = ap (λ (t : World). seen_by t.readers r) looked ∙ seen_there s.readers r (length s.history) ∙ ap (λ (t : List (List Pair)). Some (length t)) a.history in
      let f = fetch_all (after s (steps.Look r)) asked os g.at seen is in
      record {
        takes = (g.takes.0, f.0);
        at = subst (λ (t : World). At t w x None h) (sym f.1) g.at;
        others = subst (λ (t : World). (v : ℕ) → v ≢ w → writer_of t v ≡ writer_of s v) (sym f.1) g.others;
      }

plus_one : (n : ℕ) → n + 1 ≡ suc n
plus_one n = omega arith

-- so many pairs, with short keys and of at most 128 MiB each
pub record IsSmall (b : List Pair) (c : ℕ) : Type 0 where
  pub few : distinct b ≤ c
  pub bytes : total b ≤ 134217728 * c
  pub rows_are : length (rows b) ≤ 274 * c

pub small_more : (b : List Pair) (p : Pair) (c : ℕ) → length p.key ≤ 256 → length p.bytes ≤ 134217728 → IsSmall b c → IsSmall (b ++ p ∷ []) (c + 1)
small_more b p c key bytes small = record {
  few = go (has_key b p.key) (distinct_push b p);
  bytes = omega (arith, small.bytes, bytes, total_push b p);
  rows_are = omega (arith, small.rows_are, key, rows_length_push b p);
}
  where
    go : (t : Bool) → distinct (b ++ p ∷ []) ≡ (if t then distinct b else distinct b + 1) → distinct (b ++ p ∷ []) ≤ c + 1
    go true is = omega (arith, is, small.few)
    go false is = omega (arith, is, small.few)

-- a pair may be put
all_seven : (a b c d e f g : Bool) → a ≡ true → b ≡ true → c ≡ true → d ≡ true → e ≡ true → f ≡ true → g ≡ true → (a && b && c && d && e && f && g) ≡ true
all_seven a b c d e f g ea eb ec ed ee ef eg = grind (arith, ea, eb, ec, ed, ee, ef, eg)

pub may_put : (w q : ℕ) (b : List Pair) (key bytes : List ℕ) → 1 ≤ w → w ≤ 65536 → length key ≤ 256 → distinct (with_pair b key bytes) ≤ 65536 → total (with_pair b key bytes) < 2 ^ 63 → length (rows (with_pair b key bytes)) < 2 ^ 63
    → can_put (made w b phases.Filling q) key bytes ≡ true
may_put w q b key bytes low high short few small index =
    let b1 : nat_le 1 w ≡ true = grind (arith, nat_tests, low) in
    let b2 : nat_le w 65536 ≡ true = grind (arith, nat_tests, high) in
    let b3 : nat_le (length key) 256 ≡ true = grind (arith, nat_tests, short) in
    let b4 : nat_le (distinct (with_pair b key bytes)) 65536 ≡ true = grind (arith, nat_tests, few) in
    let b5 : nat_lt (total (with_pair b key bytes)) (2 ^ 63) ≡ true = grind (arith, nat_tests, small) in
    let b6 : nat_lt (length (rows (with_pair b key bytes))) (2 ^ 63) ≡ true = grind (arith, nat_tests, index) in
    all_seven true (nat_le 1 w) (nat_le w 65536) (nat_le (length key) 256) (nat_le (distinct (with_pair b key bytes)) 65536) (nat_lt (total (with_pair b key bytes)) (2 ^ 63)) (nat_lt (length (rows (with_pair b key bytes))) (2 ^ 63)) refl b1 b2 b3 b4 b5 b6

module _ (F : Type 0) (whole : List (List Pair)) where
  -- one more where a step lists
  abbrev pub count_after : ℕ → Act → End F → ℕ
  count_after n Flush (Listed m) = n + 1
  count_after n a e = n

  -- it is the step's turn, with so many entries listed
  abbrev pub IsReady : ℕ → Act → End F → Type 0
  IsReady n Flush (Listed m) = m ≡ n + 1
  IsReady n (Get asked) (Got m found) = m ≡ n
  IsReady n a e = Unit {0}

  -- the batch is sealed only where that was told, or is told by the next put
  abbrev pub IsToldSealed : Bool → Stand → List Act → List (End F) → Type 0
  IsToldSealed k s acts es = k ≡ true → (s.waits ≡ Some true) ⊎ (waits_next acts es ≡ true)

  short_take : (n : ℕ) (ys : List (List Pair)) → n ≤ length ys → length (take n ys) ≡ n
  short_take zero ys le = refl
  short_take (suc n) [] le = absurd (omega arith)
  short_take (suc n) (y ∷ ys) le = ap suc (short_take n ys (omega arith))

  pub inside : (ys : List (List Pair)) (n : ℕ) (b : List Pair) → slice_get ys n ≡ Some b → n < length ys
  inside [] n b at = absurd (cc at)
  inside (y ∷ ys) zero b at = omega arith
  inside (y ∷ ys) (suc n) b at = let lt = inside ys n b at in omega arith

  module _ (few : length whole ≤ 65535) (s : World) (w r n : ℕ) (t : Stand) (q c : ℕ) (low : 1 ≤ w) (high : w ≤ 65536) (numbered : q ≤ n + 1) (within : n ≤ length whole) (small : IsSmall t.pending c) (room_left : c < 4096) where
    less : q < 2 ^ 32 - 1
    less = omega arith

    abbrev pub Stands : Bool → Type 0
    Stands k = At s w (made w t.pending (phase_of k) q) None (take n whole)

    abbrev pub Turns : Bool → Bool → Bool → Act → End F → Type 0
    Turns room k waits a e = Goes s w (steps_of w r room k waits a e) (made w (walks.after t a e).pending (phase_of (sealed_after k waits a e)) (count_after q a e)) None (take (count_after n a e) whole)

    abbrev pub Ends : Act → End F → Type 0
    Ends a e = EndsWell (HasAt whole) (length whole ≡ 65535) (AnswersAt whole) (Unit {0}) t a e

    put_turn : (room k : Bool) (p : Pair) (acts : List Act) (es : List (End F)) → ActFits (Put p) → IsToldSealed k t (Put p ∷ acts) (PutOk ∷ es) → Ends (Put p) PutOk → Stands k → Turns room k (waits_next acts es) (Put p) PutOk
    put_turn room true p acts es fits told ends a = absurd (go (told refl))
      where
        go : (t.waits ≡ Some true) ⊎ (false ≡ true) → ⊥
        go (inl is) = ends is
        go (inr is) = cc is
    put_turn room false p acts es fits told ends a =
        let more = small_more t.pending p c fits.0 fits.1 small in
        let m1 : distinct (with_pair t.pending p.key p.bytes) ≤ c + 1 = more.few in
        let m2 : total (with_pair t.pending p.key p.bytes) ≤ 134217728 * (c + 1) = more.bytes in
        let m3 : length (rows (with_pair t.pending p.key p.bytes)) ≤ 274 * (c + 1) = more.rows_are in
        put_one s w t.pending q None (take n whole) p.key p.bytes (may_put w q t.pending p.key p.bytes low high fits.0 (omega arith) (omega arith) (omega arith)) a

    put_failed : (room k : Bool) (p : Pair) (f : F) (acts : List Act) (es : List (End F)) → IsToldSealed k t (Put p ∷ acts) (Fault f ∷ es) → Ends (Put p) (Fault f) → Stands k → Turns room k (waits_next acts es) (Put p) (Fault f)
    put_failed room true p f acts es told ends a = absurd (go (told refl))
      where
        go : (t.waits ≡ Some true) ⊎ (false ≡ true) → ⊥
        go (inl is) = ends is
        go (inr is) = cc is
    put_failed room false p f acts es told ends a = fail_put s w t.pending q None (take n whole) a

    -- one lemma for each way in which a step may end
    pub turn_goes : (room k : Bool) (a : Act) (acts : List Act) (e : End F) (es : List (End F)) → (room ≡ true → n < 65535) → ActFits a → IsToldSealed k t (a ∷ acts) (e ∷ es) → IsReady n a e → Ends a e → Stands k → Turns room k (waits_next acts es) a e
    turn_goes room k (Put p) acts PutOk es has fits told is ends a = put_turn room k p acts es fits told ends a
    turn_goes room k (Put p) acts PutUnlisted es has fits told is ends a = still s w _ _ _ a
    turn_goes room k (Put p) acts (Fault f) es has fits told is ends a = put_failed room k p f acts es told ends a
    turn_goes room k (Put p) acts (Listed m) es has fits told is ends a = absurd ends
    turn_goes room k (Put p) acts Nothing es has fits told is ends a = absurd ends
    turn_goes room k (Put p) acts TableFull es has fits told is ends a = absurd ends
    turn_goes room k (Put p) acts NoMemory es has fits told is ends a = absurd ends
    turn_goes room k (Put p) acts (Damaged d) es has fits told is ends a = absurd ends
    turn_goes room k (Put p) acts (Got m found) es has fits told is ends a = absurd ends
    turn_goes room k Flush acts (Listed m) es has fits told is ends a =
        let place : m - 1 ≡ n = omega (arith, is) in
        let at : slice_get whole n ≡ Some t.pending = subst (λ (i : ℕ). slice_get whole i ≡ Some t.pending) place ends.2 in
        let lt = inside whole n t.pending at in
        let long = short_take n whole within in
        let longer : take n whole ++ t.pending ∷ [] ≡ take (n + 1) whole = sym (ap (λ (i : ℕ). take i whole) (plus_one n) ∙ take_more whole n t.pending at) in
        subst (λ (h : List (List Pair)). Goes s w (unless_sealed k w ++ listing w) (made w [] phases.Filling (q + 1)) None h) longer (listed_goes w t.pending q (take n whole) k s (full_of t.pending ends.0) less (omega arith) a)
    turn_goes room k Flush acts Nothing es has fits told is ends a = still s w _ _ _ a
    turn_goes room k Flush acts TableFull es has fits told is ends a = unless_goes w t.pending q (take n whole) k s (full_of t.pending ends.0) less a
    turn_goes room k Flush acts (Fault f) es has fits told is ends a = failed_goes w t.pending q (take n whole) room k (waits_next acts es) s (λ b. let lt = has b in let long = short_take n whole within in omega arith) (full_of t.pending ends) less a
    turn_goes room k Flush acts NoMemory es has fits told is ends a = starved_goes w t.pending q (take n whole) k (waits_next acts es) s (full_of t.pending ends) less a
    turn_goes room k Flush acts PutOk es has fits told is ends a = absurd ends
    turn_goes room k Flush acts PutUnlisted es has fits told is ends a = absurd ends
    turn_goes room k Flush acts (Damaged d) es has fits told is ends a = absurd ends
    turn_goes room k Flush acts (Got m found) es has fits told is ends a = absurd ends
    turn_goes room k (Get asked) acts (Got m found) es has fits told is ends a =
        get_goes w (made w t.pending (phase_of k) q) r (take n whole) s asked (map answer_bytes found) a (ends.1.1 ∙ ap (λ (i : ℕ). map (newest (take i whole)) asked) is)
    turn_goes room k (Get asked) acts (Fault f) es has fits told is ends a = still s w _ _ _ a
    turn_goes room k (Get asked) acts NoMemory es has fits told is ends a = still s w _ _ _ a
    turn_goes room k (Get asked) acts (Damaged d) es has fits told is ends a = still s w _ _ _ a
    turn_goes room k (Get asked) acts PutOk es has fits told is ends a = absurd ends
    turn_goes room k (Get asked) acts PutUnlisted es has fits told is ends a = absurd ends
    turn_goes room k (Get asked) acts (Listed m) es has fits told is ends a = absurd ends
    turn_goes room k (Get asked) acts Nothing es has fits told is ends a = absurd ends
    turn_goes room k (Get asked) acts TableFull es has fits told is ends a = absurd ends
