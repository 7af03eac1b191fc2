-- A whole session: the batches before, the lanes before their first steps, and their turns.
use Rattle.std.proofs.Common.{◌≡◌, ◌⊎◌, inl, inr, ℕ, ◌+◌, ◌^◌, ◌<◌, ◌≤◌, Bool, true, false, if◌then◌else◌, List, [], ◌∷◌, ◌++◌, map, take, length, refl, sym, ◌∙◌, ap, subst, arith, append_assoc, length-append, None}
use mathlib.Core.List.{append-nil, map-append}
use Rattle.fd_entries.specs.declared.batch.Pair.{Pair}
use Rattle.fd_entries.specs.Batches.{KeysFit, distinct, has_key, rows, total}
use Rattle.fd_entries.specs.Numbers.{entries_or_none, greatest_seq}
use Rattle.fd_entries.specs.Table.{IsTable, header}
use Rattle.fd_entries.proofs.BatchSums.{distinct_push, rows_length_push, total_push}
use Rattle.fd_entries.proofs.Slots.{listed_table}
use Rattle.fd_machine.specs.declared.machine.Phase.TheVariants as phases
use Rattle.fd_machine.specs.World.{World}
use Rattle.fd_machine.specs.Machine.{start, writer_of}
use Rattle.fd_numbers.specs.Numbers.{Differ, IsIn}
use Rattle.fd_lanes.specs.Acts.{Act}
use Rattle.fd_lanes.specs.declared.end.End.{End}
use Rattle.fd_lanes.specs.Walks.{beginning, receipts}
use Rattle.fd_lanes.specs.Legal.{AllWalk, all_receipts}
use Rattle.fd_lanes.proofs.Walking.{in_either}
use Rattle.fd_runs.specs.Runs.{BatchesFit, EverySessionIsARun, LanesFit, in_turns, lanes_of, listing, opened, puts, ran, sealing}
use Rattle.fd_runs.proofs.Steps.{At, Goes, made, next, on, put_one, ran_more, still, takes_more}
use Rattle.fd_runs.proofs.Blocks.{full_of, listing_goes, may_put, sealing_goes}
use Rattle.fd_runs.proofs.Lanes.{Free, late_walk, nums, nums_after}
use Rattle.fd_runs.proofs.Turns.{AllLate, AllOk, AreLeft, Comes, all_nums, come, size}

-- a front of a batch is no larger than the batch
front_sizes : (b ps : List Pair) → (distinct b ≤ distinct (b ++ ps)) × (total b ≤ total (b ++ ps)) × (length (rows b) ≤ length (rows (b ++ ps)))
front_sizes b [] = let same = append-nil b in (omega (arith, ap distinct same), omega (arith, ap total same), omega (arith, ap (λ (c : List Pair). length (rows c)) same))
front_sizes b (p ∷ ps) =
    let ih = front_sizes (b ++ p ∷ []) ps in
    let same : (b ++ p ∷ []) ++ ps ≡ b ++ p ∷ ps = append_assoc b (p ∷ []) ps in
    let d = go (has_key b p.key) (distinct_push b p) in
    let i0 = ih.0 in let i1 = ih.1 in let i2 = ih.2 in (
      omega (arith, d, i0, ap distinct same),
      omega (arith, i1, total_push b p, ap total same),
      omega (arith, i2, rows_length_push b p, ap (λ (c : List Pair). length (rows c)) same),
    )
  where
    go : (t : Bool) → distinct (b ++ p ∷ []) ≡ (if t then distinct b else distinct b + 1) → distinct b ≤ distinct (b ++ p ∷ [])
    go true is = omega (arith, is)
    go false is = omega (arith, is)

-- the pairs of a batch are put behind those that were
puts_go : (w q : ℕ) (h : List (List Pair)) → 1 ≤ w → w ≤ 65536 → (ps b : List Pair) (s : World) → KeysFit ps → distinct (b ++ ps) ≤ 65536 → total (b ++ ps) < 2 ^ 63 → length (rows (b ++ ps)) < 2 ^ 63
    → At s w (made w b phases.Filling q) None h → Goes s w (puts w ps) (made w (b ++ ps) phases.Filling q) None h
puts_go w q h low high [] b s keys few small index a = subst (λ (c : List Pair). Goes s w [] (made w c phases.Filling q) None h) (sym (append-nil b)) (still s w _ _ _ a)
puts_go w q h low high (p ∷ ps) b s keys few small index a =
    let same : (b ++ p ∷ []) ++ ps ≡ b ++ p ∷ ps = append_assoc b (p ∷ []) ps in
    let f = front_sizes (b ++ p ∷ []) ps in
    let f0 = f.0 in let f1 = f.1 in let f2 = f.2 in
    let few' : distinct ((b ++ p ∷ []) ++ ps) ≤ 65536 = omega (arith, few, ap distinct same) in
    let small' : total ((b ++ p ∷ []) ++ ps) < 2 ^ 63 = omega (arith, small, ap total same) in
    let index' : length (rows ((b ++ p ∷ []) ++ ps)) < 2 ^ 63 = omega (arith, index, ap (λ (c : List Pair). length (rows c)) same) in
    subst (λ (c : List Pair). Goes s w (puts w (p ∷ ps)) (made w c phases.Filling q) None h) same
    (next s w _ _ _ _ _ _ _ _ (put_one s w b q None h p.key p.bytes (may_put w q b p.key p.bytes low high keys.0 (omega (arith, few', f0)) (omega (arith, small', f1)) (omega (arith, index', f2))) a)
    (λ a1. puts_go w q h low high ps (b ++ p ∷ []) _ keys.1 few' small' index' a1))

-- the batches before are listed one after the other
opened_goes : (t h : List (List Pair)) (q : ℕ) (s : World) → BatchesFit t → length h + length t ≤ 65535 → q ≤ length h + 1 → At s 1 (made 1 [] phases.Filling q) None h → (r : ℕ) × Goes s 1 (opened t) (made 1 [] phases.Filling r) None (h ++ t)
opened_goes [] h q s fit few numbered a = (q, subst (λ (g : List (List Pair)). Goes s 1 [] (made 1 [] phases.Filling q) None g) (sym (append-nil h)) (still s 1 _ _ _ a))
opened_goes (b ∷ t) h q s fit few numbered a =
    let f = fit.0 in
    let g1 : Goes s 1 (puts 1 b) (made 1 b phases.Filling q) None h = puts_go 1 q h (omega arith) (omega arith) b [] s f.keys f.few f.small f.index_small a in
    let s1 = ran (puts 1 b) s in
    let g2 : Goes s1 1 (sealing 1) (made 1 b phases.Sealed q) None h = sealing_goes 1 b q h s1 (full_of b f.some) (omega arith) g1.at in
    let s2 = ran (sealing 1) s1 in
    let g3 : Goes s2 1 (listing 1) (made 1 [] phases.Filling (q + 1)) None (h ++ b ∷ []) = listing_goes 1 b q h s2 (omega arith) g2.at in
    let s3 = ran (listing 1) s2 in
    let long = length-append h (b ∷ []) in
    let r = opened_goes t (h ++ b ∷ []) (q + 1) s3 fit.1 (omega arith) (omega arith) g3.at in (
      r.0,
      subst (λ (g : List (List Pair)). Goes s 1 (opened (b ∷ t)) (made 1 [] phases.Filling r.0) None g) (append_assoc h (b ∷ []) t)
          (on s 1 (puts 1 b) (sealing 1 ++ (listing 1 ++ opened t)) _ _ _ _ _ _ g1
          (λ a1. on s1 1 (sealing 1) (listing 1 ++ opened t) _ _ _ _ _ _ g2 (λ a2. on s2 1 (listing 1) (opened t) _ _ _ _ _ _ g3 (λ a3. r.1)))),
    )

founded : IsTable [] [] (header [] ++ 0 ∷ [])
founded = record { gate = 0; tail = []; shut = omega arith; is = refl; short = omega arith; fit = tt; few = omega arith }

-- before the first step each writer has no pairs, and the number 1
at_first : (w : ℕ) → writer_of start w ≡ made w [] phases.Filling 1
at_first w = ap (λ r. made w [] phases.Filling (greatest_seq w (entries_or_none r) + 1)) (listed_table [] [] start.table.reads founded)

begins : At start 1 (made 1 [] phases.Filling 1) None []
begins = record { reached = record { steps = []; is = refl }; up = refl; sure = refl; owner = refl; history = refl; here = at_first 1 }

module _ (F : Type 0) (whole : List (List Pair)) (b : ℕ) where
  -- the lanes before their first steps
  lanes_ok : (s : World) (w : ℕ) (script : List (List Act)) (ends : List (List (End F))) → ((v : ℕ) → w ≤ v → writer_of s v ≡ made v [] phases.Filling 1) → 1 ≤ w → w + length script ≤ 65536 → LanesFit script → AllWalk (Unit {0}) whole b script ends → AllOk F whole s b w (lanes_of b script ends)
  lanes_ok s w [] ends first low high fit walks = tt
  lanes_ok s w (acts ∷ script) [] first low high fit walks = tt
  lanes_ok s w (acts ∷ script) (es ∷ ends) first low high fit walks =
      let few = fit.0 in (
        record {
          low = low;
          high = omega (arith, high);
          seq = 1;
          numbered = omega arith;
          here = first w (omega arith);
          count = 0;
          small = record { few = omega arith; bytes = omega arith; rows_are = omega arith };
          left = omega (arith, few);
          fit = fit.1;
          going = walks.0;
          told = λ is. absurd (cc is);
        },
        lanes_ok s (w + 1) script ends (λ v le. first v (omega (arith, le))) (omega (arith, low)) (omega (arith, high)) fit.2 walks.1,
      )

  lanes_late : (script : List (List Act)) (ends : List (List (End F))) → AllWalk (Unit {0}) whole b script ends → AllLate F whole b (lanes_of b script ends)
  lanes_late [] ends walks = tt
  lanes_late (acts ∷ script) [] walks = tt
  lanes_late (acts ∷ script) (es ∷ ends) walks = (late_walk F whole (beginning b) acts es walks.0, lanes_late script ends walks.1)

  lanes_nums : (script : List (List Act)) (ends : List (List (End F))) → all_nums F whole (lanes_of b script ends) ≡ map (λ r. r.0) (all_receipts b script ends)
  lanes_nums [] ends = refl
  lanes_nums (acts ∷ script) [] = refl
  lanes_nums (acts ∷ script) (es ∷ ends) = ap (λ (zs : List ℕ). nums F whole (beginning b) acts es ++ zs) (lanes_nums script ends) ∙ sym (map-append (λ (r : ℕ × List Pair). r.0) (receipts (beginning b) acts es) (all_receipts b script ends))

  -- the numbers of the flushes are behind the table before
  lanes_new : (script : List (List Act)) (ends : List (List (End F))) (z : ℕ) → AllWalk (Unit {0}) whole b script ends → IsIn (all_nums F whole (lanes_of b script ends)) z → b < z
  lanes_new [] ends z walks i = absurd i
  lanes_new (acts ∷ script) [] z walks i = absurd i
  lanes_new (acts ∷ script) (es ∷ ends) z walks i = go (λ j. lanes_new script ends z walks.1 j) (in_either (nums F whole (beginning b) acts es) (all_nums F whole (lanes_of b script ends)) z i)
    where
      go : (IsIn (all_nums F whole (lanes_of b script ends)) z → b < z) → IsIn (nums F whole (beginning b) acts es) z ⊎ IsIn (all_nums F whole (lanes_of b script ends)) z → b < z
      go rest (inl j) = nums_after F whole (beginning b) acts es z walks.0 j
      go rest (inr j) = rest j

front_of : (xs ys : List (List Pair)) → take (length xs) (xs ++ ys) ≡ xs
front_of [] ys = refl
front_of (x ∷ xs) ys = ap (λ (zs : List (List Pair)). x ∷ zs) (front_of xs ys)

pub every_session : (F : Type 0) → EverySessionIsARun F
every_session F before flushed script ends fits lanes few_lanes few legal =
    let whole : List (List Pair) = before ++ flushed in
    let b : ℕ = length before in
    let long : length whole ≡ b + length flushed = length-append before flushed in
    let o = opened_goes before [] 1 start fits (omega arith) (omega arith) begins in
    let s : World = ran (opened before) start in
    let at = o.1.at in
    let free : Free whole s b = record { reached = at.reached; up = at.up; sure = at.sure; owner = at.owner; history = subst (λ (h : List (List Pair)). s.history ≡ h) (sym (front_of before flushed)) at.history; within = omega (arith, long) } in
    let ls = lanes_of b script ends in
    let ok : AllOk F whole s b 2 ls = lanes_ok F whole b s 2 script ends (λ v le. o.1.others v (λ e. absurd (omega (arith, le, e))) ∙ at_first v) (omega arith) (omega (arith, few_lanes)) lanes legal.each in
    let left : AreLeft F whole b (all_nums F whole ls) = record {
      once = subst Differ (sym (lanes_nums F whole b script ends)) legal.once;
      new = λ z i. lanes_new F whole b script ends z legal.each i;
      all = λ z low high. subst (λ (zs : List ℕ). IsIn zs z) (sym (lanes_nums F whole b script ends)) (legal.all z low (omega (arith, high, long)));
    } in
    let c : Comes F whole s ls = come F whole few (size F whole ls) s b ls (omega arith) free ok (lanes_late F whole b script ends legal.each) left in
    record {
      order = c.order;
      all = c.all;
      takes = takes_more (opened before) (in_turns c.order s ls) start o.1.takes c.takes;
      history = subst (λ (t : World). t.history ≡ whole) (sym (ran_more (opened before) (in_turns c.order s ls) start)) c.history;
    }
