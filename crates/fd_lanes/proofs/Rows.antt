-- The worked runs.
use Rattle.std.proofs.Common.{◌≡◌, ◌<◌, ◌≤◌, ◌+◌, ℕ, zero, suc, List, [], ◌∷◌, refl, ap, arith, ◌⊎◌, inl, inr, Option, Some, None}
use Rattle.fd_entries.specs.declared.batch.Pair.{Pair}
use Rattle.std.specs.Prelude.{slice_index}
use mathlib.Core.Logic.{dite}
use native.Mathlib.Decide.{ℕ_discrete}
use Rattle.fd_numbers.specs.Numbers.{IsIn}
use Rattle.fd_lanes.specs.Rows.{OneLane, TwoLanes, OneReads, OneFails, SeesLess, OtherOrder, ListsTwice, TakesThenWaits, WaitsThenTakes, WorkedRuns}

one_only : (n : ℕ) → 0 < n → n ≤ 1 → IsIn (1 ∷ []) n
one_only n low high = inl (omega arith)

two_one : (n : ℕ) → 0 < n → n ≤ 2 → IsIn (2 ∷ 1 ∷ []) n
two_one n low high = dite (ℕ_discrete 2 n) (λ e. inl e) (λ not. inr (inl (omega (arith, not))))

one_two : (n : ℕ) → 0 < n → n ≤ 2 → IsIn (1 ∷ 2 ∷ []) n
one_two n low high = dite (ℕ_discrete 1 n) (λ e. inl e) (λ not. inr (inl (omega (arith, not))))

not_after : (m n : ℕ) → m < n → IsIn (n ∷ []) m → ⊥
not_after m n lt (inl e) = absurd (omega arith)
not_after m n lt (inr e) = e

not_before : (m n : ℕ) → n < m → IsIn (n ∷ []) m → ⊥
not_before m n lt (inl e) = absurd (omega arith)
not_before m n lt (inr e) = e

-- the third byte of the first pair's key
abbrev mark : Option (List Pair) → ℕ
mark None = 0
mark (Some []) = 0
mark (Some (p ∷ ps)) = slice_index p.key 2

one_lane : OneLane
one_lane = record {
  each = (((λ e. cc e), ((omega arith, (omega arith, refl)), (((λ e. cc e), omega arith, refl), ((omega arith, (omega arith, refl)), tt)))), tt);
  once = ((λ i. i), tt);
  all = one_only;
}

two_lanes : TwoLanes
two_lanes = record {
  each = (((λ e. cc e), ((omega arith, (omega arith, refl)), (((λ e. cc e), omega arith, refl), tt))), (((λ e. cc e), (((λ e. cc e), omega arith, refl), ((omega arith, (omega arith, refl)), tt))), tt));
  once = (not_before 2 1 (omega arith), ((λ i. i), tt));
  all = two_one;
}

one_reads : OneReads
one_reads = record {
  each = (((λ e. cc e), (((λ e. cc e), omega arith, refl), ((λ e. cc e), (((λ e. cc e), omega arith, refl), tt)))), (((omega arith, (omega arith, refl)), ((omega arith, (omega arith, refl)), ((omega arith, (omega arith, refl)), tt))), tt));
  once = (not_after 1 2 (omega arith), ((λ i. i), tt));
  all = one_two;
}

one_fails : OneFails
one_fails = record {
  each = (((λ e. cc e), ((λ e. cc e), (((λ e. cc e), omega arith, refl), tt))), (((λ e. cc e), (((λ e. cc e), omega arith, refl), tt)), tt));
  once = (not_before 2 1 (omega arith), ((λ i. i), tt));
  all = two_one;
}

sees_less : SeesLess
sees_less h = absurd (omega (arith, h.each.1.0.1.0))

other_order : OtherOrder
other_order h = let e : 98 ≡ 97 = ap mark h.each.0.1.0.2 in absurd (omega (arith, e))

lists_twice : ListsTwice
lists_twice h = not_before 2 1 (omega arith) (h.all 2 (omega arith) (omega arith))

takes_then_waits : TakesThenWaits
takes_then_waits h = h.each.0.1.1.1.0.1 refl

waits_then_takes : WaitsThenTakes
waits_then_takes h = h.each.0.1.1.1.0 refl

pub worked_runs : WorkedRuns
worked_runs = record {
  one_lane = one_lane;
  two_lanes = two_lanes;
  one_reads = one_reads;
  one_fails = one_fails;
  sees_less = sees_less;
  other_order = other_order;
  lists_twice = lists_twice;
  takes_then_waits = takes_then_waits;
  waits_then_takes = waits_then_takes;
}
