use Rattle.std.proofs.Common.{◌≡◌, List, ℕ, false}
use Rattle.fd_cases.proofs.cases.Runner.all_end_so.Given as goal

abbrev pub invariant-loop-row : goal.invariant-loop-row
invariant-loop-row g l = (n : List ℕ) → g.S.Store.out l.store n ≡ false
