use Rattle.std.proofs.Common.{◌≤◌, ◌*◌}
use Rattle.fd_opening_tests.proofs.pages.fill.Given as goal

abbrev pub invariant-loop-i : goal.invariant-loop-i
invariant-loop-i g l = l.draft.end ≤ 33 * l.i
