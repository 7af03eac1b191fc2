use Rattle.std.proofs.Common.{◌≡◌, ◌++◌, replicate}
use Rattle.fd_spelling.proofs.levels.push_zeros.Given as goal

abbrev pub invariant-loop-i : goal.invariant-loop-i
invariant-loop-i l = l.out.bytes ≡ l.initial.out.bytes ++ replicate l._i 48
