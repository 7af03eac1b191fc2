use Rattle.std.proofs.Common.{◌≡◌, ◌++◌, codes, replicate}
use Rattle.fd_machine.proofs.state.founded.Given as goal

abbrev pub invariant-loop-zero : goal.invariant-loop-zero
invariant-loop-zero l = (l.bytes ≡ codes "FDTOC001" ++ replicate l._zero 0)
