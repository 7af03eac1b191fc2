use Rattle.std.proofs.Common.{◌≡◌}
use Rattle.fd_machine.specs.Machine.{fetched}
use Rattle.fd_core.proofs.fetch_step.newest_of.Given as goal

abbrev pub invariant-loop-i : goal.invariant-loop-i
invariant-loop-i l = (fetched l.state l.count l.key ≡ fetched l.state l.i l.key)
