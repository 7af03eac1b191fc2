-- A store that tells nothing of its files has a clock that stands still.
use Rattle.std.specs.Prelude.{◌≤◌}
use Rattle.std.proofs.Common.{arith}

pub still : 0 ≤ 0
still = omega arith
