use Rattle.std.proofs.Common.{◌≡◌, ◌*◌, ◌^◌, ◌<◌}
use Rattle.fd_scaled.proofs.rounding.times_power.Given as goal

abbrev pub invariant-loop : goal.invariant-loop
invariant-loop l = (l.product ≡ l.x * l.base ^ l.counter) × (l.product < l.limit)
