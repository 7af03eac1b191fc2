use Rattle.std.proofs.Common.{◌≡◌, ◌++◌, ◌-◌}
use Rattle.std.specs.String.{string_bytes}
use Rattle.fd_scaled.specs.Decimal.{last_digits}
use Rattle.fd_scaled.proofs.decimals.push_digits.Given as goal

abbrev pub invariant-loop-i : goal.invariant-loop-i
invariant-loop-i l = string_bytes l.out ++ last_digits (l.d - l.i) l.r ≡ string_bytes l.fn.out ++ last_digits l.d l.r
