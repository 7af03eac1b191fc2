use Rattle.std.proofs.Common.{◌≡◌, ◌+◌, drop, length}
use Rattle.fd_key.specs.Pairs.{rest_text}
use Rattle.fd_key.proofs.key.Key.text_fits.Given as goal

abbrev pub invariant-loop-i : goal.invariant-loop-i
invariant-loop-i l = length (rest_text l.self) + l.room ≡ l.most + 1 + length (rest_text (drop l.i l.self))
