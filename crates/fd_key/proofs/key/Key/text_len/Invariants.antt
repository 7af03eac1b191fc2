use Rattle.std.proofs.Common.{◌≡◌, ◌+◌, drop, length}
use Rattle.fd_key.specs.Pairs.{rest_text}
use Rattle.fd_key.proofs.key.Key.text_len.Given as goal

abbrev pub invariant-loop-i : goal.invariant-loop-i
invariant-loop-i l = l.len + length (rest_text (drop l.i l.self)) ≡ length (rest_text l.self)
