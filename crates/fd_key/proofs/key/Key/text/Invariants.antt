use Rattle.std.proofs.Common.{◌≡◌, ◌++◌, drop, string_bytes}
use Rattle.fd_key.specs.Pairs.{rest_text, key_text}
use Rattle.fd_key.proofs.key.Key.text.Given as goal

abbrev pub invariant-loop-i : goal.invariant-loop-i
invariant-loop-i l = string_bytes l.out ++ rest_text (drop l.i l.self) ≡ key_text l.self
