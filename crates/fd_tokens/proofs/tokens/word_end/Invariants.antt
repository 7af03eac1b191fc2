use Rattle.std.proofs.Common.{◌≡◌, ◌+◌, drop}
use Rattle.fd_tokens.specs.Tokens.{word_len}
use Rattle.fd_tokens.proofs.tokens.word_end.Given as goal

abbrev pub invariant-loop-i : goal.invariant-loop-i
invariant-loop-i l = word_len l.marks l.text ≡ l.i + word_len l.marks (drop l.i l.text)
