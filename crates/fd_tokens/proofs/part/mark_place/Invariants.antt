use Rattle.std.proofs.Common.{◌≡◌, ◌+◌, drop}
use Rattle.fd_tokens.specs.Tokens.{views, mark_place}
use Rattle.fd_tokens.proofs.part.mark_place.Given as goal

abbrev pub invariant-loop-i : goal.invariant-loop-i
invariant-loop-i l = mark_place l.mark (views l.tokens) ≡ l.i + mark_place l.mark (views (drop l.i l.tokens))
