use Rattle.std.proofs.Common.{◌≡◌, ◌+◌, drop}
use Rattle.fd_schema.specs.Grammar.{bracket_place}
use Rattle.fd_tokens.specs.Tokens.{views}
use Rattle.fd_schema.proofs.items.bracket_place.Given as goal

abbrev pub invariant-loop-i : goal.invariant-loop-i
invariant-loop-i l = bracket_place (views l.tokens) ≡ l.i + bracket_place (views (drop l.i l.tokens))
