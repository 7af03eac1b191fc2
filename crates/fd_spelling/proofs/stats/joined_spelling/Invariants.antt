use Rattle.std.proofs.Common.{◌≡◌, length, string_bytes}
use Rattle.fd_spelling.specs.Pieces.{pieces}
use Rattle.fd_spelling.specs.Stats.{parts_spelled, joined_spelling}
use Rattle.fd_spelling.proofs.StatLaws.{behind}
use Rattle.fd_spelling.proofs.stats.joined_spelling.Given as goal

abbrev pub invariant-parts : goal.invariant-parts
invariant-parts l = behind (string_bytes l.out) l.first (parts_spelled (pieces 43 l.rest)) ≡ joined_spelling l.text

abbrev pub decreases-parts : goal.decreases-parts
decreases-parts l = length l.rest
