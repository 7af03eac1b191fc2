use Rattle.std.proofs.Common.{◌≡◌, drop}
use Rattle.fd_schema.specs.Rules.{place_from}
use Rattle.fd_schema.specs.Seen.{seen_rules}
use Rattle.fd_schema.proofs.place.place_of.Given as goal

abbrev pub invariant-loop-i : goal.invariant-loop-i
invariant-loop-i l = place_from 0 (seen_rules l.rules) l.key ≡ place_from l.i (seen_rules (drop l.i l.rules)) l.key
