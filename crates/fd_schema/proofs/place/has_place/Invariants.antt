use Rattle.std.proofs.Common.{◌≡◌, drop}
use Rattle.std.specs.Prelude.{is_some}
use Rattle.fd_schema.specs.Rules.{place_from}
use Rattle.fd_schema.specs.Seen.{seen_rules}
use Rattle.fd_schema.proofs.place.has_place.Given as goal

abbrev pub invariant-loop-candidate : goal.invariant-loop-candidate
invariant-loop-candidate l = is_some (place_from 0 (seen_rules l.rules) l.key) ≡ is_some (place_from l.candidate-index (seen_rules (drop l.candidate-index l.rules)) l.key)
