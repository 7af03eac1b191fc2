use Rattle.std.proofs.Common.{◌≡◌, drop}
use Rattle.std.specs.List.{list_all}
use Rattle.fd_schema.specs.Rules.{is_known}
use Rattle.fd_schema.specs.Seen.{seen_rule}
use Rattle.fd_schema.proofs.place.are_known.Given as goal

abbrev pub invariant-loop-i : goal.invariant-loop-i
invariant-loop-i l = list_all (is_known (seen_rule l.rule)) l.key ≡ list_all (is_known (seen_rule l.rule)) (drop l.i l.key)
