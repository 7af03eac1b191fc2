use Rattle.std.proofs.Common.{◌≡◌, ◌++◌, drop, string_bytes}
use Rattle.fd_schema.specs.Seen.{seen_rules}
use Rattle.fd_schema.specs.Printed.{rules_text}
use Rattle.fd_schema.proofs.printed.push_rules.Given as goal

abbrev pub invariant-loop-rule : goal.invariant-loop-rule
invariant-loop-rule l = string_bytes l.out ++ rules_text (seen_rules (drop l.rule-index l.rules)) ≡ string_bytes l.initial.out ++ rules_text (seen_rules l.rules)
