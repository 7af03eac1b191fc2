use Rattle.std.proofs.Common.{◌≡◌, ◌≤◌, ◌-◌, ◌+◌, length, drop}
use Rattle.fd_tokens.specs.Tokens.{view, views, parts}
use Rattle.fd_schema.specs.Grammar.{each_of, value_in, values_of}
use Rattle.fd_spelling.specs.Texts.{texts}
use Rattle.fd_schema.proofs.values.values.Given as goal

abbrev pub invariant-parts : goal.invariant-parts
invariant-parts l = (l.from ≤ length l.tokens) × (each_of (value_in l.version l.name) (texts l.values.items) (parts 47 (view l.stop) (views (drop l.from l.tokens))) ≡ values_of l.version l.name (view l.stop) (views l.tokens))

abbrev pub decreases-parts : goal.decreases-parts
decreases-parts l = (length l.tokens + 1) - l.from
