use Rattle.std.proofs.Common.{◌-◌, length}
use Rattle.fd_schema.proofs.grammar.+rules_of.Given as goal

abbrev pub decreases-rules_of : goal.decreases-rules_of
decreases-rules_of l = 256 - length l.before.items
