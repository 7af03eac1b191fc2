use Rattle.std.proofs.Common.{◌≡◌, ◌++◌, drop, false}
use Rattle.fd_schema.specs.Plain.{plain}
use Rattle.fd_schema.proofs.plain.plain.Given as goal

abbrev pub invariant-loop-b : goal.invariant-loop-b
invariant-loop-b l = l.out.items ++ plain l.inside (drop l.b-index l.text) ≡ plain false l.text
