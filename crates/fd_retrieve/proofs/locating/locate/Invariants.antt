use Rattle.fd_retrieve.specs.Located.{AreLocatedBy}
use Rattle.fd_retrieve.proofs.locating.locate.Given as goal

abbrev pub invariant-loop-number : goal.invariant-loop-number
invariant-loop-number g l = AreLocatedBy l.opened l.places l.dealt.numbers.items l.number l.located.items
