use Rattle.std.proofs.Common.{List, ℕ, [], sym, subst}
use Rattle.fd_key.specs.Spans.{AreKept, Entry}
use Rattle.fd_key.proofs.SpanLaws.{none_kept}
use Rattle.fd_key.proofs.key.Key.clear.Goals as goal

pub invariant_of-self : goal.invariant_of-self
invariant_of-self c =
    subst (λ (v : List ℕ). AreKept v c.clear-2.new.self.entries) (sym c.clear.ensures.bytes) (subst (λ (fs : List Entry). AreKept [] fs) (sym c.clear-2.ensures.empty) none_kept)
