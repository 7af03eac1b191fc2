use Rattle.std.proofs.Common.{All, subst, sym}
use Rattle.std.proofs.lemmas.List.Elements.{All-nil}
use Rattle.fd_ahead.specs.Reading.{IsRead}
use Rattle.fd_ahead.proofs.stock.Stock+OpenSegments+F+Z+F.refill.Goals as goal

pub returns-clause-stock : goal.returns-clause-stock
returns-clause-stock g c = λ os jobs stock.
    let both = c.take_over.ensures.both os jobs (subst (All (IsRead os)) (sym c.clear.ensures.items) (All-nil (IsRead os))) in
    (both.0, record { segments = stock.segments; ready = both.1 })
