use Rattle.std.proofs.Common.{IfSome, subst}
use Rattle.std.proofs.lemmas.List.Elements.{All-pop}
use Rattle.fd_ahead.specs.Reading.{IsRead}
use Rattle.fd_ahead.proofs.stock.take_last.Goals as goal

pub returns-in-Some : goal.returns-in-Some
returns-in-Some g c = λ os read ready.
    let was = All-pop (IsRead os) c.args.read.now.items c.pop.new.self.items c.pop.result c.pop.ensures.items read in
    (was.0, c.keep.ensures os ready (subst (λ r. IfSome r (IsRead os)) c.in-Some.is was.1))
