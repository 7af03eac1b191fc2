use Rattle.std.proofs.Common.{rules, ◌≡◌, ◌∙◌, ◌∷◌, [], Err, ap, length, arith}
use Rattle.std.proofs.lemmas.List.{length-append}
use Rattle.fd_retrieve.proofs.asking.seats_of.Goals as goal

pub loop-number-preserved : goal.loop-number-preserved
loop-number-preserved g c =
    let old = c.loop-number.seats.items in
    let l = c.loop-number.invariant.long in
    record { long = ap length c.in_ok-push.ensures.items ∙ length-append old _ ∙ omega (arith, l) }
