use Rattle.std.proofs.Common.{rules, ◌≡◌, sym, subst, Err, IfErr}
use Rattle.std.specs.Arc.{arc_value}
use Rattle.fd_dataset.specs.Listed.{listing}
use Rattle.fd_dataset.specs.Causes as lists
use Rattle.fd_archiver.specs.Causes.{LeavesDoubts, flush_fault}
use Rattle.fd_archiver.proofs.Listing.{doubt_waits}
use Rattle.fd_archiver.proofs.archiver.Archiver.list_kept.Goals as goal

pub returns-in_err-receipt-clause-doubts : goal.returns-in_err-receipt-clause-doubts
returns-in_err-receipt-clause-doubts g c =
    let fault = c.in_err-receipt.field-0.0 in
    let before = c.args.pass.now.seat.me.0.doubts in
    let after = c.list.new.pass.seat.me.0.doubts in
    let told : lists.LeavesDoubts (listing (arc_value c.in-Ok.segment)) before after fault = search rules in
    let given : c.from_residual.result ≡ Err (flush_fault fault) = search rules in
    subst (λ r. IfErr r (LeavesDoubts c.args.self.now.unlisted before after)) (sym given)
    (doubt_waits c.args.self.now.unlisted c.in-Kept.kept.value (arc_value c.in-Ok.segment) before after fault (search rules) (search rules) told)
