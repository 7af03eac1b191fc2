use Rattle.std.proofs.Common.{rules, ap}
use Rattle.fd_dataset.specs.Causes.{DoubtsOne}
use Rattle.fd_dataset.proofs.Closing.{refused}
use Rattle.fd_dataset.proofs.dataset.Dataset.list.Goals as goal

pub returns-in-Err-clause-doubts : goal.returns-in-Err-clause-doubts
returns-in-Err-clause-doubts g c =
    let left : DoubtsOne c.args.segment c.lock-desk.result.doubted c.entered-desk.result.0.doubted c.in-Err.fault = search rules in
    refused _ c.lock-desk.new.pass.seat.me.0.lock c.lock-desk.result.doubted c.entered-desk.result.0.doubted c.args.segment _ _ _ c.in-Err.fault
    (ap (λ v. v.lock) c.lock-desk.ensures.view) c.unlock-in-Err.ensures.doubts left (ap (λ v. v.doubts) c.lock-desk.ensures.view)
