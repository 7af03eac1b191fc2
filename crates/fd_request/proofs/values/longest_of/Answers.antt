use Rattle.std.proofs.Common.{arith}
use Rattle.fd_request.proofs.RangeLaws.{longest_more, longest_none}
use Rattle.fd_request.proofs.values.longest_of.Goals as goal

pub loop-text-preserved : goal.loop-text-preserved
loop-text-preserved c =
    omega (arith, c.loop-text.invariant, longest_more c.args.values.now c.loop-text.text-index c.text-item.result c.loop-text-test.true c.text-item.is, c.larger-longest.ensures, c.len.ensures)

pub returns : goal.returns
returns c = omega (arith, c.loop-text.invariant, longest_none c.args.values.now c.loop-text.text-index c.loop-text-test.false)
