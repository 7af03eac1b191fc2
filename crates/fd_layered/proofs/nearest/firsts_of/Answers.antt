use Rattle.std.proofs.Common.{arith}
use Rattle.fd_layered.proofs.NearestLemmas.{firsts_more}
use Rattle.fd_layered.proofs.nearest.firsts_of.Goals as goal

pub loop-i-preserved : goal.loop-i-preserved
loop-i-preserved c =
    firsts_more c.args.width c.loop-i._i c.args.count c.min.result c.args.located.now c.loop-i.rest.now c.split_at.result.0.now c.split_at.result.1.now c.loop-i.all.items c.push.new.self.items c.first_of.result
    (omega (arith, c.loop-i-test.true)) c.min.ensures c.split_at.ensures.front c.split_at.ensures.back c.first_of.ensures c.in_ok-push.ensures.items c.loop-i.invariant
