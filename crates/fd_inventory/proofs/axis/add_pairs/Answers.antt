use Rattle.std.proofs.Common.{◌∙◌, ◌-◌, arith, ap, sym}
use Rattle.fd_inventory.specs.Axes.{put_pair, put_pairs, seen_names}
use Rattle.fd_inventory.proofs.Batches.{stands}
use Rattle.fd_inventory.proofs.axis.add_pairs.Goals as goal

pub loop-left-preserved : goal.loop-left-preserved
loop-left-preserved c =
    let n = c.loop-left.left - 1 in
    let s = stands c.args.pairs.now n c.loop-left.left (c.pair.result.0.now, c.pair.result.1.now) (omega (arith, c.loop-left-test.true)) c.pair.ensures in
    record {
      few = omega (arith, c.loop-left.invariant.few);
      names = c.in_ok-add_pair.ensures ∙ ap (put_pair c.pair.result.0.now c.pair.result.1.now) c.loop-left.invariant.names ∙ ap (λ l. put_pairs l (seen_names c.args.names.now.entries)) (sym s.rest);
    }
