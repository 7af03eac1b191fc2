use Rattle.std.proofs.Common.{◌≡◌, ◌*◌, ◌-◌, ◌∙◌, length, get_or, drop, arith}
use Rattle.fd_request.specs.Expansion.{expand}
use Rattle.fd_cubes.specs.Axes.{seen_axes}
use Rattle.fd_cubes.proofs.Finished.{count_start, count_step, step_within}
use Rattle.fd_cubes.proofs.cube.count_of.Goals as goal

pub loop-left-init : goal.loop-left-init
loop-left-init c = record { within = omega arith; so_far = count_start (length c.args.axes.now) c.args.axes.now (omega arith) }

pub overflow_mul-count : goal.overflow_mul-count
overflow_mul-count c =
    let e : c.loop-left.count * c.len-count.result ≡ length (expand (seen_axes (drop (c.loop-left.left - 1) c.args.axes.now))) =
    count_step c.loop-left.left c.args.axes.now c.index-axes-left.result c.loop-left.count c.len-count.result c.loop-left-test.true c.loop-left.invariant.within c.loop-left.invariant.so_far (c.len-count.ensures ∙ (get_or c.args.axes.now (c.loop-left.left - 1) c.index-axes-left.result).values.ok.0) in
    omega (arith, e, step_within c.loop-left.left c.args.axes.now c.requires.filled c.requires.few)

pub loop-left-preserved : goal.loop-left-preserved
loop-left-preserved c = record {
  within = omega (arith, c.loop-left.invariant.within);
  so_far = count_step c.loop-left.left c.args.axes.now c.index-axes-left.result c.loop-left.count c.len-count.result c.loop-left-test.true c.loop-left.invariant.within c.loop-left.invariant.so_far (c.len-count.ensures ∙ (get_or c.args.axes.now (c.loop-left.left - 1) c.index-axes-left.result).values.ok.0);
}
