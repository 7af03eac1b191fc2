use Rattle.std.proofs.Common.{◌≡◌, ◌+◌, suc, take, subst, arith}
use Rattle.fd_templates.specs.Widths.{AllRanges}
use Rattle.fd_templates.proofs.RangesAgain.{all_push}
use Rattle.fd_templates.proofs.interval.ranges_in_range.Goals as goal

pub loop-range-preserved : goal.loop-range-preserved
loop-range-preserved c =
    let next : suc c.loop-range.range-index ≡ c.loop-range.range-index + 1 = omega arith in
    subst (λ n. AllRanges (take n c.args.ranges.now)) next (all_push c.args.ranges.now c.loop-range.range-index _ c.loop-range-test.true c.loop-range.invariant c.range_in_range.ensures)
