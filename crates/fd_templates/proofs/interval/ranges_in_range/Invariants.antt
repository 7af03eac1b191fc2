use Rattle.std.proofs.Common.{take}
use Rattle.fd_templates.specs.Widths.{AllRanges}
use Rattle.fd_templates.proofs.interval.ranges_in_range.Given as goal

abbrev pub invariant-loop-range : goal.invariant-loop-range
invariant-loop-range l = AllRanges (take l.range-index l.ranges)
