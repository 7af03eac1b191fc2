use Rattle.std.proofs.Common.{◌≡◌, ◌++◌, drop}
use Rattle.fd_templates.specs.Interval.{ranges_octets}
use Rattle.fd_templates.specs.AnyProduct.{Extends}
use Rattle.fd_templates.proofs.interval.push_ranges.Given as goal

abbrev pub invariant-loop-range : goal.invariant-loop-range
invariant-loop-range l = record {
  pushed : l.out.items ++ ranges_octets (drop l.range-index l.ranges) ≡ l.initial.out.items ++ ranges_octets l.ranges;
  kept : Extends l.initial.out.items l.out.items;
}
