use Rattle.std.proofs.Common.{◌≡◌, ◌≤◌, ◌-◌, ◌*◌, ◌++◌, length}
use Rattle.fd_templates.specs.Interval.{ranges_of}
use Rattle.fd_templates.proofs.interval.ranges_of.Given as goal

abbrev pub invariant-loop-i : goal.invariant-loop-i
invariant-loop-i l = record {
  read : l.items.items ++ ranges_of (l.count - l._i) l.rest ≡ ranges_of l.count l.octets;
  left : 12 * (l.count - l._i) ≤ length l.rest;
  count : length l.items.items ≡ l._i;
}
