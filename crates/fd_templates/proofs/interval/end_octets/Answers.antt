use Rattle.std.proofs.Common.{◌≡◌, refl, ap, ◌%◌, length, arith}
use Rattle.fd_templates.specs.Octets.{octets_of}
use Rattle.fd_templates.specs.DateTime.{date_time_octets}
use Rattle.fd_templates.specs.Interval.{end_octets}
use Rattle.fd_templates.proofs.interval.end_octets.Goals as goal

pub overflow_cast-count : goal.overflow_cast-count
overflow_cast-count c = omega (arith, c.as_slice.ensures.few, ap length c.as_slice.ensures.ranges)

pub returns : goal.returns
unfolding octets_of date_time_octets end_octets
returns c =
    let i = c.args.interval.now in
    let f = c.in_range.ensures in
    let few : length i.ranges % 256 ≡ length i.ranges = omega (arith, f.few) in
    rw (c.date_time_octets-end.ensures, c.to_be_bytes-missing.ensures, few, c.as_slice.ensures.ranges) refl
