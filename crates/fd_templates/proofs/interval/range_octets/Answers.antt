use Rattle.std.proofs.Common.{◌≡◌, refl, ◌%◌, arith}
use Rattle.fd_templates.specs.Octets.{octets_of}
use Rattle.fd_templates.specs.Interval.{range_octets}
use Rattle.fd_templates.proofs.interval.range_octets.Goals as goal

pub returns : goal.returns
unfolding octets_of range_octets
returns c =
    let o1 : c.args.range.process % 256 ≡ c.args.range.process = omega arith in
    let o2 : c.args.range.increment_kind % 256 ≡ c.args.range.increment_kind = omega arith in
    let o3 : c.args.range.unit % 256 ≡ c.args.range.unit = omega arith in
    let o4 : c.args.range.increment_unit % 256 ≡ c.args.range.increment_unit = omega arith in
    rw (c.to_be_bytes-length.ensures, c.to_be_bytes-increment.ensures, o1, o2, o3, o4) refl
