use Rattle.std.proofs.Common.{◌≡◌, refl, ◌%◌, arith}
use Rattle.fd_templates.specs.Octets.{octets_of}
use Rattle.fd_templates.specs.DateTime.{date_time_octets}
use Rattle.fd_templates.proofs.date_time.date_time_octets.Goals as goal

pub returns : goal.returns
unfolding octets_of date_time_octets
returns c =
    let o1 : c.args.time.month % 256 ≡ c.args.time.month = omega arith in
    let o2 : c.args.time.day % 256 ≡ c.args.time.day = omega arith in
    let o3 : c.args.time.hour % 256 ≡ c.args.time.hour = omega arith in
    let o4 : c.args.time.minute % 256 ≡ c.args.time.minute = omega arith in
    let o5 : c.args.time.second % 256 ≡ c.args.time.second = omega arith in
    rw (c.to_be_bytes-year.ensures, o1, o2, o3, o4, o5) refl
