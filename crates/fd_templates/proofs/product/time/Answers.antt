use Rattle.std.proofs.Common.{◌≡◌, refl, ◌%◌, arith}
use Rattle.fd_templates.specs.Octets.{octets_of, signed_octets}
use Rattle.fd_templates.specs.Product.{time_octets}
use Rattle.fd_templates.proofs.product.time.Goals as goal

pub returns : goal.returns
unfolding octets_of signed_octets time_octets
returns c =
    let o1 : c.args.product.cutoff_minutes % 256 ≡ c.args.product.cutoff_minutes = omega arith in
    let o2 : c.args.product.time_unit % 256 ≡ c.args.product.time_unit = omega arith in
    rw (c.to_be_bytes-hours.ensures, c.i32_octets-forecast.ensures, o1, o2) refl
