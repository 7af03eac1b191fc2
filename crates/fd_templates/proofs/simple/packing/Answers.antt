use Rattle.std.proofs.Common.{◌≡◌, refl, ◌%◌, arith}
use Rattle.fd_templates.specs.Octets.{octets_of, signed_octets}
use Rattle.fd_templates.specs.Simple.{packing_octets}
use Rattle.fd_templates.proofs.simple.packing.Goals as goal

pub returns : goal.returns
unfolding octets_of signed_octets packing_octets
returns c =
    let o1 : c.args.simple.bits % 256 ≡ c.args.simple.bits = omega arith in
    let o2 : c.args.simple.original_type % 256 ≡ c.args.simple.original_type = omega arith in
    rw (c.to_be_bytes-reference.ensures, c.i16_octets-binary.ensures, c.i16_octets-decimal.ensures, o1, o2) refl
