use Rattle.std.proofs.Common.{refl}
use Rattle.fd_templates.specs.Octets.{octets_of, signed_octets}
use Rattle.fd_templates.specs.Simple.{simple_octets, header_octets, packing_octets}
use Rattle.fd_templates.proofs.simple.section.Goals as goal

pub returns : goal.returns
unfolding octets_of signed_octets simple_octets header_octets packing_octets
returns c =
    rw (c.copy_from_slice-2.ensures.after, c.packing.ensures, c.copy_from_slice.ensures.after, c.header.ensures) refl
