use Rattle.std.proofs.Common.{refl}
use Rattle.fd_templates.specs.Octets.{octets_of}
use Rattle.fd_templates.specs.Simple.{header_octets}
use Rattle.fd_templates.proofs.simple.header.Goals as goal

pub returns : goal.returns
unfolding octets_of header_octets
returns c =
    rw (c.to_be_bytes-coded.ensures) refl
