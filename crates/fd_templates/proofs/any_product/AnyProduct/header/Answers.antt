use Rattle.std.proofs.Common.{refl}
use Rattle.fd_templates.specs.Octets.{octets_of}
use Rattle.fd_templates.specs.AnyProduct.{header_octets}
use Rattle.fd_templates.proofs.any_product.AnyProduct.header.Goals as goal

pub returns : goal.returns
unfolding octets_of header_octets
returns c = rw (c.to_be_bytes-length.ensures, c.to_be_bytes-coordinates.ensures, c.to_be_bytes-template.ensures, c.added.ensures.length, c.template.ensures) refl
