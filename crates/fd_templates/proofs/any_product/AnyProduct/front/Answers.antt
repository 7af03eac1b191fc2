use Rattle.std.proofs.Common.{refl}
use Rattle.fd_templates.specs.Octets.{octets_of, signed_octets, signed_or_ones}
use Rattle.fd_templates.specs.Product.{process_octets, time_octets, surface_octets}
use Rattle.fd_templates.specs.AnyProduct.{header_octets}
use Rattle.fd_templates.proofs.any_product.AnyProduct.front.Goals as goal

pub returns : goal.returns
unfolding octets_of signed_octets signed_or_ones header_octets process_octets time_octets surface_octets
returns c =
    rw (c.copy_from_slice-4.ensures.after, c.surfaces.ensures, c.copy_from_slice-3.ensures.after, c.time.ensures, c.copy_from_slice-2.ensures.after, c.process.ensures, c.copy_from_slice.ensures.after, c.header.ensures) refl
