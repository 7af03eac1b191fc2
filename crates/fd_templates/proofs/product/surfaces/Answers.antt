use Rattle.std.proofs.Common.{◌≡◌, refl, ◌%◌, arith}
use Rattle.fd_templates.specs.Octets.{octets_of, signed_or_ones}
use Rattle.fd_templates.specs.Product.{surface_octets}
use Rattle.fd_templates.proofs.product.surfaces.Goals as goal

pub returns : goal.returns
unfolding octets_of signed_or_ones surface_octets
returns c =
    let o1 : c.args.product.first_surface_type % 256 ≡ c.args.product.first_surface_type = omega arith in
    let o2 : c.args.product.second_surface_type % 256 ≡ c.args.product.second_surface_type = omega arith in
    rw (c.i8_or_ones-first_factor.ensures, c.i32_or_ones-first.ensures, c.i8_or_ones-second_factor.ensures, c.i32_or_ones-second.ensures, o1, o2) refl
