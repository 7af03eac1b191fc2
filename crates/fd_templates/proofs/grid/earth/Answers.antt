use Rattle.std.proofs.Common.{◌≡◌, refl, ◌%◌, arith}
use Rattle.fd_templates.specs.Octets.{octets_of, signed_or_ones}
use Rattle.fd_templates.specs.Grid.{earth_octets}
use Rattle.fd_templates.proofs.grid.earth.Goals as goal

pub returns : goal.returns
unfolding octets_of signed_or_ones earth_octets
returns c =
    let o1 : c.args.grid.earth_shape % 256 ≡ c.args.grid.earth_shape = omega arith in
    rw (c.scaled-radius.ensures, c.scaled-major.ensures, c.scaled-minor.ensures, o1) refl
