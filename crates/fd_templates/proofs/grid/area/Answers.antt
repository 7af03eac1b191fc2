use Rattle.std.proofs.Common.{◌≡◌, refl, ◌%◌, arith}
use Rattle.fd_templates.specs.Octets.{octets_of, signed_octets}
use Rattle.fd_templates.specs.Grid.{area_octets}
use Rattle.fd_templates.proofs.grid.area.Goals as goal

pub returns : goal.returns
unfolding octets_of signed_octets area_octets
returns c =
    let o1 : c.args.grid.resolution_flags % 256 ≡ c.args.grid.resolution_flags = omega arith in
    rw (c.i32_octets-la1.ensures, c.i32_octets-lo1.ensures, c.i32_octets-la2.ensures, c.i32_octets-lo2.ensures, o1) refl
