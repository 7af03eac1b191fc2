use Rattle.std.proofs.Common.{refl}
use Rattle.fd_templates.specs.Octets.{octets_of, signed_octets, octets_or_ones, signed_or_ones}
use Rattle.fd_templates.specs.Grid.{grid_octets, header_octets, earth_octets, size_octets, area_octets, step_octets}
use Rattle.fd_templates.proofs.grid.section.Goals as goal

pub returns : goal.returns
unfolding octets_of signed_octets octets_or_ones signed_or_ones grid_octets header_octets earth_octets size_octets area_octets step_octets
returns c =
    rw (c.copy_from_slice-5.ensures.after, c.steps.ensures, c.copy_from_slice-4.ensures.after, c.area.ensures, c.copy_from_slice-3.ensures.after, c.size.ensures, c.copy_from_slice-2.ensures.after, c.earth.ensures, c.copy_from_slice.ensures.after, c.header.ensures) refl
