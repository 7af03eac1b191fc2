use Rattle.std.proofs.Common.{refl}
use Rattle.fd_templates.specs.Octets.{octets_of, octets_or_ones}
use Rattle.fd_templates.specs.Grid.{size_octets}
use Rattle.fd_templates.proofs.grid.size.Goals as goal

pub returns : goal.returns
unfolding octets_of octets_or_ones size_octets
returns c =
    rw (c.copy_from_slice-4.ensures.after, c.u32_or_ones.ensures, c.copy_from_slice-3.ensures.after, c.to_be_bytes-3.ensures, c.copy_from_slice-2.ensures.after, c.to_be_bytes-2.ensures, c.copy_from_slice.ensures.after, c.to_be_bytes.ensures) refl
