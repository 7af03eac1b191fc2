use Rattle.std.proofs.Common.{◌≡◌, refl, ◌%◌, arith}
use Rattle.fd_templates.specs.Octets.{octets_of}
use Rattle.fd_templates.specs.Grid.{step_octets}
use Rattle.fd_templates.proofs.grid.steps.Goals as goal

pub returns : goal.returns
unfolding octets_of step_octets
returns c =
    let o1 : c.args.grid.scanning_mode % 256 ≡ c.args.grid.scanning_mode = omega arith in
    rw (c.to_be_bytes-along.ensures, c.to_be_bytes-across.ensures, o1) refl
