use Rattle.std.proofs.Common.{refl}
use Rattle.fd_templates.specs.Octets.{signed_or_ones}
use Rattle.fd_templates.proofs.grid.scaled.Goals as goal

pub returns : goal.returns
unfolding signed_or_ones
returns c =
    rw (c.i8_or_ones-factor.ensures, c.i32_or_ones-value.ensures) refl
