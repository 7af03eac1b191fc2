use Rattle.std.proofs.Common.{arith}
use Rattle.fd_templates.proofs.SectionsAgain.{latlon_again, latlon_section, LatLonRanges}
use Rattle.fd_templates.proofs.grid.reads_again.Goals as goal

pub returns-clause-section : goal.returns-clause-section
returns-clause-section c = latlon_section c.args.grid

pub returns-clause-again : goal.returns-clause-again
returns-clause-again c =
    let r : LatLonRanges c.args.grid = record { points = omega arith; earth_shape = omega arith; ni = omega arith; nj = omega arith; basic_angle = omega arith; resolution_flags = omega arith; di = omega arith; dj = omega arith; scanning_mode = omega arith } in
    latlon_again c.args.grid c.requires r
