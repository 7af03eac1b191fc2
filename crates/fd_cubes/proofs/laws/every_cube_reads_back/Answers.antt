use Rattle.fd_cubes.proofs.ReadsBack.{reads_back}
use Rattle.fd_cubes.proofs.laws.every_cube_reads_back.Goals as goal

pub returns : goal.returns
returns c = reads_back
