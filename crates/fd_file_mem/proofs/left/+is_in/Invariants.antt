use Rattle.std.proofs.Common.{length}
use Rattle.fd_file_mem.proofs.left.+is_in.Given as goal

abbrev pub decreases-is_in : goal.decreases-is_in
decreases-is_in l = length l.ranges.now
