use Rattle.std.proofs.Common.{length}
use Rattle.fd_file_mem.proofs.plan.+is_planned.Given as goal

abbrev pub decreases-is_planned : goal.decreases-is_planned
decreases-is_planned l = length l.fails.now
