use Rattle.std.proofs.Common.{length}
use Rattle.fd_file_mem.proofs.plan.+gather.Given as goal

abbrev pub decreases-gather : goal.decreases-gather
decreases-gather l = length l.items.now
