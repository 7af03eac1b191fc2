use Rattle.std.proofs.Common.{length}
use Rattle.fd_file_mem.proofs.plan.+copy_all.Given as goal

abbrev pub decreases-copy_all : goal.decreases-copy_all
decreases-copy_all l = length l.items.now
