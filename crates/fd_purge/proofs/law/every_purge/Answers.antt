use Rattle.fd_purge.proofs.HeldLemmas.{purge_keeps, purged_holds, wipe_keeps}
use Rattle.fd_purge.proofs.KeptLemmas.{keeps_newest}
use Rattle.fd_purge.proofs.law.every_purge.Goals as goal

pub returns-clause-newest : goal.returns-clause-newest
returns-clause-newest c = keeps_newest

pub returns-clause-images : goal.returns-clause-images
returns-clause-images c = purge_keeps

pub returns-clause-purged : goal.returns-clause-purged
returns-clause-purged c = purged_holds

pub returns-clause-wiped : goal.returns-clause-wiped
returns-clause-wiped c = wipe_keeps
