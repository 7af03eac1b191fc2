use Rattle.fd_shares.specs.Sharing.{Listing}
use Rattle.fd_shares.proofs.round.list_share.Given as goal

abbrev pub invariant-loop-n : goal.invariant-loop-n
invariant-loop-n g l = Listing g.H.Shelf.kept l.datasets l.n l.fn.job l.job
