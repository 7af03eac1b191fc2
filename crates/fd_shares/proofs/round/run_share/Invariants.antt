use Rattle.fd_shares.specs.Sharing.{Sharing}
use Rattle.fd_shares.proofs.round.run_share.Given as goal

abbrev pub invariant-loop-at : goal.invariant-loop-at
invariant-loop-at g l = Sharing g.H.Shelf.kept l.datasets l.worker l.parcels l.at l.fn.job l.job
