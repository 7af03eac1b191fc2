use Rattle.std.specs.Prelude.{◌≡◌, vec_len}
use Rattle.fd_bulk.proofs.crew.put_away.Given as goal

abbrev pub decreases-loop-parcel : goal.decreases-loop-parcel
decreases-loop-parcel l = vec_len l.parcels

abbrev pub invariant-loop-parcel : goal.invariant-loop-parcel
invariant-loop-parcel l = record { reader : l.reader ≡ l.fn.reader }
