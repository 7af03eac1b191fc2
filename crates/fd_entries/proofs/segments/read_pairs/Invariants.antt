use Rattle.std.proofs.Common.{◌≡◌, length}
use Rattle.fd_entries.specs.Batches.{HoldBatch}
use Rattle.fd_entries.proofs.RowReading.{Unread}
use Rattle.fd_entries.proofs.segments.read_pairs.Given as goal

abbrev pub invariant-rows : goal.invariant-rows
invariant-rows l = (h : HoldBatch l.index l.fields) → (u : Unread h.batch l.rest l.fields) × (u.done ≡ l.batch)

abbrev pub decreases-rows : goal.decreases-rows
decreases-rows l = length l.rest
