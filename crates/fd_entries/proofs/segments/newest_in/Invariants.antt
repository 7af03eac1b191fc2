use Rattle.std.proofs.Common.{◌≡◌, length, Some, None, MatchOption}
use Rattle.fd_entries.specs.Batches.{HoldBatch, of_batch}
use Rattle.fd_entries.proofs.RowReading.{Unread}
use Rattle.fd_entries.proofs.segments.newest_in.Given as goal

abbrev pub invariant-rows : goal.invariant-rows
invariant-rows l = (h : HoldBatch l.index l.fields) → (u : Unread h.batch l.rest l.fields) × MatchOption l.found (of_batch u.done l.key ≡ None) (λ b. of_batch u.done l.key ≡ Some b.now)

abbrev pub decreases-rows : goal.decreases-rows
decreases-rows l = length l.rest
