use Rattle.std.proofs.Common.{◌≡◌, ◌-◌, ◌≤◌, length}
use Rattle.fd_index.specs.StoredRecords.{records_of}
use Rattle.fd_index.specs.Reading.{records_at}
use Rattle.fd_index.proofs.reader.push_records.Given as goal

abbrev pub invariant-loop : goal.invariant-loop
invariant-loop l = record {
  same : records_at l.count l.end (records_of l.fn.records.items) l.bytes ≡ records_at (l.count - l.counter) l.end (records_of l.records.items) l.left;
  within : length l.left ≤ length l.bytes;
}
