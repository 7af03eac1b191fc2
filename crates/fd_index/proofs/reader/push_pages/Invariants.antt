use Rattle.std.proofs.Common.{◌≡◌, ◌-◌, ◌*◌, ◌≤◌, length}
use Rattle.fd_index.specs.StoredRecords.{records_of}
use Rattle.fd_index.specs.Reading.{pages_at}
use Rattle.fd_index.proofs.reader.push_pages.Given as goal

abbrev pub invariant-loop : goal.invariant-loop
invariant-loop l = record {
  same : pages_at l.count l.end 0 (records_of l.fn.records.items) l.pages ≡ pages_at (l.count - l.counter) l.end l.room (records_of l.records.items) l.left;
  whole : length l.left ≡ 4096 * (l.count - l.counter);
  place : length l.left ≤ l.end;
}
