use Rattle.std.proofs.Common.{◌≡◌, ◌+◌, ◌-◌, ◌*◌, ◌≤◌, length}
use Rattle.fd_index.specs.Reading.{counts_of}
use Rattle.fd_index.proofs.reader.sum_of_counts.Given as goal

abbrev pub invariant-loop : goal.invariant-loop
invariant-loop l = record {
  same : counts_of l.count l.pages ≡ l.sum + counts_of (l.count - l.counter) l.left;
  whole : length l.left ≡ 4096 * (l.count - l.counter);
  small : l.sum ≤ 65536 * l.counter;
}
