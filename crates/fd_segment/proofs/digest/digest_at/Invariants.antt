use Rattle.std.proofs.Common.{◌≡◌, ◌≤◌, ◌<◌, ◌+◌, ◌-◌, ◌%◌}
use Rattle.fd_segment.specs.Counts.{pieces}
use Rattle.fd_segment.proofs.Hashed.{Holds}
use Rattle.fd_segment.proofs.digest.digest_at.Given as goal

abbrev pub invariant-pieces : goal.invariant-pieces
invariant-pieces g l = record {
  inside : l.done ≤ l.len;
  held : Holds (g.R.Reader.bytes l.fn.file) l.at l.done l.hasher;
  bytes : g.R.Reader.bytes l.file ≡ g.R.Reader.bytes l.fn.file;
  len : g.R.Reader.len l.file ≡ g.R.Reader.len l.fn.file;
  later : g.R.Reader.faults l.fn.file ≤ g.R.Reader.faults l.file;
  reads : g.R.Reader.reads l.file ≤ g.R.Reader.reads l.fn.file + pieces l.done;
  asked : g.R.Reader.asked l.file ≤ g.R.Reader.asked l.fn.file + l.done;
  whole : l.done < l.len → l.done % 4096 ≡ 0;
}

abbrev pub decreases-pieces : goal.decreases-pieces
decreases-pieces g l = l.len - l.done
