-- What holds of a file in memory and its record at all times.
use Rattle.std.specs.Prelude.{◌≡◌, ◌≤◌, ℕ, length}
use Rattle.fd_disk.specs.declared.file.Range.{Range}
use Rattle.fd_file_mem.specs.declared.recorded.Mark.{Mark}
use Rattle.fd_file_mem.specs.Buffers.{Buffered}
use Rattle.fd_file_mem.specs.Calls.{file_after, with_bytes, bytes_in}

pub record IsKept (start firm reads : Buffered ℕ) (loose : Buffered Range) (marks : Buffered Mark) (written : Buffered ℕ) : Type 0 where
  pub file : file_after start.items (with_bytes marks.items written.items) ≡ record { firm = firm.items; reads = reads.items; loose = loose.items }
  pub bytes : bytes_in marks.items ≡ length written.items
  pub few : length loose.items ≤ length marks.items
  pub within : length reads.items ≤ reads.size
  pub start_size : start.size ≡ reads.size
  pub firm_size : firm.size ≡ reads.size
  pub loose_size : loose.size ≡ marks.size
