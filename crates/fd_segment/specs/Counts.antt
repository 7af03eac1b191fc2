-- How much of its two files a lens reads.
use Rattle.std.specs.Prelude.{◌≡◌, ◌≤◌, ◌+◌, ◌*◌, ◌/◌, ℕ}
use Rattle.fd_pages.specs.Paging.{Paging}
use Rattle.fd_segment.specs.Held.{Opened}

-- the index of a lens, as what is read page by page
abbrev pub paging_of : Opened → Paging
paging_of l = record { bytes = l.files.index; len = l.files.entry.index_len; faults = l.index_faults; reads = l.index_reads; asked = l.index_asked }

-- Two parts of the index at most were read, each of at most 4096 bytes, and none of the fields.
pub record HasReadFrame (l : Opened) : Type 0 where
  pub few : l.index_reads ≤ 2
  pub asked : l.index_asked ≤ 4096 * l.index_reads
  pub field_reads : l.field_reads ≡ 0
  pub field_asked : l.field_asked ≡ 0

-- no more of the index was read
pub record KeepsIndexCounts (old new : Opened) : Type 0 where
  pub reads : new.index_reads ≡ old.index_reads
  pub asked : new.index_asked ≡ old.index_asked

-- no more of the fields was read
pub record KeepsFieldCounts (old new : Opened) : Type 0 where
  pub reads : new.field_reads ≡ old.field_reads
  pub asked : new.field_asked ≡ old.field_asked

-- how many pieces of 4096 bytes there are in so many, the last one shorter where need be
abbrev pub pieces : ℕ → ℕ
pieces len = (len + 4095) / 4096

-- At most as many reads were made as there are pieces in so many bytes, and they asked for no more bytes than these.
pub record HasCopied (len : ℕ) (old new : Opened) : Type 0 where
  pub few : new.field_reads ≤ old.field_reads + pieces len
  pub asked : new.field_asked ≤ old.field_asked + len

-- the same, and one more, of the digest behind them
pub record HasChecked (len : ℕ) (old new : Opened) : Type 0 where
  pub few : new.field_reads ≤ old.field_reads + (pieces len + 1)
  pub asked : new.field_asked ≤ old.field_asked + (len + 32)

-- One read at most was made, and it asked for so many bytes at most.
pub record HasReadOnce (size : ℕ) (old new : Opened) : Type 0 where
  pub few : new.field_reads ≤ old.field_reads + 1
  pub asked : new.field_asked ≤ old.field_asked + size
