-- What a table lists, and the numbers of its writers' batches.
use Rattle.std.specs.Prelude.{◌==◌, if◌then◌else◌, max, ℕ, List, [], ◌∷◌, Result, Ok, Err}
use Rattle.fd_entries.specs.declared.table.Entry.{Entry}
use Rattle.fd_entries.specs.declared.table.NotATable.{NotATable}
use Rattle.fd_entries.specs.Table.{IsTable}

-- the bytes are a table of some entries
pub record ListsSome (bytes : List ℕ) : Type 0 where
  pub entries : List Entry
  pub table : IsTable [] entries bytes

-- what is listed, and nothing where the bytes are no table
abbrev pub entries_or_none : Result (List Entry) NotATable → List Entry
entries_or_none (Ok es) = es
entries_or_none (Err f) = []

-- the greatest sequence number that is listed for a writer
abbrev pub greatest_seq : ℕ → List Entry → ℕ
greatest_seq w [] = 0
greatest_seq w (e ∷ es) = if e.writer == w then max e.seq (greatest_seq w es) else greatest_seq w es
