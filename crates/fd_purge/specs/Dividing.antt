-- How entries are divided, one by one.
use Rattle.std.specs.Prelude.{◌+◌, if◌then◌else◌, Bool, ℕ, nat_lt, Option, Some, None}
use Rattle.fd_entries.specs.declared.table.Entry.{Entry}
use Rattle.fd_entries.specs.Table.{greatest_writer}
use Rattle.fd_purge.specs.declared.dividing.DivideFault.{DivideFault}
use Rattle.fd_purge.specs.declared.dividing.DivideFault.TheVariants as faults

-- the entry behind so many, of which so many are kept, is kept and its writer is too great
abbrev pub next_over : ℕ → ℕ → Bool → Entry → Option (ℕ × ℕ)
next_over before kept m e = if m then None else (if nat_lt (greatest_writer kept) e.writer then Some (before + 1, e.writer) else None)

abbrev pub OnOver : DivideFault → (ℕ → ℕ → Type 0) → Type 0
OnOver (faults.Over entry writer) P = P entry writer
OnOver faults.NoMemory P = Unit {0}
