-- The causes of an append and of a load that fail.
use Rattle.std.specs.Prelude.{◌≡◌, ◌<◌, ℕ, Result, Ok, Err}
use Rattle.fd_entries.specs.declared.table.NotATable as bad
use Rattle.fd_toc.specs.declared.faults.AppendFault.{AppendFault}
use Rattle.fd_toc.specs.declared.faults.AppendFault.TheVariants as append
use Rattle.fd_toc.specs.declared.faults.LoadFault.{LoadFault}
use Rattle.fd_toc.specs.declared.faults.LoadFault.TheVariants as load

abbrev pub OnFull : {F : Type 0} → AppendFault F → Type 0 → Type 0
OnFull (append.Full count) P = P
OnFull (append.Disk f) P = Unit {0}

abbrev pub OnAppendDisk : {F : Type 0} → AppendFault F → Type 0 → Type 0
OnAppendDisk (append.Full count) P = Unit {0}
OnAppendDisk (append.Disk f) P = P

-- the table is full exactly at 65,535 entries
abbrev pub IsFullAt : {T F : Type 0} → ℕ → Result T (AppendFault F) → Type 0
IsFullAt n (Err (append.Full count)) = (n ≡ 65535) × (count ≡ 65535)
IsFullAt n (Err (append.Disk f)) = n < 65535
IsFullAt n (Ok number) = n < 65535

abbrev pub OnNotATable : {F : Type 0} → LoadFault F → (bad.NotATable → Type 0) → Type 0
OnNotATable (load.Disk f) P = Unit {0}
OnNotATable (load.NotATable at want found) P = P (record { at = at; want = want; found = found })
OnNotATable load.NoMemory P = Unit {0}

abbrev pub OnLoadDisk : {F : Type 0} → LoadFault F → Type 0 → Type 0
OnLoadDisk (load.Disk f) P = P
OnLoadDisk (load.NotATable at want found) P = Unit {0}
OnLoadDisk load.NoMemory P = Unit {0}

abbrev pub UnlessLoadDisk : {F : Type 0} → LoadFault F → Type 0 → Type 0
UnlessLoadDisk (load.Disk f) P = Unit {0}
UnlessLoadDisk (load.NotATable at want found) P = P
UnlessLoadDisk load.NoMemory P = P
