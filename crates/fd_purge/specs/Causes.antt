-- The causes of the refusals.
use Rattle.std.specs.Prelude.{ℕ}
use Rattle.fd_entries.specs.declared.table.NotATable as bad
use Rattle.fd_segment.specs.declared.fault.Damage.{Damage}
use Rattle.fd_segment.specs.declared.fault.LensFault.{LensFault}
use Rattle.fd_segment.specs.declared.fault.LensFault.TheVariants as lenses
use Rattle.fd_recovery.specs.declared.fault.OpenFault.{OpenFault}
use Rattle.fd_recovery.specs.declared.fault.OpenFault.TheVariants as openings
use Rattle.fd_purge.specs.declared.fault.PurgeFault.{PurgeFault}
use Rattle.fd_purge.specs.declared.fault.PurgeFault.TheVariants as faults

abbrev pub OnDisk : {F : Type 0} → PurgeFault F → Type 0 → Type 0
OnDisk (faults.Disk f) P = P
OnDisk (faults.NotATable at want found) P = Unit {0}
OnDisk (faults.Damaged d) P = Unit {0}
OnDisk (faults.Writers entry writer) P = Unit {0}
OnDisk faults.NoMemory P = Unit {0}

abbrev pub OnNotATable : {F : Type 0} → PurgeFault F → (bad.NotATable → Type 0) → Type 0
OnNotATable (faults.Disk f) P = Unit {0}
OnNotATable (faults.NotATable at want found) P = P (record { at = at; want = want; found = found })
OnNotATable (faults.Damaged d) P = Unit {0}
OnNotATable (faults.Writers entry writer) P = Unit {0}
OnNotATable faults.NoMemory P = Unit {0}

abbrev pub OnDamaged : {F : Type 0} → PurgeFault F → (Damage → Type 0) → Type 0
OnDamaged (faults.Disk f) P = Unit {0}
OnDamaged (faults.NotATable at want found) P = Unit {0}
OnDamaged (faults.Damaged d) P = P d
OnDamaged (faults.Writers entry writer) P = Unit {0}
OnDamaged faults.NoMemory P = Unit {0}

abbrev pub OnWriters : {F : Type 0} → PurgeFault F → (ℕ → ℕ → Type 0) → Type 0
OnWriters (faults.Disk f) P = Unit {0}
OnWriters (faults.NotATable at want found) P = Unit {0}
OnWriters (faults.Damaged d) P = Unit {0}
OnWriters (faults.Writers entry writer) P = P entry writer
OnWriters faults.NoMemory P = Unit {0}

-- it isn't the answer for a writer
abbrev pub NoWriters : {F : Type 0} → PurgeFault F → Type 0
NoWriters e = OnWriters e (λ entry writer. ⊥)

-- a call of the folder failed, or memory was refused
abbrev pub IsOfFolder : {F : Type 0} → PurgeFault F → Type 0
IsOfFolder (faults.Disk f) = Unit {0}
IsOfFolder (faults.NotATable at want found) = ⊥
IsOfFolder (faults.Damaged d) = ⊥
IsOfFolder (faults.Writers entry writer) = ⊥
IsOfFolder faults.NoMemory = Unit {0}

-- what ended the opening ends the purge
abbrev pub of_opening : {F : Type 0} → OpenFault F → PurgeFault F
of_opening (openings.Disk f) = faults.Disk f
of_opening (openings.NotATable at want found) = faults.NotATable at want found
of_opening (openings.Damaged d) = faults.Damaged d
of_opening (openings.TooMany count) = faults.NoMemory
of_opening openings.NoMemory = faults.NoMemory

-- what ended the reading of an index ends the purge
abbrev pub of_lens : {F : Type 0} → LensFault F → PurgeFault F
of_lens (lenses.Fault f) = faults.Disk f
of_lens (lenses.Damaged d) = faults.Damaged d
of_lens lenses.NoMemory = faults.NoMemory
