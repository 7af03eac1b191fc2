-- The causes of the refusals.
use Rattle.fd_entries.specs.declared.table.NotATable as bad
use Rattle.fd_segment.specs.declared.fault.Damage.{Damage}
use Rattle.fd_recovery.specs.declared.fault.FileFault.{FileFault}
use Rattle.fd_recovery.specs.declared.fault.FileFault.TheVariants as file
use Rattle.fd_recovery.specs.declared.fault.OpenFault.{OpenFault}
use Rattle.fd_recovery.specs.declared.fault.OpenFault.TheVariants as whole

abbrev pub OnFileDisk : {F : Type 0} → FileFault F → Type 0 → Type 0
OnFileDisk (file.Disk f) P = P
OnFileDisk (file.Damaged d) P = Unit {0}
OnFileDisk file.NoMemory P = Unit {0}

abbrev pub OnFileDamaged : {F : Type 0} → FileFault F → (Damage → Type 0) → Type 0
OnFileDamaged (file.Disk f) P = Unit {0}
OnFileDamaged (file.Damaged d) P = P d
OnFileDamaged file.NoMemory P = Unit {0}

-- what holds of a fault of the disk
abbrev pub OnDisk : {F : Type 0} → OpenFault F → Type 0 → Type 0
OnDisk (whole.Disk f) P = P
OnDisk (whole.NotATable at want found) P = Unit {0}
OnDisk (whole.Damaged d) P = Unit {0}
OnDisk (whole.TooMany count) P = Unit {0}
OnDisk whole.NoMemory P = Unit {0}

-- what holds of the octet that is named
abbrev pub OnNotATable : {F : Type 0} → OpenFault F → (bad.NotATable → Type 0) → Type 0
OnNotATable (whole.Disk f) P = Unit {0}
OnNotATable (whole.NotATable at want found) P = P (record { at = at; want = want; found = found })
OnNotATable (whole.Damaged d) P = Unit {0}
OnNotATable (whole.TooMany count) P = Unit {0}
OnNotATable whole.NoMemory P = Unit {0}

-- what holds of the damage
abbrev pub OnDamaged : {F : Type 0} → OpenFault F → (Damage → Type 0) → Type 0
OnDamaged (whole.Disk f) P = Unit {0}
OnDamaged (whole.NotATable at want found) P = Unit {0}
OnDamaged (whole.Damaged d) P = P d
OnDamaged (whole.TooMany count) P = Unit {0}
OnDamaged whole.NoMemory P = Unit {0}

-- it isn't the answer for too many datasets
abbrev pub NotTooMany : {F : Type 0} → OpenFault F → Type 0
NotTooMany (whole.Disk f) = Unit {0}
NotTooMany (whole.NotATable at want found) = Unit {0}
NotTooMany (whole.Damaged d) = Unit {0}
NotTooMany (whole.TooMany count) = ⊥
NotTooMany whole.NoMemory = Unit {0}

-- it is an answer for the table alone
abbrev pub IsOfTable : {F : Type 0} → OpenFault F → Type 0
IsOfTable (whole.Disk f) = Unit {0}
IsOfTable (whole.NotATable at want found) = Unit {0}
IsOfTable (whole.Damaged d) = ⊥
IsOfTable (whole.TooMany count) = ⊥
IsOfTable whole.NoMemory = Unit {0}
