use Rattle.std.specs.Prelude.{◌≡◌, ℕ, Option, Some, None, Result, Ok, Err}
use Rattle.fd_packing.specs.declared.fault.PackFault.{PackFault}
use Rattle.fd_packing.specs.declared.fault.PackFault.TheVariants.{DoesNotFit, NoMemory}

-- the place of the first number that is too wide; want of memory only where there is none
abbrev pub FaultIs : {A : Type 0} → Result A PackFault → Option ℕ → Type 0
FaultIs (Ok v) found = found ≡ None
FaultIs (Err (DoesNotFit at)) found = found ≡ Some at
FaultIs (Err NoMemory) found = found ≡ None
