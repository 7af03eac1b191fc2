-- What holds where a call was stopped.
use Rattle.std.specs.Prelude.{Result, Ok, Err}
use Rattle.fd_disk.specs.declared.traits.Down.{Down}
use Rattle.fd_disk.specs.declared.traits.Down.TheVariants.{Fault, NoMemory}
use Rattle.fd_stopped.specs.declared.fault.StopFault.{StopFault}
use Rattle.fd_stopped.specs.declared.fault.StopFault.TheVariants.{Below, Stopped}

-- of a call of a file
abbrev pub OnStopped : {T F : Type 0} → Result T (StopFault F) → Type 0 → Type 0
OnStopped (Ok x) P = Unit {0}
OnStopped (Err (Below f)) P = Unit {0}
OnStopped (Err Stopped) P = P

-- of a call that may want memory
abbrev pub OnCallStopped : {T F : Type 0} → Result T (Down (StopFault F)) → Type 0 → Type 0
OnCallStopped (Ok x) P = Unit {0}
OnCallStopped (Err (Fault (Below f))) P = Unit {0}
OnCallStopped (Err (Fault Stopped)) P = P
OnCallStopped (Err NoMemory) P = Unit {0}
