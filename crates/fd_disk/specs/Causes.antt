-- A fault is answered only where the object's count rose.
use Rattle.std.specs.Prelude.{◌≡◌, ◌≤◌, ℕ, Result, IfErr}
use Rattle.fd_bytes.specs.Causes.{Rose}
use Rattle.fd_disk.specs.declared.traits.Down.{Down}
use Rattle.fd_disk.specs.declared.traits.Down.TheVariants.{Fault, NoMemory}

-- want of memory has no cause
abbrev pub OnFault : {F : Type 0} → Down F → Type 0 → Type 0
OnFault (Fault f) P = P
OnFault NoMemory P = Unit {0}

-- after want of memory all is as it was
abbrev pub OnNoMemory : {F : Type 0} → Down F → Type 0 → Type 0
OnNoMemory (Fault f) P = Unit {0}
OnNoMemory NoMemory P = P

pub record HasDownCause {T F : Type 0} (before now : ℕ) (result : Result T (Down F)) : Type 0 where
  pub later : before ≤ now
  pub failed : IfErr result (λ e. OnFault e (Rose before now))
  pub as_before : IfErr result (λ e. OnNoMemory e (now ≡ before))
