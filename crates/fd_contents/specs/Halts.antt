-- What ends the lines of datasets early.
use Rattle.std.specs.Prelude.{◌≡◌, ℕ, Result, IfErr, OnOk}
use Rattle.fd_bytes.specs.Causes.{Rose}
use Rattle.fd_inventory.specs.declared.fault.LinesFault.{LinesFault}
use Rattle.fd_inventory.specs.declared.fault.LinesFault.TheVariants as faults
use Rattle.fd_telling.specs.Stops.{OfDataset}
use Rattle.fd_telling.specs.declared.stop.Stop.{Stop}
use Rattle.fd_contents.specs.declared.datasets.Halt.{Halt}
use Rattle.fd_contents.specs.declared.datasets.Halt.TheVariants as halts

module _ {F X : Type 0} where
  abbrev pub OnStop : Halt F X → (Stop F → Type 0) → Type 0
  OnStop (halts.Stop stop) P = P stop
  OnStop (halts.Unwritten x) P = Unit {0}

  abbrev pub OnUnwritten : Halt F X → Type 0 → Type 0
  OnUnwritten (halts.Stop stop) P = Unit {0}
  OnUnwritten (halts.Unwritten x) P = P

  -- a write of the sink failed
  abbrev pub IsWrite : LinesFault F X → Type 0
  IsWrite (faults.Disk f) = ⊥
  IsWrite (faults.Write x) = Unit {0}
  IsWrite (faults.Damaged d) = ⊥
  IsWrite faults.NoMemory = ⊥

  -- What ended the lines comes of a dataset, or a write of the sink failed, and then its count of faults rose; where nothing
  -- did, the count is as it was.
  pub record HasHaltCause {A : Type 0} (before now : ℕ) (result : Result A (Halt F X)) : Type 0 where
    pub of : IfErr result (λ e. OnStop e OfDataset)
    pub calm : OnOk result (now ≡ before)
    pub write : IfErr result (λ e. OnUnwritten e (Rose before now))
