-- The workers' jobs, one by one, and the refusals of workers that stopped.
use Rattle.std.specs.Prelude.{◌≡◌, ◌⊎◌, ◌≤◌, ◌<◌, ℕ, List, [], ◌∷◌, ◌++◌, length, slice_get, Option, Some, None, Result, Ok, Err, vec_len, vec_capacity}
use Rattle.fd_archiver.specs.declared.fault.FlushFault.{FlushFault}
use Rattle.fd_archiver.specs.declared.fault.FlushFault.TheVariants as flushes
use Rattle.fd_bulk.specs.declared.bulk.BulkFault.{BulkFault}
use Rattle.fd_bulk.specs.declared.bulk.BulkFault.TheVariants as faults
use Rattle.fd_shares.specs.declared.round.Halt.{Halt}
use Rattle.fd_shares.specs.declared.round.Job.{Job}

-- each element becomes another, by its place
pub record Each {A : Type 0} (R : ℕ → A → A → Type 0) (old new : List A) : Type 0 where
  pub long : length new ≡ length old
  pub at : (i : ℕ) (x y : A) → slice_get old i ≡ Some x → slice_get new i ≡ Some y → R i x y

module _ {A P E : Type 0} where
  -- a worker has what it had
  pub record IsSameJob (j k : Job A P E) : Type 0 where
    pub desks : k.desks.items ≡ j.desks.items
    pub halt : k.halt ≡ j.halt

  -- the workers have met no dataset, and run
  abbrev pub HaveMetNone : List (Job A P E) → Type 0
  HaveMetNone js = (w : ℕ) (j : Job A P E) → slice_get js w ≡ Some j → (j.desks.items ≡ []) × (j.halt ≡ None)

  -- there is room for one more dataset
  abbrev pub HasRoom : Job A P E → Type 0
  HasRoom j = vec_len j.desks < vec_capacity j.desks

  abbrev pub HaveRoom : List (Job A P E) → Type 0
  HaveRoom js = (w : ℕ) (j : Job A P E) → slice_get js w ≡ Some j → HasRoom j

  -- there is one dataset more, which it hasn't met
  pub record HasOneMore (j k : Job A P E) : Type 0 where
    pub desks : k.desks.items ≡ j.desks.items ++ None ∷ []
    pub halt : k.halt ≡ j.halt

  -- its refusal was taken
  pub record IsQuiet (j k : Job A P E) : Type 0 where
    pub desks : k.desks.items ≡ j.desks.items
    pub halt : k.halt ≡ None

-- a refusal of a worker, as it is told
abbrev pub IsTold : {F X : Type 0} → FlushFault F → BulkFault X → Type 0
IsTold (flushes.Disk f) told = told ≡ faults.Disk
IsTold (flushes.TableFull count) told = told ≡ faults.TableFull count
IsTold flushes.NoMemory told = told ≡ faults.NoMemory

abbrev pub OnStore : {X : Type 0} → BulkFault X → Type 0 → Type 0
OnStore faults.Disk P = P
OnStore fault P = Unit {0}

module _ {A P F X : Type 0} where
  -- of the first of these jobs, this is the refusal of the lowest message at which a worker stopped
  pub record IsLowest (count : ℕ) (js : List (Job A P (FlushFault F))) (at : ℕ) (told : BulkFault X) : Type 0 where
    pub worker : ℕ
    pub job : Job A P (FlushFault F)
    pub fault : FlushFault F
    pub job_at : slice_get js worker ≡ Some job
    pub halt : job.halt ≡ Some (record { at = at; fault = fault })
    pub told_is : IsTold fault told
    pub lowest : (w : ℕ) (j : Job A P (FlushFault F)) (h : Halt (FlushFault F)) → w < count → slice_get js w ≡ Some j → j.halt ≡ Some h → at ≤ h.at

  -- none of the first of these workers stopped, or where and why the lowest did
  abbrev pub HaltedSo : ℕ → List (Job A P (FlushFault F)) → Option (Halt (BulkFault X)) → Type 0
  HaltedSo count js None = (w : ℕ) (j : Job A P (FlushFault F)) → w < count → slice_get js w ≡ Some j → j.halt ≡ None
  HaltedSo count js (Some h) = IsLowest count js h.at h.fault

  -- the same of all
  abbrev pub Halted : List (Job A P (FlushFault F)) → Result (Unit {0}) (BulkFault X) → Type 0
  Halted js (Ok done) = (w : ℕ) (j : Job A P (FlushFault F)) → slice_get js w ≡ Some j → j.halt ≡ None
  Halted js (Err told) = (at : ℕ) × IsLowest (length js) js at told

-- one of two refusals, that at the lower message
abbrev pub IsLower : {X : Type 0} → Option (Halt X) → Halt X → Halt X → Type 0
IsLower None other result = result ≡ other
IsLower (Some first) other result = ((result ≡ other) × (other.at ≤ first.at)) ⊎ ((result ≡ first) × (first.at ≤ other.at))
