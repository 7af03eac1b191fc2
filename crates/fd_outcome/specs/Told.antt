-- What became of a status and of the text that goes with it.
use Rattle.std.specs.Prelude.{◌≡◌, ◌⊎◌, ◌≤◌, ℕ, List, Option}
use Rattle.fd_bytes.specs.Causes.{Rose}
use Rattle.fd_io.specs.Streams.{Takes, TakesFront}
use Rattle.fd_split.specs.declared.refusal.Refusal.{Refusal}
use Rattle.fd_split.specs.declared.refusal.Refusal.TheVariants as refusals
use Rattle.fd_stored.specs.declared.status.Status.{Status}
use Rattle.fd_stored.specs.declared.status.Status.TheVariants.{OutputFault, NoMemory}
use Rattle.fd_outcome.specs.Ends.{no_memory}

-- the text was written, and the status stands
pub record Written (s : Status) (text : List ℕ) (result : Status) (c d : Option (List ℕ)) : Type 0 where
  pub status : result ≡ s
  pub took : Takes c d text

-- a write failed after a front of the text
pub record Broken (text : List ℕ) (result : Status) (c d : Option (List ℕ)) (m n : ℕ) : Type 0 where
  pub status : result ≡ OutputFault
  pub took : TakesFront c d text
  pub rose : Rose m n

-- The report had taken c and has taken d; its count of faults was m and is n.
pub record Told (s : Status) (text : List ℕ) (result : Status) (c d : Option (List ℕ)) (m n : ℕ) : Type 0 where
  pub later : m ≤ n
  pub told : Written s text result c d ⊎ Broken text result c d m n

-- the same, or the line that memory ran out in its place
abbrev pub ToldOrNoMemory : Status → List ℕ → Status → Option (List ℕ) → Option (List ℕ) → ℕ → ℕ → Type 0
ToldOrNoMemory s text result c d m n = Told s text result c d m n ⊎ Told NoMemory no_memory result c d m n

-- what holds where the input is longer than an input may be
abbrev pub OnLongInput : Refusal → Type 0 → Type 0
OnLongInput refusals.Input P = P
OnLongInput refusal P = Unit {0}
