-- The objects that a run is given, and which of them failed in it.
use Rattle.std.specs.Prelude.{◌≡◌, ℕ, List, Option}
use Rattle.fd_bytes.specs.Causes.{Rose}
use Rattle.fd_disk.specs.Folders.{Holdings}

-- what an object told before and tells now, and its counts of faults
pub record Object (A : Type 0) : Type 0 where
  pub before : Option A
  pub now : Option A
  pub faults_before : ℕ
  pub faults_now : ℕ

abbrev pub object : {A : Type 0} → Option A → Option A → ℕ → ℕ → Object A
object before now m n = record { before = before; now = now; faults_before = m; faults_now = n }

-- a call of the object failed
abbrev pub Failed : {A : Type 0} → Object A → Type 0
Failed x = Rose x.faults_before x.faults_now

-- no call of the object failed
abbrev pub IsCalm : {A : Type 0} → Object A → Type 0
IsCalm x = x.faults_now ≡ x.faults_before

-- which of the four failed in this run
pub record Failures : Type 1 where
  pub store : Type 0
  pub input : Type 0
  pub output : Type 0
  pub report : Type 0

abbrev pub failures : Object Holdings → Object (List ℕ) → Object (List ℕ) → Object (List ℕ) → Failures
failures store input output report = record { store = Failed store; input = Failed input; output = Failed output; report = Failed report }
