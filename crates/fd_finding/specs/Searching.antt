-- What a worker has found so far.
use Rattle.std.specs.Prelude.{◌≡◌, ◌≤◌, ◌<◌, ◌+◌, ℕ, List, map, length, All, drop, Option, Some, None, IfErr, OnOk, slice_index_or}
use Rattle.std.specs.List.{flat_map}
use Rattle.fd_entries.specs.declared.batch.Pair.{Pair}
use Rattle.fd_entries.specs.Batches.{newest}
use Rattle.fd_segment.specs.Causes.{OnDamaged}
use Rattle.fd_segment.specs.Copying.{IsOfBatch}
use Rattle.fd_segment.specs.Held.{Files, Standing, behind}
use Rattle.fd_dataset.specs.Listed.{listing}
use Rattle.fd_retriever.specs.declared.fault.Got.TheVariants.{Miss}
use Rattle.fd_retriever.specs.Kept.{IsNumbered}
use Rattle.fd_retriever.specs.Answers.{LackBehind, Says, SomeUntold, Tells}
use Rattle.fd_finding.specs.declared.spot.Job.{Job}
use Rattle.fd_finding.specs.declared.spot.Sought.{Sought}
use Rattle.fd_retriever.specs.declared.spot.Spot.{Spot}
use Rattle.fd_finding.specs.Spots.{SaysAt, StandsForSome}

abbrev pub key_of : Sought → List ℕ
key_of one = one.key

abbrev pub spot_of : Sought → Option Spot
spot_of one = one.spot

-- what a look-up of a key finds in the files of the segment with this number
pub record FindsAt (f : Files) (number : ℕ) (key : List ℕ) (p : Spot) : Type 0 where
  pub here : p.number ≡ number
  pub inside : p.at + p.len + behind f.entry ≤ f.entry.fields_len
  pub says : SaysAt f key p.at p.len
  pub batch : IsOfBatch f key (Some (p.at, p.len))

abbrev pub Finds : Files → ℕ → List ℕ → Option Spot → Type 0
Finds f number key (Some p) = FindsAt f number key p
Finds f number key None = Says f key Miss × IsOfBatch f key None

-- a key that was found keeps its spot, and another has what the look-up finds
abbrev pub FindsMore : Files → ℕ → List ℕ → Option Spot → Option Spot → Type 0
FindsMore f number key (Some p) after = after ≡ Some p
FindsMore f number key None after = Finds f number key after

pub record Looked (f : Files) (number : ℕ) (old new : Sought) : Type 0 where
  pub key : new.key ≡ old.key
  pub more : FindsMore f number old.key old.spot new.spot

-- the same of each key
pub record AllLooked (f : Files) (number : ℕ) (old new : List Sought) : Type 0 where
  pub long : length new ≡ length old
  pub each : (k : ℕ) (d : Sought) → k < length old → Looked f number (slice_index_or old k d) (slice_index_or new k d)

-- no segment behind this number has the key, by its index, and by its batch
pub record Lacks (ss : List Standing) (key : List ℕ) (n : ℕ) : Type 0 where
  pub index : LackBehind ss key n
  pub batch : (t : List (List Pair)) → Tells (map listing ss) t → newest (drop n t) key ≡ None

-- the key stands there, and no later segment has it
pub record IsFound (ss : List Standing) (key : List ℕ) (p : Spot) : Type 0 where
  pub segment : Standing
  pub numbered : IsNumbered ss p.number segment
  pub found : FindsAt segment.files p.number key p
  pub lacks : Lacks ss key p.number

-- what is known of a key once the segments behind this number were searched
abbrev pub SoFar : List Standing → ℕ → List ℕ → Option Spot → Type 0
SoFar ss n key (Some p) = IsFound ss key p
SoFar ss n key None = Lacks ss key n

abbrev pub IsSoFar : List Standing → ℕ → Sought → Type 0
IsSoFar ss n one = SoFar ss n one.key one.spot

-- all segments were searched for these keys
pub record IsSearched (ss : List Standing) (keys : List (List ℕ)) (sought : List Sought) : Type 0 where
  pub same : map key_of sought ≡ keys
  pub each : All (IsSoFar ss 0) sought

module _ {F : Type 0} where
  -- nothing was found yet
  abbrev pub IsFresh : Job F → Type 0
  IsFresh job = All (λ (one : Sought). one.spot ≡ None) job.sought.items

  -- what a worker makes of its job
  pub record Ran (ss : List Standing) (old new : Job F) : Type 0 where
    pub long : length new.sought.items ≡ length old.sought.items
    pub found : OnOk new.end (IsSearched ss (map key_of old.sought.items) new.sought.items)
    pub damaged : IfErr new.end (λ e. OnDamaged e (StandsForSome ss (map key_of old.sought.items)))
    pub sound : IfErr new.end (λ e. OnDamaged e (λ _. SomeUntold (map listing ss)))

  -- the keys of all jobs, and their spots
  abbrev pub all_keys : List (Job F) → List (List ℕ)
  all_keys jobs = flat_map (λ (job : Job F). map key_of job.sought.items) jobs

  abbrev pub all_spots : List (Job F) → List (Option Spot)
  all_spots jobs = flat_map (λ (job : Job F). map spot_of job.sought.items) jobs
