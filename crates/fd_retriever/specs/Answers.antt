-- What a fetch answers, and why it refuses.
use Rattle.std.specs.Prelude.{◌≡◌, ◌⊎◌, ◌<◌, ◌≤◌, ◌+◌, ℕ, List, length, map, Option, Some, None, Result, Ok, Err, IfErr}
use Rattle.fd_bytes.specs.Causes.{Rose}
use Rattle.fd_io.specs.Streams.{Takes, TakesFront}
use Rattle.fd_entries.specs.declared.batch.Pair.{Pair}
use Rattle.fd_entries.specs.declared.batch.Listing.{Listing}
use Rattle.fd_pages.specs.Parts.{IsSeen}
use Rattle.fd_segment.specs.declared.fault.Damage.{Damage}
use Rattle.fd_segment.specs.Causes.{IsBadIndex, IsFindDamage, IsKeyDamage, IsPlace}
use Rattle.fd_segment.specs.Held.{Files, Standing, behind}
use Rattle.fd_retriever.specs.declared.fault.Got.{Got}
use Rattle.fd_retriever.specs.declared.fault.Got.TheVariants.{Found, Miss}
use Rattle.fd_retriever.specs.declared.fault.FetchFault.{FetchFault}
use Rattle.fd_retriever.specs.declared.fault.FetchFault.TheVariants.{Disk, Write, Damaged, NoMemory}
use Rattle.fd_retriever.specs.Kept.{IsNumbered}

-- the batches that the listings stand for, where each has one
abbrev pub Tells : List Listing → List (List Pair) → Type 0
Tells ls t = map (λ l. l.batch) ls ≡ map (λ b. Some b) t

-- Where there are newest bytes, they are found, with their length, and the sink has taken exactly these more; where there
-- are none, it is a miss, and the sink has taken no more.
abbrev pub IsAnswer : Option (List ℕ) → Option (List ℕ) → Option (List ℕ) → Got → Type 0
IsAnswer (Some bytes) old new (Found n) = (n ≡ length bytes) × Takes old new bytes
IsAnswer (Some bytes) old new Miss = ⊥
IsAnswer None old new (Found n) = ⊥
IsAnswer None old new Miss = new ≡ old

-- whatever the listings tell: so many bytes were taken as are said to be found, and none at a miss
abbrev pub TookAsMany : Option (List ℕ) → Option (List ℕ) → Got → Type 0
TookAsMany old new (Found n) = (bytes : List ℕ) × (length bytes ≡ n) × Takes old new bytes
TookAsMany old new Miss = new ≡ old

-- a front of the newest bytes was taken, and nothing where there are none
abbrev pub TookFront : Option (List ℕ) → Option (List ℕ) → Option (List ℕ) → Type 0
TookFront (Some bytes) old new = TakesFront old new bytes
TookFront None old new = new ≡ old

module _ {F X : Type 0} where
  abbrev pub OnWrite : FetchFault F X → Type 0 → Type 0
  OnWrite (Disk f) P = Unit {0}
  OnWrite (Write x) P = P
  OnWrite (Damaged d) P = Unit {0}
  OnWrite NoMemory P = Unit {0}

  abbrev pub OnDamaged : FetchFault F X → (Damage → Type 0) → Type 0
  OnDamaged (Disk f) P = Unit {0}
  OnDamaged (Write x) P = Unit {0}
  OnDamaged (Damaged d) P = P d
  OnDamaged NoMemory P = Unit {0}

  -- nothing was written, where it is damage or want of memory
  abbrev pub Unwritten : FetchFault F X → Type 0 → Type 0
  Unwritten (Disk f) P = Unit {0}
  Unwritten (Write x) P = Unit {0}
  Unwritten (Damaged d) P = P
  Unwritten NoMemory P = P

  -- the answer isn't a fault of the sink
  abbrev pub UnlessWrite : {G : Type 0} → Result G (FetchFault F X) → Type 0 → Type 0
  UnlessWrite (Ok got) P = P
  UnlessWrite (Err (Disk f)) P = P
  UnlessWrite (Err (Write x)) P = Unit {0}
  UnlessWrite (Err (Damaged d)) P = P
  UnlessWrite (Err NoMemory) P = P

  -- A fault of the sink is told only where its count of faults rose, and at each other answer the count is as before.
  pub record HasFetchCause {G : Type 0} (before now : ℕ) (result : Result G (FetchFault F X)) : Type 0 where
    pub later : before ≤ now
    pub calm : UnlessWrite result (now ≡ before)
    pub write : IfErr result (λ e. OnWrite e (Rose before now))

-- What the index says of a key, where told: by the pages of it that decide, each in the format by itself, and by all of it,
-- where it is in its format.
abbrev pub IsSaid : Files → List ℕ → Option (ℕ × ℕ) → Type 0
IsSaid f key place = IsSeen f.index f.entry.index_len key place × IsPlace f.entry f.index key place

-- That its bytes are so many, and end within the fields, with their digest where there is one; or that it isn't there.
abbrev pub Says : Files → List ℕ → Got → Type 0
Says f key (Found n) = (at : ℕ) × IsSaid f key (Some (at, n)) × (at + n + behind f.entry ≤ f.entry.fields_len)
Says f key Miss = IsSaid f key None

-- the index of each segment behind this number says that the key isn't there
abbrev pub LackBehind : List Standing → List ℕ → ℕ → Type 0
LackBehind ss key number = (m : ℕ) (s : Standing) → number < m → IsNumbered ss m s → Says s.files key Miss

-- What the indexes of the segments say of a key, from the last segment on.
abbrev pub AllSay : List Standing → List ℕ → Got → Type 0
AllSay ss key (Found n) = (number : ℕ) × (s : Standing) × IsNumbered ss number s × Says s.files key (Found n) × LackBehind ss key number
AllSay ss key Miss = LackBehind ss key 0

-- A look-up of the key meets the damage, or a check of its bytes: a page of the index by itself isn't in the format at the
-- place, or the key's record ends beyond the fields, or behind its bytes stands another digest than theirs.
abbrev pub IsMet : Files → List ℕ → Damage → Type 0
IsMet f key d = IsFindDamage f.entry f.index key d ⊎ IsKeyDamage f key d

-- The damage stands in these files: the index isn't in the format at the place, or the key meets it.
abbrev pub StandsIn : Files → List ℕ → Damage → Type 0
StandsIn f key d = IsBadIndex f.entry f.index d ⊎ IsMet f key d

-- the damage stands in the files of one of the segments
abbrev pub StandsAmong : List Standing → List ℕ → Damage → Type 0
StandsAmong ss key d = (number : ℕ) × (s : Standing) × IsNumbered ss number s × StandsIn s.files key d

-- one of the listings stands for no batch
abbrev pub SomeUntold : List Listing → Type 0
SomeUntold ls = (number : ℕ) × (l : Listing) × IsNumbered ls number l × (l.batch ≡ None)
