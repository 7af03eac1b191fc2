-- Where the newest bytes of a key stand, and what damage keeps it from being told.
use Rattle.std.specs.Prelude.{◌≡◌, ◌≤◌, ◌+◌, ◌-◌, ◌⊎◌, ℕ, List, length, take, drop, Option, Some, None, slice_get, Contains, IsSome}
use Rattle.std.specs.List.{AllZip}
use Rattle.fd_entries.specs.declared.batch.Pair.{Pair}
use Rattle.fd_entries.specs.Batches.{newest}
use Rattle.fd_schema.specs.declared.place.Place.{Place}
use Rattle.fd_schema.specs.Rules.{file_key}
use Rattle.fd_schema.specs.Reading.{seen_place}
use Rattle.fd_segment.specs.declared.fault.Damage.{Damage}
use Rattle.fd_segment.specs.Causes.{IsBadFrame, IsBadIndex, IsFindDamage}
use Rattle.fd_segment.specs.Held.{Files, Standing, behind}
use Rattle.fd_retriever.specs.Kept.{IsNumbered}
use Rattle.fd_retriever.specs.Answers.{IsSaid, LackBehind}
use Rattle.fd_retriever.specs.declared.spot.Spot.{Spot}

-- the key under which a message of a place stands in the files
abbrev pub place_key : Place → List ℕ
place_key p = file_key (seen_place p)

-- the index says that the key's bytes stand at this place: a page of it does, where told, and so does all of it, where it is
-- in its format
abbrev pub SaysAt : Files → List ℕ → ℕ → ℕ → Type 0
SaysAt f key at len = IsSaid f key (Some (at, len))

-- By the indexes of the segments a key's newest bytes stand there: the index of the segment with this number says so, the
-- bytes end within the fields, with their digest where there is one, and the index of each later segment says that the key isn't there.
pub record IsShown (ss : List Standing) (key : List ℕ) (p : Spot) : Type 0 where
  pub segment : Standing
  pub numbered : IsNumbered ss p.number segment
  pub inside : p.at + p.len + behind segment.files.entry ≤ segment.files.entry.fields_len
  pub says : SaysAt segment.files key p.at p.len
  pub behind : LackBehind ss key p.number

-- the same, or the index of each segment says that the key isn't there
abbrev pub AllSayOf : List Standing → List ℕ → Option Spot → Type 0
AllSayOf ss key (Some p) = IsShown ss key p
AllSayOf ss key None = LackBehind ss key 0

-- By the batches for which the segments stand a key's newest bytes are those at this spot, and no later batch has the key.
pub record IsNewestAt (ss : List Standing) (t : List (List Pair)) (key : List ℕ) (p : Spot) : Type 0 where
  pub segment : Standing
  pub numbered : IsNumbered ss p.number segment
  pub fields : List ℕ
  pub told : segment.files.fields ≡ Some fields
  pub bytes : newest t key ≡ Some (take p.len (drop p.at fields))
  pub behind : newest (drop p.number t) key ≡ None

-- the same, or no batch has the key
abbrev pub IsAnswer : List Standing → List (List Pair) → List ℕ → Option Spot → Type 0
IsAnswer ss t key (Some p) = IsNewestAt ss t key p
IsAnswer ss t key None = newest t key ≡ None

-- The spot lies in a segment, and ends within its fields, with its digest where there is one, so that its bytes can be
-- checked and copied.
pub record IsWithin (ss : List Standing) (p : Spot) : Type 0 where
  pub from : 1 ≤ p.number
  pub to : p.number ≤ length ss
  pub ends : (s : Standing) → slice_get ss (p.number - 1) ≡ Some s → p.at + p.len + behind s.files.entry ≤ s.files.entry.fields_len
  -- and the index says so of a key
  pub key : List ℕ
  pub said : (s : Standing) → slice_get ss (p.number - 1) ≡ Some s → SaysAt s.files key p.at p.len

-- The damage stands in these files, in a part of them that is read for the keys: the index's first eight bytes or its footer
-- aren't in the format at the place, or what a look-up of one of the keys meets is damaged.
abbrev pub StandsForOne : Files → List (List ℕ) → Damage → Type 0
StandsForOne f keys d = (IsBadIndex f.entry f.index d × IsBadFrame f.entry f.index d) ⊎ ((key : List ℕ) × Contains keys key × IsFindDamage f.entry f.index key d)

-- the damage stands in the files of one of the segments
abbrev pub StandsForSome : List Standing → List (List ℕ) → Damage → Type 0
StandsForSome ss keys d = (number : ℕ) × (s : Standing) × IsNumbered ss number s × StandsForOne s.files keys d

-- each segment tells its index
abbrev pub AllTold : List Standing → Type 0
AllTold ss = (number : ℕ) (s : Standing) → IsNumbered ss number s → IsSome s.files.index

-- These spots are the only ones that what the segments' indexes say of the keys allows, where each tells its index: whatever
-- stands in it, and in whatever pieces the keys are looked for.
abbrev pub AreTheOnly : List Standing → List (List ℕ) → List (Option Spot) → Type 0
AreTheOnly ss keys spots = AllTold ss → (others : List (Option Spot)) → AllZip (AllSayOf ss) keys others → spots ≡ others
