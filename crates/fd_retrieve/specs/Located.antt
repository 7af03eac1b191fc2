-- Where the newest bytes of a request's keys stand, among the datasets that are open.
use Rattle.std.specs.Prelude.{◌≡◌, ◌<◌, ◌≤◌, ◌+◌, ℕ, List, [], length, Option, Some, None, Vec, false, IfSome, slice_get, slice_index_or, option_map}
use Rattle.std.specs.Option.{option_map_or}
use Rattle.std.specs.declared.alloc.Global.{Global}
use Rattle.fd_entries.specs.declared.batch.Pair.{Pair}
use Rattle.fd_entries.specs.Batches.{newest}
use Rattle.fd_schema.specs.declared.place.Place.{Place}
use Rattle.fd_segment.specs.declared.fault.Damage.{Damage}
use Rattle.fd_schema.specs.Rules.{Texts, file_key}
use Rattle.fd_schema.specs.Reading.{seen_place}
use Rattle.fd_retriever.specs.declared.spot.Spot.{Spot}
use Rattle.fd_finding.specs.Spots.{IsNewestAt}
use Rattle.fd_stored.specs.Distinct.{is_among}
use Rattle.fd_ahead.specs.declared.located.Located.{Located}
pub use Rattle.fd_ahead.specs.Places.{IsIn}
use Rattle.fd_retrieve.specs.declared.locating.Lost.{Lost}
use Rattle.fd_retrieve.specs.declared.locating.Lost.TheVariants as losses
use Rattle.fd_retrieve.specs.declared.locating.Chosen.{Chosen}
use Rattle.fd_retrieve.specs.declared.locating.Chosen.TheVariants as choices
use Rattle.fd_retrieve.specs.Open.{IsFirstNamed, Open, names_of, table_in}

-- These are the newest bytes of the place's key in its dataset.
pub record IsThere (os : List Open) (place : Texts) (l : Located) : Type 0 where
  pub dataset : Open
  pub at : slice_get os l.number ≡ Some dataset
  pub newest_at : (t : List (List Pair)) → table_in os place.dataset ≡ Some t → IsNewestAt dataset.shown t (file_key place) l.spot

-- The same, or the place's dataset doesn't have the key.
abbrev pub IsLocated : List Open → Texts → Option Located → Type 0
IsLocated os place None = (t : List (List Pair)) → table_in os place.dataset ≡ Some t → newest t (file_key place) ≡ None
IsLocated os place (Some l) = IsThere os place l

-- the same of each place
pub record AreLocated (os : List Open) (places : List Place) (located : List (Option Located)) : Type 0 where
  pub long : length located ≡ length places
  pub each : (k : ℕ) (p : Place) (d : Option Located) → k < length places → IsLocated os (seen_place (slice_index_or places k p)) (slice_index_or located k d)
  pub within : (k : ℕ) (d : Option Located) → k < length places → IfSome (slice_index_or located k d) (IsIn os)

-- ---- on the way there

-- the first of the datasets with this text has this number, or none has the text
abbrev pub IsNumberOf : List Open → List ℕ → Option ℕ → Type 0
IsNumberOf os name None = is_among (names_of os) name ≡ false
IsNumberOf os name (Some n) = IsFirstNamed os name n

-- the same of the text of each place's dataset
pub record AreNumbersOf (os : List Open) (places : List Place) (numbers : List (Option ℕ)) : Type 0 where
  pub long : length numbers ≡ length places
  pub each : (k : ℕ) (p : Place) (d : Option ℕ) → k < length places → IsNumberOf os (seen_place (slice_index_or places k p)).dataset (slice_index_or numbers k d)

-- the keys of the group with this number
abbrev pub keys_in : List (Vec ℕ Global) → ℕ → List ℕ
keys_in groups n = option_map_or (λ (g : Vec ℕ Global). g.items) (slice_get groups n) []

-- each key is one of the first, so many
abbrev pub AreWithin : ℕ → List ℕ → Type 0
AreWithin count keys = (j k : ℕ) → slice_get keys j ≡ Some k → k < count

-- These are those of the first keys, so many, whose dataset has the number.
pub record IsGroup (numbers : List (Option ℕ)) (count number : ℕ) (keys : List ℕ) : Type 0 where
  pub there : (k : ℕ) (d : Option ℕ) → k < count → slice_index_or numbers k d ≡ Some number → (j : ℕ) × (slice_get keys j ≡ Some k)
  pub within : AreWithin count keys
  pub own : (j k : ℕ) (d : Option ℕ) → slice_get keys j ≡ Some k → slice_index_or numbers k d ≡ Some number

-- the same of each group
abbrev pub AreGroups : List (Option ℕ) → ℕ → List (Vec ℕ Global) → Type 0
AreGroups numbers count groups = (n : ℕ) → IsGroup numbers count n (keys_in groups n)

-- The keys were dealt to their datasets.
pub record AreDealt (os : List Open) (places : List Place) (ns : List (Option ℕ)) (gs : List (Vec ℕ Global)) : Type 0 where
  pub numbers : AreNumbersOf os places ns
  pub groups : AreGroups ns (length places) gs
  pub long : length gs ≡ length os

-- The places of the first keys, so many, in their order.
pub record ArePlacesOf (places : List Place) (keys : List ℕ) (count : ℕ) (group : List Place) : Type 0 where
  pub long : length group ≡ count
  pub each : (j k : ℕ) (p : Place) → j < count → slice_get keys j ≡ Some k → (q : Place) × (slice_get group j ≡ Some q) × (seen_place q ≡ seen_place (slice_index_or places k p))

-- the places of a group, be they lent or copied
abbrev pub members : Chosen → List Place
members (choices.Lent s) = s.now
members (choices.Copied v) = v.items

-- the first keys, so many, are the first one, the one behind it, and so on
abbrev pub IsRow : ℕ → List ℕ → ℕ → Type 0
IsRow first keys count = (j k : ℕ) → j < count → slice_get keys j ≡ Some k → k ≡ first + j

abbrev pub located_in : ℕ → Option Spot → Option Located
located_in number spot = option_map (λ s. record { number = number; spot = s }) spot

-- Each of the first keys, so many, is where it was found, and those that aren't among the keys are where they were.
pub record IsFilled (number : ℕ) (keys : List ℕ) (found : List (Option Spot)) (count : ℕ) (before after : List (Option Located)) : Type 0 where
  pub long : length after ≡ length before
  pub own : (j k : ℕ) (e : Option Located) → j < count → slice_get keys j ≡ Some k
      → (i : ℕ) × (s : Option Spot) × (slice_get keys i ≡ Some k) × (slice_get found i ≡ Some s) × (slice_index_or after k e ≡ located_in number s)
  pub others : (k : ℕ) (e : Option Located) → k < length before → ((j : ℕ) → slice_get keys j ≡ Some k → ⊥) → slice_index_or after k e ≡ slice_index_or before k e

-- what is known of a key once the first datasets, so many, were searched
abbrev pub IsLocatedBy : List Open → ℕ → Texts → Option ℕ → Option Located → Type 0
IsLocatedBy os count place None l = l ≡ None
IsLocatedBy os count place (Some n) l = (n < count → IsLocated os place l × IfSome l (IsIn os)) × (count ≤ n → l ≡ None)

pub record AreLocatedBy (os : List Open) (places : List Place) (numbers : List (Option ℕ)) (count : ℕ) (located : List (Option Located)) : Type 0 where
  pub long : length located ≡ length places
  pub each : (k : ℕ) (p : Place) (d : Option ℕ) (e : Option Located) → k < length places
      → IsLocatedBy os count (seen_place (slice_index_or places k p)) (slice_index_or numbers k d) (slice_index_or located k e)

module _ {F : Type 0} where
  -- what holds of the number of the dataset that is damaged, and of the damage
  abbrev pub OnLost : Lost F → (ℕ → Damage → Type 0) → Type 0
  OnLost (losses.Disk f) P = Unit {0}
  OnLost (losses.Damaged n d) P = P n d
  OnLost losses.NoMemory P = Unit {0}
