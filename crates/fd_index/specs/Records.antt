-- Records of an index: a key, and where its field lies in the field file.
use Rattle.std.specs.Prelude.{◌≡◌, ℕ, ◌^◌, ◌<◌, ◌≤◌, List, [], ◌∷◌, length, map, reverse, bytes_eq, if◌then◌else◌, Option, Some, None}
use Rattle.std.specs.List.{AllByRecursion}
use Rattle.std.specs.Ordering.{nat_cmp}
use Rattle.std.specs.Cmp.Lexicographic.{slice_cmp}
use Rattle.std.specs.List.Sorted.{IsStrictlySortedBy}

pub record Record : Type 0 where
  pub key : List ℕ
  pub at : ℕ
  pub len : ℕ

abbrev pub keys : List Record → List (List ℕ)
keys rs = map (λ r. r.key) rs

-- the keys rise strictly, compared byte by byte
abbrev pub Rising : List Record → Type 0
Rising rs = IsStrictlySortedBy (slice_cmp nat_cmp) (keys rs)

-- what a record's numbers have room for
pub record Fits (r : Record) : Type 0 where
  pub key : length r.key ≤ 256
  pub at : r.at < 2 ^ 64
  pub len : r.len < 2 ^ 64

abbrev pub AllFit : List Record → Type 0
AllFit rs = AllByRecursion Fits rs

-- the place and length of a key's first record
abbrev pub place_of : List ℕ → List Record → Option (ℕ × ℕ)
place_of key [] = None
place_of key (r ∷ rs) = if bytes_eq key r.key then Some (r.at, r.len) else place_of key rs

-- the place and length of a key's last put
abbrev pub newest : List ℕ → List Record → Option (ℕ × ℕ)
newest key puts = place_of key (reverse puts)

-- The records are those of the puts: each key once, with the place of its last put, in the order of the keys.
pub record StandsFor (puts records : List Record) : Type 0 where
  pub rising : Rising records
  pub newest : (key : List ℕ) → place_of key records ≡ newest key puts

-- Only one list of records stands for some puts.
abbrev pub OneForItsPuts : Type 0
OneForItsPuts = (puts rs ss : List Record) → StandsFor puts rs → StandsFor puts ss → rs ≡ ss
