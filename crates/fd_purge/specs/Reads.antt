-- What is read of the indexes of segments.
use Rattle.std.specs.Prelude.{◌≡◌, ℕ, Bool, List, Contains}
use Rattle.std.specs.List.{AllZip}
use Rattle.std.specs.Global.{Vec}
use Rattle.std.specs.Ordering.{nat_cmp}
use Rattle.std.specs.Cmp.Lexicographic.{slice_cmp}
use Rattle.std.specs.BTreeSet.{BTreeSet, contains_by}
use Rattle.fd_index.specs.Records.{Record, keys}
use Rattle.fd_segment.specs.declared.fault.Damage.{Damage}
use Rattle.fd_segment.specs.Causes.{IsBadIndex}
use Rattle.fd_segment.specs.Held.{IsIndexOf, Standing}
use Rattle.fd_purge.specs.Kept.{occurs}

-- the set has this key
abbrev pub knows : BTreeSet (Vec ℕ) → List ℕ → Bool
knows s key = contains_by (λ (k : Vec ℕ). slice_cmp nat_cmp key k.items) s

-- it has the keys of these batches
abbrev pub Knows : BTreeSet (Vec ℕ) → List (List (List ℕ)) → Type 0
Knows s batches = (key : List ℕ) → knows s key ≡ occurs batches key

-- these are the keys of the segment, whatever its index file tells
abbrev pub IsRead : Standing → List (List ℕ) → Type 0
IsRead s ks = (rs : List Record) → IsIndexOf s.files.entry s.files.index rs → ks ≡ keys rs

-- for each segment its keys
abbrev pub AreRead : List Standing → List (List (List ℕ)) → Type 0
AreRead ss kss = AllZip IsRead ss kss

-- the index file of one of the segments isn't in its format, where told, at the place that the damage names
abbrev pub IsAmongBad : List Standing → Damage → Type 0
IsAmongBad segments d = (s : Standing) × Contains segments s × IsBadIndex s.files.entry s.files.index d
