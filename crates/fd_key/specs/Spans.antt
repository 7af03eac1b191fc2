-- Values that stand in one text, by their places.
use Rattle.std.specs.Prelude.{◌<◌, ◌≤◌, ◌^◌, ℕ, List, length, map, All, slice_range}
use Rattle.std.specs.Str.{IsCharBoundary}
use Rattle.arrayvec.specs.ArrayString.{ArrayString}
use Rattle.fd_key.specs.declared.span.Span.{Span}
use Rattle.fd_key.specs.Pairs.{Pair}

-- a name, and where its value stands
abbrev pub Entry : Type 0
Entry = ArrayString × Span

-- the pair of a name and the value that stands there
abbrev pub pair_at : List ℕ → Entry → Pair
pair_at values e = (e.0.bytes, slice_range values e.1.start e.1.end)

abbrev pub pairs_at : List ℕ → List Entry → List Pair
pairs_at values entries = map (pair_at values) entries

-- a text may be cut where a value begins and ends
pub record IsSpan (values : List ℕ) (s : Span) : Type 0 where
  pub ordered : s.start ≤ s.end
  pub starts : IsCharBoundary values s.start
  pub ends : IsCharBoundary values s.end

-- the value may be cut out, and the name fits its place
pub record IsEntry (values : List ℕ) (e : Entry) : Type 0 where
  pub cut : IsSpan values e.1
  pub name : length e.0.bytes ≤ 16

-- the values of these names stand in the text
pub record AreKept (values : List ℕ) (entries : List Entry) : Type 0 where
  pub each : All (IsEntry values) entries
  pub few : length entries < 2 ^ 32
