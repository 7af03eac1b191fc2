-- The numbers of an interval of time: what product definition template 4.8 has behind the numbers of 4.0, and 4.11 behind those of
-- 4.1 (FM 92 GRIB). The octets of this tail count from 1, as do those of each range.
use Rattle.std.specs.Prelude.{ℕ, zero, suc, List, [], ◌∷◌, ◌++◌, drop, length, Option, Some, None}
use Rattle.fd_templates.specs.declared.interval.Range.{Range}
use Rattle.fd_templates.specs.declared.interval.Interval.{Interval}
use Rattle.fd_templates.specs.Octets.{number, octets_of}
use Rattle.fd_templates.specs.DateTime.{date_time_of, date_time_octets}

-- a time range has twelve octets
abbrev pub range_of : List ℕ → Range
range_of s = record {
  process = number 1 1 s;
  increment_kind = number 2 2 s;
  unit = number 3 3 s;
  length = number 4 7 s;
  increment_unit = number 8 8 s;
  increment = number 9 12 s;
}

-- so many ranges, one behind the other
unfoldable pub ranges_of : ℕ → List ℕ → List Range
ranges_of zero s = []
ranges_of (suc n) s = range_of s ∷ ranges_of n (drop 12 s)

-- how many ranges there are
abbrev pub count_of : List ℕ → ℕ
count_of tail = number 8 8 tail

abbrev pub interval_of : List ℕ → Interval
interval_of tail = record {
  end = date_time_of 1 tail;
  missing = number 9 12 tail;
  ranges = ranges_of (count_of tail) (drop 12 tail);
}

-- ---- Their octets

unfoldable pub range_octets : Range → List ℕ
range_octets r =
    octets_of 1 r.process ++ octets_of 1 r.increment_kind ++ octets_of 1 r.unit ++ octets_of 4 r.length ++ octets_of 1 r.increment_unit ++ octets_of 4 r.increment

unfoldable pub ranges_octets : List Range → List ℕ
ranges_octets [] = []
ranges_octets (r ∷ rs) = range_octets r ++ ranges_octets rs

-- the interval's end, the number of ranges, and how many values are missing
unfoldable pub end_octets : Interval → List ℕ
end_octets i = date_time_octets i.end ++ octets_of 1 (length i.ranges) ++ octets_of 4 i.missing

abbrev pub interval_octets : Option Interval → List ℕ
interval_octets None = []
interval_octets (Some i) = end_octets i ++ ranges_octets i.ranges
