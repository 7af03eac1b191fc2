-- The numbers of a day and a time of day, as section 1 has them of the reference time, and product definition templates 4.8 and 4.11 of
-- the end of an interval (FM 92 GRIB).
use Rattle.std.specs.Prelude.{ℕ, ◌+◌, List, ◌++◌}
use Rattle.fd_templates.specs.declared.date_time.DateTime.{DateTime}
use Rattle.fd_templates.specs.Octets.{number, octets_of}

-- the day and the time in the seven octets from this one on
abbrev pub date_time_of : ℕ → List ℕ → DateTime
date_time_of first s = record {
  year = number first (first + 1) s;
  month = number (first + 2) (first + 2) s;
  day = number (first + 3) (first + 3) s;
  hour = number (first + 4) (first + 4) s;
  minute = number (first + 5) (first + 5) s;
  second = number (first + 6) (first + 6) s;
}

-- ---- Their octets

unfoldable pub date_time_octets : DateTime → List ℕ
date_time_octets t = octets_of 2 t.year ++ octets_of 1 t.month ++ octets_of 1 t.day ++ octets_of 1 t.hour ++ octets_of 1 t.minute ++ octets_of 1 t.second
