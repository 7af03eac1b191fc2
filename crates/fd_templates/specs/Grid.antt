-- The numbers of section 3, grid definition, with template 3.0, latitude and longitude (FM 92 GRIB).
use Rattle.std.specs.Prelude.{ℕ, ◌^◌, ◌-◌, ◌<◌, List, ◌++◌, length, nat_lt, ◌==◌, if◌then◌else◌, Result, Ok, Err, IfSome}
use Rattle.fd_templates.specs.declared.grid.LatLon.{LatLon}
use Rattle.fd_templates.specs.declared.fault.TemplateFault.{TemplateFault}
use Rattle.fd_templates.specs.declared.fault.TemplateFault.TheVariants.{Other, BadLength}
use Rattle.fd_templates.specs.Octets.{number, signed_number, number_or_missing, signed_or_missing, octets_of, signed_octets, octets_or_ones, signed_or_ones, FitsSigned, FitsOrMissing}

abbrev pub grid_of : List ℕ → LatLon
grid_of s = record {
  points = number 7 10 s;
  earth_shape = number 15 15 s;
  radius_factor = signed_or_missing 16 16 s;
  radius = signed_or_missing 17 20 s;
  major_axis_factor = signed_or_missing 21 21 s;
  major_axis = signed_or_missing 22 25 s;
  minor_axis_factor = signed_or_missing 26 26 s;
  minor_axis = signed_or_missing 27 30 s;
  ni = number 31 34 s;
  nj = number 35 38 s;
  basic_angle = number 39 42 s;
  subdivisions = number_or_missing 43 46 s;
  la1 = signed_number 47 50 s;
  lo1 = signed_number 51 54 s;
  resolution_flags = number 55 55 s;
  la2 = signed_number 56 59 s;
  lo2 = signed_number 60 63 s;
  di = number 64 67 s;
  dj = number 68 71 s;
  scanning_mode = number 72 72 s;
}

-- the numbers, where the template is 3.0 and the section has 72 octets or more
unfoldable pub grid_is : List ℕ → Result LatLon TemplateFault
grid_is s =
    if number 13 14 s == 0
    then (if nat_lt (length s) 72 then Err (BadLength (length s)) else Ok (grid_of s))
    else Err (Other (number 13 14 s))

-- ---- A section 3 with these numbers

unfoldable pub header_octets : LatLon → List ℕ
header_octets g = octets_of 4 72 ++ octets_of 1 3 ++ octets_of 1 0 ++ octets_of 4 g.points ++ octets_of 1 0 ++ octets_of 1 0 ++ octets_of 2 0

unfoldable pub earth_octets : LatLon → List ℕ
earth_octets g =
    octets_of 1 g.earth_shape ++ signed_or_ones 1 g.radius_factor ++ signed_or_ones 4 g.radius ++ signed_or_ones 1 g.major_axis_factor ++ signed_or_ones 4 g.major_axis ++ signed_or_ones 1 g.minor_axis_factor ++ signed_or_ones 4 g.minor_axis

unfoldable pub size_octets : LatLon → List ℕ
size_octets g = octets_of 4 g.ni ++ octets_of 4 g.nj ++ octets_of 4 g.basic_angle ++ octets_or_ones 4 g.subdivisions

unfoldable pub area_octets : LatLon → List ℕ
area_octets g = signed_octets 4 g.la1 ++ signed_octets 4 g.lo1 ++ octets_of 1 g.resolution_flags ++ signed_octets 4 g.la2 ++ signed_octets 4 g.lo2

unfoldable pub step_octets : LatLon → List ℕ
step_octets g = octets_of 4 g.di ++ octets_of 4 g.dj ++ octets_of 1 g.scanning_mode

unfoldable pub grid_octets : LatLon → List ℕ
grid_octets g = header_octets g ++ earth_octets g ++ size_octets g ++ area_octets g ++ step_octets g

-- Each number fits its octets, and none that is there has only bits that are 1.
pub record Fits (g : LatLon) : Type 0 where
  pub radius_factor : IfSome g.radius_factor (FitsOrMissing 1)
  pub radius : IfSome g.radius (FitsOrMissing 4)
  pub major_axis_factor : IfSome g.major_axis_factor (FitsOrMissing 1)
  pub major_axis : IfSome g.major_axis (FitsOrMissing 4)
  pub minor_axis_factor : IfSome g.minor_axis_factor (FitsOrMissing 1)
  pub minor_axis : IfSome g.minor_axis (FitsOrMissing 4)
  pub subdivisions : IfSome g.subdivisions (λ n. n < 2 ^ 32 - 1)
  pub la1 : FitsSigned 4 g.la1
  pub lo1 : FitsSigned 4 g.lo1
  pub la2 : FitsSigned 4 g.la2
  pub lo2 : FitsSigned 4 g.lo2
