-- The numbers of section 4, product definition, with template 4.0, a field at a level at a point in time (FM 92 GRIB).
use Rattle.std.specs.Prelude.{ℕ, List, ◌++◌, length, nat_lt, ◌==◌, if◌then◌else◌, Result, Ok, Err, IfSome}
use Rattle.fd_templates.specs.declared.product.Product.{Product}
use Rattle.fd_templates.specs.declared.fault.TemplateFault.{TemplateFault}
use Rattle.fd_templates.specs.declared.fault.TemplateFault.TheVariants.{Other, BadLength}
use Rattle.fd_templates.specs.Octets.{number, signed_number, signed_or_missing, octets_of, signed_octets, signed_or_ones, FitsSigned, FitsOrMissing}

abbrev pub product_of : List ℕ → Product
product_of s = record {
  coordinates = number 6 7 s;
  category = number 10 10 s;
  parameter = number 11 11 s;
  generating_process_type = number 12 12 s;
  background_process = number 13 13 s;
  process_identifier = number 14 14 s;
  cutoff_hours = number 15 16 s;
  cutoff_minutes = number 17 17 s;
  time_unit = number 18 18 s;
  forecast_time = signed_number 19 22 s;
  first_surface_type = number 23 23 s;
  first_surface_factor = signed_or_missing 24 24 s;
  first_surface_value = signed_or_missing 25 28 s;
  second_surface_type = number 29 29 s;
  second_surface_factor = signed_or_missing 30 30 s;
  second_surface_value = signed_or_missing 31 34 s;
}

-- the numbers, where the template is 4.0 and the section has 34 octets or more
unfoldable pub product_is : List ℕ → Result Product TemplateFault
product_is s =
    if number 8 9 s == 0
    then (if nat_lt (length s) 34 then Err (BadLength (length s)) else Ok (product_of s))
    else Err (Other (number 8 9 s))

-- ---- A section 4 with these numbers

unfoldable pub header_octets : Product → List ℕ
header_octets p = octets_of 4 34 ++ octets_of 1 4 ++ octets_of 2 p.coordinates ++ octets_of 2 0

unfoldable pub process_octets : Product → List ℕ
process_octets p =
    octets_of 1 p.category ++ octets_of 1 p.parameter ++ octets_of 1 p.generating_process_type ++ octets_of 1 p.background_process ++ octets_of 1 p.process_identifier

unfoldable pub time_octets : Product → List ℕ
time_octets p = octets_of 2 p.cutoff_hours ++ octets_of 1 p.cutoff_minutes ++ octets_of 1 p.time_unit ++ signed_octets 4 p.forecast_time

unfoldable pub surface_octets : Product → List ℕ
surface_octets p =
    octets_of 1 p.first_surface_type ++ signed_or_ones 1 p.first_surface_factor ++ signed_or_ones 4 p.first_surface_value ++ octets_of 1 p.second_surface_type ++ signed_or_ones 1 p.second_surface_factor ++ signed_or_ones 4 p.second_surface_value

unfoldable pub product_octets : Product → List ℕ
product_octets p = header_octets p ++ process_octets p ++ time_octets p ++ surface_octets p

-- Each number fits its octets, and none that is there has only bits that are 1.
pub record Fits (p : Product) : Type 0 where
  pub forecast_time : FitsSigned 4 p.forecast_time
  pub first_surface_factor : IfSome p.first_surface_factor (FitsOrMissing 1)
  pub first_surface_value : IfSome p.first_surface_value (FitsOrMissing 4)
  pub second_surface_factor : IfSome p.second_surface_factor (FitsOrMissing 1)
  pub second_surface_value : IfSome p.second_surface_value (FitsOrMissing 4)
