-- A section that was written is read again.
use Rattle.std.proofs.Common.{◌≡◌, ℕ, ℤ, ◌^◌, ◌<◌, refl, arith}
use Rattle.std.specs.Prelude.{Ok, Option, IfSome, ◌-◌}
use Rattle.fd_bytes.specs.Numbers.{sign_and_magnitude}
use Rattle.fd_sections.specs.Message.{IsSection}
use Rattle.fd_templates.specs.declared.identification.Ident.{Ident}
use Rattle.fd_templates.specs.declared.grid.LatLon.{LatLon}
use Rattle.fd_templates.specs.declared.product.Product.{Product}
use Rattle.fd_templates.specs.declared.simple.Simple.{Simple}
use Rattle.fd_templates.specs.Octets.{FitsSigned, FitsOrMissing, number, signed_number, number_or_missing, signed_or_missing, octets_of, signed_octets, octets_or_ones, signed_or_ones, raw_or_ones, signed_raw_or_ones}
use Rattle.fd_templates.specs.DateTime.{date_time_octets}
use Rattle.fd_templates.specs.Identification.{identification_of, identification_octets, origin_octets}
use Rattle.fd_templates.specs.Grid as grid
use Rattle.fd_templates.specs.Grid.{grid_is, grid_octets, earth_octets, size_octets, area_octets, step_octets}
use Rattle.fd_templates.specs.Product as product
use Rattle.fd_templates.specs.Product.{product_is, product_octets, process_octets, surface_octets}
use Rattle.fd_templates.specs.Simple as simple
use Rattle.fd_templates.specs.Simple.{simple_is, simple_octets, packing_octets}
use Rattle.fd_templates.specs.Widths.{DateTimeRanges, ProductRanges}
use Rattle.fd_templates.proofs.Again.{one_again, two_again, four_again, signed_again, signed_fits, missing_fits, missing_again, number_missing_fits, number_missing_again}

fits_two : (z : ℤ) → FitsSigned 2 z → sign_and_magnitude 16 z < 2 ^ 16
fits_two z f = signed_fits 2 z refl f

pub fits_four : (z : ℤ) → FitsSigned 4 z → sign_and_magnitude 32 z < 2 ^ 32
fits_four z f = signed_fits 4 z refl f

pub missing_one_fits : (o : Option ℤ) → IfSome o (FitsOrMissing 1) → signed_raw_or_ones 1 o < 2 ^ 8
missing_one_fits o f = missing_fits 1 o refl (omega arith) f

pub missing_four_fits : (o : Option ℤ) → IfSome o (FitsOrMissing 4) → signed_raw_or_ones 4 o < 2 ^ 32
missing_four_fits o f = missing_fits 4 o refl (omega arith) f

number_four_fits : (o : Option ℕ) → IfSome o (λ x. x < 2 ^ 32 - 1) → raw_or_ones 4 o < 2 ^ 32
number_four_fits o f = number_missing_fits 4 o (omega arith) f

-- the range of each number
pub record IdentRanges (i : Ident) : Type 0 where
  pub centre : i.centre < 2 ^ 16
  pub sub_centre : i.sub_centre < 2 ^ 16
  pub master_tables_version : i.master_tables_version < 2 ^ 8
  pub local_tables_version : i.local_tables_version < 2 ^ 8
  pub reference_time_significance : i.reference_time_significance < 2 ^ 8
  pub reference_time : DateTimeRanges i.reference_time
  pub production_status : i.production_status < 2 ^ 8
  pub data_type : i.data_type < 2 ^ 8

pub ident_again : (i : Ident) → IdentRanges i → identification_of (identification_octets i) ≡ i
unfolding number octets_of identification_octets origin_octets date_time_octets
ident_again i r =
    rw (
      two_again i.centre r.centre,
      two_again i.sub_centre r.sub_centre,
      one_again i.master_tables_version r.master_tables_version,
      one_again i.local_tables_version r.local_tables_version,
      one_again i.reference_time_significance r.reference_time_significance,
      two_again i.reference_time.year r.reference_time.year,
      one_again i.reference_time.month r.reference_time.month,
      one_again i.reference_time.day r.reference_time.day,
      one_again i.reference_time.hour r.reference_time.hour,
      one_again i.reference_time.minute r.reference_time.minute,
      one_again i.reference_time.second r.reference_time.second,
      one_again i.production_status r.production_status,
      one_again i.data_type r.data_type,
    ) refl

-- the range of each number
pub record LatLonRanges (g : LatLon) : Type 0 where
  pub points : g.points < 2 ^ 32
  pub earth_shape : g.earth_shape < 2 ^ 8
  pub ni : g.ni < 2 ^ 32
  pub nj : g.nj < 2 ^ 32
  pub basic_angle : g.basic_angle < 2 ^ 32
  pub resolution_flags : g.resolution_flags < 2 ^ 8
  pub di : g.di < 2 ^ 32
  pub dj : g.dj < 2 ^ 32
  pub scanning_mode : g.scanning_mode < 2 ^ 8

pub latlon_again : (g : LatLon) → grid.Fits g → LatLonRanges g → grid_is (grid_octets g) ≡ Ok g
unfolding number signed_number number_or_missing signed_or_missing octets_of signed_octets octets_or_ones signed_or_ones grid_is grid_octets grid.header_octets earth_octets size_octets area_octets step_octets
latlon_again g f r =
    rw (
      four_again g.points r.points,
      one_again g.earth_shape r.earth_shape,
      one_again (signed_raw_or_ones 1 g.radius_factor) (missing_one_fits g.radius_factor f.radius_factor),
      missing_again 1 g.radius_factor f.radius_factor,
      four_again (signed_raw_or_ones 4 g.radius) (missing_four_fits g.radius f.radius),
      missing_again 4 g.radius f.radius,
      one_again (signed_raw_or_ones 1 g.major_axis_factor) (missing_one_fits g.major_axis_factor f.major_axis_factor),
      missing_again 1 g.major_axis_factor f.major_axis_factor,
      four_again (signed_raw_or_ones 4 g.major_axis) (missing_four_fits g.major_axis f.major_axis),
      missing_again 4 g.major_axis f.major_axis,
      one_again (signed_raw_or_ones 1 g.minor_axis_factor) (missing_one_fits g.minor_axis_factor f.minor_axis_factor),
      missing_again 1 g.minor_axis_factor f.minor_axis_factor,
      four_again (signed_raw_or_ones 4 g.minor_axis) (missing_four_fits g.minor_axis f.minor_axis),
      missing_again 4 g.minor_axis f.minor_axis,
      four_again g.ni r.ni,
      four_again g.nj r.nj,
      four_again g.basic_angle r.basic_angle,
      four_again (raw_or_ones 4 g.subdivisions) (number_four_fits g.subdivisions f.subdivisions),
      number_missing_again 4 g.subdivisions f.subdivisions,
      four_again (sign_and_magnitude 32 g.la1) (fits_four g.la1 f.la1),
      signed_again 4 g.la1 f.la1,
      four_again (sign_and_magnitude 32 g.lo1) (fits_four g.lo1 f.lo1),
      signed_again 4 g.lo1 f.lo1,
      one_again g.resolution_flags r.resolution_flags,
      four_again (sign_and_magnitude 32 g.la2) (fits_four g.la2 f.la2),
      signed_again 4 g.la2 f.la2,
      four_again (sign_and_magnitude 32 g.lo2) (fits_four g.lo2 f.lo2),
      signed_again 4 g.lo2 f.lo2,
      four_again g.di r.di,
      four_again g.dj r.dj,
      one_again g.scanning_mode r.scanning_mode,
    ) refl

pub product_again : (p : Product) → product.Fits p → ProductRanges p → product_is (product_octets p) ≡ Ok p
unfolding number signed_number signed_or_missing octets_of signed_octets signed_or_ones product_is product_octets product.header_octets process_octets product.time_octets surface_octets
product_again p f r =
    rw (
      two_again p.coordinates r.coordinates,
      one_again p.category r.category,
      one_again p.parameter r.parameter,
      one_again p.generating_process_type r.generating_process_type,
      one_again p.background_process r.background_process,
      one_again p.process_identifier r.process_identifier,
      two_again p.cutoff_hours r.cutoff_hours,
      one_again p.cutoff_minutes r.cutoff_minutes,
      one_again p.time_unit r.time_unit,
      four_again (sign_and_magnitude 32 p.forecast_time) (fits_four p.forecast_time f.forecast_time),
      signed_again 4 p.forecast_time f.forecast_time,
      one_again p.first_surface_type r.first_surface_type,
      one_again (signed_raw_or_ones 1 p.first_surface_factor) (missing_one_fits p.first_surface_factor f.first_surface_factor),
      missing_again 1 p.first_surface_factor f.first_surface_factor,
      four_again (signed_raw_or_ones 4 p.first_surface_value) (missing_four_fits p.first_surface_value f.first_surface_value),
      missing_again 4 p.first_surface_value f.first_surface_value,
      one_again p.second_surface_type r.second_surface_type,
      one_again (signed_raw_or_ones 1 p.second_surface_factor) (missing_one_fits p.second_surface_factor f.second_surface_factor),
      missing_again 1 p.second_surface_factor f.second_surface_factor,
      four_again (signed_raw_or_ones 4 p.second_surface_value) (missing_four_fits p.second_surface_value f.second_surface_value),
      missing_again 4 p.second_surface_value f.second_surface_value,
    ) refl

-- the range of each number
pub record SimpleRanges (p : Simple) : Type 0 where
  pub coded : p.coded < 2 ^ 32
  pub reference : p.reference < 2 ^ 32
  pub bits : p.bits < 2 ^ 8
  pub original_type : p.original_type < 2 ^ 8

pub simple_again : (p : Simple) → simple.Fits p → SimpleRanges p → simple_is (simple_octets p) ≡ Ok p
unfolding number signed_number octets_of signed_octets simple_is simple_octets simple.header_octets packing_octets
simple_again p f r =
    rw (
      four_again p.coded r.coded,
      four_again p.reference r.reference,
      two_again (sign_and_magnitude 16 p.binary_scale) (fits_two p.binary_scale f.binary_scale),
      signed_again 2 p.binary_scale f.binary_scale,
      two_again (sign_and_magnitude 16 p.decimal_scale) (fits_two p.decimal_scale f.decimal_scale),
      signed_again 2 p.decimal_scale f.decimal_scale,
      one_again p.bits r.bits,
      one_again p.original_type r.original_type,
    ) refl

-- ---- What is written is a section

pub ident_section : (i : Ident) → IsSection 1 21 (identification_octets i)
unfolding octets_of identification_octets origin_octets date_time_octets
ident_section i = record { size = refl; number_is = refl; long = omega arith; header = omega arith }

pub latlon_section : (g : LatLon) → IsSection 3 72 (grid_octets g)
unfolding octets_of signed_octets octets_or_ones signed_or_ones grid_octets grid.header_octets earth_octets size_octets area_octets step_octets
latlon_section g = record { size = refl; number_is = refl; long = omega arith; header = omega arith }

pub product_section : (p : Product) → IsSection 4 34 (product_octets p)
unfolding octets_of signed_octets signed_or_ones product_octets product.header_octets process_octets product.time_octets surface_octets
product_section p = record { size = refl; number_is = refl; long = omega arith; header = omega arith }

pub simple_section : (p : Simple) → IsSection 5 21 (simple_octets p)
unfolding octets_of signed_octets simple_octets simple.header_octets packing_octets
simple_section p = record { size = refl; number_is = refl; long = omega arith; header = omega arith }
