-- The numbers of section 4, product definition, with template 4.0, 4.1, 4.8 or 4.11 (FM 92 GRIB): a field at a point in time or over
-- an interval of time, of one forecast or of a member of an ensemble.
use Rattle.std.specs.Prelude.{◌≡◌, ℕ, ◌+◌, ◌*◌, Bool, true, false, ◌||◌, List, ◌++◌, drop, length, nat_lt, ◌==◌, if◌then◌else◌, Option, Some, None, is_some, Result, Ok, Err}
use Rattle.fd_templates.specs.declared.ensemble.Ensemble.{Ensemble}
use Rattle.fd_templates.specs.declared.interval.Interval.{Interval}
use Rattle.fd_templates.specs.declared.any_product.AnyProduct.{AnyProduct}
use Rattle.fd_templates.specs.declared.fault.TemplateFault.{TemplateFault}
use Rattle.fd_templates.specs.declared.fault.TemplateFault.TheVariants.{Other, BadLength}
use Rattle.fd_templates.specs.declared.fault.AnyFault.{AnyFault}
use Rattle.fd_templates.specs.declared.fault.AnyFault.TheVariants.{Template, NoMemory}
use Rattle.fd_templates.specs.Octets.{number, octets_of}
use Rattle.fd_templates.specs.Product.{product_of, process_octets, time_octets, surface_octets}
use Rattle.fd_templates.specs.Ensemble.{ensemble_of, ensemble_octets}
use Rattle.fd_templates.specs.Interval.{count_of, interval_of, interval_octets}

-- the number of the template of a section 4
abbrev pub template_in : List ℕ → ℕ
template_in s = number 8 9 s

-- 4.1 and 4.11 have the numbers of an ensemble member
abbrev pub has_ensemble : ℕ → Bool
has_ensemble template = (template == 1) || (template == 11)

-- 4.8 and 4.11 have an interval of time
abbrev pub has_interval : ℕ → Bool
has_interval template = (template == 8) || (template == 11)

abbrev pub is_known : ℕ → Bool
is_known template = (template == 0) || has_ensemble template || (template == 8)

-- how many octets stand before the interval
abbrev pub front_of : ℕ → ℕ
front_of template = if has_ensemble template then 37 else 34

-- the octets of the interval
abbrev pub tail_of : ℕ → List ℕ → List ℕ
tail_of template s = drop (front_of template) s

-- how many octets the interval has at least
abbrev pub interval_least : ℕ → List ℕ → ℕ
interval_least template tail = if has_interval template then 12 + 12 * count_of tail else 0

-- How many octets the section has at least: where it lacks the number of ranges, as many as it had without any.
abbrev pub least_of : ℕ → List ℕ → ℕ
least_of template s = front_of template + interval_least template (tail_of template s)

abbrev pub ensemble_if : Bool → List ℕ → Option Ensemble
ensemble_if has s = if has then Some (ensemble_of s) else None

abbrev pub interval_if : Bool → List ℕ → Option Interval
interval_if has tail = if has then Some (interval_of tail) else None

abbrev pub any_product_of : ℕ → List ℕ → AnyProduct
any_product_of template s = record {
  base = product_of s;
  ensemble = ensemble_if (has_ensemble template) s;
  interval = interval_if (has_interval template) (tail_of template s);
}

abbrev pub long_enough : ℕ → List ℕ → Result AnyProduct TemplateFault
long_enough template s = if nat_lt (length s) (least_of template s) then Err (BadLength (length s)) else Ok (any_product_of template s)

-- the numbers, where the template is one of these and the section has its octets
unfoldable pub any_product_is : List ℕ → Result AnyProduct TemplateFault
any_product_is s = if is_known (template_in s) then long_enough (template_in s) s else Err (Other (template_in s))

-- What a call answered are these numbers, or why there are none. It may also have run out of memory.
abbrev pub GivesAny : Result AnyProduct AnyFault → Result AnyProduct TemplateFault → Type 0
GivesAny (Ok p) read = read ≡ Ok p
GivesAny (Err (Template fault)) read = read ≡ Err fault
GivesAny (Err NoMemory) read = Unit {0}

-- ---- A section 4 with these numbers

-- 4.0, 4.1, 4.8 or 4.11, by which of the two are there
abbrev pub template_by : Bool → Bool → ℕ
template_by false false = 0
template_by true false = 1
template_by false true = 8
template_by true true = 11

abbrev pub template_of : AnyProduct → ℕ
template_of p = template_by (is_some p.ensemble) (is_some p.interval)

-- what stands behind the numbers of 4.0
abbrev pub added_octets : AnyProduct → List ℕ
added_octets p = ensemble_octets p.ensemble ++ interval_octets p.interval

-- the length, the section's number, the number of coordinate values and the template
unfoldable pub header_octets : AnyProduct → List ℕ
header_octets p = octets_of 4 (34 + length (added_octets p)) ++ octets_of 1 4 ++ octets_of 2 p.base.coordinates ++ octets_of 2 (template_of p)

unfoldable pub any_octets : AnyProduct → List ℕ
any_octets p = (header_octets p ++ process_octets p.base ++ time_octets p.base ++ surface_octets p.base) ++ added_octets p

-- what was written behind what stood before
pub record Extends (before now : List ℕ) : Type 0 where
  pub more : List ℕ
  pub is : now ≡ before ++ more
