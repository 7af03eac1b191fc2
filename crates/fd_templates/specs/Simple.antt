-- The numbers of section 5, data representation, with template 5.0, simple packing (FM 92 GRIB).
use Rattle.std.specs.Prelude.{ℕ, List, ◌++◌, length, nat_lt, ◌==◌, if◌then◌else◌, Result, Ok, Err}
use Rattle.fd_templates.specs.declared.simple.Simple.{Simple}
use Rattle.fd_templates.specs.declared.fault.TemplateFault.{TemplateFault}
use Rattle.fd_templates.specs.declared.fault.TemplateFault.TheVariants.{Other, BadLength}
use Rattle.fd_templates.specs.Octets.{number, signed_number, octets_of, signed_octets, FitsSigned}

abbrev pub simple_of : List ℕ → Simple
simple_of s = record {
  coded = number 6 9 s;
  reference = number 12 15 s;
  binary_scale = signed_number 16 17 s;
  decimal_scale = signed_number 18 19 s;
  bits = number 20 20 s;
  original_type = number 21 21 s;
}

-- the numbers, where the template is 5.0 and the section has 21 octets or more
unfoldable pub simple_is : List ℕ → Result Simple TemplateFault
simple_is s =
    if number 10 11 s == 0
    then (if nat_lt (length s) 21 then Err (BadLength (length s)) else Ok (simple_of s))
    else Err (Other (number 10 11 s))

-- ---- A section 5 with these numbers

unfoldable pub header_octets : Simple → List ℕ
header_octets p = octets_of 4 21 ++ octets_of 1 5 ++ octets_of 4 p.coded ++ octets_of 2 0

unfoldable pub packing_octets : Simple → List ℕ
packing_octets p = octets_of 4 p.reference ++ signed_octets 2 p.binary_scale ++ signed_octets 2 p.decimal_scale ++ octets_of 1 p.bits ++ octets_of 1 p.original_type

unfoldable pub simple_octets : Simple → List ℕ
simple_octets p = header_octets p ++ packing_octets p

-- Each number fits its octets.
pub record Fits (p : Simple) : Type 0 where
  pub binary_scale : FitsSigned 2 p.binary_scale
  pub decimal_scale : FitsSigned 2 p.decimal_scale
