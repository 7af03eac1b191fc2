-- Whether a section has the numbers of its template (FM 92 GRIB).
use Rattle.std.specs.Prelude.{ℕ, ◌+◌, List, length, nat_lt, ◌==◌, if◌then◌else◌, Result, Ok, Err}
use Rattle.fd_templates.specs.declared.fault.TemplateFault.{TemplateFault}
use Rattle.fd_templates.specs.declared.fault.TemplateFault.TheVariants.{Other, BadLength}
use Rattle.fd_templates.specs.Octets.{number}

-- The template, which two octets from this one on say, is 0, and the section has so many octets or more.
unfoldable pub whole : ℕ → ℕ → List ℕ → Result (Unit {0}) TemplateFault
whole first least s =
    if number first (first + 1) s == 0
    then (if nat_lt (length s) least then Err (BadLength (length s)) else Ok tt)
    else Err (Other (number first (first + 1) s))
