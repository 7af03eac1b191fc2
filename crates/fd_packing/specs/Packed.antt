-- What contracts see of a field in simple packing.
use Rattle.std.specs.Prelude.{ℕ, ℤ, List, Option}
use Rattle.fd_packing.specs.declared.ieee.Reference.{Reference}

-- the reference value R, the scale factors E and D, how many bits each packed number has, a bit for each point where
-- there is a bit map, the packed octets, and the number of points
pub record Packed : Type 0 where
  pub reference : Reference
  pub binary_scale : ℤ
  pub decimal_scale : ℤ
  pub width : ℕ
  pub map : Option (List ℕ)
  pub octets : List ℕ
  pub points : ℕ
