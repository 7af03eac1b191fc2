-- The parts of a field, as they lie in its message.
use Rattle.std.specs.Prelude.{◌*◌, ◌^◌, ◌<◌, ◌≤◌, length, IfSome, unsigned_abs}
use Rattle.std.specs.Option.{option_copied}
use Rattle.fd_packing.specs.declared.parts.Parts.{Parts}
use Rattle.fd_packing.specs.Packed.{Packed}
use Rattle.fd_packing.specs.Value.{IsNarrow, place_of}
use Rattle.fd_packing.specs.Field.{map_bits}

abbrev pub packed_of : Parts → Packed
packed_of p = record {
  reference = p.reference;
  binary_scale = p.binary_scale;
  decimal_scale = p.decimal_scale;
  width = p.width;
  map = map_bits p.points (option_copied p.map);
  octets = p.octets.now;
  points = p.points;
}

-- Each value can be read.
pub record IsSound (p : Parts) : Type 0 where
  pub narrow : IsNarrow p.reference p.binary_scale p.width
  pub decimal_scale : unsigned_abs p.decimal_scale < 2 ^ 15
  pub few : p.points < 2 ^ 32
  pub map_long : IfSome (option_copied p.map) (λ bytes. p.points ≤ 8 * length bytes)
  pub octets_long : place_of (map_bits p.points (option_copied p.map)) p.points * p.width ≤ 8 * length p.octets.now
