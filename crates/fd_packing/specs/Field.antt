-- Reading a field in simple packing from the sections of its message: what is kept of it, or the first fault.
use Rattle.std.specs.Prelude.{ℕ, ◌+◌, ◌-◌, ◌*◌, ◌/◌, ◌^◌, max, List, length, take, drop, ◌==◌, ◌||◌, not, nat_lt, nat_le, if◌then◌else◌, Option, Some, None, Result, Ok, Err}
use Rattle.std.specs.Option.{option_map}
use Rattle.fd_bytes.specs.Numbers.{octets}
use Rattle.fd_sections.specs.Message.{Sections}
use Rattle.fd_templates.specs.declared.simple.Simple.{Simple}
use Rattle.fd_templates.specs.declared.fault.TemplateFault.{TemplateFault}
use Rattle.fd_templates.specs.Simple.{simple_is}
use Rattle.fd_packing.specs.declared.ieee.Reference.{Reference}
use Rattle.fd_packing.specs.declared.fault.FieldFault.{FieldFault}
use Rattle.fd_packing.specs.declared.fault.FieldFault.TheVariants.{Bits, ReferenceNotFinite, TooWide, BitMap, MapShort, Count, PackedShort}
use Rattle.fd_packing.specs.Bits.{bits_of}
use Rattle.fd_packing.specs.Faults.{of_template}
use Rattle.fd_packing.specs.Packed.{Packed}
use Rattle.fd_packing.specs.Reference.{reference_of}
use Rattle.fd_packing.specs.Value.{first_addend, second_addend, digits, place_of}

infixl 10 ◌>>=◌
abbrev pub ◌>>=◌ : {A B : Type 0} → Result A FieldFault → (A → Result B FieldFault) → Result B FieldFault
(Ok x) >>= f = f x
(Err e) >>= f = Err e

-- the template of section 5
abbrev pub template_of : Result Simple TemplateFault → Result Simple FieldFault
template_of (Ok p) = Ok p
template_of (Err fault) = Err (of_template fault)

-- the reference value r, where its sums with packed numbers have at most 127 digits
abbrev pub narrow : Simple → Reference → Result Reference FieldFault
narrow p r =
    let a = first_addend r p.binary_scale p.bits in
    let b = second_addend r p.binary_scale p.bits in
    if nat_le (2 ^ 127) (a + b) then Err (TooWide (max (digits a) (digits b))) else Ok r

abbrev pub finite : Simple → Option Reference → Result Reference FieldFault
finite p None = Err (ReferenceNotFinite p.reference)
finite p (Some r) = narrow p r

unfoldable pub scaling_of : Simple → Result Reference FieldFault
scaling_of p = if nat_lt 64 p.bits then Err (Bits p.bits) else finite p (reference_of p.reference)

-- how many octets hold so many bits
abbrev pub octets_for : ℕ → ℕ
octets_for bits = (bits + 7) / 8

-- the octets of the bit map in section 6; indicator 0: it follows, 255: there is none
unfoldable pub map_of : List ℕ → ℕ → Result (Option (List ℕ)) FieldFault
map_of section points =
    if octets 6 6 section == 255 then Ok None
    else if not (octets 6 6 section == 0) then Err (BitMap (octets 6 6 section))
    else if nat_lt (length section) (6 + octets_for points) then Err (MapShort (6 + octets_for points) (length section))
    else Ok (Some (drop 6 section))

-- a bit for each point
abbrev pub map_bits : ℕ → Option (List ℕ) → Option (List ℕ)
map_bits points map = option_map (λ bytes. take points (bits_of bytes)) map

-- the packed octets of section 7, for so many coded values of w bits, where so many points have a value
unfoldable pub octets_at : List ℕ → ℕ → ℕ → ℕ → Result (List ℕ) FieldFault
octets_at section coded w there =
    if not (w == 0 || coded == there) then Err (Count coded there)
    else if nat_lt (length section - 5) (octets_for (coded * w)) then Err (PackedShort (octets_for (coded * w)) (length section - 5))
    else Ok (drop 5 section)

unfoldable pub field_of : Sections → Result Packed FieldFault
field_of s = do
  p ← template_of (simple_is s.representation)
  r ← scaling_of p
  map ← map_of s.bit_map (octets 7 10 s.grid)
  packed ← octets_at s.values p.coded p.bits (place_of (map_bits (octets 7 10 s.grid) map) (octets 7 10 s.grid))
  Ok (record { reference = r; binary_scale = p.binary_scale; decimal_scale = p.decimal_scale; width = p.bits; map = map_bits (octets 7 10 s.grid) map; octets = packed; points = octets 7 10 s.grid })
