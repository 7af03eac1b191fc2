-- What a message holds, in lines: the numbers of its sections, and its key (FM 92 GRIB, sections 0 to 6).
use Rattle.std.specs.Prelude.{ℕ, ℤ, List, [], ◌∷◌, ◌++◌, codes, Option, Some, Result, Ok, Err}
use Rattle.std.specs.Fmt.{decimal}
use Rattle.fd_bytes.specs.Numbers.{octets}
use Rattle.fd_sections.specs.Message.{Sections}
use Rattle.fd_templates.specs.declared.identification.Ident.{Ident}
use Rattle.fd_templates.specs.declared.grid.LatLon.{LatLon}
use Rattle.fd_templates.specs.declared.simple.Simple.{Simple}
use Rattle.fd_templates.specs.declared.fault.TemplateFault.{TemplateFault}
use Rattle.fd_templates.specs.declared.fault.TemplateFault.TheVariants.{Other, BadLength}
use Rattle.fd_templates.specs.Identification.{identification_of}
use Rattle.fd_templates.specs.Grid.{grid_is}
use Rattle.fd_templates.specs.Simple.{simple_is}
use Rattle.fd_key.specs.declared.fault.KeyFault.{KeyFault}
use Rattle.fd_key.specs.Pairs.{Pair, key_text}
use Rattle.fd_key.specs.Keys.{key_of}
use Rattle.fd_key.specs.FaultTexts.{key_fault_text}
use Rattle.fd_listing.specs.Lines.{blank, line}
use Rattle.fd_listing.specs.Numbers.{number_or_minus, numbers_text, plain, plain_if}
use Rattle.fd_listing.specs.Products.{product_line}

-- ---- Section 0: the number of the message in its stream, and its length

abbrev pub message_line : ℕ → List ℕ → List ℕ
message_line number indicator = line (codes "message " ++ decimal number ++ codes " length " ++ decimal (octets 9 16 indicator))

-- ---- Section 1, from octet 6 on

unfoldable pub ident_numbers : Ident → List (Option ℤ)
ident_numbers i =
    plain i.centre
    ∷ plain i.sub_centre
    ∷ plain i.master_tables_version
    ∷ plain i.local_tables_version
    ∷ plain i.reference_time_significance
    ∷ plain i.reference_time.year
    ∷ plain i.reference_time.month
    ∷ plain i.reference_time.day
    ∷ plain i.reference_time.hour
    ∷ plain i.reference_time.minute
    ∷ plain i.reference_time.second
    ∷ plain i.production_status
    ∷ plain i.data_type
    ∷ []

abbrev pub ident_line : List ℕ → List ℕ
ident_line identification = line (codes "ident" ++ numbers_text (ident_numbers (identification_of identification)))

-- ---- A section with a template: what it has, or why its numbers are not read

abbrev pub template_line : List ℕ → Result (List ℕ) TemplateFault → List ℕ
template_line name (Ok numbers) = line (name ++ codes " 0" ++ numbers)
template_line name (Err (Other template)) = line (name ++ blank (decimal template ++ codes " unread"))
template_line name (Err (BadLength said)) = line (name ++ codes " 0 short")

abbrev pub map_ok : {A B E : Type 0} → (A → B) → Result A E → Result B E
map_ok f (Ok x) = Ok (f x)
map_ok f (Err e) = Err e

-- ---- Section 3

unfoldable pub grid_numbers : LatLon → List (Option ℤ)
grid_numbers g =
    plain g.points
    ∷ plain g.earth_shape
    ∷ g.radius_factor
    ∷ g.radius
    ∷ g.major_axis_factor
    ∷ g.major_axis
    ∷ g.minor_axis_factor
    ∷ g.minor_axis
    ∷ plain g.ni
    ∷ plain g.nj
    ∷ plain g.basic_angle
    ∷ plain_if g.subdivisions
    ∷ Some g.la1
    ∷ Some g.lo1
    ∷ plain g.resolution_flags
    ∷ Some g.la2
    ∷ Some g.lo2
    ∷ plain g.di
    ∷ plain g.dj
    ∷ plain g.scanning_mode
    ∷ []

abbrev pub grid_text : LatLon → List ℕ
grid_text g = codes " points" ++ numbers_text (grid_numbers g)

abbrev pub grid_line : List ℕ → List ℕ
grid_line grid = template_line (codes "grid") (map_ok grid_text (grid_is grid))

-- ---- Section 5

-- a name and its number
unfoldable pub named : List ℕ → Option ℤ → List ℕ
named name number = blank name ++ blank (number_or_minus number)

-- what values are made of: value * 10^D = R + X * 2^E, with R by its octets
unfoldable pub formula_text : Simple → List ℕ
formula_text p =
    named (codes "reference") (plain p.reference)
    ++ named (codes "binary") (Some p.binary_scale)
    ++ named (codes "decimal") (Some p.decimal_scale)

unfoldable pub packing_text : Simple → List ℕ
packing_text p =
    named (codes "coded") (plain p.coded)
    ++ formula_text p
    ++ named (codes "bits") (plain p.bits)
    ++ named (codes "original") (plain p.original_type)

abbrev pub packing_line : List ℕ → List ℕ
packing_line representation = template_line (codes "packing") (map_ok packing_text (simple_is representation))

-- ---- Section 6: the bit map indicator

abbrev pub map_line : List ℕ → List ℕ
map_line bit_map = line (codes "map " ++ decimal (octets 6 6 bit_map))

-- ---- The key, or why there is none

abbrev pub key_line_text : Result (List Pair) KeyFault → List ℕ
key_line_text (Ok pairs) = key_text pairs
key_line_text (Err fault) = codes "refused " ++ key_fault_text fault

abbrev pub key_line : Sections → List ℕ
key_line message = line (codes "key " ++ key_line_text (key_of message []))

-- ---- The lines of a message with this number

unfoldable pub describe_text : ℕ → Sections → List ℕ
describe_text number message =
    message_line number message.indicator
    ++ ident_line message.identification
    ++ grid_line message.grid
    ++ product_line message.product
    ++ packing_line message.representation
    ++ map_line message.bit_map
    ++ key_line message
