-- The values of a field, a line for each point.
use Rattle.std.specs.Prelude.{◌≡◌, ◌≢◌, ◌≤◌, ◌<◌, ◌+◌, ℕ, List, [], ◌∷◌, ◌++◌, codes, nat_lt, if◌then◌else◌, Option, Some, None, Result, Ok, Err}
use Rattle.std.specs.Fmt.{decimal}
use Rattle.fd_sections.specs.Message.{Sections}
use Rattle.fd_scaled.specs.declared.Scaled.{Scaled}
use Rattle.fd_scaled.specs.Decimal.{is_too_wide, rounded_text}
use Rattle.fd_scaled.specs.Text.{exact_text}
use Rattle.fd_packing.specs.declared.fault.FieldFault.{FieldFault}
use Rattle.fd_packing.specs.declared.fault.FieldFault.TheVariants as fields
use Rattle.fd_packing.specs.Packed.{Packed}
use Rattle.fd_packing.specs.Field.{field_of}
use Rattle.fd_packing.specs.Value.{values_of}
use Rattle.fd_listing.specs.declared.fault.ValuesFault.{ValuesFault}
use Rattle.fd_listing.specs.declared.fault.ValuesFault.TheVariants.{Field, Points, Write, NoMemory}
use Rattle.fd_listing.specs.Lines.{blank, line}

-- A value: exactly, or with so many decimals, unless it is too wide for them. A point without a value has a minus.
abbrev pub number_text : Option ℕ → Scaled → List ℕ
number_text None value = exact_text value
number_text (Some d) value = if is_too_wide value d then exact_text value else rounded_text value d

abbrev pub value_text : Option ℕ → Option Scaled → List ℕ
value_text decimals None = codes "-"
value_text decimals (Some value) = number_text decimals value

-- the number of the message, the number of the point, from 0, and the value
abbrev pub value_line : ℕ → ℕ → List ℕ → List ℕ
value_line number point value = line (decimal number ++ blank (decimal point ++ blank value))

-- the lines of the points from this one on
unfoldable pub lines_from : ℕ → Option ℕ → ℕ → List (Option Scaled) → List ℕ
lines_from number decimals point [] = []
lines_from number decimals point (value ∷ values) = value_line number point (value_text decimals value) ++ lines_from number decimals (point + 1) values

-- the lines of all points
abbrev pub values_text : ℕ → Option ℕ → List (Option Scaled) → List ℕ
values_text number decimals values = lines_from number decimals 0 values

-- how many points a field may have
abbrev pub most_points : ℕ
most_points = 134217728

-- the lines of a field: none where it is refused
abbrev pub field_text : ℕ → Option ℕ → Result Packed FieldFault → List ℕ
field_text number decimals (Err fault) = []
field_text number decimals (Ok field) = if nat_lt most_points field.points then [] else values_text number decimals (values_of field)

-- the lines of a message
abbrev pub message_values : ℕ → Option ℕ → Sections → List ℕ
message_values number decimals message = field_text number decimals (field_of message)

-- the field is read, and has so many points or fewer
abbrev pub IsListed : Result Packed FieldFault → Type 0
IsListed (Err fault) = ⊥
IsListed (Ok field) = field.points ≤ most_points

-- the field is read, and has so many points, which are too many
abbrev pub IsTooLarge : Result Packed FieldFault → ℕ → Type 0
IsTooLarge (Err fault) points = ⊥
IsTooLarge (Ok field) points = (field.points ≡ points) × (most_points < points)

-- What was answered tells whether the field was refused, and why.
abbrev pub AnswersField : {A X : Type 0} → Result A (ValuesFault X) → Result Packed FieldFault → Type 0
AnswersField (Ok done) field = IsListed field
AnswersField (Err (Field fault)) field = field ≡ Err fault
AnswersField (Err (Points points)) field = IsTooLarge field points
AnswersField (Err (Write fault)) field = IsListed field
AnswersField (Err NoMemory) field = IsListed field

-- No fault of the field is want of memory.
abbrev pub HoldsNoWant : {A X : Type 0} → Result A (ValuesFault X) → Type 0
HoldsNoWant (Ok done) = Unit {0}
HoldsNoWant (Err (Field fault)) = fault ≢ fields.NoMemory
HoldsNoWant (Err (Points points)) = Unit {0}
HoldsNoWant (Err (Write fault)) = Unit {0}
HoldsNoWant (Err NoMemory) = Unit {0}
