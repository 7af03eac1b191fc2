-- The key of a message: what its sections say, and then the pairs that the writer gives.
use Rattle.std.specs.Prelude.{◌≡◌, ℕ, Bool, ◌&&◌, Option, Some, None, unsigned_abs, List, [], ◌∷◌, ◌++◌, ◌==◌, length, codes, Result, Ok, Err, nat_lt, if◌then◌else◌}
use Rattle.std.specs.Int.{is_negative}
use Rattle.std.specs.Fmt.{decimal}
use Rattle.fd_sections.specs.Message.{Sections}
use Rattle.fd_templates.specs.declared.identification.Ident.{Ident}
use Rattle.fd_templates.specs.declared.product.Product.{Product}
use Rattle.fd_templates.specs.declared.ensemble.Ensemble.{Ensemble}
use Rattle.fd_templates.specs.declared.interval.Interval.{Interval}
use Rattle.fd_templates.specs.declared.any_product.AnyProduct.{AnyProduct}
use Rattle.fd_templates.specs.declared.fault.TemplateFault.{TemplateFault}
use Rattle.fd_templates.specs.declared.fault.TemplateFault.TheVariants.{Other, BadLength}
use Rattle.fd_templates.specs.Octets as octets
use Rattle.fd_templates.specs.Identification.{identification_of}
use Rattle.fd_templates.specs.AnyProduct.{any_product_is}
use Rattle.fd_key.specs.declared.fault.KeyFault.{KeyFault}
use Rattle.fd_key.specs.declared.fault.KeyFault.TheVariants as faults
use Rattle.fd_key.specs.Pairs.{Pair, key_text}
use Rattle.fd_spelling.specs.Steps.{step_text}
use Rattle.fd_spelling.specs.Civil.{is_date, is_time, date_text, time_text}
use Rattle.fd_spelling.specs.Levels.{levtype_text}
use Rattle.fd_key.specs.Fields.{levels_of}
use Rattle.fd_key.specs.Fields.{ranges_text}
use Rattle.fd_spelling.specs.Canonical.{param_text}

-- the forecast time
abbrev pub step_of : Product → List ℕ
step_of p = step_text (is_negative p.forecast_time) (unsigned_abs p.forecast_time) p.time_unit

-- the day of the reference time
abbrev pub date_of : Ident → List ℕ
date_of i = date_text i.reference_time.year i.reference_time.month i.reference_time.day

-- its time of day
abbrev pub time_of : Ident → List ℕ
time_of i = time_text i.reference_time.hour i.reference_time.minute i.reference_time.second

-- the quantity, by its discipline, category and number
abbrev pub param_in : ℕ → Product → List ℕ
param_in discipline p = param_text discipline p.category p.parameter

-- the types of the surfaces
abbrev pub levtype_of : Product → List ℕ
levtype_of p = levtype_text p.first_surface_type p.second_surface_type

-- the pairs of section 1
abbrev pub origin_pairs : Ident → List Pair
origin_pairs i =
    (codes "centre", decimal i.centre)
    ∷ (codes "date", date_of i)
    ∷ (codes "time", time_of i)
    ∷ (codes "type", decimal i.data_type)
    ∷ []

-- the pair of a name that may have no text
abbrev pub pair_if : List ℕ → Option (List ℕ) → List Pair
pair_if name None = []
pair_if name (Some text) = (name, text) ∷ []

-- the number of the member of an ensemble, unless it is missing
abbrev pub number_of : Option Ensemble → Option (List ℕ)
number_of None = None
number_of (Some e) = if e.number == 255 then None else Some (decimal e.number)

-- the statistics over the time ranges of an interval
abbrev pub stat_of : Option Interval → Option (List ℕ)
stat_of None = None
stat_of (Some i) = Some (ranges_text i.ranges)

-- the pairs of sections 0 and 4 that each of the templates has
abbrev pub field_pairs : ℕ → Product → List Pair
field_pairs discipline p =
    (codes "param", param_in discipline p)
    ∷ (codes "levtype", levtype_of p)
    ∷ (pair_if (codes "levelist") (levels_of p) ++ (codes "step", step_of p) ∷ [])

-- the pairs of an ensemble and of an interval
abbrev pub added_pairs : AnyProduct → List Pair
added_pairs p = pair_if (codes "number") (number_of p.ensemble) ++ pair_if (codes "stat") (stat_of p.interval)

-- the pairs of sections 0, 1 and 4
abbrev pub pairs_in : ℕ → Ident → AnyProduct → List Pair
pairs_in discipline i p = origin_pairs i ++ field_pairs discipline p.base ++ added_pairs p

-- the discipline stands in octet 7 of section 0
abbrev pub discipline_of : List ℕ → ℕ
discipline_of indicator = octets.number 7 7 indicator

-- the reference time is a day of the years 0 to 9999 and a time of day
abbrev pub has_date : Ident → Bool
has_date i = is_date i.reference_time.year i.reference_time.month i.reference_time.day && is_time i.reference_time.hour i.reference_time.minute i.reference_time.second

abbrev pub dated_pairs : ℕ → Ident → AnyProduct → Result (List Pair) KeyFault
dated_pairs discipline i p = if has_date i then Ok (pairs_in discipline i p) else Err faults.BadDate

abbrev pub pairs_or : ℕ → Ident → Result AnyProduct TemplateFault → Result (List Pair) KeyFault
pairs_or discipline i (Err (Other template)) = Err (faults.Product template)
pairs_or discipline i (Err (BadLength said)) = Err (faults.ProductLength said)
pairs_or discipline i (Ok p) = dated_pairs discipline i p

-- the pairs that a message has of its own, or why there are none
unfoldable pub message_pairs : Sections → Result (List Pair) KeyFault
message_pairs m = pairs_or (discipline_of m.indicator) (identification_of m.identification) (any_product_is m.product)

-- all pairs, unless their text is over 255 bytes
unfoldable pub within_limit : List Pair → Result (List Pair) KeyFault
within_limit pairs = if nat_lt 255 (length (key_text pairs)) then Err (faults.KeyTooLong (length (key_text pairs))) else Ok pairs

abbrev pub with_given : Result (List Pair) KeyFault → List Pair → Result (List Pair) KeyFault
with_given (Ok own) given = within_limit (own ++ given)
with_given (Err fault) given = Err fault

-- the key of a message with the given pairs, or why it has none
unfoldable pub key_of : Sections → List Pair → Result (List Pair) KeyFault
key_of m given = with_given (message_pairs m) given

-- What a call answered is this key, or why there is none. It may also have run out of memory.
abbrev pub GivesKey : Result (List Pair) KeyFault → Result (List Pair) KeyFault → Type 0
GivesKey (Ok pairs) read = read ≡ Ok pairs
GivesKey (Err faults.NoMemory) read = Unit {0}
GivesKey (Err (faults.Product template)) read = read ≡ Err (faults.Product template)
GivesKey (Err (faults.ProductLength said)) read = read ≡ Err (faults.ProductLength said)
GivesKey (Err faults.BadDate) read = read ≡ Err faults.BadDate
GivesKey (Err (faults.KeyTooLong len)) read = read ≡ Err (faults.KeyTooLong len)

-- The same of a call that put the pairs of the key in place of others.
abbrev pub FillsKey : List Pair → Result (Unit {0}) KeyFault → Result (List Pair) KeyFault → Type 0
FillsKey pairs (Ok done) read = GivesKey (Ok pairs) read
FillsKey pairs (Err fault) read = GivesKey (Err fault) read
