-- The fields that are whole in what was read, and the place of each.
use Rattle.std.specs.Prelude.{◌≡◌, ◌⊎◌, ◌≤◌, ◌<◌, ◌+◌, ◌*◌, ℕ, Bool, true, false, List, [], ◌∷◌, ◌++◌, length, Option, Some, None, Result, Ok, Err, string_bytes}
use Rattle.fd_sections.specs.Message.{Sections, message_octets}
use Rattle.fd_sections.specs.Progress.{Progress}
use Rattle.fd_sections.specs.Reading.{reading}
use Rattle.fd_bytes.specs.declared.memory.NoMemory.{NoMemory}
use Rattle.fd_split.specs.Reading.{Wrong, NoMessage, NoMap}
use Rattle.fd_split.specs.declared.fault.SplitFault.{SplitFault}
use Rattle.fd_split.specs.declared.fault.SplitFault.TheVariants as faults
use Rattle.fd_key.specs.Keys.{key_of}
use Rattle.fd_key.specs.Pairs as keys
use Rattle.fd_key.specs.Pairs.{key_text}
use Rattle.fd_schema.specs.Rules.{IsShort, Rule, place_from}
use Rattle.fd_schema.specs.Reading.{seen_place}
use Rattle.fd_schema.specs.declared.place.Place.{Place}
use Rattle.fd_split.specs.Fields.{numbered, refusal_at}
use Rattle.fd_split.specs.Positions.{FieldsOn, IsIdle, Position, RefusesNext, weight}
use Rattle.fd_split.specs.declared.refusal.Refusal.TheVariants as refusals
use Rattle.fd_sheets.specs.declared.sheets.Sheet.{Sheet}
use Rattle.fd_sheets.specs.declared.sheets.Unplaced.{Unplaced}
use Rattle.fd_sheets.specs.declared.sheets.Unplaced.TheVariants as reasons
use Rattle.fd_sheets.specs.declared.sheets.Unsplit.{Unsplit}
use Rattle.fd_sheets.specs.declared.sheets.Unsplit.TheVariants as ends

-- ---- fields

-- the octets of a field, as a message of its own, which has these sections
pub record IsWholeField (f : Sections) (bytes : List ℕ) : Type 0 where
  pub octets : bytes ≡ message_octets f
  pub reads : reading bytes ≡ Ok f
  pub some : 16 ≤ length bytes
  pub limit : length bytes ≤ 134217728

-- a field that came between two positions of a stream, with the number of its message
pub record IsSheet (a b : Position) (f : Sections) (s : Sheet) : Type 0 where
  pub on : FieldsOn a b (numbered s.number f ∷ [])
  pub from_one : 1 ≤ s.number
  pub whole : IsWholeField f s.bytes
  pub fits : weight b + 16 ≤ weight a

-- between two positions of a stream no field came
pub record Passes (a b : Position) : Type 0 where
  pub on : FieldsOn a b []
  pub fits : weight b ≤ weight a

-- between two positions of a stream these fields came, one behind the other
abbrev pub Staged : Position → List Sheet → Position → Type 0
Staged a [] b = Passes a b
Staged a (s ∷ ss) b = (f : Sections) × (c : Position) × IsSheet a c f s × Staged c ss b

-- so many fields came of a stream, these of the message that was split off last are to come, and then what the splitter holds
abbrev pub standing : Progress → List Sections → ℕ → Position
standing p fs n = record { split = p; rest = fs; count = n }

-- of these fields of message n the first were taken, and these are left
abbrev pub AreTaken : ℕ → List Sections → List Sheet → List Sections → Type 0
AreTaken n fs [] left = fs ≡ left
AreTaken n [] (s ∷ ss) left = ⊥
AreTaken n (f ∷ fs) (s ∷ ss) left = (s.number ≡ n) × IsWholeField f s.bytes × AreTaken n fs ss left

-- of these fields of message n some were taken behind others, and these are left
pub record TookFields (n : ℕ) (fs left : List Sections) (before after : List Sheet) : Type 0 where
  pub fresh : List Sheet
  pub adds : after ≡ before ++ fresh
  pub taken : AreTaken n fs fresh left

-- a field with these octets was taken behind others, or memory ran out before
abbrev pub TookOne : ℕ → List ℕ → List Sheet → List Sheet → Result (Unit {0}) NoMemory → Type 0
TookOne n octets before after (Ok done) = (s : Sheet) × (after ≡ before ++ s ∷ []) × (s.number ≡ n) × (s.bytes ≡ octets)
TookOne n octets before after (Err e) = after ≡ before

-- some are taken, where there were some
abbrev pub TookSome : List Sections → List Sheet → List Sheet → Result (Unit {0}) NoMemory → Type 0
TookSome fs before after (Ok done) = 0 < length fs → length before < length after
TookSome fs before after (Err e) = Unit {0}

-- why message n isn't split, as it is told
abbrev pub IsUnsplit : ℕ → SplitFault → Unsplit → Type 0
IsUnsplit n (faults.Bad bad) end = end ≡ ends.Message (record { number = n; bad = bad })
IsUnsplit n (faults.NoMap field) end = end ≡ ends.NoMap n field
IsUnsplit n faults.NoMemory end = end ≡ ends.NoMemory

-- Of message n, which is read so, some fields were taken behind others, and these are left; or it is refused; or memory ran out.
abbrev pub TookMessage : ℕ → Result (List Sections) Wrong → List Sections → List Sheet → List Sheet → Result (Unit {0}) Unsplit → Type 0
TookMessage n read left before after (Ok done) = (fs : List Sections) × (read ≡ Ok fs) × TookFields n fs left before after × (length before < length after)
TookMessage n read left before after (Err (ends.Message at)) = (after ≡ before) × (at.number ≡ n) × (read ≡ Err (NoMessage at.bad))
TookMessage n read left before after (Err (ends.NoMap number field)) = (after ≡ before) × (number ≡ n) × (read ≡ Err (NoMap field))
TookMessage n read left before after (Err ends.NoMemory) = (after ≡ before) ⊎ ((fs : List Sections) × (read ≡ Ok fs) × TookFields n fs left before after)

-- why no field comes at this position
abbrev pub Unsplits : Position → Unsplit → Type 0
Unsplits a (ends.Message at) = RefusesNext a (refusal_at at.number at.bad) at.number
Unsplits a (ends.NoMap number field) = RefusesNext a (refusals.NoMap number field) number
Unsplits a ends.NoMemory = Unit {0}

-- From this position fields were taken behind others, some of them where there are any; or why no more come.
abbrev pub Next : Position → Progress → List Sections → List Sheet → List Sheet → Result Bool Unsplit → Type 0
Next a q left before after (Ok true) = (fresh : List Sheet) × (after ≡ before ++ fresh) × Staged a fresh (standing q left (a.count + length fresh)) × (0 < length fresh)
Next a q left before after (Ok false) = (after ≡ before) × Passes a (standing q left a.count) × IsIdle (standing q left a.count)
Next a q left before after (Err end) = (fresh : List Sheet) × (b : Position) × (after ≡ before ++ fresh) × Staged a fresh b × Unsplits b end

-- what is held and to come when so many sheets are there has no more room than before
abbrev pub Shrinks : Progress → List Sections → List Sheet → Progress → List Sections → List Sheet → Type 0
Shrinks p fs before q left after = 16 * length after + weight (standing q left 0) ≤ 16 * length before + weight (standing p fs 0)

-- where fields are to come, they are those of a message that was split off
abbrev pub IsOpen : Progress → List Sections → Type 0
IsOpen p fs = 0 < length fs → 1 ≤ p.given

-- Behind the fields that were taken: the splitter stands there, and no message is whole, unless they are enough; or the next message is
-- refused.
abbrev pub Stays : Position → Position → Result Bool Unsplit → Type 0
Stays a b (Ok enough) = (b ≡ a) × (enough ≡ false → IsIdle b)
Stays a b (Err end) = Unsplits a end

-- some are, where they are enough
abbrev pub AreSome : List Sheet → Result Bool Unsplit → Type 0
AreSome sheets (Ok enough) = enough ≡ true → 0 < length sheets
AreSome sheets (Err end) = Unit {0}

-- from this position these fields were taken, and why no more were
pub record Took (a : Position) (q : Progress) (left : List Sections) (sheets : List Sheet) (result : Result Bool Unsplit) : Type 0 where
  pub middle : Position
  pub staged : Staged a sheets middle
  pub stays : Stays middle (standing q left (a.count + length sheets)) result
  pub some : AreSome sheets result

-- ---- places

-- the place of a field, or why it has none
abbrev pub FoundAs : List Rule → List keys.Pair → Sections → Result Place Unplaced → Type 0
FoundAs rules given m (Ok place) = IsShort (seen_place place) × ((key : List keys.Pair) × (key_of m given ≡ Ok key) × (place_from 0 rules key ≡ Some (seen_place place)))
FoundAs rules given m (Err (reasons.Key fault)) = key_of m given ≡ Err fault
FoundAs rules given m (Err (reasons.NoRule text)) = (key : List keys.Pair) × (key_of m given ≡ Ok key) × (place_from 0 rules key ≡ None) × (string_bytes text ≡ key_text key)
FoundAs rules given m (Err reasons.NoMemory) = Unit {0}

abbrev pub IsFound : List Rule → List keys.Pair → Sections → Option (Result Place Unplaced) → Type 0
IsFound rules given m None = ⊥
IsFound rules given m (Some found) = FoundAs rules given m found

-- its octets are a message
abbrev pub IsReadable : Sheet → Type 0
IsReadable s = (m : Sections) × (reading s.bytes ≡ Ok m)

-- a sheet before and after its place was looked for
pub record IsLookedUp (rules : List Rule) (given : List keys.Pair) (s t : Sheet) : Type 0 where
  pub number : t.number ≡ s.number
  pub bytes : t.bytes ≡ s.bytes
  pub found : (m : Sections) → reading s.bytes ≡ Ok m → IsFound rules given m t.found

-- between two positions of a stream these fields came, and these are their places
abbrev pub Placed : List Rule → List keys.Pair → Position → List Sheet → Position → Type 0
Placed rules given a [] b = Passes a b
Placed rules given a (s ∷ ss) b = (f : Sections) × (c : Position) × IsSheet a c f s × IsFound rules given f s.found × Placed rules given c ss b
