-- The one spelling of a value, by the name that it belongs to.
use Rattle.std.specs.Prelude.{◌≡◌, ℕ, Bool, true, List, ◌++◌, codes, Option, Some, None, option_map, Result, Ok, Err, if◌then◌else◌, ◌&&◌, String, string_bytes}
use Rattle.std.specs.Fmt.{decimal}
use Rattle.std.specs.declared.alloc.Global.{Global}
use Rattle.fd_spelling.specs.declared.meaning.Meaning.{Meaning}
use Rattle.fd_spelling.specs.declared.meaning.Meaning.TheVariants.{Centre, Date, Time, ProcessedType, Param, Levtype, Levelist, Step, Number, Stat, Other}
use Rattle.fd_spelling.specs.declared.fault.ValueFault.{ValueFault}
use Rattle.fd_spelling.specs.declared.fault.ValueFault.TheVariants.{BadValue, NoMemory}
use Rattle.fd_spelling.specs.Names.{lower, is_name, is_value, meaning_of}
use Rattle.fd_spelling.specs.Numerals.{number_up_to, cut, ◌>>=◌}
use Rattle.fd_spelling.specs.Steps.{step_spelling}
use Rattle.fd_spelling.specs.Civil.{date_spelling, time_spelling}
use Rattle.fd_spelling.specs.Levels.{levtype_spelling, levelist_spelling}
use Rattle.fd_spelling.specs.Stats.{stat_spelling}

-- `d.c.n`: discipline, category and number of a parameter
abbrev pub param_text : ℕ → ℕ → ℕ → List ℕ
param_text d c n = decimal d ++ codes "." ++ decimal c ++ codes "." ++ decimal n

-- three numbers up to 255, with points between them
unfoldable pub param_numbers : List ℕ → Option (ℕ × ℕ × ℕ)
param_numbers text = do
  front ← cut 46 text
  back ← cut 46 front.1
  d ← number_up_to 255 front.0
  c ← number_up_to 255 back.0
  n ← number_up_to 255 back.1
  Some (d, c, n)

abbrev pub param_of : ℕ × ℕ × ℕ → List ℕ
param_of p = param_text p.0 p.1 p.2

-- the one spelling of a text in lower case
unfoldable pub spelling : Meaning → List ℕ → Option (List ℕ)
spelling Centre text = option_map decimal (number_up_to 65535 text)
spelling Date text = date_spelling text
spelling Time text = time_spelling text
spelling ProcessedType text = option_map decimal (number_up_to 255 text)
spelling Param text = option_map param_of (param_numbers text)
spelling Levtype text = levtype_spelling text
spelling Levelist text = levelist_spelling text
spelling Step text = step_spelling text
spelling Number text = option_map decimal (number_up_to 255 text)
spelling Stat text = stat_spelling text
spelling Other text = Some text

-- a value, or a time, in which `:` may stand
abbrev pub is_text_of : Meaning → List ℕ → Bool
is_text_of Time text = true
is_text_of meaning text = is_value text

-- the one spelling of the text as a value of the name, if it is one
unfoldable pub canonical : List ℕ → List ℕ → Option (List ℕ)
canonical name text =
    if is_name (lower name) && is_text_of (meaning_of (lower name)) (lower text)
    then spelling (meaning_of (lower name)) (lower text)
    else None

-- the pair that a word `name=value` stands for, the value in its one spelling
unfoldable pub pair_of : List ℕ → Option (List ℕ × List ℕ)
pair_of word = do
  parts ← cut 61 word
  text ← canonical parts.0 parts.1
  Some (lower parts.0, text)

-- What a call answered is this text, or there is none. It may also have run out of memory.
abbrev pub GivesText : Result (String Global) ValueFault → Option (List ℕ) → Type 0
GivesText (Ok text) value = value ≡ Some (string_bytes text)
GivesText (Err BadValue) value = value ≡ None
GivesText (Err NoMemory) value = Unit {0}

-- The same of a name and its text.
abbrev pub GivesPair : Result (String Global × String Global) ValueFault → Option (List ℕ × List ℕ) → Type 0
GivesPair (Ok pair) value = value ≡ Some (string_bytes pair.0, string_bytes pair.1)
GivesPair (Err BadValue) value = value ≡ None
GivesPair (Err NoMemory) value = Unit {0}
