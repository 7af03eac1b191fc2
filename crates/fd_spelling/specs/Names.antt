-- Names and values of keys, in the manner of MARS: `name=value`.
use Rattle.std.specs.Prelude.{ℕ, Bool, false, List, [], ◌∷◌, length, codes, nat_le, nat_lt, ◌==◌, ◌&&◌, ◌||◌, if◌then◌else◌}
use Rattle.std.specs.List.{list_all}
use Rattle.std.specs.Str.{bytes_eq, str_to_ascii_lowercase}
use Rattle.fd_spelling.specs.declared.meaning.Meaning.{Meaning}
use Rattle.fd_spelling.specs.declared.meaning.Meaning.TheVariants.{Centre, Date, Time, ProcessedType, Param, Levtype, Levelist, Step, Number, Stat, Other}

-- upper-case letters are read as lower-case ones
abbrev pub lower : List ℕ → List ℕ
lower text = str_to_ascii_lowercase text

-- a byte of ASCII
abbrev pub is_ascii : ℕ → Bool
is_ascii b = nat_lt b 128

-- `a` to `z`
abbrev pub is_letter : ℕ → Bool
is_letter b = nat_le 97 b && nat_le b 122

-- `0` to `9`
abbrev pub is_digit : ℕ → Bool
is_digit b = nat_le 48 b && nat_le b 57

-- a letter, a digit or `_`
abbrev pub is_name_byte : ℕ → Bool
is_name_byte b = is_letter b || is_digit b || (b == 95)

-- a letter, a digit, `.`, `_`, `-` or `+`
abbrev pub is_value_byte : ℕ → Bool
is_value_byte b = is_letter b || is_digit b || (b == 46) || (b == 95) || (b == 45) || (b == 43)

-- a letter, and up to 15 letters, digits and `_`
abbrev pub is_name : List ℕ → Bool
is_name [] = false
is_name (b ∷ bs) = is_letter b && nat_le (length bs) 15 && list_all is_name_byte bs

-- 1 to 255 letters, digits, `.`, `_`, `-` and `+`
abbrev pub is_value : List ℕ → Bool
is_value text = nat_lt 0 (length text) && nat_le (length text) 255 && list_all is_value_byte text

-- what a name, in lower case, stands for
abbrev pub meaning_of : List ℕ → Meaning
meaning_of name =
    if bytes_eq name (codes "centre") then Centre
    else if bytes_eq name (codes "date") then Date
    else if bytes_eq name (codes "time") then Time
    else if bytes_eq name (codes "type") then ProcessedType
    else if bytes_eq name (codes "param") then Param
    else if bytes_eq name (codes "levtype") then Levtype
    else if bytes_eq name (codes "levelist") then Levelist
    else if bytes_eq name (codes "step") then Step
    else if bytes_eq name (codes "number") then Number
    else if bytes_eq name (codes "stat") then Stat
    else Other
