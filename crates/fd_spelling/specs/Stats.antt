-- Statistics over time ranges: code table 4.10 of FM 92 GRIB, and the texts of `stat`.
use Rattle.std.specs.Prelude.{ℕ, Bool, true, false, List, [], ◌∷◌, ◌++◌, codes, Option, Some, option_map, if◌then◌else◌}
use Rattle.std.specs.Str.{bytes_eq}
use Rattle.std.specs.Fmt.{decimal}
use Rattle.fd_spelling.specs.Numerals.{number_up_to, cut, ◌>>=◌}
use Rattle.fd_spelling.specs.Pieces.{pieces}
use Rattle.fd_spelling.specs.Steps.{unsigned_step}

-- a process, and the length of its time range in the spelling of a step
abbrev pub part_text : ℕ → List ℕ → List ℕ
part_text process length = decimal process ++ codes "." ++ length

-- parts with `+` between them; before the first there is none
unfoldable pub parts_text : Bool → List (List ℕ) → List ℕ
parts_text first [] = []
parts_text first (p ∷ ps) = (if first then [] else codes "+") ++ p ++ parts_text false ps

-- `p.l`: a number up to 255, and a step without `-`
unfoldable pub part_spelling : List ℕ → Option (List ℕ)
part_spelling text = do
  parts ← cut 46 text
  process ← number_up_to 255 parts.0
  length ← unsigned_step false parts.1
  Some (part_text process length)

-- the spellings of all parts, where each has one
unfoldable pub parts_spelled : List (List ℕ) → Option (List (List ℕ))
parts_spelled [] = Some []
parts_spelled (p ∷ ps) = do
  text ← part_spelling p
  texts ← parts_spelled ps
  Some (text ∷ texts)

-- parts joined by `+`
unfoldable pub joined_spelling : List ℕ → Option (List ℕ)
joined_spelling text = option_map (parts_text true) (parts_spelled (pieces 43 text))

-- `none`, or parts joined by `+`
unfoldable pub stat_spelling : List ℕ → Option (List ℕ)
stat_spelling text = if bytes_eq text (codes "none") then Some (codes "none") else joined_spelling text
