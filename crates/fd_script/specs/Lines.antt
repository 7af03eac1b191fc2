-- The lines of a script, and what one of them says.
use Rattle.std.specs.Prelude.{ℕ, ◌+◌, length, Bool, true, List, [], ◌∷◌, codes, ◌==◌, if◌then◌else◌, Option, Some, None}
use Rattle.std.specs.List.{slice_split}
use Rattle.std.specs.Str.{bytes_eq}
use Rattle.fd_spelling.specs.Numerals.{cut}

-- The lines of a text. Behind each but the last stands a line feed; the last is what stands behind the last line feed.
abbrev pub lines_of : List ℕ → List (List ℕ)
lines_of text = slice_split (λ b. b == 10) text

-- what a step's line asks for: `put NUMBER`, `flush`, `get REQUEST`
pub data Task : Type 0 where
  PutOf : (number : List ℕ) → Task
  FlushNow : Task
  GetOf : (request : List ℕ) → Task

-- what a line says: nothing, where it is empty or begins with `#`; `dataset TEXT`; `lane NAME PAIRS`; a step; `messages`
pub data Said : Type 0 where
  Silent : Said
  DatasetIs : (text : List ℕ) → Said
  LaneBegins : (name : List ℕ) → (pairs : List ℕ) → Said
  Asks : (task : Task) → Said
  MessagesFollow : Said
  Unknown : Said

-- the line says nothing
abbrev pub is_silent : List ℕ → Bool
is_silent [] = true
is_silent (b ∷ bs) = b == 35

abbrev pub lane_said : Option (List ℕ × List ℕ) → Said
lane_said None = Unknown
lane_said (Some p) = LaneBegins p.0 p.1

-- what is said by a word and by what stands behind the blank after it
abbrev pub words_said : List ℕ → List ℕ → Said
words_said word rest =
    if bytes_eq word (codes "dataset") then DatasetIs rest
    else if bytes_eq word (codes "lane") then lane_said (cut 32 rest)
    else if bytes_eq word (codes "put") then Asks (PutOf rest)
    else if bytes_eq word (codes "get") then Asks (GetOf rest)
    else Unknown

abbrev pub parts_said : Option (List ℕ × List ℕ) → Said
parts_said None = Unknown
parts_said (Some p) = words_said p.0 p.1

abbrev pub word_said : List ℕ → Said
word_said line =
    if bytes_eq line (codes "flush") then Asks FlushNow
    else if bytes_eq line (codes "messages") then MessagesFollow
    else parts_said (cut 32 line)

unfoldable pub said : List ℕ → Said
said line = if is_silent line then Silent else word_said line

-- the lines of what stands behind a line feed, if there is one
abbrev pub lines_if : Option (List ℕ) → List (List ℕ)
lines_if None = []
lines_if (Some text) = lines_of text

-- how many bytes a text has, and one, if there is a text
abbrev pub length_if : Option (List ℕ) → ℕ
length_if None = 0
length_if (Some text) = length text + 1
