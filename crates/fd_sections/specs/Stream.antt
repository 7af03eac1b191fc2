-- A stream of messages. Octets before a `GRIB` are skipped, and counted.
use Rattle.std.specs.Prelude.{◌+◌, ◌-◌, ℕ, List, [], ◌∷◌, ◌++◌, length, take, drop, Result, Ok, Err, nat_lt, nat_eq, ◌==◌, not, if◌then◌else◌}
use Rattle.std.specs.List.{starts_with}
use Rattle.fd_bytes.specs.Numbers.{octets}
use Rattle.fd_sections.specs.declared.bad.Bad.{Bad}
use Rattle.fd_sections.specs.declared.bad.Bad.TheVariants.{Edition, Short, TooLong}
use Rattle.fd_sections.specs.Message.{Sections, grib}
use Rattle.fd_sections.specs.Reading.{reading}

-- the stream from its first `GRIB` on, or nothing where there is none
abbrev pub from_mark : List ℕ → List ℕ
from_mark [] = []
from_mark (b ∷ bs) = if starts_with nat_eq (b ∷ bs) grib then b ∷ bs else from_mark bs

-- What comes first in a stream.
pub data First : Type 0 where
  -- no `GRIB`
  Unmarked : First
  -- a message that is not whole yet: how many octets it has, and how many it wants
  Partial : (have want : ℕ) → First
  Refuses : (bad : Bad) → First
  Takes : (message : Sections) (rest : List ℕ) → First

abbrev pub taken : Result Sections Bad → List ℕ → First
taken (Ok message) rest = Takes message rest
taken (Err bad) rest = Refuses bad

-- how many octets the message wants that begins here: the total length that octets 9 to 16 say
abbrev pub announced : List ℕ → ℕ
announced s = octets 9 16 s

-- what comes first at a `GRIB`; that fewer than the 16 octets of section 0 are refused so is what reading them gives
unfoldable pub first_at : List ℕ → First
first_at s =
    if length s == 0 then Unmarked
    else if nat_lt (length s) 16 then Partial (length s) 16
    else if not (octets 8 8 s == 2) then Refuses (Edition (octets 8 8 s))
    else if nat_lt 134217728 (octets 9 16 s) then Refuses (TooLong (octets 9 16 s))
    else if nat_lt (octets 9 16 s) 16 then Refuses (Short 0 (octets 9 16 s))
    else if nat_lt (length s) (announced s) then Partial (length s) (announced s)
    else taken (reading (take (announced s) s)) (drop (announced s) s)

abbrev pub first : List ℕ → First
first s = first_at (from_mark s)

-- how many octets are skipped before the first message
abbrev pub gap : List ℕ → ℕ
gap s = length s - length (from_mark s)

-- what has to be kept of a stream in which no message is whole: from its first `GRIB` on, or else its last three
-- octets, in which one may begin
abbrev pub pending : List ℕ → List ℕ
pending s = if length (from_mark s) == 0 then drop (length s - 3) s else from_mark s

-- How a stream ends.
pub data End : Type 0 where
  Whole : End
  -- a message has begun, and lacks octets
  Cut : (have want : ℕ) → End
  Bad_end : (bad : Bad) → End

pub record Stream : Type 0 where
  pub messages : List Sections
  pub skipped : ℕ
  pub end : End

-- the stream whose first message, or end, comes after so many octets; `others` is the stream after it
abbrev pub beginning : (List ℕ → Stream) → ℕ → First → Stream
beginning others skips Unmarked = record { messages = []; skipped = skips; end = Whole }
beginning others skips (Partial have want) = record { messages = []; skipped = skips; end = Cut have want }
beginning others skips (Refuses bad) = record { messages = []; skipped = skips; end = Bad_end bad }
beginning others skips (Takes message rest) =
    record { messages = message ∷ (others rest).messages; skipped = skips + (others rest).skipped; end = (others rest).end }

-- the stream s of at most as many messages as the list has elements
abbrev pub stream_of_at_most : List ℕ → List ℕ → Stream
stream_of_at_most [] s = record { messages = []; skipped = length s; end = Whole }
stream_of_at_most (_ ∷ bound) s = beginning (stream_of_at_most bound) (gap s) (first s)

-- the messages of s, how many octets are skipped, and how it ends
unfoldable pub stream : List ℕ → Stream
stream s = stream_of_at_most s s

-- the stream that comes after these messages and so many skipped octets
abbrev pub after : List Sections → ℕ → Stream → Stream
after messages skips s = record { messages = messages ++ s.messages; skipped = skips + s.skipped; end = s.end }
