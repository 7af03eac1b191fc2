-- The language of scripts: which line may stand behind which lines, what a script says, and the first thing that is wrong.
--
--   script = { silent } dataset { silent | lane | step } messages
--
-- A step belongs to the last lane before it.
use Rattle.std.specs.Prelude.{ℕ, ◌+◌, Bool, true, false, not, ◌&&◌, ◌||◌, List, [], ◌∷◌, ◌++◌, length, take, map, codes, nat_lt, nat_le, ◌==◌, if◌then◌else◌, Option, Some, None, option_map, is_some, Result, Ok, Err}
use Rattle.std.specs.List.{list_all, list_any}
use Rattle.std.specs.Str.{bytes_eq}
use Rattle.fd_spelling.specs.Names.{is_ascii, is_letter, is_digit}
use Rattle.fd_spelling.specs.Numerals.{number_up_to}
use Rattle.fd_key.specs.Pairs.{Pair, pair_text}
use Rattle.fd_spelling.specs.Canonical.{pair_of}
use Rattle.fd_key.specs.Given.{Refusal, given_of, pieces_of}
use Rattle.fd_request.specs.Expansion.{Keyword}
use Rattle.fd_request.specs.Grammar as requests
use Rattle.fd_request.specs.Limits.{request_of}
use Rattle.fd_script.specs.Lines.{Task, PutOf, FlushNow, GetOf, Said, Silent, DatasetIs, LaneBegins, Asks, MessagesFollow, Unknown, lines_of, said}

-- what is wrong with a line
pub data Wrong : Type 0 where
  TooLong : Wrong
  Byte : (byte : ℕ) → Wrong
  Dataset : Wrong
  Word : Wrong
  Name : Wrong
  Given : (refusal : Refusal) → Wrong
  Request : (fault : requests.Fault) → Wrong
  Number : Wrong
  TooMany : (count : ℕ) → Wrong
  End : Wrong

-- the first line that is wrong, and what is wrong with it
pub record Fault : Type 0 where
  pub line : ℕ
  pub kind : Wrong

-- the first that there is
abbrev pub first_of : Option Wrong → Option Wrong → Option Wrong
first_of None later = later
first_of (Some w) later = Some w

-- ---- what the lines before say

-- a lane: its name, its pairs, and its steps, each with the number of its line
pub record Group : Type 0 where
  pub name : List ℕ
  pub pairs : List ℕ
  pub steps : List (ℕ × Task)

abbrev pub onto_steps : ℕ → Said → List (ℕ × Task) → List (ℕ × Task)
onto_steps n (LaneBegins name pairs) later = []
onto_steps n (Asks task) later = (n, task) ∷ later
onto_steps n Silent later = later
onto_steps n (DatasetIs text) later = later
onto_steps n MessagesFollow later = later
onto_steps n Unknown later = later

-- the steps up to the next lane; the first of these lines has this number
unfoldable pub steps_from : ℕ → List Said → List (ℕ × Task)
steps_from n [] = []
steps_from n (s ∷ ss) = onto_steps n s (steps_from (n + 1) ss)

abbrev pub onto_lanes : Said → List (ℕ × Task) → List Group → List Group
onto_lanes (LaneBegins name pairs) steps later = record { name = name; pairs = pairs; steps = steps } ∷ later
onto_lanes (Asks task) steps later = later
onto_lanes Silent steps later = later
onto_lanes (DatasetIs text) steps later = later
onto_lanes MessagesFollow steps later = later
onto_lanes Unknown steps later = later

-- the lanes, each with the steps behind it up to the next
unfoldable pub lanes_from : ℕ → List Said → List Group
lanes_from n [] = []
lanes_from n (s ∷ ss) = onto_lanes s (steps_from (n + 1) ss) (lanes_from (n + 1) ss)

abbrev pub or_dataset : Said → Option (List ℕ) → Option (List ℕ)
or_dataset (DatasetIs text) later = Some text
or_dataset (LaneBegins name pairs) later = later
or_dataset (Asks task) later = later
or_dataset Silent later = later
or_dataset MessagesFollow later = later
or_dataset Unknown later = later

-- the text of the first `dataset`
unfoldable pub dataset_in : List Said → Option (List ℕ)
dataset_in [] = None
dataset_in (s ∷ ss) = or_dataset s (dataset_in ss)

-- the last lane
unfoldable pub last_lane : List Group → Option Group
last_lane [] = None
last_lane (g ∷ []) = Some g
last_lane (g ∷ h ∷ gs) = last_lane (h ∷ gs)

-- ---- which line may stand behind them

abbrev pub is_text : List ℕ → Option Pair → Bool
is_text text None = false
is_text text (Some p) = bytes_eq text (pair_text p)

-- `name=value` with the value in its one spelling: the pair that is read has this text
unfoldable pub is_spelled : List ℕ → Bool
is_spelled text = is_text text (pair_of text)

-- at most 255 bytes of such pairs, joined by commas
unfoldable pub is_dataset : List ℕ → Bool
is_dataset text = nat_le (length text) 255 && list_all is_spelled (pieces_of text)

abbrev pub is_lane_byte : ℕ → Bool
is_lane_byte b = is_letter b || is_digit b

-- 1 to 16 of `a-z 0-9`
unfoldable pub is_lane_name : List ℕ → Bool
is_lane_name name = nat_lt 0 (length name) && nat_le (length name) 16 && list_all is_lane_byte name

abbrev pub has_lane : List Group → List ℕ → Bool
has_lane lanes name = list_any (λ g. bytes_eq name g.name) lanes

-- the number that 1 to 9 digits write, unless it is 0
abbrev pub unless_zero : Option ℕ → Option ℕ
unless_zero None = None
unless_zero (Some n) = if n == 0 then None else Some n

unfoldable pub number_of : List ℕ → Option ℕ
number_of text = if nat_le (length text) 9 then unless_zero (number_up_to 999999999 text) else None

abbrev pub few_or : ℕ → ℕ → Option Wrong
few_or n most = if nat_lt n most then None else Some (TooMany (most + 1))

abbrev pub given_wrong : Result (List Pair) Refusal → Option Wrong
given_wrong (Ok pairs) = None
given_wrong (Err refusal) = Some (Given refusal)

abbrev pub request_wrong : Result (List Keyword) requests.Fault → Option Wrong
request_wrong (Ok keywords) = None
request_wrong (Err fault) = Some (Request fault)

abbrev pub number_wrong : Option ℕ → Option Wrong
number_wrong None = Some Number
number_wrong (Some n) = None

abbrev pub lane_wrong : List Group → List ℕ → List ℕ → Option Wrong
lane_wrong lanes name pairs =
    if is_lane_name name && not (has_lane lanes name)
    then first_of (given_wrong (given_of pairs)) (few_or (length lanes) 8)
    else Some Name

abbrev pub task_wrong : Task → Option Wrong
task_wrong (PutOf number) = number_wrong (number_of number)
task_wrong FlushNow = None
task_wrong (GetOf request) = request_wrong (request_of request)

abbrev pub step_wrong : Option Group → Task → Option Wrong
step_wrong None task = Some Word
step_wrong (Some lane) task = first_of (task_wrong task) (few_or (length lane.steps) 4096)

abbrev pub dataset_wrong : List ℕ → Option Wrong
dataset_wrong text = if is_dataset text then None else Some Dataset

-- what is wrong with a line behind lines that have this dataset and these lanes
abbrev pub said_wrong : Option (List ℕ) → List Group → Said → Option Wrong
said_wrong dataset lanes Silent = None
said_wrong None lanes (DatasetIs text) = dataset_wrong text
said_wrong None lanes (LaneBegins name pairs) = Some Dataset
said_wrong None lanes (Asks task) = Some Dataset
said_wrong None lanes MessagesFollow = Some Dataset
said_wrong None lanes Unknown = Some Dataset
said_wrong (Some dataset) lanes (DatasetIs text) = Some Word
said_wrong (Some dataset) lanes (LaneBegins name pairs) = lane_wrong lanes name pairs
said_wrong (Some dataset) lanes (Asks task) = step_wrong (last_lane lanes) task
said_wrong (Some dataset) lanes MessagesFollow = None
said_wrong (Some dataset) lanes Unknown = Some Word

-- the first byte that isn't ASCII
unfoldable pub foreign_byte : List ℕ → Option Wrong
foreign_byte [] = None
foreign_byte (b ∷ bs) = if is_ascii b then foreign_byte bs else Some (Byte b)

-- what is wrong with a line behind lines that say this
unfoldable pub line_wrong : List Said → List ℕ → Option Wrong
line_wrong before line = first_of (foreign_byte line) (said_wrong (dataset_in before) (lanes_from 1 before) (said line))

-- ---- a script whole

-- what the lines up to `messages` say, and the place behind that line
pub record Script : Type 0 where
  pub lines : List Said
  pub place : ℕ

abbrev pub or_end : Option Wrong → Wrong
or_end None = End
or_end (Some w) = w

-- a line that no line feed ends
abbrev pub unended : List Said → List ℕ → Fault
unended before line = record { line = length before + 1; kind = or_end (foreign_byte line) }

-- the line is `messages`
abbrev pub is_messages : Said → Bool
is_messages MessagesFollow = true
is_messages Silent = false
is_messages (DatasetIs text) = false
is_messages (LaneBegins name pairs) = false
is_messages (Asks task) = false
is_messages Unknown = false

abbrev pub goes_on : Bool → Script → Result Script Fault → Result Script Fault
goes_on ends here later = if ends then Ok here else later

abbrev pub unless_wrong : ℕ → Option Wrong → Result Script Fault → Result Script Fault
unless_wrong n None later = later
unless_wrong n (Some w) later = Err (record { line = n; kind = w })

-- The script that goes on with these lines, the first of which begins at this place, behind lines that say this. The first
-- line that may not stand behind those before it is named.
unfoldable pub script_from : ℕ → List Said → List (List ℕ) → Result Script Fault
script_from at before [] = Err (unended before [])
script_from at before (line ∷ []) = Err (unended before line)
script_from at before (line ∷ next ∷ more) =
    unless_wrong (length before + 1) (line_wrong before line)
    (goes_on (is_messages (said line)) (record { lines = before ++ said line ∷ []; place = at + length line + 1 }) (script_from (at + length line + 1) (before ++ said line ∷ []) (next ∷ more)))

-- one of the lines, and not the last, is `messages`
unfoldable pub has_messages : List (List ℕ) → Bool
has_messages [] = false
has_messages (line ∷ []) = false
has_messages (line ∷ next ∷ more) = bytes_eq line (codes "messages") || has_messages (next ∷ more)

-- where a script stands: the first 1,048,576 bytes of the input
abbrev pub front_of : List ℕ → List ℕ
front_of text = take 1048576 text

unfoldable pub script_of : List ℕ → Result Script Fault
script_of text =
    if nat_lt 1048576 (length text) && not (has_messages (lines_of (front_of text)))
    then Err (record { line = 1; kind = TooLong })
    else script_from 0 [] (lines_of (front_of text))
