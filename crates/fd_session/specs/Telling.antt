-- The lines that tell why a session isn't run.
use Rattle.std.specs.Prelude.{ℕ, List, ◌++◌, codes, Option, Some, None, if◌then◌else◌}
use Rattle.std.specs.Fmt.{decimal}
use Rattle.fd_key.specs.Given.{Refusal, Pair_at, Clash_of, Twice_of}
use Rattle.fd_request.specs.Grammar as requests
use Rattle.fd_script.specs.Grammar.{Wrong, TooLong, Byte, Dataset, Word, Name, Given, Request, Number, TooMany, End}
use Rattle.fd_listing.specs.Lines.{blank}
use Rattle.fd_casting.specs.declared.fault.Miscast.{Miscast}
use Rattle.fd_casting.specs.Texts.{miscast_text}
use Rattle.fd_request.specs.FaultTexts.{request_wrong_text}
use Rattle.fd_stored.specs.Causes.{Telling, refused_so, limited_so, is_request_limit}

-- why the pairs of a lane are refused
abbrev pub given_text : Refusal → List ℕ
given_text (Pair_at at) = codes "Pair " ++ decimal at
given_text (Clash_of name) = codes "Clash " ++ name
given_text (Twice_of name) = codes "Twice " ++ name

-- what is wrong with a line of a script: the kind, and the fault inside it
abbrev pub wrong_text : Wrong → List ℕ
wrong_text TooLong = codes "TooLong"
wrong_text (Byte byte) = codes "Byte " ++ decimal byte
wrong_text Dataset = codes "Dataset"
wrong_text Word = codes "Word"
wrong_text Name = codes "Name"
wrong_text (Given refusal) = codes "Given " ++ given_text refusal
wrong_text (Request fault) = codes "Request " ++ decimal fault.at ++ blank (request_wrong_text fault.kind)
wrong_text Number = codes "Number"
wrong_text (TooMany count) = codes "TooMany " ++ decimal count
wrong_text End = codes "End"

abbrev pub request_limit : requests.Wrong → Option (List ℕ)
request_limit wrong = if is_request_limit wrong then Some (request_wrong_text wrong) else None

-- the limit that is passed, if one is
abbrev pub limit_text : Wrong → Option (List ℕ)
limit_text TooLong = Some (codes "TooLong")
limit_text (Byte byte) = None
limit_text Dataset = None
limit_text Word = None
limit_text Name = None
limit_text (Given refusal) = None
limit_text (Request fault) = request_limit fault.kind
limit_text Number = None
limit_text (TooMany count) = Some (codes "TooMany " ++ decimal count)
limit_text End = None

-- `refused script LINE KIND`
abbrev pub line_refused : ℕ → List ℕ → Telling
line_refused line text = refused_so (codes "script " ++ decimal line ++ blank text)

abbrev pub limit_or_line : ℕ → List ℕ → Option (List ℕ) → Telling
limit_or_line line text None = line_refused line text
limit_or_line line text (Some limit) = limited_so limit

-- a line of a script is wrong: a limit is told without its line
abbrev pub script_telling : ℕ → Wrong → Telling
script_telling line wrong = limit_or_line line (wrong_text wrong) (limit_text wrong)

-- a line of a script can't be done
abbrev pub miscast_telling : ℕ → Miscast → Telling
miscast_telling line kind = line_refused line (miscast_text kind)
