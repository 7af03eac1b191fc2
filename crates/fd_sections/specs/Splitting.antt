-- How far a stream was split.
use Rattle.std.specs.Prelude.{◌+◌, ◌-◌, ℕ, List, [], ◌++◌, length, drop, Option, Some, None, Result, Ok, Err, Bool, true, false}
use Rattle.fd_sections.specs.declared.refusal.BadAt.{BadAt}
use Rattle.fd_sections.specs.declared.refusal.Truncated.{Truncated}
use Rattle.fd_sections.specs.Message.{Sections, message_octets}
use Rattle.fd_sections.specs.Stream.{First, Unmarked, Partial, Refuses, Takes, gap, pending}
use Rattle.fd_sections.specs.Progress.{Progress}

abbrev pub start : Progress
start = record { given = 0; last = []; skipped = 0; rest = []; fed = 0 }

-- after a piece came
abbrev pub fed : Progress → List ℕ → Progress
fed p piece = record { given = p.given; last = p.last; skipped = p.skipped; rest = p.rest ++ piece; fed = p.fed + length piece }

-- What `next` answers, and how far it goes.
abbrev pub answer : Progress → First → Result (Option Sections) BadAt
answer p Unmarked = Ok None
answer p (Partial have want) = Ok None
answer p (Refuses b) = Err (record { number = p.given + 1; bad = b })
answer p (Takes message rest) = Ok (Some message)

-- the same, without the message
abbrev pub answers_some : Progress → First → Result Bool BadAt
answers_some p Unmarked = Ok false
answers_some p (Partial have want) = Ok false
answers_some p (Refuses b) = Err (record { number = p.given + 1; bad = b })
answers_some p (Takes message rest) = Ok true

-- after so many octets were skipped
abbrev pub passed : Progress → ℕ → Progress
passed p count = record { given = p.given; last = []; skipped = p.skipped + count; rest = drop count p.rest; fed = p.fed }

-- where no message is whole, what can begin none is skipped
abbrev pub waiting : Progress → Progress
waiting p = record { given = p.given; last = []; skipped = p.skipped + (length p.rest - length (pending p.rest)); rest = pending p.rest; fed = p.fed }

abbrev pub progress : Progress → First → Progress
progress p Unmarked = waiting p
progress p (Partial have want) = waiting p
progress p (Refuses bad) = p
progress p (Takes message rest) = record { given = p.given + 1; last = message_octets message; skipped = p.skipped + gap p.rest; rest = rest; fed = p.fed }

-- What `finish` answers.
abbrev pub finished : Progress → First → Result ℕ Truncated
finished p Unmarked = Ok (p.skipped + length p.rest)
finished p (Partial h w) = Err (record { number = p.given + 1; have = h; want = w })
finished p (Refuses bad) = Ok 0
finished p (Takes message rest) = Ok 0
