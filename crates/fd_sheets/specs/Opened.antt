-- Which fields of a message are to come.
use Rattle.std.specs.Prelude.{ℕ, List, [], drop, Result, Ok, Err}
use Rattle.fd_sections.specs.declared.bad.Bad.{Bad}
use Rattle.fd_sections.specs.declared.bad.Bad.TheVariants.{MultiField}
use Rattle.fd_sections.specs.Message.{Sections}
use Rattle.fd_split.specs.Reading.{Wrong, reading_fields}

-- it is no message since its sections are repeated
abbrev pub Repeats : Bad → Type 0
Repeats (MultiField section) = Unit {0}
Repeats bad = ⊥

-- the fields of a message, where it has some
abbrev pub all_fields : Result (List Sections) Wrong → List Sections
all_fields (Ok fs) = fs
all_fields (Err wrong) = []

-- the fields of the message with these octets that are to come, once so many came
abbrev pub to_come : List ℕ → ℕ → List Sections
to_come octets n = drop n (all_fields (reading_fields octets))
