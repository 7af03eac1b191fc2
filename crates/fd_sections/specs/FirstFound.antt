use Rattle.std.specs.Prelude.{◌≡◌, Result, Ok, Err}
use Rattle.fd_sections.specs.declared.bad.Bad.{Bad}
use Rattle.fd_sections.specs.declared.first.Found.{Found}
use Rattle.fd_sections.specs.declared.first.Found.TheVariants as found
use Rattle.fd_sections.specs.Parts.{sections_of, octets_of}
use Rattle.fd_sections.specs.Message.{message_octets}
use Rattle.fd_sections.specs.Stream.{First, Unmarked, Partial, Refuses, Takes}

-- what was found is what comes first
abbrev pub found_first : Result Found Bad → First
found_first (Ok found.Unmarked) = Unmarked
found_first (Ok (found.Partial have want)) = Partial have want
found_first (Ok (found.Whole message rest)) = Takes (sections_of message) rest.now
found_first (Err bad) = Refuses bad

abbrev pub IsFirst : Result Found Bad → First → Type 0
IsFirst result f = f ≡ found_first result

-- a message that was found has the octets of its sections
abbrev pub IsExact : Result Found Bad → Type 0
IsExact (Ok found.Unmarked) = Unit {0}
IsExact (Ok (found.Partial have want)) = Unit {0}
IsExact (Ok (found.Whole message rest)) = octets_of message ≡ message_octets (sections_of message)
IsExact (Err bad) = Unit {0}
