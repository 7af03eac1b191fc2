-- How far a stream was split into its messages.
use Rattle.std.specs.Prelude.{◌≡◌, ◌<◌, ℕ, Bool, true, false, List, length, map}
use Rattle.fd_sections.specs.Message.{Sections, message_octets}
use Rattle.fd_sections.specs.Progress.{Progress}
use Rattle.fd_sections.specs.Splitting.{start}
use Rattle.fd_sections.specs.Joining.{IsWaiting, SplitsOn}
use Rattle.fd_casting.specs.Steps.{AreMessages}

-- Of the stream of these octets these messages were given.
pub record HasGiven (octets : List ℕ) (p : Progress) (messages : List (List ℕ)) : Type 0 where
  pub given : List Sections
  pub messages_are : messages ≡ map message_octets given
  pub splits : SplitsOn start p octets given
  pub each : AreMessages messages

-- one message was gone over, or none is whole
abbrev pub Measures : Bool → Progress → Progress → Type 0
Measures true p q = length q.rest < length p.rest
Measures false p q = IsWaiting q
