-- What the input of a session is: a script, and behind it a stream of messages.
use Rattle.std.specs.Prelude.{◌≡◌, ℕ, Bool, List, length, map, take, drop, nat_lt, Option, Some, None}
use Rattle.fd_sections.specs.Message.{message_octets}
use Rattle.fd_sections.specs.Stream.{Stream, stream}
use Rattle.fd_script.specs.Grammar.{script_of}
use Rattle.fd_script.specs.Reading.{IsScript}
use Rattle.fd_script.specs.Scripts.{Scripted}
use Rattle.fd_split.specs.declared.refusal.Refusal.{Refusal}
use Rattle.fd_split.specs.Inputs.{refused}
use Rattle.fd_split.specs.Limits.{input_limit}

-- the octets of the messages of a stream, one after the other
abbrev pub octets_of : Stream → List (List ℕ)
octets_of s = map message_octets s.messages

-- why a stream is refused, if it is; `past` tells that more octets come than an input may have
abbrev pub refusal_of : Bool → Stream → Option Refusal
refusal_of past s = refused past (length s.messages) s.end

-- the stream behind the first octets of an input, so many of them; of an input that is longer than an input may be only its
-- first octets are taken, as many as it may have
abbrev pub stream_behind : List ℕ → ℕ → Stream
stream_behind input place = stream (drop place (take input_limit input))

-- why it is refused, if it is
abbrev pub refusal_behind : List ℕ → ℕ → Option Refusal
refusal_behind input place = refusal_of (nat_lt input_limit (length input)) (stream_behind input place)

-- The input is this script, and behind it a stream of these messages, from its first octet to its last.
pub record IsInput (input : List ℕ) (script : Scripted) (messages : List (List ℕ)) : Type 0 where
  pub place : ℕ
  pub reads : IsScript (script_of input) script place
  pub messages_are : messages ≡ octets_of (stream_behind input place)
  pub whole : refusal_behind input place ≡ None

-- The input begins with a script, and what is behind it is refused.
pub record IsRefusedBehind (input : List ℕ) (refusal : Refusal) : Type 0 where
  pub script : Scripted
  pub place : ℕ
  pub reads : IsScript (script_of input) script place
  pub is : refusal_behind input place ≡ Some refusal
