-- What `pick` finds in its input.
use Rattle.std.specs.Prelude.{ℕ, ◌+◌, Bool, false, List, [], ◌∷◌, length, Option, Some, None, Result, Ok, Err, if◌then◌else◌}
use Rattle.fd_sections.specs.Message.{Sections}
use Rattle.fd_sections.specs.Stream.{Stream}
use Rattle.fd_key.specs.declared.fault.KeyFault.{KeyFault}
use Rattle.fd_key.specs.Pairs.{Pair, has_all}
use Rattle.fd_key.specs.Keys.{key_of}
use Rattle.fd_split.specs.declared.refusal.Refusal.{Refusal}
use Rattle.fd_split.specs.declared.refusal.Refusal.TheVariants.{Key}
use Rattle.fd_split.specs.Inputs.{refused, of_input}

abbrev pub has_wanted : List Pair → Result (List Pair) KeyFault → Bool
has_wanted wanted (Ok pairs) = has_all pairs wanted
has_wanted wanted (Err fault) = false

-- the key of the message has all the pairs
abbrev pub is_wanted : List Pair → Sections → Bool
is_wanted wanted m = has_wanted wanted (key_of m [])

-- the last of the messages that is wanted, or else the one before them
abbrev pub last_wanted : List Pair → Option Sections → List Sections → Option Sections
last_wanted wanted before [] = before
last_wanted wanted before (m ∷ ms) = last_wanted wanted (if is_wanted wanted m then Some m else before) ms

abbrev pub this_or : Result (List Pair) KeyFault → ℕ → Option Refusal → Option Refusal
this_or (Ok pairs) n others = others
this_or (Err fault) n others = Some (Key n fault)

-- the first message that has no key; n is the number of the first of all
abbrev pub keyless : ℕ → List Sections → Option Refusal
keyless n [] = None
keyless n (m ∷ ms) = this_or (key_of m []) n (keyless (n + 1) ms)

-- the first refusal there is, or else the message
abbrev pub unless : Option Refusal → Result (Option Sections) Refusal → Result (Option Sections) Refusal
unless None found = found
unless (Some refusal) found = Err refusal

-- What is found in a stream that comes after n messages, of which this was the last wanted: the lowest refusal, or
-- else the last message that is wanted. `past` tells that more octets come than an input may have.
abbrev pub found_after : List Pair → Bool → ℕ → Option Sections → Stream → Result (Option Sections) Refusal
found_after wanted past n before s =
    unless (keyless (n + 1) s.messages) (unless (refused past (n + length s.messages) s.end) (Ok (last_wanted wanted before s.messages)))

-- What `pick` finds in its input.
abbrev pub found : List Pair → List ℕ → Result (Option Sections) Refusal
found wanted input = of_input (λ past s. found_after wanted past 0 None s) input
