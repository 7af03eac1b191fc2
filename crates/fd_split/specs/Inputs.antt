-- What comes of an input: why its end is refused, and what its length means.
use Rattle.std.specs.Prelude.{ℕ, ◌+◌, Bool, true, false, List, length, take, Option, Some, None, nat_le, if◌then◌else◌}
use Rattle.fd_sections.specs.declared.bad.Bad.TheVariants as bads
use Rattle.fd_sections.specs.Stream.{Stream, End, Whole, Cut, Bad_end, stream}
use Rattle.fd_split.specs.declared.refusal.Refusal.{Refusal}
use Rattle.fd_split.specs.declared.refusal.Refusal.TheVariants as refusals
use Rattle.fd_split.specs.declared.refusal.Refusal.TheVariants.{Message, TooLong, Input}
use Rattle.fd_split.specs.Limits.{input_limit}

-- Why the end of a stream of n messages is refused, if it is.
abbrev pub refused_end : ℕ → End → Option Refusal
refused_end n Whole = None
refused_end n (Cut have want) = Some (refusals.Cut (record { number = n + 1; have = have; want = want }))
refused_end n (Bad_end (bads.TooLong len)) = Some (TooLong len)
refused_end n (Bad_end bad) = Some (Message (record { number = n + 1; bad = bad }))

-- The same, of octets after which more come than an input may have.
abbrev pub refused_past : ℕ → End → Option Refusal
refused_past n Whole = Some Input
refused_past n (Cut have want) = Some Input
refused_past n (Bad_end bad) = refused_end n (Bad_end bad)

abbrev pub refused : Bool → ℕ → End → Option Refusal
refused past n end = if past then refused_past n end else refused_end n end

-- What f makes of an input: of its stream, or where the input is longer than an input may be, of the stream of its first
-- octets, as many as it may have. `past` tells that more come.
abbrev pub of_input : {A : Type 0} → (Bool → Stream → A) → List ℕ → A
of_input f input =
    if nat_le (length input) input_limit
    then f false (stream input)
    else f true (stream (take input_limit input))
