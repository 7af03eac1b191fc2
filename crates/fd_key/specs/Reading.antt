-- What the call that reads pairs answers.
use Rattle.std.specs.Prelude.{◌≡◌, ℕ, List, Option, Result, Ok, Err, String, string_bytes}
use Rattle.std.specs.declared.alloc.Global.{Global}
use Rattle.fd_key.specs.declared.fault.GivenFault.{GivenFault}
use Rattle.fd_key.specs.declared.fault.GivenFault.TheVariants.{Pair, Clash, Twice, NoMemory}
use Rattle.fd_key.specs.Pairs as pairs
use Rattle.fd_key.specs.Given.{Refusal, Pair_at, Clash_of, Twice_of}
use Rattle.fd_spelling.specs.Pieces.{pieces_behind}

-- What a call answered in place of pairs is why there are none. It may also have run out of memory.
abbrev pub Refuses : {A : Type 0} → GivenFault → Result A Refusal → Type 0
Refuses NoMemory read = Unit {0}
Refuses (Pair at) read = read ≡ Err (Pair_at at)
Refuses (Clash name) read = read ≡ Err (Clash_of (string_bytes name))
Refuses (Twice name) read = read ≡ Err (Twice_of (string_bytes name))

-- What a call answered are these pairs, or why there are none.
abbrev pub GivesGiven : Result (List pairs.Pair) GivenFault → Result (List pairs.Pair) Refusal → Type 0
GivesGiven (Ok ps) read = read ≡ Ok ps
GivesGiven (Err e) read = Refuses e read

-- The same of one pair.
abbrev pub GivesNew : Result (String Global × String Global) GivenFault → Result pairs.Pair Refusal → Type 0
GivesNew (Ok p) read = read ≡ Ok (string_bytes p.0, string_bytes p.1)
GivesNew (Err e) read = Refuses e read

-- the pieces of what stands behind a comma, if there is one
abbrev pub pieces_if : Option (List ℕ) → List (List ℕ)
pieces_if text = pieces_behind 44 text
