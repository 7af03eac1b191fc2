-- What a function was given by itself, a source or a sink, by what its trait says of it when the function is called and when it returns.
use Rattle.std.specs.Borrow.{MutBor}
use Rattle.std.specs.Prelude.{ℕ, List}
use Rattle.fd_io.specs.declared.stream.Source as sources
use Rattle.fd_io.specs.declared.stream.Sink as sinks
use Rattle.fd_outcome.specs.Objects.{Object, object}
use denote.Triple.Both.{Both}

-- a parameter `&mut S` as a contract has it: at the call, and at the return
abbrev pub Given : Type 0 → Type 0
Given S = Both (MutBor S) (MutBor S)

abbrev pub source_of : {I X : Type 0} → sources.Ghosts I X → Given I → Object (List ℕ)
source_of says input =
    object (says.left input.entry.now) (says.left input.exit.now) (says.faults input.entry.now) (says.faults input.exit.now)

abbrev pub sink_of : {K X : Type 0} → sinks.Ghosts K X → Given K → Object (List ℕ)
sink_of says output =
    object (says.taken output.entry.now) (says.taken output.exit.now) (says.faults output.entry.now) (says.faults output.exit.now)
