-- What a command was given, and a fact of it: a store, an input, an output and a report, each by what its trait says of it when the
-- command is called and when it returns.
use Rattle.std.specs.Prelude.{ℕ, List, Option}
use Rattle.fd_disk.specs.Folders.{Holdings}
use Rattle.fd_disk.specs.declared.shelves.Store as stores
use Rattle.fd_io.specs.declared.stream.Source as sources
use Rattle.fd_io.specs.declared.stream.Sink as sinks
use Rattle.fd_outcome.specs.Objects.{Object, object}
use Rattle.fd_objects.specs.Given.{Given}
use Rattle.fd_objects.specs.declared.given.Objects.{Objects}

-- ---- one object, at the call and at the return

abbrev pub store_between : {S F A B C D E G H J : Type 0} → stores.Ghosts S F A B C D E G H J → S → S → Object Holdings
store_between says old new = object (says.has old) (says.has new) (says.faults old) (says.faults new)

abbrev pub source_between : {I X : Type 0} → sources.Ghosts I X → I → I → Object (List ℕ)
source_between says old new = object (says.left old) (says.left new) (says.faults old) (says.faults new)

abbrev pub sink_between : {K X : Type 0} → sinks.Ghosts K X → K → K → Object (List ℕ)
sink_between says old new = object (says.taken old) (says.taken new) (says.faults old) (says.faults new)

-- ---- an earlier moment

-- the same since an earlier moment, at which it told this and had counted so many faults
abbrev pub since : {A : Type 0} → Option A → ℕ → Object A → Object A
since before faults x = object before x.now faults x.faults_now

-- from such a moment up to the call
abbrev pub until : {A : Type 0} → Option A → ℕ → Object A → Object A
until before faults x = object before x.before faults x.faults_before

-- ---- all four

abbrev pub Fact : Type 1
Fact = Object Holdings → Object (List ℕ) → Object (List ℕ) → Object (List ℕ) → Type 0

-- of a command that was given these objects
abbrev pub Over : {W F X S I K R L A B C D E G H J : Type 0} → stores.Ghosts S F A B C D E G H J → sources.Ghosts I X → sinks.Ghosts K X
    → sinks.Ghosts R X → Given (Objects W F X S I K R L A B C D E G H J) → Fact → Type 0
Over s i k r o Holds = Holds (store_between s o.entry.now.store o.exit.now.store) (source_between i o.entry.now.input o.exit.now.input)
    (sink_between k o.entry.now.output o.exit.now.output) (sink_between r o.entry.now.report o.exit.now.report)
