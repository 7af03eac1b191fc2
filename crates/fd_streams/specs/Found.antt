-- What a search for the last message that is wanted finds, and how far it is.
use Rattle.std.specs.Prelude.{◌≡◌, ◌<◌, ◌+◌, ◌++◌, [], length, ℕ, List, Option, Some, None, Result, Ok, Err, true, false, Bool}
use Rattle.fd_bytes.specs.Causes.{Rose}
use Rattle.fd_sections.specs.Message.{Sections, message_octets}
use Rattle.fd_sections.specs.Progress.{Progress}
use Rattle.fd_sections.specs.Stream.{stream}
use Rattle.fd_sections.specs.Joining.{IsWaiting, SplitsOn}
use Rattle.fd_key.specs.declared.fault.KeyFault.{KeyFault}
use Rattle.fd_key.specs.Pairs.{Pair}
use Rattle.fd_split.specs.declared.refusal.Refusal.{Refusal}
use Rattle.fd_streams.specs.declared.feeding.Stop.{Stop}
use Rattle.fd_streams.specs.declared.feeding.Stop.TheVariants as stop
use Rattle.fd_streams.specs.declared.picking.Last.{Last}
use Rattle.fd_outcome.specs.Picking.{found_after, keyless, last_wanted}

-- what was found last is this message
abbrev pub IsLast : Last → Option Sections → Type 0
IsLast last None = last.found ≡ false
IsLast last (Some m) = (last.found ≡ true) × (last.octets.items ≡ message_octets m)

-- a search that stopped so found this; a fault and want of memory say nothing of it
abbrev pub StoppedAs : {X : Type 0} → Stop X → Result (Option Sections) Refusal → Type 0
StoppedAs (stop.Fault fault) f = Unit {0}
StoppedAs (stop.Refused refusal) f = f ≡ Err refusal
StoppedAs stop.NoMemory f = Unit {0}

-- what a search answers is what is found
abbrev pub Answers : {X : Type 0} → Result Last (Stop X) → Result (Option Sections) Refusal → Type 0
Answers (Ok last) f = (m : Option Sections) × (f ≡ Ok m) × IsLast last m
Answers (Err e) f = StoppedAs e f

abbrev pub is_fault : {X : Type 0} → Stop X → Bool
is_fault (stop.Fault fault) = true
is_fault (stop.Refused refusal) = false
is_fault stop.NoMemory = false

-- a read failed only where the input's count of faults rose, and at every other answer the count is as before
abbrev pub StopsInput : {X : Type 0} → Stop X → ℕ → ℕ → Type 0
StopsInput (stop.Fault fault) before now = Rose before now
StopsInput (stop.Refused refusal) before now = now ≡ before
StopsInput stop.NoMemory before now = now ≡ before

abbrev pub HasInputCause : {A X : Type 0} → Result A (Stop X) → ℕ → ℕ → Type 0
HasInputCause (Ok done) before now = now ≡ before
HasInputCause (Err e) before now = StopsInput e before now

abbrev pub IsNoMemory : {X : Type 0} → Stop X → Type 0
IsNoMemory (stop.Fault fault) = ⊥
IsNoMemory (stop.Refused refusal) = ⊥
IsNoMemory stop.NoMemory = Unit {0}

-- a search that was so far stopped so, whatever more comes
abbrev pub Stopped : {X : Type 0} → List Pair → Stop X → Progress → Last → Type 0
Stopped wanted e p last = (past : Bool) (before : Option Sections) → IsLast last before → (more : List ℕ) → StoppedAs e (found_after wanted past p.given before (stream (p.rest ++ more)))

-- from one state of a search to another these messages were gone over: each has a key, and the last of them that is wanted
-- is what was found last
pub record GoesOn (wanted : List Pair) (p q : Progress) (old new : Last) : Type 0 where
  pub messages : List Sections
  pub splits : SplitsOn p q [] messages
  pub keyed : keyless (p.given + 1) messages ≡ None
  pub finds : (before : Option Sections) → IsLast old before → IsLast new (last_wanted wanted before messages)

-- one message was taken, or none is whole
abbrev pub Measures : Bool → Progress → Progress → Type 0
Measures true p q = length q.rest < length p.rest
Measures false p q = IsWaiting q

pub record Took (wanted : List Pair) (some : Bool) (p q : Progress) (old new : Last) : Type 0 where
  pub measure : Measures some p q
  pub goes_on : GoesOn wanted p q old new

-- all messages that are whole were taken
pub record TookAll (wanted : List Pair) (p q : Progress) (old new : Last) : Type 0 where
  pub waits : IsWaiting q
  pub goes_on : GoesOn wanted p q old new

-- a key has the pairs that a message has, or that message has none for this reason
abbrev pub IsFilled : List Pair → Result (Unit {0}) KeyFault → Result (List Pair) KeyFault → Type 0
IsFilled pairs (Ok done) read = read ≡ Ok pairs
IsFilled pairs (Err fault) read = read ≡ Err fault

-- the octets are kept where the test passed
abbrev pub IsConsidered : Bool → List ℕ → Last → Last → Type 0
IsConsidered true octets old new = (new.found ≡ true) × (new.octets.items ≡ octets)
IsConsidered false octets old new = new ≡ old
