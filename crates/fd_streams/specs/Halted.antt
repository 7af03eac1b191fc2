-- How far a listing is, and what it wrote where it halts.
use Rattle.std.specs.Prelude.{◌≡◌, ◌≤◌, ◌+◌, ℕ, List, [], ◌++◌, Bool, Option, Some, None, IfSome, Result, Ok, Err}
use Rattle.fd_bytes.specs.Causes.{Rose}
use Rattle.fd_io.specs.Streams.{Takes, TakesFront}
use Rattle.fd_sections.specs.Progress.{Progress}
use Rattle.fd_sections.specs.Stream.{stream}
use Rattle.fd_sections.specs.Message.{Sections}
use Rattle.fd_sections.specs.Joining.{IsWaiting, SplitsOn}
use Rattle.fd_split.specs.declared.refusal.Refusal.{Refusal}
use Rattle.fd_outcome.specs.declared.listing.Listing.{Listing}
use Rattle.fd_outcome.specs.declared.listing.Listing.TheVariants as listings
use Rattle.fd_streams.specs.declared.listing.Halt.{Halt}
use Rattle.fd_streams.specs.declared.listing.Halt.TheVariants as halts
use Rattle.fd_streams.specs.declared.feeding.Stop.{Stop}
use Rattle.fd_streams.specs.declared.feeding.Stop.TheVariants as stops
use Rattle.fd_streams.specs.Found.{Measures}
use Rattle.fd_outcome.specs.Listed.{Listed, alone, listed_after, listed_messages}

-- why a listing ends whose input isn't read on
abbrev pub halt_of : {X : Type 0} → Stop X → Halt X
halt_of (stops.Fault fault) = halts.Unread fault
halt_of (stops.Refused refusal) = halts.Refused refusal
halt_of stops.NoMemory = halts.NoMemory

-- a listing asks for at most 30 decimals
abbrev pub AreFew : Listing → Type 0
AreFew listings.Descriptions = Unit {0}
AreFew (listings.Points decimals) = IfSome decimals (λ d. d ≤ 30)

-- ---- What was written. The output had taken a and has taken b.

-- a front of all the lines
abbrev pub IsCut : Option (List ℕ) → Option (List ℕ) → Listed → Type 0
IsCut a b x = TakesFront a b x.lines

-- all the lines, and the input is refused so
abbrev pub IsRefused : Refusal → Option (List ℕ) → Option (List ℕ) → Listed → Type 0
IsRefused refusal a b x = Takes a b x.lines × (x.refusal ≡ Some refusal)

-- all the lines, and the input is not refused
abbrev pub IsListed : Option (List ℕ) → Option (List ℕ) → Listed → Type 0
IsListed a b x = Takes a b x.lines × (x.refusal ≡ None)

-- what a halt tells of that, where x is all that is listed
abbrev pub HaltedAs : {X : Type 0} → Halt X → Option (List ℕ) → Option (List ℕ) → Listed → Type 0
HaltedAs (halts.Unread fault) a b x = IsCut a b x
HaltedAs (halts.Unwritten fault) a b x = IsCut a b x
HaltedAs (halts.Refused refusal) a b x = IsRefused refusal a b x
HaltedAs halts.NoMemory a b x = IsCut a b x

-- what the answer of a listing tells
abbrev pub Comes : {A X : Type 0} → Result A (Halt X) → Option (List ℕ) → Option (List ℕ) → Listed → Type 0
Comes (Ok done) a b x = IsListed a b x
Comes (Err halt) a b x = HaltedAs halt a b x

-- the lines of a message were written
abbrev pub IsWritten : Result (List ℕ) Refusal → Option (List ℕ) → Option (List ℕ) → Type 0
IsWritten (Ok lines) a b = Takes a b lines
IsWritten (Err refusal) a b = ⊥

-- ---- Why. The input counts i faults before and j now, the output k and l.

-- nothing was read, and a write failed only where the output's count rose
abbrev pub StopsOutput : {X : Type 0} → Halt X → ℕ → ℕ → Type 0
StopsOutput (halts.Unread fault) k l = ⊥
StopsOutput (halts.Unwritten fault) k l = Rose k l
StopsOutput (halts.Refused refusal) k l = l ≡ k
StopsOutput halts.NoMemory k l = l ≡ k

abbrev pub HasOutputCause : {A X : Type 0} → Result A (Halt X) → ℕ → ℕ → Type 0
HasOutputCause (Ok done) k l = l ≡ k
HasOutputCause (Err halt) k l = StopsOutput halt k l

-- a read failed only where the input's count rose, a write only where the output's did; each count that isn't said to rise is as before
abbrev pub Stops : {X : Type 0} → Halt X → ℕ → ℕ → ℕ → ℕ → Type 0
Stops (halts.Unread fault) i j k l = Rose i j × (l ≡ k)
Stops (halts.Unwritten fault) i j k l = (j ≡ i) × Rose k l
Stops (halts.Refused refusal) i j k l = (j ≡ i) × (l ≡ k)
Stops halts.NoMemory i j k l = (j ≡ i) × (l ≡ k)

abbrev pub HasCauses : {A X : Type 0} → Result A (Halt X) → ℕ → ℕ → ℕ → ℕ → Type 0
HasCauses (Ok done) i j k l = (j ≡ i) × (l ≡ k)
HasCauses (Err halt) i j k l = Stops halt i j k l

-- ---- Going over the messages

-- a listing that was so far halted so, whatever more comes
abbrev pub Halted : {X : Type 0} → Listing → Halt X → Progress → Option (List ℕ) → Option (List ℕ) → Type 0
Halted listing halt p a b = (past : Bool) (more : List ℕ) → HaltedAs halt a b (listed_after listing past p.given (stream (p.rest ++ more)))

-- from one place to another these messages were gone over, and their lines were written
pub record ListsOn (listing : Listing) (p q : Progress) (a b : Option (List ℕ)) : Type 0 where
  pub messages : List Sections
  pub splits : SplitsOn p q [] messages
  pub lines : List ℕ
  pub lists : listed_messages listing (p.given + 1) None messages ≡ alone (Ok lines)
  pub took : Takes a b lines

-- one message was listed, or none is whole
pub record ListedOne (listing : Listing) (some : Bool) (p q : Progress) (a b : Option (List ℕ)) : Type 0 where
  pub measure : Measures some p q
  pub goes_on : ListsOn listing p q a b

-- all messages that are whole were listed
pub record ListedAll (listing : Listing) (p q : Progress) (a b : Option (List ℕ)) : Type 0 where
  pub waits : IsWaiting q
  pub goes_on : ListsOn listing p q a b
