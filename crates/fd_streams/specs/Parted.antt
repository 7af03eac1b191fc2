-- How far a stream is split into its fields, and what was written where that halts.
use Rattle.std.specs.Prelude.{◌≡◌, ◌≤◌, ◌<◌, ◌+◌, ℕ, Bool, List, [], length, map, Option, Some, None, Result, Ok, Err}
use Rattle.std.specs.List.{concat}
use Rattle.fd_io.specs.Streams.{Takes}
use Rattle.fd_sections.specs.Message.{Sections, message_octets}
use Rattle.fd_sections.specs.Progress.{Progress}
use Rattle.fd_sections.specs.Splitting.{start}
use Rattle.fd_sections.specs.Joining.{IsWaiting}
use Rattle.fd_split.specs.Reading.{Wrong, NoMap, NoMessage}
use Rattle.fd_split.specs.declared.fault.SplitFault.{SplitFault}
use Rattle.fd_split.specs.declared.fault.SplitFault.TheVariants as faults
use Rattle.fd_split.specs.declared.refusal.Refusal.{Refusal}
use Rattle.fd_split.specs.Fields.{FieldList, Numbered, refusal_of_wrong}
use Rattle.fd_split.specs.Positions.{FieldsOn, at_message, fed_at, fields_from}
use Rattle.fd_outcome.specs.Listed.{Listed}
use Rattle.fd_outcome.specs.Splitting.{Split, octets_of}
use Rattle.fd_streams.specs.declared.listing.Halt.{Halt}
use Rattle.fd_streams.specs.declared.parting.Tally.{Tally}
use Rattle.fd_streams.specs.Halted.{HaltedAs}

-- the fields of a message as messages, one after the other
abbrev pub messages_of : List Sections → List ℕ
messages_of fs = concat (map message_octets fs)

-- what is written of the octets of message n, or why they are refused
abbrev pub parts_of : ℕ → Result (List Sections) Wrong → Result (List ℕ) Refusal
parts_of n (Ok fs) = Ok (messages_of fs)
parts_of n (Err wrong) = Err (refusal_of_wrong n wrong)

-- what is written of fields, and why what follows them is refused, if it is
abbrev pub written_of : FieldList → Listed
written_of x = record { lines = octets_of x.fields; refusal = x.refusal }

-- why a message isn't split
abbrev pub IsUnsplit : Wrong → SplitFault → Type 0
IsUnsplit wrong (faults.Bad bad) = wrong ≡ NoMessage bad
IsUnsplit wrong (faults.NoMap field) = wrong ≡ NoMap field
IsUnsplit wrong faults.NoMemory = Unit {0}

-- the octets of a message have so many fields, which were written
pub record AreWritten (n : ℕ) (read : Result (List Sections) Wrong) (a b : Option (List ℕ)) : Type 0 where
  pub fields : List Sections
  pub fields_are : read ≡ Ok fields
  pub count : n ≡ length fields
  pub took : Takes a b (messages_of fields)

-- ---- going over the messages

-- from one place to another so many fields came, and were written
pub record PartsOn (p q : Progress) (n : ℕ) (a b : Option (List ℕ)) : Type 0 where
  pub fields : List Numbered
  pub on : FieldsOn (at_message p 0) (at_message q n) fields
  pub took : Takes a b (octets_of fields)

-- the fields of one message were written, of which there are no more than its octets; or none is whole
abbrev pub PartsOne : Option ℕ → Progress → Progress → Option (List ℕ) → Option (List ℕ) → Type 0
PartsOne (Some n) p q a b = PartsOn p q n a b × (n + length q.rest ≤ length p.rest) × (length q.rest < length p.rest)
PartsOne None p q a b = PartsOn p q 0 a b × (length q.rest ≤ length p.rest) × IsWaiting q

-- the fields of all messages that are whole were written
pub record PartsAll (n : ℕ) (p q : Progress) (a b : Option (List ℕ)) : Type 0 where
  pub goes_on : PartsOn p q n a b
  pub few : n + length q.rest ≤ length p.rest
  pub waits : IsWaiting q

-- a splitting that was so far halted so, whatever more comes
abbrev pub HaltsParting : {X : Type 0} → Halt X → Progress → Option (List ℕ) → Option (List ℕ) → Type 0
HaltsParting halt p a b = (past : Bool) (more : List ℕ) → HaltedAs halt a b (written_of (fields_from (at_message p 0) past more))

-- ---- over an input

-- of the octets seen so many fields came, and were written; the output had taken a, and has taken b
pub record Parted (p : Progress) (n : ℕ) (a b : Option (List ℕ)) (seen : List ℕ) : Type 0 where
  pub fields : List Numbered
  pub on : FieldsOn (fed_at (at_message start 0) seen) (at_message p n) fields
  pub took : Takes a b (octets_of fields)

-- all fields were written, the input isn't refused, and the tally is of these fields and of the octets that were skipped
pub record IsParted (t : Tally) (a b : Option (List ℕ)) (x : Split) : Type 0 where
  pub took : Takes a b (octets_of x.fields)
  pub none : x.refusal ≡ None
  pub fields : t.fields ≡ length x.fields
  pub junk : t.junk ≡ x.junk

-- what is written of an input, and why it is refused
abbrev pub lines_of : Split → Listed
lines_of x = record { lines = octets_of x.fields; refusal = x.refusal }

-- what the answer of a splitting tells
abbrev pub Parts : {X : Type 0} → Result Tally (Halt X) → Option (List ℕ) → Option (List ℕ) → Split → Type 0
Parts (Ok t) a b x = IsParted t a b x
Parts (Err halt) a b x = HaltedAs halt a b (lines_of x)
