-- What a listing makes of its input: the lines of its messages, one after the other.
use Rattle.std.specs.Prelude.{ℕ, ◌+◌, Bool, List, [], ◌∷◌, ◌++◌, length, Option, Some, None, Result, Ok, Err, nat_lt, if◌then◌else◌}
use Rattle.fd_sections.specs.Message.{Sections}
use Rattle.fd_sections.specs.Stream.{Stream}
use Rattle.fd_packing.specs.declared.fault.FieldFault.{FieldFault}
use Rattle.fd_packing.specs.Packed.{Packed}
use Rattle.fd_packing.specs.Field.{field_of}
use Rattle.fd_packing.specs.Value.{values_of}
use Rattle.fd_listing.specs.Describe.{describe_text}
use Rattle.fd_listing.specs.Values.{values_text, most_points}
use Rattle.fd_outcome.specs.declared.listing.Listing.{Listing}
use Rattle.fd_outcome.specs.declared.listing.Listing.TheVariants as listings
use Rattle.fd_split.specs.declared.refusal.Refusal.{Refusal}
use Rattle.fd_split.specs.declared.refusal.Refusal.TheVariants.{Field, Points}
use Rattle.fd_split.specs.Inputs.{refused, of_input}

-- a line for each point of a field, or why the field of message n is refused
abbrev pub field_lines : ℕ → Option ℕ → Result Packed FieldFault → Result (List ℕ) Refusal
field_lines n decimals (Err fault) = Err (Field n fault)
field_lines n decimals (Ok field) = if nat_lt most_points field.points then Err (Points field.points) else Ok (values_text n decimals (values_of field))

-- the lines of message n, or why it is refused
abbrev pub message_lines : Listing → ℕ → Sections → Result (List ℕ) Refusal
message_lines listings.Descriptions n m = Ok (describe_text n m)
message_lines (listings.Points decimals) n m = field_lines n decimals (field_of m)

-- The lines that are written, and why the input is refused, if it is.
pub record Listed : Type 0 where
  pub lines : List ℕ
  pub refusal : Option Refusal

-- no lines, and a refusal, if there is one
abbrev pub ended : Option Refusal → Listed
ended refusal = record { lines = []; refusal = refusal }

-- the lines of a message alone, or its refusal
abbrev pub alone : Result (List ℕ) Refusal → Listed
alone (Ok lines) = record { lines = lines; refusal = None }
alone (Err refusal) = ended (Some refusal)

-- the lines of a message before others, or its refusal, after which nothing is written
abbrev pub before : Result (List ℕ) Refusal → Listed → Listed
before (Ok lines) others = record { lines = lines ++ others.lines; refusal = others.refusal }
before (Err refusal) others = ended (Some refusal)

-- the messages from number n on; `last` tells why what follows them is refused, if it is
abbrev pub listed_messages : Listing → ℕ → Option Refusal → List Sections → Listed
listed_messages listing n last [] = ended last
listed_messages listing n last (m ∷ ms) = before (message_lines listing n m) (listed_messages listing (n + 1) last ms)

-- what is listed of a stream that comes after n messages
abbrev pub listed_after : Listing → Bool → ℕ → Stream → Listed
listed_after listing past n s = listed_messages listing (n + 1) (refused past (n + length s.messages) s.end) s.messages

-- What is listed of an input: the lines of its messages up to the lowest refusal.
abbrev pub listed : Listing → List ℕ → Listed
listed listing input = of_input (λ past s. listed_after listing past 0 s) input
