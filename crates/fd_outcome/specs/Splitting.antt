-- What `split` makes of its input: its fields, each as a message of its own, one after the other.
use Rattle.std.specs.Prelude.{ℕ, Bool, List, ◌++◌, codes, map, Option}
use Rattle.std.specs.List.{concat}
use Rattle.std.specs.Fmt.{decimal}
use Rattle.fd_sections.specs.Frames.{Frames}
use Rattle.fd_sections.specs.Message.{message_octets}
use Rattle.fd_listing.specs.Lines.{line}
use Rattle.fd_split.specs.declared.refusal.Refusal.{Refusal}
use Rattle.fd_split.specs.Fields.{Numbered, fields_after, of_frames}

-- The fields of an input, why what follows them is refused, if it is, and how many octets are skipped.
pub record Split : Type 0 where
  pub fields : List Numbered
  pub refusal : Option Refusal
  pub junk : ℕ

-- the octets of a field as a message
abbrev pub message_of : Numbered → List ℕ
message_of f = message_octets f.sections

-- the fields as messages, one after the other
abbrev pub octets_of : List Numbered → List ℕ
octets_of fs = concat (map message_of fs)

abbrev pub split_after : Bool → Frames → Split
split_after past s = record { fields = (fields_after past 0 s).fields; refusal = (fields_after past 0 s).refusal; junk = s.skipped }

-- what is split of an input: the fields of its messages up to the lowest refusal
abbrev pub split_of : List ℕ → Split
split_of input = of_frames split_after input

-- the line that tells how many fields there are, and how many octets were skipped
abbrev pub split_line : ℕ → ℕ → List ℕ
split_line n junk = line (codes "split " ++ decimal n ++ codes " junk " ++ decimal junk)
