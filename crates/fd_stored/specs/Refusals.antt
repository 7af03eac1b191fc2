-- Why a stream is refused, and the line that tells it.
use Rattle.std.specs.Prelude.{ℕ, List, ◌++◌, codes}
use Rattle.std.specs.Fmt.{decimal}
use Rattle.fd_sections.specs.declared.refusal.BadAt.{BadAt}
use Rattle.fd_sections.specs.declared.refusal.Truncated.{Truncated}
use Rattle.fd_sections.specs.FaultTexts.{bad_at_text, truncated_text}
use Rattle.fd_key.specs.declared.fault.KeyFault.{KeyFault}
use Rattle.fd_key.specs.FaultTexts.{key_fault_text}
use Rattle.fd_packing.specs.declared.fault.FieldFault.{FieldFault}
use Rattle.fd_packing.specs.FaultTexts.{field_fault_text}
use Rattle.fd_listing.specs.Lines.{line}
use Rattle.fd_split.specs.declared.refusal.Refusal.{Refusal}
use Rattle.fd_split.specs.declared.refusal.Refusal.TheVariants as refusals
use Rattle.fd_stored.specs.declared.status.Status.{Status}
use Rattle.fd_stored.specs.declared.status.Status.TheVariants.{Refused, Limit}

-- the line that tells which octets are no message, and why
abbrev pub refused_message_line : BadAt → List ℕ
refused_message_line at = line (codes "refused message " ++ bad_at_text at)

-- the line that tells which message is cut, how many octets it has, and how many it wants
abbrev pub cut_message_line : Truncated → List ℕ
cut_message_line cut = line (codes "refused message " ++ truncated_text cut)

-- the line that tells why a message has no key
abbrev pub refused_key_line : ℕ → KeyFault → List ℕ
refused_key_line n fault = line (codes "refused key " ++ decimal n ++ codes " " ++ key_fault_text fault)

-- the line that tells why a field is not read
abbrev pub refused_field_line : ℕ → FieldFault → List ℕ
refused_field_line n fault = line (codes "refused field " ++ decimal n ++ codes " " ++ field_fault_text fault)

-- the line that tells which field of which message lacks a bit map
abbrev pub refused_map_line : ℕ → ℕ → List ℕ
refused_map_line n field = line (codes "refused message " ++ decimal n ++ codes " NoMap " ++ decimal field)

-- the line that tells why the input is refused
abbrev pub refusal_line : Refusal → List ℕ
refusal_line (refusals.Message at) = refused_message_line at
refusal_line (refusals.Cut cut) = cut_message_line cut
refusal_line (refusals.NoMap n field) = refused_map_line n field
refusal_line (refusals.Key n fault) = refused_key_line n fault
refusal_line (refusals.Field n fault) = refused_field_line n fault
refusal_line (refusals.TooLong len) = line (codes "limit TooLong " ++ decimal len)
refusal_line (refusals.Points points) = line (codes "limit Points " ++ decimal points)
refusal_line refusals.Input = line (codes "limit Input 68719476736")

abbrev pub refusal_status : Refusal → Status
refusal_status (refusals.Message at) = Refused
refusal_status (refusals.Cut cut) = Refused
refusal_status (refusals.NoMap n field) = Refused
refusal_status (refusals.Key n fault) = Refused
refusal_status (refusals.Field n fault) = Refused
refusal_status (refusals.TooLong len) = Limit
refusal_status (refusals.Points points) = Limit
refusal_status refusals.Input = Limit
