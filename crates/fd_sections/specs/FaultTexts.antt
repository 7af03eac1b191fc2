-- What is printed of a fault: its kind, and its numbers in their order, with a blank before each.
use Rattle.std.specs.Prelude.{ℕ, List, ◌++◌, codes}
use Rattle.std.specs.Fmt.{decimal}
use Rattle.fd_sections.specs.declared.bad.Bad.{Bad}
use Rattle.fd_sections.specs.declared.bad.Bad.TheVariants as bads
use Rattle.fd_sections.specs.declared.refusal.BadAt.{BadAt}
use Rattle.fd_sections.specs.declared.refusal.Truncated.{Truncated}

-- why octets are no message
abbrev pub bad_text : Bad → List ℕ
bad_text (bads.Edition edition) = codes "Edition " ++ decimal edition
bad_text (bads.Length said found) = codes "Length " ++ decimal said ++ codes " " ++ decimal found
bad_text (bads.Section want found) = codes "Section " ++ decimal want ++ codes " " ++ decimal found
bad_text (bads.Short section len) = codes "Short " ++ decimal section ++ codes " " ++ decimal len
bad_text (bads.NoEnd at) = codes "NoEnd " ++ decimal at
bad_text (bads.MultiField section) = codes "MultiField " ++ decimal section
bad_text (bads.TooLong len) = codes "TooLong " ++ decimal len
bad_text bads.NoStart = codes "NoStart"
bad_text (bads.Over section said left) = codes "Over " ++ decimal section ++ codes " " ++ decimal said ++ codes " " ++ decimal left

-- the number of a refused message, and why it is refused
abbrev pub bad_at_text : BadAt → List ℕ
bad_at_text b = decimal b.number ++ codes " " ++ bad_text b.bad

-- the number of a cut message, how many octets it has, and how many it wants
abbrev pub truncated_text : Truncated → List ℕ
truncated_text t = decimal t.number ++ codes " Truncated " ++ decimal t.have ++ codes " " ++ decimal t.want
