use Rattle.std.proofs.Common.{◌≡◌, drop}
use Rattle.std.specs.List.{list_any}
use Rattle.std.specs.Str.{bytes_eq}
use Rattle.fd_spelling.specs.Texts.{texts}
use Rattle.fd_spelling.proofs.texts.is_one_of.Given as goal

abbrev pub invariant-loop-value : goal.invariant-loop-value
invariant-loop-value l = list_any (bytes_eq l.text) (texts l.values) ≡ list_any (bytes_eq l.text) (texts (drop l.value-index l.values))
