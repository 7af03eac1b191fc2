use Rattle.std.proofs.Common.{◌≡◌, max, drop}
use Rattle.fd_spelling.specs.Texts.{texts}
use Rattle.fd_request.specs.Limits.{longest_text}
use Rattle.fd_request.proofs.values.longest_of.Given as goal

abbrev pub invariant-loop-text : goal.invariant-loop-text
invariant-loop-text l = longest_text (texts l.values) ≡ max l.longest (longest_text (texts (drop l.text-index l.values)))
