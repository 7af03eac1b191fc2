use Rattle.std.proofs.Common.{◌≡◌}
use Rattle.std.specs.Option.{option_copied}
use Rattle.std.specs.List.{list_all}
use Rattle.fd_key.specs.Given.{pieces_of}
use Rattle.fd_key.specs.Reading.{pieces_if}
use Rattle.fd_script.specs.Lines.{length_if}
use Rattle.fd_script.specs.Grammar.{is_spelled}
use Rattle.fd_script.proofs.pairs.are_spelled.Given as goal

abbrev pub invariant-loop-rest : goal.invariant-loop-rest
invariant-loop-rest l = list_all is_spelled (pieces_of l.fn.text) ≡ list_all is_spelled (pieces_if (option_copied l.rest))

abbrev pub decreases-loop-rest : goal.decreases-loop-rest
decreases-loop-rest l = length_if (option_copied l.rest)
