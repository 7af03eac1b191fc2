use Rattle.std.proofs.Common.{◌≡◌, ◌<◌, ◌≤◌, ◌+◌, ◌-◌, ◌^◌, length}
use Rattle.std.specs.Option.{option_copied}
use Rattle.fd_key.specs.Given.{pieces_of}
use Rattle.fd_outcome.specs.Rows.{with_pieces}
use Rattle.fd_key.specs.Reading.{pieces_if}
use Rattle.fd_inventory.specs.Keys.{length_if}
use Rattle.fd_inventory.proofs.stored_key.add_text.Given as goal

abbrev pub invariant-loop-rest : goal.invariant-loop-rest
invariant-loop-rest l = record {
  same : with_pieces l.fn.pairs (pieces_of l.fn.text) ≡ with_pieces l.pairs (pieces_if (option_copied l.rest));
  few : length l.pairs + length_if (option_copied l.rest) ≤ length l.fn.pairs + length l.fn.text + 1;
  room : length l.fn.pairs + length l.fn.text < 2 ^ 32 - 1;
}

abbrev pub decreases-loop-rest : goal.decreases-loop-rest
decreases-loop-rest l = length_if (option_copied l.rest)
