use Rattle.std.proofs.Common.{◌≡◌, ◌+◌, [], length}
use Rattle.fd_key.specs.Given.{pairs_from, pieces_of}
use Rattle.fd_key.proofs.GivenLaws.{IsRead}
use Rattle.fd_key.proofs.given.Given.read_pieces.Given as goal

abbrev pub invariant-pairs : goal.invariant-pairs
invariant-pairs l = record {
  same : pairs_from l.at l.pairs (pieces_of l.rest) ≡ pairs_from 0 [] (pieces_of l.text);
  lengths : l.at + length l.rest ≡ length l.text;
  read : IsRead l.at l.pairs;
}

abbrev pub decreases-pairs : goal.decreases-pairs
decreases-pairs l = length l.rest
