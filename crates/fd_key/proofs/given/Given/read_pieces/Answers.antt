use Rattle.std.proofs.Common.{◌≡◌, ◌+◌, ◌∙◌, [], ◌∷◌, length, sym, ap, arith}
use Rattle.fd_key.specs.Given.{pairs_from, pieces_of}
use Rattle.fd_key.proofs.PairLaws.{count_within_rest}
use Rattle.fd_key.proofs.GivenLaws.{piece_adds, next_read, all_given, turn, ends, refuses_all}
use Rattle.fd_key.proofs.given.Given.read_pieces.Goals as goal

pub put_piece-requires : goal.put_piece-requires
put_piece-requires c = omega (arith, count_within_rest c.pairs.pairs, c.pairs.invariant.read.text, c.pairs.invariant.lengths)

pub returns-in-Err : goal.returns-in-Err
returns-in-Err c =
    rw (← c.pairs.invariant.same, c.first_piece.ensures.pieces) (refuses_all c.in-Err.fault c.pairs.at c.pairs.pairs c.first_piece.result.0.now _ c.in-Err.ensures.err)

pub invariant_of-result : goal.invariant_of-result
invariant_of-result c =
    let last : c.first_piece.result.0.now ≡ c.pairs.rest.now = rw c.in-None.is at c.first_piece.ensures.last in
    all_given c.pairs.at c.pairs.pairs c.first_piece.result.0.now c.put_piece.new.pairs c.pairs.invariant.read
    (piece_adds c.pairs.pairs c.first_piece.result.0.now c.pairs.at c.put_piece.new.pairs c.in-Ok.ensures.ok) (omega (arith, ap length last, c.pairs.invariant.lengths))

pub returns-in-None : goal.returns-in-None
returns-in-None c =
    let pieces : pieces_of c.pairs.rest.now ≡ c.first_piece.result.0.now ∷ [] = rw c.in-None.is at c.first_piece.ensures.pieces in
    sym c.pairs.invariant.same ∙ ap (λ ps. pairs_from c.pairs.at c.pairs.pairs ps) pieces
    ∙ ends c.pairs.at c.pairs.pairs c.first_piece.result.0.now c.put_piece.new.pairs c.in-Ok.ensures.ok

pub pairs-preserved : goal.pairs-preserved
pairs-preserved c =
    let piece = c.first_piece.result.0.now in
    let pieces : pieces_of c.pairs.rest.now ≡ piece ∷ pieces_of c.in-Some.others.now = rw c.in-Some.is at c.first_piece.ensures.pieces in
    let lengths : length c.pairs.rest.now ≡ length piece + length c.in-Some.others.now + 1 = rw c.in-Some.is at c.first_piece.ensures.lengths in
    let place : c.pairs.at + (length piece + 1) ≡ c.pairs.at + length piece + 1 = omega arith in
    record {
      same = ap (λ n. pairs_from n c.put_piece.new.pairs (pieces_of c.in-Some.others.now)) place
          ∙ sym (turn c.pairs.at c.pairs.pairs piece (pieces_of c.in-Some.others.now) c.put_piece.new.pairs c.in-Ok.ensures.ok)
          ∙ ap (λ ps. pairs_from c.pairs.at c.pairs.pairs ps) (sym pieces) ∙ c.pairs.invariant.same;
      lengths = omega (arith, lengths, c.pairs.invariant.lengths);
      read = rw place (next_read c.pairs.at c.pairs.pairs piece c.put_piece.new.pairs c.pairs.invariant.read (piece_adds c.pairs.pairs piece c.pairs.at c.put_piece.new.pairs c.in-Ok.ensures.ok));
    }
