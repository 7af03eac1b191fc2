use Rattle.std.proofs.Common.{sym, arith}
use Rattle.fd_spelling.proofs.PieceLaws.{cut_lengths, pieces_cut, pieces_uncut}
use Rattle.fd_spelling.proofs.pieces.comma_piece.Goals as goal

pub returns-in-Some-clause-pieces : goal.returns-in-Some-clause-pieces
returns-in-Some-clause-pieces c = pieces_cut 44 c.args.text.now (c.in-Some.piece.now, c.in-Some.others.now) (sym c.in-Some.ensures)

pub returns-in-None-clause-pieces : goal.returns-in-None-clause-pieces
returns-in-None-clause-pieces c = pieces_uncut 44 c.args.text.now (sym c.in-None.ensures)

pub returns-in-Some-clause-lengths : goal.returns-in-Some-clause-lengths
returns-in-Some-clause-lengths c =
    let lengths = cut_lengths 44 c.args.text.now (c.in-Some.piece.now, c.in-Some.others.now) (sym c.in-Some.ensures) in
    omega (arith, lengths)
