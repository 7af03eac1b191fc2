use Rattle.std.proofs.Common.{sym}
use Rattle.fd_spelling.proofs.PieceLaws.{pieces_cut, pieces_uncut, cut_lengths}
use Rattle.fd_spelling.proofs.pieces.first_piece.Goals as goal

pub returns-in-Some-clause-pieces : goal.returns-in-Some-clause-pieces
returns-in-Some-clause-pieces c = pieces_cut c.args.mark c.args.text.now (c.in-Some.piece.now, c.in-Some.others.now) (sym c.in-Some.ensures)

pub returns-in-Some-clause-lengths : goal.returns-in-Some-clause-lengths
returns-in-Some-clause-lengths c = sym (cut_lengths c.args.mark c.args.text.now (c.in-Some.piece.now, c.in-Some.others.now) (sym c.in-Some.ensures))

pub returns-in-None-clause-pieces : goal.returns-in-None-clause-pieces
returns-in-None-clause-pieces c = pieces_uncut c.args.mark c.args.text.now (sym c.in-None.ensures)
