use Rattle.std.proofs.Common.{sym}
use Rattle.fd_spelling.proofs.PieceLaws.{pieces_cut, pieces_uncut}
use Rattle.fd_words.proofs.layers.first_layer.Goals as goal

pub returns-in-Some : goal.returns-in-Some
returns-in-Some c = pieces_cut 47 c.args.text.now (c.in-Some.layer.now, c.in-Some.others.now) (sym c.in-Some.ensures)

pub returns-in-None : goal.returns-in-None
returns-in-None c = pieces_uncut 47 c.args.text.now (sym c.in-None.ensures)
