use Rattle.std.proofs.Common.{arith}
use Rattle.fd_spelling.proofs.Digits.{cut_at}
use Rattle.fd_spelling.proofs.numerals.cut.Goals as goal

pub returns-then-at-text : goal.returns-then-at-text
returns-then-at-text c =
    rw (c.split_at.ensures.front, c.split_at-then-at-text.ensures.back, c.split_at.ensures.back) (cut_at c.args.mark c.args.text.now c.place_of-at.result c.place_of-at.ensures (omega arith))
