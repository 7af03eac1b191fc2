use Rattle.std.proofs.Common.{eqb, arith}
use Rattle.std.proofs.lemmas.List.Splits.{slice_split_none}
use Rattle.std.proofs.lemmas.List.Sums.{fails_before_first}
use Rattle.fd_script.proofs.Bytes.{lines_cut}
use Rattle.fd_script.proofs.lines.first_line.Goals as goal

pub returns-then-at-text-clause-lines : goal.returns-then-at-text-clause-lines
returns-then-at-text-clause-lines c =
    rw (c.split_at.ensures.front, c.split_at-then-at-text.ensures.back, c.split_at.ensures.back) (lines_cut c.args.text.now c.line_end-at.result c.line_end-at.ensures c.if-at-text.true)

pub returns-else-at-text-clause-lines : goal.returns-else-at-text-clause-lines
returns-else-at-text-clause-lines c = slice_split_none (λ b. eqb b 10) c.args.text.now (λ k d within. fails_before_first (λ b. eqb b 10) c.args.text.now k d (omega (arith, c.line_end-at.ensures, c.if-at-text.false, within)))
