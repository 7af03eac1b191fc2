use Rattle.std.proofs.Common.{◌≡◌, ◌∙◌, ◌+◌, sym, ap, drop, get_or, arith}
use Rattle.std.proofs.lemmas.List.{drop_more}
use Rattle.fd_script.specs.Grammar.{foreign_byte}
use Rattle.fd_script.proofs.Bytes.{ascii_here, foreign_here, none_foreign}
use Rattle.fd_script.proofs.lines.foreign_byte.Goals as goal

pub returns-then-b-ge128 : goal.returns-then-b-ge128
returns-then-b-ge128 c =
    sym (c.loop-b.invariant ∙ ap foreign_byte (drop_more c.args.line.now c.loop-b.b-index 0 c.loop-b-test.true) ∙ foreign_here (get_or c.args.line.now c.loop-b.b-index 0) (drop (c.loop-b.b-index + 1) c.args.line.now) c.if-b-ge128.true)

pub loop-b-preserved : goal.loop-b-preserved
loop-b-preserved c =
    c.loop-b.invariant ∙ ap foreign_byte (drop_more c.args.line.now c.loop-b.b-index 0 c.loop-b-test.true) ∙ ascii_here (get_or c.args.line.now c.loop-b.b-index 0) (drop (c.loop-b.b-index + 1) c.args.line.now) c.if-b-ge128.false

pub returns : goal.returns
returns c = sym (c.loop-b.invariant ∙ none_foreign c.args.line.now c.loop-b.b-index c.loop-b-test.false)
