use Rattle.std.proofs.Common.{arith, sym, ◌∙◌}
use Rattle.fd_request.proofs.Cuts.{found_behind, not_behind, none_behind}
use Rattle.fd_request.proofs.word.behind_words.Goals as goal

pub returns-then-is_some : goal.returns-then-is_some
returns-then-is_some c =
    sym (c.loop-word.invariant ∙ found_behind c.args.words.now c.loop-word.word-index _ c.loop-word-test.true (sym c.is_some.ensures ∙ c.if-is_some.true))

pub loop-word-preserved : goal.loop-word-preserved
loop-word-preserved c =
    c.loop-word.invariant ∙ not_behind c.args.words.now c.loop-word.word-index _ c.loop-word-test.true (sym c.is_some.ensures ∙ c.if-is_some.false)

pub returns : goal.returns
returns c = sym (c.loop-word.invariant ∙ none_behind c.args.words.now c.loop-word.word-index (omega arith))
