use Rattle.fd_contents.proofs.Askable.{ranged_here, ranged_on}
use Rattle.fd_contents.proofs.telling.is_ranged.Goals as goal

pub returns-then-is_range_word : goal.returns-then-is_range_word
returns-then-is_range_word c =
    ranged_here c.args.key.now c.loop-i.i c.pair.result.0.now c.pair.result.1.now c.is_range_word.result c.loop-i.invariant c.pair.ensures c.is_range_word.ensures c.if-is_range_word.true

pub loop-i-preserved : goal.loop-i-preserved
loop-i-preserved c = ranged_on c.args.key.now c.loop-i.i c.pair.result.0.now c.pair.result.1.now c.is_range_word.result c.loop-i.invariant c.pair.ensures c.is_range_word.ensures c.if-is_range_word.false
