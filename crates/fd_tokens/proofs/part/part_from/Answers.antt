use Rattle.std.proofs.Common.{arith}
use Rattle.fd_tokens.specs.Tokens.{view}
use Rattle.fd_tokens.proofs.Cuts.{part_more, part_last}
use Rattle.fd_tokens.proofs.part.part_from.Goals as goal

pub returns-then-end-tokens-clause-parts : goal.returns-then-end-tokens-clause-parts
returns-then-end-tokens-clause-parts c =
    part_last c.args.mark (view c.args.stop.now) c.args.tokens.now c.args.from c.part_end-end.result c.part_end-end.ensures.value c.if-end-tokens.true c.part_end-end.ensures.behind

pub returns-else-end-tokens-clause-parts : goal.returns-else-end-tokens-clause-parts
returns-else-end-tokens-clause-parts c =
    part_more c.args.mark (view c.args.stop.now) c.args.tokens.now c.args.from c.part_end-end.result c.index-tokens-end.result c.part_end-end.ensures.value (omega (arith, c.part_end-end.ensures.within, c.if-end-tokens.false)) c.index-tokens-end.is
