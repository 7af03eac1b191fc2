use Rattle.std.proofs.Common.{◌∙◌}
use Rattle.fd_index.proofs.Placing.{held_at}
use Rattle.fd_index.proofs.builder.IndexBuilder.is_held.Goals as goal

pub returns : goal.returns
returns c = c.is_ok.ensures.value ∙ held_at c.args.self.now.records c.args.key.now c.position.result c.position.ensures
