use Rattle.fd_spelling.proofs.AgainStats.{if_joined}
use Rattle.fd_spelling.proofs.stats.stat_spelling.Goals as goal

pub returns-clause-value : goal.returns-clause-value
returns-clause-value c = if_joined c.args.text.now c.joined_spelling.result c.requires c.joined_spelling.ensures
