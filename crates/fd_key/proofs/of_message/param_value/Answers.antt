use Rattle.std.proofs.Common.{arith}
use Rattle.fd_spelling.proofs.ShortTexts.{param_short}
use Rattle.fd_key.proofs.of_message.param_value.Goals as goal

pub returns-clause-short : goal.returns-clause-short
returns-clause-short c = param_short c.args.discipline c.args.category c.args.number (omega arith) (omega arith) (omega arith)
