use Rattle.std.proofs.Common.{arith}
use Rattle.fd_spelling.proofs.ShortTexts.{levtype_short}
use Rattle.fd_key.proofs.of_message.levtype_value.Goals as goal

pub returns-clause-short : goal.returns-clause-short
returns-clause-short c = levtype_short c.args.first c.args.second (omega arith) (omega arith)
