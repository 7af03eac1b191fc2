use Rattle.std.proofs.Common.{sym, arith}
use Rattle.std.proofs.lemmas.List.{take_all}
use Rattle.fd_script.proofs.script.front_of.Goals as goal

pub returns-else-text-gt-BYTES-clause-front : goal.returns-else-text-gt-BYTES-clause-front
returns-else-text-gt-BYTES-clause-front c = sym (take_all 1048576 c.args.text.now (omega (arith, c.if-text-gt-BYTES.false)))
