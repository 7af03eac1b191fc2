use Rattle.std.proofs.Common.{sym}
use Rattle.fd_templates.proofs.Reading.{number_past}
use Rattle.fd_templates.proofs.interval.count_of.Goals as goal

pub returns-then-tail-lt8 : goal.returns-then-tail-lt8
returns-then-tail-lt8 c = sym (number_past 8 c.args.tail.now c.if-tail-lt8.true)
