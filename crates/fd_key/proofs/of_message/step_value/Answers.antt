use Rattle.std.proofs.Common.{◌≤◌, arith, length}
use Rattle.fd_spelling.specs.Steps.{step_text}
use Rattle.fd_spelling.proofs.ShortTexts.{step_short}
use Rattle.fd_key.proofs.of_message.step_value.Goals as goal

pub returns-clause-short : goal.returns-clause-short
returns-clause-short c =
    let few : length (step_text c.args.negative c.from.result c.args.unit) ≤ 24 = step_short c.args.negative c.from.result c.args.unit (omega arith) (omega arith) in
    omega (arith, few)
