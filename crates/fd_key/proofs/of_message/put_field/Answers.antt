use Rattle.std.proofs.Common.{arith}
use Rattle.std.specs.Prelude.{codes}
use Rattle.fd_key.specs.Values.{value_text}
use Rattle.fd_key.proofs.PairLaws.{with_pair_longer}
use Rattle.fd_key.proofs.of_message.put_field.Goals as goal

pub spell-requires-2-clause-room : goal.spell-requires-2-clause-room
spell-requires-2-clause-room c = rw c.in_ok-spell.ensures.ok (omega (arith, with_pair_longer c.args.key.now (codes "param") (value_text c.param_in-param.result)))
