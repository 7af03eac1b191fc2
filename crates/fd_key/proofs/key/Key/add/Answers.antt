use Rattle.fd_key.proofs.PairLaws.{with_new_pair}
use Rattle.fd_key.proofs.key.Key.add.Goals as goal

pub returns-clause-pair : goal.returns-clause-pair
returns-clause-pair c = rw (← (with_new_pair c.args.self.now c.args.name.now c.args.text.now c.requires.other)) c.put.ensures.ok
