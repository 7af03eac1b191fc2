use Rattle.fd_machine.proofs.PutSteps.{still_inside, undone}
use Rattle.fd_core.proofs.put_step.add_pair.Goals as goal

pub drop_pair-requires : goal.drop_pair-requires
drop_pair-requires c = still_inside c.args.writers.now c.push_pair.new.writers c.args.i c.args.pair c.requires c.in_ok-push_pair.ensures.ok

pub returns-then-is_err-clause-no_writers : goal.returns-then-is_err-clause-no_writers
returns-then-is_err-clause-no_writers c = undone c.put-put.result c.args.writers.now c.push_pair.new.writers c.drop_pair.new.writers c.args.i c.args.pair c.requires c.in_ok-push_pair.ensures.ok c.drop_pair.ensures
