use Rattle.fd_machine.proofs.OpenSteps.{batches_step, held_step}
use Rattle.fd_core.proofs.open_steps.batches_of.Goals as goal

pub batch_of-requires : goal.batch_of-requires
batch_of-requires c = (held_step c.args.files.now c.args.entries.now c.loop-i.i c.at.result.now c.at.ensures c.loop-i.invariant.held).0

pub loop-i-preserved : goal.loop-i-preserved
loop-i-preserved c = record {
  end = c.loop-i.invariant.end;
  held = (held_step c.args.files.now c.args.entries.now c.loop-i.i c.at.result.now c.at.ensures c.loop-i.invariant.held).1;
  so_far = batches_step c.args.files.now c.args.entries.now c.loop-i.i c.at.result.now c.push.new.self c.loop-i.batches c.in_ok-batch_of.field-0 c.at.ensures c.in_ok-push.ensures.ok c.in_ok-batch_of.ensures c.loop-i.invariant.so_far;
}
