use Rattle.fd_index.proofs.Placing.{none_stand, sound_at_first}
use Rattle.fd_index.proofs.builder.IndexBuilder.new.Goals as goal

pub invariant_of-result : goal.invariant_of-result
invariant_of-result c = sound_at_first _ c.args.bytes c.in-Ok.ensures c.in_ok-with_capacity.ensures.items c.ranges.keys.fits c.in_ok-with_capacity.ensures.capacity

pub returns-clause-no_puts : goal.returns-clause-no_puts
returns-clause-no_puts c = none_stand _ _ c.in_ok-with_capacity.ensures.items
