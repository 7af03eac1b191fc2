use Rattle.std.proofs.Common.{◌∙◌, Option, None, Some, ℕ, refl, subst, sym, arith}
use Rattle.fd_streams.specs.Parted.{PartsOne}
use Rattle.fd_streams.proofs.Causes.{output_before}
use Rattle.fd_streams.proofs.PartSteps.{parts_end, parts_more, parts_nothing, halts_later}
use Rattle.fd_streams.proofs.parting.split_messages.Goals as goal

pub messages-init : goal.messages-init
messages-init g c = record { on = parts_nothing c.args.splitter.now (g.K.Sink.taken c.args.output.now); few = omega arith; calm = refl }

pub messages-preserved : goal.messages-preserved
messages-preserved g c =
    let i = c.messages.invariant in
    let one = rw c.in-Ok-Some.field-0-is at c.in-Ok-Some.ensures.went in
    record {
      on = parts_more c.args.splitter.now c.messages.splitter c.split_message.new.splitter c.messages.count c.in-Ok-Some.more (g.K.Sink.taken c.args.output.now) (g.K.Sink.taken c.messages.output) (g.K.Sink.taken c.split_message.new.output) i.on one.0;
      few = let few = i.few in let more = one.1 in omega (arith, few, more);
      calm = c.in-Ok-Some.ensures.cause ∙ i.calm;
    }

pub returns-in-Ok-None-clause-went : goal.returns-in-Ok-None-clause-went
returns-in-Ok-None-clause-went g c =
    let i = c.messages.invariant in
    let one = rw c.in-Ok-None.field-0-is at c.in-Ok-None.ensures.went in
    record {
      goes_on = parts_end c.args.splitter.now c.messages.splitter c.split_message.new.splitter c.messages.count (g.K.Sink.taken c.args.output.now) (g.K.Sink.taken c.messages.output) (g.K.Sink.taken c.split_message.new.output) i.on one.0;
      few = let few = i.few in let more = one.1 in omega (arith, few, more);
      waits = one.2;
    }

pub returns-in-Err-clause-halted : goal.returns-in-Err-clause-halted
returns-in-Err-clause-halted g c =
    halts_later c.in-Err.halt c.args.splitter.now c.messages.splitter c.messages.count (g.K.Sink.taken c.args.output.now) (g.K.Sink.taken c.messages.output) (g.K.Sink.taken c.split_message.new.output) c.messages.invariant.on c.in-Err.ensures.halted

pub returns-in-Err-clause-cause : goal.returns-in-Err-clause-cause
returns-in-Err-clause-cause g c = output_before c.in-Err.halt _ _ _ c.messages.invariant.calm c.in-Err.ensures.cause
