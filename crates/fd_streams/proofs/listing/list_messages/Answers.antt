use Rattle.std.proofs.Common.{◌∙◌, Bool, refl, subst}
use Rattle.fd_streams.specs.Halted.{ListedOne}
use Rattle.fd_streams.proofs.Causes.{output_before}
use Rattle.fd_streams.proofs.ListingSteps.{lists_more, lists_nothing, halted_later}
use Rattle.fd_streams.proofs.listing.list_messages.Goals as goal

pub messages-init : goal.messages-init
messages-init g c = record { on = lists_nothing c.args.listing c.args.splitter.now (g.K.Sink.taken c.args.output.now); calm = refl }

pub messages-preserved : goal.messages-preserved
messages-preserved g c =
    let i = c.messages.invariant in
    let one = c.in-Ok-true.ensures.went in
    record {
      on = lists_more c.args.listing c.args.splitter.now c.messages.splitter c.list_message.new.splitter (g.K.Sink.taken c.args.output.now) (g.K.Sink.taken c.messages.output) (g.K.Sink.taken c.list_message.new.output) i.on one.goes_on;
      calm = c.in-Ok-true.ensures.cause ∙ i.calm;
    }

pub returns-in-Ok-false-clause-went : goal.returns-in-Ok-false-clause-went
returns-in-Ok-false-clause-went g c =
    let i = c.messages.invariant in
    let one = subst (λ (b : Bool). ListedOne c.args.listing b c.messages.splitter c.list_message.new.splitter (g.K.Sink.taken c.messages.output) (g.K.Sink.taken c.list_message.new.output)) c.in-Ok-false.field-0-test c.in-Ok-false.ensures.went in
    record {
      waits = one.measure;
      goes_on = lists_more c.args.listing c.args.splitter.now c.messages.splitter c.list_message.new.splitter (g.K.Sink.taken c.args.output.now) (g.K.Sink.taken c.messages.output) (g.K.Sink.taken c.list_message.new.output) i.on one.goes_on;
    }

pub returns-in-Err-clause-halted : goal.returns-in-Err-clause-halted
returns-in-Err-clause-halted g c =
    halted_later c.args.listing c.in-Err.halt c.args.splitter.now c.messages.splitter (g.K.Sink.taken c.args.output.now) (g.K.Sink.taken c.messages.output) (g.K.Sink.taken c.list_message.new.output) c.messages.invariant.on c.in-Err.ensures.halted

pub returns-in-Err-clause-cause : goal.returns-in-Err-clause-cause
returns-in-Err-clause-cause g c = output_before c.in-Err.halt _ _ _ c.messages.invariant.calm c.in-Err.ensures.cause
