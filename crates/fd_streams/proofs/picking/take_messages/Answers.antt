use Rattle.std.proofs.Common.{rules, Bool, subst}
use Rattle.fd_streams.specs.Found.{Stopped, Took}
use Rattle.fd_streams.proofs.Steps.{goes_further, stopped_later}
use Rattle.fd_streams.proofs.picking.take_messages.Goals as goal

pub loop-preserved : goal.loop-preserved
loop-preserved g c =
    let one = c.in_ok-take_message.ensures.took in
    goes_further c.args.wanted.now c.args.splitter.now c.loop.splitter c.take_message.new.splitter c.args.last.now c.loop.last c.take_message.new.last c.loop.invariant one.goes_on

pub returns-clause-ok : goal.returns-clause-ok
returns-clause-ok g c =
    let one = subst (λ (b : Bool). Took c.args.wanted.now b c.loop.splitter c.take_message.new.splitter c.loop.last c.take_message.new.last) c.if-branch.false c.in_ok-take_message.ensures.took in
    record {
      waits = one.measure;
      goes_on = goes_further c.args.wanted.now c.args.splitter.now c.loop.splitter c.take_message.new.splitter c.args.last.now c.loop.last c.take_message.new.last c.loop.invariant one.goes_on;
    }

pub returns-in_err-take_message-clause-err : goal.returns-in_err-take_message-clause-err
returns-in_err-take_message-clause-err g c =
    let later : Stopped c.args.wanted.now c.in_err-take_message.field-0.0 c.args.splitter.now c.args.last.now =
    stopped_later c.args.wanted.now c.args.splitter.now c.loop.splitter c.args.last.now c.loop.last c.in_err-take_message.field-0.0 c.loop.invariant c.in_err-take_message.ensures.err in
    search rules
