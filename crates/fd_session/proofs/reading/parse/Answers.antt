use Rattle.std.proofs.Common.{◌∙◌, ap, drop, sym}
use Rattle.fd_script.specs.Grammar.{script_of}
use Rattle.fd_session.proofs.Fronts.{accepted, named_fault, refused_behind, same_fault}
use Rattle.fd_session.proofs.Short.{short_script}
use Rattle.fd_session.proofs.reading.parse.Goals as goal

pub returns-in-Err-clause-refused : goal.returns-in-Err-clause-refused
returns-in-Err-clause-refused c = λ input are more. same_fault input c.deref.result.now c.in-Err.fault (c.deref.ensures.value ∙ are) c.in-Err.ensures.script

pub returns-in-Ok-split_stream-clause-input : goal.returns-in-Ok-split_stream-clause-input
returns-in-Ok-split_stream-clause-input c = λ input are more.
    let s = c.in-Ok-split_stream.ensures in
    accepted input c.deref.result.now (drop c.in-Ok.read.1 c.args.octets.items) c.args.past c.in-Ok.read.0 c.in-Ok.read.1 c.in-Ok-split_stream.messages (c.deref.ensures.value ∙ are) more (ap (drop c.in-Ok.read.1) (sym c.deref.ensures.value)) c.in-Ok.ensures.script s.0 s.1

pub returns-in-Err-Refused-clause-refused : goal.returns-in-Err-Refused-clause-refused
returns-in-Err-Refused-clause-refused c = λ input are more.
    let e = c.in-Err-Refused in
    rw e.refusal-is (refused_behind input c.deref.result.now (drop c.in-Ok.read.1 c.args.octets.items) c.args.past c.in-Ok.read.0 c.in-Ok.read.1 e.refusal (c.deref.ensures.value ∙ are) more (ap (drop c.in-Ok.read.1) (sym c.deref.ensures.value)) c.in-Ok.ensures.script (rw e.field-0-is at e.ensures))

pub returns-in-Ok-split_stream-clause-short : goal.returns-in-Ok-split_stream-clause-short
returns-in-Ok-split_stream-clause-short c = short_script c.deref.result.now c.in-Ok.read.0 c.in-Ok.read.1 c.in-Ok.ensures.script

pub returns-in-Err-clause-named : goal.returns-in-Err-clause-named
returns-in-Err-clause-named c = named_fault (script_of c.deref.result.now) c.in-Err.fault c.in-Err.ensures.script
