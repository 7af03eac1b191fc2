use Rattle.std.proofs.Common.{subst}
use Rattle.fd_io.specs.Streams.{Takes, TakesFront}
use Rattle.fd_streams.proofs.PickExits.{missed, done, unwritten, unread, starved, refused}
use Rattle.fd_streams.proofs.streams.pick.Goals as goal

pub returns-then-not-last-clause-ran : goal.returns-then-not-last-clause-ran
returns-then-not-last-clause-ran g c =
    let has = g.W.Store.Store.has c.args.objects.now.store in
    let m = g.W.Store.Store.faults c.args.objects.now.store in
    missed _ has m _ _ _ _ _ _ _ _ _ _ _ c.in-Ok-last_wanted.last c.in-Ok-last_wanted.ensures.answer c.if-not-last.true c.in-Ok-last_wanted.ensures.to_end c.in-Ok-last_wanted.ensures.cause c.tell.ensures

pub returns-in-Ok-write_all-clause-ran : goal.returns-in-Ok-write_all-clause-ran
returns-in-Ok-write_all-clause-ran g c =
    let has = g.W.Store.Store.has c.args.objects.now.store in
    let m = g.W.Store.Store.faults c.args.objects.now.store in
    done _ has m _ _ _ _ _ _ _ _ _ _ _ _ _ c.in-Ok-last_wanted.last c.in-Ok-last_wanted.ensures.answer c.if-not-last.false (subst (Takes _ _) c.deref.ensures.value c.in-Ok-write_all.ensures.took)
    c.in-Ok-last_wanted.ensures.to_end c.in-Ok-last_wanted.ensures.cause c.in-Ok-write_all.ensures.calm c.tell-in-Ok-write_all.ensures

pub returns-in-Ok-last_wanted-clause-ran : goal.returns-in-Ok-last_wanted-clause-ran
returns-in-Ok-last_wanted-clause-ran g c =
    let has = g.W.Store.Store.has c.args.objects.now.store in
    let m = g.W.Store.Store.faults c.args.objects.now.store in
    unwritten _ has m _ _ _ _ _ _ _ _ _ _ _ _ _ c.in-Ok-last_wanted.last c.in-Ok-last_wanted.ensures.answer c.if-not-last.false (subst (TakesFront _ _) c.deref.ensures.value c.in-Err.ensures.front)
    c.in-Err.ensures.cause c.tell_output_failed.ensures

pub returns-in-Err-Fault-clause-ran : goal.returns-in-Err-Fault-clause-ran
returns-in-Err-Fault-clause-ran g c =
    let has = g.W.Store.Store.has c.args.objects.now.store in
    let m = g.W.Store.Store.faults c.args.objects.now.store in
    unread _ has m _ _ _ _ _ _ _ _ _ _ _ (rw c.in-Err-Fault.field-0-is at c.in-Err-Fault.ensures.cause) c.tell_input_failed.ensures

pub returns-in-Err-Refused-clause-ran : goal.returns-in-Err-Refused-clause-ran
returns-in-Err-Refused-clause-ran g c =
    let has = g.W.Store.Store.has c.args.objects.now.store in
    let m = g.W.Store.Store.faults c.args.objects.now.store in
    refused _ has m _ _ _ _ _ _ _ _ _ _ _ c.in-Err-Refused.refusal (rw c.in-Err-Refused.field-0-is at c.in-Err-Refused.ensures.answer) (rw c.in-Err-Refused.field-0-is at c.in-Err-Refused.ensures.cause) c.tell_refusal.ensures.told

pub returns-clause-ran : goal.returns-clause-ran
returns-clause-ran g c =
    let has = g.W.Store.Store.has c.args.objects.now.store in
    let m = g.W.Store.Store.faults c.args.objects.now.store in
    starved _ has m _ _ _ _ _ _ _ _ _ _ _ c.tell_no_memory-in-Err-NoMemory.ensures
