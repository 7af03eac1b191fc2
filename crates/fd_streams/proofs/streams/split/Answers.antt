use Rattle.fd_streams.proofs.PartExits.{done, unread, unwritten, refused, starved}
use Rattle.fd_streams.proofs.streams.split.Goals as goal

pub returns-in-Ok-clause-ran : goal.returns-in-Ok-clause-ran
returns-in-Ok-clause-ran g c =
    let has = g.W.Store.Store.has c.args.objects.now.store in
    let m = g.W.Store.Store.faults c.args.objects.now.store in
    done has m _ _ _ _ _ _ _ _ _ _ _ _ _ c.in-Ok.tally c.in-Ok.ensures.answer c.in-Ok.ensures.to_end c.in-Ok.ensures.cause.0 c.in-Ok.ensures.cause.1 c.tell_split.ensures

pub returns-in-Err-Unread-clause-ran : goal.returns-in-Err-Unread-clause-ran
returns-in-Err-Unread-clause-ran g c =
    let has = g.W.Store.Store.has c.args.objects.now.store in
    let m = g.W.Store.Store.faults c.args.objects.now.store in
    let cause = rw c.in-Err-Unread.field-0-is at c.in-Err-Unread.ensures.cause in
    unread has m _ _ _ _ _ _ _ _ _ _ _ _ _ (rw c.in-Err-Unread.field-0-is at c.in-Err-Unread.ensures.answer) cause.0 c.tell_input_failed.ensures

pub returns-in-Err-Unwritten-clause-ran : goal.returns-in-Err-Unwritten-clause-ran
returns-in-Err-Unwritten-clause-ran g c =
    let has = g.W.Store.Store.has c.args.objects.now.store in
    let m = g.W.Store.Store.faults c.args.objects.now.store in
    let cause = rw c.in-Err-Unwritten.field-0-is at c.in-Err-Unwritten.ensures.cause in
    unwritten has m _ _ _ _ _ _ _ _ _ _ _ _ _ (rw c.in-Err-Unwritten.field-0-is at c.in-Err-Unwritten.ensures.answer) cause.1 c.tell_output_failed.ensures

pub returns-in-Err-Refused-clause-ran : goal.returns-in-Err-Refused-clause-ran
returns-in-Err-Refused-clause-ran g c =
    let has = g.W.Store.Store.has c.args.objects.now.store in
    let m = g.W.Store.Store.faults c.args.objects.now.store in
    let cause = rw c.in-Err-Refused.field-0-is at c.in-Err-Refused.ensures.cause in
    refused has m _ _ _ _ _ _ _ _ _ _ _ _ _ c.in-Err-Refused.refusal (rw c.in-Err-Refused.field-0-is at c.in-Err-Refused.ensures.answer)
    cause.0 cause.1 c.tell_refusal.ensures.told

pub returns-clause-ran : goal.returns-clause-ran
returns-clause-ran g c =
    let has = g.W.Store.Store.has c.args.objects.now.store in
    let m = g.W.Store.Store.faults c.args.objects.now.store in
    starved has m _ _ _ _ _ _ _ _ _ _ _ _ _ (rw c.in-Err-NoMemory.field-0-is at c.in-Err-NoMemory.ensures.answer) c.tell_no_memory.ensures
