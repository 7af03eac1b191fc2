use Rattle.std.proofs.Common.{◌≡◌, List, Some, IfOk, refl, sym, ap, subst, arith}
use Rattle.std.specs.Prelude.{is_ok}
use Rattle.fd_request.specs.Expansion.{expand}
use Rattle.fd_outcome.specs.Asking.{Answer}
use Rattle.fd_outcome.specs.Ends.{Tells, disk_failed, no_memory, output_failed}
use Rattle.fd_outcome.specs.Objects.{object}
use Rattle.fd_outcome.specs.Outcome.{answered}
use Rattle.fd_stored.specs.declared.status.Status.TheVariants.{Damaged, DiskFault, NoMemory, OutputFault}
use Rattle.fd_outcome.proofs.Exits.{never_whole}
use Rattle.fd_telling.proofs.StopLemmas.{rose_later}
use Rattle.fd_answering.specs.Located.{AreAt}
use Rattle.fd_retrieve.specs.Located.{OnLost}
use Rattle.fd_answering.specs.Damages.{IsDamagedAt}
use Rattle.fd_answering.proofs.AnsweringLemmas.{took_nothing}
use Rattle.fd_retrieve.proofs.DatasetLemmas.{at_get}
use Rattle.fd_retrieve.proofs.RetrieveExits.{counted_ran, counted_tells, damaged_ran, disk_ran, either_not_whole, part_none, starved_ran, told_not_whole, untold_ran, unwritten_ran}
use Rattle.fd_retrieve.proofs.retrieving.answer_located.Goals as goal

pub returns-in-Err-Disk-clause-ran : goal.returns-in-Err-Disk-clause-ran
returns-in-Err-Disk-clause-ran g c = λ root over before faults left reads o begins at.
    let input = object left (g.W.Input.Source.left c.args.objects.now.input) reads (g.W.Input.Source.faults c.args.objects.now.input) in
    disk_ran root over c.args.workers before _ _ faults _ _ input (object (g.W.Output.Sink.taken c.args.objects.now.output) (g.W.Output.Sink.taken c.args.objects.now.output) (g.W.Output.Sink.faults c.args.objects.now.output) (g.W.Output.Sink.faults c.args.objects.now.output))
    (object (g.W.Report.Sink.taken c.args.objects.now.report) (g.W.Report.Sink.taken c.tell_disk_failed.new.report) (g.W.Report.Sink.faults c.args.objects.now.report) (g.W.Report.Sink.faults c.tell_disk_failed.new.report))
    c.args.opened.now o begins c.note.ensures.has (g.W.Report.Sink.taken c.args.objects.now.report) (g.W.Report.Sink.faults c.args.objects.now.report) c.tell_disk_failed.result (omega arith)
    c.tell_disk_failed.ensures (rose_later faults _ _ begins.later c.note.ensures.cause) (λ xs e. part_none xs (g.W.Output.Sink.taken c.args.objects.now.output) (g.W.Report.Sink.taken c.args.objects.now.report)) (took_nothing (g.W.Report.Sink.taken c.args.objects.now.report))

pub returns-in-Err-Damaged-clause-ran : goal.returns-in-Err-Damaged-clause-ran
returns-in-Err-Damaged-clause-ran g c = λ root over before faults left reads o begins at.
    let input = object left (g.W.Input.Source.left c.args.objects.now.input) reads (g.W.Input.Source.faults c.args.objects.now.input) in
    let bad : IsDamagedAt c.args.opened.now c.in-Err-Damaged.number c.in-Err-Damaged.damage =
    let lost : OnLost c.in-Err-Damaged.field-0 (IsDamagedAt c.args.opened.now) = rw c.in-Err-Damaged.is at c.requires.damaged in
    rw c.in-Err-Damaged.field-0-is at lost in
    damaged_ran root over c.args.workers before _ _ faults _ _ input (object (g.W.Output.Sink.taken c.args.objects.now.output) (g.W.Output.Sink.taken c.args.objects.now.output) (g.W.Output.Sink.faults c.args.objects.now.output) (g.W.Output.Sink.faults c.args.objects.now.output))
    (object (g.W.Report.Sink.taken c.args.objects.now.report) (g.W.Report.Sink.taken c.tell_damaged.new.report) (g.W.Report.Sink.faults c.args.objects.now.report) (g.W.Report.Sink.faults c.tell_damaged.new.report))
    c.args.opened.now o begins refl (g.W.Report.Sink.taken c.args.objects.now.report) (g.W.Report.Sink.faults c.args.objects.now.report) c.tell_damaged.result (omega arith)
    c.in-Err-Damaged.number c.index-opened-number.result c.in-Err-Damaged.damage (at_get c.args.opened.now c.in-Err-Damaged.number c.index-opened-number.result bad.inside c.index-opened-number.is) bad
    c.tell_damaged.ensures.told (λ xs e. part_none xs (g.W.Output.Sink.taken c.args.objects.now.output) (g.W.Report.Sink.taken c.args.objects.now.report)) (took_nothing (g.W.Report.Sink.taken c.args.objects.now.report))

pub returns-in-Err-NoMemory-clause-ran : goal.returns-in-Err-NoMemory-clause-ran
returns-in-Err-NoMemory-clause-ran g c = λ root over before faults left reads o begins at.
    let input = object left (g.W.Input.Source.left c.args.objects.now.input) reads (g.W.Input.Source.faults c.args.objects.now.input) in
    starved_ran root over c.args.workers before _ _ faults _ _ input (object (g.W.Output.Sink.taken c.args.objects.now.output) (g.W.Output.Sink.taken c.args.objects.now.output) (g.W.Output.Sink.faults c.args.objects.now.output) (g.W.Output.Sink.faults c.args.objects.now.output))
    (object (g.W.Report.Sink.taken c.args.objects.now.report) (g.W.Report.Sink.taken c.tell_no_memory.new.report) (g.W.Report.Sink.faults c.args.objects.now.report) (g.W.Report.Sink.faults c.tell_no_memory.new.report))
    c.args.opened.now o begins refl (g.W.Report.Sink.taken c.args.objects.now.report) (g.W.Report.Sink.faults c.args.objects.now.report) c.tell_no_memory.result (omega arith)
    c.tell_no_memory.ensures (λ xs e. part_none xs (g.W.Output.Sink.taken c.args.objects.now.output) (g.W.Report.Sink.taken c.args.objects.now.report)) (took_nothing (g.W.Report.Sink.taken c.args.objects.now.report))

pub returns-in-Ok-answer_all-clause-ran : goal.returns-in-Ok-answer_all-clause-ran
returns-in-Ok-answer_all-clause-ran g c = λ root over before faults left reads o begins at.
    let input = object left (g.W.Input.Source.left c.args.objects.now.input) reads (g.W.Input.Source.faults c.args.objects.now.input) in
    let there : (xs : List Answer) → o ≡ Some xs → AreAt c.args.opened.now (expand c.args.request.now) xs c.in-Ok.located.items = rw c.in-Ok.is at at in
    counted_ran root over c.args.workers before _ _ faults _ _ input (object (g.W.Output.Sink.taken c.args.objects.now.output) (g.W.Output.Sink.taken c.answer_all.new.output) (g.W.Output.Sink.faults c.args.objects.now.output) (g.W.Output.Sink.faults c.answer_all.new.output))
    (object (g.W.Report.Sink.taken c.args.objects.now.report) (g.W.Report.Sink.taken c.tell_counts.new.report) (g.W.Report.Sink.faults c.args.objects.now.report) (g.W.Report.Sink.faults c.tell_counts.new.report))
    c.args.opened.now o begins refl (g.W.Report.Sink.taken c.answer_all.new.report) (g.W.Report.Sink.faults c.answer_all.new.report) c.tell_counts.result c.in-Ok-answer_all.ensures.whole.report_later
    c.in-Ok-answer_all.found c.in-Ok-answer_all.missed c.tell_counts.ensures c.in-Ok-answer_all.ensures.whole.calm (λ xs e. c.in-Ok-answer_all.ensures.whole.answered xs (subst (AreAt c.args.opened.now (expand c.args.request.now) xs) (sym c.deref.ensures.value) (there xs e))) c.in-Ok-answer_all.ensures.whole.grew

pub returns-in-Err-Disk-answer_all-clause-ran : goal.returns-in-Err-Disk-answer_all-clause-ran
returns-in-Err-Disk-answer_all-clause-ran g c = λ root over before faults left reads o begins at.
    let input = object left (g.W.Input.Source.left c.args.objects.now.input) reads (g.W.Input.Source.faults c.args.objects.now.input) in
    let there : (xs : List Answer) → o ≡ Some xs → AreAt c.args.opened.now (expand c.args.request.now) xs c.in-Ok.located.items = rw c.in-Ok.is at at in
    disk_ran root over c.args.workers before _ _ faults _ _ input (object (g.W.Output.Sink.taken c.args.objects.now.output) (g.W.Output.Sink.taken c.answer_all.new.output) (g.W.Output.Sink.faults c.args.objects.now.output) (g.W.Output.Sink.faults c.answer_all.new.output))
    (object (g.W.Report.Sink.taken c.args.objects.now.report) (g.W.Report.Sink.taken c.tell_disk_failed-in-Err-Disk-answer_all.new.report) (g.W.Report.Sink.faults c.args.objects.now.report) (g.W.Report.Sink.faults c.tell_disk_failed-in-Err-Disk-answer_all.new.report))
    c.args.opened.now o begins c.note-in-Err-Disk-answer_all.ensures.has (g.W.Report.Sink.taken c.answer_all.new.report) (g.W.Report.Sink.faults c.answer_all.new.report) c.tell_disk_failed-in-Err-Disk-answer_all.result c.in-Err-Disk-answer_all.ensures.whole.report_later
    c.tell_disk_failed-in-Err-Disk-answer_all.ensures (rose_later faults _ _ begins.later c.note-in-Err-Disk-answer_all.ensures.cause) (λ xs e. c.in-Err-Disk-answer_all.ensures.whole.halted xs (subst (AreAt c.args.opened.now (expand c.args.request.now) xs) (sym c.deref.ensures.value) (there xs e))) c.in-Err-Disk-answer_all.ensures.whole.grew

pub returns-in-Err-Unwritten-clause-ran : goal.returns-in-Err-Unwritten-clause-ran
returns-in-Err-Unwritten-clause-ran g c = λ root over before faults left reads o begins at.
    let input = object left (g.W.Input.Source.left c.args.objects.now.input) reads (g.W.Input.Source.faults c.args.objects.now.input) in
    let there : (xs : List Answer) → o ≡ Some xs → AreAt c.args.opened.now (expand c.args.request.now) xs c.in-Ok.located.items = rw c.in-Ok.is at at in
    unwritten_ran root over c.args.workers before _ _ faults _ _ input (object (g.W.Output.Sink.taken c.args.objects.now.output) (g.W.Output.Sink.taken c.answer_all.new.output) (g.W.Output.Sink.faults c.args.objects.now.output) (g.W.Output.Sink.faults c.answer_all.new.output))
    (object (g.W.Report.Sink.taken c.args.objects.now.report) (g.W.Report.Sink.taken c.tell_output_failed.new.report) (g.W.Report.Sink.faults c.args.objects.now.report) (g.W.Report.Sink.faults c.tell_output_failed.new.report))
    c.args.opened.now o begins refl (g.W.Report.Sink.taken c.answer_all.new.report) (g.W.Report.Sink.faults c.answer_all.new.report) c.tell_output_failed.result c.in-Err-Unwritten.ensures.whole.report_later
    c.tell_output_failed.ensures (rw c.in-Err-Unwritten.field-0-is at c.in-Err-Unwritten.ensures.whole.cause) (λ xs e. c.in-Err-Unwritten.ensures.whole.halted xs (subst (AreAt c.args.opened.now (expand c.args.request.now) xs) (sym c.deref.ensures.value) (there xs e))) c.in-Err-Unwritten.ensures.whole.grew

pub returns-in-Err-Untold-clause-ran : goal.returns-in-Err-Untold-clause-ran
returns-in-Err-Untold-clause-ran g c = λ root over before faults left reads o begins at.
    let input = object left (g.W.Input.Source.left c.args.objects.now.input) reads (g.W.Input.Source.faults c.args.objects.now.input) in
    let there : (xs : List Answer) → o ≡ Some xs → AreAt c.args.opened.now (expand c.args.request.now) xs c.in-Ok.located.items = rw c.in-Ok.is at at in
    untold_ran root over c.args.workers before _ _ faults _ _ input (object (g.W.Output.Sink.taken c.args.objects.now.output) (g.W.Output.Sink.taken c.answer_all.new.output) (g.W.Output.Sink.faults c.args.objects.now.output) (g.W.Output.Sink.faults c.answer_all.new.output))
    (object (g.W.Report.Sink.taken c.args.objects.now.report) (g.W.Report.Sink.taken c.answer_all.new.report) (g.W.Report.Sink.faults c.args.objects.now.report) (g.W.Report.Sink.faults c.answer_all.new.report))
    c.args.opened.now o begins refl (g.W.Report.Sink.taken c.answer_all.new.report) (g.W.Report.Sink.faults c.answer_all.new.report) _ c.in-Err-Untold.ensures.whole.report_later
    refl refl (rw c.in-Err-Untold.field-0-is at c.in-Err-Untold.ensures.whole.cause) (λ xs e. c.in-Err-Untold.ensures.whole.halted xs (subst (AreAt c.args.opened.now (expand c.args.request.now) xs) (sym c.deref.ensures.value) (there xs e)))

pub returns-in-Err-Damaged-answer_all-clause-ran : goal.returns-in-Err-Damaged-answer_all-clause-ran
returns-in-Err-Damaged-answer_all-clause-ran g c = λ root over before faults left reads o begins at.
    let input = object left (g.W.Input.Source.left c.args.objects.now.input) reads (g.W.Input.Source.faults c.args.objects.now.input) in
    let there : (xs : List Answer) → o ≡ Some xs → AreAt c.args.opened.now (expand c.args.request.now) xs c.in-Ok.located.items = rw c.in-Ok.is at at in
    let bad : IsDamagedAt c.args.opened.now c.in-Err-Damaged-answer_all.number c.in-Err-Damaged-answer_all.damage = rw c.in-Err-Damaged-answer_all.field-0-is at c.in-Err-Damaged-answer_all.ensures.whole.damaged in
    damaged_ran root over c.args.workers before _ _ faults _ _ input (object (g.W.Output.Sink.taken c.args.objects.now.output) (g.W.Output.Sink.taken c.answer_all.new.output) (g.W.Output.Sink.faults c.args.objects.now.output) (g.W.Output.Sink.faults c.answer_all.new.output))
    (object (g.W.Report.Sink.taken c.args.objects.now.report) (g.W.Report.Sink.taken c.tell_damaged-in-Err-Damaged-answer_all.new.report) (g.W.Report.Sink.faults c.args.objects.now.report) (g.W.Report.Sink.faults c.tell_damaged-in-Err-Damaged-answer_all.new.report))
    c.args.opened.now o begins refl (g.W.Report.Sink.taken c.answer_all.new.report) (g.W.Report.Sink.faults c.answer_all.new.report) c.tell_damaged-in-Err-Damaged-answer_all.result c.in-Err-Damaged-answer_all.ensures.whole.report_later
    c.in-Err-Damaged-answer_all.number c.index-opened-number-in-Err-Damaged-answer_all.result c.in-Err-Damaged-answer_all.damage (at_get c.args.opened.now c.in-Err-Damaged-answer_all.number c.index-opened-number-in-Err-Damaged-answer_all.result bad.inside c.index-opened-number-in-Err-Damaged-answer_all.is) bad
    c.tell_damaged-in-Err-Damaged-answer_all.ensures.told (λ xs e. c.in-Err-Damaged-answer_all.ensures.whole.halted xs (subst (AreAt c.args.opened.now (expand c.args.request.now) xs) (sym c.deref.ensures.value) (there xs e))) c.in-Err-Damaged-answer_all.ensures.whole.grew

pub returns-clause-ran : goal.returns-clause-ran
returns-clause-ran g c = λ root over before faults left reads o begins at.
    let input = object left (g.W.Input.Source.left c.args.objects.now.input) reads (g.W.Input.Source.faults c.args.objects.now.input) in
    let there : (xs : List Answer) → o ≡ Some xs → AreAt c.args.opened.now (expand c.args.request.now) xs c.in-Ok.located.items = rw c.in-Ok.is at at in
    starved_ran root over c.args.workers before _ _ faults _ _ input (object (g.W.Output.Sink.taken c.args.objects.now.output) (g.W.Output.Sink.taken c.answer_all.new.output) (g.W.Output.Sink.faults c.args.objects.now.output) (g.W.Output.Sink.faults c.answer_all.new.output))
    (object (g.W.Report.Sink.taken c.args.objects.now.report) (g.W.Report.Sink.taken c.tell_no_memory-in-Err-NoMemory-answer_all.new.report) (g.W.Report.Sink.faults c.args.objects.now.report) (g.W.Report.Sink.faults c.tell_no_memory-in-Err-NoMemory-answer_all.new.report))
    c.args.opened.now o begins refl (g.W.Report.Sink.taken c.answer_all.new.report) (g.W.Report.Sink.faults c.answer_all.new.report) c.tell_no_memory-in-Err-NoMemory-answer_all.result c.in-Err-NoMemory-answer_all.ensures.whole.report_later
    c.tell_no_memory-in-Err-NoMemory-answer_all.ensures (λ xs e. c.in-Err-NoMemory-answer_all.ensures.whole.halted xs (subst (AreAt c.args.opened.now (expand c.args.request.now) xs) (sym c.deref.ensures.value) (there xs e))) c.in-Err-NoMemory-answer_all.ensures.whole.grew

pub returns-in-Err-Disk-clause-located : goal.returns-in-Err-Disk-clause-located
returns-in-Err-Disk-clause-located g c = λ whole. never_whole _ c.tell_disk_failed.result (told_not_whole DiskFault c.tell_disk_failed.result disk_failed _ _ _ _ refl c.tell_disk_failed.ensures) whole

pub returns-in-Err-Disk-clause-told : goal.returns-in-Err-Disk-clause-told
returns-in-Err-Disk-clause-told g c = λ whole. never_whole _ c.tell_disk_failed.result (told_not_whole DiskFault c.tell_disk_failed.result disk_failed _ _ _ _ refl c.tell_disk_failed.ensures) whole

pub returns-in-Err-Damaged-clause-located : goal.returns-in-Err-Damaged-clause-located
returns-in-Err-Damaged-clause-located g c = λ whole. never_whole _ c.tell_damaged.result (either_not_whole Damaged c.tell_damaged.result _ _ _ _ _ refl c.tell_damaged.ensures.told) whole

pub returns-in-Err-Damaged-clause-told : goal.returns-in-Err-Damaged-clause-told
returns-in-Err-Damaged-clause-told g c = λ whole. never_whole _ c.tell_damaged.result (either_not_whole Damaged c.tell_damaged.result _ _ _ _ _ refl c.tell_damaged.ensures.told) whole

pub returns-in-Err-NoMemory-clause-located : goal.returns-in-Err-NoMemory-clause-located
returns-in-Err-NoMemory-clause-located g c = λ whole. never_whole _ c.tell_no_memory.result (told_not_whole NoMemory c.tell_no_memory.result no_memory _ _ _ _ refl c.tell_no_memory.ensures) whole

pub returns-in-Err-NoMemory-clause-told : goal.returns-in-Err-NoMemory-clause-told
returns-in-Err-NoMemory-clause-told g c = λ whole. never_whole _ c.tell_no_memory.result (told_not_whole NoMemory c.tell_no_memory.result no_memory _ _ _ _ refl c.tell_no_memory.ensures) whole

pub returns-in-Err-Disk-answer_all-clause-located : goal.returns-in-Err-Disk-answer_all-clause-located
returns-in-Err-Disk-answer_all-clause-located g c = λ whole. never_whole _ c.tell_disk_failed-in-Err-Disk-answer_all.result (told_not_whole DiskFault c.tell_disk_failed-in-Err-Disk-answer_all.result disk_failed _ _ _ _ refl c.tell_disk_failed-in-Err-Disk-answer_all.ensures) whole

pub returns-in-Err-Disk-answer_all-clause-told : goal.returns-in-Err-Disk-answer_all-clause-told
returns-in-Err-Disk-answer_all-clause-told g c = λ whole. never_whole _ c.tell_disk_failed-in-Err-Disk-answer_all.result (told_not_whole DiskFault c.tell_disk_failed-in-Err-Disk-answer_all.result disk_failed _ _ _ _ refl c.tell_disk_failed-in-Err-Disk-answer_all.ensures) whole

pub returns-in-Err-Unwritten-clause-located : goal.returns-in-Err-Unwritten-clause-located
returns-in-Err-Unwritten-clause-located g c = λ whole. never_whole _ c.tell_output_failed.result (told_not_whole OutputFault c.tell_output_failed.result output_failed _ _ _ _ refl c.tell_output_failed.ensures) whole

pub returns-in-Err-Unwritten-clause-told : goal.returns-in-Err-Unwritten-clause-told
returns-in-Err-Unwritten-clause-told g c = λ whole. never_whole _ c.tell_output_failed.result (told_not_whole OutputFault c.tell_output_failed.result output_failed _ _ _ _ refl c.tell_output_failed.ensures) whole

pub returns-in-Err-Untold-clause-located : goal.returns-in-Err-Untold-clause-located
returns-in-Err-Untold-clause-located g c = λ whole. never_whole _ OutputFault (refl) whole

pub returns-in-Err-Untold-clause-told : goal.returns-in-Err-Untold-clause-told
returns-in-Err-Untold-clause-told g c = λ whole. never_whole _ OutputFault (refl) whole

pub returns-in-Err-Damaged-answer_all-clause-located : goal.returns-in-Err-Damaged-answer_all-clause-located
returns-in-Err-Damaged-answer_all-clause-located g c = λ whole. never_whole _ c.tell_damaged-in-Err-Damaged-answer_all.result (either_not_whole Damaged c.tell_damaged-in-Err-Damaged-answer_all.result _ _ _ _ _ refl c.tell_damaged-in-Err-Damaged-answer_all.ensures.told) whole

pub returns-in-Err-Damaged-answer_all-clause-told : goal.returns-in-Err-Damaged-answer_all-clause-told
returns-in-Err-Damaged-answer_all-clause-told g c = λ whole. never_whole _ c.tell_damaged-in-Err-Damaged-answer_all.result (either_not_whole Damaged c.tell_damaged-in-Err-Damaged-answer_all.result _ _ _ _ _ refl c.tell_damaged-in-Err-Damaged-answer_all.ensures.told) whole

pub returns-clause-located : goal.returns-clause-located
returns-clause-located g c = λ whole. never_whole _ c.tell_no_memory-in-Err-NoMemory-answer_all.result (told_not_whole NoMemory c.tell_no_memory-in-Err-NoMemory-answer_all.result no_memory _ _ _ _ refl c.tell_no_memory-in-Err-NoMemory-answer_all.ensures) whole

pub returns-clause-told : goal.returns-clause-told
returns-clause-told g c = λ whole. never_whole _ c.tell_no_memory-in-Err-NoMemory-answer_all.result (told_not_whole NoMemory c.tell_no_memory-in-Err-NoMemory-answer_all.result no_memory _ _ _ _ refl c.tell_no_memory-in-Err-NoMemory-answer_all.ensures) whole

pub returns-in-Ok-answer_all-clause-located : goal.returns-in-Ok-answer_all-clause-located
returns-in-Ok-answer_all-clause-located g c = λ whole. ap is_ok c.in-Ok.is

pub returns-in-Ok-answer_all-clause-told : goal.returns-in-Ok-answer_all-clause-told
returns-in-Ok-answer_all-clause-told g c = λ whole.
    let a = g.W.Output.Sink.taken c.args.objects.now.output in
    let b = g.W.Output.Sink.taken c.answer_all.new.output in
    let first = g.W.Report.Sink.taken c.args.objects.now.report in
    let mid = g.W.Report.Sink.taken c.answer_all.new.report in
    let last = g.W.Report.Sink.taken c.tell_counts.new.report in
    subst (λ r. IfOk r (λ v. (xs : List Answer) → AreAt c.args.opened.now (expand c.args.request.now) xs v.items → Tells c.tell_counts.result (answered xs) a b first last)) (sym c.in-Ok.is)
    (λ xs at. counted_tells xs a b first mid last c.tell_counts.result c.in-Ok-answer_all.found c.in-Ok-answer_all.missed _ _
    (c.in-Ok-answer_all.ensures.whole.answered xs (subst (AreAt c.args.opened.now (expand c.args.request.now) xs) (sym c.deref.ensures.value) at)) c.tell_counts.ensures whole)
