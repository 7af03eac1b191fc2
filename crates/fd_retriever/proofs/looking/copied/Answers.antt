use Rattle.std.proofs.Common.{ℕ, List, Some, inr, subst}
use Rattle.fd_segment.specs.Causes.{IsFieldDamage, IsPlace, StandsForNone}
use Rattle.fd_segment.specs.Held.{Files}
use Rattle.fd_segment.specs.Copying.{IsCopied, IsCopiedInPart}
use Rattle.fd_retriever.proofs.Copying.{found, found_part, missed, stands_for_none}
use Rattle.fd_retriever.proofs.looking.copied.Goals as goal

pub returns-in-Ok-None-clause-answer : goal.returns-in-Ok-None-clause-answer
returns-in-Ok-None-clause-answer g c = λ b is. missed c.args.lens.now.files c.args.key.now _ b (rw c.in-Ok-None.field-0-is at c.in-Ok-None.ensures.found.batch) is

pub returns-in-Ok-clause-answer : goal.returns-in-Ok-clause-answer
returns-in-Ok-clause-answer g c = λ b is.
    found c.args.lens.now.files c.args.key.now c.in-Ok-Some.place.0 c.in-Ok-Some.place.1 (g.K.Sink.taken c.args.sink.now) (g.K.Sink.taken c.copy_checked.new.sink) b (rw c.in-Ok-Some.field-0-is at c.in-Ok-Some.ensures.found.batch)
    (subst (λ (f : Files). IsCopied f.fields c.in-Ok-Some.place.0 c.in-Ok-Some.place.1 (g.K.Sink.taken c.args.sink.now) (g.K.Sink.taken c.copy_checked.new.sink)) c.find.ensures.files c.in-Ok.ensures.ok) is

pub returns-in-Err-Disk-clause-err : goal.returns-in-Err-Disk-clause-err
returns-in-Err-Disk-clause-err g c = λ b is.
    found_part c.args.lens.now.files c.args.key.now c.in-Ok-Some.place.0 c.in-Ok-Some.place.1 (g.K.Sink.taken c.args.sink.now) (g.K.Sink.taken c.copy_checked.new.sink) b (rw c.in-Ok-Some.field-0-is at c.in-Ok-Some.ensures.found.batch)
    (subst (λ (f : Files). IsCopiedInPart f.fields c.in-Ok-Some.place.0 c.in-Ok-Some.place.1 (g.K.Sink.taken c.args.sink.now) (g.K.Sink.taken c.copy_checked.new.sink)) c.find.ensures.files c.in-Err-Disk.ensures.err) is

pub returns-in-Err-Write-clause-err : goal.returns-in-Err-Write-clause-err
returns-in-Err-Write-clause-err g c = λ b is.
    found_part c.args.lens.now.files c.args.key.now c.in-Ok-Some.place.0 c.in-Ok-Some.place.1 (g.K.Sink.taken c.args.sink.now) (g.K.Sink.taken c.copy_checked.new.sink) b (rw c.in-Ok-Some.field-0-is at c.in-Ok-Some.ensures.found.batch)
    (subst (λ (f : Files). IsCopiedInPart f.fields c.in-Ok-Some.place.0 c.in-Ok-Some.place.1 (g.K.Sink.taken c.args.sink.now) (g.K.Sink.taken c.copy_checked.new.sink)) c.find.ensures.files c.in-Err-Write.ensures.err) is

pub returns-in-Ok-None-clause-says : goal.returns-in-Ok-None-clause-says
returns-in-Ok-None-clause-says g c = (rw c.in-Ok-None.field-0-is at c.in-Ok-None.ensures.found.seen, rw c.in-Ok-None.field-0-is at c.in-Ok-None.ensures.found.place)

pub returns-in-Ok-clause-says : goal.returns-in-Ok-clause-says
returns-in-Ok-clause-says g c =
    (c.in-Ok-Some.place.0, (rw c.in-Ok-Some.field-0-is at c.in-Ok-Some.ensures.found.seen, rw c.in-Ok-Some.field-0-is at c.in-Ok-Some.ensures.found.place), rw c.in-Ok-Some.field-0-is at c.in-Ok-Some.ensures.found.inside)

pub returns-in-Err-Damaged-copy_checked-clause-damaged : goal.returns-in-Err-Damaged-copy_checked-clause-damaged
returns-in-Err-Damaged-copy_checked-clause-damaged g c =
    let seen = rw c.in-Ok-Some.field-0-is at c.in-Ok-Some.ensures.found.seen in
    let place = rw c.in-Ok-Some.field-0-is at c.in-Ok-Some.ensures.found.place in
    let inside = rw c.in-Ok-Some.field-0-is at c.in-Ok-Some.ensures.found.inside in
    let bad = subst (λ (f : Files). IsFieldDamage f.entry f.fields c.in-Ok-Some.place.0 c.in-Ok-Some.place.1 c.in-Err-Damaged-copy_checked.damage) c.find.ensures.files (rw c.in-Err-Damaged-copy_checked.field-0-is at c.in-Err-Damaged-copy_checked.ensures.damaged) in
    inr (c.in-Ok-Some.place.0, c.in-Ok-Some.place.1, seen, place, inside, bad)

pub returns-in-Err-Damaged-copy_checked-clause-sound : goal.returns-in-Err-Damaged-copy_checked-clause-sound
returns-in-Err-Damaged-copy_checked-clause-sound g c =
    let place = rw c.in-Ok-Some.field-0-is at c.in-Ok-Some.ensures.found.place in
    let sound = subst (λ (f : Files). (key : List ℕ) → IsPlace f.entry f.index key (Some (c.in-Ok-Some.place.0, c.in-Ok-Some.place.1)) → StandsForNone f) c.find.ensures.files (rw c.in-Err-Damaged-copy_checked.field-0-is at c.in-Err-Damaged-copy_checked.ensures.sound) in
    stands_for_none c.args.lens.now.files (sound c.args.key.now place)

pub returns-in-Err-NoMemory-copy_checked-clause-err : goal.returns-in-Err-NoMemory-copy_checked-clause-err
returns-in-Err-NoMemory-copy_checked-clause-err g c = λ b is.
    found_part c.args.lens.now.files c.args.key.now c.in-Ok-Some.place.0 c.in-Ok-Some.place.1 (g.K.Sink.taken c.args.sink.now) (g.K.Sink.taken c.copy_checked.new.sink) b (rw c.in-Ok-Some.field-0-is at c.in-Ok-Some.ensures.found.batch)
    (subst (λ (f : Files). IsCopiedInPart f.fields c.in-Ok-Some.place.0 c.in-Ok-Some.place.1 (g.K.Sink.taken c.args.sink.now) (g.K.Sink.taken c.copy_checked.new.sink)) c.find.ensures.files c.in-Err-NoMemory-copy_checked.ensures.err) is
