use Rattle.std.proofs.Common.{List, ℕ, subst}
use Rattle.fd_io.specs.Streams.{TakesFront}
use Rattle.fd_segment.proofs.Copied.{part_front}
use Rattle.fd_retriever.proofs.checked.copy_checked.Goals as goal

pub returns-in-Ok-Some-clause-err : goal.returns-in-Ok-Some-clause-err
returns-in-Ok-Some-clause-err g c =
    let old = g.K.Sink.taken c.args.sink.now in
    let new = g.K.Sink.taken c.write_all.new.sink in
    let front = subst (λ (bytes : List ℕ). TakesFront old new bytes) c.as_slice.ensures c.in-Err.ensures.front in
    part_front c.args.lens.now.files.fields c.args.at c.args.len c.in-Ok-Some.bytes old new (rw c.in-Ok-Some.field-0-is at c.in-Ok-Some.ensures.piece) front
