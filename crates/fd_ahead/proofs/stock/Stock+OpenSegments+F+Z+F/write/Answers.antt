use Rattle.std.proofs.Common.{List, ℕ, Ok, subst}
use Rattle.fd_io.specs.Streams.{Takes, TakesFront}
use Rattle.fd_segment.specs.Copying.{IsCopied, IsCopiedInPart, IsPiece}
use Rattle.fd_segment.specs.Causes as segments
use Rattle.fd_segment.proofs.Copied.{part_front, part_none}
use Rattle.fd_ahead.specs.Places.{InSegment, IsMetAt}
use Rattle.fd_ahead.specs.Reading.{IsReadOf}
use Rattle.fd_ahead.proofs.Placing.{as_segment, in_any}
use Rattle.fd_ahead.proofs.stock.Stock+OpenSegments+F+Z+F.write.Goals as goal

pub returns-in-Ok-clause-ok : goal.returns-in-Ok-clause-ok
returns-in-Ok-clause-ok g c =
    let l = c.args.located in
    let old = g.K.Sink.taken c.args.sink.now in
    let new = g.K.Sink.taken c.write_all.new.sink in
    let was : IsReadOf c.args.opened.now l (Ok c.in-Some-Ok.bytes) = subst (IsReadOf c.args.opened.now c.args.located) c.in-Some-Ok.field-0-is (c.in-Some-Ok.ensures.read c.args.opened.now c.requires.stock.ready) in
    let took = subst (λ (bytes : List ℕ). Takes old new bytes) c.as_slice.ensures c.in-Ok.ensures.took in
    as_segment c.args.opened.now l (λ s. IsPiece s.files.fields l.spot.at l.spot.len c.in-Some-Ok.bytes) (λ s. IsCopied s.files.fields l.spot.at l.spot.len old new) (λ s piece. (c.in-Some-Ok.bytes, piece, took)) was.bytes

pub returns-in-Ok-clause-checked : goal.returns-in-Ok-clause-checked
returns-in-Ok-clause-checked g c =
    let was : IsReadOf c.args.opened.now c.args.located (Ok c.in-Some-Ok.bytes) = subst (IsReadOf c.args.opened.now c.args.located) c.in-Some-Ok.field-0-is (c.in-Some-Ok.ensures.read c.args.opened.now c.requires.stock.ready) in
    was.checked

pub returns-in-Some-Ok-clause-err : goal.returns-in-Some-Ok-clause-err
returns-in-Some-Ok-clause-err g c =
    let l = c.args.located in
    let old = g.K.Sink.taken c.args.sink.now in
    let new = g.K.Sink.taken c.write_all.new.sink in
    let was : IsReadOf c.args.opened.now l (Ok c.in-Some-Ok.bytes) = subst (IsReadOf c.args.opened.now c.args.located) c.in-Some-Ok.field-0-is (c.in-Some-Ok.ensures.read c.args.opened.now c.requires.stock.ready) in
    let front = subst (λ (bytes : List ℕ). TakesFront old new bytes) c.as_slice.ensures c.in-Err.ensures.front in
    as_segment c.args.opened.now l (λ s. IsPiece s.files.fields l.spot.at l.spot.len c.in-Some-Ok.bytes) (λ s. IsCopiedInPart s.files.fields l.spot.at l.spot.len old new) (λ s piece. part_front s.files.fields l.spot.at l.spot.len c.in-Some-Ok.bytes old new piece front) was.bytes

pub returns-in-Some-Err-Fault-clause-err : goal.returns-in-Some-Err-Fault-clause-err
returns-in-Some-Err-Fault-clause-err g c =
    let l = c.args.located in
    let old = g.K.Sink.taken c.args.sink.now in
    in_any c.args.opened.now l (λ s. IsCopiedInPart s.files.fields l.spot.at l.spot.len old old) (λ s. part_none s.files.fields l.spot.at l.spot.len old)

pub returns-in-Some-Err-Damaged-clause-err : goal.returns-in-Some-Err-Damaged-clause-err
returns-in-Some-Err-Damaged-clause-err g c =
    let l = c.args.located in
    let old = g.K.Sink.taken c.args.sink.now in
    in_any c.args.opened.now l (λ s. IsCopiedInPart s.files.fields l.spot.at l.spot.len old old) (λ s. part_none s.files.fields l.spot.at l.spot.len old)

pub returns-in-Some-Err-Damaged-clause-damaged : goal.returns-in-Some-Err-Damaged-clause-damaged
returns-in-Some-Err-Damaged-clause-damaged g c =
    let os = c.args.opened.now in
    let l = c.args.located in
    let was = subst (IsReadOf os l) c.in-Some-Err-Damaged.field-0-is (c.in-Some-Err-Damaged.ensures.read os c.requires.stock.ready) in
    subst (λ e. segments.OnDamaged e (λ d. InSegment os l (IsMetAt l d))) c.in-Some-Err-Damaged.field-0-0-is was.damaged
