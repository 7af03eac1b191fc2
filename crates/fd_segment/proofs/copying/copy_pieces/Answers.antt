use Rattle.std.proofs.Common.{◌≡◌, ◌+◌, length, take, arith, ◌∙◌, length-take}
use Rattle.fd_segment.specs.Copying.{IsCopied, IsCopiedInPart}
use Rattle.fd_segment.proofs.Copied.{copied_more, part_more, pieces_more, pieces_tried}
use Rattle.fd_segment.proofs.copying.copy_pieces.Goals as goal

pub pieces-preserved : goal.pieces-preserved
pieces-preserved g c =
    let n = c.min-n.result in
    let long : length (take n c.pieces.buffer) ≡ n = omega (arith, length-take n c.pieces.buffer) in
    let step : IsCopied (g.R.Reader.bytes c.args.file.now) (c.args.at + c.pieces.done) n (g.K.Sink.taken c.pieces.sink) (g.K.Sink.taken c.copy_piece.new.sink) =
    rw (← c.pieces.invariant.bytes, ← long) c.in-Ok.ensures.ok in
    record {
      inside = omega arith;
      copied = copied_more _ _ _ _ _ _ _ c.pieces.invariant.copied step;
      bytes = c.in-Ok.ensures.call.bytes ∙ c.pieces.invariant.bytes;
      len = c.in-Ok.ensures.call.len ∙ c.pieces.invariant.len;
      later = omega (arith, c.pieces.invariant.later, c.in-Ok.ensures.call.later);
      calm = c.in-Ok.ensures.call.calm ∙ c.pieces.invariant.calm;
      reads = pieces_more (g.R.Reader.reads c.args.file.now) (g.R.Reader.reads c.pieces.file) (g.R.Reader.reads c.copy_piece.new.file) c.pieces.done n c.pieces.invariant.reads c.in-Ok.ensures.reads (c.pieces.invariant.whole c.pieces-test.true) (omega arith);
      asked = omega (arith, c.pieces.invariant.asked, c.in-Ok.ensures.asked, long);
      whole = λ left. let before = c.pieces.invariant.whole c.pieces-test.true in omega (arith, left, before);
      sink = omega (arith, c.pieces.invariant.sink, c.in-Ok.ensures.call.sink_later);
    }

pub returns-in-Err-clause-err : goal.returns-in-Err-clause-err
returns-in-Err-clause-err g c =
    let n = c.min-n.result in
    let long : length (take n c.pieces.buffer) ≡ n = omega (arith, length-take n c.pieces.buffer) in
    let step : IsCopiedInPart (g.R.Reader.bytes c.args.file.now) (c.args.at + c.pieces.done) n (g.K.Sink.taken c.pieces.sink) (g.K.Sink.taken c.copy_piece.new.sink) =
    rw (← c.pieces.invariant.bytes, ← long) c.in-Err.ensures.err in
    part_more _ _ _ n _ _ _ _ (omega arith) c.pieces.invariant.copied step

pub returns-in-Err-clause-reads : goal.returns-in-Err-clause-reads
returns-in-Err-clause-reads g c =
    pieces_tried (g.R.Reader.reads c.args.file.now) (g.R.Reader.reads c.pieces.file) (g.R.Reader.reads c.copy_piece.new.file) c.pieces.done c.args.len c.pieces.invariant.reads c.in-Err.ensures.reads (c.pieces.invariant.whole c.pieces-test.true) c.pieces-test.true

pub returns-in-Err-clause-asked : goal.returns-in-Err-clause-asked
returns-in-Err-clause-asked g c =
    let n = c.min-n.result in
    let long : length (take n c.pieces.buffer) ≡ n = omega (arith, length-take n c.pieces.buffer) in
    omega (arith, c.pieces.invariant.asked, c.in-Err.ensures.asked, long)
