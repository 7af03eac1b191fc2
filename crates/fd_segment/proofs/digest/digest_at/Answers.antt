use Rattle.std.proofs.Common.{◌≡◌, ◌+◌, length, take, arith, ◌∙◌, length-take}
use Rattle.fd_segment.specs.Copying.{IsHashed}
use Rattle.fd_segment.proofs.Copied.{pieces_more, pieces_tried}
use Rattle.fd_segment.proofs.Hashed.{digest_is, holds_more}
use Rattle.fd_segment.proofs.digest.digest_at.Goals as goal

pub pieces-preserved : goal.pieces-preserved
pieces-preserved g c =
    let n = c.min-n.result in
    let long : length (take n c.pieces.buffer) ≡ n = omega (arith, length-take n c.pieces.buffer) in
    let step : IsHashed (g.R.Reader.bytes c.args.file.now) (c.args.at + c.pieces.done) n c.pieces.hasher c.hash_piece.new.hasher =
    rw (← c.pieces.invariant.bytes, ← long) c.in-Ok.ensures.ok in
    record {
      inside = omega arith;
      held = holds_more _ _ _ _ _ _ c.pieces.invariant.held step;
      bytes = c.in-Ok.ensures.bytes ∙ c.pieces.invariant.bytes;
      len = c.in-Ok.ensures.len ∙ c.pieces.invariant.len;
      later = omega (arith, c.in-Ok.ensures.cause.later, c.pieces.invariant.later);
      reads = pieces_more (g.R.Reader.reads c.args.file.now) (g.R.Reader.reads c.pieces.file) (g.R.Reader.reads c.hash_piece.new.file) c.pieces.done n c.pieces.invariant.reads c.in-Ok.ensures.reads (c.pieces.invariant.whole c.pieces-test.true) (omega arith);
      asked = omega (arith, c.pieces.invariant.asked, c.in-Ok.ensures.asked, long);
      whole = λ left. let before = c.pieces.invariant.whole c.pieces-test.true in omega (arith, left, before);
    }

pub returns-in-Err-clause-reads : goal.returns-in-Err-clause-reads
returns-in-Err-clause-reads g c =
    pieces_tried (g.R.Reader.reads c.args.file.now) (g.R.Reader.reads c.pieces.file) (g.R.Reader.reads c.hash_piece.new.file) c.pieces.done c.args.len c.pieces.invariant.reads c.in-Err.ensures.reads (c.pieces.invariant.whole c.pieces-test.true) c.pieces-test.true

pub returns-in-Err-clause-asked : goal.returns-in-Err-clause-asked
returns-in-Err-clause-asked g c =
    let n = c.min-n.result in
    let long : length (take n c.pieces.buffer) ≡ n = omega (arith, length-take n c.pieces.buffer) in
    omega (arith, c.pieces.invariant.asked, c.in-Err.ensures.asked, long)
