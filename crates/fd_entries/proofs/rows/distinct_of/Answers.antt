use Rattle.std.proofs.Common.{◌≡◌, ◌+◌, if◌then◌else◌, Bool, drop, sym, ◌∙◌, ap, arith}
use Rattle.fd_entries.specs.Batches.{distinct, has_key}
use Rattle.fd_entries.proofs.BatchSums.{distinct_step}
use Rattle.fd_entries.proofs.rows.distinct_of.Goals as goal
use Rattle.fd_entries.proofs.rows.distinct_of.Goals.{then-not-has_key_from, else-not-has_key_from}

pub loop-i-preserved : goal.loop-i-preserved
loop-i-preserved c =
    let step = distinct_step c.args.batch.now c.loop-i.i c.at.result.now c.at.ensures in
    let test : c.has_key_from.result ≡ has_key (drop (c.loop-i.i + 1) c.args.batch.now) c.at.result.now.key = c.has_key_from.ensures ∙ ap (has_key (drop (c.loop-i.i + 1) c.args.batch.now)) c.as_slice.ensures in
    let count : distinct (drop c.loop-i.i c.args.batch.now) ≡ (if c.has_key_from.result then 0 else 1) + distinct (drop (c.loop-i.i + 1) c.args.batch.now) =
    step ∙ ap (λ (b : Bool). (if b then 0 else 1) + distinct (drop (c.loop-i.i + 1) c.args.batch.now)) (sym test) in
    elim c.if-not-has_key_from.branch [
      | then-not-has_key_from w ↦ (
          let n : distinct (drop c.loop-i.i c.args.batch.now) ≡ 1 + distinct (drop (c.loop-i.i + 1) c.args.batch.now) = count ∙ ap (λ (b : Bool). (if b then 0 else 1) + distinct (drop (c.loop-i.i + 1) c.args.batch.now)) w.if-not-has_key_from.true in
          record { end = c.loop-i.invariant.end; few = omega arith; so_far = omega (arith, n, c.loop-i.invariant.so_far) })
      | else-not-has_key_from w ↦ (
          let n : distinct (drop c.loop-i.i c.args.batch.now) ≡ 0 + distinct (drop (c.loop-i.i + 1) c.args.batch.now) = count ∙ ap (λ (b : Bool). (if b then 0 else 1) + distinct (drop (c.loop-i.i + 1) c.args.batch.now)) w.if-not-has_key_from.false in
          record { end = c.loop-i.invariant.end; few = omega arith; so_far = omega (arith, n, c.loop-i.invariant.so_far) })
    ]
