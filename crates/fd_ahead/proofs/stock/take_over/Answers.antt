use Rattle.std.proofs.Common.{arith, ◌∙◌, ◌<◌, ◌-◌, length}
use Rattle.std.proofs.lemmas.List.{length-set}
use Rattle.std.proofs.lemmas.List.Elements.{All-set}
use Rattle.fd_ahead.specs.Reading.{IsJob}
use Rattle.fd_ahead.proofs.stock.take_over.Goals as goal

pub loop-i-preserved : goal.loop-i-preserved
loop-i-preserved g c =
    let at = length c.args.jobs.now - 1 - c.loop-i.i in
    let lt : at < length c.loop-i.jobs = omega (arith, c.loop-i-test.true, c.loop-i.invariant.long) in
    record {
      long = length-set c.loop-i.jobs at c.take_from.new.job ∙ c.loop-i.invariant.long;
      both = λ os jobs ready.
          let was = c.loop-i.invariant.both os jobs ready in
          let one = c.take_from.ensures os (was.0 at _ lt) was.1 in
          (All-set (IsJob os) c.loop-i.jobs at c.take_from.new.job one.0 was.0, one.1);
    }
