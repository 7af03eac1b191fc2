use Rattle.fd_ahead.proofs.stock.take_all.Goals as goal

pub loop-i-preserved : goal.loop-i-preserved
loop-i-preserved g c = record {
  both = λ os read ready. let was = c.loop-i.invariant.both os read ready in c.take_last.ensures os was.0 was.1;
}
