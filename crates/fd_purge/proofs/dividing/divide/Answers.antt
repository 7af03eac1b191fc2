use Rattle.std.proofs.Common.{arith}
use Rattle.fd_purge.proofs.DivideLemmas.{count_more, dropped_more, kept_more, within_more}
use Rattle.fd_purge.proofs.dividing.divide.Goals as goal

pub loop-i-preserved : goal.loop-i-preserved
loop-i-preserved c =
    let ms = c.args.masks.now in
    let es = c.args.entries.now in
    let i = c.loop-i.i in
    let kept = c.loop-i.divided.kept.items in
    let dropped = c.loop-i.divided.dropped.items in
    record {
      kept = kept_more ms es i _ _ kept _ c.requires.each (omega (arith, c.requires.each)) (omega arith) c.loop-i.invariant.kept c.in_ok-place.ensures.kept;
      dropped = dropped_more ms es i _ _ dropped _ c.requires.each (omega (arith, c.requires.each)) (omega arith) c.loop-i.invariant.dropped c.in_ok-place.ensures.dropped;
      count = count_more _ kept dropped _ _ _ i c.loop-i.invariant.count c.in_ok-place.ensures.kept c.in_ok-place.ensures.dropped;
      fit = c.in_ok-place.ensures.fit c.loop-i.invariant.fit;
      within = within_more ms es i _ _ kept _ dropped (omega (arith, c.requires.each)) (omega arith) c.loop-i.invariant.count c.in_ok-place.ensures.kept c.in_ok-place.ensures.within c.loop-i.invariant.within;
    }
