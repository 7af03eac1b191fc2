use Rattle.std.proofs.Common.{◌<◌, length, arith}
use Rattle.fd_overlay.proofs.Merging.{unfound_at}
use Rattle.fd_overlay.proofs.finding.unfound.Goals as goal

pub loop-i-preserved : goal.loop-i-preserved
loop-i-preserved c =
    let lt : c.loop-i.i < length c.args.places.now = omega (arith, c.loop-i-test.true) in
    let among : c.loop-i.i < length c.args.spots.now = omega (arith, c.loop-i-test.true, c.requires.long) in
    unfound_at c.args.places.now c.args.spots.now c.loop-i.i c.index-places-i.result _ c.loop-i.others.items c.push_unfound.new.others.items _ lt among c.index-places-i.is c.in_ok-push_unfound.ensures.wanted c.in_ok-push_unfound.ensures.left c.loop-i.invariant
