use Rattle.std.proofs.Common.{◌<◌, length, refl, arith}
use Rattle.std.specs.Prelude.{slice_set}
use Rattle.fd_retrieve.proofs.LocatingLemmas.{filled_more}
use Rattle.fd_retrieve.proofs.locating.fill.Goals as goal

pub loop-i-preserved : goal.loop-i-preserved
loop-i-preserved c =
    let key = c.key_at-key.result in
    let spot = c.located_at.ensures in
    let lt : key < length c.loop-i.located = omega (arith, c.key_at-key.ensures.within, c.loop-i.invariant.long) in
    filled_more c.args.number c.args.keys.now c.args.found.now c.loop-i.i key spot.0 c.args.located.now c.loop-i.located (slice_set c.loop-i.located key c.located_at.result) c.located_at.result c.key_at-key.ensures.is spot.1 spot.2 lt refl c.loop-i.invariant
