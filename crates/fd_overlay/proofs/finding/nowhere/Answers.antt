use Rattle.std.proofs.Common.{◌≡◌, length, map, arith}
use Rattle.std.proofs.lemmas.List.{length-map}
use Rattle.fd_finding.specs.Spots.{place_key}
use Rattle.fd_overlay.proofs.Merging.{searched_none}
use Rattle.fd_overlay.proofs.finding.nowhere.Goals as goal

pub returns : goal.returns
returns c = λ layers.
    let long : length c.loop-i.spots.items ≡ length (map place_key c.args.places.now) = omega (arith, c.loop-i.invariant.long, c.loop-i-test.false, length-map c.args.places.now place_key) in
    searched_none layers (map place_key c.args.places.now) c.loop-i.spots.items long (λ k d lt. c.loop-i.invariant.none k d (omega (arith, lt, c.loop-i.invariant.long)))
