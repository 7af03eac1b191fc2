use Rattle.std.proofs.Common.{◌∙◌, ◌<◌, ◌≤◌, length, map, ap, arith}
use Rattle.std.proofs.lemmas.List.{length-map}
use Rattle.std.proofs.lemmas.Slice.Zip.{AllZip-long}
use Rattle.fd_finding.specs.Spots.{place_key}
use Rattle.fd_overlay.specs.Searching.{SearchedTo}
use Rattle.fd_overlay.specs.Spots.{shown}
use Rattle.fd_overlay.proofs.Merging.{all_answer, all_in, all_say, all_within, damaged_number, searched_after, shown_at, the_only_ones, untold_number}
use Rattle.fd_overlay.proofs.finding.find_over.Goals as goal

pub find_more-requires-clause-long : goal.find_more-requires-clause-long
find_more-requires-clause-long g c κs within =
    ap length c.deref.ensures.value ∙ (AllZip-long (SearchedTo (shown c.args.layers.now) c.loop-i.i) (map place_key c.args.places.now) c.loop-i.spots.items c.loop-i.invariant ∙ length-map c.args.places.now place_key)

pub returns-in-Err-clause-damaged : goal.returns-in-Err-clause-damaged
returns-in-Err-clause-damaged g c =
    let lt : c.loop-i.i < length c.args.layers.now = omega (arith, c.loop-i-test.true) in
    damaged_number c.in-Err.fault (shown c.args.layers.now) c.loop-i.i c.index-layers-i.result.now (map place_key c.args.places.now) (shown_at c.args.layers.now c.loop-i.i c.index-layers-i.result lt c.index-layers-i.is) c.in-Err.ensures.damaged

pub returns-in-Err-clause-sound : goal.returns-in-Err-clause-sound
returns-in-Err-clause-sound g c =
    let lt : c.loop-i.i < length c.args.layers.now = omega (arith, c.loop-i-test.true) in
    untold_number c.in-Err.fault (shown c.args.layers.now) c.loop-i.i c.index-layers-i.result.now (map place_key c.args.places.now) (shown_at c.args.layers.now c.loop-i.i c.index-layers-i.result lt c.index-layers-i.is) c.in-Err.ensures.damaged c.in-Err.ensures.sound

pub loop-i-preserved : goal.loop-i-preserved
loop-i-preserved g c =
    let lt : c.loop-i.i < length c.args.layers.now = omega (arith, c.loop-i-test.true) in
    searched_after (shown c.args.layers.now) c.loop-i.i c.index-layers-i.result.now (shown_at c.args.layers.now c.loop-i.i c.index-layers-i.result lt c.index-layers-i.is) (map place_key c.args.places.now) c.loop-i.spots.items c.deref.result.now _ c.deref.ensures.value c.loop-i.invariant c.in-Ok-find_more.ensures.more

pub returns-clause-count : goal.returns-clause-count
returns-clause-count g c = AllZip-long (SearchedTo (shown c.args.layers.now) c.loop-i.i) (map place_key c.args.places.now) c.loop-i.spots.items c.loop-i.invariant ∙ length-map c.args.places.now place_key

pub returns-clause-answer : goal.returns-clause-answer
returns-clause-answer g c =
    let all : length (shown c.args.layers.now) ≤ c.loop-i.i = omega (arith, c.loop-i-test.false, length-map c.args.layers.now (λ l. l.now)) in
    all_answer (shown c.args.layers.now) (map place_key c.args.places.now) c.loop-i.spots.items (all_in (shown c.args.layers.now) c.loop-i.i (map place_key c.args.places.now) c.loop-i.spots.items all c.loop-i.invariant)

pub returns-clause-says : goal.returns-clause-says
returns-clause-says g c =
    let all : length (shown c.args.layers.now) ≤ c.loop-i.i = omega (arith, c.loop-i-test.false, length-map c.args.layers.now (λ l. l.now)) in
    all_say (shown c.args.layers.now) (map place_key c.args.places.now) c.loop-i.spots.items (all_in (shown c.args.layers.now) c.loop-i.i (map place_key c.args.places.now) c.loop-i.spots.items all c.loop-i.invariant)

pub returns-clause-only : goal.returns-clause-only
returns-clause-only g c =
    let all : length (shown c.args.layers.now) ≤ c.loop-i.i = omega (arith, c.loop-i-test.false, length-map c.args.layers.now (λ l. l.now)) in
    the_only_ones (shown c.args.layers.now) (map place_key c.args.places.now) c.loop-i.spots.items
    (all_say (shown c.args.layers.now) (map place_key c.args.places.now) c.loop-i.spots.items (all_in (shown c.args.layers.now) c.loop-i.i (map place_key c.args.places.now) c.loop-i.spots.items all c.loop-i.invariant))

pub returns-clause-within : goal.returns-clause-within
returns-clause-within g c =
    let all : length (shown c.args.layers.now) ≤ c.loop-i.i = omega (arith, c.loop-i-test.false, length-map c.args.layers.now (λ l. l.now)) in
    all_within (shown c.args.layers.now) (map place_key c.args.places.now) c.loop-i.spots.items (all_in (shown c.args.layers.now) c.loop-i.i (map place_key c.args.places.now) c.loop-i.spots.items all c.loop-i.invariant)
