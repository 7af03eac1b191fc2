use Rattle.std.proofs.Common.{rules, ◌≡◌, ◌<◌, ◌∙◌, ◌+◌, ap, sym, subst, length, map, arith, [], ◌∷◌}
use Rattle.std.proofs.lemmas.List.{length-map, map-append}
use Rattle.fd_schema.specs.Reading.{seen_place}
use Rattle.fd_trial.specs.Placed.{ArePlaced}
use Rattle.fd_trial.proofs.Keeping.{all_placed}
use Rattle.fd_trial.proofs.Placing.{placed_more}
use Rattle.fd_trial.proofs.places.places_of.Goals as goal

pub place_of-requires-clause-placed : goal.place_of-requires-clause-placed
place_of-requires-clause-placed c =
    let below : c.loop-i.i < c.args.count = omega (arith, c.loop-i-test.true) in
    all_placed c.args.schema.now c.args.given.now c.args.count c.requires.few c.requires.stored c.loop-i.i below

pub loop-i-preserved : goal.loop-i-preserved
loop-i-preserved c =
    let before = c.loop-i.places.items in
    let place = c.in_ok-place_of.field-0 in
    let long = length-map before seen_place in
    let many = c.loop-i.invariant.many in
    let at : 0 + length (map seen_place before) ≡ c.loop-i.i = omega (arith, long, many) in
    record {
      placed = subst (ArePlaced c.args.schema.now c.args.given.now 0) (sym (ap (map seen_place) c.in_ok-push.ensures.items ∙ map-append seen_place before (place ∷ [])))
          (placed_more c.args.schema.now c.args.given.now 0 c.loop-i.i (map seen_place before) (seen_place place) c.loop-i.invariant.placed at c.in_ok-place_of.ensures);
      many = search rules;
    }
