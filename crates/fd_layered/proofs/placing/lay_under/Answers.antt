use Rattle.std.proofs.Common.{◌∙◌, ◌+◌, ◌++◌, ◌∷◌, [], ap, sym, refl, append_assoc, append-nil, map, arith}
use Rattle.fd_schema.specs.Reading.{seen_place}
use Rattle.fd_layered.proofs.Laying.{ahead_none, lacks_here, layer_values, under_all, under_more}
use Rattle.fd_layered.proofs.placing.lay_under.Goals as goal

pub lay_one-requires-clause-layer : goal.lay_one-requires-clause-layer
lay_one-requires-clause-layer g c = layer_values c.args.layers.now c.loop-i.i c.at.result.now c.requires.layers.each c.at.ensures

pub loop-i-init : goal.loop-i-init
loop-i-init g c = ([], ahead_none _, sym (append-nil (map seen_place c.args.places.now.items)))

pub loop-i-preserved : goal.loop-i-preserved
loop-i-preserved g c =
    let inv = c.loop-i.invariant in
    let one = c.in-Ok.ensures.laid in
    (inv.0 ++ one.0 ∷ [], under_more c.args.schema.now c.args.key.now c.args.layers.now inv.0 c.loop-i.i c.at.result.now c.at.ensures inv.1 one.0 one.1, one.2 ∙ ap (λ l. l ++ one.0 ∷ []) inv.2 ∙ append_assoc _ inv.0 (one.0 ∷ []))

pub returns-in-Err-clause-refused : goal.returns-in-Err-clause-refused
returns-in-Err-clause-refused g c =
    let inv = c.loop-i.invariant in
    lacks_here c.args.schema.now c.args.key.now c.args.layers.now inv.0 c.loop-i.i c.at.result.now c.at.ensures inv.1 c.in-Err.stop (c.loop-i.i + 1) refl c.in-Err.ensures.refused

pub returns-clause-laid : goal.returns-clause-laid
returns-clause-laid g c =
    let inv = c.loop-i.invariant in
    (inv.0, under_all c.args.schema.now c.args.key.now c.args.layers.now inv.0 c.loop-i.i (omega (arith, c.loop-i-test.false)) inv.1, inv.2)
