use Rattle.std.proofs.Common.{◌≡◌, ◌∙◌, ◌+◌, sym, List, drop, ◌∷◌, false, true}
use Rattle.fd_key.specs.Pairs.{Pair}
use Rattle.fd_key.proofs.PairLaws.{drop_from_slice_get}
use Rattle.fd_layers.proofs.Spelled.{text_more}
use Rattle.fd_layers.proofs.placing.value_of.Goals as goal

pub returns-then-eq : goal.returns-then-eq
returns-then-eq c =
    let p : Pair = (c.pair.result.0.now, c.pair.result.1.now) in
    let rest : List Pair = drop (c.loop-i.i + 1) c.args.layer.now in
    let at : drop c.loop-i.i c.args.layer.now ≡ p ∷ rest = drop_from_slice_get c.args.layer.now c.loop-i.i p c.pair.ensures in
    sym (c.loop-i.invariant ∙ text_more (drop c.loop-i.i c.args.layer.now) rest c.args.name.now p true at (sym c.eq.ensures ∙ c.if-eq.true))

pub loop-i-preserved : goal.loop-i-preserved
loop-i-preserved c =
    let p : Pair = (c.pair.result.0.now, c.pair.result.1.now) in
    let rest : List Pair = drop (c.loop-i.i + 1) c.args.layer.now in
    let at : drop c.loop-i.i c.args.layer.now ≡ p ∷ rest = drop_from_slice_get c.args.layer.now c.loop-i.i p c.pair.ensures in
    c.loop-i.invariant ∙ text_more (drop c.loop-i.i c.args.layer.now) rest c.args.name.now p false at (sym c.eq.ensures ∙ c.if-eq.false)
