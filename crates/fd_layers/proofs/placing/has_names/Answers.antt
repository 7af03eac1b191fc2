use Rattle.std.proofs.Common.{rules, ◌≡◌, ◌∙◌, ◌+◌, sym, List, drop, ◌∷◌, false, true}
use Rattle.std.specs.Prelude.{is_some}
use Rattle.fd_key.specs.Pairs.{Pair, text_of}
use Rattle.fd_key.proofs.PairLaws.{drop_from_slice_get}
use Rattle.fd_layers.proofs.Spelled.{has_more}
use Rattle.fd_layers.proofs.placing.has_names.Goals as goal

pub returns-then-is_none : goal.returns-then-is_none
returns-then-is_none c =
    let p : Pair = (c.pair.result.0.now, c.pair.result.1.now) in
    let rest : List Pair = drop (c.loop-i.i + 1) c.args.layer.now in
    let at : drop c.loop-i.i c.args.layer.now ≡ p ∷ rest = drop_from_slice_get c.args.layer.now c.loop-i.i p c.pair.ensures in
    let none : is_some (text_of c.args.key.now p.0) ≡ false = search rules in
    sym (c.loop-i.invariant ∙ has_more c.args.key.now rest (drop c.loop-i.i c.args.layer.now) p false at none)

pub loop-i-preserved : goal.loop-i-preserved
loop-i-preserved c =
    let p : Pair = (c.pair.result.0.now, c.pair.result.1.now) in
    let rest : List Pair = drop (c.loop-i.i + 1) c.args.layer.now in
    let at : drop c.loop-i.i c.args.layer.now ≡ p ∷ rest = drop_from_slice_get c.args.layer.now c.loop-i.i p c.pair.ensures in
    let some : is_some (text_of c.args.key.now p.0) ≡ true = search rules in
    c.loop-i.invariant ∙ has_more c.args.key.now rest (drop c.loop-i.i c.args.layer.now) p true at some
