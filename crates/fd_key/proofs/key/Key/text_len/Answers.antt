use Rattle.std.proofs.Common.{◌≡◌, ◌∷◌, ◌+◌, [], List, ap, arith, drop, length}
use Rattle.std.proofs.lemmas.List.{drop_all}
use Rattle.fd_key.specs.Pairs.{Pair, rest_text}
use Rattle.fd_key.proofs.PairLaws.{drop_from_slice_get, key_from_rest, length-rest_text, rest_short}
use Rattle.fd_key.proofs.key.Key.text_len.Goals as goal

-- what is counted stays within the whole text
pub overflow_add-both : goal.overflow_add-both
overflow_add-both c =
    let p : Pair = (c.pair.result.0.now, c.pair.result.1.now) in
    let rest : List Pair = drop (c.loop-i.i + 1) c.args.self.now in
    let at : drop c.loop-i.i c.args.self.now ≡ p ∷ rest = drop_from_slice_get c.args.self.now c.loop-i.i p c.pair.ensures in
    omega (arith, ap (λ (ps : List Pair). length (rest_text ps)) at, length-rest_text p rest, c.loop-i.invariant, rest_short c.args.self.now, c.requires)

pub overflow_add-len : goal.overflow_add-len
overflow_add-len c =
    let p : Pair = (c.pair.result.0.now, c.pair.result.1.now) in
    let rest : List Pair = drop (c.loop-i.i + 1) c.args.self.now in
    let at : drop c.loop-i.i c.args.self.now ≡ p ∷ rest = drop_from_slice_get c.args.self.now c.loop-i.i p c.pair.ensures in
    omega (arith, ap (λ (ps : List Pair). length (rest_text ps)) at, length-rest_text p rest, c.loop-i.invariant, rest_short c.args.self.now, c.requires)

pub overflow_add-len-in-loop-i : goal.overflow_add-len-in-loop-i
overflow_add-len-in-loop-i c =
    let p : Pair = (c.pair.result.0.now, c.pair.result.1.now) in
    let rest : List Pair = drop (c.loop-i.i + 1) c.args.self.now in
    let at : drop c.loop-i.i c.args.self.now ≡ p ∷ rest = drop_from_slice_get c.args.self.now c.loop-i.i p c.pair.ensures in
    omega (arith, ap (λ (ps : List Pair). length (rest_text ps)) at, length-rest_text p rest, c.loop-i.invariant, rest_short c.args.self.now, c.requires)

pub loop-i-preserved : goal.loop-i-preserved
loop-i-preserved c =
    let p : Pair = (c.pair.result.0.now, c.pair.result.1.now) in
    let rest : List Pair = drop (c.loop-i.i + 1) c.args.self.now in
    let at : drop c.loop-i.i c.args.self.now ≡ p ∷ rest = drop_from_slice_get c.args.self.now c.loop-i.i p c.pair.ensures in
    omega (arith, ap (λ (ps : List Pair). length (rest_text ps)) at, length-rest_text p rest, c.loop-i.invariant)

pub returns : goal.returns
returns c =
    let none : drop c.loop-i.i c.args.self.now ≡ [] = drop_all c.loop-i.i c.args.self.now (omega arith) in
    omega (arith, ap (λ (ps : List Pair). length (rest_text ps)) none, c.loop-i.invariant, key_from_rest c.args.self.now)
