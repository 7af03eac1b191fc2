use Rattle.std.proofs.Common.{rules, ◌≡◌, ◌++◌, ◌∷◌, [], Some, sym, arith}
use Rattle.fd_spelling.specs.Pieces.{pieces}
use Rattle.fd_words.specs.Words.{layer_read}
use Rattle.fd_words.proofs.LayerLemmas.{ended, layers_within, left_more, too_many}
use Rattle.fd_words.proofs.layers.layers_read.Goals as goal

pub loop-count-preserved : goal.loop-count-preserved
loop-count-preserved c = (
  search rules,
  let cut : pieces 47 c.loop-count.rest.now ≡ c.first_layer.result.0.now ∷ pieces 47 c.in-Some-behind.others.now = search rules in
      let is : layer_read c.first_layer.result.0.now ≡ Some c.in-Some.layer = search rules in
      let pushed : c.push.new.self ≡ c.loop-count.layers ++ c.in-Some.layer ∷ [] = search rules in
      left_more c.args.text.now c.loop-count.count c.loop-count.layers c.push.new.self c.loop-count.rest.now c.first_layer.result.0.now c.in-Some-behind.others.now c.in-Some.layer cut is pushed c.loop-count.invariant.1,
)

pub returns-in-None-clause-within : goal.returns-in-None-clause-within
returns-in-None-clause-within c =
    let cut : pieces 47 c.loop-count.rest.now ≡ c.first_layer.result.0.now ∷ [] = search rules in
    let is : layer_read c.first_layer.result.0.now ≡ Some c.in-Some.layer = search rules in
    let pushed : c.push.new.self ≡ c.loop-count.layers ++ c.in-Some.layer ∷ [] = search rules in
    layers_within c.args.text.now c.push.new.self (ended c.args.text.now c.loop-count.count c.loop-count.layers c.push.new.self c.loop-count.rest.now c.first_layer.result.0.now c.in-Some.layer cut is pushed c.loop-count-test.true c.loop-count.invariant.1)

pub returns-in-None-clause-layers : goal.returns-in-None-clause-layers
returns-in-None-clause-layers c =
    let cut : pieces 47 c.loop-count.rest.now ≡ c.first_layer.result.0.now ∷ [] = search rules in
    let is : layer_read c.first_layer.result.0.now ≡ Some c.in-Some.layer = search rules in
    let pushed : c.push.new.self ≡ c.loop-count.layers ++ c.in-Some.layer ∷ [] = search rules in
    sym (ended c.args.text.now c.loop-count.count c.loop-count.layers c.push.new.self c.loop-count.rest.now c.first_layer.result.0.now c.in-Some.layer cut is pushed c.loop-count-test.true c.loop-count.invariant.1)

pub returns-clause-layers : goal.returns-clause-layers
returns-clause-layers c = sym (too_many c.args.text.now c.loop-count.count c.loop-count.layers c.loop-count.rest.now (let last = c.loop-count-test.false in omega (arith, last)) c.loop-count.invariant.1)
