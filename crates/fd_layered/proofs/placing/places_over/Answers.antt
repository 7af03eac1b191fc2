use Rattle.std.proofs.Common.{◌≡◌, ◌∙◌, ◌<◌, ◌++◌, ◌∷◌, [], length, slice_get, Some, subst, sym, ap, refl, arith, map}
use Rattle.std.proofs.lemmas.List.{length-append}
use Rattle.fd_request.specs.Expansion.{expand}
use Rattle.fd_schema.specs.Reading.{seen_place}
use Rattle.fd_schema.specs.Rules.{place_from}
use Rattle.fd_outcome.specs.Layered.{all_laid, laid_key, places_under}
use Rattle.fd_answering.proofs.AnsweringLemmas.{there_is}
use Rattle.fd_telling.specs.Stops.{IsRefused}
use Rattle.fd_telling.proofs.StopLemmas as stopping
use Rattle.fd_layered.proofs.Chaining.{chains_are, laid_more, laid_so, laid_stop, places_more}
use Rattle.fd_layered.proofs.placing.places_over.Goals as goal

pub loop-i-init : goal.loop-i-init
loop-i-init g c = ([], refl, tt, ap (map seen_place) c.new-places.ensures.items)

pub loop-i-preserved : goal.loop-i-preserved
loop-i-preserved g c =
    let ks = expand c.args.request.now in
    let inv = c.loop-i.invariant in
    let within : c.loop-i.i < length ks = omega (arith, c.count-i-end.ensures, c.loop-i-test.true) in
    let key = there_is ks c.loop-i.i within in
    let one = c.in-Ok-lay_key.ensures.laid key.0 key.1 in (
      inv.0 ++ one.0 ∷ [],
      length-append inv.0 (one.0 ∷ []) ∙ (let l = inv.1 in omega (arith, l)),
      laid_more c.args.schema.now c.args.layers.now ks inv.0 key.0 one.0 inv.2 (subst (λ k. slice_get ks k ≡ Some key.0) (sym inv.1) key.1) one.1,
      one.2 ∙ ap (λ l. l ++ places_under one.0) inv.3 ∙ sym (places_more inv.0 one.0),
    )

pub returns-in-Err-lay_key-clause-refused : goal.returns-in-Err-lay_key-clause-refused
returns-in-Err-lay_key-clause-refused g c =
    let ks = expand c.args.request.now in
    let inv = c.loop-i.invariant in
    let within : c.loop-i.i < length ks = omega (arith, c.count-i-end.ensures, c.loop-i-test.true) in
    let key = there_is ks c.loop-i.i within in
    stopping.places_more c.in-Err-lay_key.stop (IsRefused (laid_key c.args.schema.now c.args.layers.now key.0 (place_from 0 c.args.schema.now key.0))) (IsRefused (all_laid c.args.schema.now c.args.layers.now ks))
    (λ cause e. laid_stop c.args.schema.now c.args.layers.now ks inv.0 key.0 cause inv.2 (subst (λ k. slice_get ks k ≡ Some key.0) (sym inv.1) key.1) e) (c.in-Err-lay_key.ensures.refused key.0 key.1)

pub returns-clause-chains : goal.returns-clause-chains
returns-clause-chains g c =
    let ks = expand c.args.request.now in
    let inv = c.loop-i.invariant in
    let l = inv.1 in
    chains_are c.args.schema.now c.args.layers.now ks inv.0 (map seen_place c.loop-i.places.items) inv.2 (omega (arith, l, c.count-i-end.ensures, c.loop-i-test.false, c.loop-i.auto.i-end)) inv.3

pub returns-clause-laid : goal.returns-clause-laid
returns-clause-laid g c =
    let ks = expand c.args.request.now in
    let inv = c.loop-i.invariant in
    let l = inv.1 in
    laid_so c.args.schema.now c.args.layers.now ks inv.0 (map seen_place c.loop-i.places.items) inv.2 (omega (arith, l, c.count-i-end.ensures, c.loop-i-test.false, c.loop-i.auto.i-end)) inv.3
