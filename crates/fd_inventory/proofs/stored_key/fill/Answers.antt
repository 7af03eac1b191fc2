use Rattle.std.proofs.Common.{◌≡◌, ◌∙◌, ◌++◌, ◌∷◌, ◌+◌, [], List, drop, sym, ap, append_assoc}
use Rattle.fd_key.specs.Pairs.{Pair}
use Rattle.fd_key.specs.Given.{differ_after}
use Rattle.fd_key.proofs.PairLaws.{drop_from_slice_get, with_new_pair}
use Rattle.fd_key.proofs.NameLaws.{first_differs}
use Rattle.fd_inventory.proofs.Copying.{all_apart, spelled_there}
use Rattle.fd_inventory.proofs.stored_key.fill.Goals as goal

pub loop-i-init : goal.loop-i-init
loop-i-init c = (
  ap (λ (ps : List Pair). ps ++ c.args.pairs.now) c.clear.ensures,
  ap (λ (ps : List Pair). differ_after ps c.args.pairs.now) c.clear.ensures ∙ all_apart c.args.pairs.now c.requires,
)

pub set-requires-clause-name : goal.set-requires-clause-name
set-requires-clause-name c = (spelled_there c.args.pairs.now c.loop-i.i (c.pair.result.0.now, c.pair.result.1.now) c.requires c.pair.ensures).named

pub set-requires-clause-value : goal.set-requires-clause-value
set-requires-clause-value c = (spelled_there c.args.pairs.now c.loop-i.i (c.pair.result.0.now, c.pair.result.1.now) c.requires c.pair.ensures).valued

pub loop-i-preserved : goal.loop-i-preserved
loop-i-preserved c =
    let p : Pair = (c.pair.result.0.now, c.pair.result.1.now) in
    let others : List Pair = drop (c.loop-i.i + 1) c.args.pairs.now in
    let at : drop c.loop-i.i c.args.pairs.now ≡ p ∷ others = drop_from_slice_get c.args.pairs.now c.loop-i.i p c.pair.ensures in
    let first = first_differs c.loop-i.room p others (rw at at c.loop-i.invariant.1) in
    let new : c.set.new.self ≡ c.loop-i.room ++ p ∷ [] = c.in_ok-set.ensures.ok ∙ with_new_pair c.loop-i.room p.0 p.1 first.0 in (
      ap (λ (ps : List Pair). ps ++ others) new ∙ append_assoc c.loop-i.room (p ∷ []) others ∙ ap (λ (ps : List Pair). c.loop-i.room ++ ps) (sym at) ∙ c.loop-i.invariant.0,
      ap (λ (ps : List Pair). differ_after ps others) new ∙ first.1,
    )
