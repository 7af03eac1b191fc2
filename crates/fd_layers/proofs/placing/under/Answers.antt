use Rattle.std.proofs.Common.{rules, ◌≡◌, ◌+◌, List, drop, ◌∷◌, subst, true}
use Rattle.fd_spelling.specs.Names.{is_name, is_value}
use Rattle.fd_key.specs.Pairs.{Pair}
use Rattle.fd_key.proofs.PairLaws.{drop_from_slice_get}
use Rattle.fd_layers.proofs.Spelled.{IsUnder, all_at, under_more, under_none, value_under}
use Rattle.fd_layers.proofs.placing.under.Goals as goal

pub loop-i-init : goal.loop-i-init
loop-i-init c = subst (λ (ps : List Pair). IsUnder c.args.layer.now c.args.key.now ps c.args.key.now) (search rules) (under_none c.args.layer.now c.args.key.now c.requires.key.once)

pub set-requires-clause-name : goal.set-requires-clause-name
set-requires-clause-name c =
    let p : Pair = (c.pair.result.0.now, c.pair.result.1.now) in
    let is : is_name p.0 ≡ true = all_at (λ (q : Pair). is_name q.0 ≡ true) c.args.key.now c.loop-i.i p c.requires.key.names c.pair.ensures in
    search rules

pub set-requires-clause-value : goal.set-requires-clause-value
set-requires-clause-value c =
    let p : Pair = (c.pair.result.0.now, c.pair.result.1.now) in
    let own : is_value p.1 ≡ true = all_at (λ (q : Pair). is_value q.1 ≡ true) c.args.key.now c.loop-i.i p c.requires.key.values c.pair.ensures in
    let is = value_under c.args.layer.now p.0 p.1 c.requires.layer own in
    search rules

pub loop-i-preserved : goal.loop-i-preserved
loop-i-preserved c =
    let p : Pair = (c.pair.result.0.now, c.pair.result.1.now) in
    let rest : List Pair = drop (c.loop-i.i + 1) c.args.key.now in
    let at : drop c.loop-i.i c.args.key.now ≡ p ∷ rest = drop_from_slice_get c.args.key.now c.loop-i.i p c.pair.ensures in
    under_more c.args.layer.now c.args.key.now c.loop-i.new (drop c.loop-i.i c.args.key.now) rest c.set.new.self p.0 p.1 at (search rules) c.loop-i.invariant
