use Rattle.std.proofs.Common.{◌≡◌, ◌∙◌, ap, sym, Bool, List, drop, ◌+◌, ◌∷◌}
use Rattle.std.specs.Prelude.{◌&&◌}
use Rattle.std.specs.List.{list_all}
use Rattle.fd_key.specs.Pairs.{Pair}
use Rattle.fd_key.proofs.PairLaws.{drop_from_slice_get}
use Rattle.fd_schema.specs.Rules.{is_known}
use Rattle.fd_schema.specs.Seen.{seen_rule}
use Rattle.fd_schema.proofs.place.are_known.Goals as goal

pub returns-then-not-is_known : goal.returns-then-not-is_known
returns-then-not-is_known c =
    let p : Pair = (c.pair.result.0.now, c.pair.result.1.now) in
    let rule = seen_rule c.args.rule.now in
    let rest : List Pair = drop (c.loop-i.i + 1) c.args.key.now in
    let at : drop c.loop-i.i c.args.key.now ≡ p ∷ rest = drop_from_slice_get c.args.key.now c.loop-i.i p c.pair.ensures in
    sym (c.loop-i.invariant ∙ ap (λ (ps : List Pair). list_all (is_known rule) ps) at ∙ ap (λ (b : Bool). b && list_all (is_known rule) rest) (sym (c.is_known.ensures c.pair.result.1.now) ∙ c.if-not-is_known.true))

pub loop-i-preserved : goal.loop-i-preserved
loop-i-preserved c =
    let p : Pair = (c.pair.result.0.now, c.pair.result.1.now) in
    let rule = seen_rule c.args.rule.now in
    let rest : List Pair = drop (c.loop-i.i + 1) c.args.key.now in
    let at : drop c.loop-i.i c.args.key.now ≡ p ∷ rest = drop_from_slice_get c.args.key.now c.loop-i.i p c.pair.ensures in
    c.loop-i.invariant ∙ ap (λ (ps : List Pair). list_all (is_known rule) ps) at ∙ ap (λ (b : Bool). b && list_all (is_known rule) rest) (sym (c.is_known.ensures c.pair.result.1.now) ∙ c.if-not-is_known.false)
