use Rattle.std.proofs.Common.{◌≡◌, ◌∙◌, ap, ◌++◌, ◌∷◌, [], string_bytes, arith}
use Rattle.fd_key.specs.Pairs.{Pair}
use Rattle.fd_key.proofs.PairLaws.{text_step}
use Rattle.fd_key.proofs.key.Key.text.Goals as goal

pub loop-i-preserved : goal.loop-i-preserved
loop-i-preserved c =
    let p : Pair = (c.pair-in-loop-i.result.0.now, c.pair-in-loop-i.result.1.now) in
    let comma : string_bytes c.push.new.self ≡ string_bytes c.loop-i.out ++ 44 ∷ [] =
    c.in_ok-push.ensures.bytes ∙ ap (λ b. string_bytes c.loop-i.out ++ b) (c.in_ok-push.ensures.ascii (omega arith)) in
    rw (c.in_ok-push_pair-2.ensures, comma) (text_step c.args.self.now c.loop-i.i p (string_bytes c.loop-i.out) _ c.pair-in-loop-i.ensures c.loop-i.invariant)
