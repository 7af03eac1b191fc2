use Rattle.std.proofs.Common.{◌<◌, ◌-◌, ◌+◌, ◌∷◌, ◌++◌, [], List, ℕ, sym, ap, ◌∙◌, append_assoc, arith}
use Rattle.std.proofs.lemmas.List.{append-nil}
use Rattle.std.specs.String.{string_bytes}
use Rattle.fd_scaled.specs.Decimal.{last_digits}
use Rattle.fd_scaled.proofs.Powers.{last_next, last_none}
use Rattle.fd_scaled.proofs.decimals.push_digits.Goals as goal

pub loop-i-preserved : goal.loop-i-preserved
loop-i-preserved c =
    let rest = last_digits (c.args.d - (c.loop-i.i + 1)) c.args.r in
    let small : c.digit_at.result < 128 = omega (arith, c.digit_at.ensures) in
    ap (λ (t : List ℕ). t ++ rest) (c.in_ok-push.ensures.bytes ∙ ap (λ (t : List ℕ). string_bytes c.loop-i.out ++ t) (c.in_ok-push.ensures.ascii small ∙ ap (λ n. n ∷ []) c.digit_at.ensures))
    ∙ append_assoc (string_bytes c.loop-i.out) _ rest
    ∙ ap (λ (t : List ℕ). string_bytes c.loop-i.out ++ t) (sym (last_next c.args.d c.loop-i.i c.args.r c.loop-i-test.true))
    ∙ c.loop-i.invariant

pub returns : goal.returns
returns c =
    sym (ap (λ (t : List ℕ). string_bytes c.loop-i.out ++ t) (last_none (c.args.d - c.loop-i.i) c.args.r (omega arith)) ∙ append-nil (string_bytes c.loop-i.out)) ∙ c.loop-i.invariant
