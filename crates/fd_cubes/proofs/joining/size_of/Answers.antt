use Rattle.std.proofs.Common.{◌<◌, ◌+◌, ℕ, List, length, arith, sym, ap, ◌∙◌}
use Rattle.fd_cubes.proofs.Grids.{sized_alone}
use Rattle.fd_cubes.proofs.joining.size_of.Goals as goal

pub returns : goal.returns
returns c =
    let some : 0 < length c.args.key.now = omega (arith, c.len.ensures, c.if-len-eq0.false) in
    ap (λ n. n + 9) (c.len-2.ensures ∙ c.in_ok-text.field-0.bytes.ok.0 ∙ ap (λ (t : List ℕ). length t) c.in_ok-text.ensures) ∙ sym (sized_alone c.args.key.now some)
