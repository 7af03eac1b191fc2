use Rattle.std.proofs.Common.{◌≡◌, ◌∙◌, sym, ap, cond, Some, None}
use Rattle.fd_script.proofs.Bytes.{all_ascii}
use Rattle.fd_script.proofs.lines.line_text.Goals as goal

pub unreachable-requires : goal.unreachable-requires
unreachable-requires c =
    let a = all_ascii c.args.line.now (sym c.in-None.ensures) in
    let k : None ≡ Some c.args.line.now = c.in-None-ascii_text.ensures ∙ ap (λ b. cond b (Some c.args.line.now) None) a in
    absurd (cc k)
