use Rattle.std.proofs.Common.{◌≡◌, ◌∙◌, ◌++◌, ℕ, List, ap, arith}
use Rattle.std.specs.Prelude.{string_bytes}
use Rattle.fd_spelling.specs.Canonical.{param_text}
use Rattle.fd_spelling.proofs.ShortTexts.{param_short}
use Rattle.fd_spelling.proofs.ValueLaws.{param_is_value}
use Rattle.fd_spelling.proofs.values.param_text.Goals as goal

pub returns-clause-short : goal.returns-clause-short
returns-clause-short c =
    let text : string_bytes c.push_param.new.out ≡ param_text c.args.d c.args.c c.args.n =
    c.in_ok-push_param.ensures ∙ ap (λ (t : List ℕ). t ++ param_text c.args.d c.args.c c.args.n) c.in_ok-out.ensures.bytes in
    rw text (param_short c.args.d c.args.c c.args.n (omega arith) (omega arith) (omega arith))

pub returns-clause-value : goal.returns-clause-value
returns-clause-value c =
    let text : string_bytes c.push_param.new.out ≡ param_text c.args.d c.args.c c.args.n =
    c.in_ok-push_param.ensures ∙ ap (λ (t : List ℕ). t ++ param_text c.args.d c.args.c c.args.n) c.in_ok-out.ensures.bytes in
    let short = param_short c.args.d c.args.c c.args.n (omega arith) (omega arith) (omega arith) in
    rw text (param_is_value c.args.d c.args.c c.args.n (omega arith) (omega arith) (omega arith) short)
