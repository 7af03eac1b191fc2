use Rattle.std.proofs.Common.{◌≡◌, ◌∙◌, ◌++◌, ℕ, List, ap, arith}
use Rattle.std.specs.Prelude.{string_bytes}
use Rattle.fd_spelling.specs.Levels.{levtype_text}
use Rattle.fd_spelling.proofs.ShortTexts.{levtype_short}
use Rattle.fd_spelling.proofs.ValueLaws.{levtype_is_value}
use Rattle.fd_spelling.proofs.levels.levtype_text.Goals as goal

pub returns-clause-short : goal.returns-clause-short
returns-clause-short c =
    let text : string_bytes c.push_levtype.new.out ≡ levtype_text c.args.first c.args.second =
    c.in_ok-push_levtype.ensures ∙ ap (λ (t : List ℕ). t ++ levtype_text c.args.first c.args.second) c.in_ok-out.ensures.bytes in
    rw text (levtype_short c.args.first c.args.second (omega arith) (omega arith))

pub returns-clause-value : goal.returns-clause-value
returns-clause-value c =
    let text : string_bytes c.push_levtype.new.out ≡ levtype_text c.args.first c.args.second =
    c.in_ok-push_levtype.ensures ∙ ap (λ (t : List ℕ). t ++ levtype_text c.args.first c.args.second) c.in_ok-out.ensures.bytes in
    let short = levtype_short c.args.first c.args.second (omega arith) (omega arith) in
    rw text (levtype_is_value c.args.first c.args.second (omega arith) (omega arith) short)
