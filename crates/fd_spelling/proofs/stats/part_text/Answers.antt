use Rattle.std.proofs.Common.{◌≡◌, rules, append_assoc, arith}
use Rattle.std.specs.Prelude.{string_bytes}
use Rattle.fd_spelling.specs.Stats.{part_text}
use Rattle.fd_spelling.proofs.StatLaws.{short_part}
use Rattle.fd_spelling.proofs.stats.part_text.Goals as goal

pub returns-clause-short : goal.returns-clause-short
returns-clause-short c =
    let text : string_bytes c.in_ok-format.field-0 ≡ part_text c.args.process c.args.step.now = search (rules, append_assoc) in
    rw text (short_part c.args.process c.args.step.now (omega arith))
