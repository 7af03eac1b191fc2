use Rattle.std.proofs.Common.{◌≡◌, ◌++◌, rules, append_assoc, length-append, arith}
use Rattle.std.specs.Prelude.{string_bytes, codes}
use Rattle.fd_spelling.proofs.levels.both_levels.Goals as goal

pub returns-clause-short : goal.returns-clause-short
returns-clause-short c =
    let text : string_bytes c.in_ok-format.field-0 ≡ c.args.first.now ++ codes "_" ++ c.args.second.now = search (rules, append_assoc) in
    rw text (omega (arith, length-append (c.args.first.now ++ codes "_") c.args.second.now, length-append c.args.first.now (codes "_")))
