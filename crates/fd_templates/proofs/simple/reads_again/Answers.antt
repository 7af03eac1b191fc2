use Rattle.std.proofs.Common.{arith}
use Rattle.fd_templates.proofs.SectionsAgain.{simple_again, simple_section, SimpleRanges}
use Rattle.fd_templates.proofs.simple.reads_again.Goals as goal

pub returns-clause-section : goal.returns-clause-section
returns-clause-section c = simple_section c.args.simple

pub returns-clause-again : goal.returns-clause-again
returns-clause-again c =
    let r : SimpleRanges c.args.simple = record { coded = omega arith; reference = omega arith; bits = omega arith; original_type = omega arith } in
    simple_again c.args.simple c.requires r
