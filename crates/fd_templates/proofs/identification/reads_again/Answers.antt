use Rattle.std.proofs.Common.{arith}
use Rattle.fd_templates.proofs.SectionsAgain.{ident_again, ident_section, IdentRanges}
use Rattle.fd_templates.proofs.identification.reads_again.Goals as goal

pub returns-clause-section : goal.returns-clause-section
returns-clause-section c = ident_section c.args.ident

pub returns-clause-again : goal.returns-clause-again
returns-clause-again c =
    let r : IdentRanges c.args.ident = record { centre = omega arith; sub_centre = omega arith; master_tables_version = omega arith; local_tables_version = omega arith; reference_time_significance = omega arith; reference_time = record { year = omega arith; month = omega arith; day = omega arith; hour = omega arith; minute = omega arith; second = omega arith }; production_status = omega arith; data_type = omega arith } in
    ident_again c.args.ident r
