use Rattle.std.proofs.Common.{arith}
use Rattle.fd_templates.specs.Widths.{ProductRanges}
use Rattle.fd_templates.proofs.SectionsAgain.{product_again, product_section}
use Rattle.fd_templates.proofs.product.reads_again.Goals as goal

pub returns-clause-section : goal.returns-clause-section
returns-clause-section c = product_section c.args.product

pub returns-clause-again : goal.returns-clause-again
returns-clause-again c =
    let r : ProductRanges c.args.product = record { coordinates = omega arith; category = omega arith; parameter = omega arith; generating_process_type = omega arith; background_process = omega arith; process_identifier = omega arith; cutoff_hours = omega arith; cutoff_minutes = omega arith; time_unit = omega arith; first_surface_type = omega arith; second_surface_type = omega arith } in
    product_again c.args.product c.requires r
