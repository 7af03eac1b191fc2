use Rattle.std.proofs.Common.{arith}
use Rattle.fd_templates.proofs.any_product.base_in_range.Goals as goal

pub returns : goal.returns
returns c = record { coordinates = omega arith; category = omega arith; parameter = omega arith; generating_process_type = omega arith; background_process = omega arith; process_identifier = omega arith; cutoff_hours = omega arith; cutoff_minutes = omega arith; time_unit = omega arith; first_surface_type = omega arith; second_surface_type = omega arith }
