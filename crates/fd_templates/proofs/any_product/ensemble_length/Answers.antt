use Rattle.std.proofs.Common.{sym}
use Rattle.fd_templates.proofs.AnyAgain.{member_long}
use Rattle.fd_templates.proofs.any_product.ensemble_length.Goals as goal

pub returns-in-Some-clause-length : goal.returns-in-Some-clause-length
returns-in-Some-clause-length c = rw c.in-Some.is (sym (member_long c.in-Some.field-0))
