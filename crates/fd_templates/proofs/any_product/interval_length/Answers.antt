use Rattle.std.proofs.Common.{◌+◌, ◌*◌, ◌∙◌, length, List, sym, ap}
use Rattle.fd_templates.specs.declared.interval.Range as ranges_seen
use Rattle.fd_templates.proofs.RangesAgain.{interval_long}
use Rattle.fd_templates.proofs.any_product.interval_length.Goals as goal

pub returns-in-Some-clause-length : goal.returns-in-Some-clause-length
returns-in-Some-clause-length c = rw c.in-Some.is (ap (λ (rs : List ranges_seen.Range). 12 + 12 * length rs) c.as_slice.ensures.ranges ∙ sym (interval_long c.in-Some.interval))
