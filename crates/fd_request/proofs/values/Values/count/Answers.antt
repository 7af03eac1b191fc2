use Rattle.std.proofs.Common.{length, sym, ap, ◌∙◌}
use Rattle.fd_request.specs.declared.values.Values as code_values
use Rattle.fd_request.specs.Values.{seen_values}
use Rattle.fd_request.proofs.RangeLaws.{count_is}
use Rattle.fd_request.proofs.values.Values.count.Goals as goal

pub returns-in-Stepped : goal.returns-in-Stepped
returns-in-Stepped c = sym (count_is c.in-Stepped.range) ∙ ap (λ (v : code_values.Values). length (seen_values v)) (sym c.in-Stepped.is)
