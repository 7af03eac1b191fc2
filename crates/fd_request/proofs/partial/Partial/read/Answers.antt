use Rattle.std.proofs.Common.{rules, ◌≡◌, Err}
use Rattle.fd_request.specs.Keywords.{seen_keywords}
use Rattle.fd_request.proofs.Sizes.{partial_refused, partial_is}
use Rattle.fd_request.proofs.partial.Partial.read.Goals as goal

pub returns-in_err-keywords : goal.returns-in_err-keywords
returns-in_err-keywords c =
    let fault = c.in_err-keywords.field-0.0 in
    let given : c.from_residual.result ≡ Err fault = search rules in
    rw given (partial_refused c.args.text.now fault c.in_err-keywords.ensures.refused)

pub returns : goal.returns
returns c = partial_is c.args.text.now (seen_keywords c.in_ok-keywords.keywords.items) c.in_ok-keywords.ensures.small c.in_ok-keywords.ensures.gives
