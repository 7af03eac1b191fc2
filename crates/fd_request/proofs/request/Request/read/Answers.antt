use Rattle.std.proofs.Common.{rules, ◌≡◌, Err}
use Rattle.fd_request.specs.Keywords.{seen_keywords}
use Rattle.fd_request.proofs.Sizes.{keywords_refused, limit_place, limit_refused, request_is}
use Rattle.fd_request.proofs.request.Request.read.Goals as goal

pub returns-in_err-keywords : goal.returns-in_err-keywords
returns-in_err-keywords c =
    let fault = c.in_err-keywords.field-0.0 in
    let given : c.from_residual.result ≡ Err fault = search rules in
    rw given (keywords_refused c.args.text.now fault c.in_err-keywords.ensures.refused)

pub refused-requires : goal.refused-requires
refused-requires c = limit_place c.in-Err.refusal _ (seen_keywords c.in_ok-keywords.keywords.items) (rw c.deref.ensures.value at c.in-Err.ensures.gives)

pub returns-in-Ok : goal.returns-in-Ok
returns-in-Ok c =
    request_is c.args.text.now (seen_keywords c.in_ok-keywords.keywords.items) c.in_ok-keywords.ensures.small c.in_ok-keywords.ensures.gives (rw c.deref.ensures.value at c.in-Ok.ensures.gives)

pub returns-in-Err : goal.returns-in-Err
returns-in-Err c =
    limit_refused c.args.text.now (seen_keywords c.in_ok-keywords.keywords.items) c.in-Err.refusal c.refused.result c.in_ok-keywords.ensures.gives (rw c.deref.ensures.value at c.in-Err.ensures.gives) c.refused.ensures
