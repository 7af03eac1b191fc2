use Rattle.fd_request.specs.Grammar.{keywords_of}
use Rattle.fd_request.specs.Keywords.{seen_keywords}
use Rattle.fd_request.proofs.Sizes.{reading_place, size_refused}
use Rattle.fd_request.proofs.request.keywords_within.Goals as goal

pub refused-requires : goal.refused-requires
refused-requires c = reading_place c.in-Err.refusal c.args.verb.now c.args.text.now c.in-Err.ensures.gives

pub returns-in-Err-clause-refused : goal.returns-in-Err-clause-refused
returns-in-Err-clause-refused c = c.refused.ensures (keywords_of c.args.verb.now c.args.text.now) c.in-Err.ensures.gives

pub returns-then-text-gt-BYTES-clause-refused : goal.returns-then-text-gt-BYTES-clause-refused
returns-then-text-gt-BYTES-clause-refused c =
    size_refused _ _ (seen_keywords c.in-Ok.keywords.items) c.too_long.result c.if-text-gt-BYTES.true c.in-Ok.ensures.gives c.too_long.ensures
