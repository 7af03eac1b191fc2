use Rattle.std.proofs.Common.{sym, ap, ◌∙◌}
use Rattle.fd_spelling.specs.Texts.{texts}
use Rattle.fd_request.specs.Values.{seen_values}
use Rattle.fd_request.proofs.Members.{listed_is}
use Rattle.fd_request.proofs.values.Values.has.Goals as goal

pub returns-in-Listed : goal.returns-in-Listed
returns-in-Listed c =
    listed_is c.args.self.now (texts c.deref.result.now) c.args.text.now c.is_one_of.result (ap seen_values c.in-Listed.is ∙ ap texts (sym c.deref.ensures.value)) c.is_one_of.ensures
