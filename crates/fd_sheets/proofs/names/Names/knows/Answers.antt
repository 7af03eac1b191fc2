use Rattle.std.proofs.Common.{◌∙◌, rules, Contains, subst}
use Rattle.fd_sheets.proofs.names.Names.knows.Goals as goal

pub returns-in-Some-Ok : goal.returns-in-Some-Ok
returns-in-Some-Ok c = λ e. (c.in-Some-Ok.place, search rules, subst (Contains c.args.self.now.texts.items) (c.as_bytes.ensures.value ∙ c.dataset.ensures) (c.has.ensures e))
