use Rattle.std.proofs.Common.{sym, ◌∙◌}
use Rattle.fd_top.proofs.Serving.{refuses, serves, starves}
use Rattle.fd_top.proofs.top.fdb.Goals as goal

pub returns-in-Ok-Some-clause-served : goal.returns-in-Ok-Some-clause-served
returns-in-Ok-Some-clause-served g c = serves _ _ _ _ _ _ _ _ (sym c.in-Ok-Some.ensures.command ∙ c.in-Ok-Some.field-0-is) c.run.ensures.did

pub returns-in-Ok-None-clause-served : goal.returns-in-Ok-None-clause-served
returns-in-Ok-None-clause-served g c = refuses _ _ _ _ _ _ _ _ _ _ _ _ _ (sym c.in-Ok-None.ensures.command ∙ c.in-Ok-None.field-0-is) c.tell.ensures

pub returns-in-Err-clause-served : goal.returns-in-Err-clause-served
returns-in-Err-clause-served g c = starves _ _ _ _ _ _ _ _ _ _ _ _ _ c.tell_no_memory.ensures
