use Rattle.std.proofs.Common.{sym, subst}
use Rattle.fd_beside.specs.Beside.{AcceptsAll, AreShown}
use Rattle.fd_beside.proofs.beside.serve.Goals as goal

pub change_all_shown-requires-clause-accepts : goal.change_all_shown-requires-clause-accepts
change_all_shown-requires-clause-accepts g c κs within = subst (λ ps. AcceptsAll g.F.Fn c.args.each.now ps c.args.jobs.now) (sym c.prepare_all.ensures.same) c.requires.accepts

pub returns : goal.returns
returns g c = record { changed = subst (λ ps. AreShown g.F.Fn c.args.each.now ps c.args.jobs.now c.change_all_shown.new.jobs) c.prepare_all.ensures.same c.change_all_shown.ensures.changed }
