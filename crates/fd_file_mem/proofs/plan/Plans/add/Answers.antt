use Rattle.std.proofs.Common.{◌++◌, List, ℕ, ◌∙◌, ap}
use Rattle.fd_file_mem.specs.Plans.{fails_of, fails_if}
use Rattle.fd_file_mem.proofs.PlanLemmas.{fails_join}
use Rattle.fd_file_mem.proofs.plan.Plans.add.Goals as goal

pub returns-clause-ok : goal.returns-clause-ok
returns-clause-ok c = λ other.
    ap (fails_of other) c.in_ok-push.ensures.items
    ∙ fails_join other c.args.self.now.items.items _
    ∙ ap (λ (t : List ℕ). fails_of other c.args.self.now.items.items ++ fails_if other t c.args.op c.args.nth) c.in_ok-file.ensures.ok
