use Rattle.std.proofs.Common.{List, ℕ, sym, ◌∙◌, ap}
use Rattle.fd_machine.specs.Machine.{agrees_from}
use Rattle.fd_core.proofs.CrashSteps.{agree_short}
use Rattle.fd_core.proofs.crash_steps.agrees.Goals as goal

pub returns-then-k-bytes : goal.returns-then-k-bytes
returns-then-k-bytes c =
    sym (agree_short c.args.file.now c.as_slice-firm.result.now c.args.bytes.now c.loop-k.k c.loop-k-test.true c.if-k-bytes.true)
    ∙ c.loop-k.invariant.so_far ∙ ap (λ (l : List ℕ). agrees_from 0 c.args.file.now l c.args.bytes.now) c.loop-k.invariant.firm
