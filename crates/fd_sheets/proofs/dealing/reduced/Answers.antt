use Rattle.std.proofs.Math.Nat.{mod-add-mod}
use Rattle.fd_sheets.proofs.dealing.reduced.Goals as goal

pub returns-clause-same : goal.returns-clause-same
returns-clause-same c = λ n. mod-add-mod c.args.sum c.args.workers n
