use Rattle.std.proofs.Common.{rules, ◌≡◌, ◌∙◌, length, take, ◌++◌, arith}
use Rattle.fd_toc.proofs.LoadSteps.{read_more}
use Rattle.fd_toc.proofs.Meanwhile.{leaves_same}
use Rattle.fd_toc.proofs.load.read_front.Goals as goal

pub pieces-preserved : goal.pieces-preserved
pieces-preserved g c =
    let place : c.len-in-pieces.result ≡ length c.pieces.bytes.items = search rules in
    let more : c.extend_from_slice.new.self.items ≡ c.pieces.bytes.items ++ take c.in-Ok.n c.read_at.new.into = search rules in
    record {
      file = c.in-Ok.ensures.file ∙ c.pieces.invariant.file;
      left = leaves_same g.T.Disk.moment g.T.Disk.left_since c.args.table.now c.pieces.table c.read_at.new.self (g.T.Disk.file c.args.table.now) (g.T.Disk.file c.read_at.new.self) c.pieces.invariant.left c.in-Ok.ensures.time (c.in-Ok.ensures.file ∙ c.pieces.invariant.file);
      name = c.in-Ok.ensures.name ∙ c.pieces.invariant.name;
      later = omega (arith, c.in-Ok.ensures.cause.later, c.pieces.invariant.later);
      bytes = read_more _ (g.T.Disk.file c.args.table.now) (g.T.Disk.file c.pieces.table) c.pieces.bytes.items c.extend_from_slice.new.self.items c.pieces.piece c.read_at.new.into c.len-in-pieces.result c.in-Ok.n c.pieces.invariant.file place c.pieces.invariant.bytes c.in-Ok.ensures.bytes more;
    }

pub returns-in-Err-clause-any_moment : goal.returns-in-Err-clause-any_moment
returns-in-Err-clause-any_moment g c =
    leaves_same g.T.Disk.moment g.T.Disk.left_since c.args.table.now c.pieces.table c.read_at.new.self (g.T.Disk.file c.args.table.now) (g.T.Disk.file c.read_at.new.self) c.pieces.invariant.left c.in-Err.ensures.time (c.in-Err.ensures.file ∙ c.pieces.invariant.file)

pub returns-then-n-eq0-clause-any_moment : goal.returns-then-n-eq0-clause-any_moment
returns-then-n-eq0-clause-any_moment g c =
    leaves_same g.T.Disk.moment g.T.Disk.left_since c.args.table.now c.pieces.table c.read_at.new.self (g.T.Disk.file c.args.table.now) (g.T.Disk.file c.read_at.new.self) c.pieces.invariant.left c.in-Ok.ensures.time (c.in-Ok.ensures.file ∙ c.pieces.invariant.file)

pub returns-in_default-clause-any_moment : goal.returns-in_default-clause-any_moment
returns-in_default-clause-any_moment g c =
    leaves_same g.T.Disk.moment g.T.Disk.left_since c.args.table.now c.pieces.table c.read_at.new.self (g.T.Disk.file c.args.table.now) (g.T.Disk.file c.read_at.new.self) c.pieces.invariant.left c.in-Ok.ensures.time (c.in-Ok.ensures.file ∙ c.pieces.invariant.file)
