use Rattle.std.proofs.Common.{arith}
use Rattle.fd_segment.proofs.Copied.{piece_read}
use Rattle.fd_segment.proofs.whole.read_into.Goals as goal

pub returns-in-Ok-clause-ok : goal.returns-in-Ok-clause-ok
returns-in-Ok-clause-ok g c =
    piece_read _ (g.R.Reader.bytes c.args.file.now) (g.R.Reader.len c.args.file.now) c.args.at c.in-Ok.field-0 c.args.into.now c.read_at.new.into c.requires (omega arith) ((g.met.R.Reader g.world.𝓛 g.world.𝓜 g.world.𝓡 ((λ s x. x), (λ x. x), (λ x. x), λ x. x)).len_told c.args.file.now) c.in-Ok.ensures.bytes
