use Rattle.std.proofs.Common.{arith}
use Rattle.fd_segment.proofs.Copied.{piece_read}
use Rattle.fd_segment.proofs.digest.hash_piece.Goals as goal

pub returns-clause-ok : goal.returns-clause-ok
returns-clause-ok g c = (
  c.read_at.new.into,
  piece_read _ (g.R.Reader.bytes c.args.file.now) (g.R.Reader.len c.args.file.now) c.args.at c.in_default.field-0 c.args.piece.now c.read_at.new.into c.requires (omega arith) ((g.met.R.Reader g.world.𝓛 g.world.𝓜 g.world.𝓡 ((λ s x. x), (λ x. x), (λ x. x), λ x. x)).len_told c.args.file.now) c.in_default.ensures.bytes,
  c.update.ensures,
)
