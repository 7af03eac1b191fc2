use Rattle.std.proofs.Common.{◌≡◌, ℕ, length}
use Rattle.std.specs.Io.KnownBytes.{Keeps}
use Rattle.fd_io.proofs.system.StdStreamSourceError.read.Given as goal

abbrev pub invariant-loop : goal.invariant-loop
invariant-loop g l = record {
  kept : Keeps (g.R.Read.remaining l.fn.self.stream) (g.R.Read.remaining l.self.stream);
  calm : l.self.failed ≡ l.fn.self.failed;
  room : length l.into ≡ length l.fn.into;
}
