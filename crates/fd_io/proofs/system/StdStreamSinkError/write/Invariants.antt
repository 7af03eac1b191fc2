use Rattle.std.proofs.Common.{◌≡◌, ℕ, length}
use Rattle.std.specs.Io.KnownBytes.{Keeps}
use Rattle.fd_io.proofs.system.StdStreamSinkError.write.Given as goal

abbrev pub invariant-loop : goal.invariant-loop
invariant-loop g l = record {
  kept : Keeps (g.W.Write.contents l.fn.self.stream) (g.W.Write.contents l.self.stream);
  calm : l.self.failed ≡ l.fn.self.failed;
}
