use Rattle.std.proofs.Common.{arith, rules}
use Rattle.std.proofs.lemmas.Int.{ints}
use Rattle.fd_spelling.proofs.Zeros.{scaled_shorter}
use Rattle.fd_key.proofs.fields.surface_of.Goals as goal

pub returns-clause-short : goal.returns-clause-short
returns-clause-short c = scaled_shorter _ _ (search rules) (omega (arith, ints))
