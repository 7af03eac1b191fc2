use Rattle.std.proofs.Common.{refl, arith}
use Rattle.fd_schema.specs.Grammar.{TooLong}
use Rattle.fd_schema.proofs.Whole.{too_long}
use Rattle.fd_schema.proofs.schema.Schema.read.Goals as goal

pub returns-then-text-gt-BYTES : goal.returns-then-text-gt-BYTES
returns-then-text-gt-BYTES c = (record { at = 0; kind = TooLong }, record { place = too_long c.args.text.now (omega arith); line_is = refl; kind_is = refl })
