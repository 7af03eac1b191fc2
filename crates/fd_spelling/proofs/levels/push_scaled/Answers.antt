use Rattle.std.proofs.Common.{arith}
use Rattle.std.proofs.lemmas.Fmt.{digits_decimal}
use Rattle.fd_spelling.proofs.Digits.{numerals}
use Rattle.fd_spelling.proofs.levels.push_scaled.Goals as goal

pub push_enlarged-requires-clause-digits : goal.push_enlarged-requires-clause-digits
push_enlarged-requires-clause-digits c = rw c.format-digits.ensures.text (digits_decimal numerals c.unsigned_abs.result (omega arith))

pub push_reduced-requires-clause-digits : goal.push_reduced-requires-clause-digits
push_reduced-requires-clause-digits c = rw c.format-digits.ensures.text (digits_decimal numerals c.unsigned_abs.result (omega arith))
