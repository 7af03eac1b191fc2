use Rattle.fd_spelling.proofs.AsciiLaws.{digits_are_ascii}
use Rattle.fd_spelling.specs.Levels.{without_first_zeros, without_last_zeros}
use Rattle.fd_spelling.proofs.Zeros.{first_digits, last_digits}
use Rattle.fd_spelling.proofs.levels.push_level.Goals as goal

pub push_whole-requires : goal.push_whole-requires
push_whole-requires c = rw c.without_first_zeros.ensures (digits_are_ascii (without_first_zeros c.args.whole.now) (first_digits c.args.whole.now c.requires.whole))

pub push_fraction-requires : goal.push_fraction-requires
push_fraction-requires c = rw c.without_last_zeros.ensures (digits_are_ascii (without_last_zeros c.args.fraction.now) (last_digits c.args.fraction.now c.requires.fraction))
