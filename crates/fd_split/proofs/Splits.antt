-- What holds of every message that is split into its fields.
use Rattle.fd_split.proofs.RoundLaws.{reading_has}
use Rattle.fd_split.proofs.Special.{few_fields, read_single}
use Rattle.fd_split.proofs.Never.{never_multi}

pub ruleset splits = (reading_has, read_single, never_multi, few_fields)
