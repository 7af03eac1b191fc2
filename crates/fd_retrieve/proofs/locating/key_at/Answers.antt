use Rattle.std.proofs.lemmas.Option.{slice_get-get_or}
use Rattle.fd_retrieve.proofs.locating.key_at.Goals as goal

pub returns-clause-is : goal.returns-clause-is
returns-clause-is c = slice_get-get_or c.args.keys.now c.args.place _ c.requires.place

pub returns-clause-within : goal.returns-clause-within
returns-clause-within c = c.requires.within c.args.place _ (slice_get-get_or c.args.keys.now c.args.place _ c.requires.place)
