use Rattle.fd_retrieve.proofs.LocatingLemmas.{noted_at}
use Rattle.fd_retrieve.proofs.locating.note_number.Goals as goal

pub returns : goal.returns
returns c = noted_at c.args.noted.now c.insert.new.self c.args.name.now c.in_ok-text.text c.args.number c.in_ok-text.ensures.ok c.in_ok-insert.ensures.updates
