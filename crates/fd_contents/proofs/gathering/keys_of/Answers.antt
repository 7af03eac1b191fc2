use Rattle.fd_contents.proofs.Gathered.{if_ok, open_finds}
use Rattle.fd_contents.proofs.gathering.keys_of.Goals as goal

pub returns-clause-found : goal.returns-clause-found
returns-clause-found g c = if_ok (λ f by. open_finds c.args.partial.now c.args.dataset.now c.snapshot.result.now c.name.result.now c.args.found f c.snapshot.ensures c.name.ensures by) c.found_in.result c.found_in.ensures.found
