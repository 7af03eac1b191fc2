use Rattle.fd_contents.proofs.Askable.{cubes_read}
use Rattle.fd_contents.proofs.telling.lines_of_keys.Goals as goal

pub returns : goal.returns
returns c = cubes_read c.args.keys.now c.in_ok-found.found.items c.deref.result.now c.lines_of.result c.deref.ensures.value c.in_ok-found.ensures.keys c.in_ok-found.ensures.joined c.in_ok-found.ensures.each c.lines_of.ensures.same c.lines_of.ensures.sorted
