use Rattle.fd_contents.proofs.commands.axes.Goals as goal

pub returns-clause-lists : goal.returns-clause-lists
returns-clause-lists g c = c.listed.ensures.lists
