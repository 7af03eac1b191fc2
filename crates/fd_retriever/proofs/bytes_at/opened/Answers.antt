use Rattle.fd_retriever.proofs.bytes_at.opened.Goals as goal

pub returns-in-Some-clause-files : goal.returns-in-Some-clause-files
returns-in-Some-clause-files g c = c.requires.those c.in-Some.lens.files c.in-Some.ensures.files
