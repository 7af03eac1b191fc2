use Rattle.fd_archiver.proofs.archiver.Archiver.sealed.Goals as goal

pub returns-in_err-make_next-clause-next : goal.returns-in_err-make_next-clause-next
returns-in_err-make_next-clause-next g c = λ waits. absurd (cc (waits, c.in_err-make_next.ensures.none))
