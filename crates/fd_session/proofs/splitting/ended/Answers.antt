use Rattle.fd_session.proofs.splitting.ended.Goals as goal

pub returns-in-Ok : goal.returns-in-Ok
returns-in-Ok c = λ octets h. let s = c.in-Ok.ensures octets c.args.messages h in (s.0, s.1, s.2, h.each)
