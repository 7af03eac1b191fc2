use Rattle.fd_trial.proofs.Making.{one_made}
use Rattle.fd_trial.proofs.made.MadeMessages.make.Goals as goal

pub returns-clause-left : goal.returns-clause-left
returns-clause-left c =
    let s = c.args.self.now in
    one_made c.in_ok-message.message.items s.message.items s.at s.next s.rest c.requires.given c.requires.more c.in_ok-message.ensures.octets
